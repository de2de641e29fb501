-- The plan has the function that is called by a name, if the plan's table has its number.
use Rattle.std.proofs.Common.{◌≡◌, ℕ, suc, Bool, true, false, cond, List, [], ◌∷◌, Option, Some, None, option_map, slice_get, refl, ◌∙◌}
use Rattle.std.specs.Str.{bytes_eq}
use Rattle.script_check.proofs.Tables.SlotIndex.{slot-cons}
use Rattle.script_check.specs.Slots.{agree, function_names, slot_in, table_of_callees}
use Rattle.script_grammar.specs.declared.tree.Function.{Function}
use Rattle.script_grammar.specs.declared.tree.Name.{Name}
use Rattle.serial_meaning.specs.Functions.{function_at, function_number}
use Rattle.serial_meaning.specs.Plan.{PlanView, functions_of}
use Rattle.strand_moves.specs.Found.{FindsCallee}

-- a name that is no function's is found nowhere
none-named : (fs : List Function) (name : List ℕ) → function_at fs (function_number fs name) ≡ None → slot_in (function_names fs) name ≡ None
none-named [] name e = refl
none-named (f ∷ fs) name e = slot-cons f.name.bytes (function_names fs) name ∙ pick (bytes_eq f.name.bytes name) (function_number fs name) (slot_in (function_names fs) name) (none-named fs name) e
  where
    pick : (b : Bool) (n : ℕ) (o : Option ℕ) → (function_at fs n ≡ None → o ≡ None) → function_at (f ∷ fs) (cond b 0 (suc n)) ≡ None → cond b (Some 0) (option_map suc o) ≡ None
    pick true n o rest e = absurd (cc)
    pick false n o rest e = rw (rest e) refl

none-agrees : (i j : Option ℕ) → j ≡ None → agree i j ≡ true → ⊥
none-agrees None j e h = absurd (cc)
none-agrees (Some i) None e h = absurd (cc)
none-agrees (Some i) (Some j) e h = absurd (cc)

pub callee-there : (plan : PlanView) (x : Name) → FindsCallee plan x → function_at (functions_of plan) (function_number (functions_of plan) x.bytes) ≡ None → ⊥
callee-there plan x found none =
    let fs = functions_of plan in
    none-agrees (slice_get (table_of_callees fs) x.at) (slot_in (function_names fs) x.bytes) (none-named fs x.bytes none) found
