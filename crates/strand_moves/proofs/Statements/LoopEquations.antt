-- What a parallel loop does, once its statement is paid.
use Rattle.std.proofs.Common.{◌≡◌, ℕ, zero, suc, ◌+◌, ◌-◌, ◌<◌, Bool, true, false, nat_lt, List, [], ◌∷◌, ◌++◌, Option, Ok, Err, refl, ap, ◌∙◌, arith}
use Rattle.std.proofs.Common.{◌-ℤ◌}
use Rattle.script_grammar.specs.declared.tree.Name.{Name}
use Rattle.script_grammar.specs.declared.tree.Expr.{Expr}
use Rattle.script_grammar.specs.declared.tree.CallText.{CallText}
use Rattle.script_grammar.specs.declared.tree.Stmt.{Stmt}
use Rattle.script_grammar.specs.declared.tree.Act.TheOpen as act
use Rattle.serial_meaning.specs.Values.{value_of, values_of, as_integer}
use Rattle.serial_meaning.specs.Functions.{function_number}
use Rattle.serial_meaning.specs.Plan.{PlanView, functions_of}
use Rattle.serial_meaning.specs.Exec.{count_of, has_room, with_loop_values, loop_fits}
use Rattle.serial_meaning.specs.Open.{is_zero}
use Rattle.serial_meaning.specs.declared.value.Value.{Value}
use Rattle.serial_meaning.specs.declared.event.FaultKind.{FaultKind}
use Rattle.serial_meaning.specs.declared.event.FaultKind.TheVariants.{Index, Depth, Budget}
use Rattle.serial_meaning.specs.declared.event.Event.TheVariants as event
use Rattle.serial_meaning.specs.declared.origin.Origin.{Origin}
use Rattle.serial_meaning.specs.declared.origin.Origin.TheVariants as origin
use Rattle.strand_meaning.specs.Machine.{Looped, Emitted, Starts, Loops, Machine, loop_effects}
use Rattle.strand_moves.specs.Acts.{loop_begins}
use Rattle.strand_moves.specs.Moves.{acted}
use Rattle.strand_moves.proofs.Statements.Equations.{moved, faults}

module _ (plan : PlanView) (path : List ℕ) (m : Machine) (st : Stmt) (var : Name) (lo hi : Expr) (target : Option Name) (c : CallText) where
  pub pfor-lo-fault : (kind : FaultKind) → value_of lo m.top.env ≡ Err kind → acted plan path m st (act.Pfor var lo hi target c) ≡ faults kind (path ++ m.rank ∷ [])
  unfolding acted
  pfor-lo-fault kind f = rw f refl

  pub pfor-hi-fault : (l : Value) (kind : FaultKind) → value_of lo m.top.env ≡ Ok l → value_of hi m.top.env ≡ Err kind → acted plan path m st (act.Pfor var lo hi target c) ≡ faults kind (path ++ m.rank ∷ [])
  unfolding acted
  pfor-hi-fault l kind f g = rw (f, g) refl

  pub pfor-args-fault : (l h : Value) (kind : FaultKind) → value_of lo m.top.env ≡ Ok l → value_of hi m.top.env ≡ Ok h → values_of c.args m.top.env ≡ Err kind →
      acted plan path m st (act.Pfor var lo hi target c) ≡ faults kind (path ++ m.rank ∷ [])
  unfolding acted
  pfor-args-fault l h kind f g j = rw (f, g, j) refl

  -- where the bounds and the arguments are known
  module _ (l h : Value) (vs : List Value) (n : ℕ) (known-lo : value_of lo m.top.env ≡ Ok l) (known-hi : value_of hi m.top.env ≡ Ok h) (known-args : values_of c.args m.top.env ≡ Ok vs)
      (counted : n ≡ count_of (as_integer h -ℤ as_integer l)) where
    abbrev pub range_child : Origin
    range_child = origin.Loop (function_number (functions_of plan) c.name.bytes) vs (as_integer l) (path ++ m.rank ∷ []) (record { lo = 0; hi = n })

    -- a loop whose steps there are, whose target has room, and whose pedigrees are short enough
    abbrev pub looped_on : Machine
    looped_on = record m { rank = m.rank + 1; steps = m.steps - n; top = record m.top { env = with_loop_values target [] m.top.env } }

    on-budget : nat_lt n (m.steps + 1) ≡ false → acted plan path m st (act.Pfor var lo hi target c) ≡ faults Budget (path ++ m.rank ∷ [])
    unfolding acted
    on-budget f = rw (known-lo, known-hi, known-args, ← counted, f) refl

    on-room : nat_lt n (m.steps + 1) ≡ true → has_room target n m.top.env ≡ false → acted plan path m st (act.Pfor var lo hi target c) ≡ faults Index (path ++ m.rank ∷ [])
    unfolding acted
    on-room f g = rw (known-lo, known-hi, known-args, ← counted, f, g) refl

    on-depth : nat_lt n (m.steps + 1) ≡ true → has_room target n m.top.env ≡ true → loop_fits plan path n ≡ false →
        acted plan path m st (act.Pfor var lo hi target c) ≡ faults Depth (path ++ m.rank ∷ [])
    unfolding acted
    on-depth f g h = rw (known-lo, known-hi, known-args, ← counted, f, g, h) refl

    on-loop : (b : Bool) → nat_lt n (m.steps + 1) ≡ true → has_room target n m.top.env ≡ true → loop_fits plan path n ≡ true → is_zero (n - 0) ≡ b →
        acted plan path m st (act.Pfor var lo hi target c) ≡ moved (Emitted (event.Loop (path ++ m.rank ∷ [])) ∷ loop_effects b range_child (Looped target)) looped_on
    unfolding acted
    on-loop true f g h e = rw (known-lo, known-hi, known-args, ← counted, f, g, h, e) refl
    on-loop false f g h e = rw (known-lo, known-hi, known-args, ← counted, f, g, h, e) refl

    by_tests : (b1 b2 b3 : Bool) → nat_lt n (m.steps + 1) ≡ b1 → has_room target n m.top.env ≡ b2 → loop_fits plan path n ≡ b3 → (kind : FaultKind) →
        loop_begins plan path n target m.top.env m.steps ≡ Err kind → acted plan path m st (act.Pfor var lo hi target c) ≡ faults kind (path ++ m.rank ∷ [])
    by_tests false b2 b3 f g h kind e = let k = rw f at e in on-budget f ∙ ap (λ (x : FaultKind). faults x (path ++ m.rank ∷ [])) (cc)
    by_tests true false b3 f g h kind e = let k = rw (f, g) at e in on-room f g ∙ ap (λ (x : FaultKind). faults x (path ++ m.rank ∷ [])) (cc)
    by_tests true true false f g h kind e = let k = rw (f, g, h) at e in on-depth f g h ∙ ap (λ (x : FaultKind). faults x (path ++ m.rank ∷ [])) (cc)
    by_tests true true true f g h kind e = let k = rw (f, g, h) at e in absurd (cc)

    pub pfor-fault : (kind : FaultKind) → loop_begins plan path n target m.top.env m.steps ≡ Err kind → acted plan path m st (act.Pfor var lo hi target c) ≡ faults kind (path ++ m.rank ∷ [])
    pfor-fault = by_tests (nat_lt n (m.steps + 1)) (has_room target n m.top.env) (loop_fits plan path n) refl refl refl

    by_begun : (b1 b2 b3 b : Bool) → nat_lt n (m.steps + 1) ≡ b1 → has_room target n m.top.env ≡ b2 → loop_fits plan path n ≡ b3 → is_zero (n - 0) ≡ b →
        loop_begins plan path n target m.top.env m.steps ≡ Ok tt →
        acted plan path m st (act.Pfor var lo hi target c) ≡ moved (Emitted (event.Loop (path ++ m.rank ∷ [])) ∷ loop_effects b range_child (Looped target)) looped_on
    by_begun false b2 b3 b f g h i e = let k = rw f at e in absurd (cc)
    by_begun true false b3 b f g h i e = let k = rw (f, g) at e in absurd (cc)
    by_begun true true false b f g h i e = let k = rw (f, g, h) at e in absurd (cc)
    by_begun true true true b f g h i e = on-loop b f g h i

    by_count : (b : Bool) → is_zero (n - 0) ≡ b → loop_begins plan path n target m.top.env m.steps ≡ Ok tt →
        acted plan path m st (act.Pfor var lo hi target c) ≡ moved (Emitted (event.Loop (path ++ m.rank ∷ [])) ∷ loop_effects b range_child (Looped target)) looped_on
    by_count b i = by_begun (nat_lt n (m.steps + 1)) (has_room target n m.top.env) (loop_fits plan path n) b refl refl refl i

    pub pfor-none : n ≡ 0 → loop_begins plan path n target m.top.env m.steps ≡ Ok tt →
        acted plan path m st (act.Pfor var lo hi target c) ≡ moved (Emitted (event.Loop (path ++ m.rank ∷ [])) ∷ []) looped_on
    pfor-none z = by_count true (rw z refl)

    some-count : (k : ℕ) → 0 < k → is_zero k ≡ false
    some-count zero h = absurd (omega arith)
    some-count (suc k) h = refl

    pub pfor-some : 0 < n → loop_begins plan path n target m.top.env m.steps ≡ Ok tt →
        acted plan path m st (act.Pfor var lo hi target c) ≡ moved (Emitted (event.Loop (path ++ m.rank ∷ [])) ∷ Starts range_child (Looped target) ∷ Loops ∷ []) looped_on
    pfor-some z = by_count false (some-count (n - 0) (omega arith))
