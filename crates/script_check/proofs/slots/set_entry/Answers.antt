use Rattle.std.proofs.Common.{◌≡◌, ℕ, ◌-◌, ◌+◌, ◌≤◌, List, [], ◌∷◌, ◌++◌, length, max, replicate, ap, ◌∙◌, append_assoc, length-append, arith}
use Rattle.std.proofs.lemmas.List.{replicate_more}
use Rattle.script_check.specs.Slots.{with_entry}
use Rattle.script_check.proofs.slots.set_entry.Goals as goal

-- one zero more
one_zero : (old table next : List ℕ) → length old ≤ length table → next ≡ table ++ 0 ∷ [] → table ≡ old ++ replicate (length table - length old) 0 → next ≡ old ++ replicate (length next - length old) 0
one_zero old table next h is e =
    let longer : length next ≡ length table + 1 = ap length is ∙ length-append table (0 ∷ []) in
    is ∙ ap (λ t. t ++ 0 ∷ []) e ∙ append_assoc old (replicate (length table - length old) 0) (0 ∷ [])
    ∙ ap (λ z. old ++ z) (replicate_more (length table - length old) 0 ∙ ap (λ n. replicate n 0) (omega (arith, h, longer)))

-- the entry after them
all_put : (old table next : List ℕ) (at slot : ℕ) → length old ≤ length table → length table ≤ max (length old) at → at ≤ length table →
    table ≡ old ++ replicate (length table - length old) 0 → next ≡ table ++ slot ∷ [] → next ≡ with_entry old at slot
all_put old table next at slot h w a e is = is ∙ ap (λ t. t ++ slot ∷ []) (e ∙ ap (λ n. old ++ replicate n 0) (omega (arith, h, w, a)))

pub loop-table-preserved : goal.loop-table-preserved
loop-table-preserved c =
    let old = c.args.table.now.items in
    let table = c.loop-table.table.items in
    let next = c.push.new.self.items in
    let is : next ≡ table ++ 0 ∷ [] = c.in_ok-push.ensures.items in
    let long : length next ≡ length table + 1 = ap length is ∙ length-append table (0 ∷ []) in
    record {
      zeros = one_zero old table next c.loop-table.invariant.longer is c.loop-table.invariant.zeros;
      longer = omega (arith, long, c.loop-table.invariant.longer);
      within = omega (arith, long, c.loop-table.invariant.within);
    }

pub returns : goal.returns
returns c =
    all_put c.args.table.now.items c.loop-table.table.items c.push-2.new.self.items c.args.at c.args.slot c.loop-table.invariant.longer c.loop-table.invariant.within (omega arith) c.loop-table.invariant.zeros
    c.in_ok-push-2.ensures.items
