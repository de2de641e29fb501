-- A loop's task whose parts gave values ends as what is left of the loop does.
use Rattle.std.proofs.Common.{◌≡◌, ℕ, ◌+◌, ◌-◌, ◌≤◌, List, [], ◌∷◌, ◌++◌, Option, None, Result, Ok, Err, refl, sym, ap, ◌∙◌}
use Rattle.std.proofs.Common.{ℤ}
use Rattle.loop_range.specs.Range.{Range}
use Rattle.serial_meaning.specs.Runs.{done, after_items, ◌then◌}
use Rattle.serial_meaning.specs.Eval.{Evaluation, loop_evaluation, eval}
use Rattle.serial_meaning.specs.Laws.{raising_pedigrees}
use Rattle.serial_meaning.proofs.RisingPedigrees.Rising.{Below, Rising}
use Rattle.serial_meaning.proofs.RisingPedigrees.RisingExec.{turns-rise, eval-rises}
use Rattle.serial_meaning.specs.declared.value.Value.{Value}
use Rattle.serial_meaning.specs.declared.event.Fault.{Fault}
use Rattle.serial_meaning.specs.declared.origin.Origin.{Origin}
use Rattle.serial_meaning.specs.declared.origin.Origin.TheVariants.{Loop}
use Rattle.strand_meaning.specs.Trace.{AwaitedChild, Trace}
use Rattle.strand_meaning.specs.Task.{Remaining, Splits, Task, more_values}
use Rattle.strand_meaning.specs.Rest.{GaveValue, GaveValues, prefix_run, awaited_run, iterations_left, remaining_run}
use Rattle.strand_meaning.specs.Sound.{IsTask}
use Rattle.strand_meaning.proofs.SoundSteps.ChildrenCloseNodes.{after-then}
use Rattle.strand_meaning.proofs.SoundSteps.Finishing.{so_far}

-- where children gave values, how what is after them ends
parts-end : (child : Origin → Evaluation) (ps : List AwaitedChild) (values : List Value) (tail : List Value → Evaluation) → GaveValues child ps →
    (vs : List Value) × ((awaited_run child ps values then tail).ending ≡ (tail vs).ending)
parts-end child [] values tail gave = (values, refl)
parts-end child (p ∷ ps) values tail gave = by_end (child p.child).ending gave.0 (λ vs. parts-end child ps (more_values p.destination (Ok vs) values) tail gave.1)
  where
    rest : List Value → Evaluation
    rest vs = awaited_run child ps (more_values p.destination (Ok vs) values)

    with_end : Result (List Value) Fault → Evaluation
    with_end e = record { items = (child p.child).items; ending = e } then λ vs. after_items p.after (rest vs)

    by_end : (e : Result (List Value) Fault) → GaveValue e → ((vs : List Value) → (us : List Value) × ((rest vs then tail).ending ≡ (tail us).ending)) →
        (us : List Value) × ((with_end e then tail).ending ≡ (tail us).ending)
    by_end (Err f) g later = absurd g
    by_end (Ok vs) g later =
        let end = later vs in
        (end.0, ap (λ (r : Evaluation). r.ending) (after-then (child p.child).items (after_items p.after (rest vs)) tail ∙ ap (after_items (child p.child).items) (after-then p.after (rest vs) tail)) ∙ end.1)

so_far-end : (child : Origin → Evaluation) (trace : Trace) (values : List Value) (tail : List Value → Evaluation) → trace.fault ≡ None → GaveValues child trace.unmerged →
    (vs : List Value) × ((so_far child trace values tail).ending ≡ (tail vs).ending)
so_far-end child trace values tail none gave =
    let end = parts-end child trace.unmerged values tail gave in
    (end.0, ap (λ (f : Option Fault). (prefix_run (record trace { fault = f }) then λ u. awaited_run child trace.unmerged values then tail).ending) none ∙ end.1)

same-fault : (f g : Fault) → ◌≡◌ {A = Result (List Value) Fault} (Err g) (Err f) → g ≡ f
same-fault f g e = ap fault_or e
  where
    fault_or : Result (List Value) Fault → Fault
    fault_or (Ok vs) = f
    fault_or (Err x) = x

-- It ends by no fault before the first iteration left.
pub ends-later : (t : Task) → IsTask t → t.trace.fault ≡ None → GaveValues (eval t.plan) t.trace.unmerged → (function : ℕ) (rest : List Value) (first : ℤ) (path : List ℕ) (range left : Range) →
    t.origin ≡ Loop function rest first path range → t.remaining ≡ Splits left → (f : Fault) → (eval t.plan (Loop function rest first path range)).ending ≡ Err f →
    (k : ℕ) × (more : List ℕ) × (f.at ≡ path ++ k ∷ more) × (left.lo ≤ k)
ends-later t is none gave function rest first path range left loop at f e = by_end r.ending rises.below ends
  where
    r : Evaluation
    r = loop_evaluation (eval t.plan) function rest first path left.lo (left.hi - left.lo)

    rises : Rising path (λ (vs : List Value). left.lo + (left.hi - left.lo)) left.lo r
    rises = turns-rise t.plan (eval t.plan) (eval-rises t.plan) path function rest first left.lo (left.hi - left.lo)

    so : (vs : List Value) × ((so_far (eval t.plan) t.trace t.values (remaining_run t.plan t.origin t.trace.unmerged t.remaining)).ending ≡ (remaining_run t.plan t.origin t.trace.unmerged t.remaining vs).ending)
    so = so_far-end (eval t.plan) t.trace t.values (remaining_run t.plan t.origin t.trace.unmerged t.remaining) none gave

    after : Result (List Value) Fault → Evaluation
    after q = record { items = r.items; ending = q } then λ us. done (so.0 ++ us)

    ends : (after r.ending).ending ≡ Err f
    ends =
        sym (ap (λ (w : Remaining). (remaining_run t.plan t.origin t.trace.unmerged w so.0).ending) at ∙ ap (λ (o : Origin). (iterations_left (eval t.plan) o left then λ us. done (so.0 ++ us)).ending) loop)
        ∙ sym so.1 ∙ ap (λ (q : Evaluation). q.ending) is.finishes ∙ ap (λ (o : Origin). (eval t.plan o).ending) loop ∙ e

    by_end : (q : Result (List Value) Fault) → Below path (λ (vs : List Value). left.lo + (left.hi - left.lo)) left.lo rises.hi (raising_pedigrees r.items) q → (after q).ending ≡ Err f →
        (k : ℕ) × (more : List ℕ) × (f.at ≡ path ++ k ∷ more) × (left.lo ≤ k)
    by_end (Ok vs) b h = absurd (cc)
    by_end (Err g) b h = (b.0, b.1, sym (ap (λ (x : Fault). x.at) (same-fault f g h)) ∙ b.2, b.3)
