-- An open run with its children's evaluations in their places.
use Rattle.std.proofs.Common.{◌≡◌, List, [], ◌∷◌, ◌++◌, Option, Some, None, Result, Ok, Err, refl, sym, ap, ◌∙◌}
use Rattle.serial_meaning.specs.Runs.{Run, done, after_items, continued, ◌then◌}
use Rattle.serial_meaning.specs.Plan.{PlanView}
use Rattle.serial_meaning.specs.Eval.{Evaluation, eval}
use Rattle.serial_meaning.specs.Open.{Item, Happened, Child, Opened, Closed, NodeFault, Own, ChildFaulted, node_of}
use Rattle.serial_meaning.proofs.Equations.RunLaws.{goes_on-after, then-then}
use Rattle.serial_meaning.proofs.LeastFault.Cut.{Matches, cut, child_first}
use Rattle.serial_meaning.proofs.LeastFault.Sim.{eval-cuts}
use Rattle.serial_meaning.specs.declared.value.Value.{Value}
use Rattle.serial_meaning.specs.declared.event.Fault.{Fault}
use Rattle.serial_meaning.specs.declared.event.Event.{Event}
use Rattle.serial_meaning.specs.declared.origin.Origin.{Origin}
use Rattle.strand_meaning.specs.Rest.{children_of, closed_end, closed_at, closed_run}

pub after-then : {I E A B : Type 0} (xs : List I) (r : Run I E A) (f : A → Run I E B) → (after_items xs r then f) ≡ after_items xs (r then f)
after-then xs r f = goes_on-after xs r.items r.ending f

module _ (child : Origin → Evaluation) where
  -- a prefix and how it ends
  abbrev ends_by : {A : Type 0} → List Event → Option Fault → Result A NodeFault → Run Event Fault A
  ends_by es (Some f) e = record { items = es; ending = Err f }
  ends_by es None e = record { items = es; ending = closed_end child e }

  closed-cut : {A : Type 0} (items : List Item) (e : Result A NodeFault) → closed_at child items e ≡ ends_by (cut child items).events (cut child items).cut_by e
  closed-cut {A} [] e = refl
  closed-cut {A} (Happened x ∷ items) e = ap (after_items (x ∷ [])) (closed-cut items e) ∙ from (cut child items).events (cut child items).cut_by
    where
      from : (es : List Event) (c : Option Fault) → after_items (x ∷ []) (ends_by es c e) ≡ ends_by (x ∷ es) c e
      from es (Some f) = refl
      from es None = refl
  closed-cut {A} (Child o ∷ items) e = by_end (closed-cut items e) (child o).ending
    where
      from : (es : List Event) (c : Option Fault) → after_items (child o).items (ends_by es c e) ≡ ends_by ((child o).items ++ es) c e
      from es (Some f) = refl
      from es None = refl

      by_end : closed_at child items e ≡ ends_by (cut child items).events (cut child items).cut_by e → (q : Result (List Value) Fault) → continued (child o).items q (λ vs. closed_at child items e) ≡ ends_by (child_first (child o).items q (cut child items)).events (child_first (child o).items q (cut child items)).cut_by e
      by_end ih (Ok vs) = ap (after_items (child o).items) ih ∙ from (cut child items).events (cut child items).cut_by
      by_end ih (Err f) = refl
  closed-cut {A} (Opened j ∷ items) e = closed-cut items e
  closed-cut {A} (Closed j ∷ items) e = closed-cut items e

  matches-ends : {A : Type 0} (es : List Event) (c : Option Fault) (r : Run Event Fault A) (e : Result A NodeFault) → Matches child (λ (a : A). a) es c r e → r ≡ ends_by es c e
  matches-ends es (Some f) r e h = h
  matches-ends es None r (Ok b) h = h.2 ∙ ap (λ a. record { items = es; ending = Ok a }) (sym h.1)
  matches-ends es None r (Err (Own f)) h = h
  matches-ends es None r (Err (ChildFaulted f)) h = absurd h

  pub closed-then : {A B : Type 0} (r : Run Item NodeFault A) (f : A → B) → closed_run child (r then λ a. done (f a)) ≡ (closed_run child r then λ a. done (f a))
  closed-then {A} {B} r f = by_end r.items r.ending
    where
      by_items : (items : List Item) (a : A) → closed_at child (items ++ []) (Ok (f a)) ≡ (closed_at child items (Ok a) then λ a. done (f a))
      by_items [] a = refl
      by_items (Happened e ∷ items) a = ap (after_items (e ∷ [])) (by_items items a) ∙ sym (after-then (e ∷ []) (closed_at child items (Ok a)) (λ a. done (f a)))
      by_items (Child o ∷ items) a =
          ap (λ (r : Run Event Fault B). child o then λ vs. r) (by_items items a) ∙ sym (then-then (child o) (λ vs. closed_at child items (Ok a)) (λ a. done (f a)))
      by_items (Opened j ∷ items) a = by_items items a
      by_items (Closed j ∷ items) a = by_items items a

      by_fault : (items : List Item) (e : NodeFault) → closed_at child items (Err e) ≡ (closed_at child items (Err e) then λ a. done (f a))
      by_fault [] (Own g) = refl
      by_fault [] (ChildFaulted g) = refl
      by_fault (Happened x ∷ items) e = ap (after_items (x ∷ [])) (by_fault items e) ∙ sym (after-then (x ∷ []) (closed_at child items (Err e)) (λ (a : A). done (f a)))
      by_fault (Child o ∷ items) e =
          ap (λ (r : Run Event Fault B). child o then λ vs. r) (by_fault items e) ∙ sym (then-then (child o) (λ vs. closed_at child items (Err e)) (λ (a : A). done (f a)))
      by_fault (Opened j ∷ items) e = by_fault items e
      by_fault (Closed j ∷ items) e = by_fault items e

      by_end : (items : List Item) (e : Result A NodeFault) → closed_run child (continued items e (λ a. done (f a))) ≡ (closed_at child items e then λ a. done (f a))
      by_end items (Ok a) = by_items items a
      by_end items (Err e) = by_fault items e

-- The evaluation of an origin is its node with its children's evaluations in their places.
pub eval-closed : (plan : PlanView) (o : Origin) → eval plan o ≡ closed_run (children_of plan o) (node_of plan o)
eval-closed plan o =
    let child : Origin → Evaluation = children_of plan o in
    let n = node_of plan o in
    matches-ends child (cut child n.items).events (cut child n.items).cut_by (eval plan o) n.ending (eval-cuts plan o) ∙ sym (closed-cut child n.items n.ending)
