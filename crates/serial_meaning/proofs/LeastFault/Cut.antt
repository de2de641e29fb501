-- The elision is the open tree with each child's run in its place, cut at the first child that faults.
use Rattle.std.proofs.Common.{◌≡◌, List, [], ◌∷◌, ◌++◌, Option, Some, None, Result, Ok, Err, refl, sym, ap, ◌∙◌, append_assoc, subst}
use Rattle.serial_meaning.specs.Runs.{Run, after_items, continued, ◌then◌}
use Rattle.serial_meaning.specs.Eval.{Evaluation}
use Rattle.serial_meaning.specs.Open.{Item, Happened, Child, Opened, Closed, NodeFault, Own, ChildFaulted}
use Rattle.serial_meaning.specs.declared.value.Value.{Value}
use Rattle.serial_meaning.specs.declared.event.Fault.{Fault}
use Rattle.serial_meaning.specs.declared.event.Event.{Event}
use Rattle.serial_meaning.specs.declared.origin.Origin.{Origin}

-- events, and the fault that cuts them off
pub record Prefix : Type 0 where
  pub events : List Event
  pub cut_by : Option Fault

abbrev pub before : List Event → Prefix → Prefix
before es p = record { events = es ++ p.events; cut_by = p.cut_by }

abbrev pub child_first : List Event → Result (List Value) Fault → Prefix → Prefix
child_first es (Ok vs) p = before es p
child_first es (Err f) p = record { events = es; cut_by = Some f }

module _ (child : Origin → Evaluation) where
  abbrev pub cut : List Item → Prefix
  cut [] = record { events = []; cut_by = None }
  cut (Happened e ∷ is) = before (e ∷ []) (cut is)
  cut (Child o ∷ is) = child_first (child o).items (child o).ending (cut is)
  cut (Opened j ∷ is) = cut is
  cut (Closed j ∷ is) = cut is

  -- what follows a prefix
  abbrev pub followed : Prefix → Option Fault → Prefix → Prefix
  followed p None q = before p.events q
  followed p (Some f) q = p

  pub cut-append : (is js : List Item) → cut (is ++ js) ≡ followed (cut is) (cut is).cut_by (cut js)
  cut-append [] js = refl
  cut-append (Happened e ∷ is) js = ap (before (e ∷ [])) (cut-append is js) ∙ from (cut is) (cut is).cut_by
    where
      from : (p : Prefix) (c : Option Fault) → before (e ∷ []) (followed p c (cut js)) ≡ followed (before (e ∷ []) p) c (cut js)
      from p None = refl
      from p (Some f) = refl
  cut-append (Child o ∷ is) js = ap (child_first (child o).items (child o).ending) (cut-append is js) ∙ from (child o).ending
    where
      inner : (p : Prefix) (c : Option Fault) → before (child o).items (followed p c (cut js)) ≡ followed (before (child o).items p) c (cut js)
      inner p None = ap (λ l. record { events = l; cut_by = (cut js).cut_by }) (sym (append_assoc (child o).items p.events (cut js).events))
      inner p (Some f) = refl

      from : (q : Result (List Value) Fault) → child_first (child o).items q (followed (cut is) (cut is).cut_by (cut js)) ≡ followed (child_first (child o).items q (cut is)) (child_first (child o).items q (cut is)).cut_by (cut js)
      from (Ok vs) = inner (cut is) (cut is).cut_by
      from (Err f) = refl
  cut-append (Opened j ∷ is) js = cut-append is js
  cut-append (Closed j ∷ is) js = cut-append is js

  abbrev pub Matches : {A B : Type 0} → (A → B) → List Event → Option Fault → Run Event Fault A → Result B NodeFault → Type 0
  Matches lift es (Some f) r e = r ≡ record { items = es; ending = Err f }
  Matches {A} lift es None r (Ok b) = (a : A) × (b ≡ lift a) × (r ≡ record { items = es; ending = Ok a })
  Matches lift es None r (Err (Own f)) = r ≡ record { items = es; ending = Err f }
  Matches lift es None r (Err (ChildFaulted f)) = ⊥

  -- r is what the open run q is, cut at its first child that faults
  abbrev pub Cuts : {A B : Type 0} → (A → B) → Run Event Fault A → Run Item NodeFault B → Type 0
  Cuts lift r q = Matches lift (cut q.items).events (cut q.items).cut_by r q.ending

  matches-front : {C D : Type 0} (lift : C → D) (xs es : List Event) (c : Option Fault) (r : Run Event Fault C) (e : Result D NodeFault) → Matches lift es c r e → Matches lift (xs ++ es) c (after_items xs r) e
  matches-front lift xs es (Some f) r e h = ap (after_items xs) h
  matches-front lift xs es None r (Ok d) h = (h.0, h.1, ap (after_items xs) h.2)
  matches-front lift xs es None r (Err (Own f)) h = ap (after_items xs) h
  matches-front lift xs es None r (Err (ChildFaulted f)) h = h

  module _ {A B C D : Type 0} (lift : A → B) (lift' : C → D) (f : A → Run Event Fault C) (g : B → Run Item NodeFault D) (k : (a : A) → Cuts lift' (f a) (g (lift a))) where
    at_value : (b : B) (a : A) → b ≡ lift a → Cuts lift' (f a) (g b)
    at_value b a e = subst (λ (z : B). Cuts lift' (f a) (g z)) (sym e) (k a)

    after_ok : (r : Run Event Fault A) (b : B) (es : List Event) (c : Option Fault) → Matches lift es c r (Ok b) →
        Matches lift' (followed (record { events = es; cut_by = c }) c (cut (g b).items)).events (followed (record { events = es; cut_by = c }) c (cut (g b).items)).cut_by (r then f) (g b).ending
    after_ok r b es (Some x) h = ap (λ q. q then f) h
    after_ok r b es None h =
        let m : Matches lift' (es ++ (cut (g b).items).events) (cut (g b).items).cut_by (after_items es (f h.0)) (g b).ending = matches-front lift' es (cut (g b).items).events (cut (g b).items).cut_by (f h.0) (g b).ending (at_value b h.0 h.1) in subst (λ (q : Run Event Fault C). Matches lift' (es ++ (cut (g b).items).events) (cut (g b).items).cut_by q (g b).ending) (sym (ap (λ q. q then f) h.2)) m

    after_err : (r : Run Event Fault A) (x : NodeFault) (es : List Event) (c : Option Fault) → Matches lift es c r (Err x) → Matches lift' es c (r then f) (Err x)
    after_err r x es (Some y) h = ap (λ q. q then f) h
    after_err r (Own y) es None h = ap (λ q. q then f) h
    after_err r (ChildFaulted y) es None h = h

    from_parts : (r : Run Event Fault A) (items : List Item) (e : Result B NodeFault) → Matches lift (cut items).events (cut items).cut_by r e → Cuts lift' (r then f) (continued items e g)
    from_parts r items (Ok b) h =
        subst (λ (p : Prefix). Matches lift' p.events p.cut_by (r then f) (g b).ending) (sym (cut-append items (g b).items)) (after_ok r b (cut items).events (cut items).cut_by h)
    from_parts r items (Err x) h = after_err r x (cut items).events (cut items).cut_by h

    -- one after the other
    pub cuts-then : (r : Run Event Fault A) (q : Run Item NodeFault B) → Cuts lift r q → Cuts lift' (r then f) (q then g)
    cuts-then r q h = from_parts r q.items q.ending h
