-- What holds of the origins that were begun once one of them is answered.
use Rattle.std.proofs.Common.{◌≡◌, ℕ, zero, suc, ◌+◌, ◌-◌, ◌⊎◌, inl, inr, List, [], ◌∷◌, ◌++◌, Option, Some, None, Contains, slice_get, slice_set, refl, sym, ap, ◌∙◌, subst, arith}
use Rattle.std.proofs.lemmas.List.Elements.{Contains-append_left, Contains-push_cases}
use Rattle.serial_meaning.specs.Answer.{AnswerView}
use Rattle.serial_meaning.specs.Plan.{PlanView}
use Rattle.serial_meaning.specs.declared.origin.Origin.{Origin}
use Rattle.sched_meaning.proofs.OneCore.OneStep.{some-one}
use Rattle.sched_core.specs.Cores.{origins_of}
use Rattle.sched_core.specs.Nodes.{child_answered, missing, missing_one}
use Rattle.sched_core.specs.Consistent.{AreNodes, IsAwaited, IsChild, IsGiven, IsAnsweredBy, IsLinked, IsNode}
use Rattle.sched_core.specs.declared.node.NodeChild.{NodeChild}
use Rattle.sched_core.specs.declared.node.Link.{Link}
use Rattle.sched_core.specs.declared.node.SpawnNode.{SpawnNode}
use Rattle.sched_core.proofs.Worked.Lists.{get-other, get-set, map-set-same, same-or, set-or}

-- an answer that was given stays given
pub given-more : (plan : PlanView) (given : List Origin) (o p : Origin) (a : Option AnswerView) → (p ≡ o → ⊥) → IsAnsweredBy plan given o a → IsAnsweredBy plan (given ++ p ∷ []) o a
given-more plan given o p None two h = λ c. refuse (Contains-push_cases given p o c)
  where
    refuse : Contains given o ⊎ (p ≡ o) → ⊥
    refuse (inl b) = h b
    refuse (inr e) = two e
given-more plan given o p (Some a) two h = record { plan_is = h.plan_is; origin = h.origin; known = h.known; there = Contains-append_left given (p ∷ []) o h.there }

missing-set : (cs : List NodeChild) (k : ℕ) (c d : NodeChild) → slice_get cs k ≡ Some c → missing_one c.answer ≡ 1 → missing_one d.answer ≡ 0 → missing (slice_set cs k d) + 1 ≡ missing cs
missing-set [] k c d h a b = absurd (cc)
missing-set (x ∷ cs) zero c d h a b = let e : missing_one x.answer ≡ missing_one c.answer = ap (λ (y : NodeChild). missing_one y.answer) (some-one x c h) in omega arith
missing-set (x ∷ cs) (suc k) c d h a b = let e : missing (slice_set cs k d) + 1 ≡ missing cs = missing-set cs k c d h a b in omega arith

-- The origin of number n is answered. Its node has a link to a parent, or it is main's.
module _ (plan : PlanView) (given : List Origin) (nodes : List SpawnNode) (all : AreNodes plan given nodes) (n : ℕ) (node : SpawnNode) (there : slice_get nodes n ≡ Some node) (fresh : Contains given node.origin → ⊥) where
  module _ (once : (j k : ℕ) (x y : SpawnNode) → slice_get nodes j ≡ Some x → slice_get nodes k ≡ Some y → x.origin ≡ y.origin → j ≡ k) where
    abbrev pub more : List Origin
    more = given ++ node.origin ∷ []

    -- a child of another number has its answer as before
    other-given : (c : NodeChild) (x : SpawnNode) → slice_get nodes c.number ≡ Some x → (c.number ≡ n → ⊥) → IsAnsweredBy plan given x.origin c.answer → IsAnsweredBy plan more x.origin c.answer
    other-given c x at two h = given-more plan given x.origin node.origin c.answer (λ e. two (sym (once n c.number node x there at e))) h

    module _ (l : Link) (linked : node.link ≡ Some l) (a : AnswerView) (is : IsGiven plan (given ++ node.origin ∷ []) node.origin a) where
      awaited : IsAwaited nodes n l
      awaited = subst (IsLinked nodes n) linked ((all n node there).link fresh)

      module _ (parent : SpawnNode) (at_parent : slice_get nodes l.parent ≡ Some parent) (child : NodeChild) (at : slice_get parent.children l.place ≡ Some child) where
        abbrev pub after : List SpawnNode
        after = slice_set nodes l.parent (child_answered l.place child a parent)

        parent-same : awaited.parent ≡ parent
        parent-same = some-one awaited.parent parent (sym awaited.there ∙ at_parent)

        child-same : awaited.child ≡ child
        child-same = some-one awaited.child child (sym awaited.at ∙ ap (λ (p : SpawnNode). slice_get p.children l.place) parent-same ∙ at)

        number : child.number ≡ n
        number = ap (λ (c : NodeChild). c.number) (sym child-same) ∙ awaited.number

        pub origins-after : origins_of after ≡ origins_of nodes
        origins-after = map-set-same (λ (x : SpawnNode). x.origin) nodes l.parent parent (child_answered l.place child a parent) at_parent refl

        -- the node of a number, once this one changed
        node-after : (k : ℕ) (x : SpawnNode) → slice_get nodes k ≡ Some x → (y : SpawnNode) × (slice_get after k ≡ Some y) × (y.origin ≡ x.origin) × (y.link ≡ x.link)
        node-after k x h = by_number (same-or k l.parent)
          where
            by_number : (k ≡ l.parent) ⊎ (k ≡ l.parent → ⊥) → (y : SpawnNode) × (slice_get after k ≡ Some y) × (y.origin ≡ x.origin) × (y.link ≡ x.link)
            by_number (inl e) =
                let same : parent ≡ x = some-one parent x (sym at_parent ∙ ap (λ m. slice_get nodes m) (sym e) ∙ h) in (
                  child_answered l.place child a parent,
                  ap (λ m. slice_get after m) e ∙ get-set nodes l.parent parent (child_answered l.place child a parent) at_parent,
                  ap (λ (y : SpawnNode). y.origin) same,
                  ap (λ (y : SpawnNode). y.link) same,
                )
            by_number (inr two) = (x, get-other nodes l.parent k (child_answered l.place child a parent) two ∙ h, refl, refl)

        child-after : (k place : ℕ) (c : NodeChild) → (ch : IsChild plan given nodes k place c) → IsAnsweredBy plan more ch.node.origin c.answer → IsChild plan more after k place c
        child-after k place c ch answer_given =
            let y = node-after c.number ch.node ch.there in
            record { node = y.0; there = y.1; link = y.3 ∙ ch.link; answer_given = subst (λ p. IsAnsweredBy plan more p c.answer) (sym y.2) answer_given }

        -- a child at another index has another number
        elsewhere : (k place : ℕ) (c : NodeChild) → IsChild plan given nodes k place c → ((k ≡ l.parent) × (place ≡ l.place) → ⊥) → c.number ≡ n → ⊥
        elsewhere k place c ch two e =
            let same : ch.node ≡ node = some-one ch.node node (sym ch.there ∙ ap (λ m. slice_get nodes m) e ∙ there) in
            let links : record { parent = k; place = place } ≡ l = some-one _ l (sym ch.link ∙ ap (λ (x : SpawnNode). x.link) same ∙ linked) in
            two (ap (λ (x : Link). x.parent) links, ap (λ (x : Link). x.place) links)

        old-child : (k place : ℕ) (c : NodeChild) → IsChild plan given nodes k place c → ((k ≡ l.parent) × (place ≡ l.place) → ⊥) → IsChild plan more after k place c
        old-child k place c ch two = child-after k place c ch (other-given c ch.node ch.there (elsewhere k place c ch two) ch.answer_given)

        awaited-after : (k : ℕ) (m : Link) → IsAwaited nodes k m → IsAwaited after k m
        awaited-after k m w = by_number (same-or m.parent l.parent)
          where
            children-at : m.parent ≡ l.parent → slice_get parent.children m.place ≡ Some w.child
            children-at e = ap (λ (p : SpawnNode). slice_get p.children m.place) (some-one parent w.parent (sym at_parent ∙ ap (λ j. slice_get nodes j) (sym e) ∙ w.there)) ∙ w.at

            at-after : m.parent ≡ l.parent → slice_get after m.parent ≡ Some (child_answered l.place child a parent)
            at-after e = ap (λ j. slice_get after j) e ∙ get-set nodes l.parent parent (child_answered l.place child a parent) at_parent

            by_place : m.parent ≡ l.parent → (m.place ≡ l.place) ⊎ (m.place ≡ l.place → ⊥) → IsAwaited after k m
            by_place e (inl f) = record {
              parent = child_answered l.place child a parent;
              child = record child { answer = Some a };
              there = at-after e;
              at = ap (λ j. slice_get (slice_set parent.children l.place (record child { answer = Some a })) j) f ∙ get-set parent.children l.place child (record child { answer = Some a }) at;
              number = ap (λ (c : NodeChild). c.number) (some-one child w.child (sym at ∙ ap (λ j. slice_get parent.children j) (sym f) ∙ children-at e)) ∙ w.number;
            }
            by_place e (inr two) = record {
              parent = child_answered l.place child a parent;
              child = w.child;
              there = at-after e;
              at = get-other parent.children l.place m.place (record child { answer = Some a }) two ∙ children-at e;
              number = w.number;
            }

            by_number : (m.parent ≡ l.parent) ⊎ (m.parent ≡ l.parent → ⊥) → IsAwaited after k m
            by_number (inl e) = by_place e (same-or m.place l.place)
            by_number (inr two) = record { parent = w.parent; child = w.child; there = get-other nodes l.parent m.parent (child_answered l.place child a parent) two ∙ w.there; at = w.at; number = w.number }

        link-after : (k : ℕ) (m : Option Link) → IsLinked nodes k m → IsLinked after k m
        link-after k None w = w
        link-after k (Some m) w = awaited-after k m w

        link-open : (k : ℕ) (x : SpawnNode) → IsNode plan given nodes k x → (Contains more x.origin → ⊥) → IsLinked after k x.link
        link-open k x is-node open_yet = link-after k x.link (is-node.link (λ c. open_yet (Contains-append_left given (node.origin ∷ []) x.origin c)))

        other-is : (k : ℕ) (x : SpawnNode) → (k ≡ l.parent → ⊥) → IsNode plan given nodes k x → IsNode plan more after k x
        other-is k x two is-node = record {
          unanswered = is-node.unanswered;
          children = λ place c h. old-child k place c (is-node.children place c h) (λ e. two e.0);
          link = link-open k x is-node;
          first = is-node.first;
        }

        -- the child had no answer
        not-answered : IsAnsweredBy plan given node.origin child.answer → missing_one child.answer ≡ 1
        not-answered h = by_answer child.answer h
          where
            by_answer : (x : Option AnswerView) → IsAnsweredBy plan given node.origin x → missing_one x ≡ 1
            by_answer None k = refl
            by_answer (Some x) k = absurd (fresh k.there)

        parent-is : IsNode plan more after l.parent (child_answered l.place child a parent)
        parent-is = record { unanswered = counted; children = children; link = link-open l.parent parent old; first = old.first }
          where
            old : IsNode plan given nodes l.parent parent
            old = all l.parent parent at_parent

            its : IsChild plan given nodes l.parent l.place child
            its = old.children l.place child at

            own : its.node ≡ node
            own = some-one its.node node (sym its.there ∙ ap (λ m. slice_get nodes m) number ∙ there)

            none : missing_one child.answer ≡ 1
            none = not-answered (subst (λ (x : SpawnNode). IsAnsweredBy plan given x.origin child.answer) own its.answer_given)

            counted : parent.unanswered - 1 ≡ missing (slice_set parent.children l.place (record child { answer = Some a }))
            counted =
                let e : missing (slice_set parent.children l.place (record child { answer = Some a })) + 1 ≡ missing parent.children = missing-set parent.children l.place child (record child { answer = Some a }) at none refl in
                let u : parent.unanswered ≡ missing parent.children = old.unanswered in omega arith

            children : (place : ℕ) (c : NodeChild) → slice_get (slice_set parent.children l.place (record child { answer = Some a })) place ≡ Some c → IsChild plan more after l.parent place c
            children place c h = by_place (set-or parent.children l.place child (record child { answer = Some a }) place c at h)
              where
                new : IsChild plan more after l.parent l.place (record child { answer = Some a })
                new =
                    let y = node-after child.number its.node its.there in
                    record { node = y.0; there = y.1; link = y.3 ∙ its.link; answer_given = subst (λ p. IsGiven plan more p a) (sym (y.2 ∙ ap (λ (x : SpawnNode). x.origin) own)) is }

                by_place : ((place ≡ l.place) × (record child { answer = Some a } ≡ c)) ⊎ ((place ≡ l.place → ⊥) × (slice_get parent.children place ≡ Some c)) → IsChild plan more after l.parent place c
                by_place (inl e) = subst (λ p. IsChild plan more after l.parent p c) (sym e.0) (subst (IsChild plan more after l.parent l.place) e.1 new)
                by_place (inr e) = old-child l.parent place c (old.children place c e.1) (λ f. e.0 f.1)

        pub nodes-answered : AreNodes plan more after
        nodes-answered k x h = by_number (set-or nodes l.parent parent (child_answered l.place child a parent) k x at_parent h)
          where
            by_number : ((k ≡ l.parent) × (child_answered l.place child a parent ≡ x)) ⊎ ((k ≡ l.parent → ⊥) × (slice_get nodes k ≡ Some x)) → IsNode plan more after k x
            by_number (inl e) = subst (λ m. IsNode plan more after m x) (sym e.0) (subst (IsNode plan more after l.parent) e.1 parent-is)
            by_number (inr e) = other-is k x e.0 (all k x e.1)

    -- main's answer goes to no node
    module _ (linked : node.link ≡ None) where
      not-main : (k place : ℕ) (c : NodeChild) → IsChild plan given nodes k place c → c.number ≡ n → ⊥
      not-main k place c ch e =
          let same : ch.node ≡ node = some-one ch.node node (sym ch.there ∙ ap (λ m. slice_get nodes m) e ∙ there) in
          let links : Some (record { parent = k; place = place }) ≡ None = sym ch.link ∙ ap (λ (x : SpawnNode). x.link) same ∙ linked in absurd (cc)

      pub nodes-end : AreNodes plan more nodes
      nodes-end k x h =
          let old = all k x h in
          record {
            unanswered = old.unanswered;
            children = λ place c at. (let ch = old.children place c at in record { node = ch.node; there = ch.there; link = ch.link; answer_given = other-given c ch.node ch.there (not-main k place c ch) ch.answer_given });
            link = λ open_yet. old.link (λ c. open_yet (Contains-append_left given (node.origin ∷ []) x.origin c));
            first = old.first;
          }
