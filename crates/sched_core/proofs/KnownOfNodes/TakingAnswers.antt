-- What holds of the origins that were begun once a task has taken the answers of its children.
use Rattle.std.proofs.Common.{◌≡◌, ℕ, zero, suc, ◌⊎◌, inl, inr, List, [], ◌∷◌, Option, Some, None, Contains, slice_get, slice_set, refl, sym, ap, ◌∙◌, subst, arith}
use Rattle.serial_meaning.specs.Answer.{AnswerView}
use Rattle.serial_meaning.specs.Plan.{PlanView}
use Rattle.serial_meaning.specs.declared.origin.Origin.{Origin}
use Rattle.sched_meaning.proofs.OneCore.OneStep.{some-one}
use Rattle.strand_machine.specs.AwaitedChildren.{awaited}
use Rattle.sched_core.specs.Cores.{origins_of, task_in}
use Rattle.sched_core.specs.Nodes.{missing, missing_one, without_children}
use Rattle.sched_core.specs.Consistent.{AreNodes, Awaits, IsAwaited, IsChild, IsAnsweredBy, IsJob, IsLinked, IsNode}
use Rattle.sched_core.specs.declared.job.Job.{Job}
use Rattle.sched_core.specs.declared.node.NodeChild.{NodeChild}
use Rattle.sched_core.specs.declared.node.Link.{Link}
use Rattle.sched_core.specs.declared.node.SpawnNode.{SpawnNode}
use Rattle.sched_core.proofs.Worked.Lists.{get-other, get-set, map-set-same, same-or, set-or}

none-missing : (cs : List NodeChild) (k : ℕ) (c : NodeChild) → missing cs ≡ 0 → slice_get cs k ≡ Some c → missing_one c.answer ≡ 0
none-missing [] k c e h = absurd (cc)
none-missing (x ∷ cs) zero c e h = let same : missing_one x.answer ≡ missing_one c.answer = ap (λ (y : NodeChild). missing_one y.answer) (some-one x c h) in omega arith
none-missing (x ∷ cs) (suc k) c e h = none-missing cs k c (omega arith) h

module _ (plan : PlanView) (given : List Origin) (nodes : List SpawnNode) (all : AreNodes plan given nodes) (n : ℕ) (node : SpawnNode) (there : slice_get nodes n ≡ Some node) (whole : missing node.children ≡ 0) where
  abbrev pub after : List SpawnNode
  after = slice_set nodes n (without_children node)

  pub origins-same : origins_of after ≡ origins_of nodes
  origins-same = map-set-same (λ (x : SpawnNode). x.origin) nodes n node (without_children node) there refl

  node-after : (k : ℕ) (x : SpawnNode) → slice_get nodes k ≡ Some x → (y : SpawnNode) × (slice_get after k ≡ Some y) × (y.origin ≡ x.origin) × (y.link ≡ x.link)
  node-after k x h = by_number (same-or k n)
    where
      by_number : (k ≡ n) ⊎ (k ≡ n → ⊥) → (y : SpawnNode) × (slice_get after k ≡ Some y) × (y.origin ≡ x.origin) × (y.link ≡ x.link)
      by_number (inl e) =
          let same : node ≡ x = some-one node x (sym there ∙ ap (λ m. slice_get nodes m) (sym e) ∙ h) in (
            without_children node,
            ap (λ m. slice_get after m) e ∙ get-set nodes n node (without_children node) there,
            ap (λ (y : SpawnNode). y.origin) same,
            ap (λ (y : SpawnNode). y.link) same,
          )
      by_number (inr two) = (x, get-other nodes n k (without_children node) two ∙ h, refl, refl)

  -- what isn't answered isn't awaited by the task that continued
  awaited-stays : (k : ℕ) (x : SpawnNode) (l : Link) → slice_get nodes k ≡ Some x → (Contains given x.origin → ⊥) → IsAwaited nodes k l → IsAwaited after k l
  awaited-stays k x l h open_yet w = by_number (same-or l.parent n)
    where
      answered : l.parent ≡ n → ⊥
      answered e =
          let same : w.parent ≡ node = some-one w.parent node (sym w.there ∙ ap (λ m. slice_get nodes m) e ∙ there) in
          let at : slice_get node.children l.place ≡ Some w.child = ap (λ (p : SpawnNode). slice_get p.children l.place) (sym same) ∙ w.at in
          let ch : IsChild plan given nodes n l.place w.child = (all n node there).children l.place w.child at in
          let own : ch.node ≡ x = some-one ch.node x (sym ch.there ∙ ap (λ m. slice_get nodes m) w.number ∙ h) in
          by_answer w.child.answer (none-missing node.children l.place w.child whole at) (subst (λ (y : SpawnNode). IsAnsweredBy plan given y.origin w.child.answer) own ch.answer_given)
        where
          by_answer : (a : Option AnswerView) → missing_one a ≡ 0 → IsAnsweredBy plan given x.origin a → ⊥
          by_answer None e i = absurd (cc)
          by_answer (Some a) e i = open_yet i.there

      by_number : (l.parent ≡ n) ⊎ (l.parent ≡ n → ⊥) → IsAwaited after k l
      by_number (inl e) = absurd (answered e)
      by_number (inr two) = record { parent = w.parent; child = w.child; there = get-other nodes n l.parent (without_children node) two ∙ w.there; at = w.at; number = w.number }

  link-stays : (k : ℕ) (x : SpawnNode) → slice_get nodes k ≡ Some x → (Contains given x.origin → ⊥) → (l : Option Link) → IsLinked nodes k l → IsLinked after k l
  link-stays k x h open_yet None w = w
  link-stays k x h open_yet (Some l) w = awaited-stays k x l h open_yet w

  child-stays : (k place : ℕ) (c : NodeChild) → IsChild plan given nodes k place c → IsChild plan given after k place c
  child-stays k place c ch =
      let y = node-after c.number ch.node ch.there in
      record { node = y.0; there = y.1; link = y.3 ∙ ch.link; answer_given = subst (λ p. IsAnsweredBy plan given p c.answer) (sym y.2) ch.answer_given }

  own-is : IsNode plan given after n (without_children node)
  own-is = record {
    unanswered = (all n node there).unanswered ∙ whole;
    children = λ place c h. absurd (cc);
    link = λ open_yet. link-stays n node there open_yet node.link ((all n node there).link open_yet);
    first = (all n node there).first;
  }

  other-is : (k : ℕ) (x : SpawnNode) → slice_get nodes k ≡ Some x → IsNode plan given after k x
  other-is k x h = record {
    unanswered = (all k x h).unanswered;
    children = λ place c at. child-stays k place c ((all k x h).children place c at);
    link = λ open_yet. link-stays k x h open_yet x.link ((all k x h).link open_yet);
    first = (all k x h).first;
  }

  pub nodes-take : AreNodes plan given after
  nodes-take k x h = by_number (set-or nodes n node (without_children node) k x there h)
    where
      by_number : ((k ≡ n) × (without_children node ≡ x)) ⊎ ((k ≡ n → ⊥) × (slice_get nodes k ≡ Some x)) → IsNode plan given after k x
      by_number (inl e) = subst (λ m. IsNode plan given after m x) (sym e.0) (subst (IsNode plan given after n) e.1 own-is)
      by_number (inr e) = other-is k x e.1

  -- another job stays one
  pub job-takes : (i : Job) → IsJob nodes i → (i.number ≡ n → ⊥) → IsJob after i
  job-takes i is two = record {
    node = is.node;
    there = get-other nodes n i.number (without_children node) two ∙ is.there;
    origin = is.origin;
    awaits = subst (λ l. Awaits l is.node.children (awaited (task_in i).trace.unmerged)) (sym origins-same) is.awaits;
    uncut = is.uncut;
  }
