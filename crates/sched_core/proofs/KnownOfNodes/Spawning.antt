-- What holds of the origins that were begun once a child is begun.
use Rattle.std.proofs.Common.{◌≡◌, ℕ, ◌+◌, ◌⊎◌, inl, inr, List, [], ◌∷◌, ◌++◌, Option, Some, None, Contains, slice_get, slice_set, length, refl, sym, ap, ◌∙◌, subst, arith}
use Rattle.serial_meaning.specs.Plan.{PlanView}
use Rattle.serial_meaning.specs.declared.origin.Origin.{Origin}
use Rattle.sched_meaning.proofs.OneCore.OneStep.{some-one}
use Rattle.strand_machine.specs.AwaitedChildren.{awaited}
use Rattle.sched_core.specs.Cores.{origins_of, task_in}
use Rattle.sched_core.specs.Nodes.{awaiting, missing, missing_one, new_node}
use Rattle.sched_core.specs.Consistent.{AreNodes, Awaits, IsAwaited, IsChild, IsAnsweredBy, IsJob, IsLinked, IsNode}
use Rattle.sched_core.specs.declared.job.Job.{Job}
use Rattle.sched_core.specs.declared.node.NodeChild.{NodeChild}
use Rattle.sched_core.specs.declared.node.Link.{Link}
use Rattle.sched_core.specs.declared.node.SpawnNode.{SpawnNode}
use Rattle.sched_core.proofs.Worked.Lists.{end-or, get-end, get-front, get-other, get-set, length-set, map-append-one, map-set-same, same-or, set-or}

pub awaits-grow : (begun more : List Origin) (cs : List NodeChild) (os : List Origin) → Awaits begun cs os → Awaits (begun ++ more) cs os
awaits-grow begun more [] [] a = tt
awaits-grow begun more [] (o ∷ os) a = absurd a
awaits-grow begun more (c ∷ cs) [] a = absurd a
awaits-grow begun more (c ∷ cs) (o ∷ os) a = (get-front begun more c.number o a.0, awaits-grow begun more cs os a.1)

pub awaits-end : (begun : List Origin) (cs : List NodeChild) (os : List Origin) (c : NodeChild) (o : Origin) → Awaits begun cs os → slice_get begun c.number ≡ Some o → Awaits begun (cs ++ c ∷ []) (os ++ o ∷ [])
awaits-end begun [] [] c o a e = (e, tt)
awaits-end begun [] (p ∷ os) c o a e = absurd a
awaits-end begun (d ∷ cs) [] c o a e = absurd a
awaits-end begun (d ∷ cs) (p ∷ os) c o a e = (a.0, awaits-end begun cs os c o a.1 e)

missing-end : (cs : List NodeChild) (c : NodeChild) → missing (cs ++ c ∷ []) ≡ missing cs + missing_one c.answer
missing-end [] c = omega arith
missing-end (d ∷ cs) c = let e : missing (cs ++ c ∷ []) ≡ missing cs + missing_one c.answer = missing-end cs c in omega arith

not-empty : {A : Type 0} (xs : List A) (n : ℕ) (x : A) → slice_get xs n ≡ Some x → length xs ≡ 0 → ⊥
not-empty [] n x h e = absurd (cc)
not-empty (y ∷ xs) n x h e = absurd (omega arith)

-- a node with its origin and link, somewhere
pub record Stays (nodes : List SpawnNode) (k : ℕ) (x : SpawnNode) : Type 0 where
  pub node : SpawnNode
  pub there : slice_get nodes k ≡ Some node
  pub origin : node.origin ≡ x.origin
  pub link : node.link ≡ x.link

module _ (plan : PlanView) (given : List Origin) (nodes : List SpawnNode) (all : AreNodes plan given nodes) (n : ℕ) (node : SpawnNode) (there : slice_get nodes n ≡ Some node) (o : Origin) where
  abbrev pub child : NodeChild
  child = record { number = length nodes; answer = None }

  abbrev pub link : Link
  link = record { parent = n; place = length node.children }

  abbrev pub after : List SpawnNode
  after = slice_set nodes n (awaiting (length nodes) node) ++ new_node o (Some (record { parent = n; place = length node.children })) ∷ []

  pub origins-after : origins_of after ≡ origins_of nodes ++ o ∷ []
  origins-after =
      map-append-one (λ (x : SpawnNode). x.origin) (slice_set nodes n (awaiting (length nodes) node)) (new_node o (Some link))
      ∙ ap (λ l. l ++ o ∷ []) (map-set-same (λ (x : SpawnNode). x.origin) nodes n node (awaiting (length nodes) node) there refl)

  pub at-new : slice_get after (length nodes) ≡ Some (new_node o (Some link))
  at-new =
      ap (λ k. slice_get after k) (sym (length-set nodes n (awaiting (length nodes) node)))
      ∙ get-end (slice_set nodes n (awaiting (length nodes) node)) (new_node o (Some link))

  pub at-parent : slice_get after n ≡ Some (awaiting (length nodes) node)
  at-parent = get-front (slice_set nodes n (awaiting (length nodes) node)) (new_node o (Some link) ∷ []) n (awaiting (length nodes) node) (get-set nodes n node (awaiting (length nodes) node) there)

  pub at-other : (k : ℕ) (x : SpawnNode) → (k ≡ n → ⊥) → slice_get nodes k ≡ Some x → slice_get after k ≡ Some x
  at-other k x two h = get-front (slice_set nodes n (awaiting (length nodes) node)) (new_node o (Some link) ∷ []) k x (get-other nodes n k (awaiting (length nodes) node) two ∙ h)

  stays : (k : ℕ) (x : SpawnNode) → slice_get nodes k ≡ Some x → Stays after k x
  stays k x h = by_number (same-or k n)
    where
      by_number : (k ≡ n) ⊎ (k ≡ n → ⊥) → Stays after k x
      by_number (inl e) =
          let same : node ≡ x = some-one node x (sym there ∙ ap (λ m. slice_get nodes m) (sym e) ∙ h) in
          record {
            node = awaiting (length nodes) node;
            there = ap (λ m. slice_get after m) e ∙ at-parent;
            origin = ap (λ (y : SpawnNode). y.origin) same;
            link = ap (λ (y : SpawnNode). y.link) same;
          }
      by_number (inr two) = record { node = x; there = at-other k x two h; origin = refl; link = refl }

  child-stays : (k place : ℕ) (c : NodeChild) → IsChild plan given nodes k place c → IsChild plan given after k place c
  child-stays k place c is =
      let y : Stays after c.number is.node = stays c.number is.node is.there in
      record { node = y.node; there = y.there; link = y.link ∙ is.link; answer_given = subst (λ p. IsAnsweredBy plan given p c.answer) (sym y.origin) is.answer_given }

  awaited-stays : (k : ℕ) (l : Link) → IsAwaited nodes k l → IsAwaited after k l
  awaited-stays k l is = by_number (same-or l.parent n)
    where
      by_number : (l.parent ≡ n) ⊎ (l.parent ≡ n → ⊥) → IsAwaited after k l
      by_number (inl e) =
          let same : is.parent ≡ node = some-one is.parent node (sym is.there ∙ ap (λ m. slice_get nodes m) e ∙ there) in
          record {
            parent = awaiting (length nodes) node;
            child = is.child;
            there = ap (λ m. slice_get after m) e ∙ at-parent;
            at = get-front node.children (child ∷ []) l.place is.child (ap (λ (y : SpawnNode). slice_get y.children l.place) (sym same) ∙ is.at);
            number = is.number;
          }
      by_number (inr two) = record { parent = is.parent; child = is.child; there = at-other l.parent is.parent two is.there; at = is.at; number = is.number }

  link-stays : (k : ℕ) (l : Option Link) → IsLinked nodes k l → IsLinked after k l
  link-stays k None is = is
  link-stays k (Some l) is = awaited-stays k l is

  module _ (fresh : Contains given o → ⊥) where
    more-children : (place : ℕ) (c : NodeChild) → slice_get (node.children ++ child ∷ []) place ≡ Some c → IsChild plan given after n place c
    more-children place c h = by_place (end-or node.children child place c h)
      where
        new-child : IsChild plan given after n (length node.children) child
        new-child = record { node = new_node o (Some link); there = at-new; link = refl; answer_given = fresh }

        by_place : (slice_get node.children place ≡ Some c) ⊎ ((place ≡ length node.children) × (child ≡ c)) → IsChild plan given after n place c
        by_place (inl a) = child-stays n place c ((all n node there).children place c a)
        by_place (inr e) = subst (λ p. IsChild plan given after n p c) (sym e.0) (subst (IsChild plan given after n (length node.children)) e.1 new-child)

    parent-is : IsNode plan given after n (awaiting (length nodes) node)
    parent-is = record {
      unanswered = ap (λ m. m + 1) (all n node there).unanswered ∙ sym (missing-end node.children child);
      children = more-children;
      link = λ open_yet. link-stays n node.link ((all n node there).link open_yet);
      first = (all n node there).first;
    }

    new-is : IsNode plan given after (length nodes) (new_node o (Some link))
    new-is = record {
      unanswered = refl;
      children = λ place c h. absurd (cc);
      link = λ open_yet. record { parent = awaiting (length nodes) node; child = child; there = at-parent; at = get-end node.children child; number = refl };
      first = λ e. absurd (not-empty nodes n node there e);
    }

    old-is : (k : ℕ) (x : SpawnNode) → IsNode plan given nodes k x → IsNode plan given after k x
    old-is k x is = record {
      unanswered = is.unanswered;
      children = λ place c h. child-stays k place c (is.children place c h);
      link = λ open_yet. link-stays k x.link (is.link open_yet);
      first = is.first;
    }

    pub nodes-after : AreNodes plan given after
    nodes-after k x h = by_end (end-or (slice_set nodes n (awaiting (length nodes) node)) (new_node o (Some link)) k x h)
      where
        by_set : ((k ≡ n) × (awaiting (length nodes) node ≡ x)) ⊎ ((k ≡ n → ⊥) × (slice_get nodes k ≡ Some x)) → IsNode plan given after k x
        by_set (inl e) = subst (λ m. IsNode plan given after m x) (sym e.0) (subst (IsNode plan given after n) e.1 parent-is)
        by_set (inr e) = old-is k x (all k x e.1)

        by_end : (slice_get (slice_set nodes n (awaiting (length nodes) node)) k ≡ Some x) ⊎ ((k ≡ length (slice_set nodes n (awaiting (length nodes) node))) × (new_node o (Some link) ≡ x)) → IsNode plan given after k x
        by_end (inl a) = by_set (set-or nodes n node (awaiting (length nodes) node) k x there a)
        by_end (inr e) =
            subst (λ m. IsNode plan given after m x) (sym (e.0 ∙ length-set nodes n (awaiting (length nodes) node))) (subst (IsNode plan given after (length nodes)) e.1 new-is)

  -- another job stays one
  pub job-stays : (i : Job) → IsJob nodes i → (i.number ≡ n → ⊥) → IsJob after i
  job-stays i is two = record {
    node = is.node;
    there = at-other i.number is.node two is.there;
    origin = is.origin;
    awaits = subst (λ l. Awaits l is.node.children (awaited (task_in i).trace.unmerged)) (sym origins-after) (awaits-grow (origins_of nodes) (o ∷ []) is.node.children (awaited (task_in i).trace.unmerged) is.awaits);
    uncut = is.uncut;
  }
