-- One node of the walk down.
use Rattle.std.proofs.Common.{◌≡◌, ℕ, zero, suc, ◌+◌, ◌-◌, ◌<◌, ◌≤◌, List, [], ◌∷◌, ◌++◌, Option, Some, None, Ok, length, length-append, refl, sym, ap, ◌∙◌, subst, arith}
use Rattle.serial_meaning.specs.Laws.{Main}
use Rattle.serial_meaning.specs.Eval.{path_of, main_origin}
use Rattle.serial_meaning.specs.Open.{node_of}
use Rattle.serial_meaning.specs.Plan.{PlanView}
use Rattle.serial_meaning.specs.declared.event.Fault.{Fault}
use Rattle.serial_meaning.specs.declared.origin.Origin.{Origin}
use Rattle.strand_meaning.specs.Strands.{Strand, Found, FoundStrand, Missing, Blocked, child_on_way, strand_of, blocking_fault, last_step, entered_child, next_step, by_child, walk_in, strand_at}
use Rattle.serial_runner.specs.Nodes.{node_by, node_toward}
use Rattle.serial_runner.specs.declared.node.Node.{Node}
use Rattle.replay.specs.Descents.{seen_from, IsOnWayTo, LeadsDown}
use Rattle.replay.specs.declared.descent.Way.TheVariants.{Down}
use Rattle.replay.proofs.Iterations.{IsFurther, goes-further}

module _ (plan : PlanView) (j : List ℕ) where
  -- what one node says, with what stands below it
  abbrev by_node : Origin → (Origin → Found) → Found
  by_node o go = by_child (child_on_way j (node_of plan o).items) j (last_step (blocking_fault (node_of plan o) j) (strand_of o (node_of plan o) j)) go

  same-below : (o : Origin) → IsOnWayTo plan j o → (f g : Origin → Found) → ((next : Origin) → IsFurther plan j o next → f next ≡ g next) → by_node o f ≡ by_node o g
  same-below o on f g h = by_way (child_on_way j (node_of plan o).items) refl
    where
      here : Found
      here = last_step (blocking_fault (node_of plan o) j) (strand_of o (node_of plan o) j)

      by_next : (c : Origin) → child_on_way j (node_of plan o).items ≡ Some c → (n : Option Origin) → entered_child j c ≡ n → next_step n f ≡ next_step n g
      by_next c e None t = refl
      by_next c e (Some next) t = h next (goes-further plan j o on.known c next e t)

      by_way : (c : Option Origin) → child_on_way j (node_of plan o).items ≡ c → by_child c j here f ≡ by_child c j here g
      by_way None e = refl
      by_way (Some c) e = by_next c e (entered_child j c) refl

  -- More steps than ranks follow the path change nothing.
  enough : (s t : ℕ) (o : Origin) → IsOnWayTo plan j o → length j ≤ length (path_of o) + s → length j ≤ length (path_of o) + t → walk_in plan s j o ≡ walk_in plan t j o
  enough zero t o on h k = let l = on.below.longer in absurd (omega (arith, l, h))
  enough (suc s) zero o on h k = let l = on.below.longer in absurd (omega (arith, l, k))
  enough (suc s) (suc t) o on h k =
      same-below o on (walk_in plan s j) (walk_in plan t j) (λ next f. enough s t next f.on (let l = f.longer in omega (arith, l, h)) (let l = f.longer in omega (arith, l, k)))

  -- a node, and what stands below it
  pub a-node : (o : Origin) → IsOnWayTo plan j o → seen_from plan o j ≡ by_node o (λ next. seen_from plan next j)
  a-node o on = by_steps (length j - length (path_of o)) refl
    where
      by_steps : (s : ℕ) → length j - length (path_of o) ≡ s → walk_in plan s j o ≡ by_node o (λ next. seen_from plan next j)
      by_steps zero e = let l = on.below.longer in absurd (omega (arith, l, e))
      by_steps (suc s) e =
          same-below o on (walk_in plan s j) (λ next. seen_from plan next j) (λ next f. enough s (length j - length (path_of next)) next f.on (let l = f.longer in omega (arith, l, e)) (omega arith))

module _ (plan : PlanView) (o : Origin) (j : List ℕ) (on : IsOnWayTo plan j o) (m : Node) (is : m ≡ node_toward plan o j) where
  shown-child : (c : Option Origin) (s : Option Strand) (f : Option Fault) → (node_by c s f).child ≡ c
  shown-child None s f = refl
  shown-child (Some c) s f = refl

  child-is : m.child ≡ child_on_way j (node_of plan o).items
  child-is = ap (λ (n : Node). n.child) is ∙ shown-child (child_on_way j (node_of plan o).items) (strand_of o (node_of plan o) j) (blocking_fault (node_of plan o) j)

  abbrev below : Origin → Found
  below next = seen_from plan next j

  -- by what the code finds in the node
  shown-found : (c : Option Origin) (s : Option Strand) (f : Option Fault) → by_child c j (last_step f s) below ≡ by_child (node_by c s f).child j (last_step (node_by c s f).child_fault (node_by c s f).strand) below
  shown-found None s f = refl
  shown-found (Some c) s f = refl

  found : seen_from plan o j ≡ by_child m.child j (last_step m.child_fault m.strand) below
  found =
      a-node plan j o on ∙ shown-found (child_on_way j (node_of plan o).items) (strand_of o (node_of plan o) j) (blocking_fault (node_of plan o) j)
      ∙ ap (λ (n : Node). by_child n.child j (last_step n.child_fault n.strand) below) (sym is)

  found-none : m.child ≡ None → seen_from plan o j ≡ last_step m.child_fault m.strand
  found-none e = found ∙ ap (λ (c : Option Origin). by_child c j (last_step m.child_fault m.strand) below) e

  pub is_blocked : m.child ≡ None → (f : Fault) → m.child_fault ≡ Some f → seen_from plan o j ≡ Blocked f
  is_blocked e f h = found-none e ∙ ap (λ (g : Option Fault). last_step g m.strand) h

  pub is_reached : m.child ≡ None → m.child_fault ≡ None → (s : Strand) → m.strand ≡ Some s → seen_from plan o j ≡ FoundStrand s
  is_reached e h s g = found-none e ∙ ap (λ (f : Option Fault). last_step f m.strand) h ∙ ap (last_step None) g

  shown-strand : (c : Option Origin) (s : Option Strand) (f : Option Fault) → (node_by c s f).child ≡ None → (node_by c s f).strand ≡ s
  shown-strand None s f e = refl
  shown-strand (Some c) s f e = absurd (cc)

  -- the strand is one of the instance's own
  pub is_own : m.child ≡ None → (s : Strand) → m.strand ≡ Some s → strand_of o (node_of plan o) j ≡ Some s
  is_own e s g =
      sym (shown-strand (child_on_way j (node_of plan o).items) (strand_of o (node_of plan o) j) (blocking_fault (node_of plan o) j) (sym (ap (λ (n : Node). n.child) is) ∙ e))
      ∙ sym (ap (λ (n : Node). n.strand) is)
      ∙ g

  pub is_missing : m.child ≡ None → m.child_fault ≡ None → m.strand ≡ None → seen_from plan o j ≡ Missing
  is_missing e h g = found-none e ∙ ap (λ (f : Option Fault). last_step f m.strand) h ∙ ap (last_step None) g

  pub leads_down : (c next : Origin) → m.child ≡ Some c → entered_child j c ≡ Some next → LeadsDown plan o j (Ok (Down next))
  leads_down c next e h =
      let f = goes-further plan j o on.known c next (sym child-is ∙ e) h in
      (f.on, f.longer, sym (found ∙ ap (λ (d : Option Origin). by_child d j (last_step m.child_fault m.strand) below) e ∙ ap (λ (n : Option Origin). next_step n below) h))

  pub leads_nowhere : (c : Origin) → m.child ≡ Some c → entered_child j c ≡ None → seen_from plan o j ≡ Missing
  leads_nowhere c e h = found ∙ ap (λ (d : Option Origin). by_child d j (last_step m.child_fault m.strand) below) e ∙ ap (λ (n : Option Origin). next_step n below) h

-- The walk begins at main.
module _ (plan same : PlanView) (o : Origin) (j path : List ℕ) (rank : ℕ) (is : path ++ rank ∷ [] ≡ j) (e : same ≡ plan) (h : o ≡ main_origin same) where
  is-main : main_origin plan ≡ o
  is-main = sym (h ∙ ap main_origin e)

  some : 0 < length j
  some = let l : length j ≡ length path + 1 = ap length (sym is) ∙ length-append path (rank ∷ []) in omega arith

  pub begins_at_main : IsOnWayTo plan j o
  begins_at_main = subst (IsOnWayTo plan j) is-main (record { known = Main; instance = tt; below = record { begins = refl; longer = some } })

  pub seen_from_main : seen_from plan o j ≡ strand_at plan j
  seen_from_main =
      let all : length j - 0 ≡ length j = omega arith in
      ap (λ (d : Origin). seen_from plan d j) (sym is-main) ∙ ap (λ (n : ℕ). walk_in plan n j (main_origin plan)) all
