-- The child of a node on the way to a pedigree: it is one of the node's items, and what is entered of it is an instance on the way.
use Rattle.std.proofs.Common.{◌≡◌, ℕ, ◌+◌, ◌-◌, ◌<◌, List, [], ◌∷◌, ◌++◌, Some, length, length-append, sym, ap, ◌∙◌, subst, arith}
use Rattle.std.specs.Prelude.{Contains}
use Rattle.std.proofs.Math.Seq.{take-append_seam}
use Rattle.serial_meaning.specs.Laws.{IsOriginOf, ChildOf}
use Rattle.serial_meaning.specs.Plan.{PlanView}
use Rattle.serial_meaning.specs.Eval.{path_of, iteration}
use Rattle.serial_meaning.specs.Open.{Child, node_of}
use Rattle.serial_meaning.proofs.OriginFaults.Origins.{child-below}
use Rattle.serial_meaning.specs.declared.origin.Origin.{Origin}
use Rattle.serial_meaning.specs.declared.origin.Origin.TheVariants.{Instance, Loop}
use Rattle.strand_meaning.specs.Rest.{children_of}
use Rattle.strand_meaning.specs.Strands.{child_on_way, entered_child}
use Rattle.strand_meaning.proofs.ElisionsStrands.ElisionStrands.{OnWay, on-way, enters-turn}
use Rattle.strand_meaning.proofs.ElisionsStrands.ItemsRise.{items-rise}
use Rattle.strand_meaning.proofs.SoundSteps.HalvesMakeLoops.{contains-turn}
use Rattle.serial_runner.specs.Nodes.{IsBelow}
use Rattle.serial_runner.proofs.Below.{below-of}
use Rattle.replay.specs.Descents.{IsOnWayTo}

-- Below a path

-- a pedigree of this form is below the path
pub below-path : (path : List ℕ) (k : ℕ) (ranks j : List ℕ) → j ≡ path ++ k ∷ ranks → IsBelow path j
below-path path k ranks j e = subst (IsBelow path) (sym e) (record { begins = take-append_seam path (k ∷ ranks); longer = longer })
  where
    longer : length path < length (path ++ k ∷ ranks)
    longer = let l : length (path ++ k ∷ ranks) ≡ length path + length (k ∷ ranks) = length-append path (k ∷ ranks) in omega arith

-- Into a child

-- an instance on the way below another
pub record IsFurther (plan : PlanView) (j : List ℕ) (o next : Origin) : Type 0 where
  pub on : IsOnWayTo plan j next
  pub longer : length (path_of o) < length (path_of next)

module _ (plan : PlanView) (j : List ℕ) (o : Origin) (known : IsOriginOf plan o) where
  longer-child : (c : Origin) → Contains (node_of plan o).items (Child c) → length (path_of o) < length (path_of c)
  longer-child c among =
      let b = child-below plan o c among in
      let l : length (path_of c) ≡ length (path_of o) + length (b.0 ∷ b.1) = ap length b.2 ∙ length-append (path_of o) (b.0 ∷ b.1) in omega (arith, l)

  into : (c next : Origin) → OnWay j (node_of plan o).items c → entered_child j c ≡ Some next → IsFurther plan j o next
  into (Instance function args path) next way e =
      let c : Origin = Instance function args path in
      let same : c ≡ next = cc in
      let b = below-of path j way.below in
      subst (IsFurther plan j o) same (record { on = record { known = ChildOf o c known way.among; instance = tt; below = below-path path b.0 b.1 j b.2 }; longer = longer-child c way.among })
  into (Loop function rest first path range) next way e =
      let c : Origin = Loop function rest first path range in
      let b = below-of path j way.below in
      let turn = enters-turn j function rest first path (range.hi - range.lo) b.0 b.1 next b.2 e in
      let i : Origin = iteration function rest first path turn.turn in
      let among : Contains (node_of plan c).items (Child i) = contains-turn function rest first path range.lo (range.hi - range.lo) turn.turn (let whole = way.whole in omega (arith, whole)) (let whole = way.whole in let low = turn.within in omega (arith, whole, low)) in
      let l : length (path ++ turn.turn ∷ []) ≡ length path + 1 = length-append path (turn.turn ∷ []) in
      let m = longer-child c way.among in
      let further : IsFurther plan j o i = record {
        on = record { known = ChildOf c i (ChildOf o c known way.among) among; instance = tt; below = below-path (path ++ turn.turn ∷ []) turn.next turn.more j (subst (λ (d : Origin). j ≡ path_of d ++ turn.next ∷ turn.more) turn.is turn.below) };
        longer = omega (arith, l, m);
      } in
      subst (IsFurther plan j o) (sym turn.is) further

  pub goes-further : (c next : Origin) → child_on_way j (node_of plan o).items ≡ Some c → entered_child j c ≡ Some next → IsFurther plan j o next
  goes-further c next e h = into c next (on-way j (node_of plan o).items c (items-rise plan (children_of plan o) o) e) h
