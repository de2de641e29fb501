-- How deep the children of an origin of the plan stand: their evaluations are those that their parent takes.
use Rattle.std.proofs.Common.{◌≡◌, ℕ, ◌+◌, ◌≤◌, List, [], ◌∷◌, ◌++◌, length, length-append}
use Rattle.std.specs.Prelude.{Contains}
use Rattle.serial_meaning.specs.Laws.{IsOriginOf, Main, ChildOf, PartOf}
use Rattle.serial_meaning.specs.Plan.{PlanView}
use Rattle.serial_meaning.specs.Eval.{eval, eval_with, depth_left}
use Rattle.serial_meaning.specs.Runs.{done}
use Rattle.serial_meaning.specs.Open.{Child, node_of}
use Rattle.serial_meaning.proofs.OriginFaults.Levels.{enough}
use Rattle.serial_meaning.proofs.OriginFaults.Origins.{LoopFits, child-fits, deeper, part-of-plan}
use Rattle.serial_meaning.specs.declared.origin.Origin.{Origin}
use Rattle.serial_meaning.specs.declared.origin.Origin.TheVariants.{Instance, Loop}
use Rattle.strand_meaning.specs.Laws.{FitsDepth}
use Rattle.strand_meaning.specs.Rest.{children_of}

pub longer : (path : List ℕ) (r : ℕ) → length (path ++ r ∷ []) ≡ length path + 1
longer path r = simp length-append

pub loop-of-plan : (plan : PlanView) (o : Origin) → IsOriginOf plan o → LoopFits plan o
loop-of-plan plan o h = (part-of-plan plan o h).0

-- what a parent takes of a child is the child's evaluation
pub same-answer : (plan : PlanView) (o child : Origin) → LoopFits plan o → Contains (node_of plan o).items (Child child) → children_of plan o child ≡ eval plan child
same-answer plan o child h k = enough plan (done []) (eval_with plan) (depth_left plan o) child (deeper plan o child h k)

child-fits-so : (plan : PlanView) (parent child : Origin) → IsOriginOf plan parent → Contains (node_of plan parent).items (Child child) → FitsDepth plan child
child-fits-so plan parent (Instance function args path) h k = child-fits plan parent (Instance function args path) (loop-of-plan plan parent h) k
child-fits-so plan parent (Loop function rest first path range) h k = child-fits plan parent (Loop function rest first path range) (loop-of-plan plan parent h) k

pub origins_fit : (plan : PlanView) (o : Origin) → 1 ≤ plan.limits.depth → IsOriginOf plan o → FitsDepth plan o
origins_fit plan o some Main = some
origins_fit plan o some (ChildOf parent child h k) = child-fits-so plan parent child h k
origins_fit plan o some (PartOf parent function rest first path whole part h k a b d) = child-fits-so plan parent (Loop function rest first path whole) h k
