-- What is told of syncs and loops, as moves.
use Rattle.std.proofs.Common.{◌≡◌, Result, Ok, Err, IfOk, sym, subst}
use Rattle.script_grammar.specs.declared.tree.Stmt.{Stmt}
use Rattle.script_grammar.specs.declared.tree.Act.{Act}
use Rattle.script_grammar.specs.declared.tree.Act.TheOpen.{Act-F}
use Rattle.serial_meaning.specs.Plan.{PlanView}
use Rattle.serial_meaning.specs.declared.event.Event.{Event}
use Rattle.strand_values.specs.declared.evaluation_error.EvaluationError as values
use Rattle.strand_moves.specs.declared.instance_parts.InstanceParts.{InstanceParts}
use Rattle.strand_moves.specs.declared.effects.MoveResult.{MoveResult}
use Rattle.strand_moves.specs.declared.effects.Waits.{Waits}
use Rattle.strand_moves.specs.Acts.{Acts}
use Rattle.strand_moves.specs.Moves.{MovesTrail}
use Rattle.strand_moves.specs.Waits.{ShowsTrailAfter, wait_as_move}

-- a loop does as a move what it does
pub wait-acts : (plan : PlanView) (st : Stmt) (a : Act-F Act Stmt) (old new : InstanceParts) (e : Event) (done : Result Waits values.EvaluationError) (r : Result MoveResult values.EvaluationError) → r ≡ wait_as_move e done → Acts plan st a old new (wait_as_move e done) → Acts plan st a old new r
wait-acts plan st a old new e done r is h = subst (Acts plan st a old new) (sym is) h

wait-trail : (plan : PlanView) (e : Event) (done : Result Waits values.EvaluationError) → IfOk done (ShowsTrailAfter plan) → IfOk (wait_as_move e done) (MovesTrail plan)
wait-trail plan e (Ok w) h = h e
wait-trail plan e (Err error) h = tt

pub wait-child : (plan : PlanView) (e : Event) (done : Result Waits values.EvaluationError) (r : Result MoveResult values.EvaluationError) → r ≡ wait_as_move e done → IfOk done (ShowsTrailAfter plan) → IfOk r (MovesTrail plan)
wait-child plan e done r is h = subst (λ (x : Result MoveResult values.EvaluationError). IfOk x (MovesTrail plan)) (sym is) (wait-trail plan e done h)
