-- What is told of spawns, as moves.
use Rattle.std.proofs.Common.{inl, inr, Result, Ok, Err, IfOk, sym, subst}
use Rattle.script_grammar.specs.declared.tree.Stmt.{Stmt}
use Rattle.script_grammar.specs.declared.tree.Act.{Act}
use Rattle.script_grammar.specs.declared.tree.Act.TheOpen.{Act-F}
use Rattle.serial_meaning.specs.Plan.{PlanView}
use Rattle.serial_meaning.specs.declared.event.Event.{Event}
use Rattle.strand_values.specs.declared.evaluation_error.EvaluationError as values
use Rattle.strand_moves.specs.declared.instance_parts.InstanceParts.{InstanceParts}
use Rattle.strand_moves.specs.declared.effects.MoveResult.{MoveResult}
use Rattle.strand_moves.specs.declared.effects.SpawnedChild.{SpawnedChild}
use Rattle.strand_moves.specs.Acts.{Acts}
use Rattle.strand_moves.specs.Moves.{IsTrailOf, MovesTrail}
use Rattle.strand_moves.specs.Spawns.{IsBoxedSpawn, spawn_as_move}

-- a spawn does as a move what it does
pub boxed-acts : (plan : PlanView) (st : Stmt) (a : Act-F Act Stmt) (old new : InstanceParts) (e : Event) (done : Result SpawnedChild values.EvaluationError) (r : Result MoveResult values.EvaluationError) → IsBoxedSpawn e done r → Acts plan st a old new (spawn_as_move e done) → Acts plan st a old new r
boxed-acts plan st a old new e done r (inl is) h = subst (Acts plan st a old new) (sym is) h
boxed-acts plan st a old new e done r (inr is) h = subst (Acts plan st a old new) (sym is) tt

boxed-trail : (plan : PlanView) (e : Event) (done : Result SpawnedChild values.EvaluationError) → IfOk done (λ s. IsTrailOf plan s.child.origin s.child.trail) → IfOk (spawn_as_move e done) (MovesTrail plan)
boxed-trail plan e (Ok s) h = h
boxed-trail plan e (Err error) h = tt

pub boxed-child : (plan : PlanView) (e : Event) (done : Result SpawnedChild values.EvaluationError) (r : Result MoveResult values.EvaluationError) → IsBoxedSpawn e done r → IfOk done (λ s. IsTrailOf plan s.child.origin s.child.trail) → IfOk r (MovesTrail plan)
boxed-child plan e done r (inl is) h = subst (λ (x : Result MoveResult values.EvaluationError). IfOk x (MovesTrail plan)) (sym is) (boxed-trail plan e done h)
boxed-child plan e done r (inr is) h = subst (λ (x : Result MoveResult values.EvaluationError). IfOk x (MovesTrail plan)) (sym is) tt
