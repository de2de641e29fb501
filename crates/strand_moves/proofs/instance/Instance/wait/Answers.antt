use Rattle.std.proofs.Common.{IfOk, Some, subst}
use Rattle.strand_moves.specs.declared.instance_parts.InstanceParts.{InstanceParts}
use Rattle.strand_moves.specs.Waits.{HasWaited}
use Rattle.strand_moves.proofs.instance.Instance.wait.Goals as goal

pub returns-clause-did : goal.returns-clause-did
returns-clause-did c = λ d.
    subst (λ (r : InstanceParts). IfOk d.wait_statement.result (HasWaited c.S.EventSink.after d.args.plan.now r d.args.sink.now (Some d.args.statement.now) d.wait_statement.new.self d.wait_statement.new.sink))
    d.deref_mut.ensures.value d.wait_statement.ensures.did
