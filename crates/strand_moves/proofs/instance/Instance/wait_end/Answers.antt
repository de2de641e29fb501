use Rattle.std.proofs.Common.{IfOk, None, subst}
use Rattle.strand_moves.specs.declared.instance_parts.InstanceParts.{InstanceParts}
use Rattle.strand_moves.specs.Waits.{HasWaited}
use Rattle.strand_moves.proofs.instance.Instance.wait_end.Goals as goal

pub returns-clause-did : goal.returns-clause-did
returns-clause-did c = λ d.
    subst (λ (r : InstanceParts). IfOk d.wait_end.result (HasWaited c.S.EventSink.after d.args.plan.now r d.args.sink.now None d.wait_end.new.self d.wait_end.new.sink))
    d.deref_mut.ensures.value d.wait_end.ensures.did
