use Rattle.std.proofs.Common.{rules, subst}
use Rattle.serial_meaning.specs.declared.keep.All.{All}
use Rattle.strand_machine.specs.Stops.{IsResumed}
use Rattle.strand_machine.specs.Tasks.{TaskView}
use Rattle.strand_machine.specs.declared.stop.Resumed.TheVariants as resumed
use Rattle.parallel_runner.proofs.Keeping.{on_plan, still_plan, known_too}
use Rattle.parallel_runner.proofs.steps.resume.Goals as goal

pub with_known-requires : goal.with_known-requires
with_known-requires g c = known_too _ _ _ _ c.entry.invariant (on_plan c.entry.inside.task c.in-On.task (rw c.in-On.is at c.in_ok-resumed.ensures.resumed))

pub with_known-requires-in-NotYet : goal.with_known-requires-in-NotYet
with_known-requires-in-NotYet g c = known_too _ _ _ _ c.entry.invariant (still_plan c.entry.inside.task c.in-NotYet.task (rw c.in-NotYet.is at c.in_ok-resumed.ensures.resumed))

pub returns-in-On-clause-ok : goal.returns-in-On-clause-ok
returns-in-On-clause-ok g c = (
  c.in-On.task,
  subst (λ (t : TaskView). IsResumed {K = All} t (resumed.On c.in-On.task)) c.entry.view_is (rw c.in-On.is at c.in_ok-resumed.ensures.resumed),
  search rules,
)

pub returns-in_ok-stall-in-NotYet-clause-ok : goal.returns-in_ok-stall-in-NotYet-clause-ok
returns-in_ok-stall-in-NotYet-clause-ok g c = (
  c.in-NotYet.task,
  subst (λ (t : TaskView). IsResumed {K = All} t (resumed.NotYet c.in-NotYet.task)) c.entry.view_is (rw c.in-NotYet.is at c.in_ok-resumed.ensures.resumed),
  search rules,
)
