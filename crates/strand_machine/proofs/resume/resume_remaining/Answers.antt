use Rattle.std.proofs.Common.{subst, sym}
use Rattle.strand_meaning.specs.Task.{resumed}
use Rattle.strand_machine.specs.Merge.{BecomesStage}
use Rattle.strand_machine.specs.declared.remaining.Stage.{Stage}
use Rattle.strand_machine.proofs.TakenAnswers.Taking.{runs-on}
use Rattle.strand_machine.proofs.resume.resume_remaining.Goals as goal

pub returns-in_ok-resume_stage-in-Runs : goal.returns-in_ok-resume_stage-in-Runs
returns-in_ok-resume_stage-in-Runs c =
    runs-on c.args.remaining.now _ c.set.new.place c.in-Runs.is (subst (λ (s : Stage). BecomesStage resumed s c.set.new.place) c.replace-was.ensures.value
    (subst (BecomesStage resumed c.replace-was.result) (sym c.set.ensures) c.in_ok-resume_stage-in-Runs.ensures))
