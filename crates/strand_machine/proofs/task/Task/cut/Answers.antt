use Rattle.std.proofs.Common.{sym, subst}
use Rattle.serial_meaning.specs.Answer.{IsCut}
use Rattle.strand_machine.specs.Links.{LinksView}
use Rattle.strand_machine.specs.Tasks.{TaskView}
use Rattle.strand_machine.proofs.task.Task.cut.Goals as goal

pub answer-requires : goal.answer-requires
answer-requires g c =
    subst (λ (f : LinksView). IsCut f.plan f.origin c.args.by) (sym c.end-links.ensures.links)
    (subst (λ (t : TaskView). IsCut t.task.plan t.task.origin c.args.by) (sym c.self.view_is) c.requires.stands)
