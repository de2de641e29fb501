use Rattle.std.proofs.Common.{sym, subst, ap, ◌∙◌}
use Rattle.strand_machine.specs.Made.{LeavesOutcome, done_by, outcome_left}
use Rattle.strand_machine.specs.declared.parts.Parts.{Parts}
use Rattle.strand_machine.proofs.Moves.Making.{left-answers, left-done}
use Rattle.strand_machine.proofs.step.done.Goals as goal

pub unreachable-requires : goal.unreachable-requires
unreachable-requires g c = let left = subst (λ (p : Parts _). LeavesOutcome p) (sym c.into_inner-state.ensures) c.requires in c.in_default.not-Ends _ left.is

pub answer-answer-requires : goal.answer-answer-requires
answer-answer-requires g c =
    let left = subst (λ (p : Parts _). LeavesOutcome p) (sym c.into_inner-state.ensures) c.requires in left-answers c.into_inner-state.result c.in-Ends.outcome _ c.in-Ends.is c.prefix-prefix.ensures.prefix left

pub returns : goal.returns
returns g c =
    left-done c.into_inner-state.result c.in-Ends.outcome _ c.in-Ends.is c.prefix-prefix.ensures.prefix c.answer-answer.result.0 c.answer-answer.result.1 c.answer-answer.ensures.answer c.answer-answer.ensures.give
    ∙ ap (λ (p : Parts _). done_by p.state (outcome_left p.remaining)) c.into_inner-state.ensures
