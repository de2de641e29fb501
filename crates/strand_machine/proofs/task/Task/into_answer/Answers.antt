use Rattle.std.proofs.Common.{sym, ap, ◌∙◌, subst}
use Rattle.strand_machine.specs.Tasks.{HoldsOfTask, view_of}
use Rattle.strand_machine.specs.declared.parts.Parts.{Parts}
use Rattle.strand_machine.proofs.NextStops.Advancing.{is-short, outcome-answers, short-ends}
use Rattle.strand_machine.proofs.task.Task.into_answer.Goals as goal

pub unreachable-requires : goal.unreachable-requires
unreachable-requires g c =
    let p = c.emptied-parts.result.0 in
    let view = ap (λ (q : Parts _). view_of q.state q.remaining) c.emptied-parts.ensures ∙ c.self.view_is in is-short p.state p.remaining c.args.self view c.requires c.in_default.not-Ends

pub answer-requires : goal.answer-requires
answer-requires g c =
    let p = c.emptied-parts.result.0 in
    let holds = subst (λ (q : Parts _). HoldsOfTask q.state q.remaining) (sym c.emptied-parts.ensures) c.self.invariant in outcome-answers p.state p.remaining c.in-Ends.ended _ c.in-Ends.is c.into_prefix-prefix.ensures holds

pub returns : goal.returns
returns g c =
    let p = c.emptied-parts.result.0 in
    let view = ap (λ (q : Parts _). view_of q.state q.remaining) c.emptied-parts.ensures ∙ c.self.view_is in
    let holds = subst (λ (q : Parts _). HoldsOfTask q.state q.remaining) (sym c.emptied-parts.ensures) c.self.invariant in
    short-ends p.state p.remaining c.in-Ends.ended c.args.self view c.in-Ends.is holds _ c.answer.result.0 c.answer.result.1 c.into_prefix-prefix.ensures c.answer.ensures.answer c.answer.ensures.give
