use Rattle.std.proofs.Common.{List, None, Option, false, refl, ap, ◌∙◌}
use Rattle.serial_meaning.specs.declared.event.Fault.{Fault}
use Rattle.strand_meaning.specs.Trace.{AwaitedChild}
use Rattle.strand_machine.specs.Merge.{end_of, merge_of}
use Rattle.strand_machine.proofs.TakenAnswers.Cutting.{short-holds, short-some, short-view}
use Rattle.strand_machine.proofs.resume.cut_short.Goals as goal

pub unreachable-requires : goal.unreachable-requires
unreachable-requires g c =
    let ended = c.end_of.ensures ∙ ap (λ (f : Option Fault). end_of f c.args.merging.now.by_cut) c.take_fault.ensures.fault in
    short-some c.args.parts.now.state.links (merge_of c.args.parts.now c.args.merging.now) c.end_of.result c.requires.ends ended c.in_default.is

pub returns-clause-short : goal.returns-clause-short
returns-clause-short g c =
    let b = c.args.parts.now.state in
    let after = record b { trace = c.take_fault.new.self; waiting = false } in
    let ended = c.end_of.ensures ∙ ap (λ (f : Option Fault). end_of f c.args.merging.now.by_cut) c.take_fault.ensures.fault in
    let trace = c.take_fault.ensures.rest ∙ ap (λ (ps : List AwaitedChild). record { prefix = b.trace.prefix; fault = None; unmerged = ps }) c.requires.unmerged in
    rw c.set_remaining.ensures (short-view b.links (merge_of c.args.parts.now c.args.merging.now) b.advanced c.in-Some.outcome c.end_of.result ended c.in-Some.is after refl trace refl refl)

pub returns-clause-holds : goal.returns-clause-holds
returns-clause-holds g c =
    let b = c.args.parts.now.state in
    let after = record b { trace = c.take_fault.new.self; waiting = false } in
    let ended = c.end_of.ensures ∙ ap (λ (f : Option Fault). end_of f c.args.merging.now.by_cut) c.take_fault.ensures.fault in
    let trace = c.take_fault.ensures.rest ∙ ap (λ (ps : List AwaitedChild). record { prefix = b.trace.prefix; fault = None; unmerged = ps }) c.requires.unmerged in
    rw c.set_remaining.ensures (short-holds b.links (merge_of c.args.parts.now c.args.merging.now) c.requires.ends c.in-Some.outcome c.end_of.result ended c.in-Some.is after refl trace refl)
