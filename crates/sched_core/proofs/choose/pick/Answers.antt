use Rattle.std.proofs.Common.{◌≡◌, List, length, sym, ap, ◌∙◌}
use Rattle.sched_meaning.specs.Simulation.{picked_of}
use Rattle.sched_meaning.specs.declared.event.CoreEvent.{CoreEvent}
use Rattle.sched_core.proofs.Choices.Picking.{picked-none, picked-so}
use Rattle.sched_core.proofs.choose.pick.Goals as goal

pub returns-then-count-eq0 : goal.returns-then-count-eq0
returns-then-count-eq0 c =
    let events = c.in_ok-events.events in
    let nothing : length events.items ≡ 0 = sym events.ok.0 ∙ sym c.len-count.ensures ∙ c.if-count-eq0.true in
    sym (ap (λ (es : List CoreEvent). picked_of es c.args.word) (sym c.in_ok-events.ensures) ∙ picked-none events.items c.args.word nothing)

pub returns : goal.returns
returns c =
    let events = c.in_ok-events.events in
    let found = c.get.ensures.lookup in
    let many : length events.items ≡ c.len-count.result = sym events.ok.0 ∙ sym c.len-count.ensures in
    c.copied.ensures ∙ picked-so c.get.result c.deref.result.now events.items c.args.word c.len-count.result c.deref.ensures.value many c.if-count-eq0.false found.0 found.1
    ∙ ap (λ (es : List CoreEvent). picked_of es c.args.word) c.in_ok-events.ensures
