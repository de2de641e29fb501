use Rattle.std.proofs.Common.{ap, ◌∙◌, sym}
use Rattle.std.specs.Option.{option_copied}
use Rattle.strand_moves.proofs.Frames.Callees.{callee-there}
use Rattle.strand_moves.proofs.instance_parts.InstanceParts.call.Goals as goal

pub enter-requires-clause-number : goal.enter-requires-clause-number
enter-requires-clause-number c = c.callee-number.ensures

pub enter-requires-clause-there : goal.enter-requires-clause-there
enter-requires-clause-there c = sym c.function_in.ensures ∙ ap (λ o. option_copied o) c.in-Some.is

-- a function that is called is there
pub unreachable-requires : goal.unreachable-requires
unreachable-requires c =
    let plan = c.args.plan.now in
    let number = c.callee-number.ensures in
    callee-there plan c.args.call.now.name c.requires.called (sym (rw number at c.function_in.ensures) ∙ ap (λ o. option_copied o) c.in_default.is)
