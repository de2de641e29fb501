use Rattle.script_check.specs.Slots.{has_slot}
use Rattle.strand_values.proofs.FoundOperands.{at_summand}
use Rattle.strand_values.proofs.plain.total.Goals as goal

pub operand-requires : goal.operand-requires
operand-requires c =
    at_summand (has_slot c.args.slots.now c.args.env.now.names) c.args.rest.now c.loop-part.part-index c.part-item.result c.requires c.loop-part-test.true c.part-item.is
