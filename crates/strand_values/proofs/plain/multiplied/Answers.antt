use Rattle.script_check.specs.Slots.{has_slot}
use Rattle.strand_values.proofs.FoundOperands.{at_factor}
use Rattle.strand_values.proofs.plain.multiplied.Goals as goal

pub leaf-requires : goal.leaf-requires
leaf-requires c =
    at_factor (has_slot c.args.slots.now c.args.env.now.names) c.args.rest.now c.loop-part.part-index c.part-item.result c.requires c.loop-part-test.true c.part-item.is
