use Rattle.script_check.specs.Slots.{has_slot}
use Rattle.strand_values.proofs.FoundOperands.{at_argument}
use Rattle.strand_values.proofs.value.values.Goals as goal

pub evaluate-requires : goal.evaluate-requires
evaluate-requires c =
    at_argument (has_slot c.args.slots.now c.args.env.now.names) c.args.args.now c.loop-e.e-index c.e-item.result c.requires.args c.loop-e-test.true c.e-item.is
