use Rattle.script_check.specs.Slots.{has_slot}
use Rattle.strand_values.proofs.FoundOperands.{in_variable}
use Rattle.strand_values.proofs.plain.plain.Goals as goal

pub integer_of-requires : goal.integer_of-requires
integer_of-requires c = in_variable (has_slot c.args.slots.now c.args.env.now.names) c.args.e.now c.in-Var.name c.in-Var.is c.requires
