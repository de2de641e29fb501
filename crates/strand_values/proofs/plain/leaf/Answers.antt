use Rattle.script_check.specs.Slots.{has_slot}
use Rattle.strand_values.proofs.FoundOperands.{in_variable}
use Rattle.strand_values.proofs.plain.leaf.Goals as goal

pub integer_or_zero-requires : goal.integer_or_zero-requires
integer_or_zero-requires c = in_variable (has_slot c.args.slots.now c.args.env.now.names) c.args.e.now c.in-Var.name c.in-Var.is c.requires
