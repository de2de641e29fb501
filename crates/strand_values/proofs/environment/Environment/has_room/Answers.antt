use Rattle.strand_values.proofs.environment.Environment.has_room.Goals as goal

pub items-requires : goal.items-requires
items-requires c = rw c.in-Some.is at c.requires
