use Rattle.strand_moves.proofs.instance_parts.InstanceParts.receive.Goals as goal

pub receive-requires : goal.receive-requires
receive-requires c = rw c.in-Some.is at c.requires
