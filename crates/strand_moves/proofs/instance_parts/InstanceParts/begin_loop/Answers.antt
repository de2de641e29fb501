use Rattle.strand_moves.proofs.instance_parts.InstanceParts.begin_loop.Goals as goal

pub has_room-requires : goal.has_room-requires
has_room-requires c = rw c.as_ref.ensures.value c.requires
