use Rattle.strand_moves.proofs.instance_parts.InstanceParts.sync.Goals as goal

pub returns-then-pass_sync-clause-named : goal.returns-then-pass_sync-clause-named
returns-then-pass_sync-clause-named c = c.pass_sync.ensures.named

pub returns-clause-named : goal.returns-clause-named
returns-clause-named c = c.pass_sync.ensures.named
