use Rattle.meet_block.proofs.rounds.Rounds.hand.Given as goal

abbrev pub ghost-known : goal.ghost-known
ghost-known g a = a.counters.now.children.tags

abbrev pub ghost-known-2 : goal.ghost-known-2
ghost-known-2 g a = a.counters.now.children.loads
