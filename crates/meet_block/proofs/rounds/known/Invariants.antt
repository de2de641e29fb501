use Rattle.meet_block.proofs.rounds.known.Given as goal

abbrev pub ghost-of : goal.ghost-of
ghost-of g a = g.items
