use Rattle.std.proofs.Common.{[], ◌∷◌}
use Rattle.serial_meaning.proofs.out.unmade.Given as goal

abbrev pub ghost-of : goal.ghost-of
ghost-of g a = g.event ∷ []
