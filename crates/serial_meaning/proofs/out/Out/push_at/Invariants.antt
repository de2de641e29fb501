use Rattle.std.proofs.Common.{◌++◌, ◌∷◌, []}
use Rattle.serial_meaning.specs.EventKinds.{event_at}
use Rattle.serial_meaning.proofs.out.Out.push_at.Given as goal

abbrev pub ghost-unmade : goal.ghost-unmade
ghost-unmade g a = event_at (a.path.now ++ a.rank ∷ []) a.kind
