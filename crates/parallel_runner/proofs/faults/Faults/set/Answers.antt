use Rattle.std.proofs.Common.{sym, subst}
use Rattle.std.specs.Arc.{arc_value}
use Rattle.parallel_runner.specs.Faults.{FaultsView, StandsFirst}
use Rattle.parallel_runner.proofs.Knowing.{stands_first}
use Rattle.parallel_runner.proofs.faults.Faults.set.Goals as goal

pub set-requires : goal.set-requires
set-requires c =
    stands_first (arc_value c.args.known.value).plan (arc_value c.args.known.value).fault c.self.inside.known c.self.inside.cells.read c.self.invariant
    (subst (λ (f : FaultsView). StandsFirst (arc_value c.args.known.value).plan (arc_value c.args.known.value).fault f.known) (sym c.self.view_is) c.requires)
