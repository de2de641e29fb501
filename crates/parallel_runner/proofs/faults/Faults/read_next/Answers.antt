use Rattle.std.proofs.Common.{rules, ◌≡◌, List, [], ◌∷◌, ◌++◌, sym, ap, subst}
use Rattle.std.specs.Arc.{arc_value}
use Rattle.serial_meaning.specs.Answer.{KnownView}
use Rattle.parallel_runner.specs.Cells.{CellsView}
use Rattle.parallel_runner.specs.Faults.{AreKnown, FaultsView, ReadsOn}
use Rattle.parallel_runner.proofs.Knowing.{known_both, reads_one}
use Rattle.parallel_runner.proofs.faults.Faults.read_next.Goals as goal

pub invariant_of-self-in_err-note-in-Value : goal.invariant_of-self-in_err-note-in-Value
invariant_of-self-in_err-note-in-Value c = subst (λ (l : List KnownView). AreKnown l c.self.inside.cells.read) (sym c.in_err-note-in-Value.ensures.err) c.self.invariant

pub invariant_of-self-in-Value : goal.invariant_of-self-in-Value
invariant_of-self-in-Value c =
    let read : c.pass.new.self.read ≡ c.self.inside.cells.read ++ arc_value c.in-Value.known ∷ [] = ap (λ (x : CellsView KnownView). x.read) c.pass.ensures in
    let known : c.note.new.self ≡ c.self.inside.known ++ arc_value c.in-Value.known ∷ [] = search rules in
    known_both c.self.inside.known c.self.inside.cells.read c.note.new.self c.pass.new.self.read (arc_value c.in-Value.known) c.self.invariant known read

pub returns-in_ok-note-in-Value-clause-reads : goal.returns-in_ok-note-in-Value-clause-reads
returns-in_ok-note-in-Value-clause-reads c =
    let known : c.note.new.self ≡ c.self.inside.known ++ arc_value c.in-Value.known ∷ [] = search rules in
    let old : FaultsView = record { cells = c.self.inside.cells; known = c.self.inside.known } in
    let new : FaultsView = record { cells = c.pass.new.self; known = c.note.new.self } in
    subst (λ (f : FaultsView). ReadsOn f new) c.self.view_is (reads_one old new (arc_value c.in-Value.known) c.pass.ensures known)
