use Rattle.std.proofs.Common.{rules, ◌≡◌, List, [], ◌∷◌, ◌++◌, Contains, sym, subst}
use Rattle.std.specs.Arc.{arc_value}
use Rattle.serial_meaning.specs.Answer.{KnownView}
use Rattle.parallel_runner.proofs.Knowing.{last-one, noted_known}
use Rattle.parallel_runner.proofs.faults.Faults.offer.Goals as goal

pub invariant_of-self : goal.invariant_of-self
invariant_of-self c = noted_known c.note.result c.self.inside.known c.note.new.self c.self.inside.cells.read _ c.note.ensures.ok c.note.ensures.err c.self.invariant

pub invariant_of-self-then-is_spent : goal.invariant_of-self-then-is_spent
invariant_of-self-then-is_spent c =
    noted_known c.note.result c.self.inside.known c.note.new.self c.self.inside.cells.read _ c.note.ensures.ok c.note.ensures.err c.self.invariant

pub returns-then-is_spent : goal.returns-then-is_spent
returns-then-is_spent c =
    let grown : c.note.new.self ≡ c.self.inside.known ++ arc_value c.args.known.value ∷ [] = search rules in (
      c.is_spent.ensures.0 c.if-is_spent.true,
      subst (λ (l : List KnownView). Contains l (arc_value c.args.known.value)) (sym grown) (last-one c.self.inside.known (arc_value c.args.known.value)),
    )
