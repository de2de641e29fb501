use Rattle.std.proofs.Common.{rules, ◌≡◌, ◌<◌, Some, length, get_or, option_map, ◌∙◌, sym, ap, subst, arith}
use Rattle.std.proofs.lemmas.List.{get_or_default}
use Rattle.std.specs.Arc.{arc_value}
use Rattle.once_cell.specs.Once.{cell_name}
use Rattle.parallel_runner.specs.Cells.{IsNext}
use Rattle.parallel_runner.proofs.NextCell.{is-next}
use Rattle.parallel_runner.proofs.cells.Cells.next.Goals as goal

pub returns : goal.returns
returns g c =
    let found = c.in-Some.ensures.lookup in
    let cells = (arc_value c.self.inside.cells).items in
    let count = c.self.inside.count in
    let same : c.deref-2.result.now ≡ cells = search rules in
    let lt : count < length cells = omega (arith, found.3.0, ap length same) in
    let next =
    is-next cell_name cells c.self.inside.read.items c.args.self.now c.in-Some.cell.now count c.self.view_is c.self.invariant.0 lt
    (λ d. sym (found.1 ∙ ap (λ l. get_or l count c.in-Some.cell.now) same ∙ get_or_default cells count c.in-Some.cell.now d lt)) in
    let known : option_map arc_value c.get_as.new.note.known ≡ Some (arc_value c.in_ok-value.value) = ap (option_map arc_value) c.in-Some-get_as.ensures.value.0 ∙ ap Some (sym c.in_ok-value.ensures) in
    (subst (IsNext c.args.self.now) (sym (c.get_as.ensures.cell ∙ c.note-note.ensures.0)) next, known)
