use Rattle.std.proofs.Common.{inl, inr, length, refl, sym, ◌∙◌}
use Rattle.script_grammar.specs.declared.tree.Act.TheOpen as act
use Rattle.serial_meaning.specs.Values.{value_of}
use Rattle.strand_moves.specs.declared.instance_parts.InstanceParts.{InstanceParts}
use Rattle.strand_moves.specs.InstanceParts.{machine_of, present_of, statements_of}
use Rattle.strand_moves.specs.Moves.{acted, present_pedigree}
use Rattle.strand_values.specs.Gives.{holding}
use Rattle.strand_moves.proofs.Statements.Conditions.{holding-known, holding-fault}
use Rattle.strand_moves.proofs.Statements.Naming.{top-named}
use Rattle.strand_moves.proofs.Cursors.CursorLemmas.{nothing-in}
use Rattle.strand_moves.proofs.Cursors.Entering.{branch-into, branch-past}
use Rattle.strand_moves.proofs.Statements.Equations.{branch-fault}
use Rattle.strand_moves.proofs.OpenScopes.Exits.{silent-exit}
use Rattle.strand_moves.proofs.instance_parts.InstanceParts.branch.Goals as goal

pub returns-in_err-holds-clause-shows : goal.returns-in_err-holds-clause-shows
returns-in_err-holds-clause-shows c = λ plan st after a.
    let first = c.args.yes.now in
    let second = c.args.no.now in
    let i = c.args.self.now in
    let d = value_of c.args.e.now i.top.env.variables in
    silent-exit (acted plan (present_of i) (machine_of plan i) st (act.If c.args.e.now first second)) (present_pedigree (present_of i) (machine_of plan i)) _ c.from_residual.result c.in_err-holds.field-0.0
    (holding d) c.from_residual.ensures.1 c.in_err-holds.ensures (λ kind h. branch-fault plan (present_of i) (machine_of plan i) st c.args.e.now first second kind (holding-fault d kind h))

pub returns-clause-shows : goal.returns-clause-shows
returns-clause-shows c = λ plan st after a.
    let first = c.args.yes.now in
    let second = c.args.no.now in
    let i = c.args.self.now in
    let known = holding-known (value_of c.args.e.now i.top.env.variables) c.in_ok-holds.holds c.in_ok-holds.ensures in
    branch-into plan i st c.args.e.now known.0 c.enter.new.self known.1.0 first second c.in_ok-holds.holds (sym known.1.1) a
    (c.in_ok-enter.ensures.left (statements_of plan i.top) st after)

pub returns-then-is_empty-clause-shows : goal.returns-then-is_empty-clause-shows
returns-then-is_empty-clause-shows c = λ plan st after a.
    let i = c.args.self.now in
    let known = holding-known (value_of c.args.e.now i.top.env.variables) c.in_ok-holds.holds c.in_ok-holds.ensures in
    let none = nothing-in c.picked.result.now (length c.picked.result.now) refl c.is_empty.result c.is_empty.ensures c.if-is_empty.true in
    branch-past plan i st c.args.e.now known.0 i.top.cursor known.1.0 c.args.yes.now c.args.no.now c.in_ok-holds.holds (sym known.1.1) (sym c.picked.ensures ∙ none)

pub returns-then-is_empty-clause-cursor : goal.returns-then-is_empty-clause-cursor
returns-then-is_empty-clause-cursor c = inl refl

pub returns-clause-cursor : goal.returns-clause-cursor
returns-clause-cursor c = inr c.in_ok-enter.ensures.enters

pub returns-clause-named : goal.returns-clause-named
returns-clause-named c = λ plan.
    let i = c.args.self.now in
    let new : InstanceParts = record i { top = record i.top { cursor = c.enter.new.self } } in
    top-named plan i new refl refl refl refl

pub returns-in_err-enter-clause-named : goal.returns-in_err-enter-clause-named
returns-in_err-enter-clause-named c = λ plan.
    let i = c.args.self.now in
    let new : InstanceParts = record i { top = record i.top { cursor = c.enter.new.self } } in
    top-named plan i new refl refl refl refl
