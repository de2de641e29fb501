use Rattle.std.proofs.Common.{inl, inr, ◌∙◌, refl}
use Rattle.script_grammar.specs.declared.tree.Act.TheOpen as act
use Rattle.serial_meaning.specs.Values.{value_of}
use Rattle.strand_moves.specs.declared.instance_parts.InstanceParts.{InstanceParts}
use Rattle.strand_moves.specs.InstanceParts.{machine_of, present_of, statements_of}
use Rattle.strand_moves.specs.Moves.{acted, present_pedigree}
use Rattle.strand_values.specs.Gives.{holding}
use Rattle.strand_moves.proofs.Statements.Conditions.{holding-known, holding-fault}
use Rattle.strand_moves.proofs.Statements.Naming.{top-named}
use Rattle.strand_moves.proofs.Cursors.Entering.{turn-into}
use Rattle.strand_moves.proofs.Statements.Equations.{no-turn, turn-fault}
use Rattle.strand_moves.proofs.OpenScopes.Exits.{silent-exit}
use Rattle.strand_moves.proofs.instance_parts.InstanceParts.while_test.Goals as goal

pub returns-in_err-holds-clause-shows : goal.returns-in_err-holds-clause-shows
returns-in_err-holds-clause-shows c = λ plan st body after a.
    let i = c.args.self.now in
    let d = value_of c.args.e.now i.top.env.variables in
    silent-exit (acted plan (present_of i) (machine_of plan i) st (act.While c.args.e.now body)) (present_pedigree (present_of i) (machine_of plan i)) _ c.from_residual.result c.in_err-holds.field-0.0
    (holding d) c.from_residual.ensures.1 c.in_err-holds.ensures (λ kind h. turn-fault plan (present_of i) (machine_of plan i) st c.args.e.now body kind (holding-fault d kind h))

pub returns-in_ok-enter_loop-clause-shows : goal.returns-in_ok-enter_loop-clause-shows
returns-in_ok-enter_loop-clause-shows c = λ plan st body after a.
    let i = c.args.self.now in
    let known = holding-known (value_of c.args.e.now i.top.env.variables) c.in_ok-holds.holds c.in_ok-holds.ensures in
    turn-into plan i st c.args.e.now known.0 c.enter_loop.new.self known.1.0 body (known.1.1 ∙ c.if-holds.true) a (c.in_ok-enter_loop.ensures.left (statements_of plan i.top) st after)

pub returns-else-holds-clause-shows : goal.returns-else-holds-clause-shows
returns-else-holds-clause-shows c = λ plan st body after a.
    let i = c.args.self.now in
    let known = holding-known (value_of c.args.e.now i.top.env.variables) c.in_ok-holds.holds c.in_ok-holds.ensures in
    no-turn plan (present_of i) (machine_of plan i) st c.args.e.now body known.0 known.1.0 (known.1.1 ∙ c.if-holds.false)

pub returns-in_ok-enter_loop-clause-named : goal.returns-in_ok-enter_loop-clause-named
returns-in_ok-enter_loop-clause-named c = λ plan.
    let i = c.args.self.now in
    let new : InstanceParts = record i { top = record i.top { cursor = c.enter_loop.new.self } } in
    top-named plan i new refl refl refl refl

pub returns-in_err-enter_loop-clause-named : goal.returns-in_err-enter_loop-clause-named
returns-in_err-enter_loop-clause-named c = λ plan.
    let i = c.args.self.now in
    let new : InstanceParts = record i { top = record i.top { cursor = c.enter_loop.new.self } } in
    top-named plan i new refl refl refl refl

pub returns-in_ok-enter_loop-clause-cursor : goal.returns-in_ok-enter_loop-clause-cursor
returns-in_ok-enter_loop-clause-cursor c = inr c.in_ok-enter_loop.ensures.enters

pub returns-else-holds-clause-cursor : goal.returns-else-holds-clause-cursor
returns-else-holds-clause-cursor c = inl refl
