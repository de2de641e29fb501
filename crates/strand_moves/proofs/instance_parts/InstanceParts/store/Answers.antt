use Rattle.std.proofs.Common.{◌∙◌, refl, sym, w64, rules, SFits}
use Rattle.std.proofs.lemmas.Int.{to_z-of_z}
use Rattle.script_grammar.specs.declared.tree.Act.TheOpen as act
use Rattle.serial_meaning.specs.Values.{value_of}
use Rattle.strand_moves.specs.declared.instance_parts.InstanceParts.{InstanceParts}
use Rattle.strand_moves.specs.InstanceParts.{machine_of, present_of}
use Rattle.strand_moves.specs.Moves.{acted, present_pedigree}
use Rattle.strand_values.specs.Gives.{integer_result}
use Rattle.strand_moves.proofs.Statements.Conditions.{number-known, number-fault}
use Rattle.strand_moves.proofs.Statements.Naming.{names-stay, top-named, variables-are}
use Rattle.strand_moves.proofs.Statements.Equations.{store, store-fault, store-index-fault, store-value-fault}
use Rattle.strand_moves.proofs.OpenScopes.Exits.{silent-exit}
use Rattle.strand_moves.proofs.SpawnedChildren.Items.{missing, there}
use Rattle.strand_moves.proofs.instance_parts.InstanceParts.store.Goals as goal

pub returns-in_err-index-clause-shows : goal.returns-in_err-index-clause-shows
returns-in_err-index-clause-shows c = λ plan st.
    let i = c.args.self.now in
    let d = value_of c.args.i.now i.top.env.variables in
    silent-exit (acted plan (present_of i) (machine_of plan i) st (act.Store c.args.x.now c.args.i.now c.args.e.now)) (present_pedigree (present_of i) (machine_of plan i)) _ c.from_residual.result c.in_err-index.field-0.0
    (integer_result d) c.from_residual.ensures.1 c.in_err-index.ensures (λ kind h. store-index-fault plan (present_of i) (machine_of plan i) st c.args.x.now c.args.i.now c.args.e.now kind (number-fault d kind h))

pub returns-then-is_none-clause-shows : goal.returns-then-is_none-clause-shows
returns-then-is_none-clause-shows c = λ plan st.
    let i = c.args.self.now in
    let n = c.in_ok-index.index in
    let fits : SFits w64 n = search rules in
    let known = number-known (value_of c.args.i.now i.top.env.variables) n c.in_ok-index.ensures in
    let at = rw (to_z-of_z w64 n fits, sym known.1.1) at c.item.ensures in
    store-fault plan (present_of i) (machine_of plan i) st c.args.x.now c.args.i.now c.args.e.now known.0 known.1.0 (sym at ∙ missing c.item.result c.if-is_none.ensures)

pub returns-in_err-value-clause-shows : goal.returns-in_err-value-clause-shows
returns-in_err-value-clause-shows c = λ plan st.
    let i = c.args.self.now in
    let n = c.in_ok-index.index in
    let fits : SFits w64 n = search rules in
    let known = number-known (value_of c.args.i.now i.top.env.variables) n c.in_ok-index.ensures in
    let at = rw (to_z-of_z w64 n fits, sym known.1.1) at c.item.ensures in
    let old = there c.item.result c.if-is_none.ensures in
    silent-exit (acted plan (present_of i) (machine_of plan i) st (act.Store c.args.x.now c.args.i.now c.args.e.now)) (present_pedigree (present_of i) (machine_of plan i)) _ c.from_residual-in_err-value.result
    c.in_err-value.field-0.0 (value_of c.args.e.now i.top.env.variables) c.from_residual-in_err-value.ensures.1 c.in_err-value.ensures
    (λ kind. store-value-fault plan (present_of i) (machine_of plan i) st c.args.x.now c.args.i.now c.args.e.now known.0 old.0 kind known.1.0 (sym at ∙ old.1))

pub returns-clause-shows : goal.returns-clause-shows
returns-clause-shows c = λ plan st.
    let i = c.args.self.now in
    let n = c.in_ok-index.index in
    let fits : SFits w64 n = search rules in
    let known = number-known (value_of c.args.i.now i.top.env.variables) n c.in_ok-index.ensures in
    let at = rw (to_z-of_z w64 n fits, sym known.1.1) at c.item.ensures in
    let set = rw (to_z-of_z w64 n fits, sym known.1.1) at c.set_item.ensures in
    let old = there c.item.result c.if-is_none.ensures in
    store plan (present_of i) (machine_of plan i) st c.args.x.now c.args.i.now c.args.e.now known.0 c.in_ok-value.value old.0 c.set_item.new.self.variables known.1.0 (sym at ∙ old.1) c.in_ok-value.ensures (variables-are c.set_item.new.self i.top.env _ set)

pub returns-clause-there : goal.returns-clause-there
returns-clause-there c =
    record { below = refl; function = refl; levels = refl; target = refl; names = names-stay c.set_item.new.self c.args.self.now.top.env _ c.set_item.ensures; steps = refl }

pub returns-clause-named : goal.returns-clause-named
returns-clause-named c = λ plan.
    let i = c.args.self.now in
    let new : InstanceParts = record i { top = record i.top { env = c.set_item.new.self } } in
    top-named plan i new refl refl refl (names-stay c.set_item.new.self i.top.env _ c.set_item.ensures)
