use Rattle.std.proofs.Common.{[], get_or, ap, ◌∙◌, arith}
use Rattle.serial_meaning.specs.Exec.{with_front, with_content}
use Rattle.serial_meaning.specs.Values.{items_of}
use Rattle.serial_meaning.specs.declared.environment.Content.TheVariants.{Array}
use Rattle.strand_values.specs.Environments.{entry_content, with_variables}
use Rattle.strand_values.proofs.Filled.{entry_holds, entry_put, entry_there, seen_put}
use Rattle.strand_values.proofs.environment.Environment.fill_entry.Goals as goal

pub index-requires : goal.index-requires
index-requires c =
    let i = c.self.inside in
    let env = c.args.self.now in
    let slot = c.args.slot in
    let within = entry_there i.names.value i.entries.items i.filled.items c.self.invariant env c.self.view_is slot (get_or env.names slot []) c.requires in
    omega (arith, within, i.entries.ok.0)

pub index_mut-requires : goal.index_mut-requires
index_mut-requires c =
    let i = c.self.inside in
    let env = c.args.self.now in
    let slot = c.args.slot in
    let within = entry_there i.names.value i.entries.items i.filled.items c.self.invariant env c.self.view_is slot (get_or env.names slot []) c.requires in
    omega (arith, within, i.entries.ok.0)

pub invariant_of-self : goal.invariant_of-self
invariant_of-self c =
    let i = c.self.inside in
    let env = c.args.self.now in
    let slot = c.args.slot in
    let listed_now = rw c.replace.ensures.value at c.with_filled.ensures in
    entry_put i.names.value i.entries.items i.filled.items c.self.invariant env c.self.view_is slot (get_or env.names slot []) c.requires
    c.index.result.now c.index.ensures c.with_filled.result.items listed_now c.set_front.new.self (Array (with_front (items_of (entry_content c.index_mut.result.now)) c.args.values.now)) c.set_front.ensures

pub returns : goal.returns
returns c = λ name there.
    let i = c.self.inside in
    let env = c.args.self.now in
    let slot = c.args.slot in
    let listed_now = rw c.replace.ensures.value at c.with_filled.ensures in
    seen_put i.names.value i.entries.items i.filled.items c.self.invariant env c.self.view_is slot name there
    c.index.result.now c.index.ensures c.with_filled.result.items listed_now c.set_front.new.self (Array (with_front (items_of (entry_content c.index_mut.result.now)) c.args.values.now)) c.set_front.ensures
    ∙ ap (λ o. with_variables env (with_content env.variables name (Array (with_front (items_of o) c.args.values.now))))
    (entry_holds i.names.value i.entries.items i.filled.items c.self.invariant env c.self.view_is slot name there c.index_mut.result.now c.index_mut.ensures.value)
