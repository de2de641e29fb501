use Rattle.std.proofs.Common.{[], get_or, sym, ap, ◌∙◌, arith}
use Rattle.strand_values.specs.Environments.{entry_content, with_variables, with_optional_content}
use Rattle.strand_values.proofs.Filled.{entry_put, entry_there, seen_put, some_of}
use Rattle.strand_values.proofs.environment.Environment.put.Goals as goal

pub index-requires : goal.index-requires
index-requires c =
    let i = c.self.inside in
    let env = c.args.self.now in
    let within = entry_there i.names.value i.entries.items i.filled.items c.self.invariant env c.self.view_is c.args.slot (get_or env.names c.args.slot []) c.requires.there in
    omega (arith, within, i.entries.ok.0)

pub index_mut-requires : goal.index_mut-requires
index_mut-requires c =
    let i = c.self.inside in
    let env = c.args.self.now in
    let within = entry_there i.names.value i.entries.items i.filled.items c.self.invariant env c.self.view_is c.args.slot (get_or env.names c.args.slot []) c.requires.there in
    omega (arith, within, i.entries.ok.0)

pub invariant_of-self : goal.invariant_of-self
invariant_of-self c =
    let i = c.self.inside in
    let env = c.args.self.now in
    let listed_now = rw c.replace.ensures.value at c.with_filled.ensures in
    let some = some_of (entry_content c.args.entry) c.requires.some in
    entry_put i.names.value i.entries.items i.filled.items c.self.invariant env c.self.view_is c.args.slot (get_or env.names c.args.slot []) c.requires.there
    c.index.result.now c.index.ensures c.with_filled.result.items listed_now c.args.entry some.0 some.1

pub returns : goal.returns
returns c = λ name there.
    let i = c.self.inside in
    let env = c.args.self.now in
    let listed_now = rw c.replace.ensures.value at c.with_filled.ensures in
    let some = some_of (entry_content c.args.entry) c.requires.some in
    seen_put i.names.value i.entries.items i.filled.items c.self.invariant env c.self.view_is c.args.slot name there
    c.index.result.now c.index.ensures c.with_filled.result.items listed_now c.args.entry some.0 some.1
    ∙ ap (λ o. with_variables env (with_optional_content env.variables name o)) (sym some.1)
