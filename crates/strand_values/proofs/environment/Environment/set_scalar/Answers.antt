use Rattle.std.proofs.Common.{get_or, is_some, ap, ◌∙◌}
use Rattle.strand_values.specs.Environments.{with_variables, with_optional_content}
use Rattle.strand_values.proofs.Filled.{in_table, is_slot, slot_found}
use Rattle.strand_values.proofs.environment.Environment.set_scalar.Goals as goal

pub bounds-slots-name : goal.bounds-slots-name
bounds-slots-name c = in_table c.args.slots.now c.args.self.now.names c.args.name.now c.requires

pub put-requires-clause-there : goal.put-requires-clause-there
put-requires-clause-there c =
    let x = c.args.name.now in
    let names = c.args.self.now.names in
    is_slot names x.bytes (get_or c.args.slots.now x.at 0) (slot_found c.args.slots.now names x c.requires)

pub put-requires-clause-some : goal.put-requires-clause-some
put-requires-clause-some c = ap (λ o. is_some o) c.of.ensures

pub returns : goal.returns
returns c =
    let env = c.args.self.now in
    let x = c.args.name.now in
    c.put.ensures x.bytes (slot_found c.args.slots.now env.names x c.requires) ∙ ap (λ o. with_variables env (with_optional_content env.variables x.bytes o)) c.of.ensures
