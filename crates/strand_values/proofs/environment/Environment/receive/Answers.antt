use Rattle.std.proofs.Common.{◌≡◌, Some, get_or, is_some, ap, ◌∙◌}
use Rattle.script_check.specs.Slots.{slot_in}
use Rattle.strand_values.specs.Environments.{with_variables, with_optional_content}
use Rattle.strand_values.proofs.Filled.{in_table, is_slot, slot_found}
use Rattle.strand_values.proofs.environment.Environment.receive.Goals as goal

pub bounds-slots-at : goal.bounds-slots-at
bounds-slots-at c = rw c.at.ensures (in_table c.args.slots.now c.args.self.now.names c.args.target.now c.requires)

pub put-requires-clause-there : goal.put-requires-clause-there
put-requires-clause-there c =
    let x = c.args.target.now in
    let names = c.args.self.now.names in
    rw c.at.ensures (is_slot names x.bytes (get_or c.args.slots.now x.at 0) (slot_found c.args.slots.now names x c.requires))

pub put-requires-clause-some : goal.put-requires-clause-some
put-requires-clause-some c = ap (λ o. is_some o) c.of.ensures

pub returns : goal.returns
returns c =
    let env = c.args.self.now in
    let x = c.args.target.now in
    let there : slot_in env.names x.bytes ≡ Some (get_or c.args.slots.now c.at.result 0) = rw c.at.ensures (slot_found c.args.slots.now env.names x c.requires) in
    c.put.ensures x.bytes there ∙ ap (λ o. with_variables env (with_optional_content env.variables x.bytes o)) c.of.ensures
