use Rattle.std.proofs.Common.{◌∙◌, sym, ap}
use Rattle.std.specs.Option.{option_copied}
use Rattle.strand_moves.proofs.Frames.Names.{names-of, result-found}
use Rattle.strand_moves.proofs.instance_parts.InstanceParts.result.Goals as goal

pub value-requires : goal.value-requires
value-requires c =
    let plan = c.args.plan.now in
    let a = c.args.self.now.top in
    let there = sym c.function_in.ensures ∙ ap (λ o. option_copied o) c.in-Some.is in
    result-found plan a.function c.in-Some.f.now there c.slots.result.now (record { table = c.slots.ensures.table; found = c.slots.ensures.found }) a (names-of plan a c.requires c.in-Some.f.now there)
