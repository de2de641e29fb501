use Rattle.std.proofs.Common.{◌≡◌, ℕ, List, [], ◌∷◌, ◌++◌, length, replicate, refl, ap, ◌∙◌, arith}
use Rattle.std.proofs.lemmas.List.{length-replicate, replicate_more}
use Rattle.strand_values.specs.declared.entry.Entry.{Entry}
use Rattle.strand_values.specs.declared.entry.Entry.TheVariants.{Vacant}
use Rattle.strand_values.proofs.Filled.{vacant_is}
use Rattle.strand_values.proofs.environment.Environment.vacant.Goals as goal

pub push_reserved-requires : goal.push_reserved-requires
push_reserved-requires c =
    let long : length c.loop.entries.items ≡ c.loop.counter = ap length c.loop.invariant.items ∙ length-replicate c.loop.counter Vacant in
    omega (arith, long, c.loop.entries.ok.0, c.loop.invariant.room)

pub loop-preserved : goal.loop-preserved
loop-preserved c = record {
  items = c.push_reserved.ensures.items ∙ ap (λ (l : List Entry). l ++ Vacant ∷ []) c.loop.invariant.items ∙ replicate_more c.loop.counter Vacant;
  room = omega (arith, c.push_reserved.ensures.capacity, c.loop.invariant.room);
}

pub invariant_of-result : goal.invariant_of-result
invariant_of-result c =
    let same = ap length c.as_slice-count.ensures in
    let all_made : c.loop.counter ≡ length c.args.names.now = omega (arith, same) in
    rw (c.none.ensures, c.of.ensures) (vacant_is c.args.names.now c.loop.entries.items (c.loop.invariant.items ∙ ap (λ (n : ℕ). replicate n Vacant) all_made))

pub returns : goal.returns
returns c = rw (c.of.ensures, c.none.ensures) refl
