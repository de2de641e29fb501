use Rattle.std.proofs.Common.{◌≡◌, ◌≤◌, replicate, vec_capacity}
use Rattle.strand_values.specs.declared.entry.Entry.TheVariants.{Vacant}
use Rattle.strand_values.proofs.environment.Environment.vacant.Given as goal

abbrev pub invariant-loop : goal.invariant-loop
invariant-loop l = record {
  items : l.entries.items ≡ replicate l.counter Vacant;
  room : l.count ≤ vec_capacity l.entries;
}
