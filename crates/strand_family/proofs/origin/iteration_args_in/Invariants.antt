use Rattle.std.proofs.Common.{◌≡◌, ◌∷◌, take}
use Rattle.std.specs.Prelude.{pos}
use Rattle.std.specs.Int.{int_wrapping_add, w64}
use Rattle.serial_meaning.specs.declared.value.Value.TheVariants.{Int}
use Rattle.strand_family.proofs.origin.iteration_args_in.Given as goal

abbrev pub invariant-loop-value : goal.invariant-loop-value
invariant-loop-value l = l.args.items ≡ Int (int_wrapping_add w64 l.first (pos l.k)) ∷ take l.value-index l.rest
