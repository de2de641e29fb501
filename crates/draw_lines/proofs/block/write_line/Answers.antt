use Rattle.std.proofs.Common.{◌≡◌, ◌≤◌, ◌<◌, ◌^◌, ◌-◌, ℕ, length, arith, rules}
use Rattle.std.specs.Prelude.{decimal, slice_set}
use Rattle.std.proofs.lemmas.Fmt.{length-decimal-le}
use Rattle.std.proofs.lemmas.List.{length-set}
use Rattle.draw_lines.proofs.block.write_line.Goals as goal

digits : (n : ℕ) → n < 2 ^ 64 → length (decimal n) ≤ 20
digits n fits = length-decimal-le 20 n (omega arith) (omega (arith, fits)) fits

pub write_digits-requires : goal.write_digits-requires
write_digits-requires c =
    let few = digits c.args.number c.ranges.number.fits in
    let long : length (slice_set c.args.text.now (c.args.end - 1) 10) ≡ length c.args.text.now = length-set c.args.text.now (c.args.end - 1) 10 in
    (omega (arith, few, c.requires.room), omega (arith, long, c.requires.within))

pub returns-clause-short : goal.returns-clause-short
returns-clause-short c = let few = digits c.args.number c.ranges.number.fits in omega (arith, few, c.write_digits.ensures.start)
