use Rattle.std.proofs.Common.{◌++◌, ◌∙◌, ap, arith}
use Rattle.std.specs.Prelude.{codes, decimal}
use Rattle.run_lines.proofs.LineLemmas.{digits}
use Rattle.run_lines.proofs.line.write_equation.Goals as goal

pub write_digits-end-requires : goal.write_digits-end-requires
write_digits-end-requires c = (omega (arith, digits c.args.number c.ranges.number.fits), omega (arith, c.told-text))

pub write_equals-end-requires : goal.write_equals-end-requires
write_equals-end-requires c = (omega (arith, digits c.args.number c.ranges.number.fits, c.write_digits-end.ensures.start), omega (arith, c.told-text, c.write_digits-end.auto.buf, c.write_digits-end.ensures.start))

pub write_digits-requires : goal.write_digits-requires
write_digits-requires c = (
  omega (arith, digits c.args.number c.ranges.number.fits, digits c.args.rank c.ranges.rank.fits, c.write_digits-end.ensures.start, c.write_equals-end.ensures.start),
  omega (arith, c.told-text, c.write_digits-end.auto.buf, c.write_digits-end.ensures.start, c.write_equals-end.ensures.start, c.write_equals-end.ensures.length),
)

pub returns-clause-written : goal.returns-clause-written
returns-clause-written c =
    c.write_digits.ensures.written ∙ ap (λ l. decimal c.args.rank ++ l) (c.write_equals-end.ensures.written ∙ ap (λ l. codes " = " ++ l) c.write_digits-end.ensures.written)
