use Rattle.std.proofs.Common.{◌≡◌, ◌++◌, ◌∙◌, ℤ, ℕ, Bool, pos, false, int_le, unsigned_abs, refl, ap, sym, to_z-of_z}
use Rattle.std.specs.Fmt.{signed_decimal}
use Rattle.std.specs.Prelude.{codes, decimal}
use Rattle.itoa.proofs.Decimal.{minus_first}
use Rattle.serial_meaning.specs.Render.{line}
use Rattle.run_lines.proofs.PutLemmas.{err_after, err_first, ok_after, on_err}
use Rattle.run_lines.proofs.line.put_signed_line.Goals as goal

with_sign : (z : ℤ) (n : ℕ) → int_le (pos 0) z ≡ false → n ≡ unsigned_abs z → line (signed_decimal z) ≡ codes "-" ++ line (decimal n)
with_sign z n below is = ap line (sym (minus_first z below)) ∙ ap (λ m. codes "-" ++ line (decimal m)) (sym is)

pub returns-in_err-put-clause-front : goal.returns-in_err-put-clause-front
returns-in_err-put-clause-front g c =
    let back = to_z-of_z c.ranges.number in
    let split = with_sign c.args.number (unsigned_abs c.args.number) (rw back at c.if-number-ge0.false) refl in
    on_err _ c.from_residual.result (err_first _ _ _ _ _ _ split c.in_err-put.ensures.front)

pub returns-clause-all : goal.returns-clause-all
returns-clause-all g c =
    let back = to_z-of_z c.ranges.number in
    let split = with_sign c.args.number c.unsigned_abs-2.result (rw back at c.if-number-ge0.false) (rw back at c.unsigned_abs-2.ensures.value) in
    ok_after _ _ _ _ _ _ _ _ split _ c.put_last-2.result c.in_ok-put.ensures.all c.put_last-2.ensures.all

pub returns-clause-front : goal.returns-clause-front
returns-clause-front g c =
    let back = to_z-of_z c.ranges.number in
    let split = with_sign c.args.number c.unsigned_abs-2.result (rw back at c.if-number-ge0.false) (rw back at c.unsigned_abs-2.ensures.value) in
    err_after _ _ _ _ _ _ _ _ split c.put_last-2.result c.in_ok-put.ensures.all c.put_last-2.ensures.front
