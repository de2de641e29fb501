use Rattle.std.proofs.Common.{◌≡◌, ◌-◌, get_or, arith}
use Rattle.script_text.proofs.Parsing.Decimals.{decimal-too_big}
use Rattle.script_text.proofs.parser.source.decimal_value.Goals as goal

pub returns-then-value-digit : goal.returns-then-value-digit
returns-then-value-digit c =
    let digit : c.from-digit.result ≡ get_or c.args.digits.now c.loop-digit.digit-index 0 - 48 = cc in
    decimal-too_big c.loop-digit.value c.loop-digit.digit-index 9223372036854775807 c.from-digit.result c.args.digits.now c.loop-digit-test.true c.loop-digit.invariant.so_far digit (omega arith) c.if-value-digit.true
