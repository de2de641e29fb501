use Rattle.std.proofs.Common.{◌+◌, arith, refl}
use Rattle.std.proofs.lemmas.Str.Parse.{digit_at, digits_value-take-le}
use Rattle.ped_path.proofs.ParseLemmas.{value_more}
use Rattle.ped_path.proofs.parse.rank_of.Goals as goal

pub overflow_sub-value : goal.overflow_sub-value
overflow_sub-value c = (digit_at c.args.digits.now c.loop-digit.digit-index c.requires (omega arith)).0

pub returns-then-value-gt-MOST_RANK : goal.returns-then-value-gt-MOST_RANK
returns-then-value-gt-MOST_RANK c = λ small.
    let more = value_more c.args.digits.now c.loop-digit.digit-index c.loop-digit.value _ (omega arith) c.requires c.loop-digit.invariant.so_far refl in
    let front = digits_value-take-le 10 c.args.digits.now (c.loop-digit.digit-index + 1) (omega arith) in omega (arith, more, front, small)

pub loop-digit-preserved : goal.loop-digit-preserved
loop-digit-preserved c = record {
  so_far = value_more c.args.digits.now c.loop-digit.digit-index c.loop-digit.value _ (omega arith) c.requires c.loop-digit.invariant.so_far refl;
  small = omega arith;
}
