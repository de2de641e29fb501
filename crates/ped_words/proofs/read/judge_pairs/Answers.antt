use Rattle.std.proofs.Common.{◌+◌, map, ◌∙◌, ap, arith}
use Rattle.std.specs.Prelude.{string_bytes}
use Rattle.std.proofs.lemmas.List.{length-map}
use Rattle.std.proofs.lemmas.Result.{err_from_is_err_and}
use Rattle.ped_words.specs.Judging.{broken_pair, pairs_in}
use Rattle.ped_words.specs.Values.{option_values}
use Rattle.ped_words.proofs.RuleLemmas.{none_more, refused_first}
use Rattle.ped_words.proofs.ValueLemmas.{count_le}
use Rattle.ped_words.proofs.read.judge_pairs.Goals as goal

pub judge_pair-requires-clause-small : goal.judge_pair-requires-clause-small
judge_pair-requires-clause-small c = let few = count_le (option_values (map string_bytes c.args.words.now) c.loop-pair.pair) in omega (arith, few, c.loop-pair.invariant.counted)

pub overflow_add-pair : goal.overflow_add-pair
overflow_add-pair c = let few = count_le (option_values (map string_bytes c.args.words.now) c.loop-pair.pair) in omega (arith, few, c.loop-pair.invariant.counted)

pub loop-pair-preserved : goal.loop-pair-preserved
loop-pair-preserved c = record {
  within = let long = length-map c.args.words.now string_bytes in omega (arith, long);
  whole = none_more (broken_pair c.args.subcommand (map string_bytes c.args.words.now)) c.loop-pair.pair c.loop-pair.invariant.whole c.in_ok-judge_pair.ensures.broken;
  valued = let more = c.in_ok-judge_pair.ensures.valued in omega (arith, more);
  counted = c.in_ok-judge_pair.ensures.counted ∙ ap (λ n. n + 1) c.loop-pair.invariant.counted;
}

pub returns-in_err-judge_pair-clause-err : goal.returns-in_err-judge_pair-clause-err
returns-in_err-judge_pair-clause-err c =
    let long = length-map c.args.words.now string_bytes in
    let p = err_from_is_err_and c.from_residual.result c.from_residual.ensures.1 in
    rw (p.1, p.2)
    (refused_first (broken_pair c.args.subcommand (map string_bytes c.args.words.now)) c.loop-pair.pair (pairs_in (map string_bytes c.args.words.now)) c.in_err-judge_pair.field-0.0
    (omega (arith, long)) c.loop-pair.invariant.whole c.in_err-judge_pair.ensures.err)

pub returns-clause-few : goal.returns-clause-few
returns-clause-few c =
    let few = count_le (option_values (map string_bytes c.args.words.now) c.loop-pair.pair) in
    let long = length-map c.args.words.now string_bytes in
    omega (arith, few, long, c.loop-pair.invariant.counted)
