use Rattle.std.proofs.Common.{◌≡◌, ◌*◌, ◌-◌, ◌<◌, ◌≤◌, None, length, map}
use Rattle.std.specs.Prelude.{string_bytes}
use Rattle.ped_words.specs.Judging.{broken_pair, first_below, pairs_in}
use Rattle.ped_words.specs.Given.{given_count}
use Rattle.ped_words.specs.Values.{option_values}
use Rattle.ped_words.proofs.read.judge_pairs.Given as goal

-- The pairs before break no rule, have values, and each gave an option that had not been given.
abbrev pub invariant-loop-pair : goal.invariant-loop-pair
invariant-loop-pair l = record {
  within : l.pair ≤ pairs_in (map string_bytes l.words);
  whole : first_below (broken_pair l.subcommand (map string_bytes l.words)) l.pair ≡ None;
  valued : 2 * l.pair < length l.words;
  counted : given_count (option_values (map string_bytes l.words) l.pair) ≡ l.pair;
}

abbrev pub decreases-loop-pair : goal.decreases-loop-pair
decreases-loop-pair l = pairs_in (map string_bytes l.words) - l.pair
