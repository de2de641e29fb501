use Rattle.std.proofs.Common.{◌≡◌, true, ltb, ◌^◌, map, take}
use Rattle.std.specs.List.{list_all}
use Rattle.ped_words.specs.Numbers.{number_in_word}
use Rattle.ped_words.proofs.number.values.Given as goal

-- the numbers before are small, and their values were taken
abbrev pub invariant-loop-part : goal.invariant-loop-part
invariant-loop-part l = record {
  small : list_all (λ x. ltb (number_in_word x.now) (2 ^ 64)) (take l.part-index l.parts) ≡ true;
  taken : l.values.items ≡ map (λ x. number_in_word x.now) (take l.part-index l.parts);
}
