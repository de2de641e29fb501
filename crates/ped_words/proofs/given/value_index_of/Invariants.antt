use Rattle.std.proofs.Common.{map, string_bytes}
use Rattle.ped_words.specs.Given.{IsValueIndex}
use Rattle.ped_words.proofs.given.value_index_of.Given as goal

abbrev pub invariant-loop-pair : goal.invariant-loop-pair
invariant-loop-pair l = IsValueIndex (map string_bytes l.words) l.pair l.name l.index
