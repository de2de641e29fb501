use Rattle.std.proofs.Common.{◌≡◌, ◌++◌, map, drop}
use Rattle.script_check.specs.Slots.{joined, named_in_factor, named_in_summand}
use Rattle.script_check.proofs.named.+operands.Given as goal

abbrev pub invariant-in_summands-loop-part : goal.invariant-in_summands-loop-part
invariant-in_summands-loop-part l = l.fn.named.items ++ joined (map named_in_summand l.parts) ≡ l.named.items ++ joined (map named_in_summand (drop l.part-index l.parts))

abbrev pub invariant-in_factors-loop-part : goal.invariant-in_factors-loop-part
invariant-in_factors-loop-part l = l.fn.named.items ++ joined (map named_in_factor l.parts) ≡ l.named.items ++ joined (map named_in_factor (drop l.part-index l.parts))
