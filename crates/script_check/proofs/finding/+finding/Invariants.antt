use Rattle.std.proofs.Common.{◌≡◌, map, drop}
use Rattle.script_check.specs.Slots.{all_true, every_in_factor, every_in_summand}
use Rattle.script_check.specs.Walk.{finds}
use Rattle.script_check.proofs.finding.+finding.Given as goal

abbrev pub invariant-in_summands-loop-part : goal.invariant-in_summands-loop-part
invariant-in_summands-loop-part l = all_true (map (every_in_summand (finds l.f)) l.parts) ≡ all_true (map (every_in_summand (finds l.f)) (drop l.part-index l.parts))

abbrev pub invariant-in_factors-loop-part : goal.invariant-in_factors-loop-part
invariant-in_factors-loop-part l = all_true (map (every_in_factor (finds l.f)) l.parts) ≡ all_true (map (every_in_factor (finds l.f)) (drop l.part-index l.parts))
