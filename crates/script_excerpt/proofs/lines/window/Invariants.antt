use Rattle.std.proofs.Common.{◌≡◌, ◌≤◌, length, ◌-◌, false}
use Rattle.std.specs.List.{AllWithin}
use Rattle.script_excerpt.specs.Places.{is_feed}
use Rattle.script_excerpt.proofs.lines.window.Given as goal

abbrev pub invariant-loop-end : goal.invariant-loop-end
invariant-loop-end l = (l.at ≤ l.end) × (l.end ≤ length l.text) × AllWithin (λ byte. is_feed byte ≡ false) l.text l.at l.end

abbrev pub decreases-loop-end : goal.decreases-loop-end
decreases-loop-end l = length l.text - l.end
