use Rattle.std.proofs.Common.{◌≡◌, ◌≤◌, length, take, false}
use Rattle.std.specs.List.{AllWithin}
use Rattle.script_excerpt.specs.Places.{is_feed}
use Rattle.script_excerpt.proofs.position.line_start.Given as goal

abbrev pub invariant-loop-start : goal.invariant-loop-start
invariant-loop-start l = (l.start ≤ l.at) × AllWithin (λ byte. is_feed byte ≡ false) (take l.at l.text) l.start (length (take l.at l.text))

abbrev pub decreases-loop-start : goal.decreases-loop-start
decreases-loop-start l = l.start
