use Rattle.std.proofs.Common.{◌≡◌, ◌≤◌, length, ◌+◌, take}
use Rattle.std.specs.List.{filter}
use Rattle.script_excerpt.specs.Places.{is_feed}
use Rattle.script_excerpt.proofs.position.line_number.Given as goal

abbrev pub invariant-loop-byte : goal.invariant-loop-byte
invariant-loop-byte l = (l.line ≤ l.byte-index + 1) × (l.line ≡ length (filter is_feed (take l.byte-index l.before)) + 1)
