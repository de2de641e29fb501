use Rattle.std.proofs.Common.{◌≡◌, ◌≤◌, length, true, not, false}
use Rattle.std.specs.List.{AllWithin}
use Rattle.script_excerpt.specs.Slips.{is_blank}
use Rattle.script_excerpt.proofs.slips.trimmed.Given as goal

abbrev pub invariant-loop-end : goal.invariant-loop-end
invariant-loop-end l = (l.end ≤ length l.bytes) × AllWithin (λ byte. not (is_blank byte) ≡ false) l.bytes l.end (length l.bytes)

abbrev pub decreases-loop-end : goal.decreases-loop-end
decreases-loop-end l = l.end
