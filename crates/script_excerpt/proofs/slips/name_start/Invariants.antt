use Rattle.std.proofs.Common.{◌≡◌, ◌≤◌, length, true, not, false}
use Rattle.std.specs.List.{AllWithin}
use Rattle.script_tokens.specs.Word.{is_name_byte}
use Rattle.script_excerpt.proofs.slips.name_start.Given as goal

abbrev pub invariant-loop-start : goal.invariant-loop-start
invariant-loop-start l = (l.start ≤ length l.bytes) × AllWithin (λ byte. not (is_name_byte byte) ≡ false) l.bytes l.start (length l.bytes)

abbrev pub decreases-loop-start : goal.decreases-loop-start
decreases-loop-start l = l.start
