use Rattle.std.proofs.Common.{◌≡◌, ◌+◌, drop, if◌then◌else◌}
use Rattle.script_tokens.specs.Lexing.{gap_length, comment_length}
use Rattle.script_tokens.proofs.front.gap_length.Given as goal

abbrev pub invariant-loop-n : goal.invariant-loop-n
invariant-loop-n l = gap_length l.bytes ≡ l.n + (if l.in_comment then comment_length (drop l.n l.bytes) else gap_length (drop l.n l.bytes))
