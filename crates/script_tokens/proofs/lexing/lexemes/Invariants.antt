use Rattle.std.proofs.Common.{◌-◌, ◌≤◌, length}
use Rattle.script_tokens.specs.Version.{begins_at}
use Rattle.script_tokens.proofs.LexingLemmas.{Begins}
use Rattle.script_tokens.proofs.lexing.lexemes.Given as goal

abbrev pub decreases-loop-lexeme : goal.decreases-loop-lexeme
decreases-loop-lexeme l = length l.bytes - l.from

abbrev pub invariant-loop-lexeme : goal.invariant-loop-lexeme
invariant-loop-lexeme l = record { within : l.from ≤ length l.bytes; so_far : Begins l.version l.bytes (begins_at l.version) l.lexemes.items l.from }
