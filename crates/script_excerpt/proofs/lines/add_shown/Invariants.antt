use Rattle.std.proofs.Common.{◌≡◌, ◌++◌, map, take}
use Rattle.script_excerpt.specs.Excerpts.{shown}
use Rattle.script_excerpt.proofs.lines.add_shown.Given as goal

abbrev pub invariant-loop-byte : goal.invariant-loop-byte
invariant-loop-byte l = l.lines.items ≡ l.initial.lines.items ++ map shown (take l.byte-index l.bytes)
