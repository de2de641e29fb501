use Rattle.std.proofs.Common.{◌≡◌, ◌++◌, map, take}
use Rattle.script_excerpt.specs.Excerpts.{blank_for}
use Rattle.script_excerpt.proofs.lines.add_blanks.Given as goal

abbrev pub invariant-loop-byte : goal.invariant-loop-byte
invariant-loop-byte l = l.lines.items ≡ l.initial.lines.items ++ map blank_for (take l.byte-index l.bytes)
