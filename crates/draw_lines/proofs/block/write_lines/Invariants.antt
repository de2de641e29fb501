use Rattle.std.proofs.Common.{◌≡◌, ◌*◌, ◌≤◌, length, drop, flat_map}
use Rattle.draw_lines.specs.Lines.{number_line}
use Rattle.draw_lines.proofs.block.write_lines.Given as goal

-- The lines of the last numbers stand at the end, and there is room for those of the first.
abbrev pub invariant-loop-left : goal.invariant-loop-left
invariant-loop-left l = record {
  within : l.start ≤ length l.text;
  few : l.left ≤ length l.numbers;
  room : 21 * l.left ≤ l.start;
  written : drop l.start l.text ≡ flat_map number_line (drop l.left l.numbers);
}

abbrev pub decreases-loop-left : goal.decreases-loop-left
decreases-loop-left l = l.left
