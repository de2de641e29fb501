use Rattle.std.proofs.Common.{◌≡◌, ◌+◌, ◌-◌, set, arith}
use Rattle.std.proofs.lemmas.List.{drop-set, length-set}
use Rattle.run_lines.proofs.line.write_equals.Goals as goal

pub returns-clause-written : goal.returns-clause-written
returns-clause-written c =
    let text = c.args.text.now in
    let end = c.args.end in
    let one = length-set text (end - 1) 32 in
    let two = length-set (set text (end - 1) 32) (end - 2) 61 in
    let first : end - 3 + 1 ≡ end - 2 = omega arith in
    let second : end - 2 + 1 ≡ end - 1 = omega arith in
    let third : end - 1 + 1 ≡ end = omega arith in
    rw (drop-set (set (set text (end - 1) 32) (end - 2) 61) (end - 3) 32 (omega (arith, one, two)), first, drop-set (set text (end - 1) 32) (end - 2) 61 (omega (arith, one)), second, drop-set text (end - 1) 32 (omega arith), third)
