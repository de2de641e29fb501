use Rattle.std.proofs.Common.{◌≤◌, ◌<◌, ◌+◌, length, arith}
use Rattle.strand_machine.proofs.TakenAnswers.Turns.{fewer-of-pop, none-of-pop, turn-of-pop, turn-of-swap}
use Rattle.strand_machine.proofs.resume.take_next.Goals as goal

pub swap_remove-requires : goal.swap_remove-requires
swap_remove-requires g c = omega (arith, c.if-left-gt1.true, c.saturating_sub-left.ensures, c.len.ensures)

pub returns-then-left-gt1-clause-some : goal.returns-then-left-gt1-clause-some
returns-then-left-gt1-clause-some g c =
    let within : c.args.taken + 1 < length c.args.list.now.items = omega (arith, c.if-left-gt1.true, c.saturating_sub-left.ensures, c.len.ensures, c.args.list.now.ok.0) in
    turn-of-swap c.args.list.now.items c.swap_remove.new.self.items c.swap_remove.result c.args.taken within c.swap_remove.ensures.value c.swap_remove.ensures.items

pub returns-then-left-gt1-clause-fewer : goal.returns-then-left-gt1-clause-fewer
returns-then-left-gt1-clause-fewer g c = omega (arith, c.swap_remove.ensures.len, c.args.list.now.ok.0, c.swap_remove.new.self.ok.0)

pub returns-clause-some : goal.returns-clause-some
returns-clause-some g c =
    let few : length c.args.list.now.items ≤ c.args.taken + 1 = omega (arith, c.if-left-gt1.false, c.saturating_sub-left.ensures, c.len.ensures, c.args.list.now.ok.0) in
    turn-of-pop c.pop.result c.args.list.now.items c.pop.new.self.items c.args.taken c.pop.ensures.items few

pub returns-clause-fewer : goal.returns-clause-fewer
returns-clause-fewer g c = fewer-of-pop c.pop.result c.args.list.now.items c.pop.new.self.items c.pop.ensures.items

pub returns-clause-none : goal.returns-clause-none
returns-clause-none g c = none-of-pop c.pop.result c.args.list.now.items _ _ c.args.list.now.ok.0 c.pop.ensures.cases
