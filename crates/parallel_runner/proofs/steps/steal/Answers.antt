use Rattle.std.proofs.Common.{rules}
use Rattle.parallel_runner.proofs.Stealing.{first-steals}
use Rattle.parallel_runner.proofs.steps.steal.Goals as goal

pub returns-in-Took-clause-some : goal.returns-in-Took-clause-some
returns-in-Took-clause-some g c =
    let l = c.loop-thief in
    first-steals c.args.thieves.now l.thieves l.thief-index c.in-Took.task c.thief-item.result c.steal.new.self l.invariant.count l.invariant.miss l.invariant.same
    (search rules) c.in-Took.ensures.answer
