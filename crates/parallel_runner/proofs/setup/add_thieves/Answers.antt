use Rattle.std.proofs.Common.{◌∙◌, rules}
use Rattle.parallel_runner.proofs.Meeting.{thieves-more, hands-more}
use Rattle.parallel_runner.proofs.setup.add_thieves.Goals as goal

pub loop-hand-preserved : goal.loop-hand-preserved
loop-hand-preserved g c =
    let l = c.loop-hand in
    let made = c.in_ok-thief.ensures in
    record {
      thieves = c.in_ok-push.ensures.items
          ∙ thieves-more c.args.hands.now l.hands c.args.thieves.now.items l.thieves.items l.hand-index c.hand-item.result c.in_ok-thief.field-0 (search rules) l.invariant.hands l.invariant.thieves made.thief;
      hands = hands-more c.args.hands.now l.hands l.hand-index c.hand-item.result c.thief.new.self (search rules) l.invariant.hands c.hand-item.is made.made;
    }
