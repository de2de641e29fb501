use Rattle.std.proofs.Common.{rules}
use Rattle.parallel_runner.proofs.Meeting.{starts-meeting, meets-next, all-exchange_thieves}
use Rattle.parallel_runner.proofs.setup.exchange_thieves.Goals as goal

pub loop-own-init : goal.loop-own-init
loop-own-init g c = record { count = search rules; meeting = λ decks e. starts-meeting decks c.args.hands.now e }

pub loop-own-preserved : goal.loop-own-preserved
loop-own-preserved g c =
    let l = c.loop-own in
    let whole = c.split_at_mut-front.ensures in
    let parts = c.split_at_mut-one.ensures in
    let met = c.in_ok-introduce.ensures in
    record {
      count = search rules;
      meeting = λ decks e.
          meets-next l.own decks l.hands c.split_at_mut-front.result.0.now c.split_at_mut-front.result.1.now c.split_at_mut-one.result.0.now c.split_at_mut-one.result.1.now c.introduce.new.front c.introduce.new.back c.index-one-0.result c.introduce.new.hand
          (l.invariant.meeting decks e) (search rules) whole.front whole.back parts.front parts.back met.front met.hand met.back;
    }

pub returns-clause-met : goal.returns-clause-met
returns-clause-met g c = λ decks e. all-exchange_thieves c.loop-own.own decks c.loop-own.hands (c.loop-own.invariant.meeting decks e) (search rules)
