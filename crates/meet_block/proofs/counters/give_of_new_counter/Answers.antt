use Rattle.std.proofs.Common.{ap, ◌∙◌, sym, subst}
use Rattle.meet_block.specs.CounterViews.{IsLastTable, AddsChild, with_child, tables_of}
use Rattle.meet_block.specs.CounterLists.{counters_of}
use Rattle.meet_block.proofs.Slots.{from_more, hands_more}
use Rattle.meet_block.proofs.counters.give_of_new_counter.Goals as goal

pub returns-clause-added : goal.returns-clause-added
returns-clause-added g c =
    let ps = counters_of c.args.counters.now in let t = c.args.tag.now in let new = c.hand.new.self in
    subst (λ l. AddsChild ps l t) (sym c.in_ok-push.ensures.ok) (hands_more ps new t c.args.count c.in_ok-counter.counter.table c.requires.count (c.in_ok-give.ensures.added ∙ ap (λ p. with_child p t) c.in_ok-counter.ensures) c.requires.closed)

pub returns-clause-table : goal.returns-clause-table
returns-clause-table g c =
    let ps = counters_of c.args.counters.now in let new = c.hand.new.self in let table = c.in_ok-give.give.table in
    subst (λ l. IsLastTable (tables_of ps) (tables_of l) table) (sym c.in_ok-push.ensures.ok) (from_more ps new table c.in_ok-give.ensures.table)
