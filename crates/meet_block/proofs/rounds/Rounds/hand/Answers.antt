use Rattle.std.proofs.Common.{false, ◌++◌, ◌∷◌, [], ap, ◌∙◌, arith}
use Rattle.meet_block.specs.Joined.{joined_with}
use Rattle.meet_block.specs.Rounds.{followed_by}
use Rattle.meet_block.proofs.EarlierRounds.{few_untaken, counts_more, begins}
use Rattle.meet_block.proofs.rounds.Rounds.hand.Goals as goal

pub overflow_add-self : goal.overflow_add-self
overflow_add-self g c =
    let was = c.self.inside.counters.children in
    omega (arith, few_untaken was.taken, c.self.invariant.values, c.self.invariant.even, c.self.invariant.children, c.in-Some.ensures)

pub invariant_of-self-then-self-gt0 : goal.invariant_of-self-then-self-gt0
invariant_of-self-then-self-gt0 g c =
    counts_more c.self.inside.count c.in-Some.count c.self.inside.left c.self.inside.gone_tags.items c.self.inside.counters.children c.hand.new.self.children c.args.tag.now (omega (arith, c.in-Some.ensures)) c.self.invariant c.in_ok-tied.ensures.added

pub returns-then-self-gt0-clause-table : goal.returns-then-self-gt0-clause-table
returns-then-self-gt0-clause-table g c = let table = c.in_ok-tied.ensures.table in (table.0, table.1)

pub returns-clause-table : goal.returns-clause-table
returns-clause-table g c = let table = c.in_ok-tied-2.ensures.table in (table.0, table.1)

pub returns-clause-added : goal.returns-clause-added
returns-clause-added g c =
    let was = c.self.inside.counters.children in let new = c.hand-2.new.self.children in let t = c.args.tag.now in
    let tags = c.append.ensures ∙ ap (λ l. c.self.inside.gone_tags.items ++ l) c.known.ensures in
    let loads = c.append-2.ensures ∙ ap (λ l. c.self.inside.gone_loads.items ++ l) c.known-2.ensures in
    let first = c.in_ok-tied-2.ensures.added ∙ ap (λ j. joined_with (j.tags ++ t ∷ []) (j.taken ++ false ∷ []) false j.loads) c.new-counters.ensures.children in
    ap (λ l. followed_by l c.append-2.new.items.items new) tags ∙ ap (λ l. followed_by (c.self.inside.gone_tags.items ++ was.tags) l new) loads
    ∙ begins c.self.inside.gone_tags.items c.self.inside.gone_loads.items was new t c.self.invariant.even (omega (arith, c.self.invariant.values, c.if-self-gt0.false)) first
    ∙ ap (λ v. joined_with (v.children.tags ++ t ∷ []) (v.children.taken ++ false ∷ []) false v.children.loads) c.self.view_is
