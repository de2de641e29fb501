use Rattle.std.proofs.Common.{◌-◌, true, false, length, set, slice_get, ap, sym, ◌∙◌, arith}
use Rattle.meet_block.specs.Joined.{joined_with}
use Rattle.meet_block.proofs.Orders.{at_of_get}
use Rattle.meet_block.proofs.Kept.{untaken_set}
use Rattle.meet_block.proofs.EarlierRounds.{is_later, get_later, left_taken, counts_taken, taken_later}
use Rattle.meet_block.proofs.rounds.Rounds.take.Goals as goal

pub overflow_sub-i : goal.overflow_sub-i
overflow_sub-i g c =
    let left = ap (λ v. slice_get v.children.taken c.args.i) c.self.view_is ∙ c.requires.left in
    omega (arith, is_later c.self.inside.gone_tags.items c.self.inside.counters.children.taken c.args.i left, c.self.invariant.children, c.count.ensures)

pub take-taken-requires-clause-left : goal.take-taken-requires-clause-left
take-taken-requires-clause-left g c =
    let left = ap (λ v. slice_get v.children.taken c.args.i) c.self.view_is ∙ c.requires.left in
    let gone = c.self.inside.gone_tags.items in let was = c.self.inside.counters.children in
    left_taken gone was.taken c.args.i _ (omega (arith, is_later gone was.taken c.args.i left, c.self.invariant.children, c.count.ensures)) left

pub overflow_sub-self : goal.overflow_sub-self
overflow_sub-self g c =
    let left = ap (λ v. slice_get v.children.taken c.args.i) c.self.view_is ∙ c.requires.left in
    let gone = c.self.inside.gone_tags.items in let was = c.self.inside.counters.children in let k = c.args.i - length gone in
    omega (arith, c.self.invariant.values, untaken_set was.taken k (at_of_get was.taken k false (left_taken gone was.taken c.args.i k (omega (arith, is_later gone was.taken c.args.i left)) left)))

pub invariant_of-self : goal.invariant_of-self
invariant_of-self g c =
    let left = ap (λ v. slice_get v.children.taken c.args.i) c.self.view_is ∙ c.requires.left in
    let gone = c.self.inside.gone_tags.items in let was = c.self.inside.counters.children in
    counts_taken c.self.inside.count c.self.inside.left gone was c.take-taken.new.self.children c.args.i _ (omega (arith, is_later gone was.taken c.args.i left, c.self.invariant.children, c.count.ensures)) c.self.invariant left c.take-taken.ensures.taken

pub returns-clause-tag : goal.returns-clause-tag
returns-clause-tag g c =
    let left = ap (λ v. slice_get v.children.taken c.args.i) c.self.view_is ∙ c.requires.left in
    let gone = c.self.inside.gone_tags.items in let was = c.self.inside.counters.children in
    let later = is_later gone was.taken c.args.i left in
    ap (λ v. slice_get v.children.tags c.args.i) (sym c.self.view_is) ∙ get_later gone was.tags c.args.i later
    ∙ ap (slice_get was.tags) (omega (arith, later, c.self.invariant.children, c.count.ensures)) ∙ c.take-taken.ensures.tag

pub returns-clause-taken : goal.returns-clause-taken
returns-clause-taken g c =
    let left = ap (λ v. slice_get v.children.taken c.args.i) c.self.view_is ∙ c.requires.left in
    let gone = c.self.inside.gone_tags.items in let was = c.self.inside.counters.children in
    taken_later gone c.self.inside.gone_loads.items was c.take-taken.new.self.children c.args.i _ (omega (arith, is_later gone was.taken c.args.i left, c.self.invariant.children, c.count.ensures)) c.take-taken.ensures.taken
    ∙ ap (λ v. joined_with v.children.tags (set v.children.taken c.args.i true) true v.children.loads) c.self.view_is
