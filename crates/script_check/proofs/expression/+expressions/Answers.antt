use Rattle.std.proofs.Common.{rules, map, ◌∙◌}
use Rattle.script_grammar.specs.declared.tree.Kind.TheVariants.{Int, Id}
use Rattle.script_grammar.specs.declared.tree.Expr.{the_lemmas}
use Rattle.script_check.specs.Expressions.{reading_of, read_sum_part, read_product_part, wanted, two_wanted, all_wanted}
use Rattle.script_check.specs.Walk.{known_in, pending_in}
use Rattle.script_check.proofs.LeastViolation.Earliest.{after_two}
use Rattle.script_check.proofs.Walk.Reading.{one_part}
use Rattle.script_check.proofs.expression.+expressions.Goals as goal

pub see-returns-in-Same-clause-found : goal.see-returns-in-Same-clause-found
unfolding two_wanted
see-returns-in-Same-clause-found t c =
    let k = known_in c.args.symbols.now in
    let p = pending_in c.args.symbols.now in
    after_two _ _ _ (wanted Id (reading_of c.get-in-Same.result.now) k p) (wanted Id (reading_of c.get-in-Same-2.result.now) k p) ((reading_of c.args.e.now).violations k p) c.want-in-Same.ensures.found c.want-in-Same-2.ensures.found (search (rules, the_lemmas))

pub see-returns-in-Compare-clause-found : goal.see-returns-in-Compare-clause-found
unfolding two_wanted
see-returns-in-Compare-clause-found t c =
    let k = known_in c.args.symbols.now in
    let p = pending_in c.args.symbols.now in
    after_two _ _ _ (wanted Int (reading_of c.get-in-Compare.result.now) k p) (wanted Int (reading_of c.get-in-Compare-2.result.now) k p) ((reading_of c.args.e.now).violations k p) c.want-at.ensures.found c.want-in-Compare.ensures.found (search (rules, the_lemmas))

pub see-returns-in-Sum-clause-found : goal.see-returns-in-Sum-clause-found
see-returns-in-Sum-clause-found t c =
    let k = known_in c.args.symbols.now in
    let p = pending_in c.args.symbols.now in
    after_two _ _ _ (wanted Int (reading_of c.get-in-Sum.result.now) k p) (all_wanted Int (map read_sum_part c.as_slice.result.now) k p) ((reading_of c.args.e.now).violations k p) c.want-at-in-Sum.ensures.found c.want_summands.ensures (search (rules, the_lemmas))

pub see-returns-in-Product-clause-found : goal.see-returns-in-Product-clause-found
see-returns-in-Product-clause-found t c =
    let k = known_in c.args.symbols.now in
    let p = pending_in c.args.symbols.now in
    after_two _ _ _ (wanted Int (reading_of c.get-in-Product.result.now) k p) (all_wanted Int (map read_product_part c.as_slice-in-Product.result.now) k p) ((reading_of c.args.e.now).violations k p) c.want-at-in-Product.ensures.found c.want_factors.ensures (search (rules, the_lemmas))

pub want_factors-loop-part-preserved : goal.want_factors-loop-part-preserved
want_factors-loop-part-preserved t c =
    one_part read_product_part (known_in c.args.symbols.now) (pending_in c.args.symbols.now) c.args.parts.now c.loop-part.part-index c.part-item.result c.loop-part.found c.want.new.found
    c.loop-part-test.true c.part-item.is (search (rules, the_lemmas)) ∙ c.loop-part.invariant

pub want_summands-loop-part-preserved : goal.want_summands-loop-part-preserved
want_summands-loop-part-preserved t c =
    one_part read_sum_part (known_in c.args.symbols.now) (pending_in c.args.symbols.now) c.args.parts.now c.loop-part.part-index c.part-item.result c.loop-part.found c.want.new.found
    c.loop-part-test.true c.part-item.is (search (rules, the_lemmas)) ∙ c.loop-part.invariant
