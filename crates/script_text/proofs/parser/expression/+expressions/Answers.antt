use Rattle.std.proofs.Common.{[], ◌∷◌, ◌+◌, refl, ap, ◌∙◌, rules}
use Rattle.std.proofs.lemmas.Result.{err_from_is_err_and}
use Rattle.script_tokens.specs.declared.token.Word.TheVariants as word
use Rattle.script_grammar.specs.Grammar.{IsFactor, IsFactors, IsTerms, sum_of, product_of}
use Rattle.script_text.specs.Machine.{factor, pair, more_factors, more_terms}
use Rattle.script_text.proofs.Parsing.Kept.{passed, passed_not, came, came_not, kept}
use Rattle.script_text.proofs.Parsing.Expressions.{expr_alone, expr_compared, expr_err_left, expr_err_right, factor_err_pair, factor_group, factor_item, factor_minus, factor_name, factor_name_err, factor_number, factor_number_err, factor_older, factor_same, factor_turn, factors_end, group_deep, group_err_rest, group_err_x, item_deep, item_err_place, item_err_rest, minus_deep, minus_err, more_factors_err, more_terms_err, one_more_factor, one_more_term, operands_err_close, operands_err_comma, operands_err_x, operands_err_y, operands_read, pair_bracket, sum_err_first, sum_err_others, sum_reads, term_err_first, term_err_others, term_reads, term_turn, terms_end}
use Rattle.script_text.proofs.parser.expression.+expressions.Goals as goal

pub expr-returns-in_err-left : goal.expr-returns-in_err-left
expr-returns-in_err-left t c =
    let p = err_from_is_err_and c.from_residual.result c.from_residual.ensures.1 in
    rw (p.1, p.2) (expr_err_left c.args.source.now c.args.depth c.args.tokens.now _ c.in_err-left.ensures)

pub expr-returns-in_default : goal.expr-returns-in_default
expr-returns-in_default t c = expr_alone c.args.source.now c.args.depth _ _ _ c.in_ok-left.ensures c.in_default.ensures

pub expr-returns-in_err-right : goal.expr-returns-in_err-right
expr-returns-in_err-right t c =
    let p = err_from_is_err_and c.from_residual-in_err-right.result c.from_residual-in_err-right.ensures.1 in
    rw (p.1, p.2) (expr_err_right c.args.source.now c.args.depth _ _ _ _ _ _ c.requires c.in_ok-left.ensures c.in-Some.ensures c.in_err-right.ensures)

pub expr-returns : goal.expr-returns
expr-returns t c = expr_compared c.args.source.now c.args.depth _ _ _ _ _ _ _ _ c.requires c.in_ok-left.ensures c.in-Some.ensures c.in_ok-right.ensures (search rules)

pub sum-returns-in_err-first : goal.sum-returns-in_err-first
sum-returns-in_err-first t c =
    let p = err_from_is_err_and c.from_residual.result c.from_residual.ensures.1 in
    rw (p.1, p.2) (sum_err_first c.args.source.now c.args.depth c.args.tokens.now _ c.in_err-first.ensures)

pub sum-returns-in_err-first-2 : goal.sum-returns-in_err-first-2
sum-returns-in_err-first-2 t c =
    let p = err_from_is_err_and c.from_residual-in_err-first-2.result c.from_residual-in_err-first-2.ensures.1 in
    rw (p.1, p.2) (sum_err_others c.args.source.now c.args.depth _ _ _ _ c.in_ok-first.ensures (came_not IsTerms (more_terms ∷ []) c.args.source.now c.args.depth _ _ _ c.in_err-first-2.ensures c.more_terms.ensures))

pub sum-returns : goal.sum-returns
sum-returns t c = sum_reads c.args.source.now c.args.depth _ _ _ _ _ _ c.in_ok-first.ensures (came IsTerms (more_terms ∷ []) c.args.source.now c.args.depth _ _ _ c.in_ok-first-2.ensures.1 c.more_terms.ensures) (c.in_ok-joined_sum.ensures ∙ ap (λ z. sum_of z c.in_ok-first-2.others) c.in_ok-first-2.ensures.0)

pub term-returns-in_err-first : goal.term-returns-in_err-first
term-returns-in_err-first t c =
    let p = err_from_is_err_and c.from_residual.result c.from_residual.ensures.1 in
    rw (p.1, p.2) (term_err_first c.args.source.now c.args.depth c.args.tokens.now _ c.in_err-first.ensures)

pub term-returns-in_err-first-2 : goal.term-returns-in_err-first-2
term-returns-in_err-first-2 t c =
    let p = err_from_is_err_and c.from_residual-in_err-first-2.result c.from_residual-in_err-first-2.ensures.1 in
    rw (p.1, p.2) (term_err_others c.args.source.now c.args.depth _ _ _ _ c.in_ok-first.ensures (came_not IsFactors (more_factors ∷ []) c.args.source.now c.args.depth _ _ _ c.in_err-first-2.ensures c.more_factors.ensures))

pub term-returns : goal.term-returns
term-returns t c = term_reads c.args.source.now c.args.depth _ _ _ _ _ _ c.in_ok-first.ensures (came IsFactors (more_factors ∷ []) c.args.source.now c.args.depth _ _ _ c.in_ok-first-2.ensures.1 c.more_factors.ensures) (c.in_ok-joined_product.ensures ∙ ap (λ z. product_of z c.in_ok-first-2.others) c.in_ok-first-2.ensures.0)

pub more_terms-returns-in_err-operand : goal.more_terms-returns-in_err-operand
more_terms-returns-in_err-operand t c =
    let p = err_from_is_err_and c.from_residual.result c.from_residual.ensures.1 in
    rw (p.1, p.2) (more_terms_err c.args.source.now c.args.depth _ _ _ _ _ _ c.requires c.loop-minus.invariant c.in-Some.ensures c.in_err-operand.ensures)

pub more_terms-loop-minus-smaller : goal.more_terms-loop-minus-smaller
more_terms-loop-minus-smaller t c = term_turn c.args.source.now _ _ _ _ _ c.in-Some.ensures.1 c.in_ok-operand.ensures.0

pub more_terms-loop-minus-preserved : goal.more_terms-loop-minus-preserved
more_terms-loop-minus-preserved t c = one_more_term c.args.source.now c.args.depth _ _ _ _ _ _ _ _ (search rules) c.requires c.loop-minus.invariant c.in-Some.ensures c.in_ok-operand.ensures

pub more_terms-returns : goal.more_terms-returns
more_terms-returns t c = terms_end c.args.source.now c.args.depth _ _ _ c.loop-minus.invariant c.in_default.ensures

pub more_factors-returns-in_err-operand : goal.more_factors-returns-in_err-operand
more_factors-returns-in_err-operand t c =
    let p = err_from_is_err_and c.from_residual.result c.from_residual.ensures.1 in
    rw (p.1, p.2) (more_factors_err c.args.source.now c.args.depth _ _ _ _ _ _ c.requires c.loop-sign.invariant c.in-Some.ensures c.in_err-operand.ensures)

pub more_factors-loop-sign-smaller : goal.more_factors-loop-sign-smaller
more_factors-loop-sign-smaller t c = factor_turn c.args.source.now _ _ _ _ _ c.in-Some.ensures.1 c.in_ok-operand.ensures.0

pub more_factors-loop-sign-preserved : goal.more_factors-loop-sign-preserved
more_factors-loop-sign-preserved t c = one_more_factor c.args.source.now c.args.depth _ _ _ _ _ _ _ _ (search rules) c.requires c.loop-sign.invariant c.in-Some.ensures c.in_ok-operand.ensures

pub more_factors-returns : goal.more_factors-returns
more_factors-returns t c = factors_end c.args.source.now c.args.depth _ _ _ c.loop-sign.invariant c.in_default.ensures

pub factor-returns-in_err-number_node-in-Number : goal.factor-returns-in_err-number_node-in-Number
factor-returns-in_err-number_node-in-Number t c =
    let p = err_from_is_err_and c.from_residual.result c.from_residual.ensures.1 in
    rw (p.1, p.2, c.in-Some.ensures.cases.0) (factor_number_err c.args.source.now c.args.depth _ _ _ c.in-Number.is c.in_err-number_node-in-Number.ensures)

pub factor-returns-in_ok-number_node-in-Number : goal.factor-returns-in_ok-number_node-in-Number
factor-returns-in_ok-number_node-in-Number t c = rw c.in-Some.ensures.cases.0 (factor_number c.args.source.now c.args.depth _ _ _ c.in-Number.is c.requires c.in_ok-number_node-in-Number.ensures)

pub factor-returns-in_err-x-in-Same : goal.factor-returns-in_err-x-in-Same
factor-returns-in_err-x-in-Same t c =
    let p = err_from_is_err_and c.from_residual-in_err-x-in-Same.result c.from_residual-in_err-x-in-Same.ensures.1 in
    rw (p.1, p.2, c.in-Some.ensures.cases.0) (factor_err_pair c.args.source.now c.args.depth _ _ word.Same _ c.in-Same.is refl (λ t s. refl) c.requires c.in_err-x-in-Same.ensures)

pub factor-returns-in_err-x-in-Older : goal.factor-returns-in_err-x-in-Older
factor-returns-in_err-x-in-Older t c =
    let p = err_from_is_err_and c.from_residual-in_err-x-in-Older.result c.from_residual-in_err-x-in-Older.ensures.1 in
    rw (p.1, p.2, c.in-Some.ensures.cases.0) (factor_err_pair c.args.source.now c.args.depth _ _ word.Older _ c.in-Older.is refl (λ t s. refl) c.requires c.in_err-x-in-Older.ensures)

pub factor-returns-in_ok-x-in-Same : goal.factor-returns-in_ok-x-in-Same
factor-returns-in_ok-x-in-Same t c = rw c.in-Some.ensures.cases.0 (factor_same c.args.source.now c.args.depth _ _ _ _ _ c.in-Same.is c.requires c.in_ok-x-in-Same.ensures.0 c.in_ok-x-in-Same.ensures.1)

pub factor-returns-in_ok-x-in-Older : goal.factor-returns-in_ok-x-in-Older
factor-returns-in_ok-x-in-Older t c = rw c.in-Some.ensures.cases.0 (factor_older c.args.source.now c.args.depth _ _ _ _ _ c.in-Older.is c.requires c.in_ok-x-in-Older.ensures.0 c.in_ok-x-in-Older.ensures.1)

pub name_or_item-returns-in_err-name : goal.name_or_item-returns-in_err-name
name_or_item-returns-in_err-name t c =
    let p = err_from_is_err_and c.from_residual.result c.from_residual.ensures.1 in
    rw (p.1, p.2) (factor_name_err c.args.source.now c.args.depth _ _ _ c.requires.name c.in_err-name.ensures)

pub name_or_item-returns-in_default : goal.name_or_item-returns-in_default
name_or_item-returns-in_default t c = factor_name c.args.source.now c.args.depth _ _ _ c.requires.name c.requires.depth c.in_ok-name.ensures c.in_default.ensures

pub name_or_item-returns-in_err-inside : goal.name_or_item-returns-in_err-inside
name_or_item-returns-in_err-inside t c =
    let p = err_from_is_err_and c.from_residual-in_err-inside.result c.from_residual-in_err-inside.ensures.1 in
    rw (p.1, p.2) (item_deep c.args.source.now c.args.depth _ _ _ _ _ _ c.requires.name c.requires.depth c.in_ok-name.ensures c.in-Some.ensures c.in_err-inside.ensures)

pub name_or_item-returns-in_err-place : goal.name_or_item-returns-in_err-place
name_or_item-returns-in_err-place t c =
    let p = err_from_is_err_and c.from_residual-in_err-place.result c.from_residual-in_err-place.ensures.1 in
    rw (p.1, p.2) (item_err_place c.args.source.now c.args.depth _ _ _ _ _ _ _ c.requires.name c.in_ok-inside.ensures c.in_ok-name.ensures c.in-Some.ensures c.in_err-place.ensures)

pub name_or_item-returns-in_err-place-2 : goal.name_or_item-returns-in_err-place-2
name_or_item-returns-in_err-place-2 t c =
    let p = err_from_is_err_and c.from_residual-in_err-place-2.result c.from_residual-in_err-place-2.ensures.1 in
    rw (p.1, p.2) (item_err_rest c.args.source.now c.args.depth _ _ _ _ _ _ _ _ _ c.requires.name c.in_ok-inside.ensures c.in_ok-name.ensures c.in-Some.ensures c.in_ok-place.ensures (passed_not word.CloseItem c.args.source.now c.args.depth _ _ _ c.in_err-place-2.ensures c.expect.ensures))

pub name_or_item-returns : goal.name_or_item-returns
name_or_item-returns t c = factor_item c.args.source.now c.args.depth _ _ _ _ _ _ _ _ _ _ c.requires.name c.in_ok-inside.ensures c.in_ok-name.ensures c.in-Some.ensures c.in_ok-place.ensures (passed word.CloseItem c.args.source.now c.args.depth _ _ _ c.in_ok-place-2.ensures.1 c.expect.ensures) (search rules)

pub negation-returns-in_err-inside : goal.negation-returns-in_err-inside
negation-returns-in_err-inside t c =
    let p = err_from_is_err_and c.from_residual.result c.from_residual.ensures.1 in
    rw (p.1, p.2) (minus_deep c.args.source.now c.args.depth _ _ _ c.requires.minus c.in_err-inside.ensures)

pub negation-returns-in_err-operand : goal.negation-returns-in_err-operand
negation-returns-in_err-operand t c =
    let p = err_from_is_err_and c.from_residual-in_err-operand.result c.from_residual-in_err-operand.ensures.1 in
    rw (p.1, p.2) (minus_err c.args.source.now c.args.depth _ _ _ _ c.requires.minus c.in_ok-inside.ensures c.in_err-operand.ensures)

pub negation-returns : goal.negation-returns
negation-returns t c = factor_minus c.args.source.now c.args.depth _ _ _ _ _ _ c.requires.minus c.in_ok-inside.ensures c.in_ok-operand.ensures (search rules)

pub group-returns-in_err-inside : goal.group-returns-in_err-inside
group-returns-in_err-inside t c =
    let p = err_from_is_err_and c.from_residual.result c.from_residual.ensures.1 in
    rw (p.1, p.2) (group_deep c.args.source.now c.args.depth _ _ _ c.requires.open c.in_err-inside.ensures)

pub group-returns-in_err-x : goal.group-returns-in_err-x
group-returns-in_err-x t c =
    let p = err_from_is_err_and c.from_residual-in_err-x.result c.from_residual-in_err-x.ensures.1 in
    rw (p.1, p.2) (group_err_x c.args.source.now c.args.depth _ _ _ _ c.requires.open c.in_ok-inside.ensures c.in_err-x.ensures)

pub group-returns : goal.group-returns
group-returns t c =
    kept IsFactor (factor ∷ []) c.args.source.now c.args.depth (c.args.first ∷ c.args.rest.now) word.Close c.args.depth _ _ _ _ c.expect.ensures c.zip.ensures
    (λ last k. factor_group c.args.source.now c.args.depth _ c.args.rest.now _ last c.args.first _ c.requires.open c.in_ok-inside.ensures c.in_ok-x.ensures k)
    (λ e f. group_err_rest c.args.source.now c.args.depth _ c.args.rest.now _ c.args.first _ e c.requires.open c.in_ok-inside.ensures c.in_ok-x.ensures f)

pub operands-returns-in_err-rest : goal.operands-returns-in_err-rest
operands-returns-in_err-rest t c =
    let p = err_from_is_err_and c.from_residual.result c.from_residual.ensures.1 in
    rw (p.1, p.2) (c.in_err-rest.ensures pair _ pair_bracket)

pub operands-returns-in_err-x : goal.operands-returns-in_err-x
operands-returns-in_err-x t c =
    let p = err_from_is_err_and c.from_residual-in_err-x.result c.from_residual-in_err-x.ensures.1 in
    rw (p.1, p.2) (operands_err_x c.args.source.now c.args.depth _ _ _ c.in_ok-rest.ensures c.in_err-x.ensures)

pub operands-returns-in_err-x-2 : goal.operands-returns-in_err-x-2
operands-returns-in_err-x-2 t c =
    let p = err_from_is_err_and c.from_residual-in_err-x-2.result c.from_residual-in_err-x-2.ensures.1 in
    rw (p.1, p.2) (operands_err_comma c.args.source.now c.args.depth _ _ _ _ _ c.in_ok-rest.ensures c.in_ok-x.ensures (passed_not word.Comma c.args.source.now (c.args.depth + 1) _ _ _ c.in_err-x-2.ensures c.expect.ensures))

pub operands-returns-in_err-y : goal.operands-returns-in_err-y
operands-returns-in_err-y t c =
    let p = err_from_is_err_and c.from_residual-in_err-y.result c.from_residual-in_err-y.ensures.1 in
    rw (p.1, p.2) (operands_err_y c.args.source.now c.args.depth _ _ _ _ _ _ c.in_ok-rest.ensures c.in_ok-x.ensures (passed word.Comma c.args.source.now (c.args.depth + 1) _ _ _ c.in_ok-x-2.ensures.1 c.expect.ensures) c.in_err-y.ensures)

pub operands-returns-in_err-y-2 : goal.operands-returns-in_err-y-2
operands-returns-in_err-y-2 t c =
    let p = err_from_is_err_and c.from_residual-in_err-y-2.result c.from_residual-in_err-y-2.ensures.1 in
    rw (p.1, p.2) (operands_err_close c.args.source.now c.args.depth _ _ _ _ _ _ _ _ c.in_ok-rest.ensures c.in_ok-x.ensures (passed word.Comma c.args.source.now (c.args.depth + 1) _ _ _ c.in_ok-x-2.ensures.1 c.expect.ensures) c.in_ok-y.ensures (passed_not word.Close c.args.source.now c.args.depth _ _ _ c.in_err-y-2.ensures c.expect-2.ensures))

pub operands-returns : goal.operands-returns
operands-returns t c = operands_read c.args.source.now c.args.depth _ _ _ _ _ _ _ _ c.in_ok-rest.ensures c.in_ok-x.ensures (passed word.Comma c.args.source.now (c.args.depth + 1) _ _ _ c.in_ok-x-2.ensures.1 c.expect.ensures) c.in_ok-y.ensures (passed word.Close c.args.source.now c.args.depth _ _ _ c.in_ok-y-2.ensures.1 c.expect-2.ensures) _ _ (search rules) (search rules)
