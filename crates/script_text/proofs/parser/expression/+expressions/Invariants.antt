use Rattle.std.proofs.Common.{List, [], ◌∷◌, ◌++◌, length, ◌+◌, ◌-◌, ◌*◌}
use Rattle.script_grammar.specs.declared.tree.SumPart.{SumPart}
use Rattle.script_grammar.specs.declared.tree.ProductPart.{ProductPart}
use Rattle.script_grammar.specs.Grammar.{Terminal, IsTerms, IsFactors}
use Rattle.script_text.specs.Machine.{more_terms, more_factors}
use Rattle.script_text.specs.Reads.{terminals_of, ReadsTo}
use Rattle.script_text.proofs.parser.expression.+expressions.Given as goal

abbrev pub decreases-factor : goal.decreases-factor
decreases-factor l = 7 * (65 - l.depth) + 1

abbrev pub decreases-name_or_item : goal.decreases-name_or_item
decreases-name_or_item l = 7 * (65 - l.depth)

abbrev pub decreases-negation : goal.decreases-negation
decreases-negation l = 7 * (65 - l.depth)

abbrev pub decreases-group : goal.decreases-group
decreases-group l = 7 * (65 - l.depth)

abbrev pub decreases-operands : goal.decreases-operands
decreases-operands l = 7 * (65 - l.depth)

abbrev pub decreases-more_factors : goal.decreases-more_factors
decreases-more_factors l = 7 * (65 - l.depth) + 2

abbrev pub decreases-term : goal.decreases-term
decreases-term l = 7 * (65 - l.depth) + 3

abbrev pub decreases-more_terms : goal.decreases-more_terms
decreases-more_terms l = 7 * (65 - l.depth) + 4

abbrev pub decreases-sum : goal.decreases-sum
decreases-sum l = 7 * (65 - l.depth) + 5

abbrev pub decreases-expr : goal.decreases-expr
decreases-expr l = 7 * (65 - l.depth) + 6

abbrev pub invariant-more_terms-loop-minus : goal.invariant-more_terms-loop-minus
invariant-more_terms-loop-minus l = record {
  so_far : (xs : List SumPart) (rest : List Terminal) → IsTerms (terminals_of l.source l.left) xs rest → IsTerms (terminals_of l.source l.tokens) (l.found.items ++ xs) rest;
  goes : ReadsTo (more_terms ∷ []) (more_terms ∷ []) l.source l.depth l.tokens l.left;
}

abbrev pub decreases-more_terms-loop-minus : goal.decreases-more_terms-loop-minus
decreases-more_terms-loop-minus l = length l.left

abbrev pub invariant-more_factors-loop-sign : goal.invariant-more_factors-loop-sign
invariant-more_factors-loop-sign l = record {
  so_far : (xs : List ProductPart) (rest : List Terminal) → IsFactors (terminals_of l.source l.left) xs rest → IsFactors (terminals_of l.source l.tokens) (l.found.items ++ xs) rest;
  goes : ReadsTo (more_factors ∷ []) (more_factors ∷ []) l.source l.depth l.tokens l.left;
}

abbrev pub decreases-more_factors-loop-sign : goal.decreases-more_factors-loop-sign
decreases-more_factors-loop-sign l = length l.left
