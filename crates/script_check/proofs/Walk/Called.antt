-- Arguments, one after another.
use Rattle.std.proofs.Common.{◌≡◌, ℕ, ◌+◌, ◌<◌, List, [], ◌∷◌, length, drop, get_or, Option, sym, ap, ◌∙◌}
use Rattle.script_grammar.specs.declared.tree.Param.{Param}
use Rattle.script_grammar.specs.declared.tree.Expr.{Expr}
use Rattle.script_check.specs.declared.findings.Violation.{Violation}
use Rattle.script_check.specs.Violations.{earliest}
use Rattle.script_check.specs.Names.{NameSet}
use Rattle.script_check.specs.Rules.{Declared}
use Rattle.script_check.specs.Expressions.{reading_of, wanted}
use Rattle.script_check.specs.Statements.{arguments}
use Rattle.script_check.proofs.LeastViolation.Earliest.{earliest_append}
use Rattle.script_check.proofs.Walk.Reading.{at_index}

module _ (params : List Param) (args : List Expr) (i : ℕ) (e : Expr) (k : Declared) (p : NameSet) (before now : Option Violation) (h : i < length args) (is : e ≡ get_or args i e) where
  pub with_parameter : (q : Param) → drop i params ≡ q ∷ drop (i + 1) params → now ≡ earliest before (wanted q.kind (reading_of e) k p) →
      earliest now (arguments (drop (i + 1) params) (drop (i + 1) args) k p) ≡ earliest before (arguments (drop i params) (drop i args) k p)
  with_parameter q d n =
      ap (λ o. earliest o (arguments (drop (i + 1) params) (drop (i + 1) args) k p)) n
      ∙ sym (earliest_append before (wanted q.kind (reading_of e) k p) (arguments (drop (i + 1) params) (drop (i + 1) args) k p))
      ∙ ap (λ (l : List Param). earliest before (arguments l (e ∷ drop (i + 1) args) k p)) (sym d)
      ∙ ap (λ (l : List Expr). earliest before (arguments (drop i params) l k p)) (sym (at_index args i e h is))

  pub without_parameter : drop i params ≡ [] → drop (i + 1) params ≡ [] → now ≡ earliest before ((reading_of e).violations k p) →
      earliest now (arguments (drop (i + 1) params) (drop (i + 1) args) k p) ≡ earliest before (arguments (drop i params) (drop i args) k p)
  without_parameter none more n =
      ap (λ (l : List Param). earliest now (arguments l (drop (i + 1) args) k p)) more
      ∙ ap (λ o. earliest o (arguments [] (drop (i + 1) args) k p)) n
      ∙ sym (earliest_append before ((reading_of e).violations k p) (arguments [] (drop (i + 1) args) k p))
      ∙ ap (λ (l : List Param). earliest before (arguments l (e ∷ drop (i + 1) args) k p)) (sym none)
      ∙ ap (λ (l : List Expr). earliest before (arguments (drop i params) l k p)) (sym (at_index args i e h is))
