use Rattle.std.proofs.Common.{◌≡◌, ℕ, List, [], ◌++◌, ap, ◌∙◌, sym, subst, flat_map}
use Rattle.script_grammar.specs.declared.tree.Function.{Function}
use Rattle.script_grammar.specs.declared.tree.Script.{Script}
use Rattle.script_print.specs.Canonical.{canonical, function_text, version_text}
use Rattle.script_print.specs.Unplaced.{IsTextOf}
use Rattle.script_print.proofs.Fixed.{canonical_fixed}
use Rattle.script_print.proofs.Whole.{canonical_is_text}
use Rattle.script_print.proofs.script.print_script.Goals as goal

written : (old mid new : List ℕ) (fs : List Function) (script : Script) → mid ≡ old ++ version_text script.version → new ≡ mid ++ flat_map function_text fs → old ≡ [] → fs ≡ script.functions → new ≡ canonical script
written old mid new fs script v e f g =
    e ∙ ap (λ z. z ++ flat_map function_text fs) (v ∙ ap (λ z. z ++ version_text script.version) f) ∙ ap (λ z. version_text script.version ++ flat_map function_text z) g

pub returns-clause-text : goal.returns-clause-text
returns-clause-text c = written _ _ _ _ c.args.script.now c.in_ok-write_version.ensures c.in_ok-write_functions.ensures c.new-text.ensures.items c.as_slice.ensures

pub returns-clause-same_tree : goal.returns-clause-same_tree
returns-clause-same_tree c =
    let text = written _ _ _ _ c.args.script.now c.in_ok-write_version.ensures c.in_ok-write_functions.ensures c.new-text.ensures.items c.as_slice.ensures in
    λ o. subst (λ z. IsTextOf z c.args.script.now) (sym text) (canonical_is_text c.args.script.now o)

pub returns-clause-one_text : goal.returns-clause-one_text
returns-clause-one_text c =
    let text = written _ _ _ _ c.args.script.now c.in_ok-write_version.ensures c.in_ok-write_functions.ensures c.new-text.ensures.items c.as_slice.ensures in
    λ other e. canonical_fixed other c.args.script.now e ∙ sym text
