use Rattle.std.proofs.Common.{◌≡◌, ℕ, List, Option, Some, None, Bor, length, refl, sym, ap, ◌∙◌}
use Rattle.std.specs.Prelude.{option_copied, slice_get}
use Rattle.std.specs.Slice.{IsItemAt}
use Rattle.std.proofs.lemmas.Option.{slice_get-map, slice_get_past, slice_get_read}
use Rattle.script_grammar.specs.declared.tree.Script.{Script}
use Rattle.script_check.specs.declared.checked.CheckedScript.{CheckedScript}
use Rattle.script_check.specs.Slots.{each_names, variable_names}
use Rattle.script_check.proofs.checked.Checked.names.Goals as goal

got : {X : Type 0} (xs : List X) (i : ℕ) (r : Option (Bor X)) → IsItemAt xs i r → option_copied r ≡ slice_get xs i
got xs i None h = sym (slice_get_past xs i h.3)
got xs i (Some x) h = sym (slice_get_read xs (length xs) i x.now refl h.3.0 h.1)

pub returns : goal.returns
returns c =
    let all : c.as_slice.result.now ≡ each_names c.args.self.now.functions =
    c.as_slice.ensures ∙ ap (λ (k : CheckedScript). k.names) c.deref.ensures ∙ c.self.invariant.variables ∙ ap (λ (s : Script). each_names s.functions) c.self.view_is in
    got c.as_slice.result.now c.args.function c.get.result c.get.ensures.lookup
    ∙ ap (λ (l : List (List (List ℕ))). slice_get l c.args.function) all ∙ slice_get-map variable_names c.args.self.now.functions c.args.function
