-- The functions of a script by their names.
use Rattle.std.specs.Prelude.{ℕ, suc, List, [], ◌∷◌, Option, Some, None, codes, slice_get, option_map, if◌then◌else◌}
use Rattle.std.specs.Str.{bytes_eq}
use Rattle.script_grammar.specs.declared.tree.Function.{Function}

-- the index of the first function of this name
abbrev pub first_named : List Function → List ℕ → Option ℕ
first_named [] name = None
first_named (f ∷ fs) name = if bytes_eq f.name.bytes name then Some 0 else option_map suc (first_named fs name)

-- the first function of this name
abbrev pub function_at : List Function → Option ℕ → Option Function
function_at fs None = None
function_at fs (Some i) = slice_get fs i

abbrev pub function_named : List Function → List ℕ → Option Function
function_named fs name = function_at fs (first_named fs name)

abbrev pub main_name : List ℕ
main_name = codes "main"
