-- The functions of a script: the one that a name means (docs/LANGUAGE.md, "Names"), and whether a function's text holds a spawn, so that its
-- return waits ("Steps").
pub use Rattle.script_check.specs.Spawns.{any_true, act_spawns, spawns, any_spawns}
use Rattle.std.specs.Prelude.{ℕ, suc, List, [], ◌∷◌, Option, codes, slice_get, if◌then◌else◌}
use Rattle.std.specs.Str.{bytes_eq}
use Rattle.script_grammar.specs.declared.tree.Function.{Function}

-- the index of the first function with this name, or the number of functions where there is none
abbrev pub function_number : List Function → List ℕ → ℕ
function_number [] name = 0
function_number (f ∷ fs) name = if bytes_eq f.name.bytes name then 0 else suc (function_number fs name)

abbrev pub function_at : List Function → ℕ → Option Function
function_at = slice_get

abbrev pub main_name : List ℕ
main_name = codes "main"
