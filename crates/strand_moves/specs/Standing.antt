-- Where an instance stands.
use Rattle.std.specs.Prelude.{ℕ, List, [], ◌∷◌, Option, Some, None}
use Rattle.script_grammar.specs.declared.tree.Function.{Function}
use Rattle.script_grammar.specs.declared.tree.Stmt.{Stmt, out-Stmt}
use Rattle.serial_meaning.specs.Functions.{function_at}
use Rattle.serial_meaning.specs.Plan.{PlanView, functions_of}
use Rattle.strand_meaning.specs.Machine.{Machine}
use Rattle.strand_moves.specs.declared.place.Place.{Place}

-- the offset of a function's word `return`
abbrev pub return_of : Option Function → ℕ
return_of None = 0
return_of (Some f) = f.return_at

-- the offset of the first of these statements, or that of the `return` after them
abbrev pub next_at : List Stmt → ℕ → ℕ
next_at [] return_at = return_at
next_at (st ∷ sts) return_at = (out-Stmt st).at

-- the innermost function, and what is next in it
abbrev pub place_of : PlanView → Machine → Place
place_of plan m = record { function = m.top.function; at = next_at m.top.left (return_of (function_at (functions_of plan) m.top.function)) }
