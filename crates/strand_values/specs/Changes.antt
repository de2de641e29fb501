-- How statements change the variables.
use Rattle.std.specs.Prelude.{ℕ, List, Result, Ok}
use Rattle.script_grammar.specs.declared.tree.Param.{Param}
use Rattle.script_grammar.specs.declared.tree.Expr.{Expr}
use Rattle.script_grammar.specs.declared.tree.Name.{Name}
use Rattle.serial_meaning.specs.Runs.{◌>>=◌}
use Rattle.serial_meaning.specs.Values.{Env, value_of, values_of}
use Rattle.serial_meaning.specs.Exec.{bound, with_content}
use Rattle.serial_meaning.specs.declared.environment.Content.TheVariants.{Scalar}
use Rattle.serial_meaning.specs.declared.event.FaultKind.{FaultKind}
use Rattle.strand_values.specs.Environments.{EnvironmentView}

-- a scalar has the value of an expression
abbrev pub assigned : Env → Name → Expr → Result Env FaultKind
assigned env x e = value_of e env >>= λ v. Ok (with_content env x.bytes (Scalar v))

-- the variables of a callee, by the values of its arguments
abbrev pub called_with : List (List ℕ) → List Param → List Expr → Env → Result EnvironmentView FaultKind
called_with names params args env = values_of args env >>= λ vs. Ok (record { names = names; variables = bound params vs })
