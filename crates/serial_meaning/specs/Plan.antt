-- What is run: a script, coefficients, limits, what is shown and how often a draw is mixed (docs/LANGUAGE.md, "Command words").
use Rattle.std.specs.Prelude.{◌≡◌, ◌≤◌, ℕ, List, length}
use Rattle.dotmix.specs.Draws.{dotmix, most_rounds}
use Rattle.script_grammar.specs.declared.tree.Script.{Script}
use Rattle.script_grammar.specs.declared.tree.Function.{Function}
use Rattle.serial_meaning.specs.declared.plan.Limits.{Limits}
use Rattle.serial_meaning.specs.declared.plan.Show.{Show}

-- A plan as contracts and the definitions see it.
pub record PlanView : Type 0 where
  pub script : Script
  pub gamma : List ℕ
  pub limits : Limits
  pub show : Show
  pub rounds : ℕ

-- the most ranks of a pedigree
abbrev pub most_depth : ℕ
most_depth = 512

pub record IsPlan (gamma : List ℕ) (limits : Limits) (rounds : ℕ) : Type 0 where
  pub coefficients : length gamma ≡ limits.depth
  pub some_depth : 1 ≤ limits.depth
  pub depth_limit : limits.depth ≤ most_depth
  pub some_step : 1 ≤ limits.budget
  pub rounds_limit : rounds ≤ most_rounds

abbrev pub functions_of : PlanView → List Function
functions_of plan = plan.script.functions

-- the number that the strand of a pedigree draws
abbrev pub drawn : PlanView → List ℕ → ℕ
drawn plan j = dotmix plan.gamma j plan.rounds
