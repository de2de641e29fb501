-- An environment: the names of its function's variables, each of which has a slot, and the variables that there are.
use Rattle.std.specs.Prelude.{◌≡◌, ℕ, suc, true, nat_eq, List, [], ◌∷◌, ◌++◌, Option, Some, None, length, get_or, All, if◌then◌else◌}
use Rattle.script_grammar.specs.declared.tree.Expr.{Expr}
use Rattle.script_grammar.specs.declared.tree.Name.{Name}
use Rattle.script_check.specs.Slots.{every_in, every_in_all, has_slot, slot_in}
use Rattle.serial_meaning.specs.Exec.{with_content}
use Rattle.serial_meaning.specs.Values.{Env}
use Rattle.serial_meaning.specs.declared.environment.Content.{Content}
use Rattle.serial_meaning.specs.declared.environment.Content.TheVariants.{Scalar, Array}
use Rattle.serial_meaning.specs.declared.environment.Variable.{Variable}
use Rattle.serial_meaning.specs.declared.value.Value.TheVariants.{Int, Id}
use Rattle.strand_values.specs.declared.entry.Entry.{Entry}
use Rattle.strand_values.specs.declared.entry.Entry.TheVariants as entry

-- An environment as contracts see it.
pub record EnvironmentView : Type 0 where
  pub names : List (List ℕ)
  pub variables : Env

-- what the variable of a slot holds, if it is there
abbrev pub entry_content : Entry → Option Content
entry_content entry.Vacant = None
entry_content (entry.Int n) = Some (Scalar (Int n))
entry_content (entry.Id j) = Some (Scalar (Id j))
entry_content (entry.Array xs) = Some (Array xs)

abbrev pub content_at : List Entry → ℕ → Option Content
content_at entries i = entry_content (get_or entries i entry.Vacant)

abbrev pub prepend_content : List ℕ → Option Content → List Variable → List Variable
prepend_content name None vs = vs
prepend_content name (Some content) vs = record { name = name; content = content } ∷ vs

-- the variables, by their slots in the order in which they came to be
abbrev pub filled_variables : List (List ℕ) → List Entry → List ℕ → Env
filled_variables names entries [] = []
filled_variables names entries (i ∷ is) = prepend_content (get_or names i []) (content_at entries i) (filled_variables names entries is)

abbrev pub times_filled : ℕ → List ℕ → ℕ
times_filled i [] = 0
times_filled i (j ∷ js) = if nat_eq i j then suc (times_filled i js) else times_filled i js

-- how often a slot came to be filled, by what it holds
abbrev pub filled_once : Option Content → ℕ
filled_once None = 0
filled_once (Some content) = 1

-- There is an entry for each name. One that holds something was filled once, and is in the slot of its name.
pub record IsEnvironment (names : List (List ℕ)) (entries : List Entry) (filled : List ℕ) : Type 0 where
  pub one_for_each : length entries ≡ length names
  pub own : All (λ i. slot_in names (get_or names i []) ≡ Some i) filled
  pub once : (i : ℕ) → times_filled i filled ≡ filled_once (content_at entries i)

-- the table has the slot of each variable that is named
abbrev pub FindsExpression : List ℕ → EnvironmentView → Expr → Type 0
FindsExpression table env e = every_in (has_slot table env.names) e ≡ true

abbrev pub FindsArguments : List ℕ → EnvironmentView → List Expr → Type 0
FindsArguments table env es = every_in_all (has_slot table env.names) es ≡ true

abbrev pub FindsName : List ℕ → EnvironmentView → Name → Type 0
FindsName table env x = has_slot table env.names x ≡ true

-- the same names with other variables
abbrev pub with_variables : EnvironmentView → Env → EnvironmentView
with_variables env vs = record env { variables = vs }

-- the name in this slot has this slot
abbrev pub IsOwnSlot : List (List ℕ) → ℕ → Type 0
IsOwnSlot names i = slot_in names (get_or names i []) ≡ Some i

-- the slots in the order in which they were filled, once something is put into a slot whose entry held this
abbrev pub with_filled : List ℕ → ℕ → Option Content → List ℕ
with_filled filled i None = filled ++ i ∷ []
with_filled filled i (Some content) = filled

abbrev pub with_optional_content : Env → List ℕ → Option Content → Env
with_optional_content env name None = env
with_optional_content env name (Some content) = with_content env name content
