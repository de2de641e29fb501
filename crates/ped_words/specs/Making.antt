-- Which command the values of the options make, with which defaults, and what is judged after the last word.
use Rattle.std.specs.Prelude.{ℕ, ◌+◌, ◌^◌, Bool, true, ◌&&◌, not, nat_le, is_some, if◌then◌else◌, Option, Some, None, Result, Ok, Err, List, [], ◌∷◌, length, position, unwrap_or, option_and_then}
use Rattle.std.specs.Option.{option_map, option_or}
use Rattle.dotmix.specs.GammaState.{is_too_big, padded}
use Rattle.dotmix.specs.Words.{coefficients}
use Rattle.dotmix.specs.declared.gamma.GammaError.{GammaError}
use Rattle.dotmix.specs.declared.gamma.GammaError.TheVariants.{TooMany, TooBig, Memory}
use Rattle.ped_gen.specs.declared.shape.Shape.{Shape}
use Rattle.ped_gen.specs.declared.shape.Shape.TheVariants.{Fib, Tree, Loop}
use Rattle.serial_meaning.specs.declared.plan.Limits.{Limits}
use Rattle.serial_meaning.specs.declared.plan.Show.TheVariants.{Plain}
use Rattle.ped_words.specs.Pedigrees.{last_rank}
use Rattle.ped_words.specs.Rules.{breaks, unless_error}
use Rattle.ped_words.specs.Table.{takes_option}
use Rattle.ped_words.specs.Values.{OptionValues, value_index, list, number_value, pedigree, shape, show}
use Rattle.ped_words.specs.declared.command.Command.{Command}
use Rattle.ped_words.specs.declared.command.Command.TheVariants as command
use Rattle.ped_words.specs.declared.command.Settings.{Settings}
use Rattle.ped_words.specs.declared.rule.Rule.TheVariants as rule
use Rattle.ped_words.specs.declared.rule.WordError.{WordError}
use Rattle.ped_words.specs.declared.rule.WordError.TheVariants as word_error
use Rattle.ped_words.specs.declared.table.OptionName.{OptionName}
use Rattle.ped_words.specs.declared.table.OptionName.TheVariants as name
use Rattle.ped_words.specs.declared.table.Subcommand.{Subcommand}
use Rattle.ped_words.specs.declared.table.Subcommand.TheVariants as subcommand

-- the depth where none is given
abbrev pub default_depth : ℕ
default_depth = 256

-- the number of coefficients of a command that takes no depth
abbrev pub hash_depth : ℕ
hash_depth = 512

-- the seed where neither a seed nor a list is given
abbrev pub default_seed : ℕ
default_seed = 0

abbrev pub depth_of : OptionValues → ℕ
depth_of values = unwrap_or (number_value values name.Depth) default_depth

abbrev pub budget_of : OptionValues → ℕ
budget_of values = unwrap_or (number_value values name.Budget) 1000000

abbrev pub limits_of : OptionValues → Limits
limits_of values = record { depth = depth_of values; budget = budget_of values }

abbrev pub workers_of : OptionValues → ℕ
workers_of values = unwrap_or (number_value values name.Workers) 4

abbrev pub rounds_of : OptionValues → ℕ
rounds_of values = unwrap_or (number_value values name.Rounds) 4

-- the given list, followed by zeros, else the coefficients of the seed
abbrev pub gamma_from : Option (List ℕ) → ℕ → ℕ → List ℕ
gamma_from None seed depth = coefficients seed depth
gamma_from (Some given) seed depth = padded given depth

-- the coefficients that the options give
abbrev pub command_gamma : OptionValues → ℕ → List ℕ
command_gamma values depth = gamma_from (list values name.Gamma) (unwrap_or (number_value values name.Seed) default_seed) depth

abbrev pub settings_of : OptionValues → Settings
settings_of values = record {
  gamma = command_gamma values (depth_of values);
  limits = limits_of values;
  show = unwrap_or (show values) Plain;
  rounds = rounds_of values;
}

-- the command of these values; none where an option is missing that the command needs
abbrev pub command_of : Subcommand → OptionValues → Option Command
command_of subcommand.Run values = Some (command.Run (settings_of values) (workers_of values))
command_of subcommand.Serial values = Some (command.Serial (settings_of values))
command_of subcommand.Sim values = option_map (λ n. command.Sim (settings_of values) (workers_of values) n) (number_value values name.Number)
command_of subcommand.Replay values = option_map (λ j. command.Replay (settings_of values) j) (pedigree values)
command_of subcommand.Hash values = option_map (λ j. command.Hash (command_gamma values hash_depth) j (rounds_of values)) (pedigree values)
command_of subcommand.Check values = Some command.Check
command_of subcommand.Fmt values = Some command.Fmt
command_of subcommand.Gen values = option_and_then (λ s. option_map (λ n. command.Gen s n) (number_value values name.Size)) (shape values)
command_of subcommand.Stream values =
    option_and_then (λ j. option_map (λ n. command.Stream (command_gamma values hash_depth) j n (rounds_of values) (number_value values name.Below)) (number_value values name.Count)) (pedigree values)
command_of subcommand.Span values = Some (command.Span (settings_of values))
command_of subcommand.Batch values =
    option_map (λ s. command.Batch s (limits_of values) (unwrap_or (show values) Plain) (rounds_of values) (workers_of values)) (list values name.Seeds)

-- whether it holds for the value, if there is one
abbrev pub holds_for : {X : Type 0} → (X → Bool) → Option X → Bool
holds_for test None = true
holds_for test (Some x) = test x

-- the list is short enough, and its numbers are below the modulus
abbrev pub is_gamma : List ℕ → ℕ → Bool
is_gamma given depth = nat_le (length given) depth && not (is_some (position is_too_big given))

abbrev pub gamma_fits : OptionValues → ℕ → Bool
gamma_fits values depth = holds_for (λ given. is_gamma given depth) (list values name.Gamma)

-- how many coefficients the command takes
abbrev pub depth_for : Subcommand → OptionValues → ℕ
depth_for subcommand.Hash values = hash_depth
depth_for subcommand.Stream values = hash_depth
depth_for _ values = depth_of values

-- the error at the list's word, where the list gives no coefficients
abbrev pub gamma_error : GammaError → ℕ → WordError
gamma_error TooMany at = breaks rule.OutOfRange at
gamma_error (TooBig i) at = breaks rule.OutOfRange at
gamma_error Memory at = word_error.Memory

abbrev pub is_size : Shape → ℕ → Bool
is_size Fib n = nat_le n 30
is_size Tree n = nat_le n 20
is_size Loop n = nat_le 1 n && nat_le n 4096

abbrev pub size_fits : OptionValues → Bool
size_fits values = holds_for (λ s. holds_for (λ n. is_size s n) (number_value values name.Size)) (shape values)

-- The ranks stay below 2^32 for all numbers of the count.
abbrev pub count_fits : OptionValues → Bool
count_fits values = holds_for (λ j. holds_for (λ n. nat_le (last_rank j + n) (2 ^ 32)) (number_value values name.Count)) (pedigree values)

-- What is judged after the last word, in this order: whether the values of these options are in range, which depends on
-- other options too.
abbrev pub late_rules : Subcommand → OptionValues → List (OptionName × Bool)
late_rules subcommand values = (name.Gamma, gamma_fits values (depth_for subcommand values)) ∷ (name.Size, size_fits values) ∷ (name.Count, count_fits values) ∷ []

-- `out of range` at the option's value, unless it fits
abbrev pub range_error : OptionValues → OptionName → Bool → Option WordError
range_error values n fits = if fits then None else option_map (λ i. breaks rule.OutOfRange i) (value_index values n)

-- the first of these errors, for options that the command has
abbrev pub first_late : Subcommand → OptionValues → List (OptionName × Bool) → Option WordError
first_late subcommand values [] = None
first_late subcommand values (late ∷ others) = option_or (if takes_option subcommand late.0 then range_error values late.0 late.1 else None) (first_late subcommand values others)

abbrev pub made_of : Option WordError → ℕ → Option Command → Result Command WordError
made_of broken words None = Err (breaks rule.MissingOption words)
made_of broken words (Some c) = unless_error broken (Ok c)

-- the command of these values, or the first rule that is broken after the last of `words` words
abbrev pub made_command : Subcommand → OptionValues → ℕ → Result Command WordError
made_command subcommand values words = made_of (first_late subcommand values (late_rules subcommand values)) words (command_of subcommand values)
