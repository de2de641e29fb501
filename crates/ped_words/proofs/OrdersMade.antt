-- What values make depends on their words alone, apart from where they stand.
use Rattle.std.proofs.Common.{◌≡◌, ℕ, ◌+◌, ◌^◌, Bool, true, false, if◌then◌else◌, Option, Some, None, Ok, List, refl, sym, ap, ◌∙◌}
use Rattle.std.specs.Prelude.{unwrap_or, option_and_then, is_some, nat_le}
use Rattle.std.specs.Option.{option_map, option_or}
use Rattle.std.proofs.lemmas.Option.{none-some}
use Rattle.ped_words.specs.Making.{budget_of, command_of, count_fits, default_depth, depth_for, depth_of, first_late, gamma_fits, gamma_from, command_gamma, hash_depth, holds_for, is_gamma, is_size, late_rules, limits_of, made_command, made_of, rounds_of, settings_of, size_fits, range_error, workers_of}
use Rattle.ped_words.specs.Pedigrees.{last_rank}
use Rattle.ped_words.specs.Rules.{breaks}
use Rattle.ped_words.specs.Table.{value_type_of, show_of, shape_of, takes_option}
use Rattle.ped_words.specs.Values.{OptionValues, list, list_as, number_value, number_as, pedigree, pedigree_in, shape, show, value}
use Rattle.ped_words.specs.declared.command.Command.{Command}
use Rattle.ped_words.specs.declared.command.Command.TheVariants as command
use Rattle.ped_words.specs.declared.command.Settings.{Settings}
use Rattle.ped_words.specs.declared.rule.Rule.TheVariants as rule
use Rattle.ped_words.specs.declared.rule.WordError.{WordError}
use Rattle.ped_words.specs.declared.table.OptionName.{OptionName}
use Rattle.ped_words.specs.declared.table.OptionName.TheVariants as name
use Rattle.ped_words.specs.declared.table.Subcommand.{Subcommand}
use Rattle.ped_words.specs.declared.table.Subcommand.TheVariants as subcommand
use Rattle.serial_meaning.specs.declared.plan.Limits.{Limits}
use Rattle.serial_meaning.specs.declared.plan.Show.{Show}
use Rattle.serial_meaning.specs.declared.plan.Show.TheVariants.{Plain}

-- the word that gives an option
abbrev pub word_of : OptionValues → OptionName → Option (List ℕ)
word_of values n = option_map (λ w. w.0) (values n)

pub some-word : (values : OptionValues) (n : OptionName) → is_some (word_of values n) ≡ is_some (values n)
some-word values n = go (values n)
  where
    go : (o : Option (List ℕ × ℕ)) → is_some (option_map (λ (w : List ℕ × ℕ). w.0) o) ≡ is_some o
    go None = refl
    go (Some w) = refl

value-word : {X : Type 0} (read : List ℕ → Option X) (values : OptionValues) (n : OptionName) → value read values n ≡ option_and_then read (word_of values n)
value-word {X} read values n = go (values n)
  where
    go : (o : Option (List ℕ × ℕ)) → option_and_then (λ (w : List ℕ × ℕ). read w.0) o ≡ option_and_then read (option_map (λ (w : List ℕ × ℕ). w.0) o)
    go None = refl
    go (Some w) = refl

pub or_none : (a b : Option WordError) → option_or a b ≡ None → (a ≡ None) × (b ≡ None)
or_none None b e = (refl, e)
or_none (Some x) b e = absurd (none-some x (sym e))

pub none_or : (a b : Option WordError) → a ≡ None → b ≡ None → option_or a b ≡ None
none_or a b e f = ap (λ z. option_or z b) e ∙ f

made_ok : (broken : Option WordError) (n : ℕ) (o : Option Command) (c : Command) → made_of broken n o ≡ Ok c → (broken ≡ None) × (o ≡ Some c)
made_ok None n None c e = cc
made_ok (Some x) n None c e = cc
made_ok None n (Some d) c e = let same : d ≡ c = cc in (refl, ap Some same)
made_ok (Some x) n (Some d) c e = cc

abbrev shown : OptionValues → Show
shown values = unwrap_or (show values) Plain

abbrev settings_with : List ℕ → Limits → Show → ℕ → Settings
settings_with g l s r = record { gamma = g; limits = l; show = s; rounds = r }

module _ (values others : OptionValues) (same : (n : OptionName) → word_of others n ≡ word_of values n) where
  value-same : {X : Type 0} (read : List ℕ → Option X) (n : OptionName) → value read others n ≡ value read values n
  value-same read n = value-word read others n ∙ ap (option_and_then read) (same n) ∙ sym (value-word read values n)

  number-same : (n : OptionName) → number_value others n ≡ number_value values n
  number-same n = value-same (number_as (value_type_of n)) n

  list-same : (n : OptionName) → list others n ≡ list values n
  list-same n = value-same (list_as (value_type_of n)) n

  pedigree-same : pedigree others ≡ pedigree values
  pedigree-same = value-same pedigree_in name.At

  show-same : show others ≡ show values
  show-same = value-same show_of name.Show

  shape-same : shape others ≡ shape values
  shape-same = value-same shape_of name.Shape

  depth-same : depth_of others ≡ depth_of values
  depth-same = ap (λ o. unwrap_or o default_depth) (number-same name.Depth)

  budget-same : budget_of others ≡ budget_of values
  budget-same = ap (λ o. unwrap_or o 1000000) (number-same name.Budget)

  workers-same : workers_of others ≡ workers_of values
  workers-same = ap (λ o. unwrap_or o 4) (number-same name.Workers)

  rounds-same : rounds_of others ≡ rounds_of values
  rounds-same = ap (λ o. unwrap_or o 4) (number-same name.Rounds)

  limits-same : limits_of others ≡ limits_of values
  limits-same = ap (λ d. record { depth = d; budget = budget_of others }) depth-same ∙ ap (λ b. record { depth = depth_of values; budget = b }) budget-same

  gamma-same : (depth : ℕ) → command_gamma others depth ≡ command_gamma values depth
  gamma-same depth =
      ap (λ o. gamma_from o (unwrap_or (number_value others name.Seed) 0) depth) (list-same name.Gamma)
      ∙ ap (λ o. gamma_from (list values name.Gamma) (unwrap_or o 0) depth) (number-same name.Seed)

  settings-same : settings_of others ≡ settings_of values
  settings-same =
      ap (λ z. settings_with z (limits_of others) (shown others) (rounds_of others)) (gamma-same (depth_of others) ∙ ap (command_gamma values) depth-same)
      ∙ ap (λ z. settings_with (command_gamma values (depth_of values)) z (shown others) (rounds_of others)) limits-same
      ∙ ap (λ z. settings_with (command_gamma values (depth_of values)) (limits_of values) (unwrap_or z Plain) (rounds_of others)) show-same
      ∙ ap (λ z. settings_with (command_gamma values (depth_of values)) (limits_of values) (shown values) z) rounds-same

  command-same : (v : Subcommand) → command_of v others ≡ command_of v values
  command-same subcommand.Run = ap (λ z. Some (command.Run z (workers_of others))) settings-same ∙ ap (λ z. Some (command.Run (settings_of values) z)) workers-same
  command-same subcommand.Serial = ap (λ z. Some (command.Serial z)) settings-same
  command-same subcommand.Sim =
      ap (λ z. option_map (λ n. command.Sim z (workers_of others) n) (number_value others name.Number)) settings-same
      ∙ ap (λ z. option_map (λ n. command.Sim (settings_of values) z n) (number_value others name.Number)) workers-same
      ∙ ap (λ z. option_map (λ n. command.Sim (settings_of values) (workers_of values) n) z) (number-same name.Number)
  command-same subcommand.Replay =
      ap (λ z. option_map (λ j. command.Replay z j) (pedigree others)) settings-same ∙ ap (λ z. option_map (λ j. command.Replay (settings_of values) j) z) pedigree-same
  command-same subcommand.Hash =
      ap (λ z. option_map (λ j. command.Hash z j (rounds_of others)) (pedigree others)) (gamma-same hash_depth)
      ∙ ap (λ z. option_map (λ j. command.Hash (command_gamma values hash_depth) j z) (pedigree others)) rounds-same
      ∙ ap (λ z. option_map (λ j. command.Hash (command_gamma values hash_depth) j (rounds_of values)) z) pedigree-same
  command-same subcommand.Check = refl
  command-same subcommand.Fmt = refl
  command-same subcommand.Gen =
      ap (λ z. option_and_then (λ s. option_map (λ n. command.Gen s n) z) (shape others)) (number-same name.Size)
      ∙ ap (λ z. option_and_then (λ s. option_map (λ n. command.Gen s n) (number_value values name.Size)) z) shape-same
  command-same subcommand.Stream =
      ap (λ z. option_and_then (λ j. option_map (λ n. command.Stream z j n (rounds_of others) (number_value others name.Below)) (number_value others name.Count)) (pedigree others)) (gamma-same hash_depth)
      ∙ ap (λ z. option_and_then (λ j. option_map (λ n. command.Stream (command_gamma values hash_depth) j n z (number_value others name.Below)) (number_value others name.Count)) (pedigree others)) rounds-same
      ∙ ap (λ z. option_and_then (λ j. option_map (λ n. command.Stream (command_gamma values hash_depth) j n (rounds_of values) z) (number_value others name.Count)) (pedigree others)) (number-same name.Below)
      ∙ ap (λ z. option_and_then (λ j. option_map (λ n. command.Stream (command_gamma values hash_depth) j n (rounds_of values) (number_value values name.Below)) z) (pedigree others)) (number-same name.Count)
      ∙ ap (λ z. option_and_then (λ j. option_map (λ n. command.Stream (command_gamma values hash_depth) j n (rounds_of values) (number_value values name.Below)) (number_value values name.Count)) z) pedigree-same
  command-same subcommand.Span = ap (λ z. Some (command.Span z)) settings-same
  command-same subcommand.Batch =
      ap (λ z. option_map (λ s. command.Batch s z (shown others) (rounds_of others) (workers_of others)) (list others name.Seeds)) limits-same
      ∙ ap (λ z. option_map (λ s. command.Batch s (limits_of values) (unwrap_or z Plain) (rounds_of others) (workers_of others)) (list others name.Seeds)) show-same
      ∙ ap (λ z. option_map (λ s. command.Batch s (limits_of values) (shown values) z (workers_of others)) (list others name.Seeds)) rounds-same
      ∙ ap (λ z. option_map (λ s. command.Batch s (limits_of values) (shown values) (rounds_of values) z) (list others name.Seeds)) workers-same
      ∙ ap (λ z. option_map (λ s. command.Batch s (limits_of values) (shown values) (rounds_of values) (workers_of values)) z) (list-same name.Seeds)

  depth_for-same : (v : Subcommand) → depth_for v others ≡ depth_for v values
  depth_for-same subcommand.Hash = refl
  depth_for-same subcommand.Stream = refl
  depth_for-same _ = depth-same

  gamma_fits-same : (v : Subcommand) → gamma_fits others (depth_for v others) ≡ gamma_fits values (depth_for v values)
  gamma_fits-same v =
      ap (λ z. holds_for (λ given. is_gamma given (depth_for v others)) z) (list-same name.Gamma)
      ∙ ap (λ z. holds_for (λ given. is_gamma given z) (list values name.Gamma)) (depth_for-same v)

  size_fits-same : size_fits others ≡ size_fits values
  size_fits-same =
      ap (λ z. holds_for (λ s. holds_for (λ n. is_size s n) z) (shape others)) (number-same name.Size)
      ∙ ap (λ z. holds_for (λ s. holds_for (λ n. is_size s n) (number_value values name.Size)) z) shape-same

  count_fits-same : count_fits others ≡ count_fits values
  count_fits-same =
      ap (λ z. holds_for (λ j. holds_for (λ n. nat_le (last_rank j + n) (2 ^ 32)) z) (pedigree others)) (number-same name.Count)
      ∙ ap (λ z. holds_for (λ j. holds_for (λ n. nat_le (last_rank j + n) (2 ^ 32)) (number_value values name.Count)) z) pedigree-same

  -- what is in range stays so
  late-one : (v : Subcommand) (n : OptionName) (fits other : Bool) → other ≡ fits → (if takes_option v n then range_error values n fits else None) ≡ None → (if takes_option v n then range_error others n other else None) ≡ None
  late-one v n fits other e f = by_takes (takes_option v n) f
    where
      absent : (o p : Option (List ℕ × ℕ)) → option_map (λ (w : List ℕ × ℕ). w.0) p ≡ option_map (λ (w : List ℕ × ℕ). w.0) o →
          option_map (λ i. breaks rule.OutOfRange i) (option_map (λ (w : List ℕ × ℕ). w.1) o) ≡ None → option_map (λ i. breaks rule.OutOfRange i) (option_map (λ (w : List ℕ × ℕ). w.1) p) ≡ None
      absent o None g h = refl
      absent None (Some w) g h = absurd (none-some w.0 (sym g))
      absent (Some x) (Some w) g h = absurd (none-some _ (sym h))

      by_fits : (b : Bool) → fits ≡ b → range_error values n b ≡ None → range_error others n b ≡ None
      by_fits true g h = refl
      by_fits false g h = absent (values n) (others n) (same n) h

      by_takes : (b : Bool) → (if b then range_error values n fits else None) ≡ None → (if b then range_error others n other else None) ≡ None
      by_takes true g = ap (range_error others n) e ∙ by_fits fits refl g
      by_takes false g = refl

  late-none : (v : Subcommand) → first_late v values (late_rules v values) ≡ None → first_late v others (late_rules v others) ≡ None
  late-none v e =
      let a = or_none _ _ e in
      let b = or_none _ _ a.1 in
      let c = or_none _ _ b.1 in
      none_or _ _ (late-one v name.Gamma _ _ (gamma_fits-same v) a.0) (none_or _ _ (late-one v name.Size _ _ size_fits-same b.0) (none_or _ _ (late-one v name.Count _ _ count_fits-same c.0) refl))

  pub made-same : (v : Subcommand) (n : ℕ) (c : Command) → made_command v values n ≡ Ok c → made_command v others n ≡ Ok c
  made-same v n c e =
      let r = made_ok (first_late v values (late_rules v values)) n (command_of v values) c e in
      ap (λ z. made_of z n (command_of v others)) (late-none v r.0) ∙ ap (made_of None n) (command-same v ∙ r.1)
