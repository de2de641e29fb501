use Rattle.std.proofs.Common.{◌≡◌, ℕ, None, Some, Ok, true, sym, ◌∙◌, ap, subst}
use Rattle.std.specs.Option.{option_or}
use Rattle.ped_words.specs.Making.{depth_of, gamma_fits, made_command, made_of, settings_of, range_error, workers_of}
use Rattle.ped_words.specs.Given.{values_in}
use Rattle.ped_words.specs.Values.{OptionValues}
use Rattle.ped_words.specs.declared.command.Command.TheVariants as command
use Rattle.ped_words.specs.declared.command.Settings.{Settings}
use Rattle.ped_words.specs.declared.table.OptionName.TheVariants as name
use Rattle.ped_words.specs.declared.table.Subcommand.{Subcommand}
use Rattle.ped_words.specs.declared.table.Subcommand.TheVariants as subcommand
use Rattle.ped_words.proofs.given.Given.command.Goals as goal

module _ (v : Subcommand) (values : OptionValues) (words : ℕ) (s : Settings) (fits : gamma_fits values (depth_of values) ≡ true) (same : s ≡ settings_of values) where
  run_made : (w : ℕ) → v ≡ subcommand.Run → w ≡ workers_of values → made_command v values words ≡ Ok (command.Run s w)
  run_made w is workers =
      subst (λ (x : Subcommand). made_command x values words ≡ Ok (command.Run s w)) (sym is)
      (ap (λ b. made_of (option_or (range_error values name.Gamma b) None) words (Some (command.Run (settings_of values) (workers_of values)))) fits ∙ ap (λ t. Ok (command.Run t (workers_of values))) (sym same) ∙ ap (λ n. Ok (command.Run s n)) (sym workers))

  serial_made : v ≡ subcommand.Serial → made_command v values words ≡ Ok (command.Serial s)
  serial_made is =
      subst (λ (x : Subcommand). made_command x values words ≡ Ok (command.Serial s)) (sym is)
      (ap (λ b. made_of (option_or (range_error values name.Gamma b) None) words (Some (command.Serial (settings_of values)))) fits ∙ ap (λ t. Ok (command.Serial t)) (sym same))

  span_made : v ≡ subcommand.Span → made_command v values words ≡ Ok (command.Span s)
  span_made is =
      subst (λ (x : Subcommand). made_command x values words ≡ Ok (command.Span s)) (sym is)
      (ap (λ b. made_of (option_or (range_error values name.Gamma b) None) words (Some (command.Span (settings_of values)))) fits ∙ ap (λ t. Ok (command.Span t)) (sym same))

pub returns-in_ok-settings-in-Run-clause-value : goal.returns-in_ok-settings-in-Run-clause-value
returns-in_ok-settings-in-Run-clause-value c =
    run_made c.args.subcommand (values_in c.args.self.now) _ c.in_ok-settings-in-Run.field-0 c.in_ok-settings-in-Run.ensures.fits c.in_ok-settings-in-Run.ensures.ok c.workers.result c.in-Run.is c.workers.ensures.value

pub returns-in_ok-settings-in-Serial-clause-value : goal.returns-in_ok-settings-in-Serial-clause-value
returns-in_ok-settings-in-Serial-clause-value c =
    serial_made c.args.subcommand (values_in c.args.self.now) _ c.in_ok-settings-in-Serial.field-0 c.in_ok-settings-in-Serial.ensures.fits c.in_ok-settings-in-Serial.ensures.ok c.in-Serial.is

pub returns-in_ok-settings-in-Span-clause-value : goal.returns-in_ok-settings-in-Span-clause-value
returns-in_ok-settings-in-Span-clause-value c =
    span_made c.args.subcommand (values_in c.args.self.now) _ c.in_ok-settings-in-Span.field-0 c.in_ok-settings-in-Span.ensures.fits c.in_ok-settings-in-Span.ensures.ok c.in-Span.is
