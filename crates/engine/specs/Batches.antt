-- Running one script under a list of seeds.
use Rattle.std.specs.Prelude.{◌≡◌, ℕ, Bool, true, false, List, map}
use Rattle.std.specs.List.{list_any}
use Rattle.dotmix.specs.Words.{coefficients}
use Rattle.ped_words.specs.Commands.{IsBatch}
use Rattle.ped_words.specs.declared.command.Command.{Command}
use Rattle.ped_words.specs.declared.command.Command.TheVariants as command
use Rattle.ped_words.specs.declared.command.Settings.{Settings}
use Rattle.script_check.specs.Valid.{IsValid}
use Rattle.script_grammar.specs.Text.{Text}
use Rattle.script_grammar.specs.declared.tree.Script.{Script}
use Rattle.serial_meaning.specs.Plan.{PlanView}
use Rattle.serial_meaning.specs.declared.answer.Outcome.{Outcome}
use Rattle.serial_meaning.specs.declared.answer.Outcome.TheVariants as outcome
use Rattle.seed_batch.specs.Batch.{batch, batch_text, main_answer}
use Rattle.engine.specs.declared.batch.Batch.{Batch}
use Rattle.engine.specs.declared.report.ReportEnd.{ReportEnd}
use Rattle.engine.specs.declared.report.ReportEnd.TheVariants.{Done, Faulted, NoStrand, Blocked}
use Rattle.engine.specs.Report.{Report, plan_of, run_report}

-- the settings under one seed
abbrev pub settings_under : Batch → ℕ → Settings
settings_under b seed = record { gamma = coefficients seed b.limits.depth; limits = b.limits; show = b.show; rounds = b.rounds }

abbrev pub plan_under : Batch → Script → ℕ → PlanView
plan_under b script seed = plan_of (settings_under b seed) script

-- the command that runs this batch on this many workers
abbrev pub batch_command : Batch → ℕ → Command
batch_command b workers = command.Batch b.seeds b.limits b.show b.rounds workers

-- The seeds are neither none nor too many, and each of them makes a plan of any script.
abbrev pub IsLawfulBatch : Batch → Type 0
IsLawfulBatch b = IsBatch b.seeds b.limits b.rounds

abbrev pub is_faulted : ReportEnd → Bool
is_faulted Done = false
is_faulted Faulted = true
is_faulted (NoStrand j) = false
is_faulted (Blocked fault) = false

abbrev pub is_fault : Outcome → Bool
is_fault (outcome.Value v) = false
is_fault (outcome.Values vs) = false
is_fault (outcome.Fault f) = true
is_fault (outcome.Cut f) = false

-- how a batch ends, given whether one of its runs ends by a fault
abbrev pub batch_ending : Bool → ReportEnd
batch_ending true = Faulted
batch_ending false = Done

-- For each seed, in order, its line and then what a run under it writes. It ends by a fault where at least one of these
-- runs does.
abbrev pub batch_report : Batch → Script → Report
batch_report b script = record {
  output = batch (λ seed. (run_report (plan_under b script seed)).output) b.seeds;
  ending = batch_ending (list_any (λ seed. is_faulted (run_report (plan_under b script seed)).ending) b.seeds);
}

-- These bytes are the text of a valid script, and this is the batch's report on it.
abbrev pub IsBatchOf : Batch → List ℕ → Report → Type 0
IsBatchOf b bytes report = (script : Script) × Text bytes script × IsValid script × (report ≡ batch_report b script)

-- the report of main's answers under these plans, each after the line of its seed
abbrev pub written : List ℕ → List PlanView → Report
written seeds plans = record {
  output = batch_text seeds (map main_answer plans);
  ending = batch_ending (list_any (λ plan. is_faulted (run_report plan).ending) plans);
}
