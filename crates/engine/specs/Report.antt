-- Reports: what a command writes, and how it ends.
use Rattle.std.specs.Prelude.{◌≡◌, ℕ, List, [], ◌++◌, length, Option, Some, None, Result, Ok, Err, codes, decimal}
use Rattle.dotmix.specs.Draws.{dot, dotmix}
use Rattle.ped_words.specs.declared.command.Settings.{Settings}
use Rattle.script_check.specs.Valid.{IsValid}
use Rattle.script_grammar.specs.Text.{Text}
use Rattle.script_grammar.specs.declared.tree.Script.{Script}
use Rattle.serial_meaning.specs.Plan.{PlanView}
use Rattle.serial_meaning.specs.Eval.{main_origin, elision}
use Rattle.serial_meaning.specs.Answer.{outcome_of}
use Rattle.serial_meaning.specs.Render.{end_line, rendered, strand_text}
use Rattle.serial_meaning.specs.declared.answer.Strand.{Strand}
use Rattle.span_report.specs.Series.{IsSpan}
use Rattle.sched_meaning.specs.Simulation.{IsSimWorker}
use Rattle.strand_meaning.specs.Strands.{Found, FoundStrand, Missing, Blocked as Blocks, strand_at}
use Rattle.serial_meaning.specs.declared.value.Value.{Value}
use Rattle.serial_meaning.specs.declared.answer.Outcome.{Outcome}
use Rattle.serial_meaning.specs.declared.answer.Outcome.TheVariants as outcome
use Rattle.serial_meaning.specs.declared.event.Fault.{Fault}
use Rattle.engine.specs.declared.report.Report as report
use Rattle.engine.specs.declared.report.ReportEnd.{ReportEnd}
use Rattle.engine.specs.declared.report.ReportEnd.TheVariants.{Done, Faulted, NoStrand, Blocked}
use Rattle.engine.specs.declared.status.Status.{Status}
use Rattle.engine.specs.declared.status.Status.TheVariants as status

-- what is written, and how the command ends
pub record Report : Type 0 where
  pub output : List ℕ
  pub ending : ReportEnd

-- the report of a command that ended well
abbrev pub done_report : List ℕ → Report
done_report output = record { output = output; ending = Done }

-- the plan of a run
abbrev pub plan_of : Settings → Script → PlanView
plan_of settings script = record { script = script; gamma = settings.gamma; limits = settings.limits; show = settings.show; rounds = settings.rounds }

abbrev pub report_end_of : Result (List Value) Fault → ReportEnd
report_end_of (Ok values) = Done
report_end_of (Err fault) = Faulted

-- A run writes the lines of the serial elision's events, and of its fault.
abbrev pub run_report : PlanView → Report
run_report plan = record {
  output = rendered plan.show (elision plan).items (outcome_of (main_origin plan) (elision plan).ending);
  ending = report_end_of (elision plan).ending;
}

abbrev pub worker_line : ℕ → List ℕ
worker_line w = codes "worker " ++ decimal w ++ codes "\n"

-- The report of a simulation on this many workers whose schedule this number picks: the line of the worker that ended
-- main, and then what a run writes.
pub record IsSimReport (plan : PlanView) (workers number : ℕ) (written : Report) : Type 0 where
  pub worker : ℕ
  pub answers : IsSimWorker plan workers number worker
  pub output : written.output ≡ worker_line worker ++ (run_report plan).output
  pub ending : written.ending ≡ (run_report plan).ending

abbrev pub span_lines : ℕ → ℕ → List ℕ
span_lines work span = codes "work " ++ decimal work ++ codes "\nspan " ++ decimal span ++ codes "\n"

-- The report of work and span: how many events the serial elision has, how many their longest chain has, and then the
-- line of its fault.
pub record IsSpanReport (plan : PlanView) (written : Report) : Type 0 where
  pub span : ℕ
  pub longest : IsSpan (elision plan).items span
  pub output : written.output ≡ span_lines (length (elision plan).items) span ++ end_line (outcome_of (main_origin plan) (elision plan).ending)
  pub ending : written.ending ≡ report_end_of (elision plan).ending

-- These bytes are the text of a valid script, and this is its plan with the settings.
abbrev pub IsPlanOf : Settings → List ℕ → PlanView → Type 0
IsPlanOf settings bytes plan = (script : Script) × Text bytes script × IsValid script × (plan ≡ plan_of settings script)

-- Whatever script has these bytes as its text, this is its plan.
abbrev pub IsPlanIn : Settings → List ℕ → PlanView → Type 0
IsPlanIn settings bytes plan = (script : Script) → Text bytes script → plan ≡ plan_of settings script

-- how the report of a strand ends, by the fault that ended it
abbrev pub strand_ending : Option Fault → ReportEnd
strand_ending None = Done
strand_ending (Some fault) = Faulted

abbrev pub strand_report : Strand → Report
strand_report strand = record { output = strand_text strand; ending = strand_ending strand.fault }

-- the report of a replay that finds this at the pedigree
abbrev pub found_report : List ℕ → Found → Report
found_report j (FoundStrand strand) = strand_report strand
found_report j Missing = record { output = []; ending = NoStrand j }
found_report j (Blocks fault) = record { output = []; ending = Blocked fault }

-- A replay reports what is at the pedigree in the open tree.
abbrev pub replay_report : PlanView → List ℕ → Report
replay_report plan j = found_report j (strand_at plan j)

-- These bytes are the text of a valid script, and this is the report of a replay of it.
abbrev pub IsReplayOf : Settings → List ℕ → List ℕ → Report → Type 0
IsReplayOf settings j bytes report = (script : Script) × Text bytes script × IsValid script × (report ≡ replay_report (plan_of settings script) j)

-- These bytes are the text of a valid script, and this is the report of a run of it.
abbrev pub IsRunOf : Settings → List ℕ → Report → Type 0
IsRunOf settings bytes report = (script : Script) × Text bytes script × IsValid script × (report ≡ run_report (plan_of settings script))

-- These bytes are the text of a valid script, and this is the report of a simulation of it.
abbrev pub IsSimOf : Settings → ℕ → ℕ → List ℕ → Report → Type 0
IsSimOf settings workers number bytes report = (script : Script) × Text bytes script × IsValid script × IsSimReport (plan_of settings script) workers number report

-- These bytes are the text of a valid script, and this is the report of its work and span.
abbrev pub IsSpanOf : Settings → List ℕ → Report → Type 0
IsSpanOf settings bytes report = (script : Script) × Text bytes script × IsValid script × IsSpanReport (plan_of settings script) report

-- the dot product of a pedigree, and its draw in this many rounds
abbrev pub hash_text : List ℕ → List ℕ → ℕ → List ℕ
hash_text gamma j rounds = codes "dot " ++ decimal (dot gamma j) ++ codes "\ndraw " ++ decimal (dotmix gamma j rounds) ++ codes "\n"

-- how the report of a run with this outcome ends
abbrev pub outcome_ending : Outcome → ReportEnd
outcome_ending (outcome.Fault fault) = Faulted
outcome_ending (outcome.Value value) = Done
outcome_ending (outcome.Values values) = Done
outcome_ending (outcome.Cut fault) = Done

-- the status after a report that was written whole, or that there is no strand
abbrev pub status_of : ReportEnd → Status
status_of Done = status.Done
status_of Faulted = status.Faulted
status_of (NoStrand j) = status.NoStrand
status_of (Blocked fault) = status.NoStrand

-- a report of the code as one of these records
abbrev pub report_view : report.Report → Report
report_view r = record { output = r.output; ending = r.ending }
