-- Which commands run on workers, which read a script, which scripts they take, and their reports.
use Rattle.std.specs.Prelude.{◌≡◌, ◌⊎◌, ⊤, ℕ, Bool, true, false, List, [], ◌∷◌, codes}
use Rattle.script_check.specs.Valid.{IsValid}
use Rattle.script_grammar.specs.declared.tree.Script.{Script}
use Rattle.script_grammar.specs.Text.{Text}
use Rattle.script_print.specs.Canonical.{canonical}
use Rattle.draw_lines.specs.Lines.{stream_text}
use Rattle.ped_gen.specs.Scripts.{generated}
use Rattle.ped_words.specs.declared.command.Command.{Command}
use Rattle.ped_words.specs.declared.command.Command.TheVariants.{Run, Serial, Sim, Replay, Hash, Check, Fmt, Gen, Stream, Span, Batch}
use Rattle.engine.specs.Batches.{IsBatchOf}
use Rattle.engine.specs.Report.{IsSimOf, IsSpanOf, Report, done_report, plan_of, run_report, replay_report, hash_text}

-- The word names a command that runs on workers.
abbrev pub IsRunWord : List ℕ → Type 0
IsRunWord word = (word ≡ codes "run") ⊎ (word ≡ codes "batch")

-- The first word names such a command.
abbrev pub RunsOnWorkers : List (List ℕ) → Type 0
RunsOnWorkers [] = ⊥
RunsOnWorkers (word ∷ words) = IsRunWord word

-- The command reads a script from the source.
abbrev pub takes_script : Command → Bool
takes_script (Run settings workers) = true
takes_script (Serial settings) = true
takes_script (Sim settings workers number) = true
takes_script (Replay settings at) = true
takes_script (Hash gamma at rounds) = false
takes_script Check = true
takes_script Fmt = true
takes_script (Gen shape size) = false
takes_script (Stream gamma at count rounds below) = false
takes_script (Span settings) = true
takes_script (Batch seeds limits show rounds workers) = true

-- The command's report is made whole before it is written. That of `stream` isn't.
abbrev pub is_whole : Command → Bool
is_whole (Run settings workers) = true
is_whole (Serial settings) = true
is_whole (Sim settings workers number) = true
is_whole (Replay settings at) = true
is_whole (Hash gamma at rounds) = true
is_whole Check = true
is_whole Fmt = true
is_whole (Gen shape size) = true
is_whole (Stream gamma at count rounds below) = false
is_whole (Span settings) = true
is_whole (Batch seeds limits show rounds workers) = true

-- The command takes the script: `fmt` takes any, others a valid one.
abbrev pub AcceptsScript : Command → Script → Type 0
AcceptsScript Fmt script = ⊤
AcceptsScript command script = IsValid script

-- the report on a script that the command takes, where that is a function of the script
abbrev pub report_of : Command → Script → Report
report_of (Run settings workers) script = run_report (plan_of settings script)
report_of (Serial settings) script = run_report (plan_of settings script)
report_of (Replay settings at) script = replay_report (plan_of settings script) at
report_of Fmt script = done_report (canonical script)
report_of command script = done_report (codes "ok\n")

-- This is the command's report where the source has these bytes. They matter only to a command that reads a script.
abbrev pub Reports : Command → List ℕ → Report → Type 0
Reports (Hash gamma at rounds) bytes report = report ≡ done_report (hash_text gamma at rounds)
Reports (Gen shape size) bytes report = report ≡ done_report (generated shape size)
Reports (Stream gamma at count rounds below) bytes report = report ≡ done_report (stream_text gamma at count rounds below)
Reports (Sim settings workers number) bytes report = IsSimOf settings workers number bytes report
Reports (Span settings) bytes report = IsSpanOf settings bytes report
Reports (Batch seeds limits show rounds workers) bytes report = IsBatchOf (record { seeds = seeds; limits = limits; show = show; rounds = rounds }) bytes report
Reports command bytes report = (script : Script) × Text bytes script × AcceptsScript command script × (report ≡ report_of command script)
