-- What each status of the top call means.
use Rattle.std.specs.Prelude.{◌≡◌, ◌⊎◌, ⊤, ℕ, ◌+◌, ◌≤◌, List, length, Bool, true, false, IsTrue, IsFalse, Result, Ok, Err, codes}
use Rattle.std.specs.declared.option.Option.{Option}
use Rattle.ped_io.specs.Causes.{Rose}
use Rattle.ped_io.specs.Streams.{Appends, AppendsFront, Consumes, ConsumesJust, IsAtEnd}
use Rattle.ped_words.specs.declared.command.Command.{Command}
use Rattle.ped_words.specs.declared.rule.WordError.{WordError}
use Rattle.ped_words.specs.declared.rule.WordError.TheVariants as words
use Rattle.script_check.specs.Valid.{CheckFault}
use Rattle.script_grammar.specs.declared.tree.Script.{Script}
use Rattle.script_grammar.specs.Text.{Text, SyntaxFault}
use Rattle.engine.specs.declared.status.Status.{Status}
use Rattle.engine.specs.declared.status.Status.TheVariants.{Done, Faulted, Words, Script as BadScript, Read, Write, Memory, NoStrand}
use Rattle.engine.specs.declared.report.ReportEnd.{ReportEnd}
use Rattle.engine.specs.declared.report.ReportEnd.TheVariants as E
use Rattle.engine.specs.Commands.{AcceptsScript, Reports, takes_script}
use Rattle.engine.specs.Lines.{blocked_line, check_line, no_strand_line, syntax_line, words_line}
use Rattle.engine.specs.Report.{Report}

-- a script has at most this many bytes
abbrev pub most_bytes : ℕ
most_bytes = 1048576

-- A source or a sink across a call: its bytes before and after, where they are known, and how often it had failed.
pub record Watched : Type 0 where
  pub before : Option (List ℕ)
  pub after : Option (List ℕ)
  pub failures_before : ℕ
  pub failures_after : ℕ

-- such a record of an object, from before and after the call
abbrev pub watched : {T : Type 0} → (T → Option (List ℕ)) → (T → ℕ) → T → T → Watched
watched told faults old new = record { before = told old; after = told new; failures_before = faults old; failures_after = faults new }

abbrev pub HasFailed : Watched → Type 0
HasFailed object = Rose object.failures_before object.failures_after

-- All the bytes were written.
abbrev pub Wrote : Watched → List ℕ → Type 0
Wrote object bytes = Appends object.before object.after bytes

-- The sink failed, and a prefix of the bytes was written.
pub record WroteFront (object : Watched) (bytes : List ℕ) : Type 0 where
  pub front : AppendsFront object.before object.after bytes
  pub failed : HasFailed object

-- The line was written whole, or a prefix of it where the sink failed.
abbrev pub WroteLine : Watched → List ℕ → Type 0
WroteLine object line = Wrote object line ⊎ WroteFront object line

-- The source had these bytes, and was read to its end.
pub record ReadWhole (source : Watched) (bytes : List ℕ) : Type 0 where
  pub taken : Consumes source.before source.after bytes
  pub end : IsAtEnd source.after
  pub within : length bytes ≤ most_bytes

-- why these bytes are rejected, and the line that says so
pub data Why (bytes line : List ℕ) : Type 0 where
  NoText : (number at : ℕ) → SyntaxFault bytes number at → line ≡ syntax_line number at → Why bytes line
  Invalid : (script : Script) (number at : ℕ) → Text bytes script → CheckFault script number at → line ≡ check_line number at → Why bytes line

-- These bytes aren't the text of a script that is taken, and this line says why.
pub record IsRejected (takes : Script → Type 0) (bytes line : List ℕ) : Type 0 where
  pub none : (script : Script) → Text bytes script → takes script → ⊥
  pub why : Why bytes line

-- The source has more bytes than a script may have, or they aren't the text of a script that the command takes; the
-- error line says which.
abbrev pub HasNoScript : Command → Watched → Watched → Type 0
HasNoScript command source err =
    (ConsumesJust source.before source.after (most_bytes + 1) × WroteLine err (codes "script: too long\n"))
    ⊎ ((bytes : List ℕ) × (line : List ℕ) × ReadWhole source bytes × IsRejected (AcceptsScript command) bytes line × WroteLine err line)

-- This is the command's report. Where it takes a script, it is the report on the source's bytes.
abbrev pub HasReport : Command → Watched → Report → Type 0
HasReport command source report =
    (bytes : List ℕ) × (IsTrue (takes_script command) → ReadWhole source bytes) × Reports command bytes report

-- The command's report ends in this way, and its output has property `P`.
abbrev pub IsReported : Command → Watched → ReportEnd → (List ℕ → Type 0) → Type 0
IsReported command source ending P = (report : Report) × HasReport command source report × (report.ending ≡ ending) × P report.output

-- The report is that there is no strand, and the error line says why.
abbrev pub TellsNone : Watched → ReportEnd → Type 0
TellsNone err E.Done = ⊥
TellsNone err E.Faulted = ⊥
TellsNone err (E.NoStrand j) = WroteLine err (no_strand_line j)
TellsNone err (E.Blocked fault) = WroteLine err (blocked_line fault.at)

-- A report that ends in this way has output.
abbrev pub HasOutput : ReportEnd → Type 0
HasOutput E.Done = ⊤
HasOutput E.Faulted = ⊤
HasOutput (E.NoStrand j) = ⊥
HasOutput (E.Blocked fault) = ⊥

-- What each status means where the words are this command.
abbrev pub StatusMeans : Command → Watched → Watched → Watched → Status → Type 0
StatusMeans command source out err Done = IsReported command source E.Done (Wrote out)
StatusMeans command source out err Faulted = IsReported command source E.Faulted (Wrote out)
StatusMeans command source out err Words = ⊥
StatusMeans command source out err BadScript = IsTrue (takes_script command) × HasNoScript command source err
StatusMeans command source out err Read = IsTrue (takes_script command) × HasFailed source × WroteLine err (codes "read fault\n")
StatusMeans command source out err Write = ((report : Report) × HasReport command source report × HasOutput report.ending × WroteFront out report.output) × WroteLine err (codes "write fault\n")
StatusMeans command source out err Memory = WroteLine err (codes "out of memory\n")
StatusMeans command source out err NoStrand = (report : Report) × HasReport command source report × TellsNone err report.ending

-- What each status means where the words aren't a command.
abbrev pub Refuses : WordError → Watched → Status → Type 0
Refuses (words.Bad number at) err Words = WroteLine err (words_line number at)
Refuses error err Memory = WroteLine err (codes "out of memory\n")
Refuses error err status = ⊥

abbrev pub KeepsPromise : Result Command WordError → Watched → Watched → Watched → Status → Type 0
KeepsPromise (Ok command) source out err status = StatusMeans command source out err status
KeepsPromise (Err error) source out err status = Refuses error err status

-- The words aren't a command that reads the source.
abbrev pub ReadsNone : Result Command WordError → Type 0
ReadsNone (Ok command) = IsFalse (takes_script command)
ReadsNone (Err error) = ⊤

-- The status comes with output.
abbrev pub has_output : Status → Bool
has_output Done = true
has_output Faulted = true
has_output Write = true
has_output _ = false

-- The status comes with an error line.
abbrev pub has_line : Status → Bool
has_line Done = false
has_line Faulted = false
has_line _ = true
