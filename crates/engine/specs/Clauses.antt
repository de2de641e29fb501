-- What a call of the program promises: the whole promise, its parts one by one, and what holds of every run.
use Rattle.std.specs.Prelude.{◌≡◌, ◌⊎◌, ◌<◌, ⊤, ℕ, List, length, Some, None, AllPairs, Contains, IsTrue, IsFalse, Result, Ok, Err}
use Rattle.std.specs.declared.option.Option.{Option}
use Rattle.ped_io.specs.Streams.{Appends, IsAtEnd}
use Rattle.ped_path.specs.Path.{IsBefore}
use Rattle.ped_words.specs.declared.command.Command.{Command}
use Rattle.ped_words.specs.declared.command.Command.TheVariants.{Replay}
use Rattle.ped_words.specs.declared.command.Settings.{Settings}
use Rattle.ped_words.specs.declared.rule.WordError.{WordError}
use Rattle.script_grammar.specs.declared.tree.Script.{Script as Tree}
use Rattle.script_grammar.specs.Text.{Text}
use Rattle.serial_meaning.specs.Plan.{PlanView, drawn}
use Rattle.serial_meaning.specs.Eval.{elision}
use Rattle.serial_meaning.specs.Open.{faults}
use Rattle.serial_meaning.specs.Laws.{raising_pedigrees, EndsByLeast}
use Rattle.serial_meaning.specs.declared.event.Event.TheVariants.{Draw}
use Rattle.engine.specs.declared.status.Status.{Status}
use Rattle.engine.specs.declared.status.Status.TheVariants.{Done, Faulted, Words, Script, Read, Write, Memory, NoStrand}
use Rattle.engine.specs.Commands.{AcceptsScript, Reports, takes_script}
use Rattle.engine.specs.Report.{Report, plan_of, status_of}
use Rattle.engine.specs.Promise.{KeepsPromise, ReadsNone, Watched, HasFailed, has_line, has_output, most_bytes, watched}

-- The words aren't a command.
abbrev pub AreNoCommand : Result Command WordError → Type 0
AreNoCommand (Ok command) = ⊥
AreNoCommand (Err error) = ⊤

-- The words are refused exactly where they aren't a command, unless memory runs out.
abbrev pub RefusesWords : Result Command WordError → Status → Type 0
RefusesWords given status = (status ≡ Words → AreNoCommand given) × (AreNoCommand given → (status ≡ Words) ⊎ (status ≡ Memory))

-- The bytes are too many, or aren't the text of a script that the command takes.
abbrev pub IsBad : Command → List ℕ → Type 0
IsBad command bytes = (most_bytes < length bytes) ⊎ ((script : Tree) → Text bytes script → AcceptsScript command script → ⊥)

-- A command that reads no script refuses none. Where a command reads one and the source's bytes are known, they are
-- refused exactly where they are bad, unless a read failed or memory ran out.
abbrev pub RefusesScript : Result Command WordError → Option (List ℕ) → Status → Type 0
RefusesScript (Ok command) (Some bytes) status =
    (status ≡ Script → IsTrue (takes_script command) × IsBad command bytes)
    × (IsTrue (takes_script command) → IsBad command bytes → (status ≡ Script) ⊎ ((status ≡ Read) ⊎ (status ≡ Memory)))
RefusesScript (Ok command) None status = status ≡ Script → IsTrue (takes_script command)
RefusesScript (Err error) told status = status ≡ Script → ⊥

-- The command's report on these bytes was written whole, and the status is the report's. Where the command takes a
-- script, the source was read to its end.
pub record WroteReport (command : Command) (bytes : List ℕ) (source out : Watched) (status : Status) : Type 0 where
  pub report : Report
  pub reports : Reports command bytes report
  pub end : IsTrue (takes_script command) → IsAtEnd source.after
  pub output : Appends out.before out.after report.output
  pub ends : status ≡ status_of report.ending

-- Where the source's bytes are known, a whole output is that of the report on them.
abbrev pub WritesReport : Result Command WordError → Watched → Option (List ℕ) → Watched → Status → Type 0
WritesReport given source None out status = ⊤
WritesReport given source (Some bytes) out status =
    (status ≡ Done) ⊎ (status ≡ Faulted) → (command : Command) × (given ≡ Ok command) × WroteReport command bytes source out status

-- The command asks for one strand.
abbrev pub IsReplay : Command → Type 0
IsReplay (Replay settings at) = ⊤
IsReplay command = ⊥

-- The command is a replay, and its report on these bytes is that there is no strand.
pub record FindsNoStrand (command : Command) (bytes : List ℕ) : Type 0 where
  pub replay : IsReplay command
  pub report : Report
  pub reports : Reports command bytes report
  pub ends : status_of report.ending ≡ NoStrand

-- Only a replay says that there is no strand. Where the source's bytes are known, it says so exactly where that is the
-- report on them, unless a read failed or memory ran out.
abbrev pub TellsNoStrand : Result Command WordError → Option (List ℕ) → Status → Type 0
TellsNoStrand (Ok command) (Some bytes) status =
    (status ≡ NoStrand → FindsNoStrand command bytes)
    × ((IsBad command bytes → ⊥) → ((report : Report) → Reports command bytes report → status_of report.ending ≡ NoStrand) →
    (status ≡ NoStrand) ⊎ ((status ≡ Read) ⊎ (status ≡ Memory)))
TellsNoStrand (Ok command) None status = status ≡ NoStrand → IsReplay command
TellsNoStrand (Err error) told status = status ≡ NoStrand → ⊥

-- The whole report was written, or a replay found no strand, or memory ran out.
abbrev pub IsComplete : Command → Status → Type 0
IsComplete command status = (status ≡ Done) ⊎ ((status ≡ Faulted) ⊎ ((status ≡ Memory) ⊎ ((status ≡ NoStrand) × IsReplay command)))

-- Where the words are a command, the source's bytes are known and not bad for it, and neither a read nor a write of the
-- output failed, the call is complete.
abbrev pub Completes : Result Command WordError → Watched → Option (List ℕ) → Watched → Status → Type 0
Completes (Ok command) source (Some bytes) out status = (IsTrue (takes_script command) → IsBad command bytes → ⊥) → (HasFailed source → ⊥) → (HasFailed out → ⊥) → IsComplete command status
Completes given source told out status = ⊤

-- What holds of a plan's run: the pedigrees of its events other than prints rise strictly, so no two are equal; each
-- draw is DotMix of its pedigree; and a fault that ends it is the least of all that the script could meet.
pub record FollowsPedigrees (plan : PlanView) : Type 0 where
  pub rise : AllPairs IsBefore (raising_pedigrees (elision plan).items)
  pub draws : (j : List ℕ) (n : ℕ) → Contains (elision plan).items (Draw j n) → n ≡ drawn plan j
  pub least : EndsByLeast (faults plan) (elision plan).ending

-- A source or a sink before and after a call, with the functions that give its bytes and how often it has failed.
pub record ObjectChange (T : Type 0) : Type 0 where
  pub told : T → Option (List ℕ)
  pub faults : T → ℕ
  pub old : T
  pub new : T

abbrev pub change : {T : Type 0} → (T → Option (List ℕ)) → (T → ℕ) → T → T → ObjectChange T
change told faults old new = record { told = told; faults = faults; old = old; new = new }

abbrev pub watched_change : {T : Type 0} → ObjectChange T → Watched
watched_change c = watched c.told c.faults c.old c.new

-- A call with these words: what it did to its source and its sinks, and its status.
pub record IsTopCall {S K E : Type 0} (given : Result Command WordError) (source : ObjectChange S) (out : ObjectChange K) (err : ObjectChange E) (status : Status) : Type 0 where
  pub promise : KeepsPromise given (watched_change source) (watched_change out) (watched_change err) status
  -- The source stays as it is where the words aren't a command that reads it, and so does a sink where the status comes
  -- without output or without a line.
  pub untouched : ReadsNone given → source.new ≡ source.old
  pub no_output : IsFalse (has_output status) → out.new ≡ out.old
  pub no_line : IsFalse (has_line status) → err.new ≡ err.old
  -- The parts of the promise, one by one.
  pub words : RefusesWords given status
  pub script : RefusesScript given (watched_change source).before status
  pub report : WritesReport given (watched_change source) (watched_change source).before (watched_change out) status
  pub no_strand : TellsNoStrand given (watched_change source).before status
  pub read : status ≡ Read → HasFailed (watched_change source)
  pub write : status ≡ Write → HasFailed (watched_change out)
  pub complete : Completes given (watched_change source) (watched_change source).before (watched_change out) status
  -- What holds of every run.
  pub events : (settings : Settings) (tree : Tree) → FollowsPedigrees (plan_of settings tree)
