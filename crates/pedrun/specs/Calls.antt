-- How the program answers its words.
use Rattle.std.specs.Prelude.{◌≡◌, ◌⊎◌, ℕ, Option, Some, None, List, IsFalse, Result, codes}
use Rattle.ped_words.specs.Reading.{reading}
use Rattle.ped_words.specs.declared.command.Command.{Command}
use Rattle.ped_words.specs.declared.rule.WordError.{WordError}
use Rattle.engine.specs.Clauses.{IsTopCall, ObjectChange, watched_change}
use Rattle.engine.specs.Promise.{WroteFront, WroteLine, Wrote, Watched, has_line, watched}
use Rattle.engine.specs.declared.status.Status.{Status}
use Rattle.engine.specs.declared.status.Status.TheVariants.{Done, Write}
use Rattle.pedrun.specs.Help.{topic_of}
use Rattle.pedrun.specs.declared.help.Topic.{Topic}

-- A text was written whole; or the sink failed, a prefix of it was written, and then a line to the error output.
abbrev pub Shows : List ℕ → Watched → Watched → Status → Type 0
Shows text out err status = ((status ≡ Done) × Wrote out text) ⊎ ((status ≡ Write) × WroteFront out text × WroteLine err (codes "write fault\n"))

-- A help text was shown, and nothing was read.
pub record ShowsHelp {S K E : Type 0} (source : ObjectChange S) (out : ObjectChange K) (err : ObjectChange E) (status : Status) : Type 0 where
  pub text : List ℕ
  pub shown : Shows text (watched_change out) (watched_change err) status
  pub no_line : IsFalse (has_line status) → err.new ≡ err.old
  pub unread : source.new ≡ source.old

-- Some bytes were written.
abbrev pub WroteSome : Watched → Type 0
WroteSome object = (bytes : List ℕ) × Wrote object bytes

-- A top call was made, and then lines for a person were written to the error output, after the call's own.
pub record IsCallWithNotes {S K E : Type 0} (given : Result Command WordError) (source : ObjectChange S) (out : ObjectChange K) (err : ObjectChange E) (status : Status) : Type 0 where
  pub told : E
  pub call : IsTopCall given source out (record err { new = told }) status
  pub notes : WroteSome (watched err.told err.faults told err.new)

-- The words ask for a help text, which was shown; or for none, and then `Call` holds.
abbrev pub AnswersTopic : {S K E : Type 0} → Option Topic → Type 0 → ObjectChange S → ObjectChange K → ObjectChange E → Status → Type 0
AnswersTopic None Call source out err status = Call
AnswersTopic (Some topic) Call source out err status = ShowsHelp source out err status

-- The words were answered by a help text or by a top call.
abbrev pub Answers : {S K E : Type 0} → List (List ℕ) → ObjectChange S → ObjectChange K → ObjectChange E → Status → Type 0
Answers words source out err status = AnswersTopic (topic_of words) (IsTopCall (reading words) source out err status) source out err status

-- The same on a terminal, where lines for a person may follow.
abbrev pub AnswersWithNotes : {S K E : Type 0} → List (List ℕ) → ObjectChange S → ObjectChange K → ObjectChange E → Status → Type 0
AnswersWithNotes words source out err status = AnswersTopic (topic_of words) (IsCallWithNotes (reading words) source out err status) source out err status
