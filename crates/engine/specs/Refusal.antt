-- Why no report was made.
use Rattle.std.specs.Prelude.{◌≡◌, ⊤, ℕ, ◌+◌, List, IsTrue, string_bytes}
use Rattle.ped_io.specs.Streams.{ConsumesJust}
use Rattle.ped_words.specs.declared.command.Command.{Command}
use Rattle.script_grammar.specs.declared.tree.Script.{Script}
use Rattle.engine.specs.Commands.{AcceptsScript, takes_script}
use Rattle.engine.specs.declared.refusal.Refusal.{Refusal}
use Rattle.engine.specs.declared.refusal.Refusal.TheVariants.{TooLong, Rejected, Read, Memory}
use Rattle.engine.specs.Promise.{Watched, HasFailed, ReadWhole, IsRejected, most_bytes}

-- What a refusal means, given the meanings of a source that is too long, of a rejection with its line, and of a failed
-- read. Memory may run out at any time.
abbrev pub Means : Type 0 → (List ℕ → Type 0) → Type 0 → Refusal → Type 0
Means is_long is_rejected is_unread TooLong = is_long
Means is_long is_rejected is_unread (Rejected line) = is_rejected (string_bytes line)
Means is_long is_rejected is_unread Read = is_unread
Means is_long is_rejected is_unread Memory = ⊤

-- The refusal is a rejection with this line.
abbrev pub IsRefusalLine : List ℕ → Refusal → Type 0
IsRefusalLine line = Means ⊥ (λ told. told ≡ line) ⊥

-- The refusal of bytes that aren't a script that is taken.
abbrev pub IsRejection : (Script → Type 0) → List ℕ → Refusal → Type 0
IsRejection takes bytes = Means ⊥ (IsRejected takes bytes) ⊥

-- One byte more than a script may have was read from the source.
abbrev pub IsLong : Watched → Type 0
IsLong source = ConsumesJust source.before source.after (most_bytes + 1)

-- The refusal where the source couldn't be read.
abbrev pub IsFetchRefusal : Watched → Refusal → Type 0
IsFetchRefusal source = Means (IsLong source) (λ line. ⊥) (HasFailed source)

-- The source's bytes aren't the text of a script that the command takes, and this line says why.
abbrev pub HasRejected : Command → Watched → List ℕ → Type 0
HasRejected command source line = (bytes : List ℕ) × ReadWhole source bytes × IsRejected (AcceptsScript command) bytes line

-- The refusal of a command's report. Only a command that takes a script is refused for another reason than memory.
abbrev pub IsCause : Command → Watched → Refusal → Type 0
IsCause command source =
    let takes = IsTrue (takes_script command) in Means (takes × IsLong source) (λ line. takes × HasRejected command source line) (takes × HasFailed source)
