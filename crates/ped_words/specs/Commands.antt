-- What holds of every command that is read, so that it can be carried out.
use Rattle.std.specs.Prelude.{◌≡◌, ℕ, ◌+◌, ◌≤◌, ◌^◌, Bool, true, false, List, length, IfSome}
use Rattle.dotmix.specs.Draws.{most_rounds}
use Rattle.dotmix.specs.Words.{coefficients}
use Rattle.ped_gen.specs.Shapes.{Fits}
use Rattle.serial_meaning.specs.Plan.{IsPlan}
use Rattle.serial_meaning.specs.declared.plan.Limits.{Limits}
use Rattle.ped_words.specs.Making.{hash_depth}
use Rattle.ped_words.specs.Pedigrees.{last_rank, most_ranks}
use Rattle.ped_words.specs.Table.{most_count, most_seeds}
use Rattle.ped_words.specs.declared.command.Command.{Command}
use Rattle.ped_words.specs.declared.command.Command.TheVariants.{Run, Serial, Sim, Replay, Hash, Check, Fmt, Gen, Stream, Span, Batch}
use Rattle.ped_words.specs.declared.command.Settings.{Settings}

-- The settings make a plan of any script.
abbrev pub AreLawful : Settings → Type 0
AreLawful settings = IsPlan settings.gamma settings.limits settings.rounds

abbrev pub IsWorkers : ℕ → Type 0
IsWorkers n = (1 ≤ n) × (n ≤ 64)

-- The pedigree can be hashed with these coefficients and rounds.
pub record IsHash (gamma at : List ℕ) (rounds : ℕ) : Type 0 where
  pub coefficients : length gamma ≡ hash_depth
  pub few : length at ≤ hash_depth
  pub rounds_limit : rounds ≤ most_rounds

-- This many numbers can be drawn from the pedigree on: the limit allows them, and the ranks stay below 2^32.
pub record IsCount (at : List ℕ) (count : ℕ) : Type 0 where
  pub some : 1 ≤ count
  pub few : count ≤ most_count
  pub ranks : last_rank at + count ≤ 2 ^ 32

-- The seeds are neither none nor too many, and each of them makes a plan of any script.
pub record IsBatch (seeds : List ℕ) (limits : Limits) (rounds : ℕ) : Type 0 where
  pub some : 1 ≤ length seeds
  pub few : length seeds ≤ most_seeds
  pub plans : (seed : ℕ) → IsPlan (coefficients seed limits.depth) limits rounds

abbrev pub IsLawful : Command → Type 0
IsLawful (Run settings workers) = AreLawful settings × IsWorkers workers
IsLawful (Serial settings) = AreLawful settings
IsLawful (Sim settings workers number) = AreLawful settings × IsWorkers workers
IsLawful (Replay settings at) = AreLawful settings × (length at ≤ most_ranks)
IsLawful (Hash gamma at rounds) = IsHash gamma at rounds
IsLawful Check = Unit {0}
IsLawful Fmt = Unit {0}
IsLawful (Gen shape size) = Fits shape size
IsLawful (Stream gamma at count rounds below) = IsHash gamma at rounds × IsCount at count × IfSome below (λ m. 1 ≤ m)
IsLawful (Span settings) = AreLawful settings
IsLawful (Batch seeds limits show rounds workers) = IsBatch seeds limits rounds × IsWorkers workers

-- whether the command is a batch
abbrev pub is_batch : Command → Bool
is_batch (Run settings workers) = false
is_batch (Serial settings) = false
is_batch (Sim settings workers number) = false
is_batch (Replay settings at) = false
is_batch (Hash gamma at rounds) = false
is_batch Check = false
is_batch Fmt = false
is_batch (Gen shape size) = false
is_batch (Stream gamma at count rounds below) = false
is_batch (Span settings) = false
is_batch (Batch seeds limits show rounds workers) = true
