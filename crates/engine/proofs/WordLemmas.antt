-- What the first word says.
use Rattle.std.proofs.Common.{◌≡◌, ◌↔◌, ℕ, ◌<◌, Ok, List, [], ◌∷◌, length, get_or, map, inr, arith, subst}
use Rattle.std.specs.Prelude.{IsFalse}
use Rattle.ped_words.proofs.FirstWord.{batch_is_first}
use Rattle.ped_words.specs.Commands.{is_batch}
use Rattle.ped_words.specs.Reading.{reading}
use Rattle.ped_words.specs.declared.command.Command.{Command}
use Rattle.engine.specs.Commands.{RunsOnWorkers, IsRunWord}

pub is_run_first : {A : Type 0} (f : A → List ℕ) (words : List A) (word : A) → 0 < length words → word ≡ get_or words 0 word → (b : Type 0) → b ↔ IsRunWord (f word) → b ↔ RunsOnWorkers (map f words)
is_run_first {A} f [] word some is b e = absurd (omega arith)
is_run_first {A} f (first ∷ others) word some is b e = let P : A → Type 0 = λ w. b ↔ IsRunWord (f w) in subst P is e

-- Words that give a batch say so first.
pub no_batch : (words : List (List ℕ)) (c : Command) → reading words ≡ Ok c → (RunsOnWorkers words → ⊥) → IsFalse (is_batch c)
no_batch [] c e none = batch_is_first [] c e (λ first. absurd (cc))
no_batch (word ∷ others) c e none = batch_is_first (word ∷ others) c e (λ first. none (inr first))
