-- Laws of command lines, each the contract of a function in `laws`.
use Rattle.std.specs.Prelude.{◌≡◌, ℕ, ◌+◌, ◌*◌, List, ◌∷◌, ◌++◌, length, Ok}
use Rattle.ped_words.specs.Reading.{reading}
use Rattle.ped_words.specs.declared.command.Command.{Command}

-- Both lists have the same pairs, in two orders: neighbouring pairs changed places, any number of times. The command
-- and whole pairs come before the two, an odd number of words.
pub data IsReordered : List (List ℕ) → List (List ℕ) → Type 0 where
  as_it_was : {words : List (List ℕ)} → IsReordered words words
  exchanged : (front after : List (List ℕ)) (n v m w : List ℕ) (k : ℕ) {words : List (List ℕ)} → length front ≡ 2 * k + 1 →
      IsReordered words (front ++ n ∷ v ∷ m ∷ w ∷ after) → IsReordered words (front ++ m ∷ w ∷ n ∷ v ∷ after)

-- Words that are a command are the same command in each order of their pairs.
abbrev pub OrdersGiveOneCommand : Type 0
OrdersGiveOneCommand = (words others : List (List ℕ)) (command : Command) → IsReordered words others → reading words ≡ Ok command → reading others ≡ Ok command
