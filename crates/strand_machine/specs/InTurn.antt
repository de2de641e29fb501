-- Lists whose items are taken in order, each time with the last item in the place of the one that was taken.
use Rattle.std.specs.Prelude.{ℕ, zero, suc, List, [], ◌∷◌, ◌++◌}

-- What is left to take, in order, once this many were taken: the places of those have the last items, in reverse.
abbrev pub in_turn : {A : Type 0} → ℕ → List A → List A
in_turn zero xs = xs
in_turn (suc taken) [] = []
in_turn (suc taken) (x ∷ xs) = in_turn taken xs ++ x ∷ []
