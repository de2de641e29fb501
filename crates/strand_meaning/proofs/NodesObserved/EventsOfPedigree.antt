-- The events of a pedigree, one after another.
use Rattle.std.proofs.Common.{◌≡◌, ℕ, Bool, true, false, bytes_eq, List, [], ◌∷◌, ◌++◌, refl, ap, if◌then◌else◌}
use Rattle.serial_meaning.specs.declared.event.Event.{Event}
use Rattle.strand_meaning.specs.Strands.{pedigree_of, events_at}

pub events_at-append : (j : List ℕ) (xs ys : List Event) → events_at j (xs ++ ys) ≡ events_at j xs ++ events_at j ys
events_at-append j [] ys = refl
events_at-append j (e ∷ xs) ys = from (bytes_eq (pedigree_of e) j) (events_at-append j xs ys)
  where
    from : (b : Bool) → events_at j (xs ++ ys) ≡ events_at j xs ++ events_at j ys → (if b then e ∷ events_at j (xs ++ ys) else events_at j (xs ++ ys)) ≡ (if b then e ∷ events_at j xs else events_at j xs) ++ events_at j ys
    from true h = ap (λ (l : List Event). e ∷ l) h
    from false h = h
