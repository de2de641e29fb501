-- What is kept while something else is made.
use Rattle.std.specs.Prelude.{◌≡◌, Result, Ok, Err}

-- what was kept, and what was made; or why it could not be
abbrev pub Zips : {A B E : Type 0} → A → Result B E → Result (A × B) E → Type 0
Zips before made (Ok p) = (p.0 ≡ before) × (made ≡ Ok p.1)
Zips before made (Err e) = made ≡ Err e
