-- A value that is kept while more is read.
use Rattle.std.specs.Prelude.{◌≡◌, Result, Ok, Err}

-- the kept value and what was read now, or the fault in reading
abbrev pub Zips : {A B E : Type 0} → A → Result B E → Result (A × B) E → Type 0
Zips before now (Ok p) = (p.0 ≡ before) × (now ≡ Ok p.1)
Zips before now (Err e) = now ≡ Err e
