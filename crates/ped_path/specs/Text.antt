-- The text of a pedigree, such as 0.3.1.
use Rattle.std.specs.Prelude.{◌≡◌, ℕ, ◌++◌, List, codes, decimal, flat_map, take}
use Rattle.std.specs.List.{join_by}

-- the ranks in decimal, joined by full stops
abbrev pub ped_text : List ℕ → List ℕ
ped_text ranks = join_by decimal (codes ".") ranks

-- ranks in decimal, each with a full stop after it
abbrev pub stopped : List ℕ → List ℕ
stopped ranks = flat_map (λ r. decimal r ++ codes ".") ranks

-- The new bytes are the old ones and a prefix of the text.
abbrev pub AppendsFront : List ℕ → List ℕ → List ℕ → Type 0
AppendsFront old new text = (k : ℕ) × (new ≡ old ++ take k text)
