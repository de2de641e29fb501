-- Lines of the error output that name a position or a pedigree.
use Rattle.std.specs.Prelude.{ℕ, List, ◌++◌, codes, decimal}
use Rattle.ped_path.specs.Text.{ped_text}
use Rattle.ped_words.specs.Rules.{rule_text}
use Rattle.script_check.specs.Conditions.{condition_text}
use Rattle.script_text.specs.Numbers.{fault_text}

-- the rule with this number is broken at the word with this index
abbrev pub words_line : ℕ → ℕ → List ℕ
words_line number at = codes "words: " ++ rule_text number ++ codes " at word " ++ decimal at ++ codes "\n"

-- the first fault of a text that isn't a script
abbrev pub syntax_line : ℕ → ℕ → List ℕ
syntax_line number at = codes "script: " ++ fault_text number ++ codes " at byte " ++ decimal at ++ codes "\n"

-- the first condition that an invalid script violates
abbrev pub check_line : ℕ → ℕ → List ℕ
check_line number at = codes "script: " ++ condition_text number ++ codes " at byte " ++ decimal at ++ codes "\n"

-- no strand has this pedigree
abbrev pub no_strand_line : List ℕ → List ℕ
no_strand_line j = codes "no strand " ++ ped_text j ++ codes "\n"

-- an instance on the way down to a strand ended by the fault with this pedigree
abbrev pub blocked_line : List ℕ → List ℕ
blocked_line j = codes "blocked by fault " ++ ped_text j ++ codes "\n"
