-- The values that pairs give, one pair more, and how many there are.
use Rattle.std.proofs.Common.{◌≡◌, ℕ, ◌+◌, ◌*◌, ◌<◌, ◌≤◌, Bool, true, false, cond, ◌||◌, leb, Option, Some, None, List, [], ◌∷◌, length, refl, ap, sym, ◌∙◌, arith, add-one}
use Rattle.std.specs.Prelude.{is_some}
use Rattle.ped_words.specs.Judging.{broken_name, name_rule}
use Rattle.ped_words.specs.Table.{name_of}
use Rattle.ped_words.specs.Given.{IsValueIndex, all_names, count_among, given_count, one_of}
use Rattle.ped_words.specs.Values.{OptionValues, has, is_option, name_word, value_word, option_values}
use Rattle.ped_words.specs.declared.table.OptionName.{OptionName}
use Rattle.ped_words.specs.declared.table.OptionName.TheVariants as name
use Rattle.ped_words.specs.declared.table.Subcommand.{Subcommand}

or_left : (a b : Bool) → (a || b) ≡ false → a ≡ false
or_left true b none = cc
or_left false b none = refl

or_right : (a b : Bool) → (a || b) ≡ false → b ≡ false
or_right true b none = cc
or_right false b none = none

one_le : (b : Bool) → one_of b ≤ 1
one_le true = omega arith
one_le false = omega arith

count_among_le : (names : List OptionName) (values : OptionValues) → count_among names values ≤ length names
count_among_le [] values = omega arith
count_among_le (n ∷ names) values = let one = one_le (is_some (values n)) in let more = count_among_le names values in omega (arith, one, more)

pub count_le : (values : OptionValues) → given_count values ≤ 14
count_le values = count_among_le all_names values

-- the values with one that an option gives
abbrev with_value : OptionName → (List ℕ × ℕ) → OptionValues → OptionValues
with_value n w values m = cond (is_option (Some n) m) (Some w) (values m)

count_more : (n : OptionName) (w : List ℕ × ℕ) (values : OptionValues) → has values n ≡ false → given_count (with_value n w values) ≡ given_count values + 1
count_more name.Seed w values fresh = let b : one_of (is_some (values name.Seed)) ≡ 0 = ap one_of (or_left _ _ fresh) in omega (arith, b)
count_more name.Gamma w values fresh = let b : one_of (is_some (values name.Gamma)) ≡ 0 = ap one_of (or_right _ _ fresh) in omega (arith, b)
count_more name.Depth w values fresh = let b : one_of (is_some (values name.Depth)) ≡ 0 = ap one_of fresh in omega (arith, b)
count_more name.Budget w values fresh = let b : one_of (is_some (values name.Budget)) ≡ 0 = ap one_of fresh in omega (arith, b)
count_more name.Workers w values fresh = let b : one_of (is_some (values name.Workers)) ≡ 0 = ap one_of fresh in omega (arith, b)
count_more name.Show w values fresh = let b : one_of (is_some (values name.Show)) ≡ 0 = ap one_of fresh in omega (arith, b)
count_more name.Number w values fresh = let b : one_of (is_some (values name.Number)) ≡ 0 = ap one_of fresh in omega (arith, b)
count_more name.At w values fresh = let b : one_of (is_some (values name.At)) ≡ 0 = ap one_of fresh in omega (arith, b)
count_more name.Shape w values fresh = let b : one_of (is_some (values name.Shape)) ≡ 0 = ap one_of fresh in omega (arith, b)
count_more name.Size w values fresh = let b : one_of (is_some (values name.Size)) ≡ 0 = ap one_of fresh in omega (arith, b)
count_more name.Rounds w values fresh = let b : one_of (is_some (values name.Rounds)) ≡ 0 = ap one_of fresh in omega (arith, b)
count_more name.Count w values fresh = let b : one_of (is_some (values name.Count)) ≡ 0 = ap one_of fresh in omega (arith, b)
count_more name.Below w values fresh = let b : one_of (is_some (values name.Below)) ≡ 0 = ap one_of fresh in omega (arith, b)
count_more name.Seeds w values fresh = let b : one_of (is_some (values name.Seeds)) ≡ 0 = ap one_of fresh in omega (arith, b)

-- the values with pair k, whose name is this one
abbrev next_values : List (List ℕ) → ℕ → Option OptionName → OptionValues
next_values words k o m = cond (is_option o m) (Some (value_word words k, 2 * k + 2)) (option_values words k m)

pub count_pair : (words : List (List ℕ)) (k : ℕ) (n : OptionName) → name_of (name_word words k) ≡ Some n → has (option_values words k) n ≡ false → given_count (option_values words (k + 1)) ≡ given_count (option_values words k) + 1
count_pair words k n named fresh = rw add-one (ap (λ o. given_count (next_values words k o)) named ∙ count_more n (value_word words k, 2 * k + 2) (option_values words k) fresh)

-- where the value of an option stands, one pair more

module _ (words : List (List ℕ)) (k : ℕ) (n : OptionName) where
  here : (b : Bool) → is_option (name_of (name_word words k)) n ≡ b → option_values words (k + 1) n ≡ cond b (Some (value_word words k, 2 * k + 2)) (option_values words k n)
  here b named = rw add-one (ap (λ t. cond t (Some (value_word words k, 2 * k + 2)) (option_values words k n)) named)

  pub index_here : (word : List ℕ) → word ≡ name_word words k → is_option (name_of word) n ≡ true → 2 * k + 2 < length words → IsValueIndex words (k + 1) n (Some (2 * k + 2))
  index_here word is named within = (here true (ap (λ w. is_option (name_of w) n) (sym is) ∙ named), within)

  pub index_before : (word : List ℕ) → word ≡ name_word words k → is_option (name_of word) n ≡ false → (o : Option ℕ) → IsValueIndex words k n o → IsValueIndex words (k + 1) n o
  index_before word is named None p = here false (ap (λ w. is_option (name_of w) n) (sym is) ∙ named) ∙ p
  index_before word is named (Some at) p = (here false (ap (λ w. is_option (name_of w) n) (sym is) ∙ named) ∙ p.0, p.1)

pub same_name : (subcommand : Subcommand) (words : List (List ℕ)) (k len last : ℕ) (given : OptionValues) (word : List ℕ) → given ≡ option_values words k → word ≡ name_word words k → len ≡ length words → last ≡ 2 * k + 2 →
    broken_name subcommand words k ≡ name_rule subcommand given word (leb len last)
same_name subcommand words k len last given word values named long after =
    sym
    (ap (λ v. name_rule subcommand v word (leb len last)) values
    ∙ ap (λ w. name_rule subcommand (option_values words k) w (leb len last)) named
    ∙ ap (λ n. name_rule subcommand (option_values words k) (name_word words k) (leb n last)) long
    ∙ ap (λ n. name_rule subcommand (option_values words k) (name_word words k) (leb (length words) n)) after)
