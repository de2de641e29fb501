-- What `parse` says of a word that is a number.
use Rattle.std.proofs.Common.{◌≡◌, ℕ, ◌<◌, ◌≤◌, ◌^◌, Bool, true, false, cond, ◌&&◌, eqb, ltb, leb, Option, Some, None, Err, List, [], ◌∷◌, length, map, refl, sym, ap, ◌∙◌, arith}
use Rattle.std.specs.Char.{is_ascii_digit}
use Rattle.std.specs.List.{list_all}
use Rattle.std.specs.Str.{all_ascii_digits}
use Rattle.std.specs.Str.Parse.{ParsesUnsigned, digits_value}
use Rattle.std.proofs.lemmas.Bool.Decides.{nat_tests}
use Rattle.std.proofs.lemmas.Str.Parse.{IsNumeralModel, numerals_by_value, parse_digits, tells_all_ascii_digits}
use Rattle.std.specs.Borrow.{Bor}
use Rattle.std.proofs.lemmas.List.{length-map}
use Rattle.std.proofs.lemmas.List.Splits.{length-slice_split}
use Rattle.std.proofs.lemmas.List.Folds.{list_all-map}
use Rattle.ped_words.specs.Numbers.{AreValues, are_few, is_number, list_rule, number_rule, numbers_of, parts_of, number_in_word}
use Rattle.ped_words.specs.Given.{HasCount}
use Rattle.ped_words.specs.declared.table.ValueType.{ValueType}
use Rattle.ped_words.specs.declared.table.ValueType.TheVariants.{Numbers}
use Rattle.ped_words.specs.declared.rule.Rule.TheVariants.{BadValue, OutOfRange}

pub all_digits_same : (bytes : List ℕ) → list_all is_ascii_digit bytes ≡ all_ascii_digits bytes
all_digits_same [] = refl
all_digits_same (c ∷ cs) = ap (λ b. is_ascii_digit c && b) (all_digits_same cs)

pub numerals : IsNumeralModel (λ ds. all_ascii_digits ds ≡ true) (digits_value 10)
numerals = numerals_by_value (λ ds. all_ascii_digits ds ≡ true) tells_all_ascii_digits

and_left : (a b : Bool) → (a && b) ≡ true → a ≡ true
and_left true b both = refl
and_left false b both = both

and_right : (a b : Bool) → (a && b) ≡ true → b ≡ true
and_right true b both = both
and_right false b both = cc

above : (least most n : ℕ) → most < n → (leb least n && leb n most) ≡ false
above least most n over = grind (arith, nat_tests)

positive : (n : ℕ) → ltb 0 n ≡ true → 0 < n
positive n some = grind (arith, nat_tests)

-- A number that `parse` refuses is above every u64.
pub number_rule-refused : {E : Type 0} (least most : ℕ) (word : List ℕ) (refusal : E) → most < 2 ^ 64 → is_number word ≡ true → ParsesUnsigned 64 10 word (Err refusal) → number_rule least most word ≡ Some OutOfRange
number_rule-refused {E} least most word refusal small number parses =
    let some : 0 < length word = positive (length word) (and_left _ _ number) in
    let digits : all_ascii_digits word ≡ true = and_left _ _ (and_right _ _ number) in
    let refused = parse_digits numerals {E = E} 64 word (Err refusal) parses digits in
    let big : 2 ^ 64 ≤ number_in_word word = above_all (length word) (number_in_word word) some refused in
    let outside : (leb least (number_in_word word) && leb (number_in_word word) most) ≡ false = above least most (number_in_word word) (omega (arith, big, small)) in
    ap (λ b. cond b (cond (leb least (number_in_word word) && leb (number_in_word word) most) None (Some OutOfRange)) (Some BadValue)) number ∙ ap (λ b. cond b None (Some OutOfRange)) outside
  where
    above_all : (k v : ℕ) → 0 < k → ((0 < k) × (v < 2 ^ 64) → ⊥) → 2 ^ 64 ≤ v
    above_all k v some refused = grind (arith, refused)

map-seen : (f : List ℕ → ℕ) (parts : List (Bor (List ℕ))) → map f (map (λ (x : Bor (List ℕ)). x.now) parts) ≡ map (λ (x : Bor (List ℕ)). f x.now) parts
map-seen f [] = refl
map-seen f (part ∷ parts) = ap (λ t. f part.now ∷ t) (map-seen f parts)

abbrev is_small : List ℕ → Bool
is_small word = ltb (number_in_word word) (2 ^ 64)

-- the parts of a word as references
module _ (word : List ℕ) (parts : List (Bor (List ℕ))) (split : map (λ (x : Bor (List ℕ)). x.now) parts ≡ parts_of word) where
  all_parts : (p : List ℕ → Bool) → list_all p (parts_of word) ≡ list_all (λ x. p x.now) parts
  all_parts p = ap (list_all p) (sym split) ∙ list_all-map p (λ (x : Bor (List ℕ)). x.now) parts

  part_count : length (parts_of word) ≡ length parts
  part_count = ap length (sym split) ∙ length-map parts (λ (x : Bor (List ℕ)). x.now)

  module _ (most : Option ℕ) where
    pub form_broken : list_all (λ x. is_number x.now) parts ≡ false → list_rule most word ≡ Some BadValue
    form_broken bad = ap (λ b. cond b (cond (are_few most (length (parts_of word)) && list_all is_small (parts_of word)) None (Some OutOfRange)) (Some BadValue)) (all_parts is_number ∙ bad)

    judged : (few small : Bool) → list_all (λ x. is_number x.now) parts ≡ true → are_few most (length parts) ≡ few → list_all (λ x. is_small x.now) parts ≡ small → list_rule most word ≡ cond (few && small) None (Some OutOfRange)
    judged few small good count sizes =
        ap (λ t. cond t (cond (are_few most (length (parts_of word)) && list_all is_small (parts_of word)) None (Some OutOfRange)) (Some BadValue)) (all_parts is_number ∙ good) ∙ ap (λ n. cond (are_few most n && list_all is_small (parts_of word)) None (Some OutOfRange)) (part_count) ∙ ap (λ t. cond (t && list_all is_small (parts_of word)) None (Some OutOfRange)) count ∙ ap (λ t. cond (few && t) None (Some OutOfRange)) (all_parts is_small ∙ sizes)

    pub count_broken : list_all (λ x. is_number x.now) parts ≡ true → are_few most (length parts) ≡ false → list_rule most word ≡ Some OutOfRange
    count_broken good many = judged false (list_all (λ x. is_small x.now) parts) good many refl

    pub range_broken : list_all (λ x. is_number x.now) parts ≡ true → are_few most (length parts) ≡ true → AreValues parts None → list_rule most word ≡ Some OutOfRange
    range_broken good few big = judged true false good few big

    pub list_good : (values : List ℕ) → list_all (λ x. is_number x.now) parts ≡ true → are_few most (length parts) ≡ true → AreValues parts (Some values) → (list_rule most word ≡ None) × (values ≡ numbers_of word)
    list_good values good few are = (judged true true good few are.0, are.1 ∙ sym (map-seen number_in_word parts) ∙ ap (map number_in_word) split)

-- A list that breaks no rule has at least one number, and no more than its type takes.
pub counted : (most : Option ℕ) (word : List ℕ) → list_rule most word ≡ None → HasCount (Numbers most) (length (numbers_of word))
counted most word none =
    let long : length (numbers_of word) ≡ length (parts_of word) = length-map (parts_of word) number_in_word in
    let some = length-slice_split (λ c. eqb c 44) word in (
      omega (arith, long, some),
      ap (are_few most) long ∙ few (list_all is_number (parts_of word)) (are_few most (length (parts_of word))) (list_all is_small (parts_of word)) none,
    )
  where
    few : (a b c : Bool) → cond a (cond (b && c) None (Some OutOfRange)) (Some BadValue) ≡ None → b ≡ true
    few true true c e = refl
    few true false c e = absurd (cc)
    few false b c e = absurd (cc)
