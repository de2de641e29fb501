-- The text of a pedigree by its parts between full stops.
use Rattle.std.proofs.Common.{◌≡◌, ℕ, zero, suc, ◌+◌, ◌-◌, ◌<◌, ◌≤◌, ◌^◌, Bool, true, false, cond, ◌&&◌, ◌||◌, not, eqb, leb, ltb, Option, Some, None, List, [], ◌∷◌, ◌++◌, All, length, map, take, get_or, refl, sym, ap, ◌∙◌, subst, inl, inr, arith, append_assoc, length-append}
use Rattle.std.specs.Prelude.{codes, decimal}
use Rattle.std.specs.Char.{is_ascii_digit}
use Rattle.std.specs.List.{onto_first, take_while}
use Rattle.std.specs.Option.{option_or}
use Rattle.std.specs.Str.{all_ascii_digits}
use Rattle.std.specs.Str.Parse.{AllDigits, digits_value}
use Rattle.std.proofs.Math.Seq.{take-append_seam}
use Rattle.std.proofs.lemmas.Bool.{cases_lt, ne_eqb}
use Rattle.std.proofs.lemmas.Bool.Decides.{nat_tests}
use Rattle.std.proofs.lemmas.Fmt.{decimal_digit, decimal_nonempty, digits_decimal, digits_value-decimal, first_decimal}
use Rattle.std.proofs.lemmas.List.{append-nil}
use Rattle.std.proofs.lemmas.List.Splits.{slice_split-cons_no, slice_split-cons_yes, slice_split_at, slice_split_none}
use Rattle.std.proofs.lemmas.List.Sums.{take_while-cons}
use Rattle.std.proofs.lemmas.Str.Parse.{digits_value-take-le}
use Rattle.ped_path.specs.Parsing.{begins_with_digit, has_needless_zero, BeginsTooBig, IsAfterRanks, IsRefused, LacksStop}
use Rattle.ped_path.specs.Path.{IsRank}
use Rattle.ped_path.specs.Text.{ped_text, stopped}
use Rattle.ped_path.specs.declared.parse.PedTextError.{PedTextError}
use Rattle.ped_path.specs.declared.parse.PedTextError.TheVariants.{Empty, BadByte, Zeros, TooBig, TooLong, Memory}
use Rattle.ped_words.specs.Numbers.{is_number, number_in_word}
use Rattle.ped_words.specs.Pedigrees.{ped_of, ped_rule, rank_rule, ranks_in, ranks_rule}
use Rattle.ped_words.specs.Rules.{text_rule}
use Rattle.ped_words.specs.declared.rule.Rule.{Rule}
use Rattle.ped_words.specs.declared.rule.Rule.TheVariants.{BadValue, OutOfRange}
use Rattle.ped_words.proofs.NumberLemmas.{numerals}

and_false : (b : Bool) → (b && false) ≡ false
and_false true = refl
and_false false = refl

and_both : (a b : Bool) → (a && b) ≡ true → (a ≡ true) × (b ≡ true)
and_both true true both = (refl, refl)
and_both true false both = cc
and_both false b both = cc

stop_no_digit : (c : ℕ) → eqb c 46 ≡ true → is_ascii_digit c ≡ false
stop_no_digit c stop = grind (arith, nat_tests)

digit_no_stop : (c : ℕ) → is_ascii_digit c ≡ true → eqb c 46 ≡ false
digit_no_stop c digit = grind (arith, nat_tests)

-- the digits that come first

front_digits : (c : ℕ) (cs : List ℕ) (b : Bool) → is_ascii_digit c ≡ b → take_while is_ascii_digit (c ∷ cs) ≡ cond b (c ∷ take_while is_ascii_digit cs) []
front_digits c cs b digit = take_while-cons is_ascii_digit c cs ∙ ap (λ t. cond t (c ∷ take_while is_ascii_digit cs) []) digit

front_none : (rest : List ℕ) → begins_with_digit rest ≡ false → take_while is_ascii_digit rest ≡ []
front_none [] none = refl
front_none (c ∷ cs) none = front_digits c cs false none

front_append : (ds rest : List ℕ) → all_ascii_digits ds ≡ true → take_while is_ascii_digit (ds ++ rest) ≡ ds ++ take_while is_ascii_digit rest
front_append [] rest all = refl
front_append (d ∷ ds) rest all =
    let both = and_both (is_ascii_digit d) (all_ascii_digits ds) all in
    front_digits d (ds ++ rest) true both.0 ∙ ap (λ t. d ∷ t) (front_append ds rest both.1)

front_all_case : (c : ℕ) (cs : List ℕ) (b : Bool) → is_ascii_digit c ≡ b → all_ascii_digits cs ≡ true → all_ascii_digits (cond b (c ∷ cs) []) ≡ true
front_all_case c cs true digit all = ap (λ b. b && all_ascii_digits cs) digit ∙ all
front_all_case c cs false digit all = refl

front_all : (s : List ℕ) → all_ascii_digits (take_while is_ascii_digit s) ≡ true
front_all [] = refl
front_all (c ∷ cs) = ap all_ascii_digits (take_while-cons is_ascii_digit c cs) ∙ front_all_case c (take_while is_ascii_digit cs) (is_ascii_digit c) refl (front_all cs)

-- The first part between full stops begins with the same digits.
record Cut (rest : List ℕ) : Type 0 where
  part : List ℕ
  parts : List (List ℕ)
  cut : ranks_in rest ≡ part ∷ parts
  digits : take_while is_ascii_digit part ≡ take_while is_ascii_digit rest

cut_case : (c : ℕ) (cs : List ℕ) (b : Bool) → eqb c 46 ≡ b → Cut cs → Cut (c ∷ cs)
cut_case c cs true stop h = record {
  part = [];
  parts = ranks_in cs;
  cut = slice_split-cons_yes (λ x. eqb x 46) c cs stop;
  digits = sym (front_digits c cs false (stop_no_digit c stop));
}
cut_case c cs false other h = record {
  part = c ∷ h.part;
  parts = h.parts;
  cut = slice_split-cons_no (λ x. eqb x 46) c cs other ∙ ap (onto_first c) h.cut;
  digits = take_while-cons is_ascii_digit c h.part ∙ ap (λ t. cond (is_ascii_digit c) (c ∷ t) []) h.digits ∙ sym (take_while-cons is_ascii_digit c cs);
}

first_part : (rest : List ℕ) → Cut rest
first_part [] = record { part = []; parts = []; cut = refl; digits = refl }
first_part (c ∷ cs) = cut_case c cs (eqb c 46) refl (first_part cs)

-- After its digits the first part goes on with this byte.
record GoesOn (ds : List ℕ) (byte : ℕ) (rest : List ℕ) : Type 0 where
  more : List ℕ
  parts : List (List ℕ)
  cut : ranks_in rest ≡ (ds ++ byte ∷ more) ∷ parts

goes_on : (ds : List ℕ) (byte : ℕ) (after : List ℕ) → all_ascii_digits ds ≡ true → eqb byte 46 ≡ false → GoesOn ds byte (ds ++ byte ∷ after)
goes_on [] byte after all other =
    let h = first_part after in
    record { more = h.part; parts = h.parts; cut = slice_split-cons_no (λ x. eqb x 46) byte after other ∙ ap (onto_first byte) h.cut }
goes_on (d ∷ ds) byte after all other =
    let both = and_both (is_ascii_digit d) (all_ascii_digits ds) all in
    let h = goes_on ds byte after both.1 other in
    record {
      more = h.more;
      parts = h.parts;
      cut = slice_split-cons_no (λ x. eqb x 46) d (ds ++ byte ∷ after) (digit_no_stop d both.0) ∙ ap (onto_first d) h.cut;
    }

-- what is judged of a part by its digits

abbrev judged_part : List ℕ → List ℕ → Option Rule
judged_part digits part =
    cond (is_number digits) (cond (ltb (number_in_word digits) (2 ^ 32)) (cond (eqb (length digits) (length part)) None (Some BadValue)) (Some OutOfRange)) (Some BadValue)

module _ (part digits : List ℕ) (front : take_while is_ascii_digit part ≡ digits) where
  no_number : is_number digits ≡ false → rank_rule part ≡ Some BadValue
  no_number bad =
      ap (λ ds. judged_part ds part) front ∙ ap (λ b. cond b (cond (ltb (number_in_word digits) (2 ^ 32)) (cond (eqb (length digits) (length part)) None (Some BadValue)) (Some OutOfRange)) (Some BadValue)) bad

  is_ranged : (b : Bool) → is_number digits ≡ true → ltb (number_in_word digits) (2 ^ 32) ≡ b → rank_rule part ≡ cond b (cond (eqb (length digits) (length part)) None (Some BadValue)) (Some OutOfRange)
  is_ranged b good small =
      ap (λ ds. judged_part ds part) front ∙ ap (λ t. cond t (cond (ltb (number_in_word digits) (2 ^ 32)) (cond (eqb (length digits) (length part)) None (Some BadValue)) (Some OutOfRange)) (Some BadValue)) good ∙ ap (λ t. cond t (cond (eqb (length digits) (length part)) None (Some BadValue)) (Some OutOfRange)) small

  is_rank : (b : Bool) → is_number digits ≡ true → number_in_word digits < 2 ^ 32 → eqb (length digits) (length part) ≡ b → rank_rule part ≡ cond b None (Some BadValue)
  is_rank b good small whole = is_ranged true good (ltb_small (number_in_word digits) small) ∙ ap (λ t. cond t None (Some BadValue)) whole
    where
      ltb_small : (v : ℕ) → v < 2 ^ 32 → ltb v (2 ^ 32) ≡ true
      ltb_small v small = grind (arith, nat_tests)

  is_big : is_number digits ≡ true → 2 ^ 32 ≤ number_in_word digits → rank_rule part ≡ Some OutOfRange
  is_big good big = is_ranged false good (ltb_big (number_in_word digits) big)
    where
      ltb_big : (v : ℕ) → 2 ^ 32 ≤ v → ltb v (2 ^ 32) ≡ false
      ltb_big v big = grind (arith, nat_tests)

number_from : (ds : List ℕ) → 0 < length ds → all_ascii_digits ds ≡ true → (leb (length ds) 1 || not (eqb (get_or ds 0 0) 48)) ≡ true → is_number ds ≡ true
number_from ds some all needed =
    ap (λ b. b && (all_ascii_digits ds && (leb (length ds) 1 || not (eqb (get_or ds 0 0) 48)))) (ltb_some (length ds) some) ∙ ap (λ b. b && (leb (length ds) 1 || not (eqb (get_or ds 0 0) 48))) all ∙ needed
  where
    ltb_some : (n : ℕ) → 0 < n → ltb 0 n ≡ true
    ltb_some n some = grind (arith, nat_tests)

-- what is written of a rank

rank_small : (r : ℕ) → IsRank r → r < 2 ^ 64
rank_small r rank = omega arith

rank_first : (r : ℕ) → IsRank r → (leb (length (decimal r)) 1 || not (eqb (get_or (decimal r) 0 0) 48)) ≡ true
rank_first r rank = elim (cases_lt 0 r) [
  | inl some ↦ other (leb (length (decimal r)) 1) (get_or (decimal r) 0 0) (first_decimal r some (rank_small r rank))
  | inr none ↦
      let same : 0 ≡ r = omega arith in
      subst (λ (n : ℕ). (leb (length (decimal n)) 1 || not (eqb (get_or (decimal n) 0 0) 48)) ≡ true) same
      (ap (λ ds. leb (length ds) 1 || not (eqb (get_or ds 0 0) 48)) (decimal_digit 0 (omega arith)))
]
  where
    other : (b : Bool) (first : ℕ) → 48 < first → (b || not (eqb first 48)) ≡ true
    other true first above = refl
    other false first above = grind (arith, nat_tests)

rank_digits : (r : ℕ) → IsRank r → all_ascii_digits (decimal r) ≡ true
rank_digits r rank = digits_decimal numerals r (rank_small r rank)

rank_number : (r : ℕ) → IsRank r → is_number (decimal r) ≡ true
rank_number r rank = number_from (decimal r) (decimal_nonempty r (rank_small r rank)) (rank_digits r rank) (rank_first r rank)

rank_value : (r : ℕ) → IsRank r → number_in_word (decimal r) ≡ r
rank_value r rank = digits_value-decimal numerals r (rank_small r rank)

rank_fits : (r : ℕ) → IsRank r → number_in_word (decimal r) < 2 ^ 32
rank_fits r rank = let v = rank_value r rank in omega (arith, v)

eqb_same : (n : ℕ) → eqb n n ≡ true
eqb_same n = grind (arith, nat_tests)

rank_good : (r : ℕ) → IsRank r → rank_rule (decimal r) ≡ None
rank_good r rank =
    let front : take_while is_ascii_digit (decimal r) ≡ decimal r = ap (take_while is_ascii_digit) (sym (append-nil (decimal r))) ∙ front_append (decimal r) [] (rank_digits r rank) ∙ append-nil (decimal r) in
    is_rank (decimal r) (decimal r) front true (rank_number r rank) (rank_fits r rank) (eqb_same (length (decimal r)))

no_stops : (ds : List ℕ) → all_ascii_digits ds ≡ true → All (λ c. eqb c 46 ≡ false) ds
no_stops [] all k d lt = absurd (omega arith)
no_stops (c ∷ cs) all zero d lt = digit_no_stop c (and_both (is_ascii_digit c) (all_ascii_digits cs) all).0
no_stops (c ∷ cs) all (suc k) d lt = no_stops cs (and_both (is_ascii_digit c) (all_ascii_digits cs) all).1 k d (omega arith)

-- ranks with a full stop after each

All-rest : (r : ℕ) (rs : List ℕ) → All IsRank (r ∷ rs) → All IsRank rs
All-rest r rs all = λ k d lt. all (suc k) d (omega arith)

regroup : (a b c : List ℕ) → ((a ++ codes ".") ++ b) ++ c ≡ a ++ 46 ∷ (b ++ c)
regroup a b c = simp append_assoc

parts_after : (ranks rest : List ℕ) → All IsRank ranks → ranks_in (stopped ranks ++ rest) ≡ map decimal ranks ++ ranks_in rest
parts_after [] rest all = refl
parts_after (r ∷ rs) rest all =
    ap ranks_in (regroup (decimal r) (stopped rs) rest) ∙ slice_split_at (λ c. eqb c 46) (decimal r) 46 (stopped rs ++ rest) (no_stops (decimal r) (rank_digits r (all 0 0 (omega arith)))) refl ∙ ap (λ t. decimal r ∷ t) (parts_after rs rest (All-rest r rs all))

with_room : (part : List ℕ) (parts : List (List ℕ)) (room : ℕ) → 0 < room → ranks_rule (part ∷ parts) room ≡ option_or (rank_rule part) (ranks_rule parts (room - 1))
with_room part parts room some = ap (λ b. cond b (Some OutOfRange) (option_or (rank_rule part) (ranks_rule parts (room - 1)))) (some_room room some)
  where
    some_room : (n : ℕ) → 0 < n → eqb n 0 ≡ false
    some_room n some = grind (arith, nat_tests)

rules_after : (ranks : List ℕ) (parts : List (List ℕ)) (room left : ℕ) → All IsRank ranks → room ≡ length ranks + left → ranks_rule (map decimal ranks ++ parts) room ≡ ranks_rule parts left
rules_after [] parts room left all long = ap (ranks_rule parts) (omega (arith, long))
rules_after (r ∷ rs) parts room left all long =
    with_room (decimal r) (map decimal rs ++ parts) room (omega (arith, long)) ∙ ap (λ t. option_or t (ranks_rule (map decimal rs ++ parts) (room - 1))) (rank_good r (all 0 0 (omega arith))) ∙ rules_after rs parts (room - 1) left (All-rest r rs all) (omega (arith, long))

-- so many ranks are good
after_ranks : (text : List ℕ) (count at left : ℕ) (rest : List ℕ) → IsAfterRanks text count at rest → count + left ≡ 512 → ped_rule text ≡ ranks_rule (ranks_in rest) left
unfolding ped_rule
after_ranks text count at left rest f long =
    ap (λ t. ranks_rule (ranks_in t) 512) f.whole ∙ ap (λ t. ranks_rule t 512) (parts_after f.ranks rest f.bounded) ∙ rules_after f.ranks (ranks_in rest) 512 left f.bounded (omega (arith, long, f.counted))

-- the part at which the text is refused
refused_part : (text : List ℕ) (count at : ℕ) (rest part : List ℕ) (parts : List (List ℕ)) (rule : Rule) → IsAfterRanks text count at rest → count < 512 → ranks_in rest ≡ part ∷ parts → rank_rule part ≡ Some rule → ped_rule text ≡ Some rule
refused_part text count at rest part parts rule f few cut bad =
    after_ranks text count at (512 - count) rest f (omega (arith, few)) ∙ ap (λ t. ranks_rule t (512 - count)) cut ∙ with_room part parts (512 - count) (omega (arith, few)) ∙ ap (λ t. option_or t (ranks_rule parts (512 - count - 1))) bad

zeros_no_number : (ds : List ℕ) → leb (length ds) 1 ≡ false → eqb (get_or ds 0 0) 48 ≡ true → is_number ds ≡ false
zeros_no_number ds long is_zero =
    ap (λ b. ltb 0 (length ds) && (all_ascii_digits ds && (b || not (eqb (get_or ds 0 0) 48)))) long ∙ ap (λ b. ltb 0 (length ds) && (all_ascii_digits ds && not b)) is_zero ∙ ap (λ b. ltb 0 (length ds) && b) (and_false (all_ascii_digits ds)) ∙ and_false (ltb 0 (length ds))

two_long : (c d : ℕ) (ds : List ℕ) → leb (length (c ∷ d ∷ ds)) 1 ≡ false
two_long c d ds = leb_two (length ds)
  where
    leb_two : (n : ℕ) → leb (suc (suc n)) 1 ≡ false
    leb_two n = grind (arith, nat_tests)

needless_zero_rule : (rest part : List ℕ) → has_needless_zero rest ≡ true → take_while is_ascii_digit part ≡ take_while is_ascii_digit rest → rank_rule part ≡ Some BadValue
needless_zero_rule [] part zeros front = cc
needless_zero_rule (c ∷ []) part zeros front = cc ((and_both (eqb c 48) false zeros).1)
needless_zero_rule (c ∷ d ∷ ds) part zeros front =
    let both = and_both (eqb c 48) (is_ascii_digit d) zeros in
    let digit : is_ascii_digit c ≡ true = zero_digit c both.0 in
    let digits : take_while is_ascii_digit part ≡ c ∷ d ∷ take_while is_ascii_digit ds =
    front ∙ front_digits c (d ∷ ds) true digit ∙ ap (λ t. c ∷ t) (front_digits d ds true both.1)
    in no_number part (c ∷ d ∷ take_while is_ascii_digit ds) digits (zeros_no_number (c ∷ d ∷ take_while is_ascii_digit ds) (two_long c d (take_while is_ascii_digit ds)) both.0)
  where
    zero_digit : (c : ℕ) → eqb c 48 ≡ true → is_ascii_digit c ≡ true
    zero_digit c is_zero = grind (arith, nat_tests)

-- Digits that come first without a needless zero are a number.
needed_first : (rest : List ℕ) → has_needless_zero rest ≡ false → (leb (length (take_while is_ascii_digit rest)) 1 || not (eqb (get_or (take_while is_ascii_digit rest) 0 0) 48)) ≡ true
needed_first [] needed = refl
needed_first (c ∷ cs) needed =
    ap (λ ds. leb (length ds) 1 || not (eqb (get_or ds 0 0) 48)) (take_while-cons is_ascii_digit c cs) ∙ first_case (is_ascii_digit c) (eqb c 48) refl needed
  where
    or_true : (b : Bool) → (b || true) ≡ true
    or_true true = refl
    or_true false = refl

    first_case : (b z : Bool) → eqb c 48 ≡ z → (z && begins_with_digit cs) ≡ false → (leb (length (cond b (c ∷ take_while is_ascii_digit cs) [])) 1 || not (eqb (get_or (cond b (c ∷ take_while is_ascii_digit cs) []) 0 0) 48)) ≡ true
    first_case false z is_zero needed = refl
    first_case true false is_zero needed = ap (λ t. leb (length (c ∷ take_while is_ascii_digit cs)) 1 || not t) is_zero ∙ or_true (leb (length (c ∷ take_while is_ascii_digit cs)) 1)
    first_case true true is_zero needed = ap (λ ds. leb (length (c ∷ ds)) 1 || not (eqb c 48)) (front_none cs needed)

all_from : (ds : List ℕ) → AllDigits 10 ds → all_ascii_digits ds ≡ true
all_from ds all = numerals.from ds all

big_some : (ds : List ℕ) → 2 ^ 32 ≤ digits_value 10 ds → 0 < length ds
big_some [] big = absurd (omega (arith, big))
big_some (d ∷ ds) big = omega arith

too_big_rule : (rest part : List ℕ) → BeginsTooBig rest → take_while is_ascii_digit part ≡ take_while is_ascii_digit rest → rank_rule part ≡ Some OutOfRange
too_big_rule rest part b front =
    let whole : take_while is_ascii_digit rest ≡ b.digits ++ take_while is_ascii_digit b.after = ap (take_while is_ascii_digit) b.split ∙ front_append b.digits b.after (all_from b.digits b.numeral) in
    let seam : take (length b.digits) (take_while is_ascii_digit rest) ≡ b.digits = ap (take (length b.digits)) whole ∙ take-append_seam b.digits (take_while is_ascii_digit b.after) in
    let less : digits_value 10 (take (length b.digits) (take_while is_ascii_digit rest)) ≤ digits_value 10 (take_while is_ascii_digit rest) =
    digits_value-take-le 10 (take_while is_ascii_digit rest) (length b.digits) (omega arith)
    in
    let same = ap (digits_value 10) seam in
    let long = ap length whole ∙ length-append b.digits (take_while is_ascii_digit b.after) in
    let some = big_some b.digits b.big in
    is_big part (take_while is_ascii_digit rest) front
    (number_from (take_while is_ascii_digit rest) (omega (arith, long, some)) (front_all rest) (needed_first rest b.needed))
    (omega (arith, less, same, b.big))

lacks_stop_rule : (start at : ℕ) (rest : List ℕ) → (l : LacksStop start at rest) → (part : List ℕ) × (parts : List (List ℕ)) × (ranks_in rest ≡ part ∷ parts) × (rank_rule part ≡ Some BadValue)
lacks_stop_rule start at rest l =
    let ds = decimal l.rank in
    let all : all_ascii_digits ds ≡ true = rank_digits l.rank l.first.bounded in
    let g = goes_on ds l.byte l.after all (ne_eqb l.byte 46 l.other) in
    let front : take_while is_ascii_digit (ds ++ l.byte ∷ g.more) ≡ ds = front_append ds (l.byte ∷ g.more) all ∙ ap (λ t. ds ++ t) (front_none (l.byte ∷ g.more) l.first.ended) ∙ append-nil ds in
    (ds ++ l.byte ∷ g.more, g.parts, ap ranks_in l.first.split ∙ g.cut, is_rank (ds ++ l.byte ∷ g.more) ds front false (rank_number l.rank l.first.bounded) (rank_fits l.rank l.first.bounded) (shorter (length ds) (length (ds ++ l.byte ∷ g.more)) (simp length-append (omega arith))))
  where
    shorter : (m n : ℕ) → m < n → eqb m n ≡ false
    shorter m n lt = grind (arith, nat_tests)

pub ped_refused : (text : List ℕ) (e : PedTextError) (rule : Rule) → IsRefused text e → text_rule e ≡ Some rule → ped_rule text ≡ Some rule
unfolding ped_rule
ped_refused text Empty rule r is = ap (λ t. ranks_rule (ranks_in t) 512) r ∙ is
ped_refused text (BadByte at) rule (some, inl s) is =
    let h = first_part s.rest in
    refused_part text s.count at s.rest h.part h.parts BadValue s.front s.few h.cut (no_number h.part [] (h.digits ∙ front_none s.rest s.here) refl) ∙ is
ped_refused text (BadByte at) rule (some, inr (start, s)) is =
    let l = lacks_stop_rule start at s.rest s.here in refused_part text s.count start s.rest l.0 l.1 BadValue s.front s.few l.2 l.3 ∙ is
ped_refused text (Zeros at) rule s is =
    let h = first_part s.rest in refused_part text s.count at s.rest h.part h.parts BadValue s.front s.few h.cut (needless_zero_rule s.rest h.part s.here h.digits) ∙ is
ped_refused text (TooBig at) rule s is =
    let h = first_part s.rest in refused_part text s.count at s.rest h.part h.parts OutOfRange s.front s.few h.cut (too_big_rule s.rest h.part s.here h.digits) ∙ is
ped_refused text TooLong rule (at, rest, f) is =
    let h = first_part rest in after_ranks text 512 at 0 rest f (omega arith) ∙ ap (λ t. ranks_rule t 0) h.cut ∙ is
ped_refused text Memory rule r is = cc

text_more : (x y : ℕ) (ys : List ℕ) → ped_text (x ∷ y ∷ ys) ≡ decimal x ++ 46 ∷ ped_text (y ∷ ys)
text_more x y ys = refl

parts_whole : (x : ℕ) (xs : List ℕ) → All IsRank (x ∷ xs) → ranks_in (ped_text (x ∷ xs)) ≡ map decimal (x ∷ xs)
parts_whole x [] all =
    ap ranks_in (append-nil (decimal x)) ∙ slice_split_none (λ c. eqb c 46) (decimal x) (no_stops (decimal x) (rank_digits x (all 0 0 (omega arith))))
parts_whole x (y ∷ ys) all =
    ap ranks_in (text_more x y ys) ∙ slice_split_at (λ c. eqb c 46) (decimal x) 46 (ped_text (y ∷ ys)) (no_stops (decimal x) (rank_digits x (all 0 0 (omega arith)))) refl ∙ ap (λ t. decimal x ∷ t) (parts_whole y ys (All-rest x (y ∷ ys) all))

values_back : (ranks : List ℕ) → All IsRank ranks → map number_in_word (map decimal ranks) ≡ ranks
values_back [] all = refl
values_back (q ∷ qs) all = ap (λ n. n ∷ map number_in_word (map decimal qs)) (rank_value q (all 0 0 (omega arith))) ∙ ap (λ t. q ∷ t) (values_back qs (All-rest q qs all))

-- The text of at most 512 ranks is good, and these are its ranks.
pub ped_good : (text j : List ℕ) → text ≡ ped_text j → 0 < length j → All IsRank j → length j ≤ 512 → (ped_rule text ≡ None) × (j ≡ ped_of text)
unfolding ped_rule ped_of
ped_good text [] is some ranks few = absurd (omega arith)
ped_good text (x ∷ xs) is some ranks few =
    let parts : ranks_in text ≡ map decimal (x ∷ xs) = ap ranks_in is ∙ parts_whole x xs ranks in
    let whole : map decimal (x ∷ xs) ≡ map decimal (x ∷ xs) ++ [] = sym (append-nil (map decimal (x ∷ xs))) in (
      ap (λ t. ranks_rule t 512) (parts ∙ whole) ∙ rules_after (x ∷ xs) [] 512 (512 - length (x ∷ xs)) ranks (omega (arith, few)),
      sym (ap (map number_in_word) parts ∙ values_back (x ∷ xs) ranks),
    )
