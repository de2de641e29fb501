-- Ranks in the text of a pedigree: what is read of one, and what is wrong with one.
use Rattle.std.proofs.Common.{◌≡◌, ◌≢◌, ℕ, ◌+◌, ◌*◌, ◌-◌, ◌<◌, ◌≤◌, ◌^◌, Bool, true, false, cond, ◌&&◌, eqb, List, [], ◌∷◌, ◌++◌, All, length, take, drop, get_or, refl, sym, ap, ◌∙◌, subst, inl, inr, arith, append_assoc, length-append, length-drop}
use Rattle.std.specs.Prelude.{codes, decimal}
use Rattle.std.specs.Char.{is_ascii_digit, digit_value}
use Rattle.std.specs.Int.{IsInRange}
use Rattle.std.specs.List.{prefix_len, take_while}
use Rattle.std.specs.Str.Parse.{AllDigits, digits_value}
use Rattle.std.proofs.Math.Numerals.{one-add}
use Rattle.std.proofs.lemmas.Bool.{cases_lt, ne_eqb}
use Rattle.std.proofs.lemmas.Bool.Decides.{nat_tests}
use Rattle.std.proofs.lemmas.Fmt.{decimal-digits_value, length-decimal-le}
use Rattle.std.proofs.lemmas.Int.Digits.{digits_value_more}
use Rattle.std.proofs.lemmas.List.{append-nil, take-append-drop, take_all}
use Rattle.std.proofs.lemmas.List.Elements.{All-push}
use Rattle.std.proofs.lemmas.List.Sums.{take_while-cons}
use Rattle.std.proofs.lemmas.Str.{digit_value_digit}
use Rattle.std.proofs.lemmas.Str.Parse.{IsNumeralModel, digit_at, digit_from_value, numerals_by_value, tells_digits}
use Rattle.ped_path.specs.Path.{IsRank}
use Rattle.ped_path.specs.Text.{ped_text, stopped}
use Rattle.ped_path.specs.Parsing.{begins_with_digit, has_needless_zero, BeginsTooBig, IsAfterRanks, IsRankFault, IsRankThen, IsRefused, LacksStop, RankDueAt}
use Rattle.ped_path.specs.declared.parse.PedTextError.{PedTextError}
use Rattle.ped_path.specs.declared.parse.PedTextError.TheVariants.{Empty, BadByte, Zeros, TooBig, TooLong, Memory}
use Rattle.ped_path.proofs.TextLemmas.{ped_text-append, stopped-append}

pub numerals : IsNumeralModel (AllDigits 10) (digits_value 10)
numerals = numerals_by_value (AllDigits 10) tells_digits

pub digit_passes : (c : ℕ) → IsInRange 48 57 c → is_ascii_digit c ≡ true
digit_passes c within = grind (arith, nat_tests)

low : (c : ℕ) → is_ascii_digit c ≡ true → 48 ≤ c
low c passes = grind (arith, nat_tests)

high : (c : ℕ) → is_ascii_digit c ≡ true → c ≤ 57
high c passes = grind (arith, nat_tests)

digit_small : (c : ℕ) → is_ascii_digit c ≡ true → digit_value c < 10
digit_small c passes =
    let h = high c passes in
    let v = digit_value_digit c (low c passes, h) in omega arith

-- the digits at the front, and what is left them

front_case : (c : ℕ) (cs : List ℕ) (b : Bool) → is_ascii_digit c ≡ b → AllDigits 10 cs → AllDigits 10 (cond b (c ∷ cs) [])
front_case c cs true passes all = (digit_small c passes, all)
front_case c cs false passes all = tt

pub digits_front : (s : List ℕ) → AllDigits 10 (take_while is_ascii_digit s)
digits_front [] = tt
digits_front (c ∷ cs) = subst (λ (t : List ℕ). AllDigits 10 t) (sym (take_while-cons is_ascii_digit c cs)) (front_case c (take_while is_ascii_digit cs) (is_ascii_digit c) refl (digits_front cs))

after_case : (c : ℕ) (cs : List ℕ) (n : ℕ) (b : Bool) → is_ascii_digit c ≡ b → begins_with_digit (drop n cs) ≡ false → begins_with_digit (drop (cond b (1 + n) 0) (c ∷ cs)) ≡ false
after_case c cs n true passes ended = subst (λ (k : ℕ). begins_with_digit (drop k (c ∷ cs)) ≡ false) (sym (one-add n)) ended
after_case c cs n false passes ended = passes

pub after_front : (s : List ℕ) → begins_with_digit (drop (prefix_len is_ascii_digit s) s) ≡ false
after_front [] = refl
after_front (c ∷ cs) = after_case c cs (prefix_len is_ascii_digit cs) (is_ascii_digit c) refl (after_front cs)

and_false : (b : Bool) → (b && false) ≡ false
and_false true = refl
and_false false = refl

pub needless_zero : (ds after : List ℕ) → AllDigits 10 ds → 1 < length ds → get_or ds 0 0 ≡ 48 → has_needless_zero (ds ++ after) ≡ true
needless_zero [] after all long first = absurd (omega arith)
needless_zero (z ∷ []) after all long first = absurd (omega arith)
needless_zero (z ∷ d ∷ ds) after all long first =
    let P : ℕ → Type 0 = λ y. (eqb y 48 && is_ascii_digit d) ≡ true in subst P (sym first) (digit_passes d (digit_from_value d all.1.0))

pub no_needless_zero : (ds after : List ℕ) → 0 < length ds → (1 < length ds → get_or ds 0 0 ≢ 48) → begins_with_digit after ≡ false → has_needless_zero (ds ++ after) ≡ false
no_needless_zero [] after some needed ended = absurd (omega arith)
no_needless_zero (z ∷ []) after some needed ended =
    let P : Bool → Type 0 = λ b. (eqb z 48 && b) ≡ false in subst P (sym ended) (and_false (eqb z 48))
no_needless_zero (z ∷ d ∷ ds) after some needed ended =
    let other : eqb z 48 ≡ false = ne_eqb z 48 (needed (omega arith)) in
    let P : Bool → Type 0 = λ b. (b && is_ascii_digit d) ≡ false in subst P (sym other) refl

one_zero : (k g : ℕ) → 0 < k → (1 < k → g ≢ 48) → g ≡ 48 → k ≡ 1
one_zero k g some needed zero = elim (cases_lt 1 k) [ inl long ↦ absurd (needed long zero) | inr short ↦ omega arith ]

pub rank_text : (ds : List ℕ) → AllDigits 10 ds → 0 < length ds → (1 < length ds → get_or ds 0 0 ≢ 48) → digits_value 10 ds < 2 ^ 32 → decimal (digits_value 10 ds) ≡ ds
rank_text ds all some needed small = decimal-digits_value numerals ds all some (one_zero (length ds) (get_or ds 0 0) some needed) (omega arith)

pub value_more : (ds : List ℕ) (i v w : ℕ) → i < length ds → AllDigits 10 ds → v ≡ digits_value 10 (take i ds) → w ≡ v * 10 + (get_or ds i 0 - 48) → w ≡ digits_value 10 (take (i + 1) ds)
value_more ds i v w within all so_far next =
    let more = digits_value_more 10 ds i within in
    let digit = digit_value_digit (get_or ds i 0) (digit_at ds i all within) in omega (arith, more, digit)

-- the digits at the front, and what is left them
pub record IsSplit (rest digits after : List ℕ) : Type 0 where
  pub all : AllDigits 10 digits
  pub ended : begins_with_digit after ≡ false
  pub split : rest ≡ digits ++ after

pub split_of : (rest digits after : List ℕ) (k : ℕ) → k ≡ prefix_len is_ascii_digit rest → digits ≡ take k rest → after ≡ drop k rest → IsSplit rest digits after
split_of rest digits after k e front back = record {
  all = subst (λ (t : List ℕ). AllDigits 10 t) (sym (front ∙ ap (λ n. take n rest) e)) (digits_front rest);
  ended = ap begins_with_digit (back ∙ ap (λ n. drop n rest) e) ∙ after_front rest;
  split = sym (take-append-drop k rest) ∙ ap (λ t. t ++ drop k rest) (sym front) ∙ ap (λ t. digits ++ t) (sym back);
}

pub rank_then : (rest digits after : List ℕ) (rank : ℕ) → IsSplit rest digits after → 0 < length digits → (1 < length digits → get_or digits 0 0 ≢ 48) → digits_value 10 digits < 2 ^ 32 → rank ≡ digits_value 10 digits → IsRankThen rest rank after
rank_then rest digits after rank s some needed small e = record {
  bounded = omega (arith, small, e);
  split = s.split ∙ ap (λ t. t ++ after) (sym (rank_text digits s.all some needed small) ∙ ap decimal (sym e));
  ended = s.ended;
}

pub too_big : (rest digits after : List ℕ) → IsSplit rest digits after → 0 < length digits → (1 < length digits → get_or digits 0 0 ≢ 48) → (digits_value 10 digits < 2 ^ 32 → ⊥) → BeginsTooBig rest
too_big rest digits after s some needed big = record {
  digits = digits;
  after = after;
  split = s.split;
  numeral = s.all;
  needed = ap has_needless_zero s.split ∙ no_needless_zero digits after some needed s.ended;
  big = omega (arith, big);
}

-- How far a text has been read: these ranks, each with a full stop left it, and this rest at this offset.
pub record ReadSoFar (text path : List ℕ) (count at : ℕ) (rest : List ℕ) : Type 0 where
  pub counted : length path ≡ count
  pub bounded : All IsRank path
  pub whole : text ≡ stopped path ++ rest
  pub offset : at ≡ length (stopped path)
  pub small : at ≤ 11 * count

pub read_none : (text path rest : List ℕ) → path ≡ [] → rest ≡ text → ReadSoFar text path 0 0 rest
read_none text path rest e f =
    let P : List ℕ → Type 0 = λ p. ReadSoFar text p 0 0 rest in
    subst P (sym e) (record { counted = refl; bounded = λ k d h. absurd (omega arith); whole = sym f; offset = refl; small = omega arith })

pub front_of : (text path : List ℕ) (count at : ℕ) (rest : List ℕ) → ReadSoFar text path count at rest → IsAfterRanks text count at rest
front_of text path count at rest s = record { ranks = path; counted = s.counted; bounded = s.bounded; whole = s.whole; offset = s.offset }

-- a full stop left one more rank
stopped-push : (path : List ℕ) (rank : ℕ) → stopped (path ++ rank ∷ []) ≡ stopped path ++ (decimal rank ++ codes ".")
stopped-push path rank = stopped-append path (rank ∷ []) ∙ ap (λ t. stopped path ++ t) (append-nil (decimal rank ++ codes "."))

rank_len : (rank : ℕ) → IsRank rank → length (decimal rank) ≤ 10
rank_len rank bounded = length-decimal-le 10 rank (omega arith) (omega arith) (omega arith)

pub len_after : (rest after : List ℕ) (rank : ℕ) → IsRankThen rest rank after → length rest ≡ length (decimal rank) + length after
len_after rest after rank r = ap length r.split ∙ length-append (decimal rank) after

pub len_small : (rest after : List ℕ) (rank : ℕ) → IsRankThen rest rank after → length rest ≤ length after + 10
len_small rest after rank r =
    let l = len_after rest after rank r in
    let m = rank_len rank r.bounded in omega (arith, l, m)

stop_regroup : (a b cs : List ℕ) → a ++ (b ++ 46 ∷ cs) ≡ (a ++ (b ++ codes ".")) ++ cs
stop_regroup a b cs = simp append_assoc

pub read_more : (text path next rest after left : List ℕ) (count at end rank : ℕ) → ReadSoFar text path count at rest → IsRankThen rest rank after → next ≡ path ++ rank ∷ [] → end ≡ at + (length rest - length after) → 0 < length after → get_or after 0 0 ≡ 46 → left ≡ drop 1 after → ReadSoFar text next (count + 1) (end + 1) left
read_more text path next rest [] left count at end rank s r n e some stop d = absurd (omega arith)
read_more text path next rest (c ∷ cs) left count at end rank s r n e some stop d =
    let l = len_after rest (c ∷ cs) rank r in
    let m = rank_len rank r.bounded in
    let P : List ℕ → Type 0 = λ p. ReadSoFar text p (count + 1) (end + 1) left in
    subst P (sym n)
    (record {
      counted = length-append path (rank ∷ []) ∙ ap (λ k. k + 1) s.counted;
      bounded = All-push IsRank path rank s.bounded r.bounded;
      whole = s.whole ∙ ap (λ t. stopped path ++ t) (r.split ∙ ap (λ k. decimal rank ++ k ∷ cs) stop) ∙ stop_regroup (stopped path) (decimal rank) cs ∙ ap (λ t. t ++ cs) (sym (stopped-push path rank)) ∙ ap (λ t. stopped (path ++ rank ∷ []) ++ t) (sym d);
      offset = rw (stopped-push path rank, length-append (stopped path) (decimal rank ++ codes "."), length-append (decimal rank) (codes ".")) (let o = s.offset in omega (arith, l, e, o));
      small = let o = s.small in omega (arith, l, e, m, o);
    })

moved : (text : List ℕ) (count at k : ℕ) (rest : List ℕ) → k ≡ at → IsAfterRanks text count at rest → IsAfterRanks text count k rest
moved text count at k rest e f = record { ranks = f.ranks; counted = f.counted; bounded = f.bounded; whole = f.whole; offset = e ∙ f.offset }

stands : (text : List ℕ) (count at k : ℕ) (rest : List ℕ) (P : List ℕ → Type 0) → k ≡ at → count < 512 → IsAfterRanks text count at rest → P rest → RankDueAt text k P
stands text count at k rest P e few f here = record { count = count; rest = rest; few = few; front = moved text count at k rest e f; here = here }

-- a rank that isn't one
pub refused_at : (text path : List ℕ) (count at : ℕ) (rest : List ℕ) (fault : PedTextError) → text ≢ [] → count < 512 → ReadSoFar text path count at rest → IsRankFault rest at fault → IsRefused text fault
refused_at text path count at rest Empty some few s f = absurd f
refused_at text path count at rest (BadByte k) some few s f = (some, inl (stands text count at k rest (λ t. begins_with_digit t ≡ false) f.0 few (front_of text path count at rest s) f.1))
refused_at text path count at rest (Zeros k) some few s f = stands text count at k rest (λ t. has_needless_zero t ≡ true) f.0 few (front_of text path count at rest s) f.1
refused_at text path count at rest (TooBig k) some few s f = stands text count at k rest BeginsTooBig f.0 few (front_of text path count at rest s) f.1
refused_at text path count at rest TooLong some few s f = absurd f
refused_at text path count at rest Memory some few s f = absurd f

-- another byte left a rank
pub refused_after : (text path : List ℕ) (count at end rank : ℕ) (rest after : List ℕ) → text ≢ [] → count < 512 → ReadSoFar text path count at rest → IsRankThen rest rank after → end ≡ at + (length rest - length after) → 0 < length after → get_or after 0 0 ≢ 46 → IsRefused text (BadByte end)
refused_after text path count at end rank rest [] some few s r e more other = absurd (omega arith)
refused_after text path count at end rank rest (c ∷ cs) some few s r e more other =
    let l = len_after rest (c ∷ cs) rank r in (
      some,
      inr (
        at,
        stands text count at at rest (LacksStop at end) refl few (front_of text path count at rest s)
            (record { rank = rank; byte = c; after = cs; first = r; other = other; place = omega (arith, l, e) }),
      ),
    )

-- the end left a rank
pub read_whole : (text path j : List ℕ) (count at rank : ℕ) (rest after : List ℕ) → ReadSoFar text path count at rest → IsRankThen rest rank after → length after ≡ 0 → path ++ rank ∷ [] ≡ j → text ≡ ped_text j
read_whole text path j count at rank rest [] s r none e =
    s.whole ∙ ap (λ t. stopped path ++ t) (r.split ∙ append-nil (decimal rank)) ∙ ped_text-append path j rank e
read_whole text path j count at rank rest (c ∷ cs) s r none e = absurd (omega arith)

pub read_short : (text path j : List ℕ) (count at rank : ℕ) (rest : List ℕ) → count < 512 → ReadSoFar text path count at rest → path ++ rank ∷ [] ≡ j → length j ≤ 512
read_short text path j count at rank rest few s e =
    let l : length j ≡ length path + 1 = ap length (sym e) ∙ length-append path (rank ∷ []) in
    let n = s.counted in omega (arith, l, n)

pub not_empty : (text : List ℕ) → 0 < length text → text ≢ []
not_empty text some = λ e. let l = ap length e in absurd (omega (arith, l))

pub after_first : (after : List ℕ) → take (length after - 1) (drop 1 after) ≡ drop 1 after
after_first after = take_all (length after - 1) (drop 1 after) (simp length-drop (omega arith))
