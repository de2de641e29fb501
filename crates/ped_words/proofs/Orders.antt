-- Two neighbouring pairs of words may change places where the words give a command.
use Rattle.std.proofs.Common.{◌≡◌, ℕ, zero, suc, ◌+◌, ◌-◌, ◌*◌, ◌/◌, ◌<◌, ◌≤◌, Bool, true, false, not, cond, ◌||◌, if◌then◌else◌, eqb, Option, Some, None, Ok, Err, List, [], ◌∷◌, ◌++◌, length, refl, sym, ap, ◌∙◌, subst, ◌⊎◌, inl, inr, arith, length-append}
use Rattle.std.specs.Prelude.{codes, is_some, nat_eq, nat_le, option_and_then}
use Rattle.std.specs.List.{starts_with}
use Rattle.std.specs.Option.{option_map, option_or}
use Rattle.std.proofs.lemmas.Bool.{cases_lt, eq-eqb, eqb-true, ne_eqb}
use Rattle.std.proofs.lemmas.Bool.Decides.{nat_tests}
use Rattle.std.proofs.lemmas.List.{get_or-append-add}
use Rattle.std.proofs.lemmas.Option.{none-some}
use Rattle.ped_words.specs.Judging.{broken_name, broken_pair, broken_value, first_below, first_broken, first_broken_rule, holds_of, pairs_in, value_rule}
use Rattle.ped_words.specs.Laws.{as_it_was, exchanged, OrdersGiveOneCommand}
use Rattle.ped_words.specs.Making.{made_command}
use Rattle.ped_words.specs.Reading.{reading, reading_as}
use Rattle.ped_words.specs.Rules.{breaks, broken_at, unless_error}
use Rattle.ped_words.specs.Table.{name_of, option_number, takes_option, subcommand_of}
use Rattle.ped_words.specs.Values.{OptionValues, has, is_option, name_word, value_word, option_values, word_at}
use Rattle.ped_words.specs.declared.command.Command.{Command}
use Rattle.ped_words.specs.declared.rule.Rule.{Rule}
use Rattle.ped_words.specs.declared.rule.Rule.TheVariants as rule
use Rattle.ped_words.specs.declared.rule.WordError.{WordError}
use Rattle.ped_words.specs.declared.table.OptionName.{OptionName}
use Rattle.ped_words.specs.declared.table.OptionName.TheVariants as name
use Rattle.ped_words.specs.declared.table.Subcommand.{Subcommand}
use Rattle.ped_words.proofs.OrdersMade.{word_of, some-word, or_none, none_or, made-same}

-- Names

abbrev name_at : ℕ → OptionName
name_at k =
    if nat_eq k 0 then name.Seed
    else if nat_eq k 1 then name.Gamma
    else if nat_eq k 2 then name.Depth
    else if nat_eq k 3 then name.Budget
    else if nat_eq k 4 then name.Workers
    else if nat_eq k 5 then name.Show
    else if nat_eq k 6 then name.Number
    else if nat_eq k 7 then name.At
    else if nat_eq k 8 then name.Shape
    else if nat_eq k 9 then name.Size
    else if nat_eq k 10 then name.Rounds
    else if nat_eq k 11 then name.Count
    else if nat_eq k 12 then name.Below
    else name.Seeds

name-at-number : (n : OptionName) → name_at (option_number n) ≡ n
name-at-number name.Seed = refl
name-at-number name.Gamma = refl
name-at-number name.Depth = refl
name-at-number name.Budget = refl
name-at-number name.Workers = refl
name-at-number name.Show = refl
name-at-number name.Number = refl
name-at-number name.At = refl
name-at-number name.Shape = refl
name-at-number name.Size = refl
name-at-number name.Rounds = refl
name-at-number name.Count = refl
name-at-number name.Below = refl
name-at-number name.Seeds = refl

-- the option that also counts as this one
abbrev twin : OptionName → OptionName
twin name.Seed = name.Gamma
twin name.Gamma = name.Seed
twin n = n

twin-twin : (n : OptionName) → twin (twin n) ≡ n
twin-twin name.Seed = refl
twin-twin name.Gamma = refl
twin-twin _ = refl

no_both : (b : Bool) → b ≡ true → b ≡ false → ⊥
no_both b e f = cc

not_true : (b : Bool) → (b ≡ true → ⊥) → b ≡ false
not_true true h = absurd (h refl)
not_true false h = refl

twin-apart : (a c : OptionName) → eqb (option_number a) (option_number (twin c)) ≡ false → eqb (option_number c) (option_number (twin a)) ≡ false
twin-apart a c e = not_true (eqb (option_number c) (option_number (twin a))) (λ f.
    let numbers : option_number c ≡ option_number (twin a) = eqb-true (option_number c) (option_number (twin a)) f in
    let same : c ≡ twin a = sym (name-at-number c) ∙ ap name_at numbers ∙ name-at-number (twin a) in
    let back : twin c ≡ a = ap twin same ∙ twin-twin a in
    no_both (eqb (option_number a) (option_number (twin c))) (eq-eqb (option_number a) (option_number (twin c)) (ap option_number (sym back))) e)

eqb-back : (a c : ℕ) → eqb a c ≡ false → eqb c a ≡ false
eqb-back a c e = not_true (eqb c a) (λ f. no_both (eqb a c) (eq-eqb a c (sym (eqb-true c a f))) e)

or-none : (a b : Bool) → (a || b) ≡ false → (a ≡ false) × (b ≡ false)
or-none true b e = cc
or-none false b e = (refl, e)

none-or : (a b : Bool) → a ≡ false → b ≡ false → (a || b) ≡ false
none-or a b e f = ap (λ z. z || b) e ∙ f

-- neither the option nor its twin was given
has-parts : (values : OptionValues) (n : OptionName) → has values n ≡ false → (is_some (values n) ≡ false) × (is_some (values (twin n)) ≡ false)
has-parts values name.Seed e = or-none _ _ e
has-parts values name.Gamma e = let p = or-none _ _ e in (p.1, p.0)
has-parts values _ e = (e, e)

has-none : (values : OptionValues) (n : OptionName) → is_some (values n) ≡ false → is_some (values (twin n)) ≡ false → has values n ≡ false
has-none values name.Seed e f = none-or _ _ e f
has-none values name.Gamma e f = none-or _ _ f e
has-none values _ e f = e

has-same : (values others : OptionValues) → ((n : OptionName) → is_some (others n) ≡ is_some (values n)) → (n : OptionName) → has values n ≡ false → has others n ≡ false
has-same values others same n e = let p = has-parts values n e in has-none others n (same n ∙ p.0) (same (twin n) ∙ p.1)

-- A pair that breaks no rule

record Right (subcommand : Subcommand) (given : OptionValues) (word value : List ℕ) (is_last : Bool) : Type 0 where
  n : OptionName
  dashes : starts_with nat_eq word (codes "--") ≡ true
  named : name_of word ≡ Some n
  taken : takes_option subcommand n ≡ true
  fresh : has given n ≡ false
  more : is_last ≡ false
  fits : value_rule n value ≡ None

module _ (subcommand : Subcommand) (words : List (List ℕ)) (k : ℕ) where
  abbrev given : OptionValues
  given = option_values words k

  abbrev word : List ℕ
  word = name_word words k

  abbrev value : List ℕ
  value = value_word words k

  abbrev is_last : Bool
  is_last = nat_le (length words) (2 * k + 2)

  abbrev R : Type 0
  R = Right subcommand given word value is_last

  -- the rules after the first one, by the option that the word names
  abbrev after : Option OptionName → List (Rule × Bool)
  after o = (rule.UnknownOption, not (holds_of (takes_option subcommand) o)) ∷ (rule.OptionTwice, holds_of (has given) o) ∷ (rule.MissingValue, is_last) ∷ []

  abbrev value_as : Option OptionName → Option Rule
  value_as o = option_and_then (λ n. value_rule n value) o

  right_from : broken_pair subcommand words k ≡ None → R
  right_from e =
      let p = or_none (broken_at (2 * k + 1) (broken_name subcommand words k)) (broken_at (2 * k + 2) (broken_value words k)) e in
      by_dashes (starts_with nat_eq word (codes "--")) refl (at_none (2 * k + 1) (broken_name subcommand words k) p.0) (at_none (2 * k + 2) (broken_value words k) p.1)
    where
      at_none : (i : ℕ) (o : Option Rule) → broken_at i o ≡ None → o ≡ None
      at_none i None f = refl
      at_none i (Some r) f = absurd (none-some _ (sym f))

      by_tests : (n : OptionName) → starts_with nat_eq word (codes "--") ≡ true → name_of word ≡ Some n → (x y z : Bool) → takes_option subcommand n ≡ x → has given n ≡ y → is_last ≡ z →
          first_broken_rule ((rule.UnknownOption, not x) ∷ (rule.OptionTwice, y) ∷ (rule.MissingValue, z) ∷ []) ≡ None → value_rule n value ≡ None → R
      by_tests n d f false y z g h i j v = absurd (none-some _ (sym j))
      by_tests n d f true true z g h i j v = absurd (none-some _ (sym j))
      by_tests n d f true false true g h i j v = absurd (none-some _ (sym j))
      by_tests n d f true false false g h i j v = record { n = n; dashes = d; named = f; taken = g; fresh = h; more = i; fits = v }

      by_name : starts_with nat_eq word (codes "--") ≡ true → (o : Option OptionName) → name_of word ≡ o → first_broken_rule (after o) ≡ None → value_as o ≡ None → R
      by_name d None f g v = absurd (none-some _ (sym g))
      by_name d (Some n) f g v = by_tests n d f (takes_option subcommand n) (has given n) is_last refl refl refl g v

      by_dashes : (b : Bool) → starts_with nat_eq word (codes "--") ≡ b → first_broken_rule ((rule.StrayWord, not b) ∷ after (name_of word)) ≡ None → value_as (name_of word) ≡ None → R
      by_dashes true d g v = by_name d (name_of word) refl g v
      by_dashes false d g v = absurd (none-some _ (sym g))

  right_to : R → broken_pair subcommand words k ≡ None
  right_to r =
      let named : broken_name subcommand words k ≡ None =
      ap (λ b. first_broken_rule ((rule.StrayWord, not b) ∷ after (name_of word))) r.dashes
      ∙ ap (λ o. first_broken_rule (after o)) r.named
      ∙ ap (λ b. first_broken_rule ((rule.UnknownOption, not b) ∷ (rule.OptionTwice, has given r.n) ∷ (rule.MissingValue, is_last) ∷ [])) r.taken
      ∙ ap (λ b. first_broken_rule ((rule.OptionTwice, b) ∷ (rule.MissingValue, is_last) ∷ [])) r.fresh
      ∙ ap (λ b. first_broken_rule ((rule.MissingValue, b) ∷ [])) r.more in
      ap (λ o. option_or (broken_at (2 * k + 1) o) (broken_at (2 * k + 2) (broken_value words k))) named
      ∙ ap (λ o. broken_at (2 * k + 2) (value_as o)) r.named
      ∙ ap (broken_at (2 * k + 2)) r.fits

carried : (subcommand : Subcommand) (given other : OptionValues) (word word' value value' : List ℕ) (last last' : Bool) → word' ≡ word → value' ≡ value → ((n : OptionName) → is_some (other n) ≡ is_some (given n)) → last' ≡ last →
    Right subcommand given word value last → Right subcommand other word' value' last'
carried subcommand given other word word' value value' last last' e f same g r = record {
  n = r.n;
  dashes = ap (λ z. starts_with nat_eq z (codes "--")) e ∙ r.dashes;
  named = ap name_of e ∙ r.named;
  taken = r.taken;
  fresh = has-same given other same r.n r.fresh;
  more = g ∙ r.more;
  fits = ap (value_rule r.n) f ∙ r.fits;
}

all_none : (f : ℕ → Option WordError) (n : ℕ) → first_below f n ≡ None → (j : ℕ) → j < n → f j ≡ None
all_none f zero e j h = absurd (omega arith)
all_none f (suc n) e j h = go (cases_lt j n) (all_none f n (or_none (first_below f n) (f n) e).0 j)
  where
    go : (j < n) ⊎ (n ≤ j) → (j < n → f j ≡ None) → f j ≡ None
    go (inl low) after = after low
    go (inr high) after = let same : n ≡ j = omega (arith, high) in subst (λ z. f z ≡ None) same (or_none (first_below f n) (f n) e).1

none_all : (f : ℕ → Option WordError) (n : ℕ) → ((j : ℕ) → j < n → f j ≡ None) → first_below f n ≡ None
none_all f zero h = refl
none_all f (suc n) h = none_or (first_below f n) (f n) (none_all f n (λ j l. h j (omega arith))) (h n (omega arith))

-- Words with two pairs exchanged

above : (m i : ℕ) → i < m → nat_le m i ≡ false
above m i h = grind (arith, nat_tests)

record Swapped (words others : List (List ℕ)) (k : ℕ) : Type 0 where
  long : length others ≡ length words
  enough : 2 * k + 5 ≤ length words
  front : (i : ℕ) → i < 2 * k + 1 → word_at others i ≡ word_at words i
  first_name : name_word others k ≡ name_word words (suc k)
  first_value : value_word others k ≡ value_word words (suc k)
  second_name : name_word others (suc k) ≡ name_word words k
  second_value : value_word others (suc k) ≡ value_word words k
  after : (i : ℕ) → 2 * k + 5 ≤ i → word_at others i ≡ word_at words i

front_at : (xs ys : List (List ℕ)) (i : ℕ) → i < length xs → word_at (xs ++ ys) i ≡ word_at xs i
front_at [] ys i h = absurd (omega arith)
front_at (x ∷ xs) ys zero h = refl
front_at (x ∷ xs) ys (suc i) h = front_at xs ys i (omega arith)

back_at : (xs ys : List (List ℕ)) (i m : ℕ) → i ≡ length xs + m → word_at (xs ++ ys) i ≡ word_at ys m
back_at xs ys i m e = ap (word_at (xs ++ ys)) e ∙ get_or-append-add xs ys m []

swapped : (front after : List (List ℕ)) (n v m w : List ℕ) (k : ℕ) → length front ≡ 2 * k + 1 → Swapped (front ++ n ∷ v ∷ m ∷ w ∷ after) (front ++ m ∷ w ∷ n ∷ v ∷ after) k
swapped front after n v m w k e =
    let xs : List (List ℕ) = n ∷ v ∷ m ∷ w ∷ after in
    let ys : List (List ℕ) = m ∷ w ∷ n ∷ v ∷ after in
    record {
      long = length-append front ys ∙ sym (length-append front xs);
      enough = let l : length (front ++ xs) ≡ length front + length xs = length-append front xs in omega (arith, l, e);
      front = λ i h. front_at front ys i (omega (arith, e, h)) ∙ sym (front_at front xs i (omega (arith, e, h)));
      first_name = back_at front ys (2 * k + 1) 0 (omega (arith, e)) ∙ sym (back_at front xs (2 * suc k + 1) 2 (omega (arith, e)));
      first_value = back_at front ys (2 * k + 2) 1 (omega (arith, e)) ∙ sym (back_at front xs (2 * suc k + 2) 3 (omega (arith, e)));
      second_name = back_at front ys (2 * suc k + 1) 2 (omega (arith, e)) ∙ sym (back_at front xs (2 * k + 1) 0 (omega (arith, e)));
      second_value = back_at front ys (2 * suc k + 2) 3 (omega (arith, e)) ∙ sym (back_at front xs (2 * k + 2) 1 (omega (arith, e)));
      after = λ i h.
          let at : i ≡ length front + suc (suc (suc (suc (i - (length front + 4))))) = omega (arith, e, h) in
          back_at front ys i (suc (suc (suc (suc (i - (length front + 4)))))) at ∙ sym (back_at front xs i (suc (suc (suc (suc (i - (length front + 4)))))) at);
    }

abbrev next_word : List ℕ → List ℕ → Option (List ℕ) → OptionName → Option (List ℕ)
next_word word given o n = cond (is_option (name_of word) n) (Some given) o

word_of-next : (words : List (List ℕ)) (j : ℕ) (n : OptionName) → word_of (option_values words (suc j)) n ≡ next_word (name_word words j) (value_word words j) (word_of (option_values words j) n) n
word_of-next words j n = go (is_option (name_of (name_word words j)) n)
  where
    go : (b : Bool) → option_map (λ (w : List ℕ × ℕ). w.0) (cond b (Some (value_word words j, 2 * j + 2)) (option_values words j n)) ≡ cond b (Some (value_word words j)) (word_of (option_values words j) n)
    go true = refl
    go false = refl

free : (b : Bool) (w : List ℕ × ℕ) (o : Option (List ℕ × ℕ)) → is_some (cond b (Some w) o) ≡ false → (b ≡ false) × (is_some o ≡ false)
free true w o e = cc
free false w o e = (refl, e)

still_free : (b : Bool) (w : List ℕ × ℕ) (o : Option (List ℕ × ℕ)) → b ≡ false → is_some o ≡ false → is_some (cond b (Some w) o) ≡ false
still_free b w o e f = ap (λ z. is_some (cond z (Some w) o)) e ∙ f

crossing : (x y : Bool) (p q o : Option (List ℕ)) → (x ≡ true → y ≡ true → ⊥) → cond x p (cond y q o) ≡ cond y q (cond x p o)
crossing true true p q o h = absurd (h refl refl)
crossing true false p q o h = refl
crossing false true p q o h = refl
crossing false false p q o h = refl

module _ (words others : List (List ℕ)) (k : ℕ) (s : Swapped words others k) where
  front-word : (j : ℕ) → j < k → name_word others j ≡ name_word words j
  front-word j h = s.front (2 * j + 1) (omega arith)

  front-value : (j : ℕ) → j < k → value_word others j ≡ value_word words j
  front-value j h = s.front (2 * j + 2) (omega arith)

  after-word : (j : ℕ) → suc k < j → name_word others j ≡ name_word words j
  after-word j h = s.after (2 * j + 1) (omega arith)

  after-value : (j : ℕ) → suc k < j → value_word others j ≡ value_word words j
  after-value j h = s.after (2 * j + 2) (omega arith)

  next-same : (j : ℕ) → name_word others j ≡ name_word words j → value_word others j ≡ value_word words j → (n : OptionName) → word_of (option_values others j) n ≡ word_of (option_values words j) n →
      word_of (option_values others (suc j)) n ≡ word_of (option_values words (suc j)) n
  next-same j e f n g =
      word_of-next others j n
      ∙ ap (λ z. next_word z (value_word others j) (word_of (option_values others j) n) n) e
      ∙ ap (λ z. next_word (name_word words j) z (word_of (option_values others j) n) n) f
      ∙ ap (λ z. next_word (name_word words j) (value_word words j) z n) g
      ∙ sym (word_of-next words j n)

  values-front : (j : ℕ) → j ≤ k → (n : OptionName) → word_of (option_values others j) n ≡ word_of (option_values words j) n
  values-front zero h n = refl
  values-front (suc j) h n = next-same j (front-word j (omega arith)) (front-value j (omega arith)) n (values-front j (omega arith) n)

  module _ (apart : (n : OptionName) → is_option (name_of (name_word words k)) n ≡ true → is_option (name_of (name_word words (suc k))) n ≡ true → ⊥) where
    values-two : (n : OptionName) → word_of (option_values others (suc (suc k))) n ≡ word_of (option_values words (suc (suc k))) n
    values-two n =
        word_of-next others (suc k) n
        ∙ ap (λ z. next_word z (value_word others (suc k)) (word_of (option_values others (suc k)) n) n) s.second_name
        ∙ ap (λ z. next_word (name_word words k) z (word_of (option_values others (suc k)) n) n) s.second_value
        ∙ ap (λ z. next_word (name_word words k) (value_word words k) z n) (word_of-next others k n
        ∙ ap (λ z. next_word z (value_word others k) (word_of (option_values others k) n) n) s.first_name
        ∙ ap (λ z. next_word (name_word words (suc k)) z (word_of (option_values others k) n) n) s.first_value
        ∙ ap (λ z. next_word (name_word words (suc k)) (value_word words (suc k)) z n) (values-front k (omega arith) n))
        ∙ crossing (is_option (name_of (name_word words k)) n) (is_option (name_of (name_word words (suc k))) n) (Some (value_word words k)) (Some (value_word words (suc k))) (word_of (option_values words k) n) (apart n)
        ∙ ap (λ z. next_word (name_word words (suc k)) (value_word words (suc k)) z n) (sym (word_of-next words k n))
        ∙ sym (word_of-next words (suc k) n)

    values-after : (j : ℕ) → suc k < j → (n : OptionName) → word_of (option_values others j) n ≡ word_of (option_values words j) n
    values-after zero h n = absurd (omega arith)
    values-after (suc j) h n = go (cases_lt (suc k) j) (λ l. values-after j l n)
      where
        go : (suc k < j) ⊎ (j ≤ suc k) → (suc k < j → word_of (option_values others j) n ≡ word_of (option_values words j) n) → word_of (option_values others (suc j)) n ≡ word_of (option_values words (suc j)) n
        go (inl l) before = next-same j (after-word j l) (after-value j l) n (before l)
        go (inr l) before = let same : suc k ≡ j = omega (arith, l, h) in subst (λ z. word_of (option_values others (suc z)) n ≡ word_of (option_values words (suc z)) n) same (values-two n)

  module _ (subcommand : Subcommand) (a : Right subcommand (option_values words k) (name_word words k) (value_word words k) (nat_le (length words) (2 * k + 2)))
      (c : Right subcommand (option_values words (suc k)) (name_word words (suc k)) (value_word words (suc k)) (nat_le (length words) (2 * suc k + 2))) where
    -- the second name is neither the first nor its twin
    fresh-at : (n : OptionName) → is_some (option_values words (suc k) n) ≡ false → (eqb (option_number a.n) (option_number n) ≡ false) × (is_some (option_values words k n) ≡ false)
    fresh-at n e =
        let f = free (is_option (name_of (name_word words k)) n) (value_word words k, 2 * k + 2) (option_values words k n) e in (ap (λ o. is_option o n) (sym a.named) ∙ f.0, f.1)

    here : (eqb (option_number a.n) (option_number c.n) ≡ false) × (is_some (option_values words k c.n) ≡ false)
    here = fresh-at c.n (has-parts (option_values words (suc k)) c.n c.fresh).0

    there : (eqb (option_number a.n) (option_number (twin c.n)) ≡ false) × (is_some (option_values words k (twin c.n)) ≡ false)
    there = fresh-at (twin c.n) (has-parts (option_values words (suc k)) c.n c.fresh).1

    apart : (n : OptionName) → is_option (name_of (name_word words k)) n ≡ true → is_option (name_of (name_word words (suc k))) n ≡ true → ⊥
    apart n e f =
        let e' : eqb (option_number a.n) (option_number n) ≡ true = ap (λ o. is_option o n) (sym a.named) ∙ e in
        let f' : eqb (option_number c.n) (option_number n) ≡ true = ap (λ o. is_option o n) (sym c.named) ∙ f in
        let same : option_number a.n ≡ option_number c.n = eqb-true (option_number a.n) (option_number n) e' ∙ sym (eqb-true (option_number c.n) (option_number n) f') in
        no_both (eqb (option_number a.n) (option_number c.n)) (eq-eqb (option_number a.n) (option_number c.n) same) here.0

    some-front : (j : ℕ) → j ≤ k → (n : OptionName) → is_some (option_values others j n) ≡ is_some (option_values words j n)
    some-front j h n = sym (some-word (option_values others j) n) ∙ ap is_some (values-front j h n) ∙ some-word (option_values words j) n

    some-after : (j : ℕ) → suc k < j → (n : OptionName) → is_some (option_values others j n) ≡ is_some (option_values words j n)
    some-after j h n = sym (some-word (option_values others j) n) ∙ ap is_some (values-after apart j h n) ∙ some-word (option_values words j) n

    not_last : (i : ℕ) → i < length words → nat_le (length others) i ≡ false
    not_last i h = let l = s.long in above (length others) i (omega (arith, l, h))

    first_right : Right subcommand (option_values others k) (name_word others k) (value_word others k) (nat_le (length others) (2 * k + 2))
    first_right = record {
      n = c.n;
      dashes = ap (λ z. starts_with nat_eq z (codes "--")) s.first_name ∙ c.dashes;
      named = ap name_of s.first_name ∙ c.named;
      taken = c.taken;
      fresh = has-none (option_values others k) c.n (some-front k (omega arith) c.n ∙ here.1) (some-front k (omega arith) (twin c.n) ∙ there.1);
      more = let l = s.enough in not_last (2 * k + 2) (omega (arith, l));
      fits = ap (value_rule c.n) s.first_value ∙ c.fits;
    }

    -- what stands for the first name in the exchanged words
    free-then : (n : OptionName) → eqb (option_number c.n) (option_number n) ≡ false → is_some (option_values words k n) ≡ false → is_some (option_values others (suc k) n) ≡ false
    free-then n e f =
        still_free (is_option (name_of (name_word others k)) n) (value_word others k, 2 * k + 2) (option_values others k n) (ap (λ z. is_option (name_of z) n) s.first_name ∙ ap (λ o. is_option o n) c.named ∙ e) (some-front k (omega arith) n ∙ f)

    second_right : Right subcommand (option_values others (suc k)) (name_word others (suc k)) (value_word others (suc k)) (nat_le (length others) (2 * suc k + 2))
    second_right =
        let p = has-parts (option_values words k) a.n a.fresh in
        record {
          n = a.n;
          dashes = ap (λ z. starts_with nat_eq z (codes "--")) s.second_name ∙ a.dashes;
          named = ap name_of s.second_name ∙ a.named;
          taken = a.taken;
          fresh = has-none (option_values others (suc k)) a.n (free-then a.n (eqb-back (option_number a.n) (option_number c.n) here.0) p.0) (free-then (twin a.n) (twin-apart a.n c.n there.0) p.1);
          more = let l = s.enough in not_last (2 * suc k + 2) (omega (arith, l));
          fits = ap (value_rule a.n) s.second_value ∙ a.fits;
        }

  exchanged-right : (subcommand : Subcommand) → first_broken subcommand words ≡ None → first_broken subcommand others ≡ None
  exchanged-right subcommand e = none_all (broken_pair subcommand others) (pairs_in others) each
    where
      pairs : pairs_in others ≡ pairs_in words
      pairs = ap (λ l. l / 2) s.long

      two : suc k < pairs_in words
      two = let l = s.enough in omega (arith, l)

      right : (j : ℕ) → j < pairs_in words → Right subcommand (option_values words j) (name_word words j) (value_word words j) (nat_le (length words) (2 * j + 2))
      right j h = right_from subcommand words j (all_none (broken_pair subcommand words) (pairs_in words) e j h)

      a : Right subcommand (option_values words k) (name_word words k) (value_word words k) (nat_le (length words) (2 * k + 2))
      a = right k (omega (arith, two))

      c : Right subcommand (option_values words (suc k)) (name_word words (suc k)) (value_word words (suc k)) (nat_le (length words) (2 * suc k + 2))
      c = right (suc k) two

      last : (j : ℕ) → nat_le (length others) (2 * j + 2) ≡ nat_le (length words) (2 * j + 2)
      last j = ap (λ l. nat_le l (2 * j + 2)) s.long

      at_front : (j : ℕ) → j < k → Right subcommand (option_values others j) (name_word others j) (value_word others j) (nat_le (length others) (2 * j + 2))
      at_front j h =
          carried subcommand (option_values words j) (option_values others j) (name_word words j) (name_word others j) (value_word words j) (value_word others j) _ _ (front-word j h) (front-value j h) (some-front subcommand a c j (omega arith)) (last j) (right j (omega (arith, two)))

      at_back : (j : ℕ) → j < pairs_in words → suc k < j → Right subcommand (option_values others j) (name_word others j) (value_word others j) (nat_le (length others) (2 * j + 2))
      at_back j l h =
          carried subcommand (option_values words j) (option_values others j) (name_word words j) (name_word others j) (value_word words j) (value_word others j) _ _ (after-word j h) (after-value j h) (some-after subcommand a c j h) (last j) (right j l)

      go : (j : ℕ) → j < pairs_in words → (j < k) ⊎ (k ≤ j) → (suc k < j) ⊎ (j ≤ suc k) → (k < j) ⊎ (j ≤ k) → broken_pair subcommand others j ≡ None
      go j l (inl low) y z = right_to subcommand others j (at_front j low)
      go j l (inr x) (inl high) z = right_to subcommand others j (at_back j l high)
      go j l (inr x) (inr y) (inl high) = let same : suc k ≡ j = omega (arith, y, high) in subst (λ i. broken_pair subcommand others i ≡ None) same (right_to subcommand others (suc k) (second_right subcommand a c))
      go j l (inr x) (inr y) (inr z) = let same : k ≡ j = omega (arith, x, z) in subst (λ i. broken_pair subcommand others i ≡ None) same (right_to subcommand others k (first_right subcommand a c))

      each : (j : ℕ) → j < pairs_in others → broken_pair subcommand others j ≡ None
      each j h = go j (omega (arith, h, pairs)) (cases_lt j k) (cases_lt (suc k) j) (cases_lt k j)

  exchanged-made : (subcommand : Subcommand) (command : Command) → first_broken subcommand words ≡ None → made_command subcommand (option_values words (pairs_in words)) (length words) ≡ Ok command →
      made_command subcommand (option_values others (pairs_in others)) (length others) ≡ Ok command
  exchanged-made subcommand command e f =
      ap (λ l. made_command subcommand (option_values others (l / 2)) l) s.long ∙ made-same (option_values words (pairs_in words)) (option_values others (pairs_in words)) (values-after (apart subcommand a c) (pairs_in words) two) subcommand (length words) command f
    where
      two : suc k < pairs_in words
      two = let l = s.enough in omega (arith, l)

      a : Right subcommand (option_values words k) (name_word words k) (value_word words k) (nat_le (length words) (2 * k + 2))
      a = right_from subcommand words k (all_none (broken_pair subcommand words) (pairs_in words) e k (omega (arith, two)))

      c : Right subcommand (option_values words (suc k)) (name_word words (suc k)) (value_word words (suc k)) (nat_le (length words) (2 * suc k + 2))
      c = right_from subcommand words (suc k) (all_none (broken_pair subcommand words) (pairs_in words) e (suc k) two)

  as-same : (o : Option Subcommand) (command : Command) → reading_as o words ≡ Ok command → reading_as o others ≡ Ok command
  as-same None command e = cc
  as-same (Some subcommand) command e = go (first_broken subcommand words) refl e
    where
      go : (o : Option WordError) → first_broken subcommand words ≡ o → unless_error o (made_command subcommand (option_values words (pairs_in words)) (length words)) ≡ Ok command → reading_as (Some subcommand) others ≡ Ok command
      go (Some x) f g = cc
      go None f g = ap (λ o. unless_error o (made_command subcommand (option_values others (pairs_in others)) (length others))) (exchanged-right subcommand f) ∙ exchanged-made subcommand command f g

  exchange : (command : Command) → reading words ≡ Ok command → reading others ≡ Ok command
  unfolding reading
  exchange command e =
      let l = s.enough in
      let m = s.long in
      let some : eqb (length words) 0 ≡ false = ne_eqb (length words) 0 (λ z. omega (arith, z, l)) in
      let other : eqb (length others) 0 ≡ false = ne_eqb (length others) 0 (λ z. omega (arith, z, l, m)) in
      let given : reading_as (subcommand_of (word_at words 0)) words ≡ Ok command = sym (ap (λ b. if b then Err (breaks rule.NoCommand 0) else reading_as (subcommand_of (word_at words 0)) words) some) ∙ e in
      ap (λ b. if b then Err (breaks rule.NoCommand 0) else reading_as (subcommand_of (word_at others 0)) others) other
      ∙ ap (λ w. reading_as (subcommand_of w) others) (s.front 0 (omega arith))
      ∙ as-same (subcommand_of (word_at words 0)) command given

pub orders_give_one : OrdersGiveOneCommand
orders_give_one words others command as_it_was e = e
orders_give_one words others command (exchanged front after n v m w k odd r) e =
    exchange (front ++ n ∷ v ∷ m ∷ w ∷ after) (front ++ m ∷ w ∷ n ∷ v ∷ after) k (swapped front after n v m w k odd) command (orders_give_one words (front ++ n ∷ v ∷ m ∷ w ∷ after) command r e)
