-- What is wrong with a text stands at one place, and at that place one rule is told.
use Rattle.std.proofs.Common.{◌≡◌, ◌≢◌, ℕ, zero, suc, ◌+◌, ◌<◌, ◌≤◌, ◌^◌, Bool, true, false, ◌&&◌, eqb, List, [], ◌∷◌, ◌++◌, All, length, take, get_or, refl, sym, ap, ◌∙◌, subst, ◌⊎◌, inl, inr, arith, append_assoc}
use Rattle.std.specs.Prelude.{codes, decimal}
use Rattle.std.specs.Char.{is_ascii_digit, digit_value}
use Rattle.std.specs.Str.Parse.{AllDigits, digits_value}
use Rattle.std.proofs.Math.Seq.{take-append_seam}
use Rattle.std.proofs.lemmas.Bool.{eqb-true}
use Rattle.std.proofs.lemmas.Fmt.{decimal_digit, decimal_injective, decimal_nonempty, digits_decimal, digits_value-decimal, first_decimal}
use Rattle.std.proofs.lemmas.List.Elements.{All-head, All-tail}
use Rattle.std.proofs.lemmas.Str.Parse.{digit_from_value, digits_value-take-le}
use Rattle.ped_path.specs.Path.{IsRank}
use Rattle.ped_path.specs.Text.{stopped}
use Rattle.ped_path.specs.Parsing.{begins_with_digit, has_needless_zero, BeginsTooBig, IsAfterRanks, IsRankThen, IsRefused, LacksStop, RankDueAt}
use Rattle.ped_path.specs.Laws.{RefusalsAreUnique, WritesTooBig, Breaks, number_of, place_of, LeastRuleIsReported}
use Rattle.ped_path.specs.declared.parse.PedTextError.{PedTextError}
use Rattle.ped_path.specs.declared.parse.PedTextError.TheVariants.{Empty, BadByte, Zeros, TooBig, TooLong, Memory}
use Rattle.ped_path.proofs.ParseLemmas.{digit_passes, no_needless_zero, numerals}

-- Digits before

digit_ends : (d : ℕ) (more xs : List ℕ) → digit_value d < 10 → begins_with_digit xs ≡ false → xs ≡ d ∷ more → ⊥
digit_ends d more xs small none e =
    let no : is_ascii_digit d ≡ false = subst (λ z. begins_with_digit z ≡ false) e none in
    let yes : is_ascii_digit d ≡ true = digit_passes d (digit_from_value d small) in cc

-- digits with no digit after them
front_one : (ds es xs ys : List ℕ) → AllDigits 10 ds → AllDigits 10 es → begins_with_digit xs ≡ false → begins_with_digit ys ≡ false → ds ++ xs ≡ es ++ ys → (ds ≡ es) × (xs ≡ ys)
front_one [] [] xs ys a b f g e = (refl, e)
front_one [] (c ∷ es) xs ys a b f g e = absurd (digit_ends c (es ++ ys) xs b.0 f e)
front_one (d ∷ ds) [] xs ys a b f g e = absurd (digit_ends d (ds ++ xs) ys a.0 g (sym e))
front_one (d ∷ ds) (c ∷ es) xs ys a b f g e =
    let same : d ≡ c = cc in
    let more : ds ++ xs ≡ es ++ ys = cc in
    let r = front_one ds es xs ys a.1 b.1 f g more in
    let digits : ds ≡ es = r.0 in
    let here : ◌≡◌ {A = List ℕ} (d ∷ ds) (c ∷ es) = cc in (here, r.1)

-- some of them
front_within : (ds es xs ys : List ℕ) → AllDigits 10 ds → begins_with_digit ys ≡ false → ds ++ xs ≡ es ++ ys → (more : List ℕ) × (es ≡ ds ++ more)
front_within [] es xs ys a g e = (es, refl)
front_within (d ∷ ds) [] xs ys a g e = absurd (digit_ends d (ds ++ xs) ys a.0 g (sym e))
front_within (d ∷ ds) (c ∷ es) xs ys a g e =
    let same : d ≡ c = cc in
    let more : ds ++ xs ≡ es ++ ys = cc in
    let r = front_within ds es xs ys a.1 g more in
    let digits : es ≡ ds ++ r.0 = r.1 in
    let here : ◌≡◌ {A = List ℕ} (c ∷ es) (d ∷ (ds ++ r.0)) = cc in (r.0, here)

first_digit : (ds after : List ℕ) → AllDigits 10 ds → 0 < length ds → begins_with_digit (ds ++ after) ≡ true
first_digit [] after a some = absurd (omega arith)
first_digit (d ∷ ds) after a some = digit_passes d (digit_from_value d a.0)

rank_digits : (r : ℕ) → IsRank r → AllDigits 10 (decimal r)
rank_digits r bounded = digits_decimal numerals r (omega arith)

needed : (r : ℕ) → IsRank r → 1 < length (decimal r) → get_or (decimal r) 0 0 ≢ 48
needed zero bounded long = let one : length (decimal 0) ≡ 1 = ap length (decimal_digit 0 (omega arith)) in absurd (omega (arith, one, long))
needed (suc n) bounded long = λ e. let above = first_decimal (suc n) (omega arith) (omega arith) in omega (arith, e, above)

-- A rank before

module _ (x : List ℕ) (r : ℕ) (b : List ℕ) (s : IsRankThen x r b) where
  pub rank_once : (q : ℕ) (c : List ℕ) → IsRankThen x q c → (r ≡ q) × (b ≡ c)
  rank_once q c t =
      let f = front_one (decimal r) (decimal q) b c (rank_digits r s.bounded) (rank_digits q t.bounded) s.ended t.ended (sym s.split ∙ t.split) in
      let low : r < 2 ^ 32 = s.bounded in
      let high : q < 2 ^ 32 = t.bounded in (decimal_injective r q (omega arith) (omega arith) f.0, f.1)

  rank_some : 0 < length (decimal r)
  rank_some = let low : r < 2 ^ 32 = s.bounded in decimal_nonempty r (omega arith)

  ranked_digit : begins_with_digit x ≡ true
  ranked_digit = ap begins_with_digit s.split ∙ first_digit (decimal r) b (rank_digits r s.bounded) rank_some

  ranked_plain : has_needless_zero x ≡ false
  ranked_plain = ap has_needless_zero s.split ∙ no_needless_zero (decimal r) b rank_some (needed r s.bounded) s.ended

  ranked_small : WritesTooBig x → ⊥
  ranked_small w =
      let low : r < 2 ^ 32 = s.bounded in
      let f = front_within w.digits (decimal r) w.after b w.numeral s.ended (sym w.split ∙ s.split) in
      let part : digits_value 10 (take (length w.digits) (w.digits ++ f.0)) ≤ digits_value 10 (w.digits ++ f.0) = digits_value-take-le 10 (w.digits ++ f.0) (length w.digits) (omega arith) in
      let front : digits_value 10 (take (length w.digits) (w.digits ++ f.0)) ≡ digits_value 10 w.digits = ap (digits_value 10) (take-append_seam w.digits f.0) in
      let whole : digits_value 10 (decimal r) ≡ digits_value 10 (w.digits ++ f.0) = ap (digits_value 10) f.1 in
      let value : digits_value 10 (decimal r) ≡ r = digits_value-decimal numerals r (omega arith) in
      let big : 2 ^ 32 ≤ digits_value 10 w.digits = w.big in omega arith

big_some : (ds : List ℕ) → 2 ^ 32 ≤ digits_value 10 ds → 0 < length ds
big_some [] big = absurd (omega arith)
big_some (d ∷ ds) big = omega arith

big_digit : (x : List ℕ) → WritesTooBig x → begins_with_digit x ≡ true
big_digit x w = ap begins_with_digit w.split ∙ first_digit w.digits w.after w.numeral (big_some w.digits w.big)

both : (a b : Bool) → (a && b) ≡ true → (a ≡ true) × (b ≡ true)
both true b e = (refl, e)
both false b e = cc

zero_digit : (x : List ℕ) → has_needless_zero x ≡ true → begins_with_digit x ≡ true
zero_digit [] e = cc
zero_digit (c ∷ cs) e = let is : c ≡ 48 = eqb-true c 48 (both (eqb c 48) (begins_with_digit cs) e).0 in subst (λ z. is_ascii_digit z ≡ true) (sym is) refl

-- What is wrong at a place

abbrev Wrong : PedTextError → ℕ → List ℕ → Type 0
Wrong (BadByte k) at x = ((k ≡ at) × (begins_with_digit x ≡ false)) ⊎ LacksStop at k x
Wrong (Zeros k) at x = (k ≡ at) × (has_needless_zero x ≡ true)
Wrong (TooBig k) at x = (k ≡ at) × WritesTooBig x
Wrong Empty at x = ⊥
Wrong TooLong at x = ⊥
Wrong Memory at x = ⊥

-- and what is told of it
abbrev Told : PedTextError → ℕ → List ℕ → Type 0
Told (BadByte k) at x = ((k ≡ at) × (begins_with_digit x ≡ false)) ⊎ LacksStop at k x
Told (Zeros k) at x = (k ≡ at) × (has_needless_zero x ≡ true)
Told (TooBig k) at x = (k ≡ at) × BeginsTooBig x
Told Empty at x = ⊥
Told TooLong at x = ⊥
Told Memory at x = ⊥

-- no rank stands here with a full stop after it
abbrev Stuck : List ℕ → Type 0
Stuck x = (r : ℕ) (b : List ℕ) → IsRankThen x r (46 ∷ b) → ⊥

writes : (x : List ℕ) → BeginsTooBig x → WritesTooBig x
writes x w = record { digits = w.digits; after = w.after; split = w.split; numeral = w.numeral; big = w.big }

no_both : (b : Bool) → b ≡ true → b ≡ false → ⊥
no_both b e f = cc

no_stop : (x : List ℕ) (at k : ℕ) → LacksStop at k x → Stuck x
no_stop x at k l r b s = let same = (rank_once x l.rank (l.byte ∷ l.after) l.first r (46 ∷ b) s).1 in let other : l.byte ≡ 46 = cc in l.other other

wrong_stuck : (e : PedTextError) (at : ℕ) (x : List ℕ) → Wrong e at x → Stuck x
wrong_stuck (BadByte k) at x (inl w) r b s = no_both _ (ranked_digit x r (46 ∷ b) s) w.1
wrong_stuck (BadByte k) at x (inr l) r b s = no_stop x at k l r b s
wrong_stuck (Zeros k) at x w r b s = no_both _ w.1 (ranked_plain x r (46 ∷ b) s)
wrong_stuck (TooBig k) at x w r b s = ranked_small x r (46 ∷ b) s w.1
wrong_stuck Empty at x w r b s = w
wrong_stuck TooLong at x w r b s = w
wrong_stuck Memory at x w r b s = w

told_wrong : (e : PedTextError) (at : ℕ) (x : List ℕ) → Told e at x → Wrong e at x
told_wrong (BadByte k) at x w = w
told_wrong (Zeros k) at x w = w
told_wrong (TooBig k) at x w = (w.0, writes x w.1)
told_wrong Empty at x w = w
told_wrong TooLong at x w = w
told_wrong Memory at x w = w

-- the rule that is told, or a greater one
abbrev Among : PedTextError → PedTextError → Type 0
Among e f = (e ≡ f) ⊎ ((k : ℕ) × (e ≡ Zeros k) × (f ≡ TooBig k))

two_bad : (k j at : ℕ) (x : List ℕ) → Wrong (BadByte k) at x → Wrong (BadByte j) at x → ◌≡◌ {A = PedTextError} (BadByte k) (BadByte j)
two_bad k j at x (inl a) (inl b) = ap BadByte (a.0 ∙ sym b.0)
two_bad k j at x (inl a) (inr b) = absurd (no_both _ (ranked_digit x b.rank (b.byte ∷ b.after) b.first) a.1)
two_bad k j at x (inr a) (inl b) = absurd (no_both _ (ranked_digit x a.rank (a.byte ∷ a.after) a.first) b.1)
two_bad k j at x (inr a) (inr b) =
    let same = (rank_once x a.rank (a.byte ∷ a.after) a.first b.rank (b.byte ∷ b.after) b.first).0 in
    ap BadByte (a.place ∙ ap (λ r. at + length (decimal r)) same ∙ sym b.place)

bad_alone : (k at : ℕ) (x : List ℕ) → Wrong (BadByte k) at x → begins_with_digit x ≡ true → (has_needless_zero x ≡ true) ⊎ WritesTooBig x → ⊥
bad_alone k at x (inl a) d w = no_both _ d a.1
bad_alone k at x (inr a) d (inl z) = no_both _ z (ranked_plain x a.rank (a.byte ∷ a.after) a.first)
bad_alone k at x (inr a) d (inr w) = ranked_small x a.rank (a.byte ∷ a.after) a.first w

one_told : (e f : PedTextError) (at : ℕ) (x : List ℕ) → Told e at x → Wrong f at x → Among e f
one_told (BadByte k) (BadByte j) at x a b = inl (two_bad k j at x a b)
one_told (BadByte k) (Zeros j) at x a b = absurd (bad_alone k at x a (zero_digit x b.1) (inl b.1))
one_told (BadByte k) (TooBig j) at x a b = absurd (bad_alone k at x a (big_digit x b.1) (inr b.1))
one_told (Zeros k) (BadByte j) at x a b = absurd (bad_alone j at x b (zero_digit x a.1) (inl a.1))
one_told (Zeros k) (Zeros j) at x a b = inl (ap Zeros (a.0 ∙ sym b.0))
one_told (Zeros k) (TooBig j) at x a b = inr (k, refl, ap TooBig (b.0 ∙ sym a.0))
one_told (TooBig k) (BadByte j) at x a b = absurd (bad_alone j at x b (big_digit x (writes x a.1)) (inr (writes x a.1)))
one_told (TooBig k) (Zeros j) at x a b = absurd (no_both _ b.1 a.1.needed)
one_told (TooBig k) (TooBig j) at x a b = inl (ap TooBig (a.0 ∙ sym b.0))
one_told Empty f at x a b = absurd a
one_told TooLong f at x a b = absurd a
one_told Memory f at x a b = absurd a
one_told e Empty at x a b = absurd b
one_told e TooLong at x a b = absurd b
one_told e Memory at x a b = absurd b

-- Where it stands

regroup : (a b c : List ℕ) → ((a ++ codes ".") ++ b) ++ c ≡ a ++ 46 ∷ (b ++ c)
regroup a b c = simp append_assoc

goes_on : (r : ℕ) (q y : List ℕ) → IsRank r → IsRankThen (stopped (r ∷ q) ++ y) r (46 ∷ (stopped q ++ y))
goes_on r q y bounded = record { bounded = bounded; split = regroup (decimal r) (stopped q) y; ended = refl }

-- Two fronts of a text, where the first can't go on: they are one, or the first is the longer one.
met : (p q x y : List ℕ) → All IsRank p → All IsRank q → stopped p ++ x ≡ stopped q ++ y → Stuck x → ((p ≡ q) × (x ≡ y)) ⊎ ((length q < length p) × (Stuck y → ⊥))
met [] [] x y a b e s = inl (refl, e)
met [] (r ∷ q) x y a b e s = absurd (s r (stopped q ++ y) (subst (λ z. IsRankThen z r (46 ∷ (stopped q ++ y))) (sym e) (goes_on r q y (All-head IsRank r q b))))
met (r ∷ p) [] x y a b e s =
    inr (omega arith, λ stuck. stuck r (stopped p ++ x) (subst (λ z. IsRankThen z r (46 ∷ (stopped p ++ x))) e (goes_on r p x (All-head IsRank r p a))))
met (r ∷ p) (t ∷ q) x y a b e s =
    let here = goes_on r p x (All-head IsRank r p a) in
    let there : IsRankThen (stopped (r ∷ p) ++ x) t (46 ∷ (stopped q ++ y)) = subst (λ z. IsRankThen z t (46 ∷ (stopped q ++ y))) (sym e) (goes_on t q y (All-head IsRank t q b)) in
    let same = rank_once (stopped (r ∷ p) ++ x) r (46 ∷ (stopped p ++ x)) here t (46 ∷ (stopped q ++ y)) there in
    let after = same.1 in
    let more : stopped p ++ x ≡ stopped q ++ y = cc in
    later same.0 (met p q x y (All-tail IsRank r p a) (All-tail IsRank t q b) more s)
  where
    later : r ≡ t → ((p ≡ q) × (x ≡ y)) ⊎ ((length q < length p) × (Stuck y → ⊥)) → ((r ∷ p ≡ t ∷ q) × (x ≡ y)) ⊎ ((length (t ∷ q) < length (r ∷ p)) × (Stuck y → ⊥))
    later f (inl h) = let g : p ≡ q = h.0 in let whole : ◌≡◌ {A = List ℕ} (r ∷ p) (t ∷ q) = cc in inl (whole, h.1)
    later f (inr h) = let l : length q < length p = h.0 in inr (omega arith, h.1)

record Found (P : ℕ → List ℕ → Type 0) (text : List ℕ) : Type 0 where
  count : ℕ
  at : ℕ
  rest : List ℕ
  few : count < 512
  front : IsAfterRanks text count at rest
  what : P at rest

stand : (P : ℕ → List ℕ → Type 0) (text : List ℕ) (at : ℕ) (Q : List ℕ → Type 0) → RankDueAt text at Q → ((x : List ℕ) → Q x → P at x) → Found P text
stand P text at Q s f = record { count = s.count; at = at; rest = s.rest; few = s.few; front = s.front; what = f s.rest s.here }

at_one : (text : List ℕ) (P Q : ℕ → List ℕ → Type 0) → ((at : ℕ) (x : List ℕ) → P at x → Stuck x) → ((at : ℕ) (x : List ℕ) → Q at x → Stuck x) →
    Found P text → Found Q text → (at : ℕ) × (x : List ℕ) × P at x × Q at x
at_one text P Q ps qs f g =
    let p = f.front in
    let q = g.front in
    go (met p.ranks q.ranks f.rest g.rest p.bounded q.bounded (sym p.whole ∙ q.whole) (ps f.at f.rest f.what))
  where
    go : ((f.front.ranks ≡ g.front.ranks) × (f.rest ≡ g.rest)) ⊎ ((length g.front.ranks < length f.front.ranks) × (Stuck g.rest → ⊥)) → (at : ℕ) × (x : List ℕ) × P at x × Q at x
    go (inl h) =
        let same : g.at ≡ f.at = g.front.offset ∙ ap (λ z. length (stopped z)) (sym h.0) ∙ sym f.front.offset in
        (f.at, f.rest, f.what, subst (λ z. Q z f.rest) same (subst (Q g.at) (sym h.1) g.what))
    go (inr h) = absurd (h.1 (qs g.at g.rest g.what))

never_long : (text : List ℕ) (P : ℕ → List ℕ → Type 0) → ((at : ℕ) (x : List ℕ) → P at x → Stuck x) → Found P text → (at : ℕ) (rest : List ℕ) → IsAfterRanks text 512 at rest → ⊥
never_long text P ps f at rest q =
    let p = f.front in
    go (met p.ranks q.ranks f.rest rest p.bounded q.bounded (sym p.whole ∙ q.whole) (ps f.at f.rest f.what))
  where
    fewer : length f.front.ranks < length q.ranks
    fewer = let a : length f.front.ranks ≡ f.count = f.front.counted in let b : length q.ranks ≡ 512 = q.counted in let c : f.count < 512 = f.few in omega arith

    go : ((f.front.ranks ≡ q.ranks) × (f.rest ≡ rest)) ⊎ ((length q.ranks < length f.front.ranks) × (Stuck rest → ⊥)) → ⊥
    go (inl h) = let e = ap length h.0 in omega (arith, e, fewer)
    go (inr h) = let l = h.0 in omega (arith, l, fewer)

after_nothing : (xs ys : List ℕ) → xs ++ ys ≡ [] → ys ≡ []
after_nothing [] ys e = e
after_nothing (x ∷ xs) ys e = cc

long_some : (p y : List ℕ) → 0 < length p → stopped p ++ y ≡ [] → ⊥
long_some [] y some e = absurd (omega arith)
long_some (r ∷ p) y some e = let f = after_nothing (decimal r) (46 ∷ (stopped p ++ y)) (sym (regroup (decimal r) (stopped p) y) ∙ e) in cc

some_of : (text : List ℕ) (at : ℕ) (Q : List ℕ → Type 0) → RankDueAt text at Q → ((x : List ℕ) → Q x → begins_with_digit x ≡ true) → text ≢ []
some_of text at Q s f = λ e.
    let none = after_nothing (stopped s.front.ranks) s.rest (sym s.front.whole ∙ e) in
    no_both (begins_with_digit s.rest) (f s.rest s.here) (ap begins_with_digit none)

data View (P : PedTextError → ℕ → List ℕ → Type 0) (text : List ℕ) (e : PedTextError) : Type 0 where
  empty : e ≡ Empty → text ≡ [] → View P text e
  long : e ≡ TooLong → (at : ℕ) (rest : List ℕ) → IsAfterRanks text 512 at rest → View P text e
  found : text ≢ [] → Found (P e) text → View P text e

bad : (text : List ℕ) (k : ℕ) → RankDueAt text k (λ rest. begins_with_digit rest ≡ false) ⊎ ((start : ℕ) × RankDueAt text start (LacksStop start k)) → Found (Wrong (BadByte k)) text
bad text k (inl s) = stand (Wrong (BadByte k)) text k _ s (λ x h. inl (refl, h))
bad text k (inr s) = stand (Wrong (BadByte k)) text s.0 _ s.1 (λ x h. inr h)

told : (text : List ℕ) (e : PedTextError) → e ≢ Memory → IsRefused text e → View Told text e
told text Empty m r = empty refl r
told text (BadByte k) m r = found r.0 (bad text k r.1)
told text (Zeros k) m r = found (some_of text k _ r zero_digit) (stand (Told (Zeros k)) text k _ r (λ x h. (refl, h)))
told text (TooBig k) m r = found (some_of text k _ r (λ x w. big_digit x (writes x w))) (stand (Told (TooBig k)) text k _ r (λ x h. (refl, h)))
told text TooLong m r = long refl r.0 r.1 r.2
told text Memory m r = absurd (m refl)

broken : (text : List ℕ) (e : PedTextError) → e ≢ Memory → Breaks text e → View Wrong text e
broken text Empty m r = empty refl r
broken text (BadByte k) m r = found r.0 (bad text k r.1)
broken text (Zeros k) m r = found (some_of text k _ r zero_digit) (stand (Wrong (Zeros k)) text k _ r (λ x h. (refl, h)))
broken text (TooBig k) m r = found (some_of text k _ r big_digit) (stand (Wrong (TooBig k)) text k _ r (λ x h. (refl, h)))
broken text TooLong m r = long refl r.0 r.1 r.2
broken text Memory m r = absurd (m refl)

among : (text : List ℕ) (e f : PedTextError) → View Told text e → View Wrong text f → Among e f
among text e f (empty a b) (empty c d) = inl (a ∙ sym c)
among text e f (empty a b) (long c at rest q) = absurd (long_some q.ranks rest (let n = q.counted in omega (arith, n)) (sym q.whole ∙ b))
among text e f (empty a b) (found n g) = absurd (n b)
among text e f (long a at rest p) (empty c d) = absurd (long_some p.ranks rest (let n = p.counted in omega (arith, n)) (sym p.whole ∙ d))
among text e f (long a at rest p) (long c at' rest' q) = inl (a ∙ sym c)
among text e f (long a at rest p) (found n g) = absurd (never_long text (Wrong f) (wrong_stuck f) g at rest p)
among text e f (found n g) (empty c d) = absurd (n d)
among text e f (found n g) (long c at rest q) = absurd (never_long text (Told e) (λ k x h. wrong_stuck e k x (told_wrong e k x h)) g at rest q)
among text e f (found n g) (found m h) =
    let r = at_one text (Told e) (Wrong f) (λ k x w. wrong_stuck e k x (told_wrong e k x w)) (wrong_stuck f) g h in one_told e f r.0 r.1 r.2 r.3

refused_breaks : (text : List ℕ) (e : PedTextError) → IsRefused text e → Breaks text e
refused_breaks text Empty r = r
refused_breaks text (BadByte k) r = r
refused_breaks text (Zeros k) r = r
refused_breaks text (TooBig k) r = record { count = r.count; rest = r.rest; few = r.few; front = r.front; here = writes r.rest r.here }
refused_breaks text TooLong r = r
refused_breaks text Memory r = r

pub refusals_unique : RefusalsAreUnique
refusals_unique text e f m n r s =
    go (among text e f (told text e m r) (broken text f n (refused_breaks text f s))) (among text f e (told text f n s) (broken text e m (refused_breaks text e r)))
  where
    go : Among e f → Among f e → e ≡ f
    go (inl a) b = a
    go (inr a) (inl b) = sym b
    go (inr a) (inr b) = let x = a.1 in let y = b.2 in cc

pub least_rule : LeastRuleIsReported
least_rule text e f m n r s = go (among text e f (told text e m r) (broken text f n s))
  where
    go : Among e f → (place_of e ≡ place_of f) × (number_of e ≤ number_of f)
    go (inl a) = let k = ap number_of a in (ap place_of a, omega (arith, k))
    go (inr a) =
        let k : number_of e ≡ 3 = ap number_of a.1 in
        let j : number_of f ≡ 4 = ap number_of a.2 in (ap place_of a.1 ∙ sym (ap place_of a.2), omega (arith, k, j))
