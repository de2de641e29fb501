-- What the length of a gap counts is a list of blanks and comments.
use Rattle.std.proofs.Common.{◌≡◌, ◌≢◌, ℕ, suc, ◌≤◌, Bool, true, false, not, ◌&&◌, nat_lt, eqb, if◌then◌else◌, List, [], ◌∷◌, ◌++◌, length, take, drop, refl, ap, ◌∙◌, subst, arith}
use Rattle.std.specs.List.{list_all}
use Rattle.std.proofs.lemmas.Bool.{eqb-true}
use Rattle.std.proofs.lemmas.Bool.Decides.{nat_tests}
use Rattle.script_tokens.specs.Lexing.{is_blank, gap_length, comment_length}
use Rattle.script_text.specs.Laws.{is_comment_byte, EndsComment, IsGap, nothing, blank, comment, BeginsNoGap, GapsAreBlanksAndComments}

record Gap (bytes : List ℕ) (n : ℕ) : Type 0 where
  within : n ≤ length bytes
  list : IsGap (take n bytes) (drop n bytes)
  ends : BeginsNoGap (drop n bytes)

-- the rest of a comment, and the gap after it
record Comment (bytes : List ℕ) (n : ℕ) : Type 0 where
  text : List ℕ
  gap : List ℕ
  split : take n bytes ≡ text ++ gap
  plain : list_all is_comment_byte text ≡ true
  stops : EndsComment (gap ++ drop n bytes)
  within : n ≤ length bytes
  list : IsGap gap (drop n bytes)
  ends : BeginsNoGap (drop n bytes)

and_false : (b : Bool) → (b && false) ≡ false
and_false true = refl
and_false false = refl

other : (b : ℕ) → eqb b 35 ≡ false → b ≢ 35
other b e = λ f. let g : eqb b 35 ≡ true = ap (λ z. eqb z 35) f in cc

no_blank : (b : ℕ) → nat_lt b 128 ≡ false → is_blank b ≡ false
no_blank b e = grind (arith, nat_tests)

no_hash : (b : ℕ) → nat_lt b 128 ≡ false → b ≢ 35
no_hash b e = λ f. let g : nat_lt b 128 ≡ true = ap (λ z. nat_lt z 128) f in cc

line_feed : (b : ℕ) → b ≡ 10 → is_blank b ≡ true
line_feed b e = ap is_blank e

module _ (b : ℕ) (bs : List ℕ) (g : Gap bs (gap_length bs)) (c : Comment bs (comment_length bs)) where
  gap_step : Gap (b ∷ bs) (gap_length (b ∷ bs))
  gap_step = go (is_blank b) (eqb b 35) refl refl
    where
      go : (x y : Bool) → is_blank b ≡ x → eqb b 35 ≡ y → Gap (b ∷ bs) (if x then suc (gap_length bs) else if y then suc (comment_length bs) else 0)
      go true y e f = let w = g.within in record { within = omega (arith, w); list = blank e g.list; ends = g.ends }
      go false true e f =
          let w = c.within in
          let is : b ≡ 35 = eqb-true b 35 f in
          let split = c.split in
          let same : ◌≡◌ {A = List ℕ} (35 ∷ (c.text ++ c.gap)) (b ∷ take (comment_length bs) bs) = cc in
          record { within = omega (arith, w); list = subst (λ z. IsGap z (drop (comment_length bs) bs)) same (comment c.text c.plain c.stops c.list); ends = c.ends }
      go false false e f = record { within = omega arith; list = nothing; ends = (e, other b f) }

  comment_step : Comment (b ∷ bs) (comment_length (b ∷ bs))
  comment_step = go (eqb b 10) (nat_lt b 128) refl refl
    where
      go : (x y : Bool) → eqb b 10 ≡ x → nat_lt b 128 ≡ y → Comment (b ∷ bs) (if x then suc (gap_length bs) else if y then suc (comment_length bs) else 0)
      go true y e f = let w = g.within in record {
        text = [];
        gap = b ∷ take (gap_length bs) bs;
        split = refl;
        plain = refl;
        stops = ap (λ z. nat_lt b 128 && not z) e ∙ and_false (nat_lt b 128);
        within = omega (arith, w);
        list = blank (line_feed b (eqb-true b 10 e)) g.list;
        ends = g.ends;
      }
      go false true e f = let w = c.within in record {
        text = b ∷ c.text;
        gap = c.gap;
        split = ap (λ z. b ∷ z) c.split;
        plain = ap (λ z. (z && not (eqb b 10)) && list_all is_comment_byte c.text) f ∙ ap (λ z. not z && list_all is_comment_byte c.text) e ∙ c.plain;
        stops = c.stops;
        within = omega (arith, w);
        list = c.list;
        ends = c.ends;
      }
      go false false e f = record {
        text = [];
        gap = [];
        split = refl;
        plain = refl;
        stops = ap (λ z. z && not (eqb b 10)) f;
        within = omega arith;
        list = nothing;
        ends = (no_blank b f, no_hash b f);
      }

mutual
  gaps : (bytes : List ℕ) → Gap bytes (gap_length bytes)
  gaps [] = record { within = omega arith; list = nothing; ends = tt }
  gaps (b ∷ bs) = gap_step b bs (gaps bs) (comments bs)

  comments : (bytes : List ℕ) → Comment bytes (comment_length bytes)
  comments [] = record { text = []; gap = []; split = refl; plain = refl; stops = tt; within = omega arith; list = nothing; ends = tt }
  comments (b ∷ bs) = comment_step b bs (gaps bs) (comments bs)

pub gaps_are_lists : GapsAreBlanksAndComments
gaps_are_lists bytes = let g = gaps bytes in (g.within, g.list, g.ends)
