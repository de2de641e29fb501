-- A stream goes on, and so do its lines and what a sink took of them.
use Rattle.std.proofs.Common.{◌≡◌, ℕ, ◌+◌, ◌-◌, ◌<◌, ◌≤◌, Option, Some, None, Result, Ok, Err, List, [], ◌∷◌, ◌++◌, length, take, drop, map, flat_map, refl, sym, ap, ◌∙◌, subst, append_assoc, length-append, append-nil, arith}
use Rattle.std.specs.Prelude.{OnErr}
use Rattle.std.proofs.KnownBytes.{Appends-trans}
use Rattle.std.proofs.Math.Seq.{take-append-add}
use Rattle.std.proofs.lemmas.Grind.{flat_map-append}
use Rattle.std.proofs.lemmas.List.{length-take, map-append, take-append-le}
use Rattle.dotmix.specs.Draws.{dotmix}
use Rattle.bulk_draw.specs.Streams.{last_rank, later, path_of_pedigree, stream}
use Rattle.bulk_draw.proofs.StreamLemmas.{last_rank-after, later-after, path-after, range-split}
use Rattle.ped_io.specs.Streams.{Appends, AppendsFront}
use Rattle.draw_lines.specs.Lines.{CanDraw, later_stream, lines_of, number_line, each_modulo}
use Rattle.draw_lines.specs.declared.stream.Stream.{Stream}

later-later : (j : List ℕ) (m i : ℕ) → later (later j m) i ≡ later j (m + i)
later-later j m i = later-after (path_of_pedigree j) (last_rank j + m) i ∙ ap (λ n. path_of_pedigree j ++ n ∷ []) (omega arith)

stream-append : (gamma j : List ℕ) (m n rounds : ℕ) → stream gamma j (m + n) rounds ≡ stream gamma j m rounds ++ stream gamma (later j m) n rounds
stream-append gamma j m n rounds =
    range-split (λ i. dotmix gamma (later j i) rounds) (λ i. dotmix gamma (later (later j m) i) rounds) m n (λ i. ap (λ q. dotmix gamma q rounds) (sym (later-later j m i)))

reduced-append : (below : Option ℕ) (xs ys : List ℕ) → each_modulo below (xs ++ ys) ≡ each_modulo below xs ++ each_modulo below ys
reduced-append None xs ys = refl
reduced-append (Some m) xs ys = map-append _ xs ys

-- some numbers, and then the others
lines-append : (s : Stream) (m n : ℕ) → lines_of s (m + n) ≡ lines_of s m ++ lines_of (later_stream s m) n
lines-append s m n =
    ap (λ xs. flat_map number_line (each_modulo s.below xs)) (stream-append s.gamma s.at m n s.rounds) ∙ ap (flat_map number_line) (reduced-append s.below (stream s.gamma s.at m s.rounds) (stream s.gamma (later s.at m) n s.rounds)) ∙ flat_map-append number_line (each_modulo s.below (stream s.gamma s.at m s.rounds)) (each_modulo s.below (stream s.gamma (later s.at m) n s.rounds))

can_go_on : (s : Stream) (m n : ℕ) → CanDraw s (m + n) → CanDraw (later_stream s m) n
can_go_on s m n can =
    let long : length (later s.at m) ≡ length (path_of_pedigree s.at) + 1 = length-append (path_of_pedigree s.at) ((last_rank s.at + m) ∷ []) in
    let short : length (path_of_pedigree s.at) ≤ length s.at - 1 = rw (length-take (length s.at - 1) s.at) (omega arith) in
    let rank = last_rank-after (path_of_pedigree s.at) (last_rank s.at + m) in
    let enough = can.ranks in
    let before = can.within in
    record { within = omega (arith, long, short, before); rounds = can.rounds; ranks = omega (arith, rank, enough); below = can.below }

-- ---- a sink that took some lines goes on

module _ (a b c : Option (List ℕ)) (front xs rest whole : List ℕ) (taken : Appends a b front) (split : whole ≡ front ++ (xs ++ rest)) where
  front_more : AppendsFront b c xs → AppendsFront a c whole
  front_more (n, le, more) =
      let cut : take (length front + n) whole ≡ front ++ take n xs = ap (take (length front + n)) split ∙ take-append-add front (xs ++ rest) n ∙ ap (λ l. front ++ l) (take-append-le n xs rest le) in
      let long : length whole ≡ length front + (length xs + length rest) = ap length split ∙ length-append front (xs ++ rest) ∙ ap (λ k. length front + k) (length-append xs rest) in
      (length front + n, omega (arith, long, le), subst (Appends a c) (sym cut) (Appends-trans a b c front (take n xs) taken more))

-- A sink took the first lines of a whole, and the stream goes on with so many others.
abbrev pub Going : Option (List ℕ) → Option (List ℕ) → List ℕ → Stream → ℕ → Type 0
Going a b whole s left = (front : List ℕ) × Appends a b front × (whole ≡ front ++ lines_of s left)

module _ (a b c : Option (List ℕ)) (whole : List ℕ) (s : Stream) (left n m : ℕ) (parts : n + m ≡ left) where
  lines_split : lines_of s left ≡ lines_of s n ++ lines_of (later_stream s n) m
  lines_split = ap (lines_of s) (sym parts) ∙ lines-append s n m

  pub goes_on : (next : Stream) → next ≡ later_stream s n → Going a b whole s left → Appends b c (lines_of s n) → Going a c whole next m
  goes_on next is (front, taken, split) more = (
    front ++ lines_of s n,
    Appends-trans a b c front (lines_of s n) taken more,
    split ∙ ap (λ l. front ++ l) lines_split ∙ sym (append_assoc front (lines_of s n) (lines_of (later_stream s n) m)) ∙ ap (λ t. (front ++ lines_of s n) ++ lines_of t m) (sym is),
  )

  pub can_still : (next : Stream) → next ≡ later_stream s n → CanDraw s left → CanDraw next m
  can_still next is can =
      let P : Stream → Type 0 = λ t. CanDraw t m in
      let Q : ℕ → Type 0 = λ k. CanDraw s k in
      subst P (sym is) (can_go_on s n m (subst Q (sym parts) can))

  pub front_of : Going a b whole s left → AppendsFront b c (lines_of s n) → AppendsFront a c whole
  front_of (front, taken, split) more = front_more a b c front (lines_of s n) (lines_of (later_stream s n) m) whole taken (split ∙ ap (λ l. front ++ l) lines_split) more

pub on_err : {E : Type 0} (P : Type 0) (r : Result (Unit {0}) E) → P → OnErr r P
on_err {E} P (Ok u) p = tt
on_err {E} P (Err e) p = p

-- the last lines, by what the write of them answered
pub front_then : (a b c : Option (List ℕ)) (whole : List ℕ) (s : Stream) (left n : ℕ) {E : Type 0} (r : Result (Unit {0}) E) → OnErr r (AppendsFront b c (lines_of s n)) → left ≡ n → Going a b whole s left → OnErr r (AppendsFront a c whole)
front_then a b c whole s left n {E} (Ok u) more all going = tt
front_then a b c whole s left n {E} (Err e) more all (front, taken, split) =
    front_more a b c front (lines_of s n) [] whole taken (split ∙ ap (λ k. front ++ lines_of s k) all ∙ ap (λ l. front ++ l) (sym (append-nil (lines_of s n)))) more
