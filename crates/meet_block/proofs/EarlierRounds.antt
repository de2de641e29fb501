-- A join whose first children only clauses know.
use Rattle.std.proofs.Common.{◌≡◌, ℕ, zero, suc, ◌+◌, ◌-◌, ◌≤◌, Bool, true, false, List, [], ◌∷◌, ◌++◌, length, set, sym, refl, ap, ◌∙◌, subst, arith, append-nil, length-append, length-set, Some, slice_get}
use Rattle.meet_block.specs.Counter.{untaken}
use Rattle.meet_block.specs.Joined.{Joined, joined_with}
use Rattle.meet_block.specs.Rounds.{all_taken, followed_by, Counts}
use Rattle.meet_block.proofs.Kept.{untaken_more, untaken_set}
use Rattle.meet_block.proofs.Orders.{at_of_get, same_known, set_right}

pub few_untaken : (bs : List Bool) → untaken bs ≤ length bs
few_untaken [] = omega arith
few_untaken (true ∷ bs) = omega (arith, few_untaken bs)
few_untaken (false ∷ bs) = omega (arith, few_untaken bs)

pub get_later : {A : Type 0} (xs ys : List A) (i : ℕ) → length xs ≤ i → slice_get (xs ++ ys) i ≡ slice_get ys (i - length xs)
get_later [] ys i le = ap (slice_get ys) (omega arith)
get_later (x ∷ xs) ys zero le = absurd (omega (arith, le))
get_later (x ∷ xs) ys (suc i) le = get_later xs ys i (omega (arith, le)) ∙ ap (slice_get ys) (omega arith)

module _ {T : Type 0} where
  -- with no value left, all were taken
  pub none_untaken : (ts : List T) (bs : List Bool) → length bs ≡ length ts → untaken bs ≡ 0 → bs ≡ all_taken ts
  none_untaken [] [] e z = refl
  none_untaken [] (b ∷ bs) e z = absurd (omega (arith, e))
  none_untaken (t ∷ ts) [] e z = absurd (omega (arith, e))
  none_untaken (t ∷ ts) (true ∷ bs) e z = ap (λ l. true ∷ l) (none_untaken ts bs (omega (arith, e)) z)
  none_untaken (t ∷ ts) (false ∷ bs) e z = absurd (omega (arith, z))

  all_append : (ts us : List T) → all_taken (ts ++ us) ≡ all_taken ts ++ all_taken us
  all_append [] us = refl
  all_append (t ∷ ts) us = ap (λ l. true ∷ l) (all_append ts us)

  -- what was not taken is no child of an earlier round
  pub is_later : (ts : List T) (bs : List Bool) (i : ℕ) → slice_get (all_taken ts ++ bs) i ≡ Some false → length ts ≤ i
  is_later [] bs i e = omega arith
  is_later (t ∷ ts) bs zero e = absurd (cc)
  is_later (t ∷ ts) bs (suc i) e = omega (arith, is_later ts bs i e)

  long_all : (ts : List T) → length (all_taken ts) ≡ length ts
  long_all [] = refl
  long_all (t ∷ ts) = ap suc (long_all ts)

  -- a value is taken of a later child
  get_taken : (ts : List T) (bs : List Bool) (i : ℕ) → slice_get (all_taken ts ++ bs) i ≡ Some false → slice_get bs (i - length ts) ≡ Some false
  get_taken [] bs i e = sym (ap (slice_get bs) (omega arith)) ∙ e
  get_taken (t ∷ ts) bs zero e = absurd (cc)
  get_taken (t ∷ ts) bs (suc i) e = sym (ap (slice_get bs) (omega arith)) ∙ get_taken ts bs i e

  -- one more child
  pub counts_more : (count more left : ℕ) (gone : List T) (was new : Joined T) (t : T) → more ≡ count + 1 → Counts count left gone was → new ≡ joined_with (was.tags ++ t ∷ []) (was.taken ++ false ∷ []) false was.loads → Counts more (left + 1) gone new
  counts_more count more left gone was new t e c is = subst (λ (j : Joined T). Counts more (left + 1) gone j) (sym is) record {
    children = omega (arith, e, c.children, length-append was.tags (t ∷ []));
    values = omega (arith, c.values, untaken_more was.taken);
    even = omega (arith, c.even, length-append was.tags (t ∷ []), length-append was.taken (false ∷ []));
  }

  -- one more value is taken, that of the child i of all, which is the child k of these
  pub left_taken : (ts : List T) (bs : List Bool) (i k : ℕ) → k + length ts ≡ i → slice_get (all_taken ts ++ bs) i ≡ Some false → slice_get bs k ≡ Some false
  left_taken ts bs i k e at = let same : i - length ts ≡ k = omega (arith, e) in ap (slice_get bs) (sym same) ∙ get_taken ts bs i at

  pub counts_taken : (count left : ℕ) (gone : List T) (was new : Joined T) (i k : ℕ) → k + length gone ≡ i → Counts count left gone was → slice_get (all_taken gone ++ was.taken) i ≡ Some false → new ≡ joined_with was.tags (set was.taken k true) true was.loads
      → Counts count (left - 1) gone new
  counts_taken count left gone was new i k e c at is = subst (λ (j : Joined T). Counts count (left - 1) gone j) (sym is) record {
    children = c.children;
    values = omega (arith, c.values, untaken_set was.taken k (at_of_get was.taken k false (left_taken gone was.taken i k e at)));
    even = omega (arith, c.even, length-set was.taken k true);
  }

  pub taken_later : (gone : List T) (loads : List ℕ) (was new : Joined T) (i k : ℕ) → k + length gone ≡ i → new ≡ joined_with was.tags (set was.taken k true) true was.loads
      → followed_by gone loads new ≡ joined_with (gone ++ was.tags) (set (all_taken gone ++ was.taken) i true) true (loads ++ was.loads)
  taken_later gone loads was new i k e is = ap (followed_by gone loads) is ∙ same_known refl (sym (set_right (all_taken gone) was.taken i k true (omega (arith, e, long_all gone)))) refl refl

  -- the first child of a round
  pub begins : (gone : List T) (loads : List ℕ) (was new : Joined T) (t : T) → length was.taken ≡ length was.tags → untaken was.taken ≡ 0 → new ≡ joined_with (t ∷ []) (false ∷ []) false []
      → followed_by (gone ++ was.tags) (loads ++ was.loads) new ≡ joined_with ((gone ++ was.tags) ++ t ∷ []) ((all_taken gone ++ was.taken) ++ false ∷ []) false (loads ++ was.loads)
  begins gone loads was new t even none is = ap (followed_by (gone ++ was.tags) (loads ++ was.loads)) is
      ∙ same_known refl (ap (λ l. l ++ false ∷ []) (all_append gone was.tags ∙ ap (λ l. all_taken gone ++ l) (sym (none_untaken was.tags was.taken even none)))) refl (append-nil (loads ++ was.loads))
