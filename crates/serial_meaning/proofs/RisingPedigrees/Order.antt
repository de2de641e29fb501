-- The order of pedigrees that begin with the same path.
use Rattle.std.proofs.Common.{◌≡◌, ℕ, ◌<◌, List, [], ◌∷◌, ◌++◌, refl, sym, ap, ◌∙◌}
use Rattle.std.specs.Cmp.{nat_cmp_is}
use Rattle.std.specs.Cmp.Lexicographic.{slice_cmp}
use Rattle.std.specs.Ordering.{nat_cmp, ordering_then, ordering_reverse}
use Rattle.std.specs.declared.cmp.Ordering.{Ordering}
use Rattle.std.specs.declared.cmp.Ordering.TheVariants.{Less, Equal, Greater}
use Rattle.std.proofs.lemmas.Cmp.{nat_list_cmp_total}
use Rattle.ped_path.specs.Path.{IsBefore}

abbrev cmp : List ℕ → List ℕ → Ordering
cmp = slice_cmp nat_cmp

nat_cmp-same : (n : ℕ) → nat_cmp n n ≡ Equal
nat_cmp-same n = sym (nat_cmp_is n n Equal refl)

nat_cmp-less : (j k : ℕ) → j < k → nat_cmp j k ≡ Less
nat_cmp-less j k h = sym (nat_cmp_is j k Less h)

-- what stands before both doesn't matter
slice_cmp-after : (path xs ys : List ℕ) → cmp (path ++ xs) (path ++ ys) ≡ cmp xs ys
slice_cmp-after [] xs ys = refl
slice_cmp-after (r ∷ path) xs ys =
    ap (λ o. ordering_then o (cmp (path ++ xs) (path ++ ys))) (nat_cmp-same r) ∙ slice_cmp-after path xs ys

-- The first ranks that differ decide.
pub before-by_rank : (path : List ℕ) (j k : ℕ) (xs ys : List ℕ) → j < k → IsBefore (path ++ j ∷ xs) (path ++ k ∷ ys)
before-by_rank path j k xs ys h =
    slice_cmp-after path (j ∷ xs) (k ∷ ys) ∙ ap (λ o. ordering_then o (cmp xs ys)) (nat_cmp-less j k h)

-- A proper prefix stands first.
pub before-prefix : (xs : List ℕ) (y : ℕ) (ys : List ℕ) → IsBefore xs (xs ++ y ∷ ys)
before-prefix [] y ys = refl
before-prefix (x ∷ xs) y ys = ap (λ o. ordering_then o (cmp xs (xs ++ y ∷ ys))) (nat_cmp-same x) ∙ before-prefix xs y ys

different : (o : Ordering) → o ≡ Less → o ≡ ordering_reverse o → ⊥
different Less h e = let g : Less ≡ Greater = e in absurd (cc)
different Equal h e = absurd (cc)
different Greater h e = absurd (cc)

pub not_before_itself : (j : List ℕ) → IsBefore j j → ⊥
not_before_itself j h = different (cmp j j) h (nat_list_cmp_total.antisymm j j)

reversed : (o p : Ordering) → o ≡ ordering_reverse p → p ≡ Less → o ≡ Less → ⊥
reversed o Less e h g = let k : o ≡ Greater = e in absurd (cc)
reversed o Equal e h g = absurd (cc)
reversed o Greater e h g = absurd (cc)

-- Of two pedigrees at most one is before the other.
pub not_before-back : (j k : List ℕ) → IsBefore j k → IsBefore k j → ⊥
not_before-back j k h g = reversed (cmp k j) (cmp j k) (nat_list_cmp_total.antisymm k j) h g

-- What is before a pedigree is before all that the pedigree is before.
pub before-before : (i j k : List ℕ) → IsBefore i j → IsBefore j k → IsBefore i k
before-before i j k h g = nat_list_cmp_total.trans i j k h g
