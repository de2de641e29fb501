-- The test of two origins is true exactly where they are equal.
use Rattle.std.proofs.Common.{◌≡◌, ℕ, Bool, false, ◌&&◌, nat_eq, List, [], ◌∷◌, refl, ap, Decides, int_eq}
use Rattle.std.proofs.lemmas.Bool.Decides.{Decides-and, Decides-like, Decides-eqb, Decides-int_eq}
use Rattle.loop_range.specs.Range.{Range}
use Rattle.serial_meaning.specs.declared.value.Value.{Value}
use Rattle.serial_meaning.specs.declared.value.Value.TheVariants.{Int, Id}
use Rattle.serial_meaning.specs.declared.origin.Origin.{Origin}
use Rattle.serial_meaning.specs.declared.origin.Origin.TheVariants.{Instance, Loop}
use Rattle.sched_meaning.specs.Same.{same_list, same_value, same_range, same_origin}

never : {P : Type 0} → (P → ⊥) → Decides false P
never n = (λ e. absurd (cc), λ p. absurd (n p))

same-list : {A : Type 0} (same : A → A → Bool) → ((x y : A) → Decides (same x y) (x ≡ y)) → (xs ys : List A) → Decides (same_list same xs ys) (xs ≡ ys)
same-list same d [] [] = (λ e. refl, λ e. refl)
same-list same d [] (y ∷ ys) = never (λ e. absurd (cc))
same-list same d (x ∷ xs) [] = never (λ e. absurd (cc))
same-list same d (x ∷ xs) (y ∷ ys) = Decides-like (same x y && same_list same xs ys) both parts (Decides-and (same x y) (same_list same xs ys) (d x y) (same-list same d xs ys))
  where
    both : (x ≡ y) × (xs ≡ ys) → x ∷ xs ≡ y ∷ ys
    both h = let p = h.0 in let q = h.1 in cc

    parts : x ∷ xs ≡ y ∷ ys → (x ≡ y) × (xs ≡ ys)
    parts h = (cc, cc)

same-ranks : (p q : List ℕ) → Decides (same_list nat_eq p q) (p ≡ q)
same-ranks p q = same-list nat_eq Decides-eqb p q

same-value : (v w : Value) → Decides (same_value v w) (v ≡ w)
same-value (Int n) (Int m) = Decides-like (int_eq n m) (λ h. ap (λ k. Int k) h) (λ h. cc) (Decides-int_eq n m)
same-value (Int n) (Id q) = never (λ e. absurd (cc))
same-value (Id p) (Int m) = never (λ e. absurd (cc))
same-value (Id p) (Id q) = Decides-like (same_list nat_eq p q) (λ h. ap (λ k. Id k) h) (λ h. cc) (same-ranks p q)

same-values : (vs ws : List Value) → Decides (same_list same_value vs ws) (vs ≡ ws)
same-values vs ws = same-list same_value same-value vs ws

same-range : (r s : Range) → Decides (same_range r s) (r ≡ s)
same-range r s = Decides-like (same_range r s) (λ h i. record { lo = h.0 i; hi = h.1 i }) (λ h. (ap (λ (x : Range). x.lo) h, ap (λ (x : Range). x.hi) h)) (Decides-and (nat_eq r.lo s.lo) (nat_eq r.hi s.hi) (Decides-eqb r.lo s.lo) (Decides-eqb r.hi s.hi))

pub same-origin : (a b : Origin) → Decides (same_origin a b) (a ≡ b)
same-origin (Instance f args p) (Instance g more q) =
    Decides-like (nat_eq f g && (same_list same_value args more && same_list nat_eq p q)) both parts
    (Decides-and (nat_eq f g) (same_list same_value args more && same_list nat_eq p q) (Decides-eqb f g) (Decides-and (same_list same_value args more) (same_list nat_eq p q) (same-values args more) (same-ranks p q)))
  where
    both : (f ≡ g) × ((args ≡ more) × (p ≡ q)) → Instance f args p ≡ Instance g more q
    both h = λ i. Instance (h.0 i) (h.1.0 i) (h.1.1 i)

    parts : Instance f args p ≡ Instance g more q → (f ≡ g) × ((args ≡ more) × (p ≡ q))
    parts h = (cc, (cc, cc))
same-origin (Instance f args p) (Loop g rest first q s) = never (λ e. absurd (cc))
same-origin (Loop f rest first p r) (Instance g more q) = never (λ e. absurd (cc))
same-origin (Loop f rest first p r) (Loop g more other q s) =
    Decides-like (nat_eq f g && (same_list same_value rest more && (int_eq first other && (same_list nat_eq p q && same_range r s)))) both parts
    (Decides-and (nat_eq f g) _ (Decides-eqb f g)
    (Decides-and (same_list same_value rest more) _ (same-values rest more)
    (Decides-and (int_eq first other) _ (Decides-int_eq first other) (Decides-and (same_list nat_eq p q) (same_range r s) (same-ranks p q) (same-range r s)))))
  where
    both : (f ≡ g) × ((rest ≡ more) × ((first ≡ other) × ((p ≡ q) × (r ≡ s)))) → Loop f rest first p r ≡ Loop g more other q s
    both h = λ i. Loop (h.0 i) (h.1.0 i) (h.1.1.0 i) (h.1.1.1.0 i) (h.1.1.1.1 i)

    parts : Loop f rest first p r ≡ Loop g more other q s → (f ≡ g) × ((rest ≡ more) × ((first ≡ other) × ((p ≡ q) × (r ≡ s))))
    parts h = (cc, (cc, (cc, (cc, cc))))
