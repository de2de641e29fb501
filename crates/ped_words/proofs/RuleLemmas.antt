-- The first rule that is broken.
use Rattle.std.proofs.Common.{◌≡◌, ℕ, zero, suc, ◌+◌, ◌<◌, Option, Some, None, ap, sym, ◌∙◌, subst, arith, add-one, inl, inr}
use Rattle.std.specs.Option.{option_or}
use Rattle.std.proofs.lemmas.Bool.{cases_lt}
use Rattle.ped_words.specs.Judging.{first_below}
use Rattle.ped_words.specs.Rules.{breaks, broken_at, IsRefusal}
use Rattle.ped_words.specs.declared.rule.Rule.{Rule}
use Rattle.ped_words.specs.declared.rule.WordError.{WordError}
use Rattle.ped_words.specs.declared.rule.WordError.TheVariants.{Bad, Memory}

pub refused_by : (at : ℕ) (broken : Option Rule) (rule : Rule) (e : WordError) → broken ≡ Some rule → e ≡ breaks rule at → IsRefusal (broken_at at broken) e
refused_by at broken rule e is_broken is =
    subst (λ (x : WordError). IsRefusal (broken_at at broken) x) (sym is) (ap (λ b. broken_at at b) is_broken)

pub refused_as : (broken other : Option WordError) (e : WordError) → broken ≡ other → IsRefusal other e → IsRefusal broken e
refused_as broken other e same refused = subst (λ (b : Option WordError). IsRefusal b e) (sym same) refused

pub none_more : (f : ℕ → Option WordError) (k : ℕ) → first_below f k ≡ None → f k ≡ None → first_below f (k + 1) ≡ None
none_more f k before here = rw add-one (ap (λ b. option_or b (f k)) before ∙ here)

pub first_at : (f : ℕ → Option WordError) (k n : ℕ) (e : WordError) → k < n → first_below f k ≡ None → f k ≡ Some e → first_below f n ≡ Some e
first_at f k zero e lt before here = absurd (omega arith)
first_at f k (suc n) e lt before here =
    elim (cases_lt k n) [
      | inl below ↦ ap (λ b. option_or b (f n)) (first_at f k n e below before here)
      | inr above ↦
          let same : k ≡ n = omega arith in
          subst (λ (i : ℕ). option_or (first_below f i) (f i) ≡ Some e) same (ap (λ b. option_or b (f k)) before ∙ here)
    ]

pub refused_first : (f : ℕ → Option WordError) (k n : ℕ) (e : WordError) → k < n → first_below f k ≡ None → IsRefusal (f k) e → IsRefusal (first_below f n) e
refused_first f k n (Bad number at) lt before here = first_at f k n (Bad number at) lt before here
refused_first f k n Memory lt before here = tt
