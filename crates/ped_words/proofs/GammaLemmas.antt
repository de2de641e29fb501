-- Which lists of numbers make coefficients of a depth.
use Rattle.std.proofs.Common.{◌≡◌, ℕ, ◌+◌, ◌-◌, ◌%◌, ◌<◌, ◌≤◌, ◌↔◌, replicate, Bool, true, false, ◌&&◌, not, leb, Option, Some, None, Result, Ok, Err, List, length, refl, ap, sym, ◌∙◌, subst, arith, length-append}
use Rattle.std.specs.Prelude.{is_some, position, unwrap_or}
use Rattle.std.specs.Option.{option_map}
use Rattle.std.proofs.lemmas.Bool.Decides.{nat_tests}
use Rattle.std.proofs.lemmas.List.{length-replicate}
use Rattle.std.proofs.lemmas.List.FromFn.{length-map-range_with_len}
use Rattle.dotmix.specs.Draws.{modulus}
use Rattle.dotmix.specs.Words.{coefficients, seed_word}
use Rattle.dotmix.specs.GammaState.{is_too_big, padded, IsFirstTooBig}
use Rattle.dotmix.specs.declared.gamma.GammaError.{GammaError}
use Rattle.dotmix.specs.declared.gamma.GammaError.TheVariants.{TooMany, TooBig, Memory}
use Rattle.serial_meaning.specs.Plan.{IsPlan}
use Rattle.serial_meaning.specs.declared.plan.Limits.{Limits}
use Rattle.ped_words.specs.Commands.{IsBatch}
use Rattle.ped_words.specs.Numbers.{are_few}
use Rattle.ped_words.specs.Table.{value_type_of, most_seeds}
use Rattle.ped_words.specs.Making.{gamma_error, gamma_fits, gamma_from, command_gamma, holds_for, is_gamma, range_error}
use Rattle.ped_words.specs.Rules.{breaks, IsRefusal}
use Rattle.ped_words.specs.Given.{HasCount, IsIndexedList}
use Rattle.ped_words.specs.Values.{IsInRange, OptionValues, number_value}
use Rattle.ped_words.specs.declared.rule.Rule.TheVariants.{OutOfRange}
use Rattle.ped_words.specs.declared.rule.WordError.{WordError}
use Rattle.ped_words.specs.declared.table.OptionName.TheVariants as name

leb_true : (m n : ℕ) → (n < m → ⊥) → leb m n ≡ true
leb_true m n le = grind (arith, nat_tests)

leb_false : (m n : ℕ) → n < m → leb m n ≡ false
leb_false m n lt = grind (arith, nat_tests)

no_place : (o : Option ℕ) → ((i : ℕ) → o ≡ Some i → ⊥) → not (is_some o) ≡ true
no_place None none = refl
no_place (Some i) none = absurd (none i refl)

and_false : (b : Bool) → (b && false) ≡ false
and_false true = refl
and_false false = refl

-- what the clauses of `of_list` say of its result
pub record Judged (list : List ℕ) (depth : ℕ) (result : Result (List ℕ) GammaError) : Type 0 where
  pub too_many : (result ≡ Err TooMany) ↔ (depth < length list)
  pub too_big : (i : ℕ) → (result ≡ Err (TooBig i)) ↔ IsFirstTooBig list depth i

is_gamma_ok : (list gamma : List ℕ) (depth : ℕ) → Judged list depth (Ok gamma) → is_gamma list depth ≡ true
is_gamma_ok list gamma depth j =
    let few : leb (length list) depth ≡ true = leb_true (length list) depth (λ lt. cc (j.too_many.1 lt)) in
    let small : not (is_some (position is_too_big list)) ≡ true =
    no_place (position is_too_big list) (λ i e. cc ((j.too_big i).1 (leb_le few, e)))
    in ap (λ b. b && not (is_some (position is_too_big list))) few ∙ small
  where
    leb_le : leb (length list) depth ≡ true → length list ≤ depth
    leb_le few = grind (arith, nat_tests)

is_gamma_err : (list : List ℕ) (depth : ℕ) (error : GammaError) → (error ≡ Memory → ⊥) → Judged list depth (Err error) → is_gamma list depth ≡ false
is_gamma_err list depth TooMany other j = ap (λ b. b && not (is_some (position is_too_big list))) (leb_false (length list) depth (j.too_many.0 refl))
is_gamma_err list depth (TooBig i) other j =
    ap (λ o. leb (length list) depth && not (is_some o)) (((j.too_big i).0 refl).1) ∙ and_false (leb (length list) depth)
is_gamma_err list depth Memory other j = absurd (other refl)

-- what the list that is given for coefficients shows
module _ (values : OptionValues) (given : List ℕ) (at depth : ℕ) (placed : IsIndexedList values name.Gamma (Some (given, at))) where
  fits_by : (b : Bool) → is_gamma given depth ≡ b → gamma_fits values depth ≡ b
  fits_by b fits = ap (holds_for (λ g. is_gamma g depth)) placed.0 ∙ fits

  pub gamma_ok : (gamma : List ℕ) → Judged given depth (Ok gamma) → gamma ≡ padded given depth → (gamma ≡ command_gamma values depth) × (gamma_fits values depth ≡ true)
  gamma_ok gamma j made = (made ∙ sym (ap (λ g. gamma_from g (unwrap_or (number_value values name.Seed) 0) depth) placed.0), fits_by true (is_gamma_ok given gamma depth j))

  pub gamma_err : (error : GammaError) (e : WordError) → Judged given depth (Err error) → e ≡ gamma_error error at → IsRefusal (range_error values name.Gamma (gamma_fits values depth)) e
  gamma_err error e j is = subst (λ (x : WordError). IsRefusal (range_error values name.Gamma (gamma_fits values depth)) x) (sym is) (at_error error j)
    where
      broken : (error : GammaError) → (error ≡ Memory → ⊥) → Judged given depth (Err error) → range_error values name.Gamma (gamma_fits values depth) ≡ Some (breaks OutOfRange at)
      broken error other j = ap (range_error values name.Gamma) (fits_by false (is_gamma_err given depth error other j)) ∙ ap (option_map (λ i. breaks OutOfRange i)) placed.1

      at_error : (error : GammaError) → Judged given depth (Err error) → IsRefusal (range_error values name.Gamma (gamma_fits values depth)) (gamma_error error at)
      at_error TooMany j = broken TooMany (λ h. cc h) j
      at_error (TooBig i) j = broken (TooBig i) (λ h. cc h) j
      at_error Memory j = tt

-- Without a list the seed's coefficients fit.
pub seed_ok : (values : OptionValues) (depth seed : ℕ) (gamma : List ℕ) → IsIndexedList values name.Gamma None → seed ≡ unwrap_or (number_value values name.Seed) 0 → gamma ≡ coefficients seed depth → (gamma ≡ command_gamma values depth) × (gamma_fits values depth ≡ true)
seed_ok values depth seed gamma none is made =
    (made ∙ ap (λ s. coefficients s depth) is ∙ sym (ap (λ g. gamma_from g (unwrap_or (number_value values name.Seed) 0) depth) none), ap (holds_for (λ g. is_gamma g depth)) none)

pub gamma_long : (list gamma : List ℕ) (depth : ℕ) → Judged list depth (Ok gamma) → gamma ≡ padded list depth → length gamma ≡ depth
gamma_long list gamma depth j made =
    let few : depth < length list → ⊥ = λ lt. cc (j.too_many.1 lt) in
    let long : length (padded list depth) ≡ length list + (depth - length list) =
    length-append list (replicate (depth - length list) 0) ∙ ap (λ n. length list + n) (length-replicate (depth - length list) 0)
    in ap length made ∙ long ∙ omega (arith, few)

pub seed_long : (seed depth : ℕ) → length (coefficients seed depth) ≡ depth
seed_long seed depth = length-map-range_with_len (λ i. seed_word seed i % modulus) 1 depth

-- Each seed gives coefficients for a plan.
seeds_plan : (limits : Limits) (rounds : ℕ) → IsInRange (value_type_of name.Depth) limits.depth → IsInRange (value_type_of name.Budget) limits.budget → IsInRange (value_type_of name.Rounds) rounds → (seed : ℕ) → IsPlan (coefficients seed limits.depth) limits rounds
seeds_plan limits rounds depth budget few seed =
    record { coefficients = seed_long seed limits.depth; some_depth = depth.0; depth_limit = depth.1; some_step = budget.0; rounds_limit = few.1 }

few_seeds : (n : ℕ) → are_few (Some most_seeds) n ≡ true → n ≤ most_seeds
few_seeds n few = grind (arith, nat_tests)

-- Seeds that aren't too many, and what their runs have in common, make a batch.
pub batch_within : (seeds : List ℕ) (limits : Limits) (rounds : ℕ) → HasCount (value_type_of name.Seeds) (length seeds) → IsInRange (value_type_of name.Depth) limits.depth → IsInRange (value_type_of name.Budget) limits.budget → IsInRange (value_type_of name.Rounds) rounds → IsBatch seeds limits rounds
batch_within seeds limits rounds count depth budget mixed = record { some = count.0; few = few_seeds (length seeds) count.1; plans = seeds_plan limits rounds depth budget mixed }
