-- Coefficients beyond a pedigree's ranks take no part in its draw.
use Rattle.std.proofs.Common.{◌≡◌, ℕ, ◌≤◌, ◌+◌, ◌-◌, ◌*◌, ◌%◌, List, [], ◌∷◌, ◌++◌, length, length-append, take, drop, take-append-drop, append_assoc, refl, sym, subst, ap, ◌∙◌, arith}
use Rattle.std.specs.Prelude.{replicate, sum_by}
use Rattle.std.specs.List.{zip}
use Rattle.std.proofs.lemmas.List.{length-replicate, replicate-append-replicate}
use Rattle.std.proofs.lemmas.List.FromFn.{length-map-range_with_len, take-map-range_with_len}
use Rattle.dotmix.specs.Draws.{dotmix, mix, modulus}
use Rattle.dotmix.specs.GammaState.{padded}
use Rattle.dotmix.specs.Words.{coefficients, seed_word}
use Rattle.dotmix.specs.Laws.{LongerDrawAlike, ListsDrawAlike, SeedsDrawAlike}
use Rattle.dotmix.proofs.ProductLemmas.{zip-none}

zip-longer : (gamma more j : List ℕ) → length j ≤ length gamma → zip {X = ℕ} (gamma ++ more) j ≡ zip gamma j
zip-longer [] more [] h = zip-none more
zip-longer [] more (r ∷ j) h = absurd (omega arith)
zip-longer (c ∷ gamma) more [] h = refl
zip-longer (c ∷ gamma) more (r ∷ j) h = ap (λ ts. (c, r) ∷ ts) (zip-longer gamma more j (omega arith))

pub longer_draw_alike : LongerDrawAlike
longer_draw_alike gamma more j rounds h =
    ap (λ (ts : List (ℕ × ℕ)). mix (sum_by (λ (t : ℕ × ℕ). t.0 * (t.1 + 1)) ts % modulus) rounds) (zip-longer gamma more j h)

-- the greater is the lesser and more after it
alike : (greater lesser more : List ℕ) (depth : ℕ) → lesser ++ more ≡ greater → depth ≤ length lesser → (j : List ℕ) (rounds : ℕ) → length j ≤ depth → dotmix greater j rounds ≡ dotmix lesser j rounds
alike greater lesser more depth e long j rounds h =
    let P : List ℕ → Type 0 = λ l. dotmix l j rounds ≡ dotmix lesser j rounds in
    subst P e (longer_draw_alike lesser more j rounds (omega (arith, long, h)))

pub seeds_draw_alike : SeedsDrawAlike
seeds_draw_alike seed depth greater le =
    let word : ℕ → ℕ = λ i. seed_word seed i % modulus in
    let front : take depth (coefficients seed greater) ≡ coefficients seed depth = take-map-range_with_len word 1 greater depth le in
    let more : List ℕ = drop depth (coefficients seed greater) in
    let whole : coefficients seed depth ++ more ≡ coefficients seed greater = ap (λ l. l ++ more) (sym front) ∙ take-append-drop depth (coefficients seed greater) in
    alike (coefficients seed greater) (coefficients seed depth) more depth whole (let long : length (coefficients seed depth) ≡ depth = length-map-range_with_len word 1 depth in omega (arith, long))

more-zeros : (list : List ℕ) (zeros others : ℕ) → (list ++ replicate zeros 0) ++ replicate others 0 ≡ list ++ replicate (zeros + others) 0
more-zeros list zeros others = append_assoc list (replicate zeros 0) (replicate others 0) ∙ ap (λ l. list ++ l) (replicate-append-replicate zeros others 0)

long-enough : (list : List ℕ) (depth : ℕ) → depth ≤ length (padded list depth)
long-enough list depth = simp (length-append, length-replicate) (omega arith)

pub lists_draw_alike : ListsDrawAlike
lists_draw_alike list depth greater le =
    let zeros : ℕ = depth - length list in
    let others : ℕ = greater - length list - zeros in
    let count : zeros + others ≡ greater - length list = omega arith in
    alike (padded list greater) (padded list depth) (replicate others 0) depth (more-zeros list zeros others ∙ ap (λ n. list ++ replicate n 0) count) (long-enough list depth)
