-- The choices of one kind, listed one after the other.
use Rattle.std.proofs.Common.{◌≡◌, ℕ, ◌+◌, Bool, cond, List, [], ◌∷◌, ◌++◌, Option, Some, None, length, map, filter, flat_map, refl, sym, ap, ◌∙◌, append_assoc, arith}
use Rattle.std.proofs.lemmas.List.FromFn.{filter_of_map_range_with_len_more, length-range_with_len, map-range_with_len_more}
use Rattle.std.specs.List.{range_with_len}
use Rattle.sched_meaning.specs.Core.{Core, Worker}
use Rattle.sched_meaning.specs.Simulation.{is_progress, stalled_places}
use Rattle.sched_meaning.specs.declared.event.CoreEvent.{CoreEvent}

append-none : {A : Type 0} (xs : List A) → xs ++ [] ≡ xs
append-none [] = refl
append-none (x ∷ xs) = ap (λ l. x ∷ l) (append-none xs)

flat-end : {A B : Type 0} (g : A → List B) (xs : List A) (y : A) → flat_map g (xs ++ y ∷ []) ≡ flat_map g xs ++ g y
flat-end g [] y = append-none (g y)
flat-end g (x ∷ xs) y = ap (λ l. g x ++ l) (flat-end g xs y) ∙ sym (append_assoc (g x) (flat_map g xs) (g y))

map-same : {A : Type 0} (xs : List A) → map (λ x. x) xs ≡ xs
map-same [] = refl
map-same (x ∷ xs) = ap (λ l. x ∷ l) (map-same xs)

range-more : (n : ℕ) → range_with_len 0 (n + 1) ≡ range_with_len 0 n ++ n ∷ []
range-more n = sym (map-same (range_with_len 0 (n + 1))) ∙ map-range_with_len_more (λ (x : ℕ). x) 0 n n (omega arith) ∙ ap (λ l. l ++ n ∷ []) (map-same (range_with_len 0 n))

-- with one number more
pub add-many : (g : ℕ → List CoreEvent) (all now next : List CoreEvent) (n : ℕ) → now ≡ all ++ flat_map g (range_with_len 0 n) → next ≡ now ++ g n → next ≡ all ++ flat_map g (range_with_len 0 (n + 1))
add-many g all now next n h e =
    e ∙ ap (λ l. l ++ g n) h ∙ append_assoc all (flat_map g (range_with_len 0 n)) (g n) ∙ ap (λ l. all ++ l) (sym (ap (flat_map g) (range-more n) ∙ flat-end g (range_with_len 0 n) n))

pub add-one : (c : Core) (f : ℕ → CoreEvent) (all now next : List CoreEvent) (n : ℕ) (test : Bool) → now ≡ all ++ filter (is_progress c) (map f (range_with_len 0 n)) → test ≡ is_progress c (f n) →
    next ≡ now ++ cond test (f n ∷ []) [] → next ≡ all ++ filter (is_progress c) (map f (range_with_len 0 (n + 1)))
add-one c f all now next n test h t e =
    e ∙ ap (λ b. now ++ cond b (f n ∷ []) []) t ∙ ap (λ l. l ++ cond (is_progress c (f n)) (f n ∷ []) []) h ∙ append_assoc all (filter (is_progress c) (map f (range_with_len 0 n))) (cond (is_progress c (f n)) (f n ∷ []) [])
    ∙ ap (λ l. all ++ l) (sym (filter_of_map_range_with_len_more (is_progress c) f 0 n n (omega arith)))

-- the indexes of the stalled tasks are as many numbers from 0
pub places-range : (o : Option Worker) → range_with_len 0 (length (stalled_places o)) ≡ stalled_places o
places-range None = refl
places-range (Some w) = ap (range_with_len 0) (length-range_with_len 0 (length w.stalled))

pub places-of : (o : Option Worker) (w : Worker) → o ≡ Some w → length (stalled_places o) ≡ length w.stalled
places-of o w e = ap (λ x. length (stalled_places x)) e ∙ length-range_with_len 0 (length w.stalled)

pub places-none : (o : Option Worker) → o ≡ None → 0 ≡ length (stalled_places o)
places-none o e = ap (λ x. length (stalled_places x)) (sym e)
