-- One worker's change, where the code made it in place.
use Rattle.std.proofs.Common.{◌≡◌, ℕ, zero, suc, ◌<◌, ◌≤◌, Bool, true, false, ◌&&◌, not, nat_eq, List, [], ◌∷◌, Option, Some, None, Result, Ok, Err, OnOk, slice_get, slice_index_or, slice_set, length, map, refl, sym, ap, ◌∙◌, arith}
use Rattle.std.proofs.lemmas.Bool.Decides.{Decides-eqb}
use Rattle.std.proofs.lemmas.Bool.{false≢true}
use Rattle.std.proofs.lemmas.Option.{slice_get_past, slice_get_within}
use Rattle.sched_meaning.specs.Core as machine
use Rattle.sched_core.specs.Cores.{worker_of}
use Rattle.sched_core.specs.Moves.{WorkerChanges}
use Rattle.sched_core.specs.Workers.{WorkerView}
use Rattle.sched_core.proofs.Worked.Lists.{get-map-none}

pub first-true : (a b : Bool) → (a && b) ≡ true → a ≡ true
first-true true b h = refl
first-true false b h = absurd (cc)

pub second-true : (a b : Bool) → (a && b) ≡ true → b ≡ true
second-true true b h = h
second-true false b h = absurd (cc)

pub two-numbers : (n m : ℕ) → not (nat_eq n m) ≡ true → n ≡ m → ⊥
two-numbers n m h e = let same : nat_eq n m ≡ true = (Decides-eqb n m).1 e in let both : false ≡ true = sym (ap not same) ∙ h in absurd (cc)

-- a worker of whom something is true is one
pub is-below : (test : Option machine.Worker → Bool) → test None ≡ false → (ws : List WorkerView) (n : ℕ) → test (slice_get (map worker_of ws) n) ≡ true → n < length ws
is-below test none_not ws n h = by_get (slice_get ws n) refl
  where
    by_get : (o : Option WorkerView) → slice_get ws n ≡ o → n < length ws
    by_get None e = absurd (false≢true (sym none_not ∙ ap test (sym (get-map-none worker_of ws n e)) ∙ h))
    by_get (Some v) e = slice_get_within ws n v e

pub get-at : {A : Type 0} (xs : List A) (n : ℕ) (x : A) → x ≡ slice_index_or xs n x → n < length xs → slice_get xs n ≡ Some x
get-at [] n x e h = absurd (omega arith)
get-at (y ∷ xs) zero x e h = ap (λ z. Some z) (sym e)
get-at (y ∷ xs) (suc n) x e h = get-at xs n x e (omega arith)

-- the same of a slice of the list, as `get` tells of it
pub seen-at : {A : Type 0} (xs seen : List A) (n : ℕ) (x : A) → seen ≡ xs → n < length seen → x ≡ slice_index_or seen n x → slice_get xs n ≡ Some x
seen-at xs seen n x e h g = ap (λ l. slice_get l n) (sym e) ∙ get-at seen n x g h

pub seen-past : {A : Type 0} (xs seen : List A) (n : ℕ) → seen ≡ xs → length seen ≤ n → slice_get xs n ≡ None
seen-past xs seen n e h = ap (λ l. slice_get l n) (sym e) ∙ slice_get_past seen n h

pub change-at : (n : ℕ) (R : WorkerView → WorkerView → Type 0) (ws : List WorkerView) (v after : WorkerView) → v ≡ slice_index_or ws n v → n < length ws → R v after → WorkerChanges n R ws (slice_set ws n after)
change-at n R ws v after e h does = record { worker = v; after = after; there = get-at ws n v e h; does = does; next_is = refl }

-- what follows from what a call left, where it answered `Ok`
pub on-ok : {T E P Q : Type 0} (r : Result T E) → (P → Q) → OnOk r P → OnOk r Q
on-ok (Ok x) f h = f h
on-ok (Err e) f h = tt
