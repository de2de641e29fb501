-- Chunks that follow chunks.
use Rattle.std.proofs.Common.{◌≡◌, ℕ, Option, zero, suc, ◌+◌, ◌-◌, ◌<◌, ◌≤◌, List, [], ◌∷◌, ◌++◌, length, drop, slice_get, get_or, refl, ap, sym, ◌∙◌, append_assoc, append-nil, add-one, drop-cons, arith}
use Rattle.std.proofs.Math.ListN.{drop_of_length-le}
use Rattle.serial_meaning.specs.declared.event.Event.{Event}
use Rattle.serial_meaning.specs.Chunks.{joined}

pub joined_append : (xs ys : List (List Event)) → joined (xs ++ ys) ≡ joined xs ++ joined ys
joined_append [] ys = refl
joined_append (x ∷ xs) ys = ap (λ l. x ++ l) (joined_append xs ys) ∙ sym (append_assoc x (joined xs) (joined ys))

-- The last chunk is closed, and others follow with a last one of their own.
pub joined_after : (old others : List (List Event)) (front : List Event) (last : List Event)
    → joined ((old ++ front ∷ []) ++ others) ++ last ≡ (joined old ++ front) ++ (joined others ++ last)
joined_after old others front last = simp (joined_append, append_assoc)

-- The last chunk is closed, and an empty one comes after it.
pub joined_next : (old : List (List Event)) (front : List Event) → joined (old ++ front ∷ []) ++ [] ≡ joined old ++ front
joined_next old front = simp (joined_append, append_assoc, append-nil)

pub slice_get-front : {X : Type 0} (xs ys : List X) (i : ℕ) → i < length xs → slice_get (xs ++ ys) i ≡ slice_get xs i
slice_get-front [] ys i h = absurd (omega arith)
slice_get-front (x ∷ xs) ys zero h = refl
slice_get-front (x ∷ xs) ys (suc i) h = slice_get-front xs ys i (omega arith)

pub slice_get-after : {X : Type 0} (xs ys : List X) (i : ℕ) → length xs ≤ i → slice_get (xs ++ ys) i ≡ slice_get ys (i - length xs)
slice_get-after [] ys i h = let e : i - 0 ≡ i = omega arith in rw e
slice_get-after (x ∷ xs) ys zero h = absurd (omega arith)
slice_get-after (x ∷ xs) ys (suc i) h =
    let e : suc i - suc (length xs) ≡ i - length xs = omega arith in rw e (slice_get-after xs ys i (omega arith))

-- The chunks from the k-th on are that one and those after it.
pub joined_at : (chunks : List (List Event)) (k : ℕ) (d : List Event) (last : List Event) → k < length chunks →
    joined (drop k chunks) ++ last ≡ (get_or chunks k d) ++ (joined (drop (k + 1) chunks) ++ last)
joined_at chunks k d last h =
    let e : drop k chunks ≡ get_or chunks k d ∷ drop (k + 1) chunks = rw add-one (drop-cons chunks k d h) in rw e (append_assoc (get_or chunks k d) (joined (drop (k + 1) chunks)) last)

-- what stands at a place counted from the k-th chunk on, where it is in that chunk
pub found_here : (o : Option Event) (chunks : List (List Event)) (k left : ℕ) (chunk : List Event) (last : List Event) → k < length chunks → chunk ≡ get_or chunks k chunk →
    o ≡ slice_get (joined (drop k chunks) ++ last) left → left < length chunk → o ≡ slice_get chunk left
found_here o chunks k left chunk last h is e small =
    let front : slice_get (chunk ++ (joined (drop (k + 1) chunks) ++ last)) left ≡ slice_get chunk left = slice_get-front chunk (joined (drop (k + 1) chunks) ++ last) left small in
    e ∙ ap (λ l. slice_get l left) (joined_at chunks k chunk last h ∙ ap (λ (s : List Event). s ++ (joined (drop (k + 1) chunks) ++ last)) (sym is)) ∙ front

-- and where it is after that chunk
pub found_later : (o : Option Event) (chunks : List (List Event)) (k left : ℕ) (chunk : List Event) (last : List Event) → k < length chunks → chunk ≡ get_or chunks k chunk →
    o ≡ slice_get (joined (drop k chunks) ++ last) left → length chunk ≤ left → o ≡ slice_get (joined (drop (k + 1) chunks) ++ last) (left - length chunk)
found_later o chunks k left chunk last h is e big =
    let after : slice_get (chunk ++ (joined (drop (k + 1) chunks) ++ last)) left ≡ slice_get (joined (drop (k + 1) chunks) ++ last) (left - length chunk) = slice_get-after chunk (joined (drop (k + 1) chunks) ++ last) left big in
    e ∙ ap (λ l. slice_get l left) (joined_at chunks k chunk last h ∙ ap (λ (s : List Event). s ++ (joined (drop (k + 1) chunks) ++ last)) (sym is)) ∙ after

-- After all full chunks stands the last one.
pub found_last : (o : Option Event) (chunks : List (List Event)) (k left : ℕ) (last : List Event) → length chunks ≤ k → o ≡ slice_get (joined (drop k chunks) ++ last) left → o ≡ slice_get last left
found_last o chunks k left last h e = let past : drop k chunks ≡ [] = drop_of_length-le chunks h in rw past at e
