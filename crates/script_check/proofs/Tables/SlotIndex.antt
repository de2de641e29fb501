-- The index of the names of a function's variables, one name after another.
use Rattle.std.proofs.Common.{◌≡◌, ℕ, suc, ◌+◌, ◌<◌, ◌≤◌, Bool, true, false, not, cond, List, [], ◌∷◌, ◌++◌, length, take, get_or, Option, Some, None, refl, sym, ap, ◌∙◌, ⊎_elim, length-append, arith}
use Rattle.std.proofs.lemmas.List.{length-take-le, take_more}
use Rattle.std.specs.Prelude.{is_some, nat_lt, option_map, if◌then◌else◌}
use Rattle.std.specs.List.{position_or_len}
use Rattle.std.specs.Str.{bytes_eq}
use Rattle.std.specs.Cmp.Lexicographic.{bytes_decides}
use Rattle.std.proofs.lemmas.Bool.{cases_Bool, cases_lt, cond-true, cond-false, le-ltb, lt-ltb, true≢false}
use Rattle.script_check.specs.Slots.{slot_in, with_new_name}
use Rattle.script_check.specs.Tables.{Table, no_entries, with_first}
use Rattle.script_check.specs.Walk.{IsSlotIndex}
use Rattle.script_check.proofs.Tables.Indexed.{or_else}

-- the first of these names, or its slot among the others
pub slot-cons : (y : List ℕ) (ys : List (List ℕ)) (q : List ℕ) → slot_in (y ∷ ys) q ≡ (if bytes_eq y q then Some 0 else option_map suc (slot_in ys q))
slot-cons y ys q = by (bytes_eq y q) (position_or_len (λ other. bytes_eq other q) ys) (length ys)
  where
    shift : (n m : ℕ) → nat_lt (1 + n) (suc m) ≡ nat_lt n m
    shift n m = ⊎_elim (λ h. lt-ltb (1 + n) (suc m) (omega (arith, h)) ∙ sym (lt-ltb n m h)) (λ h. le-ltb (1 + n) (suc m) (omega (arith, h)) ∙ sym (le-ltb n m h)) (cases_lt n m)

    later : (n m : ℕ) (b : Bool) → nat_lt n m ≡ b → cond (nat_lt (1 + n) (suc m)) (Some (1 + n)) None ≡ option_map suc (cond b (Some n) None)
    later n m true e = cond-true (nat_lt (1 + n) (suc m)) (Some (1 + n)) None (shift n m ∙ e) ∙ ap (λ (k : ℕ). Some k) (omega arith)
    later n m false e = cond-false (nat_lt (1 + n) (suc m)) (Some (1 + n)) None (shift n m ∙ e)

    by : (b : Bool) (n m : ℕ) → cond (nat_lt (cond (not b) (1 + n) 0) (suc m)) (Some (cond (not b) (1 + n) 0)) None ≡ cond b (Some 0) (option_map suc (cond (nat_lt n m) (Some n) None))
    by true n m = cond-true (nat_lt 0 (suc m)) (Some 0) None (lt-ltb 0 (suc m) (omega arith))
    by false n m = later n m (nat_lt n m) refl

-- the first of a name where one more stands after the others
pub slot-snoc : (ys : List (List ℕ)) (y q : List ℕ) → slot_in (ys ++ y ∷ []) q ≡ or_else (slot_in ys q) (if bytes_eq y q then Some (length ys) else None)
slot-snoc [] y q = slot-cons y [] q ∙ alone (bytes_eq y q)
  where
    alone : (b : Bool) → cond b (Some 0) (option_map suc (slot_in [] q)) ≡ or_else None (cond b (Some 0) None)
    alone true = refl
    alone false = refl
slot-snoc (z ∷ ys) y q = slot-cons z (ys ++ y ∷ []) q ∙ after (bytes_eq z q) (slot-snoc ys y q) ∙ ap (λ o. or_else o (if bytes_eq y q then Some (length (z ∷ ys)) else None)) (sym (slot-cons z ys q))
  where
    later : (o : Option ℕ) (b : Bool) → option_map suc (or_else o (cond b (Some (length ys)) None)) ≡ or_else (option_map suc o) (cond b (Some (length (z ∷ ys))) None)
    later None true = refl
    later None false = refl
    later (Some k) b = refl

    after : (b : Bool) → slot_in (ys ++ y ∷ []) q ≡ or_else (slot_in ys q) (if bytes_eq y q then Some (length ys) else None) →
        cond b (Some 0) (option_map suc (slot_in (ys ++ y ∷ []) q)) ≡ or_else (cond b (Some 0) (option_map suc (slot_in ys q))) (cond (bytes_eq y q) (Some (length (z ∷ ys))) None)
    after true h = refl
    after false h = ap (option_map suc) h ∙ later (slot_in ys q) (bytes_eq y q)

indexed : (ys : List (List ℕ)) (x : List ℕ) (table : Table ℕ) → IsSlotIndex ys table → IsSlotIndex (ys ++ x ∷ []) (with_first table x (length ys))
indexed ys x table h q =
    ⊎_elim
    (λ s. ap (λ (t : Table ℕ). t.what q) (cond-true (is_some (table.what x)) table _ s) ∙ h q ∙ known (slot_in ys q) refl s ∙ sym (slot-snoc ys x q))
    (λ n. ap (λ (t : Table ℕ). t.what q) (cond-false (is_some (table.what x)) table _ n) ∙ ap (λ o. cond (bytes_eq x q) (Some (length ys)) o) (h q) ∙ new (bytes_eq x q) (slot_in ys q) (at_new n) ∙ sym (slot-snoc ys x q))
    (cases_Bool (is_some (table.what x)))
  where
    at_new : is_some (table.what x) ≡ false → bytes_eq x q ≡ true → is_some (slot_in ys q) ≡ false
    at_new n e = ap (λ (o : Option ℕ). is_some o) (sym (h q) ∙ ap table.what (sym ((bytes_decides x q).0 e))) ∙ n

    new : (b : Bool) (o : Option ℕ) → (b ≡ true → is_some o ≡ false) → cond b (Some (length ys)) o ≡ or_else o (cond b (Some (length ys)) None)
    new b None h = refl
    new false (Some k) h = refl
    new true (Some k) h = absurd (true≢false (h refl))

    known : (o : Option ℕ) → slot_in ys q ≡ o → is_some (table.what x) ≡ true → o ≡ or_else o (if bytes_eq x q then Some (length ys) else None)
    known (Some k) e s = refl
    known None e s =
        ⊎_elim
        (λ b. absurd (clash (ap (λ (o : Option ℕ). is_some o) (ap table.what ((bytes_decides x q).0 b) ∙ h q ∙ e)) s))
        (λ b. sym (cond-false (bytes_eq x q) (Some (length ys)) None b))
        (cases_Bool (bytes_eq x q))
      where
        clash : is_some (table.what x) ≡ false → is_some (table.what x) ≡ true → ⊥
        clash a b = true≢false (sym b ∙ a)

pub one_more : (ys zs : List (List ℕ)) (x : List ℕ) (i : ℕ) (table next : Table ℕ) → IsSlotIndex ys table → i ≡ length ys → zs ≡ ys ++ x ∷ [] → next ≡ with_first table x i → IsSlotIndex zs next
one_more ys zs x i table next was l e is q =
    ap (λ (t : Table ℕ). t.what q) (is ∙ ap (with_first table x) l) ∙ indexed ys x table was q ∙ ap (λ names. slot_in names q) (sym e)

pub no-names : (names : List (List ℕ)) (table : Table ℕ) → names ≡ [] → table ≡ no_entries → IsSlotIndex names table
no-names names table n e q = ap (λ (t : Table ℕ). t.what q) e ∙ ap (λ l. slot_in l q) (sym n)

-- One variable more

pub with-old : (names : List (List ℕ)) (y : List ℕ) → is_some (slot_in names y) ≡ true → with_new_name names y ≡ names
with-old names y h = cond-true (is_some (slot_in names y)) names (names ++ y ∷ []) h

pub with-new : (names : List (List ℕ)) (y : List ℕ) → is_some (slot_in names y) ≡ false → with_new_name names y ≡ names ++ y ∷ []
with-new names y h = cond-false (is_some (slot_in names y)) names (names ++ y ∷ []) h

pub room-for-new : (names : List (List ℕ)) (y : List ℕ) (most : ℕ) → is_some (slot_in names y) ≡ false → length (with_new_name names y) ≤ most → length names < most
room-for-new names y most h few =
    let one : length (with_new_name names y) ≡ length names + 1 = ap length (with-new names y h) ∙ length-append names (y ∷ []) in
    omega (arith, one, few)

-- the first of some names, and the next
pub room-for-next : (names taken : List (List ℕ)) (i most : ℕ) → taken ≡ take i names → i < length names → length names ≤ most → length taken < most
room-for-next names taken i most e h few =
    let long : length taken ≡ i = ap length e ∙ length-take-le i names (omega (arith, h)) in
    omega (arith, long, h, few)

pub next-taken : (names taken more : List (List ℕ)) (i : ℕ) (y : List ℕ) → taken ≡ take i names → i < length names → y ≡ get_or names i y → more ≡ taken ++ y ∷ [] → more ≡ take (i + 1) names
next-taken names taken more i y e h is m = m ∙ ap (λ l. l ++ y ∷ []) e ∙ ap (λ z. take i names ++ z ∷ []) is ∙ sym (take_more names i y h)
