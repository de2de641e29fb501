-- The table of slots has each that was put in, since none is put before the end.
use Rattle.std.proofs.Common.{◌≡◌, ℕ, suc, ◌+◌, ◌-◌, ◌≤◌, true, ◌&&◌, List, [], ◌∷◌, ◌++◌, length, replicate, Option, Some, None, refl, sym, ap, subst, ◌∙◌, append_assoc, append-nil, length-append, arith}
use Rattle.std.specs.Prelude.{is_some, slice_get, unwrap_or}
use Rattle.std.proofs.Math.ListN.{get_or-append}
use Rattle.std.proofs.Math.Seq.{get_or-append_seam}
use Rattle.std.proofs.lemmas.Bool.{and_parts, eq-eqb, true≢false}
use Rattle.std.proofs.lemmas.List.{length-replicate}
use Rattle.std.proofs.lemmas.Option.{slice_get_within, get_or_from_slice_get, slice_get-get_or}
use Rattle.script_grammar.specs.declared.tree.Name.{Name}
use Rattle.script_check.specs.Slots.{agree, has_slot, slot_in, with_entry, with_entries}
use Rattle.script_check.proofs.FoundSlots.Named.{each_is, true-both}
use Rattle.script_check.proofs.FoundSlots.Rising.{Rises}

got-append : (xs ys : List ℕ) (i v : ℕ) → slice_get xs i ≡ Some v → slice_get (xs ++ ys) i ≡ Some v
got-append xs ys i v h =
    let within = slice_get_within xs i v h in
    slice_get-get_or (xs ++ ys) i v (omega (arith, length-append xs ys, within))
    ∙ ap (λ (n : ℕ). Some n) (get_or-append xs ys v i within ∙ get_or_from_slice_get xs i v v h)

got-last : (xs : List ℕ) (v i : ℕ) → i ≡ length xs → slice_get (xs ++ v ∷ []) i ≡ Some v
got-last xs v i e =
    ap (λ k. slice_get (xs ++ v ∷ []) k) e
    ∙ slice_get-get_or (xs ++ v ∷ []) (length xs) v (omega (arith, length-append xs (v ∷ [])))
    ∙ ap (λ (n : ℕ). Some n) (get_or-append_seam xs v [] v)

-- the table goes on
pub longer : (names : List (List ℕ)) (table : List ℕ) (xs : List Name) → (more : List ℕ) × (with_entries names table xs ≡ table ++ more)
longer names table [] = ([], sym (append-nil table))
longer names table (x ∷ xs) =
    let zeros = replicate (x.at - length table) 0 in
    let p = unwrap_or (slot_in names x.bytes) 0 in
    let k = longer names (with_entry table x.at p) xs in
    (zeros ++ (p ∷ [] ++ k.0), k.1 ∙ append_assoc (table ++ zeros) (p ∷ []) k.0 ∙ append_assoc table zeros (p ∷ [] ++ k.0))

agree-kept : (o later slot : Option ℕ) → ((v : ℕ) → o ≡ Some v → later ≡ Some v) → agree o slot ≡ true → agree later slot ≡ true
agree-kept None later slot h a = absurd (true≢false (sym a))
agree-kept (Some v) later slot h a = ap (λ k. agree k slot) (h v refl) ∙ a

-- what is found goes on being found
pub found-append : (names : List (List ℕ)) (table more : List ℕ) (xs : List Name) → each_is (has_slot table names) xs ≡ true → each_is (has_slot (table ++ more) names) xs ≡ true
found-append names table more [] h = refl
found-append names table more (x ∷ xs) h =
    let a = and_parts (has_slot table names x) (each_is (has_slot table names) xs) h in
    true-both (has_slot (table ++ more) names x) (each_is (has_slot (table ++ more) names) xs)
    (agree-kept (slice_get table x.at) (slice_get (table ++ more) x.at) (slot_in names x.bytes) (λ v e. got-append table more x.at v e) a.0)
    (found-append names table more xs a.1)

pub length-put : (table : List ℕ) (at slot : ℕ) → length table ≤ at → length (with_entry table at slot) ≡ suc at
length-put table at slot h =
    let zeros = replicate (at - length table) 0 in
    let a : length (with_entry table at slot) ≡ length (table ++ zeros) + 1 = length-append (table ++ zeros) (slot ∷ []) in
    let b : length (table ++ zeros) ≡ length table + length zeros = length-append table zeros in
    let c : length zeros ≡ at - length table = length-replicate (at - length table) 0 in
    omega (arith, a, b, c, h)

put-there : (table : List ℕ) (at slot : ℕ) → length table ≤ at → slice_get (with_entry table at slot) at ≡ Some slot
put-there table at slot h =
    let zeros = replicate (at - length table) 0 in
    let b : length (table ++ zeros) ≡ length table + length zeros = length-append table zeros in
    let c : length zeros ≡ at - length table = length-replicate (at - length table) 0 in
    got-last (table ++ zeros) slot at (omega (arith, b, c, h))

agreed : (o : Option ℕ) → is_some o ≡ true → agree (Some (unwrap_or o 0)) o ≡ true
agreed None h = absurd (true≢false (sym h))
agreed (Some i) h = eq-eqb i i refl

-- the names that rise after the table's end are found
pub found : (names : List (List ℕ)) (table : List ℕ) (xs : List Name) → Rises (length table) xs → each_is (λ x. is_some (slot_in names x.bytes)) xs ≡ true →
    each_is (has_slot (with_entries names table xs) names) xs ≡ true
found names table [] r known = refl
found names table (x ∷ xs) r known =
    let p = unwrap_or (slot_in names x.bytes) 0 in
    let next = with_entry table x.at p in
    let a = and_parts (is_some (slot_in names x.bytes)) (each_is (λ x. is_some (slot_in names x.bytes)) xs) known in
    let k = longer names next xs in
    let there : slice_get (with_entries names next xs) x.at ≡ Some p = ap (λ t. slice_get t x.at) k.1 ∙ got-append next k.0 x.at p (put-there table x.at p r.0) in
    let here : has_slot (with_entries names next xs) names x ≡ true = ap (λ o. agree o (slot_in names x.bytes)) there ∙ agreed (slot_in names x.bytes) a.0 in
    ap (λ b. b && each_is (has_slot (with_entries names next xs) names) xs) here
    ∙ found names next xs (subst (λ n. Rises n xs) (sym (length-put table x.at p r.0)) r.1) a.1

pub rises-front : (n : ℕ) (xs ys : List Name) → Rises n (xs ++ ys) → Rises n xs
rises-front n [] ys r = tt
rises-front n (x ∷ xs) ys r = (r.0, rises-front (suc x.at) xs ys r.1)

-- what rises after them rises after the new end
pub rises-after : (names : List (List ℕ)) (table : List ℕ) (xs ys : List Name) → Rises (length table) (xs ++ ys) → Rises (length (with_entries names table xs)) ys
rises-after names table [] ys r = r
rises-after names table (x ∷ xs) ys r =
    let next = with_entry table x.at (unwrap_or (slot_in names x.bytes) 0) in
    rises-after names next xs ys (subst (λ n. Rises n (xs ++ ys)) (sym (length-put table x.at (unwrap_or (slot_in names x.bytes) 0) r.0)) r.1)
