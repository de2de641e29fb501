-- What is collected after some names, piece by piece, and what is told of each part.
use Rattle.std.proofs.Common.{◌≡◌, ℕ, ◌+◌, ◌<◌, Bool, ◌&&◌, List, ◌++◌, length, map, drop, get_or, refl, sym, ap, ◌∙◌, append_assoc}
use Rattle.std.specs.Prelude.{unwrap_or}
use Rattle.script_grammar.specs.declared.tree.Name.{Name}
use Rattle.script_check.specs.Slots.{all_true, joined, slot_in, with_entry, with_entries}
use Rattle.script_check.proofs.Walk.Reading.{at_index}

module _ {A : Type 0} where
  -- a whole of one piece, of two and of three
  pub one-piece : (old new all xs : List A) → all ≡ xs → new ≡ old ++ xs → new ≡ old ++ all
  one-piece old new all xs is e = e ∙ ap (λ l. old ++ l) (sym is)

  pub two-pieces : (old mid new all xs ys : List A) → all ≡ xs ++ ys → mid ≡ old ++ xs → new ≡ mid ++ ys → new ≡ old ++ all
  two-pieces old mid new all xs ys is e f = one-piece old new all (xs ++ ys) is (f ∙ ap (λ l. l ++ ys) e ∙ append_assoc old xs ys)

  pub three-pieces : (old a b new all xs ys zs : List A) → all ≡ xs ++ (ys ++ zs) → a ≡ old ++ xs → b ≡ a ++ ys → new ≡ b ++ zs → new ≡ old ++ all
  three-pieces old a b new all xs ys zs is e f g = two-pieces old a new all xs (ys ++ zs) is e (two-pieces a b new (ys ++ zs) ys zs refl f g)

-- one part more of several
pub one-part : {A : Type 0} (see : A → List Name) (xs : List A) (i : ℕ) (x : A) (all old new : List Name) → i < length xs → x ≡ get_or xs i x →
    all ≡ old ++ joined (map see (drop i xs)) → new ≡ old ++ see x → all ≡ new ++ joined (map see (drop (i + 1) xs))
one-part see xs i x all old new h is e n =
    let rest = joined (map see (drop (i + 1) xs)) in
    e ∙ ap (λ l. old ++ joined (map see l)) (at_index xs i x h is) ∙ sym (append_assoc old (see x) rest) ∙ ap (λ l. l ++ rest) (sym n)

-- a test of each part, told of one and of those after it
pub all-at : {A : Type 0} (test : A → Bool) (xs : List A) (i : ℕ) (x : A) (b : Bool) → i < length xs → x ≡ get_or xs i x → test x ≡ b →
    all_true (map test (drop i xs)) ≡ (b && all_true (map test (drop (i + 1) xs)))
all-at test xs i x b h is e = ap (λ l. all_true (map test l)) (at_index xs i x h is) ∙ ap (λ c. c && all_true (map test (drop (i + 1) xs))) e

-- one name more that is put into a table
pub one-placed : (names : List (List ℕ)) (xs : List Name) (i : ℕ) (x : Name) (table next : List ℕ) → i < length xs → x ≡ get_or xs i x → next ≡ with_entry table x.at (unwrap_or (slot_in names x.bytes) 0) →
    with_entries names table (drop i xs) ≡ with_entries names next (drop (i + 1) xs)
one-placed names xs i x table next h e is = ap (with_entries names table) (at_index xs i x h e) ∙ ap (λ t. with_entries names t (drop (i + 1) xs)) (sym is)
