-- The text of a pedigree by its path and its rank.
use Rattle.std.proofs.Common.{◌≡◌, ℕ, ◌+◌, ◌<◌, ◌≤◌, List, [], ◌∷◌, ◌++◌, length, take, drop, slice_index, sym, ap, ◌∙◌, append_assoc, add-one, take-suc}
use Rattle.std.specs.Prelude.{codes, decimal, flat_map}
use Rattle.std.specs.List.{join_by}
use Rattle.std.proofs.Math.Seq.{take-append_seam}
use Rattle.std.proofs.lemmas.Grind.{flat_map-append}
use Rattle.std.proofs.lemmas.List.{append-nil, take-append-drop, take_all}
use Rattle.ped_path.specs.Text.{ped_text, stopped, AppendsFront}

module _ {X : Type 0} (f : X → List ℕ) (sep : List ℕ) where
  sep_first : (p : List X) (r : X) → flat_map (λ y. sep ++ f y) (p ++ r ∷ []) ≡ sep ++ (flat_map (λ q. f q ++ sep) p ++ f r)
  sep_first [] r = append-nil (sep ++ f r)
  sep_first (q ∷ p) r = ap (λ t. (sep ++ f q) ++ t) (sep_first p r) ∙ simp append_assoc

  pub join_by-append : (p : List X) (r : X) → join_by f sep (p ++ r ∷ []) ≡ flat_map (λ q. f q ++ sep) p ++ f r
  join_by-append [] r = append-nil (f r)
  join_by-append (q ∷ p) r = ap (λ t. f q ++ t) (sep_first p r) ∙ simp append_assoc

pub ped_text-append : (p j : List ℕ) (r : ℕ) → p ++ r ∷ [] ≡ j → stopped p ++ decimal r ≡ ped_text j
ped_text-append p j r e = sym (join_by-append decimal (codes ".") p r) ∙ ap ped_text e

pub stopped-append : (p q : List ℕ) → stopped (p ++ q) ≡ stopped p ++ stopped q
stopped-append p q = flat_map-append (λ r. decimal r ++ codes ".") p q

stopped-take_more : (p : List ℕ) (i : ℕ) → i < length p → stopped (take (i + 1) p) ≡ stopped (take i p) ++ (decimal (slice_index p i) ++ codes ".")
stopped-take_more p i h =
    rw add-one (ap stopped (take-suc p i 0 h) ∙ stopped-append (take i p) (slice_index p i ∷ []) ∙ ap (λ t. stopped (take i p) ++ t) (append-nil (decimal (slice_index p i) ++ codes ".")))

stopped-split : (p : List ℕ) (i : ℕ) → stopped (take i p) ++ stopped (drop i p) ≡ stopped p
stopped-split p i = sym (stopped-append (take i p) (drop i p)) ∙ ap stopped (take-append-drop i p)

front_from : (old new part rest text : List ℕ) → new ≡ old ++ part → part ++ rest ≡ text → AppendsFront old new text
front_from old new part rest text e h = (length part, e ∙ ap (λ t. old ++ t) (sym (take-append_seam part rest) ∙ ap (take (length part)) h))

-- the text from the rank at i on
text_split : (p j : List ℕ) (r i : ℕ) → p ++ r ∷ [] ≡ j → stopped (take i p) ++ (stopped (drop i p) ++ decimal r) ≡ ped_text j
text_split p j r i v =
    sym (append_assoc (stopped (take i p)) (stopped (drop i p)) (decimal r)) ∙ ap (λ t. t ++ decimal r) (stopped-split p i) ∙ ped_text-append p j r v

-- before the rank at i
pub front-take : (p j : List ℕ) (r i : ℕ) (old new : List ℕ) → p ++ r ∷ [] ≡ j → new ≡ old ++ stopped (take i p) → AppendsFront old new (ped_text j)
front-take p j r i old new v e = front_from old new (stopped (take i p)) (stopped (drop i p) ++ decimal r) (ped_text j) e (text_split p j r i v)

-- after the rank at i
pub front-rank : (p j : List ℕ) (r i : ℕ) (old new : List ℕ) → p ++ r ∷ [] ≡ j → i < length p → new ≡ (old ++ stopped (take i p)) ++ decimal (slice_index p i) → AppendsFront old new (ped_text j)
front-rank p j r i old new v h e =
    front_from old new (stopped (take i p) ++ decimal (slice_index p i)) (codes "." ++ (stopped (drop (i + 1) p) ++ decimal r)) (ped_text j)
    (e ∙ append_assoc old (stopped (take i p)) (decimal (slice_index p i)))
    (regroup (stopped (take i p)) (decimal (slice_index p i)) (codes ".") (stopped (drop (i + 1) p)) (decimal r) ∙ ap (λ t. t ++ (stopped (drop (i + 1) p) ++ decimal r)) (sym (stopped-take_more p i h)) ∙ text_split p j r (i + 1) v)
  where
    regroup : (a b c d e : List ℕ) → (a ++ b) ++ (c ++ (d ++ e)) ≡ (a ++ (b ++ c)) ++ (d ++ e)
    regroup a b c d e = simp append_assoc

pub text-whole : (p j : List ℕ) (r i : ℕ) (old new : List ℕ) → p ++ r ∷ [] ≡ j → length p ≤ i → new ≡ (old ++ stopped (take i p)) ++ decimal r → new ≡ old ++ ped_text j
text-whole p j r i old new v h e =
    e ∙ append_assoc old (stopped (take i p)) (decimal r) ∙ ap (λ t. old ++ t) (ap (λ t. stopped t ++ decimal r) (take_all i p h) ∙ ped_text-append p j r v)

pub front-whole : (old new text : List ℕ) → new ≡ old ++ text → AppendsFront old new text
front-whole old new text e = front_from old new text [] text e (append-nil text)
