-- What a map with the bytes of names as its keys has after a name was put in or taken out.
use Rattle.std.proofs.Common.{◌≡◌, ℕ, ◌+◌, Bool, true, false, cond, List, Option, Some, None, sym, ap, subst, ◌∙◌}
use Rattle.std.specs.Prelude.{is_some, if◌then◌else◌}
use Rattle.std.specs.Global.{Vec}
use Rattle.std.specs.BTreeMap.{BTreeMap, UpdatesBy, btree_map_len}
use Rattle.std.specs.Map.{update, lookup, IsKeyTest, AreApart, KeepsOthers}
use Rattle.std.specs.Ordering.{is_eq, nat_cmp}
use Rattle.std.specs.Cmp.{eq_by_cmp_equiv}
use Rattle.std.specs.Cmp.Lexicographic.{slice_cmp, bytes_decides, nat_list_cmp_total, nat_list_eq_equiv}
use Rattle.std.specs.Str.{bytes_eq}
use Rattle.std.proofs.lemmas.Map.Text.{is_eq-slice_cmp}
use Rattle.std.proofs.lemmas.Bool.{cases_Bool, cond-true, cond-false}
use Rattle.std.proofs.Common.{⊎_elim}
use Rattle.script_check.specs.Tables.{Table, with_first, table_of}

apart_in_order : (bs cs ks : List ℕ) → bytes_eq bs cs ≡ false → is_eq (slice_cmp nat_cmp bs ks) ≡ true → is_eq (slice_cmp nat_cmp cs ks) ≡ false
apart_in_order bs cs ks n y =
    is_eq-slice_cmp cs ks ∙ nat_list_eq_equiv.symm cs ks ∙ sym (nat_list_eq_equiv.congr bs ks cs (sym (is_eq-slice_cmp bs ks) ∙ y)) ∙ n

other_entries : {K X : Type 0} (eq : K → K → Bool) (test : K → Bool) (old new : List (K × X)) → KeepsOthers eq test old new →
    (other : K → Bool) → IsKeyTest eq other → AreApart test other → lookup other new ≡ lookup other old
unfolding KeepsOthers
other_entries eq test old new h = h

-- g is w at bs, and f at other bytes
by_bytes : {W : Type 0} (f g : List ℕ → W) (bs : List ℕ) (w : W) → g bs ≡ w → ((cs : List ℕ) → bytes_eq bs cs ≡ false → g cs ≡ f cs) →
    (cs : List ℕ) → g cs ≡ cond (bytes_eq bs cs) w (f cs)
by_bytes f g bs w here other cs =
    ⊎_elim
    (λ y. subst (λ l. g l ≡ w) ((bytes_decides bs cs).0 y) here ∙ sym (cond-true (bytes_eq bs cs) w (f cs) y))
    (λ n. other cs n ∙ sym (cond-false (bytes_eq bs cs) w (f cs) n))
    (cases_Bool (bytes_eq bs cs))

module _ {A : Type 0} where
  updated : (bs : List ℕ) (m n : BTreeMap (Vec ℕ) A) (w : Option A) →
      UpdatesBy (λ x y. slice_cmp nat_cmp x.items y.items) (λ k. slice_cmp nat_cmp bs k.items) m n w →
      (cs : List ℕ) → (table_of n).what cs ≡ update bytes_eq (table_of m).what bs w cs
  updated bs m n w h =
      by_bytes (table_of m).what (table_of n).what bs w h.1
      (λ cs e. other_entries _ _ _ _ h.3 _ (λ x y. (eq_by_cmp_equiv nat_list_cmp_total).congr cs x.items y.items) (λ k. apart_in_order bs cs k.items e))

  tables : (s t : Table A) → ((q : List ℕ) → s.what q ≡ t.what q) → s.count ≡ t.count → s ≡ t
  tables s t h n i = record { what = λ q. h q i; count = n i }

  -- a name that wasn't there
  pub added : (name key : List ℕ) (entry : A) (old : Option A) (m n : BTreeMap (Vec ℕ) A) → key ≡ name → is_some ((table_of m).what name) ≡ false →
      UpdatesBy (λ x y. slice_cmp nat_cmp x.items y.items) (λ k. slice_cmp nat_cmp key k.items) m n (Some entry) →
      old ≡ (table_of m).what key → btree_map_len n ≡ btree_map_len m + (if is_some old then 0 else 1) →
      table_of n ≡ with_first (table_of m) name entry
  added name key entry old m n same absent h was len =
      tables (table_of n) (record { what = update bytes_eq (table_of m).what name (Some entry); count = (table_of m).count + 1 })
      (λ q. updated key m n (Some entry) h q ∙ ap (λ k. update bytes_eq (table_of m).what k (Some entry) q) same)
      (len ∙ ap (λ (b : Bool). btree_map_len m + (if b then 0 else 1)) (ap (λ (o : Option A). is_some o) (was ∙ ap (table_of m).what same) ∙ absent))
      ∙ sym (cond-false (is_some ((table_of m).what name)) _ _ absent)

  -- a name taken out
  pub removed : (name : List ℕ) (m n : BTreeMap (Vec ℕ) A) → UpdatesBy (λ x y. slice_cmp nat_cmp x.items y.items) (λ k. slice_cmp nat_cmp name k.items) m n None →
      (table_of n).what ≡ update bytes_eq (table_of m).what name None
  removed name m n h i q = updated name m n None h q i
