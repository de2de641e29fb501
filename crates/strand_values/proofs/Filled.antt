-- The variables of an environment by their slots: what a name's slot has, and what filling it makes of them.
use Rattle.std.proofs.Common.{◌≡◌, ℕ, zero, suc, ◌<◌, Bool, true, false, cond, List, [], ◌∷◌, ◌++◌, Option, Some, None, length, get_or, replicate, slice_get, slice_set, nat_eq, refl, sym, ap, ◌∙◌, ⊎_elim, arith, eqb-true, eq-eqb, ne_eqb, get_or-set_same, get_or-set_other, length-set}
use Rattle.std.specs.Prelude.{All, IsSome}
use Rattle.std.specs.Str.{bytes_eq}
use Rattle.std.specs.Cmp.Lexicographic.{bytes_decides}
use Rattle.std.proofs.lemmas.Bool.{cases_eq, cond-false, cond-true, false≢true, false_from_ne_true}
use Rattle.std.proofs.lemmas.List.{get_or_read, length-replicate}
use Rattle.std.proofs.lemmas.List.Quantifiers.{position-Some}
use Rattle.std.proofs.lemmas.Option.{none-some, same_Some, slice_get-get_or, slice_get_within}
use Rattle.script_grammar.specs.declared.tree.Name.{Name}
use Rattle.script_check.specs.Slots.{agree, has_slot, slot_in}
use Rattle.serial_meaning.specs.Exec.{with_content}
use Rattle.serial_meaning.specs.Values.{Env, content_of}
use Rattle.serial_meaning.specs.declared.environment.Content.{Content}
use Rattle.serial_meaning.specs.declared.environment.Variable.{Variable}
use Rattle.strand_values.specs.Environments.{EnvironmentView, IsEnvironment, IsOwnSlot, filled_once, entry_content, content_at, filled_variables, times_filled, with_filled, prepend_content, with_variables}
use Rattle.strand_values.specs.declared.entry.Entry.{Entry}
use Rattle.strand_values.specs.declared.entry.Entry.TheVariants as entry

-- Lists of slots

all-push : (P : ℕ → Type 0) (js : List ℕ) (i : ℕ) → All P js → P i → All P (js ++ i ∷ [])
all-push P [] i all p zero d h = p
all-push P [] i all p (suc k) d h = absurd (omega arith)
all-push P (j ∷ js) i all p zero d h = all 0 d (omega arith)
all-push P (j ∷ js) i all p (suc k) d h = all-push P js i (λ k d h. all (suc k) d (omega arith)) p k d (omega arith)

first_of : (P : ℕ → Type 0) (j : ℕ) (js : List ℕ) → All P (j ∷ js) → P j
first_of P j js all = all 0 j (omega arith)

rest_of : (P : ℕ → Type 0) (j : ℕ) (js : List ℕ) → All P (j ∷ js) → All P js
rest_of P j js all k d h = all (suc k) d (omega arith)

both_counted : (a b : Bool) (n : ℕ) → cond a (suc (cond b (suc n) n)) (cond b (suc n) n) ≡ cond b (suc (cond a (suc n) n)) (cond a (suc n) n)
both_counted true true n = refl
both_counted true false n = refl
both_counted false true n = refl
both_counted false false n = refl

times-push : (j i : ℕ) (js : List ℕ) → times_filled j (js ++ i ∷ []) ≡ cond (nat_eq j i) (suc (times_filled j js)) (times_filled j js)
times-push j i [] = refl
times-push j i (k ∷ js) = ap (λ (n : ℕ). cond (nat_eq j k) (suc n) n) (times-push j i js) ∙ both_counted (nat_eq j k) (nat_eq j i) (times_filled j js)

none_either : (b : Bool) (o : Option Content) → o ≡ None → cond b None o ≡ o
none_either true o e = sym e
none_either false o e = refl

some_times : (n : ℕ) (o : Option Content) → o ≡ cond (nat_eq (suc n) 0) None o
some_times n o = sym (cond-false (nat_eq (suc n) 0) None o (ne_eqb (suc n) 0 (λ e. absurd (omega (arith, e)))))

module _ (names : List (List ℕ)) (x : List ℕ) (i : ℕ) (at : slot_in names x ≡ Some i) where
  is_within : i < length names
  is_within = let p = position-Some (λ (other : List ℕ). bytes_eq other x) names i [] at in p.0

  has_name : bytes_eq (get_or names i []) x ≡ true
  has_name = let p = position-Some (λ (other : List ℕ). bytes_eq other x) names i [] at in p.1

  pub is_named : get_or names i [] ≡ x
  is_named = (bytes_decides (get_or names i []) x).0 has_name

  pub is_slot : IsOwnSlot names i
  is_slot = ap (λ (name : List ℕ). slot_in names name) is_named ∙ at

  -- a slot that is that of its own name has this name exactly where it is this slot
  named : (j : ℕ) → IsOwnSlot names j → bytes_eq (get_or names j []) x ≡ nat_eq i j
  named j own = ⊎_elim same other (cases_eq i j)
    where
      same : i ≡ j → bytes_eq (get_or names j []) x ≡ nat_eq i j
      same e = ap (λ k. bytes_eq (get_or names k []) x) (sym e) ∙ has_name ∙ sym (eq-eqb i j e)

      other : (i ≡ j → ⊥) → bytes_eq (get_or names j []) x ≡ nat_eq i j
      other n =
          false_from_ne_true (bytes_eq (get_or names j []) x)
          (λ e. n (same_Some i j (sym at ∙ ap (λ (name : List ℕ). slot_in names name) (sym ((bytes_decides (get_or names j []) x).0 e)) ∙ own)))
          ∙ sym (ne_eqb i j n)

  module _ (entries : List Entry) where
    -- what the slot holds, where it came to be filled
    abbrev seen : List ℕ → Option Content
    seen js = cond (nat_eq (times_filled i js) 0) None (content_at entries i)

    content_shown : (js : List ℕ) → All (IsOwnSlot names) js → content_of (filled_variables names entries js) x ≡ seen js
    content_shown [] own = refl
    content_shown (j ∷ js) own = by (content_shown js (rest_of (IsOwnSlot names) j js own)) (content_at entries j) refl (nat_eq i j) refl
      where
        is : bytes_eq (get_or names j []) x ≡ nat_eq i j
        is = named j (first_of (IsOwnSlot names) j js own)

        by : content_of (filled_variables names entries js) x ≡ seen js → (o : Option Content) → content_at entries j ≡ o → (b : Bool) → nat_eq i j ≡ b →
            content_of (prepend_content (get_or names j []) o (filled_variables names entries js)) x ≡ cond (nat_eq (cond b (suc (times_filled i js)) (times_filled i js)) 0) None (content_at entries i)
        by rest None e false n = rest
        by rest None e true n = rest ∙ none_either (nat_eq (times_filled i js) 0) (content_at entries i) (ap (λ k. content_at entries k) (eqb-true i j n) ∙ e) ∙ some_times (times_filled i js) (content_at entries i)
        by rest (Some s) e false n = cond-false (bytes_eq (get_or names j []) x) _ _ (is ∙ n) ∙ rest
        by rest (Some s) e true n = cond-true (bytes_eq (get_or names j []) x) _ _ (is ∙ n) ∙ sym (ap (λ k. content_at entries k) (eqb-true i j n) ∙ e) ∙ some_times (times_filled i js) (content_at entries i)

    module _ (put : Entry) (s : Content) (holds : entry_content put ≡ Some s) (within : i < length entries) where
      abbrev after : List Entry
      after = slice_set entries i put

      here : content_at after i ≡ Some s
      here = ap entry_content (get_or-set_same entries i put entry.Vacant within) ∙ holds

      elsewhere : (j : ℕ) → (j ≡ i → ⊥) → content_at after j ≡ content_at entries j
      elsewhere j n = ap entry_content (get_or-set_other entries i j put entry.Vacant n)

      apart : (j : ℕ) → nat_eq i j ≡ false → j ≡ i → ⊥
      apart j n e = false≢true (sym n ∙ eq-eqb i j (sym e))

      -- where it isn't among these nothing changes
      without : (js : List ℕ) → times_filled i js ≡ 0 → filled_variables names after js ≡ filled_variables names entries js
      without [] none = refl
      without (j ∷ js) none = by (without js) (nat_eq i j) refl none
        where
          by : (times_filled i js ≡ 0 → filled_variables names after js ≡ filled_variables names entries js) → (b : Bool) → nat_eq i j ≡ b → cond b (suc (times_filled i js)) (times_filled i js) ≡ 0 → filled_variables names after (j ∷ js) ≡ filled_variables names entries (j ∷ js)
          by rest true n none = absurd (omega (arith, none))
          by rest false n none =
              ap (λ o. prepend_content (get_or names j []) o (filled_variables names after js)) (elsewhere j (apart j n))
              ∙ ap (λ (vs : Env). prepend_content (get_or names j []) (content_at entries j) vs) (rest none)

      -- another variable in front
      past : (j : ℕ) → IsOwnSlot names j → nat_eq i j ≡ false → (vs ws : Env) → vs ≡ with_content ws x s →
          prepend_content (get_or names j []) (content_at after j) vs ≡ with_content (prepend_content (get_or names j []) (content_at entries j) ws) x s
      past j own n vs ws e = ap (λ o. prepend_content (get_or names j []) o vs) (elsewhere j (apart j n)) ∙ by (content_at entries j)
        where
          by : (o : Option Content) → prepend_content (get_or names j []) o vs ≡ with_content (prepend_content (get_or names j []) o ws) x s
          by None = e
          by (Some t) = ap (λ (l : Env). let v : Variable = record { name = get_or names j []; content = t } in v ∷ l) e ∙ sym (cond-false (bytes_eq (get_or names j []) x) _ _ (named j own ∙ n))

      -- a variable that is there takes the content of its slot
      set_filled : (js : List ℕ) → All (IsOwnSlot names) js → times_filled i js ≡ 1 → (old : Content) → content_at entries i ≡ Some old → filled_variables names after js ≡ with_content (filled_variables names entries js) x s
      set_filled [] own once old was = absurd (omega (arith, once))
      set_filled (j ∷ js) own once old was = by (λ h. set_filled js (rest_of (IsOwnSlot names) j js own) h old was) (nat_eq i j) refl once
        where
          its : IsOwnSlot names j
          its = first_of (IsOwnSlot names) j js own

          by : (times_filled i js ≡ 1 → filled_variables names after js ≡ with_content (filled_variables names entries js) x s) → (b : Bool) → nat_eq i j ≡ b → cond b (suc (times_filled i js)) (times_filled i js) ≡ 1 → filled_variables names after (j ∷ js) ≡ with_content (filled_variables names entries (j ∷ js)) x s
          by rest false n once = past j its n _ _ (rest once)
          by rest true n once =
              let same : j ≡ i = sym (eqb-true i j n) in
              let none : times_filled i js ≡ 0 = omega (arith, once) in
              let front : content_at after j ≡ Some s = ap (λ k. content_at after k) same ∙ here in
              let before : content_at entries j ≡ Some old = ap (λ k. content_at entries k) same ∙ was in
              ap (λ o. prepend_content (get_or names j []) o (filled_variables names after js)) front
              ∙ ap (λ (l : Env). let v : Variable = record { name = get_or names j []; content = s } in v ∷ l) (without js none)
              ∙ sym (ap (λ o. with_content (prepend_content (get_or names j []) o (filled_variables names entries js)) x s) before ∙ cond-true (bytes_eq (get_or names j []) x) _ _ (named j its ∙ n))

      -- one that wasn't there stands at the end
      set_vacant : (js : List ℕ) → All (IsOwnSlot names) js → times_filled i js ≡ 0 → filled_variables names after (js ++ i ∷ []) ≡ with_content (filled_variables names entries js) x s
      set_vacant [] own none = ap (λ o. prepend_content (get_or names i []) o []) here ∙ ap (λ (y : List ℕ). let v : Variable = record { name = y; content = s } in v ∷ []) is_named
      set_vacant (j ∷ js) own none = by (set_vacant js (rest_of (IsOwnSlot names) j js own)) (nat_eq i j) refl none
        where
          by : (times_filled i js ≡ 0 → filled_variables names after (js ++ i ∷ []) ≡ with_content (filled_variables names entries js) x s) → (b : Bool) → nat_eq i j ≡ b → cond b (suc (times_filled i js)) (times_filled i js) ≡ 0 → filled_variables names after (j ∷ (js ++ i ∷ [])) ≡ with_content (filled_variables names entries (j ∷ js)) x s
          by rest true n none = absurd (omega (arith, none))
          by rest false n none = past j (first_of (IsOwnSlot names) j js own) n _ _ (rest none)

  -- The same of an environment

  module _ (entries : List Entry) (filled : List ℕ) (is : IsEnvironment names entries filled) where
    -- a variable's content is what its slot holds
    pub content_held : content_of (filled_variables names entries filled) x ≡ content_at entries i
    content_held = content_shown entries filled is.own ∙ by (content_at entries i) refl
      where
        by : (o : Option Content) → content_at entries i ≡ o → cond (nat_eq (times_filled i filled) 0) None (content_at entries i) ≡ content_at entries i
        by None e = none_either (nat_eq (times_filled i filled) 0) (content_at entries i) e
        by (Some s) e = ap (λ (n : ℕ). cond (nat_eq n 0) None (content_at entries i)) (is.once i ∙ ap filled_once e)

    is_inside : i < length entries
    is_inside = omega (arith, is.one_for_each, is_within)

    module _ (put : Entry) (s : Content) (holds : entry_content put ≡ Some s) where
      -- what is put into its slot is the variable's content
      put_shown : filled_variables names (slice_set entries i put) (with_filled filled i (content_at entries i)) ≡ with_content (filled_variables names entries filled) x s
      put_shown = by (content_at entries i) refl
        where
          by : (o : Option Content) → content_at entries i ≡ o → filled_variables names (slice_set entries i put) (with_filled filled i o) ≡ with_content (filled_variables names entries filled) x s
          by None e = set_vacant entries put s holds is_inside filled is.own (is.once i ∙ ap filled_once e)
          by (Some old) e = set_filled entries put s holds is_inside filled is.own (is.once i ∙ ap filled_once e) old e

      -- and it stays an environment
      put_stays : IsEnvironment names (slice_set entries i put) (with_filled filled i (content_at entries i))
      put_stays = record { one_for_each = length-set entries i put ∙ is.one_for_each; own = own_of (content_at entries i); once = λ j. ⊎_elim (same j) (other j) (cases_eq j i) }
        where
          own_of : (o : Option Content) → All (IsOwnSlot names) (with_filled filled i o)
          own_of None = all-push (IsOwnSlot names) filled i is.own is_slot
          own_of (Some old) = is.own

          now : (o : Option Content) → content_at entries i ≡ o → times_filled i (with_filled filled i o) ≡ 1
          now None e = times-push i i filled ∙ ap (λ (b : Bool). cond b (suc (times_filled i filled)) (times_filled i filled)) (eq-eqb i i refl) ∙ ap suc (is.once i ∙ ap filled_once e)
          now (Some old) e = is.once i ∙ ap filled_once e

          same : (j : ℕ) → j ≡ i → times_filled j (with_filled filled i (content_at entries i)) ≡ filled_once (content_at (slice_set entries i put) j)
          same j e =
              ap (λ (k : ℕ). times_filled k (with_filled filled i (content_at entries i))) e ∙ now (content_at entries i) refl
              ∙ sym (ap (λ (k : ℕ). filled_once (content_at (slice_set entries i put) k)) e ∙ ap filled_once (here entries put s holds is_inside))

          as_before : (j : ℕ) (o : Option Content) → (j ≡ i → ⊥) → times_filled j (with_filled filled i o) ≡ times_filled j filled
          as_before j None n = times-push j i filled ∙ ap (λ (b : Bool). cond b (suc (times_filled j filled)) (times_filled j filled)) (ne_eqb j i n)
          as_before j (Some old) n = refl

          other : (j : ℕ) → (j ≡ i → ⊥) → times_filled j (with_filled filled i (content_at entries i)) ≡ filled_once (content_at (slice_set entries i put) j)
          other j n = as_before j (content_at entries i) n ∙ is.once j ∙ sym (ap filled_once (elsewhere entries put s holds is_inside j n))

pub some_of : (o : Option Content) → IsSome o → (s : Content) × (o ≡ Some s)
some_of None h = absurd (false≢true h)
some_of (Some s) h = (s, refl)

-- A name without a slot has no variable

module _ (names : List (List ℕ)) (x : List ℕ) (none : slot_in names x ≡ None) (entries : List Entry) where
  not_shown : (js : List ℕ) → All (IsOwnSlot names) js → content_of (filled_variables names entries js) x ≡ None
  not_shown [] own = refl
  not_shown (j ∷ js) own = by (not_shown js (rest_of (IsOwnSlot names) j js own)) (content_at entries j)
    where
      apart : bytes_eq (get_or names j []) x ≡ false
      apart =
          false_from_ne_true (bytes_eq (get_or names j []) x)
          (λ e. none-some j (sym none ∙ ap (λ (name : List ℕ). slot_in names name) (sym ((bytes_decides (get_or names j []) x).0 e)) ∙ first_of (IsOwnSlot names) j js own))

      by : content_of (filled_variables names entries js) x ≡ None → (o : Option Content) → content_of (prepend_content (get_or names j []) o (filled_variables names entries js)) x ≡ None
      by rest None = rest
      by rest (Some s) = cond-false (bytes_eq (get_or names j []) x) _ _ apart ∙ rest

-- The table

agreed : (a b : Option ℕ) → agree a b ≡ true → (i : ℕ) × (a ≡ Some i) × (b ≡ Some i)
agreed None b h = absurd (false≢true h)
agreed (Some i) None h = absurd (false≢true h)
agreed (Some i) (Some j) h = (i, refl, ap Some (sym (eqb-true i j h)))

module _ (table : List ℕ) (names : List (List ℕ)) (x : Name) (found : has_slot table names x ≡ true) where
  pub in_table : x.at < length table
  in_table = let p = agreed (slice_get table x.at) (slot_in names x.bytes) found in slice_get_within table x.at p.0 p.1

  -- a table that has a name's slot has it at the name's offset
  pub slot_found : slot_in names x.bytes ≡ Some (get_or table x.at 0)
  slot_found =
      let p = agreed (slice_get table x.at) (slot_in names x.bytes) found in
      p.2 ∙ sym p.1 ∙ slice_get-get_or table x.at 0 in_table

-- An environment that is seen

abbrev seen_as : List (List ℕ) → List Entry → List ℕ → EnvironmentView
seen_as names entries filled = record { names = names; variables = filled_variables names entries filled }

module _ (names : List (List ℕ)) (entries : List Entry) (filled : List ℕ) (is : IsEnvironment names entries filled) (env : EnvironmentView) (view_is : seen_as names entries filled ≡ env) where
  pub entry_missing : (name : List ℕ) → slot_in env.names name ≡ None → content_of env.variables name ≡ None
  entry_missing name none =
      sym (ap (λ (w : EnvironmentView). content_of w.variables name) view_is)
      ∙ not_shown names name (ap (λ (w : EnvironmentView). slot_in w.names name) view_is ∙ none) entries filled is.own

  module _ (slot : ℕ) (name : List ℕ) (there : slot_in env.names name ≡ Some slot) where
    at_slot : slot_in names name ≡ Some slot
    at_slot = ap (λ (w : EnvironmentView). slot_in w.names name) view_is ∙ there

    pub entry_there : slot < length entries
    entry_there = is_inside names name slot at_slot entries filled is

    pub entry_holds : (e : Entry) → e ≡ get_or entries slot e → entry_content e ≡ content_of env.variables name
    entry_holds e read =
        ap entry_content (get_or_read entries slot e entry_there read entry.Vacant)
        ∙ sym (content_held names name slot at_slot entries filled is)
        ∙ ap (λ (w : EnvironmentView). content_of w.variables name) view_is

    module _ (e : Entry) (read : e ≡ get_or entries slot e) (now : List ℕ) (listed_now : now ≡ with_filled filled slot (entry_content e)) (put : Entry) (s : Content) (holds : entry_content put ≡ Some s) where
      listed_there : now ≡ with_filled filled slot (content_at entries slot)
      listed_there = listed_now ∙ ap (λ (o : Option Content). with_filled filled slot o) (ap entry_content (get_or_read entries slot e entry_there read entry.Vacant))

      pub entry_put : IsEnvironment names (slice_set entries slot put) now
      entry_put =
          let kept = put_stays names name slot at_slot entries filled is put s holds in
          rw listed_there kept

      pub seen_put : seen_as names (slice_set entries slot put) now ≡ with_variables env (with_content env.variables name s)
      seen_put =
          ap (λ (l : List ℕ). seen_as names (slice_set entries slot put) l) listed_there
          ∙ ap (λ (vs : Env). let w : EnvironmentView = record { names = names; variables = vs } in w) (put_shown names name slot at_slot entries filled is put s holds)
          ∙ ap (λ (w : EnvironmentView). with_variables w (with_content w.variables name s)) view_is

-- Nothing is there yet

none_held : (n i : ℕ) → content_at (replicate n entry.Vacant) i ≡ None
none_held zero i = refl
none_held (suc n) zero = refl
none_held (suc n) (suc i) = none_held n i

pub vacant_is : (names : List (List ℕ)) (entries : List Entry) → entries ≡ replicate (length names) entry.Vacant → IsEnvironment names entries []
vacant_is names entries e = record {
  one_for_each = ap length e ∙ length-replicate (length names) entry.Vacant;
  own = λ k d h. absurd (omega arith);
  once = λ i. sym (ap (λ (l : List Entry). filled_once (content_at l i)) e ∙ ap filled_once (none_held (length names) i));
}
