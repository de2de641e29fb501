-- A list of tokens has one first fault. A name, a number and a word `fn` nest no deeper than what stands before them, so no first fault
-- breaks two limits.
use Rattle.std.proofs.Common.{◌≡◌, ℕ, suc, ◌<◌, ◌≤◌, List, [], ◌∷◌, ◌++◌, Option, Some, None, Bool, true, false, not, ◌&&◌, ◌||◌, nat_eq, if◌then◌else◌, refl, sym, ap, ◌∙◌, subst, ◌⊎◌, inl, inr, arith}
use Rattle.std.specs.List.{list_all}
use Rattle.std.proofs.lemmas.Bool.{cases_lt, eqb-true}
use Rattle.std.proofs.lemmas.Option.{none-some, same_Some}
use Rattle.script_tokens.specs.declared.version.Version.{Version}
use Rattle.script_tokens.specs.declared.token.Word.{Word}
use Rattle.script_tokens.specs.declared.token.Word.TheVariants as word
use Rattle.script_tokens.specs.declared.lexing.LexEnd.{LexEnd}
use Rattle.script_tokens.specs.declared.lexing.LexEnd.TheVariants.{End, NotAscii, NoToken}
use Rattle.script_grammar.specs.Grammar.{Terminal, AreOf, IsViable}
use Rattle.script_grammar.specs.Fault.{NestsAt, BreaksLimit, number_out_of_range, name_too_long, nested_too_deep, too_many_functions, IsFault, unexpected, breaks_limit, TextEnd, FaultAtStop, FaultAfter}
use Rattle.script_text.specs.Machine.{Sym, only, exactly, factor, index, pair, more_factors, more_terms, comparison, minus_end, args, more_args, call_args, right, into, loop_name, loop_args, stmts, after_let, after_name, block, otherwise, functions, param_list, params, more_params, param, answer, body, same_word, Production, rules, is_empty, find_rule, choose, consume, is_closer, nesting}
use Rattle.script_text.proofs.Parsing.Words.{same_words}
use Rattle.script_text.proofs.Nesting.Sound.{viable, taken, are-append, are-first}
use Rattle.script_text.proofs.OneFault.Judged.{StandsAfter, one_more, nested_so, is_nested}

abbrev is_flat : Word → Bool
is_flat word.Name = true
is_flat word.Number = true
is_flat word.Fn = true
is_flat _ = false

abbrev rules_flat_at : List ℕ → List Production → Bool
rules_flat_at text rs = list_all (λ r. nat_eq (nesting (r.rest text)) 0 || not (is_flat r.first)) rs

rules_flat : (a : Sym) (text : List ℕ) → rules_flat_at text (rules a) ≡ true
rules_flat (only k) text = refl
rules_flat (exactly n) text = refl
rules_flat factor text = refl
rules_flat index text = refl
rules_flat pair text = refl
rules_flat more_factors text = refl
rules_flat more_terms text = refl
rules_flat comparison text = refl
rules_flat minus_end text = refl
rules_flat args text = refl
rules_flat more_args text = refl
rules_flat call_args text = refl
rules_flat right text = refl
rules_flat into text = refl
rules_flat loop_name text = refl
rules_flat (loop_args n) text = refl
rules_flat stmts text = refl
rules_flat after_let text = refl
rules_flat after_name text = refl
rules_flat block text = refl
rules_flat otherwise text = refl
rules_flat functions text = refl
rules_flat param_list text = refl
rules_flat params text = refl
rules_flat more_params text = refl
rules_flat param text = refl
rules_flat answer text = refl
rules_flat body text = refl

two_true : (a b : Bool) → (a && b) ≡ true → (a ≡ true) × (b ≡ true)
two_true true b e = (refl, e)
two_true false b e = cc

first_true : (a b : Bool) → (a || not b) ≡ true → b ≡ true → a ≡ true
first_true true b e f = refl
first_true false true e f = e
first_true false false e f = f

found_flat : (k : Word) (text : List ℕ) (rs : List Production) (r : List Sym) → rules_flat_at text rs ≡ true → is_flat k ≡ true → find_rule k text rs ≡ Some r → nesting r ≡ 0
found_flat k text [] r h f e = absurd (none-some _ e)
found_flat k text (q ∷ qs) r h f e = go (same_word k q.first && q.fits text) refl e (λ g. found_flat k text qs r p.1 f g)
  where
    p : ((nat_eq (nesting (q.rest text)) 0 || not (is_flat q.first)) ≡ true) × (rules_flat_at text qs ≡ true)
    p = two_true _ _ h

    go : (b : Bool) → (same_word k q.first && q.fits text) ≡ b → (if b then Some (q.rest text) else find_rule k text qs) ≡ Some r → (find_rule k text qs ≡ Some r → nesting r ≡ 0) → nesting r ≡ 0
    go true g i tail =
        let same : k ≡ q.first = same_words k q.first (two_true (same_word k q.first) (q.fits text) g).0 in
        let flat : is_flat q.first ≡ true = ap is_flat (sym same) ∙ f in
        let none : nesting (q.rest text) ≡ 0 = eqb-true (nesting (q.rest text)) 0 (first_true (nat_eq (nesting (q.rest text)) 0) (is_flat q.first) p.0 flat) in
        subst (λ z. nesting z ≡ 0) (same_Some _ _ i) none
    go false g i tail = tail i

flat-append : (r s : List Sym) → nesting r ≡ 0 → nesting (r ++ s) ≡ nesting s
flat-append [] s e = refl
flat-append (only w ∷ r) s e = go (is_closer w) e (flat-append r s)
  where
    go : (b : Bool) → (if b then suc (nesting r) else nesting r) ≡ 0 → (nesting r ≡ 0 → nesting (r ++ s) ≡ nesting s) → (if b then suc (nesting (r ++ s)) else nesting (r ++ s)) ≡ nesting s
    go true f tail = absurd (omega (arith, f))
    go false f tail = tail f
flat-append (minus_end ∷ r) s e = absurd (omega (arith, e))
flat-append (_ ∷ r) s e = flat-append r s e

no_higher : (a : Sym) (s : List Sym) → nesting s ≤ nesting (a ∷ s)
no_higher (only w) s = go (is_closer w)
  where
    go : (b : Bool) → nesting s ≤ (if b then suc (nesting s) else nesting s)
    go true = omega arith
    go false = omega arith
no_higher minus_end s = omega arith
no_higher _ s = omega arith

step_flat : (k : Word) (text : List ℕ) (s s' : List Sym) → is_flat k ≡ true → consume k text s ≡ Some s' → nesting s' ≤ nesting s
step_flat k text [] s' f e = absurd (none-some _ e)
step_flat k text (a ∷ s) s' f e = go (find_rule k text (rules a)) (is_empty a) refl e (λ g. step_flat k text s s' f g)
  where
    above : nesting s ≤ nesting (a ∷ s)
    above = no_higher a s

    go : (o : Option (List Sym)) (b : Bool) → find_rule k text (rules a) ≡ o → choose o b s (consume k text s) ≡ Some s' → (consume k text s ≡ Some s' → nesting s' ≤ nesting s) → nesting s' ≤ nesting (a ∷ s)
    go (Some r) b g h tail =
        let whole : nesting s' ≡ nesting (r ++ s) = ap nesting (sym (same_Some _ _ h)) in
        let flat : nesting (r ++ s) ≡ nesting s = flat-append r s (found_flat k text (rules a) r (rules_flat a text) f g) in omega (arith, whole, flat, above)
    go None true g h tail = let low = tail h in omega (arith, low, above)
    go None false g h tail = absurd (none-some _ h)

number_name : (w : Word) → w ≡ word.Number → w ≡ word.Name → ⊥
number_name w e f = let g : word.Number ≡ word.Name = sym e ∙ f in cc

number_fn : (w : Word) → w ≡ word.Number → w ≡ word.Fn → ⊥
number_fn w e f = let g : word.Number ≡ word.Fn = sym e ∙ f in cc

name_fn : (w : Word) → w ≡ word.Name → w ≡ word.Fn → ⊥
name_fn w e f = let g : word.Name ≡ word.Fn = sym e ∙ f in cc

module _ (version : Version) where
  abbrev Limit : List Terminal → Terminal → ℕ → Type 0
  Limit before t n = BreaksLimit version before t n

  module _ (before : List Terminal) (t : Terminal) (d : ℕ) (nest : (n : ℕ) → NestsAt version before t n → n ≡ d) (flat : is_flat t.word ≡ true → d ≤ 64) where
    deep_flat : (n : ℕ) → NestsAt version before t n → 64 < n → is_flat t.word ≡ true → ⊥
    deep_flat n h deep f = let same = nest n h in let low = flat f in omega (arith, same, low, deep)

    one_limit : (m n : ℕ) → Limit before t m → Limit before t n → m ≡ n
    one_limit m n (number_out_of_range w h) (number_out_of_range v i) = refl
    one_limit m n (number_out_of_range w h) (name_too_long v i) = absurd (number_name t.word w v)
    one_limit m n (number_out_of_range w h) (nested_too_deep {n = k} v i) = absurd (deep_flat k v i (ap is_flat w))
    one_limit m n (number_out_of_range w h) (too_many_functions v i) = absurd (number_fn t.word w v)
    one_limit m n (name_too_long w h) (number_out_of_range v i) = absurd (number_name t.word v w)
    one_limit m n (name_too_long w h) (name_too_long v i) = refl
    one_limit m n (name_too_long w h) (nested_too_deep {n = k} v i) = absurd (deep_flat k v i (ap is_flat w))
    one_limit m n (name_too_long w h) (too_many_functions v i) = absurd (name_fn t.word w v)
    one_limit m n (nested_too_deep {n = k} w h) (number_out_of_range v i) = absurd (deep_flat k w h (ap is_flat v))
    one_limit m n (nested_too_deep {n = k} w h) (name_too_long v i) = absurd (deep_flat k w h (ap is_flat v))
    one_limit m n (nested_too_deep w h) (nested_too_deep v i) = refl
    one_limit m n (nested_too_deep {n = k} w h) (too_many_functions v i) = absurd (deep_flat k w h (ap is_flat v))
    one_limit m n (too_many_functions w h) (number_out_of_range v i) = absurd (number_fn t.word v w)
    one_limit m n (too_many_functions w h) (name_too_long v i) = absurd (name_fn t.word v w)
    one_limit m n (too_many_functions w h) (nested_too_deep {n = k} v i) = absurd (deep_flat k v i (ap is_flat w))
    one_limit m n (too_many_functions w h) (too_many_functions v i) = refl

  -- not viable, or viable
  one_unexpected : (before : List Terminal) (t : Terminal) → (IsViable version (before ++ t ∷ []) → ⊥) → (m n : ℕ) → IsFault version before t m → IsFault version before t n → m ≡ n
  one_unexpected before t never m n (unexpected f) (unexpected g) = refl
  one_unexpected before t never m n (unexpected f) (breaks_limit v g) = absurd (never v)
  one_unexpected before t never m n (breaks_limit v f) g = absurd (never v)

  one_broken : (before : List Terminal) (t : Terminal) → IsViable version (before ++ t ∷ []) → ((m n : ℕ) → Limit before t m → Limit before t n → m ≡ n) → (m n : ℕ) → IsFault version before t m → IsFault version before t n → m ≡ n
  one_broken before t able once m n (unexpected f) g = absurd (f able)
  one_broken before t able once m n (breaks_limit v f) (unexpected g) = absurd (g able)
  one_broken before t able once m n (breaks_limit v f) (breaks_limit w g) = once m n f g

  module _ (before : List Terminal) (t : Terminal) (s : List Sym) (of : AreOf version (before ++ t ∷ [])) (st : StandsAfter before s) where
    no_more : consume t.word t.text s ≡ None → IsViable version (before ++ t ∷ []) → ⊥
    no_more e v = let q = taken version (before ++ t ∷ []) v in none-some _ (sym (one_more before t s st ∙ e) ∙ q.1)

    pub one_number : nesting s ≤ 64 → (m n : ℕ) → IsFault version before t m → IsFault version before t n → m ≡ n
    one_number low m n f g = go (consume t.word t.text s) refl
      where
        go : (o : Option (List Sym)) → consume t.word t.text s ≡ o → m ≡ n
        go None e = one_unexpected before t (no_more e) m n f g
        go (Some s') e =
            let v = viable version (before ++ t ∷ []) s' of (one_more before t s st ∙ e) in
            let flat : is_flat t.word ≡ true → nesting s' ≤ 64 = λ h. let l = step_flat t.word t.text s s' h e in omega (arith, l, low) in
            one_broken before t v (one_limit before t (nesting s') (nested_so version before t s s' st e) flat) m n f g

    -- where the token is at no fault, the machine takes it, and is nested within the limit
    pub taken_low : ((n : ℕ) → IsFault version before t n → ⊥) → (s' : List Sym) × StandsAfter (before ++ t ∷ []) s' × (nesting s' ≤ 64)
    taken_low fine = go (consume t.word t.text s) refl
      where
        low : (s' : List Sym) → consume t.word t.text s ≡ Some s' → StandsAfter (before ++ t ∷ []) s' → (64 < nesting s') ⊎ (nesting s' ≤ 64) → nesting s' ≤ 64
        low s' e st' (inl deep) = absurd (fine 5 (breaks_limit (viable version (before ++ t ∷ []) s' of st') (nested_too_deep (is_nested version before t s s' of st e st') deep)))
        low s' e st' (inr shallow) = shallow

        go : (o : Option (List Sym)) → consume t.word t.text s ≡ o → (s' : List Sym) × StandsAfter (before ++ t ∷ []) s' × (nesting s' ≤ 64)
        go None e = absurd (fine 2 (unexpected (no_more e)))
        go (Some s') e = let st' = one_more before t s st ∙ e in (s', st', low s' e st' (cases_lt 64 (nesting s')))

  one_stop : (end : ℕ) (stop : LexEnd) (before : List Terminal) (m at n place : ℕ) → FaultAtStop version end stop before m at → FaultAtStop version end stop before n place → (m ≡ n) × (at ≡ place)
  one_stop end End before m at n place f g = (f.0 ∙ sym g.0, f.1 ∙ sym g.1)
  one_stop end (NotAscii p) before m at n place f g = (f.0 ∙ sym g.0, f.1 ∙ sym g.1)
  one_stop end (NoToken p) before m at n place f g = (f.0 ∙ sym g.0, f.1 ∙ sym g.1)

  -- what holds of the tokens after some that are at no fault
  abbrev Later : TextEnd → List Terminal → List Terminal → Type 0
  Later ending ts before =
      (x : List Sym) → StandsAfter before x → nesting x ≤ 64 → (m at n place : ℕ) → FaultAfter version ending before ts m at → FaultAfter version ending before ts n place → (m ≡ n) × (at ≡ place)

  pub one_fault : (ending : TextEnd) (ts before : List Terminal) (s : List Sym) → AreOf version before → AreOf version ts → StandsAfter before s → nesting s ≤ 64 → (m at n place : ℕ) →
      FaultAfter version ending before ts m at → FaultAfter version ending before ts n place → (m ≡ n) × (at ≡ place)
  one_fault ending [] before s of more st low m at n place f g = one_stop ending.end ending.stop before m at n place f g
  one_fault ending (t ∷ ts) before s of more st low m at n place f g = go f g (λ x. one_fault ending ts (before ++ t ∷ []) x of' (are-first version t ts more).1)
    where
      of' : AreOf version (before ++ t ∷ [])
      of' = are-append version before (t ∷ []) of (are-first version t ts more).0

      go : FaultAfter version ending before (t ∷ ts) m at → FaultAfter version ending before (t ∷ ts) n place → Later ending ts (before ++ t ∷ []) → (m ≡ n) × (at ≡ place)
      go (inl x) (inl y) later = (one_number before t s of' st low m n x.0 y.0, x.1 ∙ sym y.1)
      go (inl x) (inr y) later = absurd (y.0 m x.0)
      go (inr x) (inl y) later = absurd (x.0 n y.0)
      go (inr x) (inr y) later = let q = taken_low before t s of' st x.0 in later q.0 q.1 q.2 m at n place x.1 y.1
