-- The machine's answer is the first fault, and there is none exactly where the tokens are a script within the limits.
use Rattle.std.proofs.Common.{◌≡◌, ℕ, suc, List, [], ◌∷◌, ◌++◌, length, Option, Some, None, Bool, true, false, ◌&&◌, nat_lt, if◌then◌else◌, option_and_then, refl, sym, ap, ◌∙◌, subst, inl, inr, append_assoc, append-nil, arith}
use borrow.Author.Tests.{ltb-true, ltb-false}
use Rattle.std.proofs.lemmas.Bool.{lt-ltb}
use Rattle.std.proofs.lemmas.Option.{none-some, same_Some, option_and_then_some}
use Rattle.std.specs.Prelude.{slice_get}
use Rattle.script_tokens.specs.declared.version.Version.{Version}
use Rattle.script_tokens.specs.declared.version.Version.TheVariants.{One, Two}
use Rattle.script_tokens.specs.declared.token.Word.{Word}
use Rattle.script_tokens.specs.declared.token.Word.TheVariants as word
use Rattle.script_tokens.specs.declared.lexing.LexEnd.{LexEnd}
use Rattle.script_tokens.specs.declared.lexing.LexEnd.TheVariants.{End, NotAscii, NoToken}
use Rattle.script_grammar.specs.declared.tree.Function.{Function}
use Rattle.script_grammar.specs.Grammar.{Terminal, tok, decimal, IsScript, AreOf, IsViable}
use Rattle.script_grammar.specs.Nesting.{functions_nesting}
use Rattle.script_grammar.specs.Fault.{is_fn, functions_begun, NestsAt, BreaksLimit, number_out_of_range, name_too_long, nested_too_deep, too_many_functions, IsFault, unexpected, breaks_limit, TextEnd, FaultAtStop, FaultAfter, WithinAfter, IsProgram}
use Rattle.script_text.specs.Machine.{Sym, functions, same_word, is_empty, consume, consume_all, nesting, Nestings, onward, nestings, all_empty, PlacedFault, broken, unless_broken, verdict, at_stop, begun_with, judge}
use Rattle.script_text.proofs.Parsing.Words.{same_words}
use Rattle.script_text.proofs.Nesting.Follows.{tail, script_traced, script_runs}
use Rattle.script_text.proofs.Nesting.Sound.{Derives, run_sound, run-append, whole, left_out, viable, taken, are-append, are-first}

-- the machine stands here after these tokens
abbrev pub StandsAfter : List Terminal → List Sym → Type 0
StandsAfter before s = consume_all before (functions ∷ []) ≡ Some s

pub one_more : (before : List Terminal) (t : Terminal) (s : List Sym) → StandsAfter before s → consume_all (before ++ t ∷ []) (functions ∷ []) ≡ consume t.word t.text s
one_more before t s e = run-append before (t ∷ []) (functions ∷ []) ∙ ap (option_and_then (consume_all (t ∷ []))) e ∙ unit (consume t.word t.text s)
  where
    unit : (o : Option (List Sym)) → option_and_then Some o ≡ o
    unit None = refl
    unit (Some x) = refl

ends : (s : List Sym) → all_empty s ≡ true → Derives s []
ends [] e = refl
ends (a ∷ s) e = go (is_empty a) refl e (λ f. ends s f)
  where
    go : (b : Bool) → is_empty a ≡ b → (b && all_empty s) ≡ true → (all_empty s ≡ true → Derives s []) → Derives (a ∷ s) []
    go true f h ih = ([], left_out a f [], ih h)
    go false f h ih = cc

-- Nesting

slice_get-seam : (ns : List ℕ) (n : ℕ) (more : List ℕ) → slice_get (ns ++ n ∷ more) (length ns) ≡ Some n
slice_get-seam [] n more = refl
slice_get-seam (m ∷ ns) n more = slice_get-seam ns n more

-- a run, step by step, with the nesting after each token
data Steps : List Terminal → List Sym → List ℕ → List Sym → Type 0 where
  stopped : {s : List Sym} → Steps [] s [] s
  stepped : {t : Terminal} {ts : List Terminal} {s x s' : List Sym} {ns : List ℕ} → consume t.word t.text s ≡ Some x → Steps ts x ns s' → Steps (t ∷ ts) s (nesting x ∷ ns) s'

steps : (ts : List Terminal) (s s' : List Sym) → consume_all ts s ≡ Some s' → (ns : List ℕ) × Steps ts s ns s'
steps [] s s' e = ([], subst (λ x. Steps [] s [] x) (same_Some _ _ e) stopped)
steps (t ∷ ts) s s' e = option_and_then_some (consume_all ts) (consume t.word t.text s) s' e (λ x f g. let r = steps ts x s' g in (nesting x ∷ r.0, stepped f r.1))

length-steps : {ts : List Terminal} {s s' : List Sym} {ns : List ℕ} → Steps ts s ns s' → length ns ≡ length ts
length-steps stopped = refl
length-steps (stepped e r) = ap suc (length-steps r)

trace-append : {ts : List Terminal} {s s' : List Sym} {ns : List ℕ} (us : List Terminal) → Steps ts s ns s' → nestings (ts ++ us) s ≡ tail ns (nestings us s')
trace-append {s = s} us stopped = none (nestings us s)
  where
    none : (o : Nestings) → o ≡ tail [] o
    none None = refl
    none (Some p) = refl
trace-append {s' = s'} us (stepped {t = t} {ts = ts} {x = x} {ns = ns} e r) =
    ap (λ o. onward o (nestings (ts ++ us))) e ∙ ap (option_and_then (λ p. Some (nesting x ∷ p.0, p.1))) (trace-append us r) ∙ longer (nesting x) ns (nestings us s')
  where
    longer : (n : ℕ) (ns : List ℕ) (o : Nestings) → option_and_then (λ p. Some (n ∷ p.0, p.1)) (tail ns o) ≡ tail (n ∷ ns) o
    longer n ns None = refl
    longer n ns (Some p) = refl

-- no token is of every version
none_of : (version : Version) → AreOf version []
none_of One = refl
none_of Two = tt

module _ (version : Version) where
  -- the nesting after a token is its nesting in every script that goes on so
  pub nested_so : (before : List Terminal) (t : Terminal) (s s' : List Sym) → StandsAfter before s → consume t.word t.text s ≡ Some s' → (n : ℕ) → NestsAt version before t n → n ≡ nesting s'
  nested_so before t s s' st e n h =
      let r = steps before (functions ∷ []) s st in
      let split : nestings (before ++ t ∷ h.0) (functions ∷ []) ≡ tail r.0 (onward (Some s') (nestings h.0)) =
      trace-append (t ∷ h.0) r.1 ∙ ap (λ o. tail r.0 (onward o (nestings h.0))) e in
      go (functions_nesting h.3 0) r.0 (nestings h.0 s') (length-steps r.1) (sym (script_traced h.3) ∙ split) h.4
    where
      go : (levels ns : List ℕ) (o : Nestings) → length ns ≡ length before → Some (levels, functions ∷ []) ≡ tail ns (option_and_then (λ p. Some (nesting s' ∷ p.0, p.1)) o) → slice_get levels (length before) ≡ Some n → n ≡ nesting s'
      go levels ns None f g k = absurd (none-some _ (sym g))
      go levels ns (Some p) f g k =
          let whole : levels ≡ ns ++ nesting s' ∷ p.0 = ap (λ q. q.0) (same_Some _ _ g) in
          let there : slice_get levels (length before) ≡ Some (nesting s') = ap (λ q. slice_get q (length before)) whole ∙ ap (slice_get (ns ++ nesting s' ∷ p.0)) (sym f) ∙ slice_get-seam ns (nesting s') p.0 in
          same_Some _ _ (sym k ∙ there)

  pub of_none : AreOf version []
  of_none = none_of version

  -- and there is such a script
  pub is_nested : (before : List Terminal) (t : Terminal) (s s' : List Sym) → AreOf version (before ++ t ∷ []) → StandsAfter before s → consume t.word t.text s ≡ Some s' → StandsAfter (before ++ t ∷ []) s' → NestsAt version before t (nesting s')
  is_nested before t s s' of st e st' =
      let v = viable version (before ++ t ∷ []) s' of st' in
      let d : IsScript (before ++ t ∷ v.0) v.1 = subst (λ x. IsScript x v.1) (append_assoc before (t ∷ []) v.0) v.2.1 in
      let of' : AreOf version (before ++ t ∷ v.0) = subst (AreOf version) (append_assoc before (t ∷ []) v.0) v.2.0 in
      let r = steps before (functions ∷ []) s st in
      let split : nestings (before ++ t ∷ v.0) (functions ∷ []) ≡ tail r.0 (onward (Some s') (nestings v.0)) =
      trace-append (t ∷ v.0) r.1 ∙ ap (λ o. tail r.0 (onward o (nestings v.0))) e in
      (v.0, v.1, of', d, go (functions_nesting d 0) r.0 (nestings v.0 s') (length-steps r.1) (sym (script_traced d) ∙ split))
    where
      go : (levels ns : List ℕ) (o : Nestings) → length ns ≡ length before → Some (levels, functions ∷ []) ≡ tail ns (option_and_then (λ p. Some (nesting s' ∷ p.0, p.1)) o) → slice_get levels (length before) ≡ Some (nesting s')
      go levels ns None f g = absurd (none-some _ (sym g))
      go levels ns (Some p) f g =
          let whole : levels ≡ ns ++ nesting s' ∷ p.0 = ap (λ q. q.0) (same_Some _ _ g) in
          ap (λ q. slice_get q (length before)) whole ∙ ap (slice_get (ns ++ nesting s' ∷ p.0)) (sym f) ∙ slice_get-seam ns (nesting s') p.0

  -- Limits

  begun-more : (before : List Terminal) (t : Terminal) → functions_begun (before ++ t ∷ []) ≡ begun_with t (functions_begun before)
  begun-more [] t = refl
  begun-more (b ∷ bs) t = go (is_fn b.word) (is_fn t.word) (functions_begun (bs ++ t ∷ [])) (functions_begun bs) (begun-more bs t)
    where
      go : (b c : Bool) (m n : ℕ) → m ≡ (if c then suc n else n) → (if b then suc m else m) ≡ (if c then suc (if b then suc n else n) else (if b then suc n else n))
      go true true m n e = ap suc e
      go true false m n e = ap suc e
      go false true m n e = e
      go false false m n e = e

  fn_word : (w : Word) → is_fn w ≡ true → w ≡ word.Fn
  fn_word word.Fn e = refl
  fn_word _ e = cc

  both : (a b : Bool) → (a && b) ≡ true → (a ≡ true) × (b ≡ true)
  both true b e = (refl, e)
  both false b e = cc

  -- a broken limit, and none
  is_broken : (before : List Terminal) (t : Terminal) (d k : ℕ) → NestsAt version before t d → broken (functions_begun before) t d ≡ Some k → BreaksLimit version before t k
  is_broken before t d k nest e =
      go (same_word t.word word.Number && nat_lt 9223372036854775807 (decimal 0 t.text)) (same_word t.word word.Name && nat_lt 32 (length t.text))
      (is_fn t.word && nat_lt 1023 (functions_begun before)) (nat_lt 64 d) refl refl refl refl e
    where
      go : (p q r u : Bool) → (same_word t.word word.Number && nat_lt 9223372036854775807 (decimal 0 t.text)) ≡ p → (same_word t.word word.Name && nat_lt 32 (length t.text)) ≡ q
          → (is_fn t.word && nat_lt 1023 (functions_begun before)) ≡ r → nat_lt 64 d ≡ u
          → (if p then Some 3 else if q then Some 4 else if r then Some 7 else if u then Some 5 else None) ≡ Some k → BreaksLimit version before t k
      go true q r u f g h i j =
          let w = both (same_word t.word word.Number) _ f in
          subst (BreaksLimit version before t) (same_Some _ _ j) (number_out_of_range (same_words t.word word.Number w.0) (ltb-true 9223372036854775807 (decimal 0 t.text) w.1))
      go false true r u f g h i j =
          let w = both (same_word t.word word.Name) _ g in
          subst (BreaksLimit version before t) (same_Some _ _ j) (name_too_long (same_words t.word word.Name w.0) (ltb-true 32 (length t.text) w.1))
      go false false true u f g h i j =
          let w = both (is_fn t.word) _ h in
          let many = ltb-true 1023 (functions_begun before) w.1 in
          subst (BreaksLimit version before t) (same_Some _ _ j) (too_many_functions (fn_word t.word w.0) (omega (arith, many)))
      go false false false true f g h i j = subst (BreaksLimit version before t) (same_Some _ _ j) (nested_too_deep nest (ltb-true 64 d i))
      go false false false false f g h i j = absurd (none-some _ j)

  abbrev or_deep : ℕ → ℕ → Bool → Option ℕ
  or_deep k d b = if b then Some k else if nat_lt 64 d then Some 5 else None

  never_some : (k d : ℕ) (b : Bool) → b ≡ true → or_deep k d b ≡ None → ⊥
  never_some k d b e f = none-some k (sym f ∙ ap (or_deep k d) e)

  not_broken : (before : List Terminal) (t : Terminal) (d : ℕ) → ((n : ℕ) → NestsAt version before t n → n ≡ d) → broken (functions_begun before) t d ≡ None → (k : ℕ) → BreaksLimit version before t k → ⊥
  not_broken before t d nest e k (number_out_of_range w h) =
      let f : broken (functions_begun before) (tok t.at word.Number t.text) d ≡ None = subst (λ v. broken (functions_begun before) (tok t.at v t.text) d ≡ None) w e in
      never_some 3 d _ (lt-ltb 9223372036854775807 (decimal 0 t.text) h) f
  not_broken before t d nest e k (name_too_long w h) =
      let f : broken (functions_begun before) (tok t.at word.Name t.text) d ≡ None = subst (λ v. broken (functions_begun before) (tok t.at v t.text) d ≡ None) w e in
      never_some 4 d _ (lt-ltb 32 (length t.text) h) f
  not_broken before t d nest e k (too_many_functions w h) =
      let f : broken (functions_begun before) (tok t.at word.Fn t.text) d ≡ None = subst (λ v. broken (functions_begun before) (tok t.at v t.text) d ≡ None) w e in
      never_some 7 d _ (lt-ltb 1023 (functions_begun before) (omega (arith, h))) f
  not_broken before t d nest e k (nested_too_deep {n = n} h deep) =
      let low : nat_lt 64 d ≡ false = last (same_word t.word word.Number && nat_lt 9223372036854775807 (decimal 0 t.text)) (same_word t.word word.Name && nat_lt 32 (length t.text)) (is_fn t.word && nat_lt 1023 (functions_begun before)) (nat_lt 64 d) e in
      let same = nest n h in
      let bound = ltb-false 64 d low in
      omega (arith, same, bound, deep)
    where
      last : (p q r u : Bool) → ◌≡◌ {A = Option ℕ} (if p then Some 3 else if q then Some 4 else if r then Some 7 else if u then Some 5 else None) None → u ≡ false
      last true q r u e = absurd (none-some _ (sym e))
      last false true r u e = absurd (none-some _ (sym e))
      last false false true u e = absurd (none-some _ (sym e))
      last false false false true e = absurd (none-some _ (sym e))
      last false false false false e = refl

  -- what an answer says of the tokens after these
  abbrev pub Says : TextEnd → List Terminal → List Terminal → Option PlacedFault → Type 0
  Says ending before ts (Some f) = FaultAfter version ending before ts f.0 f.1
  Says ending before ts None = (ending.stop ≡ End) × WithinAfter version before ts × ((fs : List Function) × IsScript (before ++ ts) fs)

  no_fault : (before : List Terminal) (t : Terminal) → IsViable version (before ++ t ∷ []) → ((n : ℕ) → BreaksLimit version before t n → ⊥) → (n : ℕ) → IsFault version before t n → ⊥
  no_fault before t v h n (unexpected f) = f v
  no_fault before t v h n (breaks_limit v' b) = h n b

  judged_end : (ending : TextEnd) (before : List Terminal) (s : List Sym) → StandsAfter before s → Says ending before [] (at_stop ending.end ending.stop s)
  judged_end ending before s st = at ending.stop refl
    where
      at_end : (b : Bool) → all_empty s ≡ b → ending.stop ≡ End → Says ending before [] (if b then None else Some (6, ending.end))
      at_end true e f = (f, tt, whole _ (run_sound before (functions ∷ []) s [] st (ends s e)))
      at_end false e f =
          subst (λ w. FaultAtStop version ending.end w before 6 ending.end) (sym f) (
            refl,
            refl,
            λ fs d.
                let same : functions ∷ [] ≡ s = same_Some _ _ (sym (script_runs d.1) ∙ st) in
                let h : all_empty (functions ∷ []) ≡ false = ap all_empty same ∙ e in cc,
          )

      at : (w : LexEnd) → ending.stop ≡ w → Says ending before [] (at_stop ending.end w s)
      at End e = at_end (all_empty s) refl e
      at (NotAscii place) e = subst (λ w. FaultAtStop version ending.end w before 1 place) (sym e) (refl, refl)
      at (NoToken place) e = subst (λ w. FaultAtStop version ending.end w before 2 place) (sym e) (refl, refl)

  pub judged : (ending : TextEnd) (ts before : List Terminal) (n : ℕ) (s : List Sym) → AreOf version before → AreOf version ts → n ≡ functions_begun before → StandsAfter before s → Says ending before ts (judge ending n s ts)
  judged ending [] before n s of more e st = judged_end ending before s st
  judged ending (t ∷ ts) before n s of more e st = go (consume t.word t.text s) refl (λ x. judged ending ts (before ++ t ∷ []) (begun_with t n) x of' (are-first version t ts more).1 (ap (begun_with t) e ∙ sym (begun-more before t)))
    where
      of' : AreOf version (before ++ t ∷ [])
      of' = are-append version before (t ∷ []) of (are-first version t ts more).0

      within : (s' : List Sym) → consume t.word t.text s ≡ Some s' → StandsAfter (before ++ t ∷ []) s' → (o : Option ℕ) → broken n t (nesting s') ≡ o → Says ending (before ++ t ∷ []) ts (judge ending (begun_with t n) s' ts)
          → Says ending before (t ∷ ts) (unless_broken o t.at (judge ending (begun_with t n) s' ts))
      within s' f st' (Some k) g r =
          let g' : broken (functions_begun before) t (nesting s') ≡ Some k = ap (λ m. broken m t (nesting s')) (sym e) ∙ g in
          inl (breaks_limit (viable version _ s' of' st') (is_broken before t (nesting s') k (is_nested before t s s' of' st f st') g'), refl)
      within s' f st' None g r = on_rest (judge ending (begun_with t n) s' ts) r
        where
          fine : (k : ℕ) → BreaksLimit version before t k → ⊥
          fine = not_broken before t (nesting s') (nested_so before t s s' st f) (ap (λ m. broken m t (nesting s')) (sym e) ∙ g)

          on_rest : (o : Option PlacedFault) → Says ending (before ++ t ∷ []) ts o → Says ending before (t ∷ ts) o
          on_rest None q = (q.0, (fine, q.1), (q.2.0, subst (λ x. IsScript x q.2.0) (append_assoc before (t ∷ []) ts) q.2.1))
          on_rest (Some x) q = inr (no_fault before t (viable version _ s' of' st') fine, q)

      go : (o : Option (List Sym)) → consume t.word t.text s ≡ o → ((x : List Sym) → StandsAfter (before ++ t ∷ []) x → Says ending (before ++ t ∷ []) ts (judge ending (begun_with t n) x ts))
          → Says ending before (t ∷ ts) (verdict n t o (λ s'. judge ending (begun_with t n) s' ts))
      go None f ih = inl (unexpected (λ v. let q = taken version (before ++ t ∷ []) v in none-some _ (sym (one_more before t s st ∙ f) ∙ q.1)), refl)
      go (Some s') f ih = let st' = one_more before t s st ∙ f in within s' f st' (broken n t (nesting s')) refl (ih s' st')

  -- a script within the limits has no fault
  no_fault_in_script : (ending : TextEnd) (ts before : List Terminal) (fs : List Function) (number at : ℕ) → ending.stop ≡ End → AreOf version (before ++ ts) → IsScript (before ++ ts) fs → WithinAfter version before ts → FaultAfter version ending before ts number at → ⊥
  no_fault_in_script ending [] before fs number at e of d w f =
      let g : FaultAtStop version ending.end End before number at = subst (λ w. FaultAtStop version ending.end w before number at) e f in
      g.2 fs (subst (AreOf version) (append-nil before) of, subst (λ x. IsScript x fs) (append-nil before) d)
  no_fault_in_script ending (t ∷ ts) before fs number at e of d w (inl f) =
      let of' = subst (AreOf version) (sym (append_assoc before (t ∷ []) ts)) of in
      let d' = subst (λ x. IsScript x fs) (sym (append_assoc before (t ∷ []) ts)) d in
      no_fault before t (ts, fs, (of', d')) w.0 number f.0
  no_fault_in_script ending (t ∷ ts) before fs number at e of d w (inr f) =
      let of' = subst (AreOf version) (sym (append_assoc before (t ∷ []) ts)) of in
      let d' = subst (λ x. IsScript x fs) (sym (append_assoc before (t ∷ []) ts)) d in
      no_fault_in_script ending ts (before ++ t ∷ []) fs number at e of' d' w.1 f.1

  -- the machine's answer, for the whole list
  pub bad_is_fault : (ending : TextEnd) (ts : List Terminal) (n at : ℕ) → AreOf version ts → judge ending 0 (functions ∷ []) ts ≡ Some (n, at) → FaultAfter version ending [] ts n at
  bad_is_fault ending ts n at of e = subst (Says ending [] ts) e (judged ending ts [] 0 (functions ∷ []) of_none of refl refl)

  pub none_is_program : (ending : TextEnd) (ts : List Terminal) (fs : List Function) → AreOf version ts → judge ending 0 (functions ∷ []) ts ≡ None → IsScript ts fs → (ending.stop ≡ End) × IsProgram version ts fs
  none_is_program ending ts fs of e d =
      let w = subst (Says ending [] ts) e (judged ending ts [] 0 (functions ∷ []) of_none of refl refl) in
      (w.0, record { of_version = of; derives = d; within = w.1 })

  pub never_bad : (ending : TextEnd) (ts : List Terminal) (fs : List Function) (n at : ℕ) → ending.stop ≡ End → IsProgram version ts fs → FaultAfter version ending [] ts n at → ⊥
  never_bad ending ts fs n at e t f = no_fault_in_script ending ts [] fs n at e t.of_version t.derives t.within f
