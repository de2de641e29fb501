-- The fault of a text is the first of all that it has.
use Rattle.std.proofs.Common.{◌≡◌, ℕ, suc, ◌<◌, ◌≤◌, List, [], ◌∷◌, ◌++◌, length, drop, Option, Some, None, ◌⊎◌, inl, inr, refl, sym, ap, ◌∙◌, subst, append_assoc, append-nil, arith}
use Rattle.std.specs.Prelude.{slice_get}
use Rattle.std.proofs.lemmas.Bool.{cases_lt}
use Rattle.std.proofs.lemmas.Option.{same_Some, slice_get_within}
use Rattle.script_tokens.specs.declared.version.Version.{Version}
use Rattle.script_tokens.specs.declared.token.Lexeme.{Lexeme}
use Rattle.script_tokens.specs.declared.lexing.LexEnd.{LexEnd}
use Rattle.script_tokens.specs.declared.lexing.LexEnd.TheVariants.{End, NotAscii, NoToken}
use Rattle.script_tokens.specs.Version.{version_of, begins_at}
use Rattle.script_tokens.specs.Lexing.{IsLexed}
use Rattle.script_tokens.proofs.Cuts.{every_text}
use Rattle.script_grammar.specs.declared.tree.Function.{Function}
use Rattle.script_grammar.specs.Grammar.{Terminal, IsScript, AreOf, IsScriptOf, IsViable}
use Rattle.script_grammar.specs.Fault.{BreaksLimit, IsFault, unexpected, breaks_limit, TextEnd, FaultAtStop, FaultAfter, WithinAfter}
use Rattle.script_grammar.specs.Text.{tokens_of, SyntaxFault}
use Rattle.script_grammar.proofs.Versions.{are_of_cut}
use Rattle.script_text.specs.Faults.{HasTokens, HasFault, not_ascii, no_token, of_token, unexpected_end, IsFirstFault}
use Rattle.script_text.specs.Laws.{FaultIsFirst}
use Rattle.script_text.specs.Machine.{Sym, functions, nesting, PlacedFault, judge}
use Rattle.script_text.proofs.Nesting.Sound.{viable, are-append, are-first}
use Rattle.script_text.proofs.OneFault.Judged.{StandsAfter, Says, judged, of_none, bad_is_fault}
use Rattle.script_text.proofs.OneFault.Unique.{one_number, taken_low}
use Rattle.script_text.proofs.OneTree.Whole.{cut_once}
use Rattle.script_text.proofs.OneFault.Ascii.{StopsAt, place_of, InRow, cut-stops, cut-row}

-- The order of faults

abbrev NotAfter : (number at n place : ℕ) → Type 0
NotAfter number at n place = (at < place) ⊎ ((at ≡ place) × (number ≤ n))

not-later : (number at n place : ℕ) → NotAfter number at n place → at ≤ place
not-later number at n place (inl h) = omega (arith, h)
not-later number at n place (inr h) = omega (arith, h.0)

no-greater : (number at n : ℕ) → NotAfter number at n at → number ≤ n
no-greater number at n (inl h) = absurd (omega (arith, h))
no-greater number at n (inr h) = h.1

row-later : (ts : List Terminal) (from end : ℕ) → InRow from ts end → from ≤ end
row-later [] from end r = r
row-later (t ∷ ts) from end r = let l = row-later ts (suc t.at) end r.1 in omega (arith, r.0, l)

row-at : (b after : List Terminal) (t : Terminal) (from end : ℕ) → InRow from (b ++ t ∷ after) end → from ≤ t.at
row-at [] after t from end r = r.0
row-at (u ∷ b) after t from end r = let l = row-at b after t (suc u.at) end r.1 in omega (arith, r.0, l)

module _ (version : Version) (ending : TextEnd) where
  -- the fault of some tokens isn't after that of one of them
  first-token : (b before after : List Terminal) (t : Terminal) (s : List Sym) → AreOf version before → AreOf version (b ++ t ∷ after) → StandsAfter before s → nesting s ≤ 64 → (from end : ℕ) → InRow from (b ++ t ∷ after) end →
      (number at n : ℕ) → FaultAfter version ending before (b ++ t ∷ after) number at → IsFault version (before ++ b) t n → NotAfter number at n t.at
  first-token [] before after t s of more st low from end r number at n f g = go f
    where
      here : IsFault version before t n
      here = subst (λ l. IsFault version l t n) (append-nil before) g

      of' : AreOf version (before ++ t ∷ [])
      of' = are-append version before (t ∷ []) of (are-first version t after more).0

      go : FaultAfter version ending before (t ∷ after) number at → NotAfter number at n t.at
      go (inl x) = let same = one_number version before t s of' st low number n x.0 here in inr (x.1, omega (arith, same))
      go (inr x) = absurd (x.0 n here)
  first-token (u ∷ b) before after t s of more st low from end r number at n f g = go f (λ x. first-token b (before ++ u ∷ []) after t x of' (are-first version u (b ++ t ∷ after) more).1)
    where
      of' : AreOf version (before ++ u ∷ [])
      of' = are-append version before (u ∷ []) of (are-first version u (b ++ t ∷ after) more).0

      there : IsFault version ((before ++ u ∷ []) ++ b) t n
      there = subst (λ l. IsFault version l t n) (sym (append_assoc before (u ∷ []) b)) g

      go : FaultAfter version ending before (u ∷ (b ++ t ∷ after)) number at →
          ((x : List Sym) → StandsAfter (before ++ u ∷ []) x → nesting x ≤ 64 → (from end : ℕ) → InRow from (b ++ t ∷ after) end → (number at n : ℕ) → FaultAfter version ending (before ++ u ∷ []) (b ++ t ∷ after) number at →
          IsFault version ((before ++ u ∷ []) ++ b) t n → NotAfter number at n t.at) → NotAfter number at n t.at
      go (inl x) later = let l = row-at b after t (suc u.at) end r.1 in inl (omega (arith, x.1, l))
      go (inr x) later = let q = taken_low version before u s of' st x.0 in later q.0 q.1 q.2 (suc u.at) end r.1 number at n x.1 there

  -- it stands before the end, or is that of the end
  before-stop : (ts before : List Terminal) (from end : ℕ) → InRow from ts end → (number at : ℕ) → FaultAfter version ending before ts number at →
      (at < end) ⊎ FaultAtStop version ending.end ending.stop (before ++ ts) number at
  before-stop [] before from end r number at f = inr (subst (λ l. FaultAtStop version ending.end ending.stop l number at) (sym (append-nil before)) f)
  before-stop (t ∷ ts) before from end r number at f = go f (λ g. before-stop ts (before ++ t ∷ []) (suc t.at) end r.1 number at g)
    where
      go : FaultAfter version ending before (t ∷ ts) number at → (FaultAfter version ending (before ++ t ∷ []) ts number at → (at < end) ⊎ FaultAtStop version ending.end ending.stop ((before ++ t ∷ []) ++ ts) number at) →
          (at < end) ⊎ FaultAtStop version ending.end ending.stop (before ++ t ∷ ts) number at
      go (inl x) later = let l = row-later ts (suc t.at) end r.1 in inl (omega (arith, x.1, l))
      go (inr x) later = subst (λ l. (at < end) ⊎ FaultAtStop version ending.end ending.stop l number at) (append_assoc before (t ∷ []) ts) (later x.1)

  -- a token of a script within the limits is at no fault
  within-at : (b before after : List Terminal) (t : Terminal) (n : ℕ) → WithinAfter version before (b ++ t ∷ after) → BreaksLimit version (before ++ b) t n → ⊥
  within-at [] before after t n w g = w.0 n (subst (λ l. BreaksLimit version l t n) (append-nil before) g)
  within-at (u ∷ b) before after t n w g = within-at b (before ++ u ∷ []) after t n w.1 (subst (λ l. BreaksLimit version l t n) (sym (append_assoc before (u ∷ []) b)) g)

-- A text has the fault that is told of it.
module _ (bytes : List ℕ) (ls : List Lexeme) (stop : LexEnd) (cut : IsLexed bytes (version_of bytes) ls stop) where
  abbrev version : Version
  version = version_of bytes

  abbrev ending : TextEnd
  ending = record { end = length bytes; stop = stop }

  abbrev tokens : List Terminal
  tokens = tokens_of bytes ls

  tokens-of : AreOf version tokens
  tokens-of = are_of_cut bytes version ls stop cut

  has-tokens : HasTokens bytes tokens stop
  has-tokens = record { lexemes = ls; cut = cut; same = refl }

  has-stop : (end : LexEnd) → stop ≡ end → (before : List Terminal) (s : List Sym) → AreOf version before → StandsAfter before s → before ≡ tokens → (number at : ℕ) → FaultAtStop version (length bytes) end before number at → HasFault bytes number at
  has-stop End e before s of st same number at f =
      let here : HasFault bytes 6 (length bytes) =
      unexpected_end (subst (HasTokens bytes tokens) e has-tokens) (subst (IsViable version) same (viable version before s of st)) (subst (λ l. (fs : List Function) → IsScriptOf version l fs → ⊥) same f.2) in
      subst (λ n. HasFault bytes n at) (sym f.0) (subst (HasFault bytes 6) (sym f.1) here)
  has-stop (NotAscii place) e before s of st same number at f =
      let q : StopsAt 0 bytes (NotAscii place) = subst (StopsAt 0 bytes) e (cut-stops bytes version ls stop cut) in
      let there : at ≡ q.0 = omega (arith, f.1, q.2) in
      subst (λ n. HasFault bytes n at) (sym f.0) (subst (HasFault bytes 1) (sym there) (not_ascii q.4 q.5))
  has-stop (NoToken place) e before s of st same number at f =
      subst (λ n. HasFault bytes n at) (sym f.0) (subst (HasFault bytes 2) (sym f.1) (no_token (subst (HasTokens bytes tokens) e has-tokens)))

  has-of : (ts before : List Terminal) (s : List Sym) → AreOf version before → AreOf version ts → StandsAfter before s → nesting s ≤ 64 → before ++ ts ≡ tokens → (number at : ℕ) → FaultAfter version ending before ts number at → HasFault bytes number at
  has-of [] before s of more st low same number at f = has-stop stop refl before s of st (sym (append-nil before) ∙ same) number at f
  has-of (t ∷ ts) before s of more st low same number at f = go f (λ x. has-of ts (before ++ t ∷ []) x of' (are-first version t ts more).1)
    where
      of' : AreOf version (before ++ t ∷ [])
      of' = are-append version before (t ∷ []) of (are-first version t ts more).0

      go : FaultAfter version ending before (t ∷ ts) number at →
          ((x : List Sym) → StandsAfter (before ++ t ∷ []) x → nesting x ≤ 64 → (before ++ t ∷ []) ++ ts ≡ tokens → (number at : ℕ) → FaultAfter version ending (before ++ t ∷ []) ts number at → HasFault bytes number at) → HasFault bytes number at
      go (inl x) later = subst (HasFault bytes number) (sym x.1) (of_token ts (subst (λ l. HasTokens bytes l stop) (sym same) has-tokens) x.0)
      go (inr x) later = let q = taken_low version before t s of' st x.0 in later q.0 q.1 q.2 (append_assoc before (t ∷ []) ts ∙ same) number at x.1

  none-of : AreOf version []
  none-of = of_none version

  has-told : (number at : ℕ) → FaultAfter version ending [] tokens number at → HasFault bytes number at
  has-told number at f = has-of tokens [] (functions ∷ []) none-of tokens-of refl (omega arith) refl number at f

  -- No fault of it is before the one that is told.
  row : InRow 0 tokens (place_of (length bytes) stop)
  row = cut-row bytes version ls stop cut

  low-there : (stop : LexEnd) → StopsAt 0 bytes stop → (place b : ℕ) → slice_get bytes place ≡ Some b → 128 ≤ b → (number at : ℕ) → (at < place_of (length bytes) stop) ⊎ FaultAtStop version (length bytes) stop tokens number at → NotAfter number at 1 place
  low-there End q place b e h number at k =
      let inside = slice_get_within bytes place b e in let low = q place b inside e in absurd (omega (arith, low, h))
  low-there (NotAscii p) q place b e h number at k = by_place (cases_lt place q.0) k
    where
      by_place : (place < q.0) ⊎ (q.0 ≤ place) → (at < p) ⊎ ((number ≡ 1) × (at ≡ p)) → NotAfter number at 1 place
      by_place (inl l) k = let low = q.3 place b l e in absurd (omega (arith, low, h))
      by_place (inr l) (inl m) = inl (omega (arith, l, m, q.2))
      by_place (inr l) (inr m) = at_place (cases_lt p place)
        where
          at_place : (p < place) ⊎ (place ≤ p) → NotAfter number at 1 place
          at_place (inl o) = inl (omega (arith, o, m.1))
          at_place (inr o) = inr (omega (arith, o, l, m.1, q.2), omega (arith, m.0))
  low-there (NoToken p) q place b e h number at k = by_place (cases_lt place q.0) (cases_lt q.0 place) k
    where
      by_place : (place < q.0) ⊎ (q.0 ≤ place) → (q.0 < place) ⊎ (place ≤ q.0) → (at < p) ⊎ ((number ≡ 2) × (at ≡ p)) → NotAfter number at 1 place
      by_place (inl l) i k = let low = q.3 place b l e in absurd (omega (arith, low, h))
      by_place (inr l) (inr i) k =
          let there : place ≡ q.0 = omega (arith, l, i) in
          let same : q.1 ≡ b = same_Some q.1 b (sym q.4 ∙ ap (slice_get bytes) (sym there) ∙ e) in absurd (omega (arith, same, h, q.5))
      by_place (inr l) (inl i) (inl m) = inl (omega (arith, i, m, q.2))
      by_place (inr l) (inl i) (inr m) = inl (omega (arith, i, m.1, q.2))

  module _ (number at : ℕ) (f : FaultAfter version ending [] tokens number at) where
    stopped : (at < place_of (length bytes) stop) ⊎ FaultAtStop version (length bytes) stop tokens number at
    stopped = before-stop version ending tokens [] 0 (place_of (length bytes) stop) row number at f

    stopped-as : (end : LexEnd) → stop ≡ end → (at < place_of (length bytes) end) ⊎ FaultAtStop version (length bytes) end tokens number at
    stopped-as end e = subst (λ w. (at < place_of (length bytes) w) ⊎ FaultAtStop version (length bytes) w tokens number at) e stopped

    not-after : (n place : ℕ) → HasFault bytes n place → NotAfter number at n place
    not-after n place (not_ascii {b = b} e h) = low-there stop (cut-stops bytes version ls stop cut) place b e h number at stopped
    not-after n place (no_token h) = from (stopped-as (NoToken place) (cut_once bytes version version ls h.lexemes stop (NoToken place) cut h.cut).2)
      where
        from : (at < place) ⊎ ((number ≡ 2) × (at ≡ place)) → NotAfter number at 2 place
        from (inl l) = inl l
        from (inr m) = inr (m.1, omega (arith, m.0))
    not-after n place (of_token {before = b} {t = t} after {stop = end} h g) =
        let same : tokens ≡ b ++ t ∷ after = ap (tokens_of bytes) (cut_once bytes version version ls h.lexemes stop end cut h.cut).1 ∙ h.same in
        first-token version ending b [] after t (functions ∷ []) none-of (subst (AreOf version) same tokens-of) refl (omega arith) 0 (place_of (length bytes) stop)
        (subst (λ l. InRow 0 l (place_of (length bytes) stop)) same row) number at n (subst (λ l. FaultAfter version ending [] l number at) same f) g
    not-after n place (unexpected_end h v never) = from (stopped-as End (cut_once bytes version version ls h.lexemes stop End cut h.cut).2)
      where
        from : (at < length bytes) ⊎ ((number ≡ 6) × (at ≡ length bytes) × ((fs : List Function) → IsScriptOf version tokens fs → ⊥)) → NotAfter number at 6 (length bytes)
        from (inl l) = inl l
        from (inr m) = inr (m.1, omega (arith, m.0))

  -- A script within the limits has none.
  no-fault : stop ≡ End → WithinAfter version [] tokens → (fs : List Function) → IsScript tokens fs → (n place : ℕ) → HasFault bytes n place → ⊥
  no-fault e w fs d n place (not_ascii {b = b} k h) =
      let q : StopsAt 0 bytes End = subst (StopsAt 0 bytes) e (cut-stops bytes version ls stop cut) in
      let low = q place b (slice_get_within bytes place b k) k in omega (arith, low, h)
  no-fault e w fs d n place (no_token h) =
      let clash : End ≡ NoToken place = sym e ∙ (cut_once bytes version version ls h.lexemes stop (NoToken place) cut h.cut).2 in cc
  no-fault e w fs d n place (of_token {before = b} {t = t} after {stop = end} h g) = from n g
    where
      same : tokens ≡ b ++ t ∷ after
      same = ap (tokens_of bytes) (cut_once bytes version version ls h.lexemes stop end cut h.cut).1 ∙ h.same

      split : (b ++ t ∷ []) ++ after ≡ tokens
      split = append_assoc b (t ∷ []) after ∙ sym same

      from : (m : ℕ) → IsFault version b t m → ⊥
      from m (unexpected u) = u (after, fs, (subst (AreOf version) (sym split) tokens-of, subst (λ l. IsScript l fs) (sym split) d))
      from m (breaks_limit v x) = within-at version ending b [] after t m (subst (WithinAfter version []) same w) x
  no-fault e w fs d n place (unexpected_end {tokens = ts} h v never) =
      let same : tokens ≡ ts = ap (tokens_of bytes) (cut_once bytes version version ls h.lexemes stop End cut h.cut).1 ∙ h.same in
      never fs (subst (AreOf version) same tokens-of, subst (λ l. IsScript l fs) same d)

  -- A text that has a fault is told one.
  told : (number at : ℕ) → HasFault bytes number at → (n place : ℕ) × SyntaxFault bytes n place
  told number at h = by_answer (judge ending 0 (functions ∷ []) tokens) refl
    where
      by_answer : (o : Option PlacedFault) → judge ending 0 (functions ∷ []) tokens ≡ o → (n place : ℕ) × SyntaxFault bytes n place
      by_answer (Some x) e = (x.0, x.1, record { lexemes = ls; stop = stop; cut = cut; fault = bad_is_fault version ending tokens x.0 x.1 tokens-of e })
      by_answer None e =
          let w = subst (Says version ending [] tokens) e (judged version ending tokens [] 0 (functions ∷ []) none-of tokens-of refl refl) in absurd (no-fault w.0 w.1 w.2.0 w.2.1 number at h)

told-some : (bytes : List ℕ) (number at : ℕ) → HasFault bytes number at → (n place : ℕ) × SyntaxFault bytes n place
told-some bytes number at h =
    let first = begins_at (version_of bytes) in
    let c = every_text (version_of bytes) first (drop first bytes) in
    told bytes c.0 c.1 (record { told = refl; cut = c.2 }) number at h

first-of : (bytes : List ℕ) (number at : ℕ) → SyntaxFault bytes number at → IsFirstFault bytes number at
first-of bytes number at f = record {
  has = has-told bytes f.lexemes f.stop f.cut number at f.fault;
  first = λ n place h. not-later number at n place (not-after bytes f.lexemes f.stop f.cut number at f.fault n place h);
  least = λ n h. no-greater number at n (not-after bytes f.lexemes f.stop f.cut number at f.fault n at h);
}

of-first : (bytes : List ℕ) (number at : ℕ) → IsFirstFault bytes number at → SyntaxFault bytes number at
of-first bytes number at f =
    let t = told-some bytes number at f.has in
    let g = first-of bytes t.0 t.1 t.2 in
    let forth : at ≤ t.1 = f.first t.0 t.1 g.has in
    let back : t.1 ≤ at = g.first number at f.has in
    let there : at ≡ t.1 = omega (arith, forth, back) in
    let most : number ≤ t.0 = f.least t.0 (subst (HasFault bytes t.0) (sym there) g.has) in
    let least : t.0 ≤ number = g.least number (subst (HasFault bytes number) there f.has) in
    let same : t.0 ≡ number = omega (arith, most, least) in
    subst (λ n. SyntaxFault bytes n at) same (subst (SyntaxFault bytes t.0) (sym there) t.2)

pub fault_first : FaultIsFirst
fault_first bytes number at = (first-of bytes number at, of-first bytes number at)
