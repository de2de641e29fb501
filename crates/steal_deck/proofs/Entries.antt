-- Facts about lists of entries.
use Rattle.std.proofs.Common.{◌≡◌, ℕ, zero, suc, ◌+◌, ◌<◌, Bool, true, false, List, [], ◌∷◌, ◌++◌, map, length, set, sym, refl, ap, subst, arith}
use mathlib.Core.Option.{some, some-injective, some-ne-none}
use lib.ListN.{get_elem?}
use Rattle.crossbeam_deque.proofs.Lists.{at_longer}
use Rattle.steal_deck.specs.declared.rule.Party.{Party}
use Rattle.steal_deck.specs.Accounts.{one_if, AreEntriesOf}
use Rattle.steal_deck.proofs.Weights.{below, weigh, taken_by, thieves, AllAreOf, Above, Rising, Idle}

module _ {T : Type 0} where
  pub length_more : (l : List T) (x : T) → length (l ++ x ∷ []) ≡ suc (length l)
  length_more [] x = refl
  length_more (y ∷ ys) x = ap suc (length_more ys x)

  pub below_more : (h : ℕ → ℕ) (l : List T) (x : T) → below h (length (l ++ x ∷ [])) ≡ below h (length l) + h (length l)
  below_more h l x = ap (below h) (length_more l x)

  pub in_range : (l : List T) (n : ℕ) (x : T) → get_elem? l n ≡ some x → n < length l
  in_range [] n x e = absurd (some-ne-none x (sym e))
  in_range (y ∷ ys) zero x e = omega arith
  in_range (y ∷ ys) (suc n) x e = omega (arith, in_range ys n x e)

  pub weigh_more : (h : ℕ → ℕ) (es : List (ℕ × T)) (e : ℕ × T) → weigh h (es ++ e ∷ []) ≡ weigh h es + h e.0
  weigh_more h [] e = omega arith
  weigh_more h (y ∷ ys) e = omega (arith, weigh_more h ys e)

  pub weigh_both : (h : ℕ → ℕ) (es fs : List (ℕ × T)) → weigh h (es ++ fs) ≡ weigh h es + weigh h fs
  weigh_both h [] fs = omega arith
  weigh_both h (y ∷ ys) fs = omega (arith, weigh_both h ys fs)

  pub tasks_more : (es : List (ℕ × T)) (e : ℕ × T) → map (λ y. y.1) (es ++ e ∷ []) ≡ map (λ y. y.1) es ++ e.1 ∷ []
  tasks_more [] e = refl
  tasks_more (y ∷ ys) e = ap (λ l. y.1 ∷ l) (tasks_more ys e)

  pub named_longer : (p q : List T) (es : List (ℕ × T)) → AreEntriesOf p es → AreEntriesOf (p ++ q) es
  named_longer p q [] h = tt
  named_longer p q (e ∷ es) h = (at_longer p q e.0 e.1 h.0, named_longer p q es h.1)

  pub all_named_longer : (p q : List T) (vs : List (Party T)) → AllAreOf p vs → AllAreOf (p ++ q) vs
  all_named_longer p q [] h = tt
  all_named_longer p q (v ∷ vs) h = (named_longer p q v.taken h.0, all_named_longer p q vs h.1)

  pub named_more : (p : List T) (es : List (ℕ × T)) (e : ℕ × T) → AreEntriesOf p es → get_elem? p e.0 ≡ some e.1 → AreEntriesOf p (es ++ e ∷ [])
  named_more p [] e h at = (at, tt)
  named_more p (y ∷ ys) e h at = (h.0, named_more p ys e h.1 at)

  pub named_both : (p : List T) (es fs : List (ℕ × T)) → AreEntriesOf p es → AreEntriesOf p fs → AreEntriesOf p (es ++ fs)
  named_both p [] fs h k = k
  named_both p (y ∷ ys) fs h k = (h.0, named_both p ys fs h.1 k)

  pub named_front : (p : List T) (es : List (ℕ × T)) (e : ℕ × T) → AreEntriesOf p (es ++ e ∷ []) → AreEntriesOf p es × (get_elem? p e.0 ≡ some e.1)
  named_front p [] e h = (tt, h.0)
  named_front p (y ∷ ys) e h = let t = named_front p ys e h.1 in ((h.0, t.0), t.1)

  above_more : (n : ℕ) (es : List (ℕ × T)) (e : ℕ × T) → Above n es → n < e.0 → Above n (es ++ e ∷ [])
  above_more n [] e h lt = (lt, tt)
  above_more n (y ∷ ys) e h lt = (h.0, above_more n ys e h.1 lt)

  above_front : (n : ℕ) (es : List (ℕ × T)) (e : ℕ × T) → Above n (es ++ e ∷ []) → Above n es
  above_front n [] e h = tt
  above_front n (y ∷ ys) e h = (h.0, above_front n ys e h.1)

  pub rising_more : (p : List T) (es : List (ℕ × T)) (x : T) → Rising es → AreEntriesOf p es → Rising (es ++ (length p, x) ∷ [])
  rising_more p [] x r h = (tt, tt)
  rising_more p (y ∷ ys) x r h = (above_more y.0 ys (length p, x) r.0 (in_range p y.0 y.1 h.0), rising_more p ys x r.1 h.1)

  pub rising_front : (es : List (ℕ × T)) (e : ℕ × T) → Rising (es ++ e ∷ []) → Rising es
  rising_front [] e r = tt
  rising_front (y ∷ ys) e r = (above_front y.0 ys e r.0, rising_front ys e r.1)

  -- no thief is out, so the others have taken nothing
  none_out_at : (h : ℕ → ℕ) (b : Bool) (v : Party T) (vs : List (Party T)) → v.is_thief ≡ b → one_if v.is_thief ≡ 0 → Idle (v ∷ vs) → taken_by h vs ≡ 0 → taken_by h (v ∷ vs) ≡ 0
  none_out_at h true v vs o e i rest = let f = ap one_if o in absurd (omega arith)
  none_out_at h false v vs o e i rest = let a : weigh h v.taken ≡ 0 = ap (weigh h) (i.0 o) in omega arith

  pub none_out : (h : ℕ → ℕ) (vs : List (Party T)) → thieves vs ≡ 0 → Idle vs → taken_by h vs ≡ 0
  none_out h [] e i = refl
  none_out h (v ∷ vs) e i = none_out_at h v.is_thief v vs refl (omega arith) i (none_out h vs (omega arith) i.1)

  -- a change of one pass
  pub set_there : (vs : List (Party T)) (k : ℕ) (v w : Party T) → get_elem? vs k ≡ some v → get_elem? (set vs k w) k ≡ some w
  set_there [] k v w at = absurd (some-ne-none v (sym at))
  set_there (x ∷ xs) zero v w at = refl
  set_there (x ∷ xs) (suc k) v w at = set_there xs k v w at

  pub taken_set : (h : ℕ → ℕ) (vs : List (Party T)) (k : ℕ) (v w : Party T) → get_elem? vs k ≡ some v → taken_by h (set vs k w) + weigh h v.taken ≡ taken_by h vs + weigh h w.taken
  taken_set h [] k v w at = absurd (some-ne-none v (sym at))
  taken_set h (x ∷ xs) zero v w at = let e : weigh h x.taken ≡ weigh h v.taken = ap (λ (y : Party T). weigh h y.taken) (some-injective x v at) in omega arith
  taken_set h (x ∷ xs) (suc k) v w at = omega (arith, taken_set h xs k v w at)

  pub thieves_set : (vs : List (Party T)) (k : ℕ) (v w : Party T) → get_elem? vs k ≡ some v → thieves (set vs k w) + one_if v.is_thief ≡ thieves vs + one_if w.is_thief
  thieves_set [] k v w at = absurd (some-ne-none v (sym at))
  thieves_set (x ∷ xs) zero v w at = let e : one_if x.is_thief ≡ one_if v.is_thief = ap (λ (y : Party T). one_if y.is_thief) (some-injective x v at) in omega arith
  thieves_set (x ∷ xs) (suc k) v w at = omega (arith, thieves_set xs k v w at)

  pub named_at : (p : List T) (vs : List (Party T)) (k : ℕ) (v : Party T) → get_elem? vs k ≡ some v → AllAreOf p vs → AreEntriesOf p v.taken
  named_at p [] k v at h = absurd (some-ne-none v (sym at))
  named_at p (x ∷ xs) zero v at h = subst (λ (y : Party T). AreEntriesOf p y.taken) (some-injective x v at) h.0
  named_at p (x ∷ xs) (suc k) v at h = named_at p xs k v at h.1

  pub named_set : (p : List T) (vs : List (Party T)) (k : ℕ) (w : Party T) → AllAreOf p vs → AreEntriesOf p w.taken → AllAreOf p (set vs k w)
  named_set p [] k w h n = tt
  named_set p (x ∷ xs) zero w h n = (n, h.1)
  named_set p (x ∷ xs) (suc k) w h n = (h.0, named_set p xs k w h.1 n)

  pub idle_set : (vs : List (Party T)) (k : ℕ) (w : Party T) → Idle vs → (w.is_thief ≡ false → w.taken ≡ []) → Idle (set vs k w)
  idle_set [] k w i n = tt
  idle_set (x ∷ xs) zero w i n = (n, i.1)
  idle_set (x ∷ xs) (suc k) w i n = (i.0, idle_set xs k w i.1 n)

  pub taken_more : (h : ℕ → ℕ) (vs : List (Party T)) (w : Party T) → taken_by h (vs ++ w ∷ []) ≡ taken_by h vs + weigh h w.taken
  taken_more h [] w = omega arith
  taken_more h (x ∷ xs) w = omega (arith, taken_more h xs w)

  pub thieves_more : (vs : List (Party T)) (w : Party T) → thieves (vs ++ w ∷ []) ≡ thieves vs + one_if w.is_thief
  thieves_more [] w = omega arith
  thieves_more (x ∷ xs) w = omega (arith, thieves_more xs w)

  pub all_named_more : (p : List T) (vs : List (Party T)) (w : Party T) → AllAreOf p vs → AreEntriesOf p w.taken → AllAreOf p (vs ++ w ∷ [])
  all_named_more p [] w h n = (n, tt)
  all_named_more p (x ∷ xs) w h n = (h.0, all_named_more p xs w h.1 n)

  pub idle_more : (vs : List (Party T)) (w : Party T) → Idle vs → (w.is_thief ≡ false → w.taken ≡ []) → Idle (vs ++ w ∷ [])
  idle_more [] w i n = (n, tt)
  idle_more (x ∷ xs) w i n = (i.0, idle_more xs w i.1 n)
