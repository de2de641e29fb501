-- Each step keeps the rule, and tells what it does.
use Rattle.std.proofs.Common.{◌≡◌, ℕ, zero, suc, ◌≤◌, true, false, List, [], ◌∷◌, ◌++◌, map, length, set, sym, refl, ap, ◌∙◌, subst, arith}
use mathlib.Core.Option.{some, some-injective}
use lib.ListN.{get_elem?}
use Rattle.std.proofs.lemmas.List.{length-map}
use Rattle.crossbeam_deque.specs.Tasks.{Pushes, Takes, Pops, Finds, FindsFew, Forks, Merges, Learns}
use Rattle.steal_deck.specs.declared.rule.Party.{Party}
use Rattle.steal_deck.specs.Accounts.{EachOnce, AreEntriesOf}
use Rattle.steal_deck.specs.History.{DeckEvent, DeckState, push, pop, steal, make_thief, take_back, state, owner, thief, retired, with_push, with_entry, with_thief, with_back, IsHistory, HasHistory, ThiefFindsFew}
use Rattle.steal_deck.specs.Steps.{One, Pushed, Popped, FoundNone, Stole, Accounted, party_taken}
use Rattle.steal_deck.proofs.Weights.{Lawful}
use Rattle.steal_deck.proofs.Entries.{tasks_more, named_front, set_there}
use Rattle.steal_deck.proofs.Lawful.{lawful}
use Rattle.steal_deck.proofs.Left.{all_home, each_home, all_are, last_fresh}

module _ {T : Type 0} where
  pub begins : HasHistory {T = T} [] (owner [] [] [] 0 0 ∷ [])
  begins = ([], state [] (owner [] [] [] 0 0) [], refl, refl, refl)

  -- what holds where the owner's pass is the first holds of the pass at the place 0
  at_owner : (r : DeckState T) (views : List (Party T)) (v : Party T) (G : List (Party T) → Party T → Type 0) → views ≡ r.owner ∷ r.others → get_elem? views 0 ≡ some v
      → G (r.owner ∷ r.others) r.owner → G views v
  at_owner r views v G q at g = subst (G views) (some-injective r.owner v (ap (λ vs. get_elem? vs 0) (sym q) ∙ at)) (subst (λ vs. G vs r.owner) (sym q) g)

  not_thief : (v : Party T) → v.is_thief ≡ false → v.is_thief ≡ true → ⊥
  not_thief v a b = let e : false ≡ true = sym a ∙ b in (cc)

  -- a thief's pass is one of the others
  at_thief : (r : DeckState T) (views : List (Party T)) (port : ℕ) (v : Party T) (G : List (Party T) → ℕ → Type 0) → views ≡ r.owner ∷ r.others → get_elem? views port ≡ some v
      → v.is_thief ≡ true → Lawful r → ((k : ℕ) → get_elem? r.others k ≡ some v → G (r.owner ∷ r.others) (suc k)) → G views port
  at_thief r views zero v G q at o d g =
      let is = some-injective r.owner v (ap (λ vs. get_elem? vs 0) (sym q) ∙ at) in
      absurd (not_thief r.owner d.is_owner (ap (λ (u : Party T). u.is_thief) is ∙ o))
  at_thief r views (suc k) v G q at o d g = subst (λ vs. G vs (suc k)) (sym q) (g k (ap (λ vs. get_elem? vs (suc k)) (sym q) ∙ at))

  pushed_on : (items : List T) (x : T) (events : List (DeckEvent T)) (r : DeckState T) → IsHistory events r → items ≡ map (λ e. e.1) r.left
      → (w : Party T) × HasHistory (items ++ x ∷ []) (w ∷ r.others) × Pushed r.owner x w
  pushed_on items x events r h q =
      let e : ℕ × T = (length r.owner.pushed, x) in
      let w : Party T = with_push r.owner x in
      let s : DeckState T = state (r.left ++ e ∷ []) w r.others in
      (w, (push x ∷ events, s, (r, h, refl), ap (λ l. l ++ x ∷ []) q ∙ sym (tasks_more r.left e), refl), (refl, (events, r, s, h, refl, refl, refl)))

  pub pushes : (v : Party T) (x : T) → Pushes HasHistory 0 v (x ∷ []) (λ w. One (λ y. Pushed v y w) (x ∷ []))
  pushes v x items views h at =
      at_owner h.1 views v (λ vs u. (w : Party T) × HasHistory (items ++ x ∷ []) (set vs 0 w) × Pushed u x w) h.4 at (pushed_on items x h.0 h.1 h.2 h.3)

  -- the last entry of a list of tasks
  unsnoc : (left : List (ℕ × T)) (items : List T) (x : T) → items ++ x ∷ [] ≡ map (λ y. y.1) left
      → (front : List (ℕ × T)) × (n : ℕ) × (left ≡ front ++ (n, x) ∷ []) × (items ≡ map (λ y. y.1) front)
  unsnoc [] [] x q = absurd (cc)
  unsnoc [] (y ∷ ys) x q = absurd (cc)
  unsnoc (e ∷ []) [] x q = let s : x ≡ e.1 = (cc) in ([], e.0, ap (λ (z : T). (e.0, z) ∷ []) (sym s), refl)
  unsnoc (e ∷ []) (y ∷ []) x q = absurd (cc)
  unsnoc (e ∷ []) (y ∷ z ∷ ys) x q = absurd (cc)
  unsnoc (e ∷ f ∷ es) [] x q = absurd (cc)
  unsnoc (e ∷ f ∷ es) (y ∷ ys) x q =
      let here : y ≡ e.1 = (cc) in
      let t = unsnoc (f ∷ es) ys x (cc) in
      (e ∷ t.0, t.1, ap (λ l. e ∷ l) t.2, (λ k. here k ∷ t.3 k))

  popped_off : (items : List T) (x : T) (events : List (DeckEvent T)) (r : DeckState T) (left : List (ℕ × T)) (n : ℕ) → IsHistory events r → r.left ≡ left ++ (n, x) ∷ []
      → items ≡ map (λ e. e.1) left → (w : Party T) × HasHistory items (w ∷ r.others) × Popped r.owner x w
  popped_off items x events r left n h q is =
      let e : ℕ × T = (n, x) in
      let w : Party T = with_entry r.owner e in
      let s : DeckState T = state left w r.others in
      let hist : IsHistory (pop e ∷ events) s = (r, h, (q, refl)) in
      let d = lawful events r h in
      let at = (named_front r.owner.pushed left e (subst (AreEntriesOf r.owner.pushed) q d.named.0)).1 in (
        w,
        (pop e ∷ events, s, hist, is, refl),
        (
          n,
          refl,
          (events, r, s, h, (q, refl), refl, refl),
          last_fresh r left e q at d,
          λ home. sym (all_home r d home) ∙ q ∙ ap (λ l. l ++ e ∷ []) (all_home s (lawful (pop e ∷ events) s hist) home),
        ),
      )

  pub pops : (v : Party T) → Pops HasHistory 0 v (λ xs w. One (λ x. Popped v x w) xs)
  pops v x items views h at =
      let t = unsnoc h.1.left items x h.3 in
      at_owner h.1 views v (λ vs u. (w : Party T) × HasHistory items (set vs 0 w) × Popped u x w) h.4 at (popped_off items x h.0 h.1 t.0 t.1 h.2 t.2 t.3)

  nothing_left : (left : List (ℕ × T)) → [] ≡ map (λ y. y.1) left → left ≡ []
  nothing_left [] e = refl
  nothing_left (x ∷ xs) e = absurd (cc)

  found_none : (events : List (DeckEvent T)) (r : DeckState T) → IsHistory events r → r.left ≡ [] → FoundNone r.owner
  found_none events r h q =
      let d = lawful events r h in (
        (events, r, h, refl, q),
        λ home. (
          sym (all_home r d home) ∙ q,
          subst (λ l. EachOnce (length r.owner.pushed) (l ++ party_taken r.owner)) q (each_home r d home),
        ),
      )

  pub finds : (v : Party T) → Finds HasHistory 0 v (FoundNone v)
  finds v views h at = at_owner h.1 views v (λ vs u. FoundNone u) h.4 at (found_none h.0 h.1 h.2 (nothing_left h.1.left h.3))

  steal_left : (left : List (ℕ × T)) (items : List T) (x : T) → x ∷ items ≡ map (λ y. y.1) left → (n : ℕ) × (es : List (ℕ × T)) × (left ≡ (n, x) ∷ es) × (items ≡ map (λ y. y.1) es)
  steal_left [] items x q = absurd (cc)
  steal_left (e ∷ es) items x q = let s : x ≡ e.1 = (cc) in (e.0, es, ap (λ (z : T). (e.0, z) ∷ es) (sym s), (cc))

  stolen_off : (items : List T) (x : T) (events : List (DeckEvent T)) (r : DeckState T) (left : List (ℕ × T)) (n k : ℕ) (v : Party T) → IsHistory events r → r.left ≡ (n, x) ∷ left
      → items ≡ map (λ e. e.1) left → v.is_thief ≡ true → get_elem? r.others k ≡ some v
      → (w : Party T) × HasHistory items (r.owner ∷ set r.others k w) × Stole v x w
  stolen_off items x events r left n k v h q is o at =
      let e : ℕ × T = (n, x) in
      let w : Party T = with_entry v e in
      let s : DeckState T = state left r.owner (set r.others k w) in (
        w,
        (steal k e ∷ events, s, (r, h, (v, (at, o), q, refl)), is, refl),
        (n, refl, (events, r, s, k, h, (v, (at, o), q, refl), at, set_there r.others k v w at)),
      )

  pub steals : (port : ℕ) (v : Party T) → v.is_thief ≡ true → Takes HasHistory port v 1 (λ xs w. One (λ x. Stole v x w) xs)
  steals port v o [] items views some_one few h at = absurd (omega arith)
  steals port v o (x ∷ y ∷ ys) items views some_one few h at = absurd (omega arith)
  steals port v o (x ∷ []) items views some_one few h at =
      let t = steal_left h.1.left items x h.3 in
      at_thief h.1 views port v (λ vs p. (w : Party T) × HasHistory items (set vs p w) × Stole v x w) h.4 at o (lawful h.0 h.1 h.2)
      (λ k at'. stolen_off items x h.0 h.1 t.1 t.0 k v h.2 t.2 t.3 o at')

  tasks_long : (items : List T) (left : List (ℕ × T)) → items ≡ map (λ y. y.1) left → length items ≡ length left
  tasks_long items left q = ap length q ∙ length-map left (λ y. y.1)

  pub finds_few : (most port : ℕ) (v : Party T) → v.is_thief ≡ true → most ≤ 1 → FindsFew HasHistory most port v (ThiefFindsFew v)
  finds_few most port v o le items views few h at =
      at_thief h.1 views port v (λ vs p. ThiefFindsFew v) h.4 at o (lawful h.0 h.1 h.2)
      (λ k at'. (h.0, h.1, k, h.2, at', (omega (arith, tasks_long items h.1.left h.3))))

  pub forks : (v : Party T) → Forks HasHistory 0 v (with_thief v) (thief [])
  forks v items views h at = let r = h.1 in
      at_owner r views v (λ vs u. HasHistory items (set vs 0 (with_thief u) ++ thief [] ∷ [])) h.4 at
      (make_thief ∷ h.0, state r.left (with_thief r.owner) (r.others ++ thief [] ∷ []), (r, h.2, refl), h.3, refl)

  come_back : (items : List T) (events : List (DeckEvent T)) (r : DeckState T) (k : ℕ) (u : Party T) → IsHistory events r → items ≡ map (λ e. e.1) r.left → get_elem? r.others k ≡ some u
      → u.is_thief ≡ true → HasHistory items (with_back r.owner u ∷ set r.others k retired)
  come_back items events r k u h q at o =
      (take_back k ∷ events, state r.left (with_back r.owner u) (set r.others k retired), (r, h, (u, (at, o), refl)), q, refl)

  merged : (items : List T) (events : List (DeckEvent T)) (r : DeckState T) (other : ℕ) (u : Party T) → IsHistory events r → items ≡ map (λ e. e.1) r.left → u.is_thief ≡ true → ¬ (other ≡ 0)
      → get_elem? (with_back r.owner u ∷ r.others) other ≡ some u → HasHistory items (set (with_back r.owner u ∷ r.others) other retired)
  merged items events r zero u h q o two at = absurd (two refl)
  merged items events r (suc k) u h q o two at = come_back items events r k u h q at o

  pub merges : (v : Party T) (other : ℕ) (u : Party T) → u.is_thief ≡ true → Merges HasHistory 0 v other u (with_back v u) retired
  merges v other u o items views h at two at' =
      at_owner h.1 views v (λ vs b. get_elem? (set vs 0 (with_back b u)) other ≡ some u → HasHistory items (set (set vs 0 (with_back b u)) other retired)) h.4 at
      (λ there. merged items h.0 h.1 other u h.2 h.3 o two there) at'

  accounts : (events : List (DeckEvent T)) (r : DeckState T) → IsHistory events r → Accounted r.owner
  accounts events r h home =
      let d = lawful events r h in
      let l = all_home r d home in (
        subst (λ es. EachOnce (length r.owner.pushed) (es ++ party_taken r.owner)) l (each_home r d home),
        subst (λ es. AreEntriesOf r.owner.pushed (es ++ party_taken r.owner)) l (all_are r d),
      )

  pub learns : (v : Party T) → Learns HasHistory 0 v (λ items. Accounted v)
  learns v items views h at = at_owner h.1 views v (λ vs u. Accounted u) h.4 at (accounts h.0 h.1 h.2)
