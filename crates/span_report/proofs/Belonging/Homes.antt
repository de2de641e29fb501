-- Which instance an event belongs to, and where two instances part.
use Rattle.std.proofs.Common.{◌≡◌, ◌≤◌, ◌<◌, ◌+◌, ℕ, zero, suc, List, [], ◌∷◌, ◌++◌, Option, Some, None, length, length-append, append-nil, append_assoc, refl, sym, ◌∙◌, ap, subst, arith}
use Rattle.std.specs.Prelude.{Contains, slice_get}
use Rattle.serial_meaning.specs.declared.event.Event.{Event}
use Rattle.span_report.specs.Series.{pedigree_of, Begins, BeginsProperly, IsEvent, IsInstancePath, IsHome, IsEventOf, IsMeet, PrecedesFrom, InSeries}
use Rattle.span_report.proofs.Nested.Clear.{Raises}

first-same : (x y : ℕ) (xs ys : List ℕ) → x ∷ xs ≡ y ∷ ys → x ≡ y
first-same x y xs ys e = ap first e
  where
    first : List ℕ → ℕ
    first [] = x
    first (z ∷ zs) = z

rest-same : (x y : ℕ) (xs ys : List ℕ) → x ∷ xs ≡ y ∷ ys → xs ≡ ys
rest-same x y xs ys e = ap rest e
  where
    rest : List ℕ → List ℕ
    rest [] = xs
    rest (z ∷ zs) = zs

-- Of one list the fronts of one length are the same.
pub same-front : (a b xs ys : List ℕ) → a ++ xs ≡ b ++ ys → length a ≡ length b → a ≡ b
same-front [] [] xs ys e l = refl
same-front [] (y ∷ b) xs ys e l = absurd (omega (arith, l))
same-front (x ∷ a) [] xs ys e l = absurd (omega (arith, l))
same-front (x ∷ a) (y ∷ b) xs ys e l =
    ap (λ (n : ℕ). n ∷ a) (first-same x y (a ++ xs) (b ++ ys) e) ∙ ap (λ (k : List ℕ). y ∷ k) (same-front a b xs ys (rest-same x y (a ++ xs) (b ++ ys) e) (omega (arith, l)))

pub begins-length : (front whole : List ℕ) → Begins front whole → length front ≤ length whole
begins-length front whole b = let e : length whole ≡ length front + length b.0 = ap (λ (l : List ℕ). length l) b.1 ∙ length-append front b.0 in omega (arith, e)

pub begins-before-rank : (front path : List ℕ) (rank : ℕ) → BeginsProperly front (path ++ rank ∷ []) → length front ≤ length path
begins-before-rank front path rank b =
    let e : length (path ++ rank ∷ []) ≡ length (front ++ b.0 ∷ b.1) = ap (λ (l : List ℕ). length l) b.2 in
    omega (arith, e, length-append path (rank ∷ []), length-append front (b.0 ∷ b.1))

-- What two lists begin with that part after a path is no longer than the path.
pub apart-length : (front path : List ℕ) (r s : ℕ) (xs ys : List ℕ) → (r ≡ s → ⊥) → Begins front (path ++ r ∷ xs) → Begins front (path ++ s ∷ ys) → length front ≤ length path
apart-length [] path r s xs ys d b c = omega arith
apart-length (o ∷ os) [] r s xs ys d b c = absurd (d (first-same r o xs (os ++ b.0) b.1 ∙ sym (first-same s o ys (os ++ c.0) c.1)))
apart-length (o ∷ os) (p ∷ ps) r s xs ys d b c =
    let l = apart-length os ps r s xs ys d (b.0, rest-same p o (ps ++ r ∷ xs) (os ++ b.0) b.1) (c.0, rest-same p o (ps ++ s ∷ ys) (os ++ c.0) c.1) in omega (arith, l)

-- Begins with what begins with another.
pub begins-begins : (a b c : List ℕ) → Begins a b → Begins b c → Begins a c
begins-begins a b c h k = (h.0 ++ k.0, k.1 ∙ ap (λ (l : List ℕ). l ++ k.0) h.1 ∙ append_assoc a h.0 k.0)

-- Of two fronts of one list the shorter begins the longer.
pub fronts : (a b xs ys : List ℕ) → a ++ xs ≡ b ++ ys → length a ≤ length b → Begins a b
fronts [] b xs ys e l = (b, refl)
fronts (x ∷ a) [] xs ys e l = absurd (omega (arith, l))
fronts (x ∷ a) (y ∷ b) xs ys e l =
    let f = fronts a b xs ys (rest-same x y (a ++ xs) (b ++ ys) e) (omega (arith, l)) in
    (f.0, ap (λ (k : List ℕ). y ∷ k) f.1 ∙ ap (λ (n : ℕ). n ∷ (a ++ f.0)) (sym (first-same x y (a ++ xs) (b ++ ys) e)))

-- what begins before the last rank
pub begins-short : (front path : List ℕ) (rank : ℕ) → BeginsProperly front (path ++ rank ∷ []) → Begins front path
begins-short front path rank b = fronts front path (b.0 ∷ b.1) (rank ∷ []) (sym b.2) (begins-before-rank front path rank b)

-- with one rank more
pub begins-rank : (front path : List ℕ) (rank : ℕ) → Begins front path → BeginsProperly front (path ++ rank ∷ [])
begins-rank front path rank b = from b.0 b.1
  where
    from : (more : List ℕ) → path ≡ front ++ more → BeginsProperly front (path ++ rank ∷ [])
    from [] e = (rank, [], ap (λ (l : List ℕ). l ++ rank ∷ []) (e ∙ append-nil front))
    from (m ∷ ms) e = (m, ms ++ rank ∷ [], ap (λ (l : List ℕ). l ++ rank ∷ []) e ∙ append_assoc front (m ∷ ms) (rank ∷ []))

pub get-contained : (es : List Event) (n : ℕ) (e : Event) → slice_get es n ≡ Some e → Contains es e
get-contained [] n e h = absurd (cc)
get-contained (x ∷ es) zero e h = (zero, omega arith, ap or_first h)
  where
    or_first : Option Event → Event
    or_first None = x
    or_first (Some c) = c
get-contained (x ∷ es) (suc n) e h = let c = get-contained es n e h in (suc c.0, (let l = c.1 in omega (arith, l)), c.2)

module _ (events : List Event) where
  -- A present path of an instance: its own path and the ranks of its open scopes, at whose paths no event raises the rank.
  pub record IsPresent (home path : List ℕ) : Type 0 where
    pub instance : IsInstancePath events home
    pub begins : Begins home path
    pub clear : (e : Event) (j : List ℕ) → Contains events e → Raises e j → Begins j path → length j ≤ length home

  -- An event belongs to one instance.
  pub home-unique : (j a b : List ℕ) → IsHome events j a → IsHome events j b → a ≡ b
  home-unique j a b h k =
      let l = h.longest b k.instance k.begins in
      let m = k.longest a h.instance h.begins in same-front a b (h.begins.0 ∷ h.begins.1) (k.begins.0 ∷ k.begins.1) (sym h.begins.2 ∙ k.begins.2) (omega (arith, l, m))

  -- Two instances part at one.
  pub meet-unique : (a b m n : List ℕ) → IsMeet events a b m → IsMeet events a b n → m ≡ n
  meet-unique a b m n h k =
      let l = h.longest n k.instance k.first k.second in
      let o = k.longest m h.instance h.first h.second in same-front m n h.first.0 k.first.0 (sym h.first.1 ∙ k.first.1) (omega (arith, l, o))

  -- An instance and one at or below it part at the upper one.
  pub meet-below : (path more : List ℕ) → IsInstancePath events path → IsMeet events (path ++ more) path path
  meet-below path more h = record { instance = h; first = (more, refl); second = ([], sym (append-nil path)); longest = λ other i b c. begins-length other path c }

  some-same : (a b : Event) → Some a ≡ Some b → a ≡ b
  some-same a b e = ap or_first e
    where
      or_first : Option Event → Event
      or_first None = a
      or_first (Some c) = c

  pub event-unique : (n : ℕ) (a b : Event) → IsEvent events n a → IsEvent events n b → a ≡ b
  event-unique n a b h k = some-same a b (sym h ∙ k)

  pub of-unique : (n : ℕ) (path other : List ℕ) (a b : Event) → IsEventOf events path n a → IsEventOf events other n b → path ≡ other
  of-unique n path other a b h k =
      home-unique (pedigree_of b) path other (subst (λ (e : Event). IsHome events (pedigree_of e) path) (event-unique n a b h.numbered k.numbered) h.belongs) k.belongs

  -- What is in series before an event is what is so before all that its instance does from there on.
  pub series-ready : (i n : ℕ) (path : List ℕ) (e : Event) → IsEventOf events path n e → InSeries events i n → PrecedesFrom events i n path
  series-ready i n path e h s = subst (λ (p : List ℕ). PrecedesFrom events i n p) (of-unique n s.home path s.e e s.placed h) s.ready

  pub ready-series : (i n : ℕ) (path : List ℕ) (e : Event) → IsEventOf events path n e → PrecedesFrom events i n path → InSeries events i n
  ready-series i n path e h r = record { e = e; home = path; placed = h; ready = r }
