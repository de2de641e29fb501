-- Where the events of a nested list belong: each to the instance of whose present paths its pedigree's path is one.
use Rattle.std.proofs.Common.{◌≡◌, ◌≤◌, ◌+◌, ℕ, zero, suc, List, [], ◌∷◌, ◌++◌, Option, Some, None, length, length-append, append-nil, refl, sym, ◌∙◌, ap, subst, arith, append_assoc}
use Rattle.std.proofs.lemmas.List.{get_or_at}
use Rattle.std.specs.Prelude.{Contains, slice_get}
use Rattle.serial_meaning.proofs.Equations.Each.{Each, each-append, each-contained}
use Rattle.serial_meaning.specs.declared.event.Event.{Event}
use Rattle.serial_meaning.specs.declared.event.Event.TheVariants as event
use Rattle.span_report.specs.Series.{pedigree_of, IsInstancePath, Main, Child, Iteration}
use Rattle.span_report.specs.Nested.{Whose, Instance, Iterations}
use Rattle.span_report.proofs.Nested.Clear.{Raises, NotAt, step-at, IsClear, Ends, Prints, Steps, Spawns, Loops, Iterates, Scopes}
use Rattle.span_report.proofs.Belonging.Homes.{IsPresent, begins-begins, begins-length, fronts}

each-front : (T : Event → Type 0) (xs ys : List Event) → Each T (xs ++ ys) → Each T xs
each-front T [] ys h = tt
each-front T (x ∷ xs) ys h = (h.0, each-front T xs ys h.1)

each-back : (T : Event → Type 0) (xs ys : List Event) → Each T (xs ++ ys) → Each T ys
each-back T [] ys h = h
each-back T (x ∷ xs) ys h = each-back T xs ys h.1

pub each-get : (T : Event → Type 0) (es : List Event) (n : ℕ) (e : Event) → Each T es → slice_get es n ≡ Some e → T e
each-get T [] n e h g = absurd (cc)
each-get T (x ∷ xs) zero e h g = subst T (ap or_first g) h.0
  where
    or_first : Option Event → Event
    or_first None = x
    or_first (Some c) = c
each-get T (x ∷ xs) (suc n) e h g = each-get T xs n e h.1 g

-- A list contains what stands after a front of it.
each-within : (whole front es : List Event) → whole ≡ front ++ es → Each (Contains whole) es
each-within whole front [] s = tt
each-within whole front (e ∷ es) s = (subst (λ (l : List Event). Contains l e) (sym s) here, each-within whole (front ++ e ∷ []) es (s ∙ sym (append_assoc front (e ∷ []) es)))
  where
    here : Contains (front ++ e ∷ es) e
    here = (length front, (let l : length (front ++ e ∷ es) ≡ length front + length (e ∷ es) = length-append front (e ∷ es) in omega (arith, l)), get_or_at front e es e (length front) refl)

module _ (all : List Event) where
  -- the present path where an instance begins
  pub own-present : (path : List ℕ) → IsInstancePath all path → IsPresent all path path
  own-present path i = record { instance = i; begins = ([], sym (append-nil path)); clear = λ e j c r b. begins-length j path b }

  -- in a scope
  pub scope-present : (home path : List ℕ) (rank : ℕ) → Each (NotAt (path ++ rank ∷ [])) all → IsPresent all home path → IsPresent all home (path ++ rank ∷ [])
  scope-present home path rank free h = record {
    instance = h.instance;
    begins = begins-begins home path (path ++ rank ∷ []) h.begins (rank ∷ [], refl);
    clear = λ e j c r b. from e j c r b.0 b.1;
  }
    where
      from : (e : Event) (j : List ℕ) → Contains all e → Raises e j → (more : List ℕ) → path ++ rank ∷ [] ≡ j ++ more → length j ≤ length home
      from e j c r [] q = absurd (each-contained (NotAt (path ++ rank ∷ [])) all e free c (subst (Raises e) (sym (q ∙ append-nil j)) r))
      from e j c r (m ∷ ms) q =
          let l : length (path ++ rank ∷ []) ≡ length (j ++ m ∷ ms) = ap (λ (k : List ℕ). length k) q in
          h.clear e j c r (fronts j path (m ∷ ms) (rank ∷ []) (sym q) (omega (arith, l, length-append path (rank ∷ []), length-append j (m ∷ ms))))

  -- an instance's present path, or a loop that has begun
  abbrev Known : Whose → List ℕ → Type 0
  Known (Instance home) path = IsPresent all home path
  Known Iterations path = Contains all (event.Loop path)

  -- Its pedigree is a present path of an instance and a rank.
  pub record IsPlaced (e : Event) : Type 0 where
    pub home : List ℕ
    pub path : List ℕ
    pub rank : ℕ
    pub at : pedigree_of e ≡ path ++ rank ∷ []
    pub present : IsPresent all home path

  placed : (whose : Whose) (path : List ℕ) (rank : ℕ) (es : List Event) → IsClear all whose path rank es → Each (Contains all) es → Known whose path → Each IsPlaced es
  placed w p r es (Ends whose path rank) h k = tt
  placed w p r es (Prints home path rank v rest n) h k = (record { home = home; path = path; rank = rank; at = refl; present = k }, placed (Instance home) path rank rest n h.1 k)
  placed w p r es (Steps home path rank e rest s n) h k =
      (record { home = home; path = path; rank = rank; at = step-at (path ++ rank ∷ []) e s; present = k }, placed (Instance home) path (rank + 1) rest n h.1 k)
  placed w p r es (Spawns home path rank child rest c n) h k = (
    record { home = home; path = path; rank = rank; at = refl; present = k },
    each-append IsPlaced child rest (placed (Instance (path ++ rank ∷ [])) (path ++ rank ∷ []) 0 child c (each-front (Contains all) child rest h.1) (own-present (path ++ rank ∷ []) (Child (path ++ rank ∷ []) h.0))) (placed (Instance home) path (rank + 1) rest n (each-back (Contains all) child rest h.1) k),
  )
  placed w p r es (Loops home path rank inner rest i n) h k = (
    record { home = home; path = path; rank = rank; at = refl; present = k },
    each-append IsPlaced inner rest (placed Iterations (path ++ rank ∷ []) 0 inner i (each-front (Contains all) inner rest h.1) h.0) (placed (Instance home) path (rank + 1) rest n (each-back (Contains all) inner rest h.1) k),
  )
  placed w p r es (Iterates path number turn rest t n) h k =
      each-append IsPlaced turn rest (placed (Instance (path ++ number ∷ [])) (path ++ number ∷ []) 0 turn t (each-front (Contains all) turn rest h) (own-present (path ++ number ∷ []) (Iteration path number k))) (placed Iterations path (number + 1) rest n (each-back (Contains all) turn rest h) k)
  placed w p r es (Scopes home path rank inner rest free i n) h k =
      each-append IsPlaced inner rest (placed (Instance home) (path ++ rank ∷ []) 0 inner i (each-front (Contains all) inner rest h) (scope-present home path rank free k)) (placed (Instance home) path (rank + 1) rest n (each-back (Contains all) inner rest h) k)

  pub all-placed : IsClear all (Instance []) [] 0 all → Each IsPlaced all
  all-placed n = placed (Instance []) [] 0 all n (each-within all [] all refl) (own-present [] Main)
