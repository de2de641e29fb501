-- At the path of a scope no event raises the rank, wherever in the run.
use Rattle.std.proofs.Common.{◌≡◌, ◌≤◌, ◌<◌, ◌+◌, ℕ, List, [], ◌∷◌, ◌++◌, length, length-append, refl, sym, ◌∙◌, ap, arith, append_assoc}
use Rattle.serial_meaning.specs.Laws.{raising_pedigrees}
use Rattle.serial_meaning.proofs.Equations.Each.{Each, each-append, each-map}
use Rattle.serial_meaning.proofs.LeastFault.Left.{rank-same}
use Rattle.serial_meaning.specs.declared.event.Event.{Event}
use Rattle.serial_meaning.specs.declared.event.Event.TheVariants as event
use Rattle.serial_meaning.specs.declared.value.Value.{Value}
use Rattle.span_report.specs.Series.{pedigree_of}
use Rattle.span_report.specs.Nested.{RaisesWithoutChild, Draw, New, Sync, Whose, Instance, Iterations, IsNested}
use Rattle.span_report.specs.Nested as of

-- an event that raises the rank of the strand with this pedigree
abbrev pub Raises : Event → List ℕ → Type 0
Raises e j = raising_pedigrees (e ∷ []) ≡ j ∷ []

abbrev pub NotAt : List ℕ → Event → Type 0
NotAt j e = Raises e j → ⊥

-- How some events of a run nest, where at the path of a scope no event of the run raises the rank.
pub data IsClear (all : List Event) : Whose → List ℕ → ℕ → List Event → Type 0 where
  Ends : (whose : Whose) (path : List ℕ) (rank : ℕ) → IsClear all whose path rank []
  Prints : (home path : List ℕ) (rank : ℕ) (v : Value) (es : List Event) → IsClear all (Instance home) path rank es → IsClear all (Instance home) path rank (event.Print (path ++ rank ∷ []) v ∷ es)
  Steps : (home path : List ℕ) (rank : ℕ) (e : Event) (es : List Event) → RaisesWithoutChild (path ++ rank ∷ []) e → IsClear all (Instance home) path (rank + 1) es → IsClear all (Instance home) path rank (e ∷ es)
  Spawns : (home path : List ℕ) (rank : ℕ) (child es : List Event) → IsClear all (Instance (path ++ rank ∷ [])) (path ++ rank ∷ []) 0 child → IsClear all (Instance home) path (rank + 1) es →
      IsClear all (Instance home) path rank (event.Spawn (path ++ rank ∷ []) ∷ (child ++ es))
  Loops : (home path : List ℕ) (rank : ℕ) (inner es : List Event) → IsClear all Iterations (path ++ rank ∷ []) 0 inner → IsClear all (Instance home) path (rank + 1) es →
      IsClear all (Instance home) path rank (event.Loop (path ++ rank ∷ []) ∷ (inner ++ es))
  Iterates : (path : List ℕ) (k : ℕ) (turn es : List Event) → IsClear all (Instance (path ++ k ∷ [])) (path ++ k ∷ []) 0 turn → IsClear all Iterations path (k + 1) es → IsClear all Iterations path k (turn ++ es)
  Scopes : (home path : List ℕ) (rank : ℕ) (inner es : List Event) → Each (NotAt (path ++ rank ∷ [])) all → IsClear all (Instance home) (path ++ rank ∷ []) 0 inner → IsClear all (Instance home) path (rank + 1) es →
      IsClear all (Instance home) path rank (inner ++ es)

pub raises-at : (e : Event) (j : List ℕ) → Raises e j → pedigree_of e ≡ j
raises-at e j = by e
  where
    first : (k : List ℕ) → k ∷ [] ≡ j ∷ [] → k ≡ j
    first k h = ap head_or h
      where
        head_or : List (List ℕ) → List ℕ
        head_or [] = k
        head_or (l ∷ ls) = l

    by : (e : Event) → Raises e j → pedigree_of e ≡ j
    by (event.Print k v) h = absurd (cc)
    by (event.Draw k n) h = first k h
    by (event.New k) h = first k h
    by (event.Spawn k) h = first k h
    by (event.Sync k) h = first k h
    by (event.Loop k) h = first k h

-- A path with a rank and more is longer than it.
pub too-long : (path : List ℕ) (r : ℕ) (more : List ℕ) → path ≡ path ++ r ∷ more → ⊥
too-long path r more e = let l : length path ≡ length (path ++ r ∷ more) = ap (λ (p : List ℕ). length p) e in absurd (omega (arith, l, length-append path (r ∷ more)))

pub step-at : (j : List ℕ) (e : Event) → RaisesWithoutChild j e → pedigree_of e ≡ j
step-at j e (Draw i n) = refl
step-at j e (New i) = refl
step-at j e (Sync i) = refl

-- an event stands at or below this rank of a path, or a later one
abbrev pub AtFrom : List ℕ → ℕ → Event → Type 0
AtFrom path rank e = (r : ℕ) × (more : List ℕ) × (pedigree_of e ≡ path ++ r ∷ more) × (rank ≤ r)

from-next : (path : List ℕ) (rank : ℕ) (e : Event) → AtFrom path (rank + 1) e → AtFrom path rank e
from-next path rank e a = (a.0, a.1, a.2, (let l = a.3 in omega (arith, l)))

from-under : (path : List ℕ) (rank : ℕ) (e : Event) → AtFrom (path ++ rank ∷ []) 0 e → AtFrom path rank e
from-under path rank e a = (rank, a.0 ∷ a.1, a.2 ∙ append_assoc path (rank ∷ []) (a.0 ∷ a.1), omega arith)

both : (path : List ℕ) (rank : ℕ) (xs ys : List Event) → Each (AtFrom (path ++ rank ∷ []) 0) xs → Each (AtFrom path (rank + 1)) ys → Each (AtFrom path rank) (xs ++ ys)
both path rank xs ys a b = each-append (AtFrom path rank) xs ys (each-map xs (from-under path rank) a) (each-map ys (from-next path rank) b)

nested-from : (whose : Whose) (path : List ℕ) (rank : ℕ) (es : List Event) → IsNested whose path rank es → Each (AtFrom path rank) es
nested-from w p r es (of.Ends whose path rank) = tt
nested-from w p r es (of.Prints home path rank v rest n) = ((rank, [], refl, omega arith), nested-from (Instance home) path rank rest n)
nested-from w p r es (of.Steps home path rank e rest s n) = ((rank, [], step-at (path ++ rank ∷ []) e s, omega arith), each-map rest (from-next path rank) (nested-from (Instance home) path (rank + 1) rest n))
nested-from w p r es (of.Spawns home path rank child rest c n) =
    ((rank, [], refl, omega arith), both path rank child rest (nested-from (Instance (path ++ rank ∷ [])) (path ++ rank ∷ []) 0 child c) (nested-from (Instance home) path (rank + 1) rest n))
nested-from w p r es (of.Loops home path rank inner rest i n) =
    ((rank, [], refl, omega arith), both path rank inner rest (nested-from Iterations (path ++ rank ∷ []) 0 inner i) (nested-from (Instance home) path (rank + 1) rest n))
nested-from w p r es (of.Iterates path k turn rest t n) = both path k turn rest (nested-from (Instance (path ++ k ∷ [])) (path ++ k ∷ []) 0 turn t) (nested-from Iterations path (k + 1) rest n)
nested-from w p r es (of.Scopes home path rank inner rest i n) = both path rank inner rest (nested-from (Instance home) (path ++ rank ∷ []) 0 inner i) (nested-from (Instance home) path (rank + 1) rest n)

-- an event raises no rank there
abbrev pub Outside : List ℕ → ℕ → Event → Type 0
Outside path rank e = (j : List ℕ) → Raises e j → (r : ℕ) (more : List ℕ) → j ≡ path ++ r ∷ more → rank ≤ r → ⊥

out-next : (path : List ℕ) (rank : ℕ) (e : Event) → Outside path rank e → Outside path (rank + 1) e
out-next path rank e o j h r more q l = o j h r more q (omega (arith, l))

out-under : (path : List ℕ) (rank : ℕ) (e : Event) → Outside path rank e → Outside (path ++ rank ∷ []) 0 e
out-under path rank e o j h r more q l = o j h rank (r ∷ more) (q ∙ append_assoc path (rank ∷ []) (r ∷ more)) (omega arith)

-- of an event at or below another rank
out-lower : (path : List ℕ) (rank : ℕ) (e : Event) → AtFrom (path ++ rank ∷ []) 0 e → Outside path (rank + 1) e
out-lower path rank e a j h r more q l =
    let s = rank-same path rank r (a.0 ∷ a.1) more (sym (append_assoc path (rank ∷ []) (a.0 ∷ a.1)) ∙ sym a.2 ∙ raises-at e j h ∙ q) in absurd (omega (arith, s, l))

out-higher : (path : List ℕ) (rank : ℕ) (e : Event) → AtFrom path (rank + 1) e → Outside (path ++ rank ∷ []) 0 e
out-higher path rank e a j h r more q l =
    let s = rank-same path a.0 rank a.1 (r ∷ more) (sym a.2 ∙ raises-at e j h ∙ q ∙ append_assoc path (rank ∷ []) (r ∷ more)) in
    let m = a.3 in absurd (omega (arith, s, m))

-- and of one at the rank
out-self : (path : List ℕ) (rank : ℕ) (e : Event) → pedigree_of e ≡ path ++ rank ∷ [] → Outside (path ++ rank ∷ []) 0 e
out-self path rank e p j h r more q l = too-long (path ++ rank ∷ []) r more (sym p ∙ raises-at e j h ∙ q)

out-after : (path : List ℕ) (rank : ℕ) (e : Event) → pedigree_of e ≡ path ++ rank ∷ [] → Outside path (rank + 1) e
out-after path rank e p j h r more q l = let s = rank-same path rank r [] more (sym p ∙ raises-at e j h ∙ q) in absurd (omega (arith, s, l))

-- what stands below a rank isn't at it, nor is what stands at and below later ones
not-below : (path : List ℕ) (rank : ℕ) (e : Event) → AtFrom (path ++ rank ∷ []) 0 e → NotAt (path ++ rank ∷ []) e
not-below path rank e a h = too-long (path ++ rank ∷ []) a.0 a.1 (sym (raises-at e (path ++ rank ∷ []) h) ∙ a.2)

not-later : (path : List ℕ) (rank : ℕ) (e : Event) → AtFrom path (rank + 1) e → NotAt (path ++ rank ∷ []) e
not-later path rank e a h = let s = rank-same path rank a.0 [] a.1 (sym (raises-at e (path ++ rank ∷ []) h) ∙ a.2) in let m = a.3 in absurd (omega (arith, s, m))

module _ (all : List Event) where
  -- The run's other events raise no rank from this one on: what holds of these events, and of all that raise none there, holds of all.
  abbrev Covers : List Event → List ℕ → ℕ → Type 1
  Covers es path rank = (T : Event → Type 0) → Each T es → ((x : Event) → Outside path rank x → T x) → Each T all

  -- an event and then those below it
  covers-below : (path : List ℕ) (rank : ℕ) (e : Event) (xs ys : List Event) → pedigree_of e ≡ path ++ rank ∷ [] → Each (AtFrom path (rank + 1)) ys → Covers (e ∷ (xs ++ ys)) path rank → Covers xs (path ++ rank ∷ []) 0
  covers-below path rank e xs ys p b c T h o =
      c T (o e (out-self path rank e p), each-append T xs ys h (each-map ys (λ x a. o x (out-higher path rank x a)) b)) (λ x u. o x (out-under path rank x u))

  -- and after those
  covers-after : (path : List ℕ) (rank : ℕ) (e : Event) (xs ys : List Event) → pedigree_of e ≡ path ++ rank ∷ [] → Each (AtFrom (path ++ rank ∷ []) 0) xs → Covers (e ∷ (xs ++ ys)) path rank → Covers ys path (rank + 1)
  covers-after path rank e xs ys p a c T h o =
      c T (o e (out-after path rank e p), each-append T xs ys (each-map xs (λ x b. o x (out-lower path rank x b)) a) h) (λ x u. o x (out-next path rank x u))

  covers-in : (path : List ℕ) (rank : ℕ) (xs ys : List Event) → Each (AtFrom path (rank + 1)) ys → Covers (xs ++ ys) path rank → Covers xs (path ++ rank ∷ []) 0
  covers-in path rank xs ys b c T h o = c T (each-append T xs ys h (each-map ys (λ x a. o x (out-higher path rank x a)) b)) (λ x u. o x (out-under path rank x u))

  covers-out : (path : List ℕ) (rank : ℕ) (xs ys : List Event) → Each (AtFrom (path ++ rank ∷ []) 0) xs → Covers (xs ++ ys) path rank → Covers ys path (rank + 1)
  covers-out path rank xs ys a c T h o = c T (each-append T xs ys (each-map xs (λ x b. o x (out-lower path rank x b)) a) h) (λ x u. o x (out-next path rank x u))

  not-at : (path : List ℕ) (rank : ℕ) (xs ys : List Event) → Each (AtFrom (path ++ rank ∷ []) 0) xs → Each (AtFrom path (rank + 1)) ys → Covers (xs ++ ys) path rank → Each (NotAt (path ++ rank ∷ [])) all
  not-at path rank xs ys a b c =
      c (NotAt (path ++ rank ∷ [])) (each-append (NotAt (path ++ rank ∷ [])) xs ys (each-map xs (not-below path rank) a) (each-map ys (not-later path rank) b)) (λ x u h. u (path ++ rank ∷ []) h rank [] refl (omega arith))

  clears : (whose : Whose) (path : List ℕ) (rank : ℕ) (es : List Event) → IsNested whose path rank es → Covers es path rank → IsClear all whose path rank es
  clears w p r es (of.Ends whose path rank) c = Ends whose path rank
  clears w p r es (of.Prints home path rank v rest n) c =
      Prints home path rank v rest (clears (Instance home) path rank rest n (λ T h o. c T (o (event.Print (path ++ rank ∷ []) v) (λ j q. absurd (cc)), h) o))
  clears w p r es (of.Steps home path rank e rest s n) c =
      Steps home path rank e rest s (clears (Instance home) path (rank + 1) rest n (λ T h o. c T (o e (out-after path rank e (step-at (path ++ rank ∷ []) e s)), h) (λ x u. o x (out-next path rank x u))))
  clears w p r es (of.Spawns home path rank child rest d n) c =
      let e = event.Spawn (path ++ rank ∷ []) in
      let a = nested-from (Instance (path ++ rank ∷ [])) (path ++ rank ∷ []) 0 child d in
      let b = nested-from (Instance home) path (rank + 1) rest n in
      Spawns home path rank child rest (clears (Instance (path ++ rank ∷ [])) (path ++ rank ∷ []) 0 child d (covers-below path rank e child rest refl b c)) (clears (Instance home) path (rank + 1) rest n (covers-after path rank e child rest refl a c))
  clears w p r es (of.Loops home path rank inner rest d n) c =
      let e = event.Loop (path ++ rank ∷ []) in
      let a = nested-from Iterations (path ++ rank ∷ []) 0 inner d in
      let b = nested-from (Instance home) path (rank + 1) rest n in
      Loops home path rank inner rest (clears Iterations (path ++ rank ∷ []) 0 inner d (covers-below path rank e inner rest refl b c)) (clears (Instance home) path (rank + 1) rest n (covers-after path rank e inner rest refl a c))
  clears w p r es (of.Iterates path k turn rest d n) c =
      let a = nested-from (Instance (path ++ k ∷ [])) (path ++ k ∷ []) 0 turn d in
      let b = nested-from Iterations path (k + 1) rest n in
      Iterates path k turn rest (clears (Instance (path ++ k ∷ [])) (path ++ k ∷ []) 0 turn d (covers-in path k turn rest b c)) (clears Iterations path (k + 1) rest n (covers-out path k turn rest a c))
  clears w p r es (of.Scopes home path rank inner rest d n) c =
      let a = nested-from (Instance home) (path ++ rank ∷ []) 0 inner d in
      let b = nested-from (Instance home) path (rank + 1) rest n in
      Scopes home path rank inner rest (not-at path rank inner rest a b c) (clears (Instance home) (path ++ rank ∷ []) 0 inner d (covers-in path rank inner rest b c)) (clears (Instance home) path (rank + 1) rest n (covers-out path rank inner rest a c))

  -- So a run that nests nests so.
  pub all-clear : IsNested (Instance []) [] 0 all → IsClear all (Instance []) [] 0 all
  all-clear n = clears (Instance []) [] 0 all n (λ T h o. h)
