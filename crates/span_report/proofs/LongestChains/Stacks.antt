-- The open instances: which of them a path leads to, and what the end of the others leaves.
use Rattle.std.proofs.Common.{◌≡◌, ◌≤◌, ◌<◌, ◌+◌, ◌-◌, ℕ, zero, suc, Bool, true, false, cond, List, [], ◌∷◌, ◌++◌, Option, Some, None, length, take, drop, length-append, append_assoc, refl, sym, ◌∙◌, ap, subst, arith}
use Rattle.std.proofs.lemmas.List.{take-append-drop}
use Rattle.std.proofs.lemmas.Slice.Eq.{bytes_eq-Decides}
use Rattle.std.proofs.Math.Seq.{take-append_seam}
use Rattle.std.specs.Prelude.{slice_get}
use Rattle.serial_meaning.specs.declared.event.Event.{Event}
use Rattle.serial_meaning.specs.declared.event.Event.TheVariants as event
use Rattle.span_report.specs.declared.instance.OpenInstance.{OpenInstance}
use Rattle.span_report.specs.Series.{pedigree_of, Begins, BeginsProperly}
use Rattle.span_report.specs.declared.instance.Begun.TheVariants.{Spawned, Iterated}
use Rattle.span_report.specs.Opens.{new_open_instance, after_child_end, starts, is_path_below, after_event, iteration_at, iteration_on}
use Rattle.span_report.specs.Walks.{OpenInstances, closed_to, after_ends, pushed, pushed_iteration, opened_to, instances_after, path_of, walked, walked_all}

abbrev pub stack : OpenInstance → List OpenInstance → OpenInstances
stack o under = record { top = o; under = under }

-- A path begins with each of its fronts, and with nothing else.
pub starts-front : (front more : List ℕ) → starts front (front ++ more) ≡ true
starts-front front more = (bytes_eq-Decides (take (length front) (front ++ more)) front).1 (take-append_seam front more)

pub starts-begins : (front path : List ℕ) → starts front path ≡ true → Begins front path
starts-begins front path h =
    let same : take (length front) path ≡ front = (bytes_eq-Decides (take (length front) path) front).0 h in
    (drop (length front) path, sym (take-append-drop (length front) path) ∙ ap (λ (l : List ℕ). l ++ drop (length front) path) same)

pub starts-not : (front path : List ℕ) → (Begins front path → ⊥) → starts front path ≡ false
starts-not front path never = by (starts front path) refl
  where
    by : (b : Bool) → starts front path ≡ b → starts front path ≡ false
    by true e = absurd (never (starts-begins front path e))
    by false e = e

-- An instance leads to what begins with its path.
pub leads-below : (o : OpenInstance) (home path : List ℕ) → o.path ≡ home → Begins home path → is_path_below o path ≡ true
leads-below o home path e b = ap (λ (l : List ℕ). starts l path) e ∙ ap (λ (l : List ℕ). starts home l) b.1 ∙ starts-front home b.0

pub leads-not : (o : OpenInstance) (home path : List ℕ) → o.path ≡ home → (Begins home path → ⊥) → is_path_below o path ≡ false
leads-not o home path e d = ap (λ (l : List ℕ). starts l path) e ∙ starts-not home path d

pub left-here : (p : List ℕ) (o : OpenInstance) (ps : List OpenInstance) → is_path_below o p ≡ true → closed_to p o ps ≡ stack o ps
left-here p o [] e = refl
left-here p o (x ∷ ps) e = ap (λ (b : Bool). cond b (stack o (x ∷ ps)) (closed_to p (after_child_end x o.begun o.within) ps)) e

pub left-up : (p : List ℕ) (o x : OpenInstance) (ps : List OpenInstance) → is_path_below o p ≡ false → closed_to p o (x ∷ ps) ≡ closed_to p (after_child_end x o.begun o.within) ps
left-up p o x ps e = ap (λ (b : Bool). cond b (stack o (x ∷ ps)) (closed_to p (after_child_end x o.begun o.within) ps)) e

pub ended-left : (p : List ℕ) (o : OpenInstance) (ps : List OpenInstance) → after_ends (closed_to p o ps).top (closed_to p o ps).under ≡ after_ends o ps
ended-left p o [] = refl
ended-left p o (x ∷ ps) = by (is_path_below o p) (ended-left p (after_child_end x o.begun o.within) ps)
  where
    w : OpenInstances
    w = closed_to p (after_child_end x o.begun o.within) ps

    by : (b : Bool) → after_ends w.top w.under ≡ after_ends (after_child_end x o.begun o.within) ps → after_ends (cond b (stack o (x ∷ ps)) w).top (cond b (stack o (x ∷ ps)) w).under ≡ after_ends o (x ∷ ps)
    by true h = refl
    by false h = h

-- Two stands that come to the same for these paths.
abbrev pub Same : (List ℕ → Type 0) → OpenInstances → OpenInstances → Type 0
Same T w v = (p : List ℕ) → T p → closed_to p w.top w.under ≡ closed_to p v.top v.under

take-front : (n : ℕ) (xs ys : List ℕ) → n ≡ length xs → take n (xs ++ ys) ≡ xs
take-front zero [] ys l = refl
take-front (suc n) [] ys l = absurd (omega (arith, l))
take-front zero (x ∷ xs) ys l = absurd (omega (arith, l))
take-front (suc n) (x ∷ xs) ys l = ap (λ (t : List ℕ). x ∷ t) (take-front n xs ys (omega (arith, l)))

pub path-is : (e : Event) (path : List ℕ) (rank : ℕ) → pedigree_of e ≡ path ++ rank ∷ [] → path_of e ≡ path
path-is e path rank h =
    ap (λ (j : List ℕ). take (length j - 1) j) h ∙ take-front (length (path ++ rank ∷ []) - 1) path (rank ∷ []) (let l = length-append path (rank ∷ []) in omega (arith, l))

-- The path of an event's strand begins with what its pedigree properly begins with.
pub path-below : (e : Event) (path : List ℕ) → BeginsProperly path (pedigree_of e) → Begins path (path_of e)
path-below e path b = let l = last-of b.0 b.1 in (l.0, path-is e (path ++ l.0) l.1 (b.2 ∙ ap (λ (k : List ℕ). path ++ k) l.2 ∙ sym (append_assoc path l.0 (l.1 ∷ []))))
  where
    last-of : (x : ℕ) (xs : List ℕ) → (front : List ℕ) × (y : ℕ) × (x ∷ xs ≡ front ++ y ∷ [])
    last-of x [] = ([], x, refl)
    last-of x (y ∷ ys) = let l = last-of y ys in (x ∷ l.0, l.1, ap (λ (k : List ℕ). x ∷ k) l.2)

-- The instance is in no loop that a path begins with.
abbrev pub IsSilent : OpenInstance → List ℕ → Type 0
IsSilent o path = (j : List ℕ) → o.looping ≡ Some j → starts j path ≡ false

pub silent-none : (o : OpenInstance) → o.looping ≡ None → (path : List ℕ) → IsSilent o path
silent-none o e path j h = let q : None ≡ Some j = sym e ∙ h in absurd (cc)

-- in a loop that a path doesn't begin with
pub silent-loop : (o : OpenInstance) (loop path : List ℕ) → o.looping ≡ Some loop → (Begins loop path → ⊥) → IsSilent o path
silent-loop o loop path e d j h = subst (λ (l : List ℕ). starts l path ≡ false) (same_path (sym e ∙ h)) (starts-not loop path d)
  where
    same_path : Some loop ≡ Some j → loop ≡ j
    same_path q = ap path_in q
      where
        path_in : Option (List ℕ) → List ℕ
        path_in None = loop
        path_in (Some l) = l

pub entered-open : (path : List ℕ) (o : OpenInstance) (under : List OpenInstance) → IsSilent o path → opened_to path (stack o under) ≡ stack o under
entered-open path o under q = ap (λ (t : Option (List ℕ)). pushed_iteration t (stack o under)) (by o.looping q)
  where
    by : (l : Option (List ℕ)) → ((j : List ℕ) → l ≡ Some j → starts j path ≡ false) → iteration_on l path ≡ None
    by None h = refl
    by (Some j) h = ap (λ (b : Bool). cond b (iteration_at j (slice_get path (length j))) None) (h j refl)

pub walked_append : (w : OpenInstances) (xs ys : List Event) → walked_all w (xs ++ ys) ≡ walked_all (walked_all w xs) ys
walked_append w [] ys = refl
walked_append w (x ∷ xs) ys = walked_append (walked w x) xs ys

-- An event of the instance on top, once those that ended are left.
pub walked-own : (T : List ℕ → Type 0) (w : OpenInstances) (o : OpenInstance) (under : List OpenInstance) (home path : List ℕ) (e : Event) → path_of e ≡ path → o.path ≡ home → Begins home path → T path → IsSilent o path → Same T w (stack o under) →
    walked w e ≡ instances_after (stack o under) e
walked-own T w o under home path e h r b t q s =
    ap (λ (p : List ℕ). instances_after (opened_to p (closed_to p w.top w.under)) e) h
    ∙ ap (λ (v : OpenInstances). instances_after (opened_to path v) e) (s path t ∙ left-here path o under (leads-below o home path r b))
    ∙ ap (λ (v : OpenInstances). instances_after v e) (entered-open path o under q)

get-after : (n : ℕ) (xs : List ℕ) (y : ℕ) (ys : List ℕ) → n ≡ length xs → slice_get (xs ++ y ∷ ys) n ≡ Some y
get-after zero [] y ys l = refl
get-after (suc n) [] y ys l = absurd (omega (arith, l))
get-after zero (x ∷ xs) y ys l = absurd (omega (arith, l))
get-after (suc n) (x ∷ xs) y ys l = get-after n xs y ys (omega (arith, l))

-- where an iteration begins
pub entered-turn : (j : List ℕ) (k : ℕ) (path : List ℕ) (o : OpenInstance) (under : List OpenInstance) → o.looping ≡ Some j → Begins (j ++ k ∷ []) path → opened_to path (stack o under) ≡ stack (new_open_instance (j ++ k ∷ []) Iterated o.before) (o ∷ under)
entered-turn j k path o under e b =
    ap (λ (l : Option (List ℕ)). pushed_iteration (iteration_on l path) (stack o under)) e
    ∙ ap (λ (t : Bool). pushed_iteration (cond t (iteration_at j (slice_get path (length j))) None) (stack o under)) (ap (λ (p : List ℕ). starts j p) q ∙ starts-front j (k ∷ b.0))
    ∙ ap (λ (m : Option ℕ). pushed_iteration (iteration_at j m) (stack o under)) (ap (λ (p : List ℕ). slice_get p (length j)) q ∙ get-after (length j) j k b.0 refl)
  where
    q : path ≡ j ++ k ∷ b.0
    q = b.1 ∙ append_assoc j (k ∷ []) b.0

-- the steps of the walk at a Spawn
pub walked-spawn : (old v new : OpenInstances) (e : Event) (j path : List ℕ) (rank : ℕ) (top child : OpenInstance) → e ≡ event.Spawn j → pedigree_of e ≡ path ++ rank ∷ [] →
    v ≡ opened_to path (closed_to path old.top old.under) → top ≡ after_event v.top e → child ≡ new_open_instance j Spawned top.before → new ≡ pushed (stack top v.under) child → new ≡ walked old e
walked-spawn old v new e j path rank top child s p hv ht hc hn =
    hn
    ∙ ap (λ (c : OpenInstance). pushed (stack top v.under) c) hc
    ∙ ap (λ (t : OpenInstance). pushed (stack t v.under) (new_open_instance j Spawned t.before)) (ht ∙ ap (λ (x : Event). after_event v.top x) s)
    ∙ ap (λ (x : Event). instances_after v x) (sym s)
    ∙ ap (λ (u : OpenInstances). instances_after u e) hv
    ∙ ap (λ (l : List ℕ). instances_after (opened_to l (closed_to l old.top old.under)) e) (sym (path-is e path rank p))
