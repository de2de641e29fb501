-- What a hand knows of faults, once it knows one more.
use Rattle.std.proofs.Common.{◌≡◌, ◌⊎◌, inl, inr, ℕ, ◌<◌, ◌≤◌, ◌+◌, ◌-◌, None, List, [], ◌∷◌, ◌++◌, length, get_or, set, map, All, Contains, Result, Ok, Err, OnOk, OnErr, refl, sym, ap, ◌∙◌, subst, arith, append_assoc, append-nil, length-append, length-set}
use Rattle.std.proofs.lemmas.Bool.{cases_lt, cases_eq}
use Rattle.std.proofs.lemmas.Cmp.{nat_list_cmp_total}
use Rattle.std.proofs.lemmas.List.{get_or_default, get_or_append_left, get_or_push, get_or-map, get_or-set_same, get_or-set_other, length-map, map-set}
use Rattle.std.proofs.lemmas.List.Elements.{All-contains, All-push, All-set, Contains-append_left, Contains-append_right}
use Rattle.std.specs.Cmp.Lexicographic.{slice_cmp}
use Rattle.std.specs.Ordering.{nat_cmp, ordering_reverse}
use Rattle.std.specs.declared.cmp.Ordering.{Ordering}
use Rattle.std.specs.declared.cmp.Ordering.TheVariants.{Less, Equal, Greater}
use Rattle.ped_path.specs.Path.{IsBefore}
use Rattle.serial_meaning.proofs.RisingPedigrees.Order.{before-before, not_before_itself}
use Rattle.serial_meaning.specs.Answer.{KnownView, start_of}
use Rattle.serial_meaning.specs.Plan.{PlanView}
use Rattle.serial_meaning.specs.declared.event.Fault.{Fault}
use Rattle.serial_meaning.specs.declared.origin.Origin.{Origin}
use Rattle.strand_machine.specs.Tasks.{TaskView}
use Rattle.parallel_runner.specs.Cells.{CellsView}
use Rattle.parallel_runner.specs.Faults.{HasNoneOf, StandsFirst, IsLeastOf, HasOneUpTo, AreLeast, FaultsView, AreKnown, NoneCuts, ReadsOn, ReadsOne}

-- What stands before a pedigree stands before all that don't stand before it.
below : (x a b : List ℕ) → IsBefore x a → (IsBefore b a → ⊥) → IsBefore x b
below x a b before not_before = by (slice_cmp nat_cmp a b) refl
  where
    by : (o : Ordering) → slice_cmp nat_cmp a b ≡ o → IsBefore x b
    by Less e = before-before x a b before e
    by Equal e =
        nat_list_cmp_total.antisymm x b
        ∙ ap ordering_reverse (sym (nat_list_cmp_total.congr a b x e))
        ∙ sym (nat_list_cmp_total.antisymm x a)
        ∙ before
    by Greater e = absurd (not_before (nat_list_cmp_total.antisymm b a ∙ ap ordering_reverse e))

abbrev pub plan_of : KnownView → PlanView
plan_of k = k.plan

-- A fault that stands before the least one stands before all.
pub first-before_least : (plan : PlanView) (fault : Fault) (known : List KnownView) (k : KnownView) → IsLeastOf plan known k → IsBefore fault.at k.fault.at → StandsFirst plan fault known
first-before_least plan fault known k is before i d lt same = below fault.at k.fault.at (get_or known i d).fault.at before (is.least i d lt same)

-- and one that stands before all stands before the least one
pub least-after_first : (plan : PlanView) (fault : Fault) (known : List KnownView) (k : KnownView) → IsLeastOf plan known k → StandsFirst plan fault known → IsBefore fault.at k.fault.at
least-after_first plan fault known k is first = All-contains (λ (x : KnownView). x.plan ≡ plan → IsBefore fault.at x.fault.at) known k first is.one is.plan_is

pub first-of_none : (plan : PlanView) (fault : Fault) (known : List KnownView) → HasNoneOf plan known → StandsFirst plan fault known
first-of_none plan fault known none i d lt same = absurd (none i d lt same)

pub last-one : (known : List KnownView) (x : KnownView) → Contains (known ++ x ∷ []) x
last-one known x = Contains-append_right known (x ∷ []) x (0, omega arith, refl)

module _ (known least : List KnownView) (are : AreLeast known least) where
  pub none-known : (plan : PlanView) → HasNoneOf plan least → HasNoneOf plan known
  none-known plan none i d lt same =
      let e = are.of_each i d lt in
      All-contains (λ (k : KnownView). k.plan ≡ plan → ⊥) least e.0 none e.1 (e.2 ∙ same)

  module _ (i : ℕ) (k : KnownView) (lt : i < length least) (at : (d : KnownView) → get_or least i d ≡ k) where
    -- the entry of the same plan as this one is this one
    only : (m : KnownView) (there : Contains least m) → m.plan ≡ k.plan → m ≡ k
    only m there same =
        let place : there.0 ≡ i = are.once there.0 i m there.1 lt (ap plan_of there.2 ∙ same ∙ sym (ap plan_of (at m))) in
        sym there.2 ∙ ap (λ (j : ℕ). get_or least j m) place ∙ at m

    pub is-least : (plan : PlanView) → k.plan ≡ plan → IsLeastOf plan known k
    is-least plan one = record {
      one = subst (Contains known) (at k) (are.among i k lt);
      plan_is = one;
      least = λ n d within same before.
          let e = are.of_each n d within in
          e.3 (subst (λ (y : KnownView). IsBefore (get_or known n d).fault.at y.fault.at) (sym (only e.0 e.1 (e.2 ∙ same ∙ sym one))) before);
    }

    module _ (x : KnownView) (one : k.plan ≡ x.plan) where
      -- a fault that doesn't stand before its plan's least
      pub later-known : (IsBefore x.fault.at k.fault.at → ⊥) → AreLeast (known ++ x ∷ []) least
      later-known after = record {
        among = λ j d within. Contains-append_left known (x ∷ []) (get_or least j d) (are.among j d within);
        of_each = All-push (HasOneUpTo least) known x are.of_each (k, (i, lt, at k), one, after);
        once = are.once;
      }

      -- one that does takes its place
      now : (n : ℕ) (d : KnownView) (e : HasOneUpTo least (get_or known n d)) → IsBefore x.fault.at k.fault.at → e.1.0 ≡ i ⊎ (e.1.0 ≡ i → ⊥) → HasOneUpTo (set least i x) (get_or known n d)
      now n d e before (inl place) =
          let same : e.0 ≡ k = sym e.1.2 ∙ ap (λ (j : ℕ). get_or least j e.0) place ∙ at e.0 in (
            x,
            (i, omega (arith, length-set least i x), get_or-set_same least i x x lt),
            sym one ∙ sym (ap plan_of same) ∙ e.2,
            λ earlier. e.3
                (subst (λ (y : KnownView). IsBefore (get_or known n d).fault.at y.fault.at) (sym same)
                (before-before (get_or known n d).fault.at x.fault.at k.fault.at earlier before)),
          )
      now n d e before (inr other) = (
        e.0,
        (e.1.0, omega (arith, length-set least i x, e.1.1), get_or-set_other least i e.1.0 x e.0 other ∙ e.1.2),
        e.2,
        e.3,
      )

      same-plans : (j : ℕ) (d : KnownView) → j ≡ i ⊎ (j ≡ i → ⊥) → (get_or (set least i x) j d).plan ≡ (get_or least j d).plan
      same-plans j d (inl place) =
          ap plan_of (ap (λ (n : ℕ). get_or (set least i x) n d) place ∙ get_or-set_same least i x d lt)
          ∙ sym one
          ∙ sym (ap plan_of (ap (λ (n : ℕ). get_or least n d) place ∙ at d))
      same-plans j d (inr other) = ap plan_of (get_or-set_other least i j x d other)

      pub earlier-known : IsBefore x.fault.at k.fault.at → AreLeast (known ++ x ∷ []) (set least i x)
      earlier-known before = record {
        among =
            All-set (Contains (known ++ x ∷ [])) least i x (last-one known x)
            (λ j d within. Contains-append_left known (x ∷ []) (get_or least j d) (are.among j d within));
        of_each =
            All-push (HasOneUpTo (set least i x)) known x (λ n d within. let e = are.of_each n d within in now n d e before (cases_eq e.1.0 i))
            (x, (i, omega (arith, length-set least i x), get_or-set_same least i x x lt), refl, not_before_itself x.fault.at);
        once = λ p q d in-p in-q same.
            are.once p q d (omega (arith, length-set least i x)) (omega (arith, length-set least i x))
            (sym (same-plans p d (cases_eq p i)) ∙ same ∙ same-plans q d (cases_eq q i));
      }

  module _ (x : KnownView) (none : HasNoneOf x.plan least) where
    more : List KnownView
    more = least ++ x ∷ []

    old-at : (j : ℕ) (d : KnownView) → j < length least → get_or (least ++ x ∷ []) j d ≡ get_or least j d
    old-at j d lt = get_or_append_left least (x ∷ []) d j lt

    new-at : (j : ℕ) (d : KnownView) → j < length (least ++ x ∷ []) → length least ≤ j → get_or (least ++ x ∷ []) j d ≡ x
    new-at j d lt past = get_or_push least x d j (omega (arith, length-append least (x ∷ [])))

    apart : (i j : ℕ) (d : KnownView) → i < length (least ++ x ∷ []) → j < length (least ++ x ∷ []) → (get_or (least ++ x ∷ []) i d).plan ≡ (get_or (least ++ x ∷ []) j d).plan →
        (i < length least) ⊎ (length least ≤ i) → (j < length least) ⊎ (length least ≤ j) → i ≡ j
    apart i j d in-i in-j same (inl a) (inl b) = are.once i j d a b (sym (ap plan_of (old-at i d a)) ∙ same ∙ ap plan_of (old-at j d b))
    apart i j d in-i in-j same (inl a) (inr b) = absurd (none i d a (sym (ap plan_of (old-at i d a)) ∙ same ∙ ap plan_of (new-at j d in-j b)))
    apart i j d in-i in-j same (inr a) (inl b) = absurd (none j d b (sym (ap plan_of (old-at j d b)) ∙ sym same ∙ ap plan_of (new-at i d in-i a)))
    apart i j d in-i in-j same (inr a) (inr b) = omega (arith, length-append least (x ∷ []))

    -- the first one of its plan
    pub new-known : AreLeast (known ++ x ∷ []) (least ++ x ∷ [])
    new-known = record {
      among =
          All-push (Contains (known ++ x ∷ [])) least x (λ j d within. Contains-append_left known (x ∷ []) (get_or least j d) (are.among j d within)) (last-one known x);
      of_each =
          All-push (HasOneUpTo (least ++ x ∷ [])) known x
          (λ n d within. let e = are.of_each n d within in (e.0, Contains-append_left least (x ∷ []) e.0 e.1, e.2, e.3))
          (x, last-one least x, refl, not_before_itself x.fault.at);
      once = λ i j d in-i in-j same. apart i j d in-i in-j same (cases_lt i (length least)) (cases_lt j (length least));
    }

-- Faults that are kept as these are seen

pub none-more : (known : List KnownView) (plan : PlanView) (i : ℕ) → ((k : ℕ) (d : KnownView) → k < i → (get_or known k d).plan ≡ plan → ⊥) → ((d : KnownView) → (get_or known i d).plan ≡ plan → ⊥) →
    (k : ℕ) (d : KnownView) → k < i + 1 → (get_or known k d).plan ≡ plan → ⊥
none-more known plan i before here k d lt same = by (cases_lt k i)
  where
    by : (k < i) ⊎ (i ≤ k) → ⊥
    by (inl less) = before k d less same
    by (inr more) = let e : k ≡ i = omega arith in here d (subst (λ (n : ℕ). (get_or known n d).plan ≡ plan) e same)

module _ {X : Type 0} (f : X → KnownView) (xs ys : List X) (i : ℕ) (plan : PlanView) (same : xs ≡ ys) (lt : i < length xs) (one : (d : KnownView) → (get_or (map f xs) i d).plan ≡ plan) where
  within : i < length ys
  within = omega (arith, lt, ap length same)

  within-map : i < length (map f ys)
  within-map = omega (arith, within, length-map ys f)

  at : (x : X) (d : KnownView) → get_or (map f ys) i d ≡ f (get_or ys i x)
  at x d = get_or-map f ys i x d within

  of-plan : (x : X) → (f (get_or ys i x)).plan ≡ plan
  of-plan x = ap plan_of (sym (at x (f x))) ∙ ap (λ (zs : List X). (get_or (map f zs) i (f x)).plan) (sym same) ∙ one (f x)

  pub least-at : (known : List KnownView) (x : X) → AreLeast known (map f ys) → IsLeastOf plan known (f (get_or ys i x))
  least-at known x are = is-least known (map f ys) are i (f (get_or ys i x)) within-map (at x) plan (of-plan x)

  module _ (known all : List KnownView) (x : X) (are : AreLeast known (map f ys)) (more : all ≡ known ++ f x ∷ []) (its : plan ≡ (f x).plan) where
    pub kept : (IsBefore (f x).fault.at (f (get_or ys i x)).fault.at → ⊥) → AreLeast all (map f ys)
    kept after =
        subst (λ (l : List KnownView). AreLeast l (map f ys)) (sym more)
        (later-known known (map f ys) are i (f (get_or ys i x)) within-map (at x) (f x) (of-plan x ∙ its) after)

    pub replaced : IsBefore (f x).fault.at (f (get_or ys i x)).fault.at → AreLeast all (map f (set ys i x))
    replaced before =
        subst (λ (l : List KnownView). AreLeast l (map f (set ys i x))) (sym more)
        (subst (AreLeast (known ++ f x ∷ [])) (sym (map-set f ys i x))
        (earlier-known known (map f ys) are i (f (get_or ys i x)) within-map (at x) (f x) (of-plan x ∙ its) before))

-- Cells that were read

pub reads_none : (f : FaultsView) → ReadsOn f f
reads_none f = record { more = []; cells_are = ap (λ (l : List KnownView). record f.cells { read = l }) (sym (append-nil f.cells.read)); known_is = sym (append-nil f.known) }

pub reads_one : (old new : FaultsView) (x : KnownView) → new.cells ≡ record old.cells { read = old.cells.read ++ x ∷ [] } → new.known ≡ old.known ++ x ∷ [] → ReadsOn old new
reads_one old new x read known = record { more = x ∷ []; cells_are = read; known_is = known }

pub reads_more : (first old new : FaultsView) → ReadsOn first old → ReadsOn old new → ReadsOn first new
reads_more first old new so_far h = record {
  more = so_far.more ++ h.more;
  cells_are = h.cells_are ∙ ap (λ (c : CellsView KnownView). record c { read = c.read ++ h.more }) so_far.cells_are
      ∙ ap (λ (l : List KnownView). record first.cells { read = l }) (append_assoc first.cells.read so_far.more h.more);
  known_is = h.known_is ∙ ap (λ (l : List KnownView). l ++ h.more) so_far.known_is ∙ append_assoc first.known so_far.more h.more;
}

pub same-names : (old new : FaultsView) → ReadsOn old new → new.cells.names ≡ old.cells.names
same-names old new h = ap (λ (c : CellsView KnownView). c.names) h.cells_are

-- where one more was read, fewer are left
pub fewer-left : (old new : FaultsView) → ReadsOn old new → ReadsOne old new None →
    length new.cells.names - length new.cells.read < length old.cells.names - length old.cells.read
fewer-left old new h one = omega (arith, one.0, one.1, ap length (same-names old new h))

pub one-more : (old new : FaultsView) (x : KnownView) → new.cells ≡ record old.cells { read = old.cells.read ++ x ∷ [] } → length old.cells.read < length old.cells.names → ReadsOne old new None
one-more old new x read lt =
    let more : length new.cells.read ≡ length old.cells.read + 1 = ap (λ (c : CellsView KnownView). length c.read) read ∙ length-append old.cells.read (x ∷ []) in
    let names : length new.cells.names ≡ length old.cells.names = ap (λ (c : CellsView KnownView). length c.names) read in
    (more, omega (arith, more, names, lt))

-- Where none of the least ones may cut a task, none does that is known.
pub none-cuts : (known least : List KnownView) (plan : PlanView) (origin : Origin) → AreLeast known least → NoneCuts least plan origin → NoneCuts known plan origin
none-cuts known least plan origin are none i d lt same before =
    let e = are.of_each i d lt in
    let k = get_or known i d in
    let one : e.0.plan ≡ plan = e.2 ∙ same in
    let not_before = All-contains (λ (x : KnownView). x.plan ≡ plan → IsBefore x.fault.at (start_of origin) → ⊥) least e.0 none e.1 one in
    e.3 (below k.fault.at (start_of origin) e.0.fault.at before not_before)

-- what may not cut a task cuts an equal one as little
pub here-none : (x y : KnownView) (t u : TaskView) → x ≡ y → t ≡ u → (y.plan ≡ t.task.plan → IsBefore y.fault.at (start_of t.task.origin) → ⊥) → x.plan ≡ u.task.plan →
    IsBefore x.fault.at (start_of u.task.origin) → ⊥
here-none x y t u xy tu none =
    subst (λ (v : TaskView). x.plan ≡ v.task.plan → IsBefore x.fault.at (start_of v.task.origin) → ⊥) tu
    (subst (λ (k : KnownView). k.plan ≡ t.task.plan → IsBefore k.fault.at (start_of t.task.origin) → ⊥) (sym xy) none)

pub next-cuts-none : (known : List KnownView) (plan : PlanView) (origin : Origin) (i : ℕ) →
    ((k : ℕ) (d : KnownView) → k < i → (get_or known k d).plan ≡ plan → IsBefore (get_or known k d).fault.at (start_of origin) → ⊥) →
    ((d : KnownView) → (get_or known i d).plan ≡ plan → IsBefore (get_or known i d).fault.at (start_of origin) → ⊥) → (k : ℕ) (d : KnownView) → k < i + 1 →
    (get_or known k d).plan ≡ plan → IsBefore (get_or known k d).fault.at (start_of origin) → ⊥
next-cuts-none known plan origin i before here k d lt = by (cases_lt k i)
  where
    by : (k < i) ⊎ (i ≤ k) → (get_or known k d).plan ≡ plan → IsBefore (get_or known k d).fault.at (start_of origin) → ⊥
    by (inl less) = before k d less
    by (inr more) =
        let e : i ≡ k = omega arith in
        subst (λ (n : ℕ). (get_or known n d).plan ≡ plan → IsBefore (get_or known n d).fault.at (start_of origin) → ⊥) e (here d)

-- the faults of cells among all that are known

pub none_known : (known : List KnownView) → AreKnown known []
none_known known i d lt = absurd (omega (arith, lt))

pub still_known : (known read : List KnownView) (x : KnownView) → AreKnown known read → AreKnown (known ++ x ∷ []) read
still_known known read x are i d lt = Contains-append_left known (x ∷ []) (get_or read i d) (are i d lt)

pub one_known : (known read : List KnownView) (x : KnownView) → AreKnown known read → AreKnown (known ++ x ∷ []) (read ++ x ∷ [])
one_known known read x are = All-push (Contains (known ++ x ∷ [])) read x (still_known known read x are) (last-one known x)

pub stands_first : (plan : PlanView) (fault : Fault) (known read : List KnownView) → AreKnown known read → StandsFirst plan fault known → StandsFirst plan fault read
stands_first plan fault known read are first i d lt =
    let there = are i d lt in All-contains (λ (k : KnownView). k.plan ≡ plan → IsBefore fault.at k.fault.at) known (get_or read i d) first there

pub known_both : (known read known' read' : List KnownView) (x : KnownView) → AreKnown known read → known' ≡ known ++ x ∷ [] → read' ≡ read ++ x ∷ [] → AreKnown known' read'
known_both known read known' read' x are more further =
    subst (λ (l : List KnownView). AreKnown l read') (sym more) (subst (AreKnown (known ++ x ∷ [])) (sym further) (one_known known read x are))

pub noted_known : {A E : Type 0} (r : Result A E) (known known' read : List KnownView) (x : KnownView) → OnOk r (known' ≡ known ++ x ∷ []) → OnErr r (known' ≡ known) → AreKnown known read →
    AreKnown known' read
noted_known (Ok a) known known' read x grows same are = subst (λ (l : List KnownView). AreKnown l read) (sym grows) (still_known known read x are)
noted_known (Err e) known known' read x grows same are = subst (λ (l : List KnownView). AreKnown l read) (sym same) are
