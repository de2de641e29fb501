-- The evaluation of an origin ends by the least of the faults of its part of the open tree, and without one where there is none.
use Rattle.std.proofs.Common.{◌≡◌, ℕ, zero, suc, Bool, true, false, ◌==◌, if◌then◌else◌, List, [], ◌∷◌, ◌++◌, Option, Some, None, Result, Ok, Err, ◌⊎◌, inl, inr, refl, sym, ap, ◌∙◌, subst, append_assoc, append-nil, arith}
use Rattle.std.specs.Prelude.{Contains, All}
use Rattle.std.proofs.lemmas.Bool.Decides.{nat_tests}
use Rattle.std.proofs.lemmas.List.Elements.{Contains-append_left}
use Rattle.ped_path.specs.Path.{IsBefore}
use Rattle.serial_meaning.specs.Laws.{EndsByLeast}
use Rattle.serial_meaning.specs.Runs.{done}
use Rattle.serial_meaning.specs.Plan.{PlanView}
use Rattle.serial_meaning.specs.Eval.{Evaluation, path_of, eval_with, eval_below, eval, depth_left, main_origin, elision}
use Rattle.serial_meaning.specs.Open.{Item, Happened, Child, Opened, Closed, NodeFault, Own, ChildFaulted, node_with, node_of, own_fault, faults_of, faults_with, faults_below, faults_in, faults, is_empty_loop}
use Rattle.serial_meaning.proofs.RisingPedigrees.Order.{not_before_itself, not_before-back}
use Rattle.serial_meaning.proofs.Equations.Each.{Each, each-append, each-map, each-at, each-contained}
use Rattle.serial_meaning.proofs.LeastFault.Children.{Rise, IsAt, NodeStops, children, node-spread}
use Rattle.serial_meaning.proofs.LeastFault.Cut.{Matches, cut, child_first}
use Rattle.serial_meaning.proofs.LeastFault.Left.{LeftOf, left-longer, left-before}
use Rattle.serial_meaning.proofs.OriginFaults.Levels.{every}
use Rattle.serial_meaning.proofs.LeastFault.Sim.{node-cuts, empty_below}
use Rattle.serial_meaning.specs.declared.value.Value.{Value}
use Rattle.serial_meaning.specs.declared.event.Fault.{Fault}
use Rattle.serial_meaning.specs.declared.event.Event.{Event}
use Rattle.serial_meaning.specs.declared.origin.Origin.{Origin}

each-all : {X : Type 0} (T : X → Type 0) (xs : List X) → Each T xs → All T xs
each-all T xs h k d g = each-at T xs k d h g

-- a fault stands below a path
abbrev pub Under : List ℕ → Fault → Type 0
Under path f = (k : ℕ) × (more : List ℕ) × (f.at ≡ path ++ k ∷ more)

abbrev pub NotBefore : Fault → Fault → Type 0
NotBefore f g = IsBefore g.at f.at → ⊥

abbrev pub LeastOf : List Fault → Result (List Value) Fault → Type 0
LeastOf fs (Ok vs) = fs ≡ []
LeastOf fs (Err f) = Contains fs f × Each (NotBefore f) fs

-- what one child's part holds isn't before what stands left of it
not_before-left : (f g : Fault) (a b x y : List ℕ) → f.at ≡ a ++ x → g.at ≡ b ++ y → LeftOf a b → NotBefore f g
not_before-left f g a b x y e d l h =
    let before : IsBefore (a ++ x) (b ++ y) = left-before (a ++ x) (b ++ y) (left-longer a b x y l) in
    not_before-back (a ++ x) (b ++ y) before (subst (λ z. IsBefore z (a ++ x)) d (subst (IsBefore g.at) e h))

-- a fault in the part of one of these children
abbrev Among : List Origin → Fault → Type 0
Among [] f = ⊥
Among (o ∷ os) f = ((more : List ℕ) × (f.at ≡ path_of o ++ more)) ⊎ Among os f

-- where all children stand left of a place, so does what is in their parts
among-left : (os : List Origin) (f g : Fault) → Among os f → Each (λ o. LeftOf (path_of o) g.at) os → NotBefore f g
among-left [] f g a l = absurd a
among-left (o ∷ os) f g (inl a) l = not_before-left f g (path_of o) g.at a.0 [] a.1 (sym (append-nil g.at)) l.0
among-left (o ∷ os) f g (inr a) l = among-left os f g a l.1

module _ (below : Origin → List Fault) (under : (c : Origin) → Each (Under (path_of c)) (below c)) where
  -- The faults below the children of a node stand in the children's parts, and right of what stands left of all of them.
  faults-right : (f : Fault) (a x : List ℕ) → f.at ≡ a ++ x → (is : List Item) → Each (λ c. LeftOf a (path_of c)) (children is) → Each (NotBefore f) (faults_of below is)
  faults-right f a x e [] l = tt
  faults-right f a x e (Happened y ∷ is) l = faults-right f a x e is l
  faults-right f a x e (Child c ∷ is) l =
      each-append (NotBefore f) (below c) (faults_of below is)
      (each-map (below c) (λ g u. not_before-left f g a (path_of c) x (u.0 ∷ u.1) e u.2 l.0) (under c))
      (faults-right f a x e is l.1)
  faults-right f a x e (Opened y ∷ is) l = faults-right f a x e is l
  faults-right f a x e (Closed y ∷ is) l = faults-right f a x e is l

  -- and below the node's path
  faults-stand : (path : List ℕ) (lo hi : ℕ) (is : List Item) → Each (IsAt path lo hi) (children is) → Each (Under path) (faults_of below is)
  faults-stand path lo hi [] w = tt
  faults-stand path lo hi (Happened y ∷ is) w = faults-stand path lo hi is w
  faults-stand path lo hi (Child c ∷ is) w =
      each-append (Under path) (below c) (faults_of below is) (each-map (below c) up (under c)) (faults-stand path lo hi is w.1)
    where
      up : (f : Fault) → Under (path_of c) f → Under path f
      up f u =
          let at = w.0 in
          (at.0, at.1 ++ u.0 ∷ u.1, u.2 ∙ ap (λ z. z ++ u.0 ∷ u.1) at.2 ∙ append_assoc path (at.0 ∷ at.1) (u.0 ∷ u.1))
  faults-stand path lo hi (Opened y ∷ is) w = faults-stand path lo hi is w
  faults-stand path lo hi (Closed y ∷ is) w = faults-stand path lo hi is w

  module _ (child : Origin → Evaluation) (least : (c : Origin) → LeastOf (below c) (child c).ending) where
    -- what the faults below the children are, by the first child that faults
    abbrev Walked : List Origin → List Fault → Option Fault → Type 0
    Walked os fs None = fs ≡ []
    Walked os fs (Some f) = Contains fs f × Each (NotBefore f) fs × Among os f

    walked-later : (o : Origin) (os : List Origin) (fs : List Fault) (c : Option Fault) → Walked os fs c → Walked (o ∷ os) fs c
    walked-later o os fs None w = w
    walked-later o os fs (Some f) w = (w.0, w.1, inr w.2)

    walk : (is : List Item) → Rise (children is) → Walked (children is) (faults_of below is) (cut child is).cut_by
    walk [] r = refl
    walk (Happened e ∷ is) r = walk is r
    walk (Child c ∷ is) r = by_end (child c).ending (least c) (walk is r.1)
      where
        by_end : (q : Result (List Value) Fault) → LeastOf (below c) q → Walked (children is) (faults_of below is) (cut child is).cut_by →
            Walked (c ∷ children is) (below c ++ faults_of below is) (child_first (child c).items q (cut child is)).cut_by
        by_end (Ok vs) none w = rw none (walked-later c (children is) (faults_of below is) (cut child is).cut_by w)
        by_end (Err f) l w =
            let u : Under (path_of c) f = each-contained (Under (path_of c)) (below c) f (under c) l.0 in (
              Contains-append_left (below c) (faults_of below is) f l.0,
              each-append (NotBefore f) (below c) (faults_of below is) l.1 (faults-right f (path_of c) (u.0 ∷ u.1) u.2 is r.0),
              inl (u.0 ∷ u.1, u.2),
            )
    walk (Opened j ∷ is) r = walk is r
    walk (Closed j ∷ is) r = walk is r

    own-later : (path : List ℕ) (os : List Origin) (f : Fault) (e : Result (List Value) NodeFault) → Among os f → NodeStops path os e → Each (NotBefore f) (own_fault e)
    own-later path os f (Ok vs) s n = tt
    own-later path os f (Err (Own g)) s n = (among-left os f g s n.left, tt)
    own-later path os f (Err (ChildFaulted g)) s n = tt

    at_node : (path : List ℕ) (os : List Origin) (fs : List Fault) (es : List Event) (c : Option Fault) (r : Evaluation) (e : Result (List Value) NodeFault) →
        Walked os fs c → Matches child (λ (vs : List Value). vs) es c r e → NodeStops path os e → LeastOf (fs ++ own_fault e) r.ending
    at_node path os fs es (Some f) r e w m n =
        subst (λ (q : Evaluation). LeastOf (fs ++ own_fault e) q.ending) (sym m) (Contains-append_left fs (own_fault e) f w.0, each-append (NotBefore f) fs (own_fault e) w.1 (own-later path os f e w.2 n))
    at_node path os fs es None r (Ok vs) w m n = subst (λ (q : Evaluation). LeastOf (fs ++ []) q.ending) (sym m.2) (rw w refl)
    at_node path os fs es None r (Err (Own f)) w m n =
        subst (λ (q : Evaluation). LeastOf (fs ++ f ∷ []) q.ending) (sym m) (rw w ((0, omega arith, refl), (not_before_itself f.at, tt)))
    at_node path os fs es None r (Err (ChildFaulted f)) w m n = absurd m

least-with : (plan : PlanView) (child : Origin → Evaluation) → ((o : Origin) → is_empty_loop o ≡ true → child o ≡ done []) →
    (below : Origin → List Fault) → ((c : Origin) → Each (Under (path_of c)) (below c)) → ((c : Origin) → LeastOf (below c) (child c).ending) →
    (o : Origin) → LeastOf (faults_of below (node_with plan child o).items ++ own_fault (node_with plan child o).ending) (eval_with plan child o).ending
least-with plan child empty below under least o =
    let s = node-spread plan child o in
    let node = node_with plan child o in
    at_node below under child least (path_of o) (children node.items) (faults_of below node.items) (cut child node.items).events (cut child node.items).cut_by (eval_with plan child o) node.ending
    (walk below under child least node.items s.spread.rise) (node-cuts plan child empty o) s.stops

own-under : (path : List ℕ) (os : List Origin) (e : Result (List Value) NodeFault) → NodeStops path os e → Each (Under path) (own_fault e)
own-under path os (Ok vs) n = tt
own-under path os (Err (Own f)) n = ((n.rank, n.more, n.at), tt)
own-under path os (Err (ChildFaulted f)) n = tt

under-with : (plan : PlanView) (below : Origin → List Fault) → ((c : Origin) → Each (Under (path_of c)) (below c)) → (o : Origin) → Each (Under (path_of o)) (faults_with plan below o)
under-with plan below under o =
    let s = node-spread plan (eval_below plan (depth_left plan o)) o in
    let node = node_of plan o in
    each-append (Under (path_of o)) (faults_of below node.items) (own_fault node.ending)
    (faults-stand below under (path_of o) 0 s.hi node.items s.spread.within)
    (own-under (path_of o) (children node.items) node.ending s.stops)

-- All faults of an origin's part of the open tree stand below its path.
pub faults_below-under : (plan : PlanView) (left : ℕ) (o : Origin) → Each (Under (path_of o)) (faults_below plan left o)
faults_below-under plan left o = every plan [] (faults_with plan) (λ o fs. Each (Under (path_of o)) fs) (λ o. tt) (under-with plan) left o

pub faults-under : (plan : PlanView) (o : Origin) → Each (Under (path_of o)) (faults_in plan o)
faults-under plan o = under-with plan (faults_below plan (depth_left plan o)) (faults_below-under plan (depth_left plan o)) o

pub least-below : (plan : PlanView) (left : ℕ) (o : Origin) → LeastOf (faults_below plan left o) (eval_below plan left o).ending
least-below plan zero o = refl
least-below plan (suc left) o = by_test (depth_left plan o == left) refl (least-below plan left)
  where
    by_test : (b : Bool) → (depth_left plan o == left) ≡ b → ((c : Origin) → LeastOf (faults_below plan left c) (eval_below plan left c).ending) →
        LeastOf ((if b then faults_with plan (faults_below plan left) else faults_below plan left) o) ((if b then eval_with plan (eval_below plan left) else eval_below plan left) o).ending
    by_test true e all =
        let same : depth_left plan o ≡ left = grind (arith, nat_tests) in
        subst (λ n. LeastOf (faults_of (faults_below plan left) (node_with plan (eval_below plan n) o).items ++ own_fault (node_with plan (eval_below plan n) o).ending) (eval_with plan (eval_below plan left) o).ending) (sym same)
        (least-with plan (eval_below plan left) (empty_below plan left) (faults_below plan left) (faults_below-under plan left) all o)
    by_test false e all = all o

pub least-in : (plan : PlanView) (o : Origin) → LeastOf (faults_in plan o) (eval plan o).ending
least-in plan o =
    let left = depth_left plan o in least-with plan (eval_below plan left) (empty_below plan left) (faults_below plan left) (faults_below-under plan left) (least-below plan left) o

ends_by_least : (fs : List Fault) (q : Result (List Value) Fault) → LeastOf fs q → EndsByLeast fs q
ends_by_least fs (Ok vs) l = l
ends_by_least fs (Err f) l = (l.0, each-all (NotBefore f) fs l.1)

pub fault_is_least : (plan : PlanView) → EndsByLeast (faults plan) (elision plan).ending
fault_is_least plan =
    ends_by_least (faults plan) (elision plan).ending (least-in plan (main_origin plan))
