-- A move of a machine, some of whose children's answers aren't taken yet.
use Rattle.std.proofs.Common.{◌≡◌, ℕ, suc, ◌≤◌, Bool, true, false, ◌||◌, nat_eq, List, [], ◌∷◌, ◌++◌, Option, Some, None, Result, Ok, Err, refl, sym, ap, ◌∙◌, if◌then◌else◌, length, subst}
use Rattle.std.specs.Prelude.{Contains}
use Rattle.script_grammar.specs.declared.tree.Name.{Name}
use Rattle.script_grammar.specs.declared.tree.Stmt.{Stmt, out-Stmt}
use Rattle.script_grammar.specs.declared.tree.Act.{out-Act}
use Rattle.serial_meaning.specs.Runs.{Run, done, run_ends_by, after_items}
use Rattle.serial_meaning.specs.Plan.{PlanView}
use Rattle.serial_meaning.specs.Eval.{Evaluation, first_value}
use Rattle.serial_meaning.specs.Open.{Item, NodeFault, Own, least}
use Rattle.serial_meaning.specs.declared.value.Value.{Value}
use Rattle.serial_meaning.specs.declared.event.Fault.{Fault}
use Rattle.serial_meaning.specs.declared.origin.Origin.{Origin}
use Rattle.strand_meaning.specs.Clear.{IsApart, target_names, touched}
use Rattle.strand_meaning.specs.Machine.{Destination, Spawned, Looped, Half, Effect, Opens, Closes, Emitted, Starts, Syncs, Loops, Frame, Machine, Reached, Stands, Gives, move}
use Rattle.strand_meaning.specs.Trace.{AwaitedChild}
use Rattle.strand_meaning.specs.Task.{Stage, Running, AtSync, AtLoop, Ended, stage_after, changed, changed_at, frame_with_answer, in_machine, takes, takes_all, resumed, with_answer}
use Rattle.strand_meaning.specs.Rest.{evaluations, rest_of_stage, rest_open}
use Rattle.strand_meaning.specs.Sound.{IsDestination, AreDestinations, is_by, any_by}
use Rattle.strand_meaning.specs.Observation.{effect_items}
use Rattle.strand_meaning.proofs.Unfilled.RestAfterEffects.{effect_parts, after_effects}
use Rattle.strand_meaning.proofs.Unfilled.UntouchedStays.{keeps-answer, keeps-nothing, first-contained}
use Rattle.strand_meaning.proofs.Unfilled.MovesMirrorTree.{complete-move}
use Rattle.strand_meaning.specs.Laws.{on_reached, changed_run}
use Rattle.strand_meaning.proofs.Unfilled.ChangesCommute.{length-changed, IsFree, altered-move}

-- a machine that takes an answer
abbrev pub take : Destination → Result (List Value) Fault → Machine → Machine
take (Spawned height target) ended m = changed height (frame_with_answer target ended) m
take (Looped target) ended m = m
take Half ended m = m

abbrev pub taken : (Origin → Evaluation) → List AwaitedChild → Machine → Machine
taken child [] m = m
taken child (p ∷ ps) m = taken child ps (take p.destination (child p.child).ending m)

-- what an answer doesn't change
pub record Shape : Type 0 where
  pub height : ℕ
  pub left : List Stmt
  pub leaving : Bool
  pub returning : Bool
  pub target : Option Name
  pub spawned : Bool

abbrev pub shape_of : Machine → Shape
shape_of m = record { height = length m.below; left = m.top.left; leaving = m.top.leaving; returning = m.top.returning; target = m.top.target; spawned = m.top.spawned }

shape-answered : (height : ℕ) (target : Option Name) (ended : Result (List Value) Fault) (m : Machine) → shape_of (changed height (frame_with_answer target ended) m) ≡ shape_of m
shape-answered height target ended m = by_place (nat_eq height (length m.below)) ended
  where
    by_place : (b : Bool) (ended : Result (List Value) Fault) → shape_of (if b then record m { top = frame_with_answer target ended m.top } else record m { below = changed_at height (frame_with_answer target ended) m.below }) ≡ shape_of m
    by_place true (Ok vs) = refl
    by_place true (Err f) = refl
    by_place false ended = ap (λ (n : ℕ). record { height = n; left = m.top.left; leaving = m.top.leaving; returning = m.top.returning; target = m.top.target; spawned = m.top.spawned }) (length-changed height (frame_with_answer target ended) m.below)

shape-take : (destination : Destination) (ended : Result (List Value) Fault) (m : Machine) → shape_of (take destination ended m) ≡ shape_of m
shape-take (Spawned height target) ended m = shape-answered height target ended m
shape-take (Looped target) ended m = refl
shape-take Half ended m = refl

pub shape-taken : (child : Origin → Evaluation) (ps : List AwaitedChild) (m : Machine) → shape_of (taken child ps m) ≡ shape_of m
shape-taken child [] m = refl
shape-taken child (p ∷ ps) m = shape-taken child ps (take p.destination (child p.child).ending m) ∙ shape-take p.destination (child p.child).ending m

-- the next move doesn't touch the target of a child, nor is it the end of its frame
abbrev pub IsFreePlace : Shape → Destination → Type 0
IsFreePlace s (Spawned owner target) =
    (owner ≤ s.height)
    × (owner ≡ s.height → (st : Stmt) (left : List Stmt) → s.left ≡ st ∷ left → IsApart (touched (out-Act (out-Stmt st).act)) (target_names target))
    × (owner ≡ s.height → s.left ≡ [] → s.returning ≡ false)
    × (suc owner ≡ s.height → IsApart (target_names s.target) (target_names target))
IsFreePlace s (Looped target) = Unit {0}
IsFreePlace s Half = Unit {0}

abbrev pub AreFree : List AwaitedChild → Shape → Type 0
AreFree [] s = Unit {0}
AreFree (p ∷ ps) s = IsFreePlace s p.destination × AreFree ps s

target-contained : (target : Option Name) (x : Name) → target ≡ Some x → Contains (target_names target) x.bytes
target-contained target x h = rw h (first-contained x.bytes [])

changed-nothing : (e : Result Reached Fault) → on_reached (λ m. m) e ≡ e
changed-nothing (Ok (Stands m)) = refl
changed-nothing (Ok (Gives v)) = refl
changed-nothing (Err f) = refl

module _ (plan : PlanView) (path : List ℕ) where
  free-answer : (owner : ℕ) (target : Option Name) (m : Machine) → IsFreePlace (shape_of m) (Spawned owner target) → (v : Value) (mark : Option Fault → Option Fault) → IsFree plan path (with_answer target v) mark owner m
  free-answer owner target m free v mark = record {
    inside = free.0;
    touches = λ e st left h. keeps-answer target v (touched (out-Act (out-Stmt st).act)) (target_names target) (target-contained target) (free.1 e st left h);
    closes = free.2;
    comes = λ caller more h e. keeps-answer target v (target_names m.top.target) (target_names target) (target-contained target) (free.3 (ap suc e ∙ ap length (sym h)));
  }

  free-nothing : (owner : ℕ) (target : Option Name) (m : Machine) → IsFreePlace (shape_of m) (Spawned owner target) → (mark : Option Fault → Option Fault) → IsFree plan path (λ env. env) mark owner m
  free-nothing owner target m free mark = record {
    inside = free.0;
    touches = λ e st left h. keeps-nothing (touched (out-Act (out-Stmt st).act));
    closes = free.2;
    comes = λ caller more h e. keeps-nothing (target_names m.top.target);
  }

  -- an answer taken before the move, or after it
  pub take-move : (destination : Destination) (ended : Result (List Value) Fault) (m : Machine) → IsFreePlace (shape_of m) destination → move plan path (take destination ended m) ≡ changed_run (take destination ended) (move plan path m)
  take-move (Spawned owner target) (Ok vs) m free =
      altered-move plan path (with_answer target (first_value vs)) (λ known. known) owner m (free-answer owner target m free (first_value vs) (λ known. known))
  take-move (Spawned owner target) (Err f) m free =
      altered-move plan path (λ env. env) (λ known. Some (least known f)) owner m (free-nothing owner target m free (λ known. Some (least known f)))
  take-move (Looped target) ended m free = ap (λ (e : Result Reached Fault). record { items = (move plan path m).items; ending = e }) (sym (changed-nothing (move plan path m).ending))
  take-move Half ended m free = ap (λ (e : Result Reached Fault). record { items = (move plan path m).items; ending = e }) (sym (changed-nothing (move plan path m).ending))

  taken-move : (child : Origin → Evaluation) (ps : List AwaitedChild) (m : Machine) → AreFree ps (shape_of m) → move plan path (taken child ps m) ≡ changed_run (taken child ps) (move plan path m)
  taken-move child [] m free = ap (λ (e : Result Reached Fault). record { items = (move plan path m).items; ending = e }) (sym (changed-nothing (move plan path m).ending))
  taken-move child (p ∷ ps) m free =
      let ended = (child p.child).ending in
      taken-move child ps (take p.destination ended m) (subst (AreFree ps) (sym (shape-take p.destination ended m)) free.1)
      ∙ ap (changed_run (taken child ps)) (take-move p.destination ended m free.0)
      ∙ ap (λ (e : Result Reached Fault). record { items = (move plan path m).items; ending = e }) (both (move plan path m).ending)
    where
      both : (e : Result Reached Fault) → on_reached (taken child ps) (on_reached (take p.destination (child p.child).ending) e) ≡ on_reached (taken child (p ∷ ps)) e
      both (Ok (Stands k)) = refl
      both (Ok (Gives v)) = refl
      both (Err f) = refl

-- The stage that takes answers

in-nothing : (stage : Stage) → in_machine (λ m. m) stage ≡ stage
in-nothing (Running m) = refl
in-nothing (AtSync m) = refl
in-nothing (AtLoop m) = refl
in-nothing (Ended e) = refl

in-both : (f g : Machine → Machine) (stage : Stage) → in_machine g (in_machine f stage) ≡ in_machine (λ m. g (f m)) stage
in-both f g (Running m) = refl
in-both f g (AtSync m) = refl
in-both f g (AtLoop m) = refl
in-both f g (Ended e) = refl

takes-destination : (height : ℕ) (destination : Destination) (ended : Result (List Value) Fault) → IsDestination height destination → (stage : Stage) → takes destination ended stage ≡ in_machine (take destination ended) stage
takes-destination height (Spawned owner target) ended h stage = refl
takes-destination height (Looped target) ended h stage = absurd h
takes-destination height Half ended h stage = sym (in-nothing stage)

pub takes-taken : (child : Origin → Evaluation) (height : ℕ) (ps : List AwaitedChild) → AreDestinations height ps → (stage : Stage) → takes_all ps (evaluations child ps) stage ≡ in_machine (taken child ps) stage
takes-taken child height [] h stage = sym (in-nothing stage)
takes-taken child height (p ∷ ps) h stage =
    takes-taken child height ps h.1 (takes p.destination (child p.child).ending stage)
    ∙ ap (in_machine (taken child ps)) (takes-destination height p.destination (child p.child).ending h.0 stage)
    ∙ in-both (take p.destination (child p.child).ending) (taken child ps) stage

pub takes-append : (child : Origin → Evaluation) (ps qs : List AwaitedChild) (stage : Stage) → takes_all (ps ++ qs) (evaluations child (ps ++ qs)) stage ≡ takes_all qs (evaluations child qs) (takes_all ps (evaluations child ps) stage)
takes-append child [] qs stage = refl
takes-append child (p ∷ ps) qs stage = takes-append child ps qs (takes p.destination (child p.child).ending stage)

stage-in : (change : Machine → Machine) (ts : List Effect) (m : Machine) → stage_after ts (change m) ≡ in_machine change (stage_after ts m)
stage-in change [] m = refl
stage-in change (Opens j ∷ ts) m = stage-in change ts m
stage-in change (Closes j ∷ ts) m = stage-in change ts m
stage-in change (Emitted e ∷ ts) m = stage-in change ts m
stage-in change (Starts o destination ∷ ts) m = stage-in change ts m
stage-in change (Syncs ∷ ts) m = refl
stage-in change (Loops ∷ ts) m = refl

-- what remains after a move of a machine with these parts
abbrev pub shown_with : PlanView → (Origin → Evaluation) → List ℕ → List AwaitedChild → List Effect → Result Reached Fault → Run Item NodeFault Value
shown_with plan child path ps ts (Ok (Stands m)) = rest_open plan child path (ps ++ effect_parts ts) (stage_after ts m)
shown_with plan child path ps ts (Ok (Gives v)) = done v
shown_with plan child path ps ts (Err f) = run_ends_by (Own f)

module _ (plan : PlanView) (child : Origin → Evaluation) (path : List ℕ) (height : ℕ) (ps : List AwaitedChild) (places : AreDestinations height ps) where
  after_effects-taken : (ts : List Effect) (e : Result Reached Fault) → after_effects plan child path ts (on_reached (taken child ps) e) ≡ shown_with plan child path ps ts e
  after_effects-taken ts (Ok (Stands m)) =
      ap (λ stage. rest_of_stage plan child path (resumed (takes_all (effect_parts ts) (evaluations child (effect_parts ts)) stage))) (stage-in (taken child ps) ts m ∙ sym (takes-taken child height ps places (stage_after ts m)))
      ∙ ap (λ stage. rest_of_stage plan child path (resumed stage)) (sym (takes-append child ps (effect_parts ts) (stage_after ts m)))
  after_effects-taken ts (Ok (Gives v)) = refl
  after_effects-taken ts (Err f) = refl

  ended-so : (m : Machine) → (m.top.leaving ≡ true → m.top.left ≡ []) → (taken child ps m).top.leaving ≡ true → (taken child ps m).top.left ≡ []
  ended-so m ended h = let e = shape-taken child ps m in ap (λ (s : Shape). s.left) e ∙ ended (sym (ap (λ (s : Shape). s.leaving) e) ∙ h)

  -- What remains of an instance is what a move shows, and then what it leaves, with the parts so far and those of the move.
  pub open-move : (m : Machine) → AreFree ps (shape_of m) → ((taken child ps m).top.spawned ≡ false → (taken child ps m).top.faulted ≡ None) → (m.top.leaving ≡ true → m.top.left ≡ []) →
      rest_open plan child path ps (Running m) ≡ after_items (effect_items (move plan path m).items) (shown_with plan child path ps (move plan path m).items (move plan path m).ending)
  open-move m free none ended =
      let r = move plan path m in
      ap (λ stage. rest_of_stage plan child path (resumed stage)) (takes-taken child height ps places (Running m))
      ∙ complete-move plan child path (taken child ps m) none (ended-so m ended)
      ∙ ap (λ (r : Run Effect Fault Reached). after_items (effect_items r.items) (after_effects plan child path r.items r.ending)) (taken-move plan path child ps m free)
      ∙ ap (after_items (effect_items r.items)) (after_effects-taken r.items r.ending)

-- what is known of the innermost frame where no child is its own

taken-spawned : (child : Origin → Evaluation) (ps : List AwaitedChild) (m : Machine) → (taken child ps m).top.spawned ≡ m.top.spawned
taken-spawned child ps m = ap (λ (s : Shape). s.spawned) (shape-taken child ps m)

neither : (a b : Bool) → (a || b) ≡ false → (a ≡ false) × (b ≡ false)
neither false false h = (refl, refl)
neither true b h = absurd (cc)
neither false true h = absurd (cc)

take-top : (destination : Destination) (ended : Result (List Value) Fault) (m : Machine) → is_by (length m.below) destination ≡ false → (take destination ended m).top ≡ m.top
take-top (Spawned owner target) ended m h = rw h refl
take-top (Looped target) ended m h = refl
take-top Half ended m h = refl

taken-top : (child : Origin → Evaluation) (ps : List AwaitedChild) (m : Machine) → any_by (length m.below) ps ≡ false → (taken child ps m).top ≡ m.top
taken-top child [] m h = refl
taken-top child (p ∷ ps) m h =
    let ended = (child p.child).ending in
    let n = neither (is_by (length m.below) p.destination) (any_by (length m.below) ps) h in
    let same : length (take p.destination ended m).below ≡ length m.below = ap (λ (s : Shape). s.height) (shape-take p.destination ended m) in
    taken-top child ps (take p.destination ended m) (ap (λ n. any_by n ps) same ∙ n.1) ∙ take-top p.destination ended m n.0

-- A frame that spawned nothing knows of no fault, also once all answers are taken.
pub none-known : (child : Origin → Evaluation) (ps : List AwaitedChild) (m : Machine) → (any_by (length m.below) ps ≡ true → m.top.spawned ≡ true) → (m.top.spawned ≡ false → m.top.faulted ≡ None) →
    (taken child ps m).top.spawned ≡ false → (taken child ps m).top.faulted ≡ None
none-known child ps m spawned faulted h = from (any_by (length m.below) ps) refl
  where
    unspawned : m.top.spawned ≡ false
    unspawned = sym (taken-spawned child ps m) ∙ h

    from : (b : Bool) → any_by (length m.below) ps ≡ b → (taken child ps m).top.faulted ≡ None
    from true e = let no : true ≡ false = sym (spawned e) ∙ unspawned in absurd (cc)
    from false e = ap (λ (a : Frame). a.faulted) (taken-top child ps m e) ∙ faulted unspawned
