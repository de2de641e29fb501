-- What a task is by the first of its children's answers that is a fault or a cut.
use Rattle.std.proofs.Common.{◌≡◌, ◌<◌, ℕ, List, [], ◌∷◌, ◌++◌, Option, Some, None, Result, Ok, Err, ◌-◌, refl, sym, ap, ◌∙◌, subst, append_assoc, append-nil, arith}
use Rattle.std.specs.Prelude.{Contains}
use Rattle.std.proofs.lemmas.List.Elements.{Contains-append_left, Contains-append_right}
use Rattle.ped_path.specs.Path.{IsBefore}
use Rattle.serial_meaning.specs.Answer.{AnswerView, IsEval, IsCut, IsAnswer, outcome_of, start_of}
use Rattle.serial_meaning.specs.Eval.{Evaluation, path_of, eval}
use Rattle.serial_meaning.specs.Laws.{IsOriginOf, EndsWithin, raising_pedigrees}
use Rattle.serial_meaning.specs.Open.{faults}
use Rattle.serial_meaning.specs.Plan.{PlanView}
use Rattle.serial_meaning.specs.Runs.{after_items, ◌then◌}
use Rattle.serial_meaning.proofs.CutsBefore.Earlier.{StandsBelow, before-event, before-loop, before-part, has-iterations}
use Rattle.serial_meaning.proofs.OriginFaults.Origins.{origins_end_within_faults}
use Rattle.serial_meaning.proofs.RisingPedigrees.Rising.{places-append}
use Rattle.serial_meaning.specs.declared.value.Value.{Value}
use Rattle.serial_meaning.specs.declared.event.Fault.{Fault}
use Rattle.serial_meaning.specs.declared.event.Event.{Event}
use Rattle.serial_meaning.specs.declared.origin.Origin.{Origin}
use Rattle.serial_meaning.specs.declared.origin.Origin.TheVariants.{Instance, Loop}
use Rattle.serial_meaning.specs.declared.answer.Outcome.{Outcome}
use Rattle.serial_meaning.specs.declared.answer.Outcome.TheVariants as outcome
use Rattle.strand_meaning.specs.Answers.{evaluation_of, answer_evaluations}
use Rattle.strand_meaning.specs.Machine.{Destination, Spawned, Looped, Half}
use Rattle.strand_meaning.specs.Cuts.{merged_of, AreAnswersOf, or_ends, ended_after, by_fault, IsByFaultOf}
use Rattle.strand_meaning.specs.Trace.{AwaitedChild, Trace, merged_answer, merged_answers}
use Rattle.strand_meaning.specs.Rest.{GaveValue, GaveValues, evaluations, prefix_run, awaited_run, remaining_run}
use Rattle.strand_meaning.specs.Sound.{AreSoundChildren, IsBegunBy, IsPartAfter, IsShownAs, IsUndivided, AreShownBy, IsTask}
use Rattle.strand_meaning.specs.Task.{Task, more_values}
use Rattle.strand_meaning.proofs.TakenAnswers.AnswerRuns.{answers_are_evaluations}
use Rattle.strand_meaning.proofs.SoundSteps.EventsShowChildren.{front_of}
use Rattle.strand_meaning.proofs.SoundSteps.ChildrenCloseNodes.{after-then}
use Rattle.strand_meaning.proofs.SoundSteps.StepsKeepTasks.{err-outcome}

module _ (child : Origin → Evaluation) where
  -- What stands before a child is among what the trace gives, where the children before it gave values.
  shown-comes : (events : List Event) (front : List AwaitedChild) (p : AwaitedChild) (later : List AwaitedChild) (values : List Value) (tail : List Value → Evaluation) (j : List ℕ) → GaveValues child front →
      Contains (raising_pedigrees (front_of events front)) j → Contains (raising_pedigrees (events ++ (awaited_run child (front ++ p ∷ later) values then tail).items)) j
  shown-comes events [] p later values tail j gave c =
      let more : List Event = (awaited_run child (p ∷ later) values then tail).items in
      subst (λ (l : List (List ℕ)). Contains l j) (sym (places-append events more)) (Contains-append_left (raising_pedigrees events) (raising_pedigrees more) j c)
  shown-comes events (q ∷ front) p later values tail j gave c = by_end (child q.child).ending (λ vs. shown-comes q.after front p later (more_values q.destination (Ok vs) values) tail j gave.1 c) gave.0
    where
      rest : List Value → Evaluation
      rest vs = awaited_run child (front ++ p ∷ later) (more_values q.destination (Ok vs) values)

      with_end : Result (List Value) Fault → Evaluation
      with_end e = record { items = (child q.child).items; ending = e } then λ vs. after_items q.after (rest vs)

      by_end : (e : Result (List Value) Fault) → ((vs : List Value) → Contains (raising_pedigrees (q.after ++ (rest vs then tail).items)) j) → GaveValue e → Contains (raising_pedigrees (events ++ (with_end e then tail).items)) j
      by_end (Err f) h g = absurd g
      by_end (Ok vs) h g = subst (λ (l : List Event). Contains (raising_pedigrees l) j) (sym split) last
        where
          front_events : List Event
          front_events = events ++ (child q.child).items

          -- the items are those of the child, and then those after it
          split : events ++ (with_end (Ok vs) then tail).items ≡ front_events ++ (q.after ++ (rest vs then tail).items)
          split =
              ap (λ (r : Evaluation). events ++ r.items) (after-then (child q.child).items (after_items q.after (rest vs)) tail ∙ ap (after_items (child q.child).items) (after-then q.after (rest vs) tail))
              ∙ sym (append_assoc events (child q.child).items (q.after ++ (rest vs then tail).items))

          last : Contains (raising_pedigrees (front_events ++ (q.after ++ (rest vs then tail).items))) j
          last =
              let more : List Event = q.after ++ (rest vs then tail).items in
              subst (λ (l : List (List ℕ)). Contains l j) (sym (places-append front_events more)) (Contains-append_right (raising_pedigrees front_events) (raising_pedigrees more) j (h vs))

  -- The trace up to the first fault of a child, and that fault.
  heard-ends : (prefix : List Event) (front : List AwaitedChild) (p : AwaitedChild) (later : List AwaitedChild) (values : List Value) (tail : List Value → Evaluation) (f : Fault) → GaveValues child front → (child p.child).ending ≡ Err f →
      after_items prefix (awaited_run child (front ++ p ∷ later) values then tail) ≡ record { items = (merged_answers (front ++ p ∷ []) (evaluations child (front ++ p ∷ [])) (record { prefix = prefix; fault = None; unmerged = [] })).prefix; ending = Err f }
  heard-ends prefix [] p later values tail f gave e = by_end (child p.child).ending e
    where
      run : Result (List Value) Fault → Evaluation
      run q = record { items = (child p.child).items; ending = q } then λ vs. after_items p.after (awaited_run child later (more_values p.destination (Ok vs) values))

      heard_with : Result (List Value) Fault → Trace
      heard_with q = merged_answers (p ∷ []) (record { items = (child p.child).items; ending = q } ∷ []) (record { prefix = prefix; fault = None; unmerged = [] })

      by_end : (q : Result (List Value) Fault) → q ≡ Err f → after_items prefix (run q then tail) ≡ record { items = (heard_with q).prefix; ending = Err f }
      by_end (Ok vs) g = absurd (cc)
      by_end (Err x) g = ap (λ (y : Result (List Value) Fault). record { items = prefix ++ (child p.child).items; ending = y }) g
  heard-ends prefix (q ∷ front) p later values tail f gave e =
      by_end (child q.child).ending (λ vs. heard-ends (prefix ++ ((child q.child).items ++ q.after)) front p later (more_values q.destination (Ok vs) values) tail f gave.1 e) gave.0
    where
      rest : List Value → Evaluation
      rest vs = awaited_run child (front ++ p ∷ later) (more_values q.destination (Ok vs) values)

      ps : List AwaitedChild
      ps = front ++ p ∷ []

      next : List Event
      next = prefix ++ ((child q.child).items ++ q.after)

      with_end : Result (List Value) Fault → Evaluation
      with_end r = record { items = (child q.child).items; ending = r } then λ vs. after_items q.after (rest vs)

      heard_with : Result (List Value) Fault → Trace
      heard_with r = merged_answers (q ∷ ps) (record { items = (child q.child).items; ending = r } ∷ evaluations child ps) (record { prefix = prefix; fault = None; unmerged = [] })

      by_end : (r : Result (List Value) Fault) →
          ((vs : List Value) → after_items next (rest vs then tail) ≡ record { items = (merged_answers ps (evaluations child ps) (record { prefix = next; fault = None; unmerged = [] })).prefix; ending = Err f }) →
          GaveValue r → after_items prefix (with_end r then tail) ≡ record { items = (heard_with r).prefix; ending = Err f }
      by_end (Err x) h g = absurd g
      by_end (Ok vs) h g =
          ap (after_items prefix) (after-then (child q.child).items (after_items q.after (rest vs)) tail ∙ ap (after_items (child q.child).items) (after-then q.after (rest vs) tail))
          ∙ ap (λ (l : List Event). record { items = l; ending = (rest vs then tail).ending }) (ap (λ (l : List Event). prefix ++ l) (sym (append_assoc (child q.child).items q.after (rest vs then tail).items)) ∙ sym (append_assoc prefix ((child q.child).items ++ q.after) (rest vs then tail).items))
          ∙ h vs

-- how the child after these ones is shown
shown-at : (plan : PlanView) (o : Origin) (before : List AwaitedChild) (events : List Event) (front : List AwaitedChild) (p : AwaitedChild) (later : List AwaitedChild) →
    AreShownBy plan o before events (front ++ p ∷ later) → IsShownAs p.destination plan o (before ++ front) (front_of events front) p.child
shown-at plan o before events [] p later h = subst (λ (l : List AwaitedChild). IsShownAs p.destination plan o l events p.child) (sym (append-nil before)) h.0
shown-at plan o before events (q ∷ front) p later h =
    subst (λ (l : List AwaitedChild). IsShownAs p.destination plan o l (front_of q.after front) p.child) (append_assoc before (q ∷ []) front)
    (shown-at plan o (before ++ q ∷ []) q.after front p later h.1)

-- a task's trace without a fault, before the rest
trace-whole : (t : Task) (ps : List AwaitedChild) → IsTask t → t.trace.fault ≡ None → t.trace.unmerged ≡ ps →
    after_items t.trace.prefix (awaited_run (eval t.plan) ps t.values then remaining_run t.plan t.origin ps t.remaining) ≡ eval t.plan t.origin
trace-whole t ps is none e = sym (ap run none) ∙ ap whole (sym e) ∙ is.finishes
  where
    run : Option Fault → Evaluation
    run f = prefix_run (record t.trace { fault = f }) then λ u. awaited_run (eval t.plan) ps t.values then remaining_run t.plan t.origin ps t.remaining

    whole : List AwaitedChild → Evaluation
    whole qs = prefix_run t.trace then λ u. awaited_run (eval t.plan) qs t.values then remaining_run t.plan t.origin qs t.remaining

-- A child of the task's own instance

-- its path stands below the task's origin
own-below : (plan : PlanView) (o : Origin) (events : List Event) (child : Origin) → IsBegunBy o events child → Contains (raising_pedigrees (eval plan o).items) (path_of child) → StandsBelow o (path_of child)
own-below plan (Instance function args path) events child b reached = (b.rank ∷ b.more, b.at)
own-below plan (Loop function rest first path range) events child b reached =
    let some : 0 < range.hi = has-iterations plan function rest first path range (path_of child) reached in
    (range.hi - 1, b.rank ∷ b.more, b.at ∙ append_assoc path ((range.hi - 1) ∷ []) (b.rank ∷ b.more), omega arith)

-- what cuts it stands before its path
own-before : (plan : PlanView) (child : Origin) (by : Fault) → IsOriginOf plan child → IsUndivided child → IsCut plan child by → IsBefore by.at (path_of child)
own-before plan (Instance function args path) by known undivided cut = cut.before
own-before plan (Loop function rest first path range) by known undivided cut = before-loop plan function rest first path range known undivided by cut.known cut.before

-- A part of the task's loop
part-before : (plan : PlanView) (o : Origin) (front : List AwaitedChild) (child : Origin) (by : Fault) → IsOriginOf plan o → IsPartAfter plan o front child → GaveValues (eval plan) front → IsCut plan child by →
    IsBefore by.at (start_of o)
part-before plan (Instance function args path) front child by known part gave cut = absurd part
part-before plan (Loop function rest first path range) front child by known part gave cut =
    before-part plan function rest first path range known by cut.known part.0 part.2 (part.4 gave) (subst (λ (c : Origin). IsBefore by.at (start_of c)) part.3 cut.before)

known-at : (plan : PlanView) (o : Origin) (front : List AwaitedChild) (p : AwaitedChild) (later : List AwaitedChild) → AreSoundChildren plan o (front ++ p ∷ later) → IsOriginOf plan p.child
known-at plan o [] p later h = h.0.known
known-at plan o (q ∷ front) p later h = known-at plan o front p later h.1

-- A child's cut is its parent's.
pub cuts_pass : (t : Task) (front : List AwaitedChild) (p : AwaitedChild) (later : List AwaitedChild) (by : Fault) → IsTask t → t.trace.fault ≡ None → t.trace.unmerged ≡ front ++ p ∷ later →
    GaveValues (eval t.plan) front → IsCut t.plan p.child by → IsCut t.plan t.origin by
cuts_pass t front p later by is none e gave cut =
    record { known = cut.known; before = by_place p.destination (shown-at t.plan t.origin [] t.trace.prefix front p later (subst (AreShownBy t.plan t.origin [] t.trace.prefix) e (is.shown none))) }
  where
    events : List Event
    events = front_of t.trace.prefix front

    tail : List Value → Evaluation
    tail = remaining_run t.plan t.origin (front ++ p ∷ later) t.remaining

    reached : Contains (raising_pedigrees events) (path_of p.child) → Contains (raising_pedigrees (eval t.plan t.origin).items) (path_of p.child)
    reached c =
        subst (λ (r : Evaluation). Contains (raising_pedigrees r.items) (path_of p.child)) (trace-whole t (front ++ p ∷ later) is none e)
        (shown-comes (eval t.plan) t.trace.prefix front p later t.values tail (path_of p.child) gave c)

    own : IsBegunBy t.origin events p.child → IsBefore by.at (start_of t.origin)
    own b =
        let known : IsOriginOf t.plan p.child = known-at t.plan t.origin front p later (subst (AreSoundChildren t.plan t.origin) e is.awaiting) in
        let there : Contains (raising_pedigrees (eval t.plan t.origin).items) (path_of p.child) = reached b.event in
        before-event t.plan t.origin is.known by cut.known (path_of p.child) (own-before t.plan p.child by known b.whole cut) there (own-below t.plan t.origin events p.child b there)

    by_place : (destination : Destination) → IsShownAs destination t.plan t.origin front events p.child → IsBefore by.at (start_of t.origin)
    by_place (Spawned owner target) b = own b
    by_place (Looped target) b = own b
    by_place Half b = part-before t.plan t.origin front p.child by is.known b gave cut

-- an evaluation that ends by a fault is an answer
eval-fault : (plan : PlanView) (o : Origin) (out : List Event) (f : Fault) → ◌≡◌ {A = Evaluation} (record { items = out; ending = Err f }) (eval plan o) → IsEval plan o out (outcome.Fault f)
eval-fault plan o out f same = record { events = ap (λ (q : Evaluation). q.items) same; ends = sym (err-outcome o f) ∙ ap (λ (q : Evaluation). outcome_of o q.ending) same }

fault-known : (plan : PlanView) (o : Origin) (out : List Event) (f : Fault) → IsOriginOf plan o → ◌≡◌ {A = Evaluation} (record { items = out; ending = Err f }) (eval plan o) → Contains (faults plan) f
fault-known plan o out f known same = subst (λ (q : Evaluation). EndsWithin (faults plan) q.ending) (sym same) (origins_end_within_faults plan o known)

-- what was heard, where the trace had this fault
abbrev heard_with : Task → List AwaitedChild → List Evaluation → Option Fault → List Event
heard_with t ps answers f = (merged_answers ps answers (record t.trace { fault = f; unmerged = [] })).prefix

-- A child's fault is its parent's.
pub faults_pass : (t : Task) (front : List AwaitedChild) (p : AwaitedChild) (later : List AwaitedChild) (f : Fault) → IsTask t → t.trace.fault ≡ None → t.trace.unmerged ≡ front ++ p ∷ later →
    GaveValues (eval t.plan) front → (eval t.plan p.child).ending ≡ Err f → IsEval t.plan t.origin (merged_of t (front ++ p ∷ [])).prefix (outcome.Fault f) × Contains (faults t.plan) f
faults_pass t front p later f is none e gave ended = (eval-fault t.plan t.origin out f same, fault-known t.plan t.origin out f is.known same)
  where
    ps : List AwaitedChild
    ps = front ++ p ∷ []

    out : List Event
    out = (merged_of t ps).prefix

    same : ◌≡◌ {A = Evaluation} (record { items = out; ending = Err f }) (eval t.plan t.origin)
    same =
        ap (λ (g : Option Fault). record { items = heard_with t ps (evaluations (eval t.plan) ps) g; ending = Err f }) none
        ∙ sym (heard-ends (eval t.plan) t.trace.prefix front p later t.values (remaining_run t.plan t.origin (front ++ p ∷ later) t.remaining) f gave ended)
        ∙ trace-whole t (front ++ p ∷ later) is none e

-- All answers

-- after a fault nothing is heard
heard-faulted : (ps : List AwaitedChild) (answers : List Evaluation) (prefix : List Event) (f : Fault) → (merged_answers ps answers (record { prefix = prefix; fault = Some f; unmerged = [] })).prefix ≡ prefix
heard-faulted [] answers prefix f = refl
heard-faulted (p ∷ ps) [] prefix f = refl
heard-faulted (p ∷ ps) (a ∷ answers) prefix f = heard-faulted ps answers prefix f

ended-stays : (answers : List AnswerView) (x : Outcome) → ended_after (Some x) answers ≡ Some x
ended-stays [] x = refl
ended-stays (a ∷ answers) x = ended-stays answers x

some-same : (x y : Outcome) → Some x ≡ Some y → x ≡ y
some-same x y e = ap or_x e
  where
    or_x : Option Outcome → Outcome
    or_x None = x
    or_x (Some z) = z

-- what the first child says whose outcome isn't values, and what was heard up to it
abbrev Says : PlanView → AwaitedChild → List Event → List Event → Outcome → Type 0
Says plan p before up_to (outcome.Value v) = ⊥
Says plan p before up_to (outcome.Values vs) = ⊥
Says plan p before up_to (outcome.Fault f) = ((eval plan p.child).ending ≡ Err f) × (before ≡ up_to)
Says plan p before up_to (outcome.Cut f) = IsCut plan p.child f

abbrev clear_of : List Event → Trace
clear_of prefix = record { prefix = prefix; fault = None; unmerged = [] }

record First (plan : PlanView) (ps : List AwaitedChild) (answers : List Evaluation) (prefix : List Event) (ended : Outcome) : Type 0 where
  front : List AwaitedChild
  p : AwaitedChild
  later : List AwaitedChild
  split : ps ≡ front ++ p ∷ later
  gave : GaveValues (eval plan) front
  says : Says plan p (merged_answers ps answers (clear_of prefix)).prefix (merged_answers (front ++ p ∷ []) (evaluations (eval plan) (front ++ p ∷ [])) (clear_of prefix)).prefix ended

first_end : (plan : PlanView) (ps : List AwaitedChild) (answers : List AnswerView) (prefix : List Event) (ended : Outcome) → AreAnswersOf plan ps answers → ended_after None answers ≡ Some ended →
    First plan ps (answer_evaluations answers) prefix ended
first_end plan [] [] prefix ended h e = absurd (cc)
first_end plan [] (a ∷ answers) prefix ended h e = absurd h
first_end plan (p ∷ ps) [] prefix ended h e = absurd h
first_end plan (p ∷ ps) (a ∷ answers) prefix ended h e =
    by_outcome a.outcome (subst (λ (o : Origin). IsAnswer plan o a.out a.outcome) h.1 (subst (λ (q : PlanView). IsAnswer q a.origin a.out a.outcome) h.0 h.2)) e
    (λ more g. first_end plan ps answers more ended h.3 g)
  where
    rest : List Evaluation
    rest = answer_evaluations answers

    -- a child that gave values
    goes_on : (vs : List Value) → record { items = a.out; ending = Ok vs } ≡ eval plan p.child → First plan ps rest (prefix ++ (a.out ++ p.after)) ended →
        First plan (p ∷ ps) (record { items = a.out; ending = Ok vs } ∷ rest) prefix ended
    goes_on vs same next = record {
      front = p ∷ next.front;
      p = next.p;
      later = next.later;
      split = ap (λ (l : List AwaitedChild). p ∷ l) next.split;
      gave = (subst (λ (q : Evaluation). GaveValue q.ending) same tt, next.gave);
      says = subst (λ (q : Evaluation). Says plan next.p (merged_answers ps rest (clear_of (prefix ++ (a.out ++ p.after)))).prefix (merged_answers (next.front ++ next.p ∷ []) (evaluations (eval plan) (next.front ++ next.p ∷ [])) (merged_answer p q (clear_of prefix))).prefix ended) same next.says;
    }

    fault : (f : Fault) → record { items = a.out; ending = Err f } ≡ eval plan p.child → First plan (p ∷ ps) (record { items = a.out; ending = Err f } ∷ rest) prefix (outcome.Fault f)
    fault f same = record {
      front = [];
      p = p;
      later = ps;
      split = refl;
      gave = tt;
      says = (
        sym (ap (λ (q : Evaluation). q.ending) same),
        heard-faulted ps rest (prefix ++ a.out) f ∙ ap (λ (q : Evaluation). (merged_answer p q (clear_of prefix)).prefix) same,
      );
    }

    ended-by : (x : Outcome) → ended_after (Some x) answers ≡ Some ended → x ≡ ended
    ended-by x g = some-same x ended (sym (ended-stays answers x) ∙ g)

    by_outcome : (o : Outcome) → IsAnswer plan p.child a.out o → ended_after (or_ends None o) answers ≡ Some ended → ((more : List Event) → ended_after None answers ≡ Some ended → First plan ps rest more ended) →
        First plan (p ∷ ps) (evaluation_of a.out o ∷ rest) prefix ended
    by_outcome (outcome.Value v) is g next = goes_on (v ∷ []) (answers_are_evaluations plan p.child a.out (outcome.Value v) is) (next (prefix ++ (a.out ++ p.after)) g)
    by_outcome (outcome.Values vs) is g next = goes_on vs (answers_are_evaluations plan p.child a.out (outcome.Values vs) is) (next (prefix ++ (a.out ++ p.after)) g)
    by_outcome (outcome.Fault f) is g next =
        subst (First plan (p ∷ ps) (evaluation_of a.out (outcome.Fault f) ∷ rest) prefix) (ended-by (outcome.Fault f) g) (fault f (answers_are_evaluations plan p.child a.out (outcome.Fault f) is))
    by_outcome (outcome.Cut f) is g next =
        subst (First plan (p ∷ ps) (evaluation_of a.out (outcome.Cut f) ∷ rest) prefix) (ended-by (outcome.Cut f) g) (record { front = []; p = p; later = ps; split = refl; gave = tt; says = is })

-- A task that heard a fault or a cut answers by the first of them.
pub answers_end : (t : Task) (answers : List AnswerView) (ended : Outcome) → IsTask t → AreAnswersOf t.plan t.trace.unmerged answers → ended_after (by_fault t.trace.fault) answers ≡ Some ended →
    IsAnswer t.plan t.origin (merged_answers t.trace.unmerged (answer_evaluations answers) (record t.trace { unmerged = [] })).prefix ended × IsByFaultOf t.plan ended
answers_end t answers ended is are e = by_trace t.trace.fault refl e
  where
    ps : List AwaitedChild
    ps = t.trace.unmerged

    heard_by : Option Fault → List Event
    heard_by = heard_with t ps (answer_evaluations answers)

    run : Option Fault → Evaluation
    run f = prefix_run (record t.trace { fault = f }) then λ u. awaited_run (eval t.plan) ps t.values then remaining_run t.plan t.origin ps t.remaining

    by_first : (x : Outcome) → t.trace.fault ≡ None → First t.plan ps (answer_evaluations answers) t.trace.prefix x → IsAnswer t.plan t.origin (heard_by None) x × IsByFaultOf t.plan x
    by_first (outcome.Value v) none first = absurd first.says
    by_first (outcome.Values vs) none first = absurd first.says
    by_first (outcome.Cut f) none first = let cut = cuts_pass t first.front first.p first.later f is none first.split first.gave first.says in (cut, cut.known)
    by_first (outcome.Fault f) none first =
        let whole = faults_pass t first.front first.p first.later f is none first.split first.gave first.says.0 in
        let qs : List AwaitedChild = first.front ++ first.p ∷ [] in
        (subst (λ (out : List Event). IsEval t.plan t.origin out (outcome.Fault f)) (ap (heard_with t qs (evaluations (eval t.plan) qs)) none ∙ sym first.says.1) whole.0, whole.1)

    by_trace : (f : Option Fault) → t.trace.fault ≡ f → ended_after (by_fault f) answers ≡ Some ended → IsAnswer t.plan t.origin (heard_by t.trace.fault) ended × IsByFaultOf t.plan ended
    by_trace None none g =
        subst (λ (f : Option Fault). IsAnswer t.plan t.origin (heard_by f) ended × IsByFaultOf t.plan ended) (sym none) (by_first ended none (first_end t.plan ps answers t.trace.prefix ended are g))
    by_trace (Some f) some g =
        let out : List Event = heard_by t.trace.fault in
        let heard_is : out ≡ t.trace.prefix = ap heard_by some ∙ heard-faulted ps (answer_evaluations answers) t.trace.prefix f in
        let same : ◌≡◌ {A = Evaluation} (record { items = out; ending = Err f }) (eval t.plan t.origin) = ap (λ (l : List Event). record { items = l; ending = Err f }) heard_is ∙ ap run (sym some) ∙ is.finishes in
        subst (λ (x : Outcome). IsAnswer t.plan t.origin out x × IsByFaultOf t.plan x) (some-same (outcome.Fault f) ended (sym (ended-stays answers (outcome.Fault f)) ∙ g))
        (eval-fault t.plan t.origin out f same, fault-known t.plan t.origin out f is.known same)
