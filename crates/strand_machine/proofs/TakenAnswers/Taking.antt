-- A task that takes its children's answers, and goes on.
use Rattle.std.proofs.Common.{◌≡◌, ℕ, Bool, true, false, List, [], ◌∷◌, Option, Some, None, Result, Ok, Err, length, refl, sym, ap, ◌∙◌, subst, arith, append-nil}
use Rattle.serial_meaning.specs.Answer.{AnswerView, AnswerTag}
use Rattle.std.specs.Prelude.{OnOk}
use Rattle.std.specs.Borrow.{Bor}
use Rattle.std.specs.Option.{option_copied}
use Rattle.script_grammar.specs.declared.tree.Name.{Name}
use Rattle.serial_meaning.specs.Eval.{Evaluation, first_value, eval}
use Rattle.serial_meaning.specs.Eval as origins-of
use Rattle.serial_meaning.specs.Plan.{PlanView}
use Rattle.serial_meaning.specs.declared.value.Value.{Value}
use Rattle.serial_meaning.specs.declared.event.Fault.{Fault}
use Rattle.serial_meaning.specs.declared.origin.Origin.{Origin}
use Rattle.serial_meaning.specs.declared.answer.Outcome.{Outcome}
use Rattle.strand_meaning.specs.Machine as machine
use Rattle.strand_meaning.specs.Machine.{Half}
use Rattle.strand_meaning.specs.Trace.{AwaitedChild, Trace, merged_answers}
use Rattle.strand_meaning.specs.Laws.{AnswersKeepTasks}
use Rattle.strand_meaning.specs.Rest.{evaluations}
use Rattle.strand_meaning.specs.Sound.{IsTask}
use Rattle.strand_meaning.specs.Task as meaning
use Rattle.strand_meaning.specs.Task.{Splits, Runs, Finished, Task, changed, frame_with_answer, with_values, pass_sync, resumed, takes, takes_all, more_values, all_values, resumed_remaining, on, own_instance}
use Rattle.strand_machine.specs.Links.{LinksView, HasPassed, HasStopped, tags, origins}
use Rattle.strand_machine.specs.Merge.{BecomesStage, BecomesRemaining, Merge, IsStageOfPlan, IsMergeOf, HasTakenAnswers, IsRemainingOfPlan, with_stage, trace_of, meanings}
use Rattle.strand_machine.specs.AwaitedChildren.{awaited, awaited_children, destination_of}
use Rattle.strand_meaning.specs.Cuts.{AreAnswersOf}
use Rattle.strand_machine.specs.Stops.{IsResumedWith, any_cut, looked, resumed_view}
use Rattle.strand_moves.specs.Machines.{IsInstance, machine_of, path_of}
use Rattle.strand_moves.specs.declared.instance.Instance.{Instance}
use Rattle.strand_machine.specs.Tasks.{TaskView, cut_of, remaining_of, task_of, view_of, AwaitsLast, IsSound, RunsAt, StandsAt, RemainsAt}
use Rattle.strand_machine.specs.declared.task_state.TaskState.{TaskState}
use Rattle.strand_machine.specs.declared.trace.AfterChild.{AfterChild}
use Rattle.strand_machine.specs.declared.destination.Destination.{Destination}
use Rattle.strand_machine.specs.declared.destination.Destination.TheVariants as destination
use Rattle.strand_machine.specs.declared.remaining.Stage.{Stage}
use Rattle.strand_machine.specs.declared.remaining.Stage.TheVariants as stage
use Rattle.strand_machine.specs.declared.remaining.Remaining.{Remaining}
use Rattle.strand_machine.specs.declared.remaining.Remaining.TheVariants as remaining
use Rattle.strand_machine.proofs.TakenAnswers.Answering.{origins-tags, awaits-count, taken-length}
use Rattle.strand_machine.proofs.Moves.Dispatch.{of_plan-on}
use Rattle.strand_machine.proofs.Moves.Starts.{awaited_parts}

pub same-stage : (w : meaning.Remaining) → with_stage (λ s. s) w ≡ w
same-stage (Splits left) = refl
same-stage (Runs stage) = refl
same-stage (Finished v has_waited) = refl

two-stages : (f g : meaning.Stage → meaning.Stage) (w : meaning.Remaining) → with_stage g (with_stage f w) ≡ with_stage (λ s. g (f s)) w
two-stages f g (Splits left) = refl
two-stages f g (Runs stage) = refl
two-stages f g (Finished v has_waited) = refl

resumed-stage : (ps : List AwaitedChild) (es : List Evaluation) (w : meaning.Remaining) → resumed_remaining [] [] (with_stage (takes_all ps es) w) ≡ resumed_remaining ps es w
resumed-stage ps es (Splits left) = refl
resumed-stage ps es (Runs stage) = refl
resumed-stage ps es (Finished v has_waited) = refl

-- An instance

pub fault-taken : (plan : PlanView) (height : ℕ) (target : Option Name) (fault : Fault) (ending : Result (List Value) Fault) (before after : Instance) → ending ≡ Err fault →
    machine_of plan after ≡ changed height (frame_with_answer target (Err fault)) (machine_of plan before) → machine_of plan after ≡ changed height (frame_with_answer target ending) (machine_of plan before)
fault-taken plan height target fault ending before after is e =
    e ∙ ap (λ (x : Result (List Value) Fault). changed height (frame_with_answer target x) (machine_of plan before)) (sym is)

pub values-taken : (plan : PlanView) (target t : Option Name) (values given : List Value) (before after : Instance) → t ≡ target → given ≡ values →
    machine_of plan after ≡ with_values t given (machine_of plan before) → machine_of plan after ≡ with_values target values (machine_of plan before)
values-taken plan target t values given before after to is e =
    e ∙ ap (λ (x : Option Name). with_values x given (machine_of plan before)) to ∙ ap (λ (x : List Value). with_values target x (machine_of plan before)) is

-- An instance that remains is one of the plan.
module _ (plan : PlanView) (s : Stage) (i : Instance) (h : IsStageOfPlan plan s) where
  pub goes-of : s ≡ stage.Running i → IsInstance plan i
  goes-of is = let at : RunsAt plan h.0 i = subst (StandsAt plan h.0) is h.1 in at.sound

  pub sync-of : s ≡ stage.AtSync i → IsInstance plan i
  sync-of is = let at : RunsAt plan h.0 i = subst (StandsAt plan h.0) is h.1 in at.sound

  pub loop-of : s ≡ stage.AtLoop i → IsInstance plan i
  loop-of is = let at : RunsAt plan h.0 i = subst (StandsAt plan h.0) is h.1 in at.sound

pub stands-of : (plan : PlanView) (w : Remaining) (s : Stage) → IsRemainingOfPlan plan w → w ≡ remaining.Runs s → IsStageOfPlan plan s
stands-of plan w s h is = (origins-of.path_of (own_instance h.0), subst (RemainsAt plan h.0) is h.1)

-- A stage

module _ (change : meaning.Stage → meaning.Stage) (f : machine.Machine → machine.Machine) (s : Stage) (i j : Instance) where
  pub at-goes : ((m : machine.Machine) → change (meaning.Running m) ≡ meaning.Running (f m)) → s ≡ stage.Running i → ((plan : PlanView) → machine_of plan j ≡ f (machine_of plan i)) →
      path_of j ≡ path_of i → ((plan : PlanView) → IsInstance plan i → IsInstance plan j) → BecomesStage change s (stage.Running j)
  at-goes meant is made path sound = subst (λ (x : Stage). BecomesStage change x (stage.Running j)) (sym is) (record {
    is = λ plan. ap (λ m. meaning.Running m) (made plan) ∙ sym (meant (machine_of plan i));
    stands = λ plan at h. record { sound = sound plan h.sound; at = path ∙ h.at };
  })

  pub at-sync : ((m : machine.Machine) → change (meaning.AtSync m) ≡ meaning.AtSync (f m)) → s ≡ stage.AtSync i → ((plan : PlanView) → machine_of plan j ≡ f (machine_of plan i)) →
      path_of j ≡ path_of i → ((plan : PlanView) → IsInstance plan i → IsInstance plan j) → BecomesStage change s (stage.AtSync j)
  at-sync meant is made path sound = subst (λ (x : Stage). BecomesStage change x (stage.AtSync j)) (sym is) (record {
    is = λ plan. ap (λ m. meaning.AtSync m) (made plan) ∙ sym (meant (machine_of plan i));
    stands = λ plan at h. record { sound = sound plan h.sound; at = path ∙ h.at };
  })

  pub at-loop : ((m : machine.Machine) → change (meaning.AtLoop m) ≡ meaning.AtLoop (f m)) → s ≡ stage.AtLoop i → ((plan : PlanView) → machine_of plan j ≡ f (machine_of plan i)) →
      path_of j ≡ path_of i → ((plan : PlanView) → IsInstance plan i → IsInstance plan j) → BecomesStage change s (stage.AtLoop j)
  at-loop meant is made path sound = subst (λ (x : Stage). BecomesStage change x (stage.AtLoop j)) (sym is) (record {
    is = λ plan. ap (λ m. meaning.AtLoop m) (made plan) ∙ sym (meant (machine_of plan i));
    stands = λ plan at h. record { sound = sound plan h.sound; at = path ∙ h.at };
  })

-- The same where it is the values of a loop that are taken.
module _ (ending : Result (List Value) Fault) (target t : Option Name) (values given : List Value) (s : Stage) (i j : Instance) where
  pub loops-goes : ending ≡ Ok values → t ≡ target → given ≡ values → s ≡ stage.Running i → ((plan : PlanView) → machine_of plan j ≡ with_values t given (machine_of plan i)) →
      path_of j ≡ path_of i → ((plan : PlanView) → IsInstance plan i → IsInstance plan j) → BecomesStage (takes (machine.Looped target) ending) s (stage.Running j)
  loops-goes is to same at made path sound =
      at-goes (takes (machine.Looped target) ending) (with_values target values) s i j (λ m. ap (λ (x : Result (List Value) Fault). takes (machine.Looped target) x (meaning.Running m)) is) at
      (λ plan. values-taken plan target t values given i j to same (made plan)) path sound

  pub loops-sync : ending ≡ Ok values → t ≡ target → given ≡ values → s ≡ stage.AtSync i → ((plan : PlanView) → machine_of plan j ≡ with_values t given (machine_of plan i)) →
      path_of j ≡ path_of i → ((plan : PlanView) → IsInstance plan i → IsInstance plan j) → BecomesStage (takes (machine.Looped target) ending) s (stage.AtSync j)
  loops-sync is to same at made path sound =
      at-sync (takes (machine.Looped target) ending) (with_values target values) s i j (λ m. ap (λ (x : Result (List Value) Fault). takes (machine.Looped target) x (meaning.AtSync m)) is) at
      (λ plan. values-taken plan target t values given i j to same (made plan)) path sound

  pub loops-loop : ending ≡ Ok values → t ≡ target → given ≡ values → s ≡ stage.AtLoop i → ((plan : PlanView) → machine_of plan j ≡ with_values t given (machine_of plan i)) →
      path_of j ≡ path_of i → ((plan : PlanView) → IsInstance plan i → IsInstance plan j) → BecomesStage (takes (machine.Looped target) ending) s (stage.AtLoop j)
  loops-loop is to same at made path sound =
      at-loop (takes (machine.Looped target) ending) (with_values target values) s i j (λ m. ap (λ (x : Result (List Value) Fault). takes (machine.Looped target) x (meaning.AtLoop m)) is) at
      (λ plan. values-taken plan target t values given i j to same (made plan)) path sound

pub joins-none : (i : Instance) (r : Option (Bor Fault)) → ((plan : PlanView) → option_copied r ≡ (machine_of plan i).top.faulted) → r ≡ None → BecomesStage resumed (stage.AtSync i) (stage.Running i)
joins-none i r h e = record {
  is = λ plan. sym (ap (λ f. pass_sync f (machine_of plan i)) (sym (h plan) ∙ ap option_copied e));
  stands = λ plan path k. k;
}

pub joins-some : (i : Instance) (r : Option (Bor Fault)) (b : Bor Fault) (fault : Fault) → ((plan : PlanView) → option_copied r ≡ (machine_of plan i).top.faulted) → r ≡ Some b → fault ≡ b.now →
    BecomesStage resumed (stage.AtSync i) (stage.ChildFaulted fault)
joins-some i r b fault h e same = record {
  is = λ plan. sym (ap (λ f. pass_sync f (machine_of plan i)) (sym (h plan) ∙ ap option_copied e ∙ ap (λ (x : Fault). Some x) (sym same)));
  stands = λ plan path k. tt;
}

pub runs-on : (w : Remaining) (before after : Stage) → w ≡ remaining.Runs before → BecomesStage resumed before after → BecomesRemaining (resumed_remaining [] []) w (remaining.Runs after)
runs-on w before after is h = subst (λ (x : Remaining). BecomesRemaining (resumed_remaining [] []) x (remaining.Runs after)) (sym is) (record {
  is = λ plan. ap (λ s. meaning.Runs s) (h.is plan);
  of_plan = λ plan o k. h.stands plan (origins-of.path_of (own_instance o)) k;
})

-- the stage after an answer, by the child's place
pub placed : (p : Destination) (q : machine.Destination) (ending : Result (List Value) Fault) (before after : Stage) → destination_of p ≡ q → BecomesStage (takes q ending) before after → BecomesStage (takes (destination_of p) ending) before after
placed p q ending before after at h = subst (λ (x : machine.Destination). BecomesStage (takes x ending) before after) (sym at) h

-- what remains is an instance, whose stage changed
pub runs-taken : (change : meaning.Stage → meaning.Stage) (w : Remaining) (before after : Stage) → w ≡ remaining.Runs before → BecomesStage change before after → BecomesRemaining (with_stage change) w (remaining.Runs after)
runs-taken change w before after is h = subst (λ (x : Remaining). BecomesRemaining (with_stage change) x (remaining.Runs after)) (sym is) (record {
  is = λ plan. ap (λ s. meaning.Runs s) (h.is plan);
  of_plan = λ plan o k. h.stands plan (origins-of.path_of (own_instance o)) k;
})

pub stage-stays : (ending : Result (List Value) Fault) (s : Stage) → BecomesStage (takes Half ending) s s
stage-stays ending s = record { is = λ plan. refl; stands = λ plan path h. h }

pub on-ok : {A E : Type 0} (r : Result A E) (P Q : Type 0) → (P → Q) → OnOk r P → OnOk r Q
on-ok (Ok x) P Q f h = f h
on-ok (Err x) P Q f h = tt

pub ok-of : {A E : Type 0} (r : Result A E) (P : Type 0) → P → OnOk r P
ok-of (Ok x) P h = h
ok-of (Err x) P h = tt

pub on-both : {A E : Type 0} (r : Result A E) (P Q R : Type 0) → (P → Q → R) → OnOk r P → OnOk r Q → OnOk r R
on-both (Ok x) P Q R f h k = f h k
on-both (Err x) P Q R f h k = tt

-- One child

pub other-values : (p : Destination) → (p ≡ destination.Half → ⊥) → (ending : Result (List Value) Fault) (values : List Value) → more_values (destination_of p) ending values ≡ values
other-values (destination.Spawned height target) h ending values = refl
other-values (destination.Looped target) h ending values = refl
other-values destination.Half h ending values = absurd (h refl)

-- One child, and then the others

pub takes-then : (p : AwaitedChild) (ps : List AwaitedChild) (e : Evaluation) (es : List Evaluation) (before between after : Merge) → IsMergeOf (p ∷ []) (e ∷ []) before between → IsMergeOf ps es between after →
    IsMergeOf (p ∷ ps) (e ∷ es) before after
takes-then p ps e es before between after h k = record {
  trace = k.trace ∙ ap (merged_answers ps es) h.trace;
  values = k.values ∙ ap (all_values ps es) h.values;
  remaining = record {
    is = λ plan. k.remaining.is plan ∙ ap (with_stage (takes_all ps es)) (h.remaining.is plan) ∙ two-stages (takes p.destination e.ending) (takes_all ps es) (remaining_of plan before.remaining);
    of_plan = λ plan o w. k.remaining.of_plan plan o (h.remaining.of_plan plan o w);
  };
}

pub takes-none : (g : Merge) → IsMergeOf [] [] g g
takes-none g = record {
  trace = refl;
  values = refl;
  remaining = record { is = λ plan. sym (same-stage (remaining_of plan g.remaining)); of_plan = λ plan o h. h };
}

-- All children

meanings-tags : {K : Type 0} (plan : PlanView) (os : List Origin) (bs : List (AfterChild K)) → length os ≡ length bs → meanings (tags plan os) ≡ evaluations (eval plan) (awaited_children os bs)
meanings-tags plan [] bs h = refl
meanings-tags plan (o ∷ os) [] h = absurd (omega arith)
meanings-tags plan (o ∷ os) (b ∷ bs) h = ap (λ es. eval plan o ∷ es) (meanings-tags plan os bs (omega arith))

-- answers with the children's tags are the children's evaluations
pub takes-awaited : {K : Type 0} (plan : PlanView) (os : List Origin) (bs : List (AfterChild K)) (ts : List AnswerTag) (before after : Merge) → length os ≡ length bs → ts ≡ tags plan (awaited (awaited_children os bs)) →
    IsMergeOf (awaited_children (origins ts) bs) (meanings ts) before after → IsMergeOf (awaited_children os bs) (evaluations (eval plan) (awaited_children os bs)) before after
takes-awaited plan os bs ts before after same are h =
    let all : ts ≡ tags plan os = are ∙ ap (tags plan) (awaited_parts os bs same) in
    let children : origins ts ≡ os = ap origins all ∙ origins-tags plan os in
    let answers : meanings ts ≡ evaluations (eval plan) (awaited_children os bs) = ap meanings all ∙ meanings-tags plan os bs same in
    subst (λ es. IsMergeOf (awaited_children os bs) es before after) answers (subst (λ cs. IsMergeOf (awaited_children cs bs) (meanings ts) before after) children h)

-- the task with the answers of its children, once its wait is over
pub goes-on : (t : Task) (before after : Merge) (rest : Remaining) → trace_of before ≡ record t.trace { unmerged = [] } → before.values ≡ t.values → remaining_of t.plan before.remaining ≡ t.remaining →
    IsMergeOf t.trace.unmerged (evaluations (eval t.plan) t.trace.unmerged) before after → BecomesRemaining (resumed_remaining [] []) after.remaining rest →
    ◌≡◌ {A = Task} (record t { trace = trace_of after; values = after.values; remaining = remaining_of t.plan rest; waiting = false }) (on (evaluations (eval t.plan) t.trace.unmerged) t)
goes-on t before after rest trace values remaining h over =
    let ps = t.trace.unmerged in
    let es = evaluations (eval t.plan) ps in
    let prefix : trace_of after ≡ merged_answers ps es (record t.trace { unmerged = [] }) = h.trace ∙ ap (merged_answers ps es) trace in
    let given : after.values ≡ all_values ps es t.values = h.values ∙ ap (all_values ps es) values in
    let left : remaining_of t.plan rest ≡ resumed_remaining ps es t.remaining =
    over.is t.plan ∙ ap (resumed_remaining [] []) (h.remaining.is t.plan) ∙ resumed-stage ps es (remaining_of t.plan before.remaining) ∙ ap (resumed_remaining ps es) remaining in
    ap (λ (p : Trace). record t { trace = p; values = after.values; remaining = remaining_of t.plan rest; waiting = false }) prefix
    ∙ ap (λ (vs : List Value). record t { trace = merged_answers ps es (record t.trace { unmerged = [] }); values = vs; remaining = remaining_of t.plan rest; waiting = false }) given
    ∙ ap (λ (w : meaning.Remaining). record t { trace = merged_answers ps es (record t.trace { unmerged = [] }); values = all_values ps es t.values; remaining = w; waiting = false }) left

-- The task after its wait

abbrev pub begins : {K : Type 0} → TaskState K → Remaining → Merge
begins b w = record { prefix = b.trace.prefix; fault = b.trace.fault; values = b.values; remaining = w; cut = false; by_cut = false }

module _ {K : Type 0} (b : TaskState K) (w : Remaining) (os : List Origin) (bs : List (AfterChild K)) (ts : List AnswerTag) (after : Merge) (rest : Remaining) where
  abbrev next-state : TaskState K
  next-state = record b { trace = trace_of after; values = after.values; waiting = false }

  task-on : awaited_children os bs ≡ b.trace.unmerged → length os ≡ length bs → ts ≡ tags b.links.plan (awaited b.trace.unmerged) → IsMergeOf (awaited_children (origins ts) bs) (meanings ts) (begins b w) after →
      BecomesRemaining (resumed_remaining [] []) after.remaining rest → task_of next-state rest ≡ on (evaluations (eval b.links.plan) b.trace.unmerged) (task_of b w)
  task-on parts same are h over =
      let plan = b.links.plan in
      let tagged : ts ≡ tags plan (awaited (awaited_children os bs)) = are ∙ ap (λ (ps : List AwaitedChild). tags plan (awaited ps)) (sym parts) in
      let taken : IsMergeOf b.trace.unmerged (evaluations (eval plan) b.trace.unmerged) (begins b w) after =
      subst (λ (ps : List AwaitedChild). IsMergeOf ps (evaluations (eval plan) ps) (begins b w) after) parts (takes-awaited plan os bs ts (begins b w) after same tagged h) in
      goes-on (task_of b w) (begins b w) after rest refl refl refl taken over

  pub goes-on-view : awaited_children os bs ≡ b.trace.unmerged → length os ≡ length bs → ts ≡ tags b.links.plan (awaited b.trace.unmerged) → IsMergeOf (awaited_children (origins ts) bs) (meanings ts) (begins b w) after →
      BecomesRemaining (resumed_remaining [] []) after.remaining rest → HasTakenAnswers b w → view_of next-state rest ≡ resumed_view (view_of b w)
  goes-on-view parts same are h over sound =
      let plan = b.links.plan in
      let uncut : cut_of rest ≡ cut_of w = of_plan-on plan b.links.origin rest (over.of_plan plan _ (h.remaining.of_plan plan _ sound.of_plan)) ∙ sym (of_plan-on plan b.links.origin w sound.of_plan) in
      ap (λ (t : Task). record (view_of b w) { task = t; cut = cut_of rest }) (task-on parts same are h over) ∙ ap (λ (o : Option Outcome). record (resumed_view (view_of b w)) { cut = o }) uncut

  pub goes-on-sound : awaited_children os bs ≡ b.trace.unmerged → length os ≡ length bs → ts ≡ tags b.links.plan (awaited b.trace.unmerged) → IsMergeOf (awaited_children (origins ts) bs) (meanings ts) (begins b w) after →
      BecomesRemaining (resumed_remaining [] []) after.remaining rest → AnswersKeepTasks → HasTakenAnswers b w → IsSound next-state rest
  goes-on-sound parts same are h over law sound =
      let plan = b.links.plan in
      record {
        task = subst IsTask (sym (task-on parts same are h over)) (law (task_of b w) sound.task);
        links = record { before = b.links.children; passed = b.links.taken; same = sound.taken; children = sym (append-nil b.links.children); taken = sym (append-nil b.links.taken) };
        of_plan = over.of_plan plan _ (h.remaining.of_plan plan _ sound.of_plan);
      }

pub answered-sound : {K : Type 0} (b : TaskState K) (w : Remaining) → IsSound b w → HasTakenAnswers b w
answered-sound b w h = record { task = h.task; taken = taken-length b.links _ (awaits-count b.links b.trace.unmerged h.links); of_plan = h.of_plan }

-- Looks

pub looked-last : (f g : LinksView) (ps : List AwaitedChild) (ready : Bool) (loads : List ℕ) → g ≡ record f { ready = ready; loads = loads } → AwaitsLast f ps → AwaitsLast g ps
looked-last f g ps ready loads e h =
    let there : AwaitsLast (record f { ready = ready; loads = loads }) ps = record { before = h.before; passed = h.passed; same = h.same; children = h.children; taken = h.taken } in
    subst (λ (x : LinksView). AwaitsLast x ps) (sym e) there

-- a look that finds no answers leaves the task as it was
pub looked-sound : {K : Type 0} (b : TaskState K) (w : Remaining) (g : LinksView) (ready : Bool) (loads : List ℕ) → g ≡ record b.links { ready = ready; loads = loads } → IsSound b w → IsSound (record b { links = g }) w
looked-sound b w g ready loads e h =
    let there : IsSound (record b { links = record b.links { ready = ready; loads = loads } }) w =
    record { task = h.task; links = looked-last b.links (record b.links { ready = ready; loads = loads }) b.trace.unmerged ready loads refl h.links; of_plan = h.of_plan } in
    subst (λ (x : LinksView). IsSound (record b { links = x }) w) (sym e) there

-- a look that finds all answers, and the answers taken
pub taken-answered : {K : Type 0} (b : TaskState K) (w : Remaining) (g k : LinksView) (ready : Bool) (loads : List ℕ) → g ≡ record b.links { ready = ready; loads = loads } → k ≡ record g { taken = k.taken } →
    length k.taken ≡ length g.taken → IsSound b w → HasTakenAnswers (record b { links = k }) w
taken-answered b w g k ready loads e d same h =
    let looked = looked-sound b w g ready loads e h in
    let whole = answered-sound (record b { links = g }) w looked in
    let there : HasTakenAnswers (record b { links = record g { taken = k.taken } }) w = record { task = whole.task; taken = same ∙ whole.taken; of_plan = whole.of_plan } in
    subst (λ (x : LinksView). HasTakenAnswers (record b { links = x }) w) (sym d) there

pub looked-same : {K : Type 0} (b : TaskState K) (w : Remaining) (g : LinksView) (ready : Bool) (loads : List ℕ) → g ≡ record b.links { ready = ready; loads = loads } → (t : TaskView) → view_of b w ≡ t → HasStopped b.links.loads g.loads →
    (task_of (record b { links = g }) w ≡ t.task) × (g.children ≡ t.children) × HasStopped t.loads g.loads × (cut_of w ≡ t.cut) × (g.joins ≡ t.joins)
looked-same b w g ready loads e t view stopped = (
  ap (λ (f : LinksView). task_of (record b { links = f }) w) e ∙ ap (λ (v : TaskView). v.task) view,
  ap (λ (f : LinksView). f.children) e ∙ ap (λ (v : TaskView). v.children) view,
  subst (λ (l : List ℕ). HasStopped l g.loads) (ap (λ (v : TaskView). v.loads) view) stopped,
  ap (λ (v : TaskView). v.cut) view,
  ap (λ (f : LinksView). f.joins) e ∙ ap (λ (v : TaskView). v.joins) view,
)

-- with the numbers that the look has loaded
taken-view : {K : Type 0} (b : TaskState K) (w : Remaining) (g k : LinksView) (ready : Bool) (loads : List ℕ) → g ≡ record b.links { ready = ready; loads = loads } → k ≡ record g { taken = k.taken } → (t : TaskView) → view_of b w ≡ t →
    view_of (record b { links = k }) w ≡ record t { loads = g.loads }
taken-view b w g k ready loads e d t view =
    ap (λ (f : LinksView). view_of (record b { links = f }) w) d
    ∙ ap (λ (f : LinksView). record (view_of (record b { links = record f { taken = k.taken } }) w) { loads = g.loads }) e
    ∙ ap (λ (v : TaskView). record v { loads = g.loads }) view

pub resumed-on : {K : Type 0} (b : TaskState K) (w : Remaining) (g k : LinksView) (ready : Bool) (loads : List ℕ) → g ≡ record b.links { ready = ready; loads = loads } → k ≡ record g { taken = k.taken } →
    (t next : TaskView) → view_of b w ≡ t → t.cut ≡ None → (answers : List AnswerView) → AreAnswersOf k.plan b.trace.unmerged answers → IsResumedWith answers (view_of (record b { links = k }) w) next → HasPassed b.links.loads g.loads →
    (xs : List AnswerView) × AreAnswersOf t.task.plan t.task.trace.unmerged xs × IsResumedWith xs (looked next.loads t) next × HasPassed t.loads next.loads
resumed-on b w g k ready loads e d t next view goes answers are is_resumed-on passed = (answers, frame_with_answer, looks, read)
  where
    plan : k.plan ≡ t.task.plan
    plan = ap (λ (f : LinksView). f.plan) d ∙ ap (λ (f : LinksView). f.plan) e ∙ ap (λ (v : TaskView). v.task.plan) view

    frame_with_answer : AreAnswersOf t.task.plan t.task.trace.unmerged answers
    frame_with_answer = subst (λ (v : TaskView). AreAnswersOf t.task.plan v.task.trace.unmerged answers) view (subst (λ (p : PlanView). AreAnswersOf p b.trace.unmerged answers) plan are)

    there : IsResumedWith answers (record t { loads = g.loads }) next
    there = subst (λ (v : TaskView). IsResumedWith answers v next) (taken-view b w g k ready loads e d t view) is_resumed-on

    by_cut : (cut : Bool) → any_cut answers ≡ cut → next.loads ≡ g.loads
    by_cut false none = ap (λ (v : TaskView). v.loads) (there.whole none)
    by_cut true is = (there.cut is).1

    same : next.loads ≡ g.loads
    same = by_cut (any_cut answers) refl

    looks : IsResumedWith answers (looked next.loads t) next
    looks = subst (λ (v : TaskView). IsResumedWith answers v next) (ap (λ (l : List ℕ). record t { loads = l }) (sym same) ∙ ap (λ (o : Option Outcome). record t { loads = next.loads; cut = o }) goes) there

    read : HasPassed t.loads next.loads
    read = subst (λ (l : List ℕ). HasPassed t.loads l) (sym same) (subst (λ (l : List ℕ). HasPassed l g.loads) (ap (λ (v : TaskView). v.loads) view) passed)
