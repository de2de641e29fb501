-- A task that takes its children's answers, of which some may be cuts.
use Rattle.std.proofs.Common.{◌≡◌, Bool, true, false, ◌||◌, List, [], ◌∷◌, Option, Some, None, Result, Ok, Err, length, refl, sym, ap, ◌∙◌, subst, arith}
use Rattle.std.proofs.lemmas.Bool.{true≢false}
use Rattle.serial_meaning.specs.Answer.{AnswerView, AnswerTag, IsAnswer}
use Rattle.serial_meaning.specs.Eval.{Evaluation, eval}
use Rattle.serial_meaning.specs.Plan.{PlanView}
use Rattle.serial_meaning.specs.declared.value.Value.{Value}
use Rattle.serial_meaning.specs.declared.event.Event.{Event}
use Rattle.serial_meaning.specs.declared.event.Fault.{Fault}
use Rattle.serial_meaning.specs.declared.origin.Origin.{Origin}
use Rattle.serial_meaning.specs.declared.answer.Outcome.{Outcome}
use Rattle.serial_meaning.specs.declared.answer.Outcome.TheVariants as outcome
use Rattle.strand_meaning.specs.Answers.{evaluation_of, answer_evaluations}
use Rattle.strand_meaning.specs.Cuts.{AreAnswersOf, AnswersEnd, IsByFaultOf, by_fault, ended_after, or_ends}
use Rattle.strand_meaning.specs.Laws.{AnswersAreEvaluations}
use Rattle.strand_meaning.specs.Machine.{Half}
use Rattle.strand_meaning.specs.Trace.{AwaitedChild, Trace, merged_answer, merged_answers, merged_answer_unless}
use Rattle.strand_meaning.specs.Sound.{IsTask}
use Rattle.strand_meaning.specs.Task.{takes, more_values}
use Rattle.strand_machine.specs.Links.{LinksView, tag, tags, origins}
use Rattle.strand_machine.specs.Merge.{AreAnswers, BecomesRemaining, EndsShort, IsShort, KeepsRest, Merge, IsMergeOf, TakesAnswers, RemainingFindsAll, IsRemainingOfPlan, end_of, ended_of, result_of_outcome, meanings, merge_of, trace_of, with_stage}
use Rattle.strand_machine.specs.AwaitedChildren.{awaited, awaited_child, awaited_children, destination_of}
use Rattle.strand_machine.specs.declared.destination.Destination.{Destination}
use Rattle.strand_machine.specs.declared.destination.Destination.TheVariants as destination
use Rattle.strand_machine.specs.Stops.{IsCutOn, IsResumedWith, answer_tags, any_cut, is_cut, prefix_with, resumed_view}
use Rattle.strand_machine.specs.Tasks.{TaskView, HasOutcome, task_of, view_of, remaining_of}
use Rattle.strand_machine.specs.declared.task_state.TaskState.{TaskState}
use Rattle.strand_machine.specs.declared.merge.Merging.{Merging}
use Rattle.strand_machine.specs.declared.parts.Parts.{Parts}
use Rattle.strand_machine.specs.declared.trace.AfterChild.{AfterChild}
use Rattle.strand_machine.specs.declared.remaining.Remaining.{Remaining}
use Rattle.strand_machine.specs.declared.remaining.Remaining.TheVariants as remaining
use Rattle.strand_machine.proofs.TakenAnswers.Answering.{eval-of, origins-tags}
use Rattle.strand_machine.proofs.Moves.Starts.{awaited_parts}
use Rattle.strand_machine.proofs.TakenAnswers.Targets.{found-kept}
use Rattle.strand_machine.proofs.TakenAnswers.Taking.{begins, same-stage, takes-then, takes-none}

-- One child

says : (out : List Event) (ended : Outcome) → evaluation_of out ended ≡ record { items = out; ending = result_of_outcome ended }
says out (outcome.Value v) = refl
says out (outcome.Values vs) = refl
says out (outcome.Fault f) = refl
says out (outcome.Cut f) = refl

or-false : (b : Bool) → (b || false) ≡ b
or-false true = refl
or-false false = refl

-- what was heard leaves no child, whichever there were
merging-none : (f : Option Fault) (prefix : List Event) (p : AwaitedChild) (events : List Event) (ending : Result (List Value) Fault) → (merged_answer_unless f prefix p events ending).unmerged ≡ []
merging-none (Some f) prefix p events ending = refl
merging-none None prefix p events (Ok vs) = refl
merging-none None prefix p events (Err f) = refl

pub merging-alone : (p : AwaitedChild) (e : Evaluation) (before after : Trace) → after ≡ merged_answer p e before → after.unmerged ≡ []
merging-alone p e before after h = ap (λ (t : Trace). t.unmerged) h ∙ merging-none before.fault before.prefix p e.items e.ending

pub merging-front : (p : AwaitedChild) (e : Evaluation) (before after : Trace) → after ≡ merged_answer p e before → record after { unmerged = [] } ≡ merged_answer p e (record before { unmerged = [] })
merging-front p e before after h =
    ap (λ (t : Trace). record t { unmerged = [] }) h
    ∙ ap (λ (ps : List AwaitedChild). record (merged_answer p e before) { unmerged = ps }) (sym (merging-none before.fault before.prefix p e.items e.ending))

pub takes-answer : (p : AwaitedChild) (a : AnswerView) (before after : Merge) → trace_of after ≡ merged_answer p (record { items = a.out; ending = result_of_outcome a.outcome }) (trace_of before) →
    ended_of after ≡ or_ends (ended_of before) a.outcome → after.cut ≡ (before.cut || is_cut a.outcome) → after.values ≡ more_values p.destination (result_of_outcome a.outcome) before.values →
    BecomesRemaining (with_stage (takes p.destination (result_of_outcome a.outcome))) before.remaining after.remaining → IsAnswer a.plan a.origin a.out a.outcome → TakesAnswers (p ∷ []) (a ∷ []) before after
takes-answer p a before after trace ended cut values remaining said = record {
  takes = subst (λ (e : Evaluation). IsMergeOf (p ∷ []) (e ∷ []) before after) (sym (says a.out a.outcome)) (record { trace = trace; values = values; remaining = remaining });
  ended = ended;
  cut = cut ∙ ap (λ (b : Bool). before.cut || b) (sym (or-false (is_cut a.outcome)));
  said = (said, tt);
}

-- a part of a loop changes the values alone
pub half-values : (p : Destination) (ending : Result (List Value) Fault) (values after : List Value) → p ≡ destination.Half → after ≡ more_values Half ending values → after ≡ more_values (destination_of p) ending values
half-values p ending values after at is = subst (λ (q : Destination). after ≡ more_values (destination_of q) ending values) (sym at) is

pub half-remaining : (p : Destination) (ending : Result (List Value) Fault) (w : Remaining) → p ≡ destination.Half → BecomesRemaining (with_stage (takes (destination_of p) ending)) w w
half-remaining p ending w at =
    let stays : BecomesRemaining (with_stage (takes Half ending)) w w = record { is = λ plan. sym (same-stage (remaining_of plan w)); of_plan = λ plan o h. h } in
    subst (λ (q : Destination). BecomesRemaining (with_stage (takes (destination_of q) ending)) w w) (sym at) stays

-- One child, and then the others

or-assoc : (a b c : Bool) → ((a || b) || c) ≡ (a || (b || c))
or-assoc true b c = refl
or-assoc false b c = refl

answers-then : (p : AwaitedChild) (ps : List AwaitedChild) (a : AnswerView) (answers : List AnswerView) (before between after : Merge) → TakesAnswers (p ∷ []) (a ∷ []) before between → TakesAnswers ps answers between after →
    TakesAnswers (p ∷ ps) (a ∷ answers) before after
answers-then p ps a answers before between after h k = record {
  takes = takes-then p ps (evaluation_of a.out a.outcome) (answer_evaluations answers) before between after h.takes k.takes;
  ended = k.ended ∙ ap (λ (o : Option Outcome). ended_after o answers) h.ended;
  cut = k.cut ∙ ap (λ (b : Bool). b || any_cut answers) (h.cut ∙ ap (λ (b : Bool). before.cut || b) (or-false (is_cut a.outcome))) ∙ or-assoc before.cut (is_cut a.outcome) (any_cut answers);
  said = (h.said.0, k.said);
}

pub answers-next : {K : Type 0} (xs ys : List AnswerView) (bs cs : List (AfterChild K)) (a : AnswerView) (b : AfterChild K) (before between after : Merge) → xs ≡ a ∷ ys → bs ≡ b ∷ cs →
    TakesAnswers (awaited_child a.origin b ∷ []) (a ∷ []) before between → TakesAnswers (awaited_children (origins (answer_tags ys)) cs) ys between after →
    TakesAnswers (awaited_children (origins (answer_tags xs)) bs) xs before after
answers-next xs ys bs cs a b before between after e k h more =
    let all : TakesAnswers (awaited_children (origins (answer_tags (a ∷ ys))) (b ∷ cs)) (a ∷ ys) before after =
    answers-then (awaited_child a.origin b) (awaited_children (origins (answer_tags ys)) cs) a ys before between after h more in
    subst (λ (ds : List (AfterChild _)). TakesAnswers (awaited_children (origins (answer_tags xs)) ds) xs before after) (sym k)
    (subst (λ (zs : List AnswerView). TakesAnswers (awaited_children (origins (answer_tags zs)) (b ∷ cs)) zs before after) (sym e) all)

pub answers-no-more : {K : Type 0} (xs : List AnswerView) (bs : List (AfterChild K)) (g : Merge) → length xs ≡ 0 → length bs ≡ 0 → TakesAnswers (awaited_children (origins (answer_tags xs)) bs) xs g g
answers-no-more [] bs g h k = record { takes = takes-none g; ended = refl; cut = sym (or-false g.cut); said = tt }
answers-no-more (x ∷ xs) bs g h k = absurd (omega arith)

-- Answers of which none is a cut

or-left : (a b : Bool) → (a || b) ≡ false → a ≡ false
or-left false b h = refl
or-left true b h = absurd (true≢false h)

or-right : (a b : Bool) → (a || b) ≡ false → b ≡ false
or-right false b h = h
or-right true b h = absurd (true≢false h)

pub whole-answers : AnswersAreEvaluations → (answers : List AnswerView) → AreAnswers answers → any_cut answers ≡ false → answer_evaluations answers ≡ meanings (answer_tags answers)
whole-answers law [] said whole = refl
whole-answers law (a ∷ answers) said whole =
    ap (λ (e : Evaluation). e ∷ answer_evaluations answers) (law a.plan a.origin a.out a.outcome (eval-of a.plan a.origin a.out a.outcome (or-left (is_cut a.outcome) (any_cut answers) whole) said.0))
    ∙ ap (λ (es : List Evaluation). eval a.plan a.origin ∷ es) (whole-answers law answers said.1 (or-right (is_cut a.outcome) (any_cut answers) whole))

-- Answers of children

pub answers-of : (plan : PlanView) (ps : List AwaitedChild) (answers : List AnswerView) → AreAnswers answers → answer_tags answers ≡ tags plan (awaited ps) → AreAnswersOf plan ps answers
answers-of plan [] [] said e = tt
answers-of plan [] (a ∷ answers) said e = absurd (cc)
answers-of plan (p ∷ ps) [] said e = absurd (cc)
answers-of plan (p ∷ ps) (a ∷ answers) said e =
    let same : tag a.plan a.origin ≡ tag plan p.child = cc in
    (ap (λ (t : AnswerTag). t.plan) same, ap (λ (t : AnswerTag). t.origin) same, said.0, answers-of plan ps answers said.1 (cc))

-- an end stays, and one comes of a cut

abbrev EndsAfter : Option Outcome → List AnswerView → Type 0
EndsAfter o answers = (ended : Outcome) × (ended_after o answers ≡ Some ended)

end-stays : (ended : Outcome) (answers : List AnswerView) → EndsAfter (Some ended) answers
end-stays ended [] = (ended, refl)
end-stays ended (a ∷ answers) = end-stays ended answers

ends-next : (o : Outcome) (answers : List AnswerView) → (any_cut answers ≡ true → EndsAfter None answers) → (is_cut o || any_cut answers) ≡ true → EndsAfter (or_ends None o) answers
ends-next (outcome.Value v) answers later cut = later cut
ends-next (outcome.Values vs) answers later cut = later cut
ends-next (outcome.Fault f) answers later cut = end-stays (outcome.Fault f) answers
ends-next (outcome.Cut f) answers later cut = end-stays (outcome.Cut f) answers

ends-some : (o : Option Outcome) (answers : List AnswerView) → any_cut answers ≡ true → EndsAfter o answers
ends-some o [] cut = absurd (true≢false (sym cut))
ends-some (Some ended) (a ∷ answers) cut = end-stays ended answers
ends-some None (a ∷ answers) cut = ends-next a.outcome answers (ends-some None answers) cut

fault-first : (f : Option Fault) → end_of f false ≡ by_fault f
fault-first None = refl
fault-first (Some f) = refl

pub own-children : {K : Type 0} (b : TaskState K) (os : List Origin) (bs : List (AfterChild K)) (ts : List AnswerTag) → awaited_children os bs ≡ b.trace.unmerged → length os ≡ length bs → ts ≡ tags b.links.plan (awaited b.trace.unmerged) → origins ts ≡ os
own-children b os bs ts parts same e = ap origins e ∙ origins-tags b.links.plan (awaited b.trace.unmerged) ∙ ap awaited (sym parts) ∙ awaited_parts os bs same

pub is_resumed-whole : (answers : List AnswerView) (t next : TaskView) → any_cut answers ≡ false → next ≡ resumed_view t → IsResumedWith answers t next
is_resumed-whole answers t next whole h = record { whole = λ _. h; cut = λ is. absurd (true≢false (sym is ∙ whole)) }

pub is_resumed-short : (answers : List AnswerView) (t next : TaskView) → any_cut answers ≡ true → IsCutOn answers t next × (next.loads ≡ t.loads) → IsResumedWith answers t next
is_resumed-short answers t next cut h = record { whole = λ none. absurd (true≢false (sym cut ∙ none)); cut = λ _. h }

-- Answers change the trace and the values of a body, and what remains.

pub keeps-then : {K : Type 0} (p q r : Parts K) → KeepsRest p q → KeepsRest q r → KeepsRest p r
keeps-then p q r h k = record { state = k.state ∙ ap (λ (b : TaskState _). record b { trace = r.state.trace; values = r.state.values }) h.state; unmerged = k.unmerged }

pub of_plan-then : {K : Type 0} (p q : Parts K) (merging after : Merging) (ps : List AwaitedChild) (answers : List AnswerView) → KeepsRest p q → TakesAnswers ps answers (merge_of p merging) (merge_of q after) →
    IsRemainingOfPlan p.state.links.plan p.remaining → IsRemainingOfPlan q.state.links.plan q.remaining
of_plan-then p q merging after ps answers kept h w =
    subst (λ (f : LinksView). IsRemainingOfPlan f.plan q.remaining) (sym (ap (λ (b : TaskState _). b.links) kept.state)) (w.0, h.takes.remaining.of_plan p.state.links.plan w.0 w.1)

-- the variables of the children that are left are found still
pub found-then : {K : Type 0} (p q : Parts K) (merging after : Merging) (child : AwaitedChild) (a : AnswerView) (bs : List (AfterChild K)) → KeepsRest p q → TakesAnswers (child ∷ []) (a ∷ []) (merge_of p merging) (merge_of q after) →
    RemainingFindsAll p.state.links.plan bs (remaining_of p.state.links.plan p.remaining) → RemainingFindsAll q.state.links.plan bs (remaining_of q.state.links.plan q.remaining)
found-then p q merging after child a bs kept h found =
    subst (λ (f : LinksView). RemainingFindsAll f.plan bs (remaining_of f.plan q.remaining)) (sym (ap (λ (b : TaskState _). b.links) kept.state))
    (found-kept p.state.links.plan child.destination (evaluation_of a.out a.outcome).ending p.remaining q.remaining bs h.takes.remaining found)

pub kept-state : {K : Type 0} (p q : Parts K) → KeepsRest p q → q.state ≡ record p.state { trace = record q.state.trace { unmerged = [] }; values = q.state.values }
kept-state p q k = k.state ∙ ap (λ (ps : List AwaitedChild). record p.state { trace = record q.state.trace { unmerged = ps }; values = q.state.values }) k.unmerged

-- the task as it was before its children were taken out of the trace
pub taken-from : {K : Type 0} (b : TaskState K) (w : Remaining) (trace : Trace) (ps : List AwaitedChild) (answers : List AnswerView) (after : Merge) → trace ≡ record b.trace { unmerged = [] } →
    TakesAnswers ps answers (begins (record b { trace = trace }) w) after → TakesAnswers ps answers (begins b w) after
taken-from b w trace ps answers after e h = subst (λ (t : Trace). TakesAnswers ps answers (begins (record b { trace = t }) w) after) e h

-- What is left of a task that took a cut

module _ {K : Type 0} (b : TaskState K) (w : Remaining) (os : List Origin) (bs : List (AfterChild K)) (answers : List AnswerView) (after : Merge) where
  -- where none is a cut they are the children's evaluations
  pub takes-whole : AnswersAreEvaluations → TakesAnswers (awaited_children (origins (answer_tags answers)) bs) answers (begins b w) after → any_cut answers ≡ false →
      IsMergeOf (awaited_children (origins (answer_tags answers)) bs) (meanings (answer_tags answers)) (begins b w) after
  takes-whole law h whole = subst (λ (es : List Evaluation). IsMergeOf (awaited_children (origins (answer_tags answers)) bs) es (begins b w) after) (whole-answers law answers h.said whole) h.takes

  module _ (parts : awaited_children os bs ≡ b.trace.unmerged) (children : origins (answer_tags answers) ≡ os) (h : TakesAnswers (awaited_children (origins (answer_tags answers)) bs) answers (begins b w) after) where
    unmerged : awaited_children (origins (answer_tags answers)) bs ≡ b.trace.unmerged
    unmerged = ap (λ (cs : List Origin). awaited_children cs bs) children ∙ parts

    prefix-same : after.prefix ≡ prefix_with answers (task_of b w)
    prefix-same = ap (λ (p : Trace). p.prefix) h.takes.trace ∙ ap (λ (ps : List AwaitedChild). (merged_answers ps (answer_evaluations answers) (record b.trace { unmerged = [] })).prefix) unmerged

    ended-same : ended_of after ≡ ended_after (by_fault b.trace.fault) answers
    ended-same = h.ended ∙ ap (λ (o : Option Outcome). ended_after o answers) (fault-first b.trace.fault)

    pub ends-short : AnswersEnd → IsTask (task_of b w) → AreAnswersOf b.links.plan b.trace.unmerged answers → any_cut answers ≡ true → EndsShort b.links after
    ends-short law is are cut =
        let some = ends-some (by_fault b.trace.fault) answers cut in
        let end = law (task_of b w) answers some.0 is are some.1 in
        record { outcome = some.0; ended = ended-same ∙ some.1; answers = subst (λ (es : List Event). IsAnswer b.links.plan b.links.origin es some.0) (sym prefix-same) end.0; known = end.1 }

    pub short-on : (next : TaskView) → IsShort b.links after b.advanced next → IsCutOn answers (view_of b w) next × (next.loads ≡ b.links.loads)
    short-on next s = (
      record {
        plan = s.plan;
        origin = s.origin;
        prefix = s.prefix ∙ prefix-same;
        unmerged = s.unmerged;
        waits = s.waits;
        advanced = s.advanced;
        cut = s.cut ∙ ended-same;
        children = s.children;
        joins = s.joins;
      },
      s.loads,
    )

-- the task itself

pub short-some : (links : LinksView) (g : Merge) (r : Option Outcome) → EndsShort links g → r ≡ ended_of g → r ≡ None → ⊥
short-some links g r h e none = let some : Some h.outcome ≡ None = sym h.ended ∙ sym e ∙ none in absurd (cc)

same-end : (links : LinksView) (g : Merge) (h : EndsShort links g) (o : Outcome) (r : Option Outcome) → r ≡ ended_of g → r ≡ Some o → h.outcome ≡ o
same-end links g h o r e is = let some : Some h.outcome ≡ Some o = sym h.ended ∙ sym e ∙ is in cc

pub short-holds : {K : Type 0} (links : LinksView) (g : Merge) → EndsShort links g → (o : Outcome) (r : Option Outcome) → r ≡ ended_of g → r ≡ Some o →
    (b : TaskState K) → b.links ≡ links → b.trace ≡ record { prefix = g.prefix; fault = None; unmerged = [] } → b.waiting ≡ false → HasOutcome b o
short-holds links g h o r e is b same trace waits =
    let prefix : b.trace.prefix ≡ g.prefix = ap (λ (p : Trace). p.prefix) trace in
    let end = same-end links g h o r e is in
    record {
      answers = subst (λ (f : LinksView). IsAnswer f.plan f.origin b.trace.prefix o) (sym same)
          (subst (λ (es : List Event). IsAnswer links.plan links.origin es o) (sym prefix) (subst (IsAnswer links.plan links.origin g.prefix) end h.answers));
      known = subst (λ (f : LinksView). IsByFaultOf f.plan o) (sym same) (subst (IsByFaultOf links.plan) end h.known);
      waits = waits;
    }

pub short-view : {K : Type 0} (links : LinksView) (g : Merge) (advanced : Bool) (o : Outcome) (r : Option Outcome) → r ≡ ended_of g → r ≡ Some o →
    (b : TaskState K) → b.links ≡ links → b.trace ≡ record { prefix = g.prefix; fault = None; unmerged = [] } → b.waiting ≡ false → b.advanced ≡ advanced → IsShort links g advanced (view_of b (remaining.Ends o))
short-view links g advanced o r e is b same trace waits was = record {
  plan = ap (λ (f : LinksView). f.plan) same;
  origin = ap (λ (f : LinksView). f.origin) same;
  prefix = ap (λ (p : Trace). p.prefix) trace;
  unmerged = ap (λ (p : Trace). p.unmerged) trace;
  waits = waits;
  advanced = was;
  cut = sym is ∙ e;
  children = ap (λ (f : LinksView). f.children) same;
  loads = ap (λ (f : LinksView). f.loads) same;
  joins = ap (λ (f : LinksView). f.joins) same;
}
