-- Where a task stops at a wait, it stands in it; what it gives at its end is its give's; and a fault by which it ends is one of its plan's.
use Rattle.std.proofs.Common.{◌≡◌, inl, inr, ℕ, zero, suc, ◌-◌, true, false, List, [], ◌∷◌, ◌++◌, Option, Some, None, Result, Ok, Err, IfOk, IfErr, OnErr, refl, sym, ap, ◌∙◌, subst}
use Rattle.loop_range.specs.Range.{Range}
use Rattle.serial_meaning.specs.Answer.{AnswerView, AnswerTag, IsCut}
use Rattle.serial_meaning.specs.Eval.{path_of}
use Rattle.serial_meaning.specs.Open.{Own, ChildFaulted}
use Rattle.serial_meaning.specs.Plan.{PlanView}
use Rattle.serial_meaning.specs.declared.value.Value.{Value}
use Rattle.serial_meaning.specs.declared.event.Fault.{Fault}
use Rattle.serial_meaning.specs.declared.keep.All.{All}
use Rattle.serial_meaning.specs.declared.origin.Origin.{Origin}
use Rattle.serial_meaning.specs.declared.origin.Origin.TheVariants.{Instance, Loop}
use Rattle.serial_meaning.specs.declared.answer.Outcome.{Outcome}
use Rattle.serial_meaning.specs.declared.answer.Outcome.TheVariants as outcome
use Rattle.strand_meaning.specs.Machine.{Effect, Reached, Stands, Gives, move}
use Rattle.strand_meaning.specs.Trace.{AwaitedChild}
use Rattle.strand_meaning.specs.Task.{Stage, Running, AtSync, AtLoop, Ended, Remaining, Splits, Runs, Finished, Task, own_instance, MoveOrStop, Passes, Stops, Stop, Spawn, Wait, End, IsNext, Now, Later, stage_after, child_in, stops_at, passing, step_result, ends_unless, faults_after, returned, stage_step, split_step, over_step, remaining_step}
use Rattle.strand_machine.specs.Links.{GiveView, task_give, tag}
use Rattle.strand_meaning.specs.Cuts.{IsByFaultOf}
use Rattle.strand_meaning.specs.Laws.{IsFaultOf}
use Rattle.strand_machine.specs.Stops.{IsCutEnd, IsResumed, Pauses, Advances}
use Rattle.strand_machine.proofs.NextStops.ByCut.{advances, advances-at}
use Rattle.strand_machine.specs.Tasks.{TaskView}
use Rattle.strand_machine.specs.declared.stop.Paused.TheVariants as paused
use Rattle.strand_machine.specs.declared.stop.Stop.TheVariants as stop
use Rattle.strand_machine.specs.declared.stop.Resumed.TheVariants as resumed
use Rattle.strand_machine.proofs.NextStops.Pausing.{ends-so}
use Rattle.parallel_runner.specs.Hands.{HandView, EndsBy, EndsTask, HasPut, IsUnended, MayBeCutBy, PutsItsEnd, TurnAnswers, AdvancesCurrent, cut_answer}
use Rattle.parallel_runner.specs.declared.hand.Turn.{Turn}
use Rattle.parallel_runner.specs.declared.hand.Turn.TheVariants.{Ran, Answered, Ended as EndedRoot, Popped, Resumed, Waiting, Stole, Idle}

abbrev StandsIn : Stop → Type 0
StandsIn (Spawn child rest) = Unit {0}
StandsIn (Wait rest) = rest.waiting ≡ true
StandsIn (End out ended) = Unit {0}

abbrev StandsInStep : MoveOrStop → Type 0
StandsInStep (Passes next) = Unit {0}
StandsInStep (Stops stop) = StandsIn stop

module _ (t : Task) where
  at-end : (f : Option Fault) (ended : Outcome) → StandsInStep (ends_unless f t ended)
  at-end None ended = tt
  at-end (Some f) ended = tt

  at-child : (o : Option Origin) (next : Task) → StandsInStep (stops_at o next)
  at-child None next = tt
  at-child (Some o) next = tt

  at-move : (ts : List Effect) (e : Result Reached Fault) → StandsInStep (step_result t ts e)
  at-move ts (Ok (Stands m)) = at-child (child_in ts) (passing t ts (Runs (stage_after ts m)))
  at-move ts (Ok (Gives v)) = tt
  at-move ts (Err f) = tt

  at-fault : (ps : List AwaitedChild) (f : Fault) → StandsInStep (faults_after ps t f)
  at-fault [] f = at-end t.trace.fault _
  at-fault (p ∷ ps) f = refl

  at-value : (o : Origin) (v : Value) → StandsInStep (returned t o v)
  at-value (Instance function args path) v = at-end t.trace.fault _
  at-value (Loop function rest first path range) v = tt

  at-stage : (stage : Stage) → StandsInStep (stage_step t stage)
  at-stage (Running m) = let r = move t.plan (path_of (own_instance t.origin)) m in at-move r.items r.ending
  at-stage (AtSync m) = refl
  at-stage (AtLoop m) = refl
  at-stage (Ended (Ok v)) = at-value t.origin v
  at-stage (Ended (Err (Own f))) = at-fault t.trace.unmerged f
  at-stage (Ended (Err (ChildFaulted f))) = at-end t.trace.fault _

  at-split : (left : Range) (n : ℕ) → StandsInStep (split_step t left n)
  at-split left zero = at-end t.trace.fault _
  at-split left (suc zero) = tt
  at-split left (suc (suc n)) = tt

  at-over : (v : Value) (o : Origin) → StandsInStep (over_step t v o)
  at-over v (Instance function args path) = at-end t.trace.fault _
  at-over v (Loop function rest first path range) = by_size (range.hi - range.lo) refl
    where
      by_size : (n : ℕ) → range.hi - range.lo ≡ n → StandsInStep (over_step t v (Loop function rest first path range))
      by_size zero g = rw g (at-end t.trace.fault _)
      by_size (suc zero) g = rw g (at-end t.trace.fault _)
      by_size (suc (suc n)) g = rw g refl

  at-remaining : (remaining : Remaining) → StandsInStep (remaining_step t remaining)
  at-remaining (Splits left) = at-split left (left.hi - left.lo)
  at-remaining (Runs stage) = at-stage stage
  at-remaining (Finished v true) = at-end t.trace.fault _
  at-remaining (Finished v false) = at-over v t.origin

stands-in : (t : Task) (stop : Stop) → IsNext t stop → StandsIn stop
stands-in t stop (Now h) = subst StandsInStep h (at-remaining t t.remaining)
stands-in t stop (Later next h n) = stands-in next stop n

-- Only its end comes of a task that took a cut.
by_cut : {K X : Type 0} (t : TaskView) (ended : Outcome) (rest : TaskView) → IsCutEnd {K = K} t ended (stop.Wait rest) → X
by_cut t ended rest at = absurd (let e = at.is in (cc))

waits-as : (K : Type 0) (c : Option Outcome) (t rest : TaskView) → advances {K = K} c t (stop.Wait rest) → rest.task.waiting ≡ true
waits-as K None t rest at = let w : StandsIn (Wait rest.task) = stands-in t.task (Wait rest.task) at.next in w
waits-as K (Some ended) t rest at = by_cut t ended rest at

pub waits_there : {K : Type 0} (t rest : TaskView) → Advances {K = K} t (stop.Wait rest) → rest.task.waiting ≡ true
waits_there {K} t rest at = waits-as K t.cut t rest (advances-at {K = K} t (stop.Wait rest) at t.cut refl)

pub waits_still : (t same : TaskView) → t.task.waiting ≡ true → IsResumed {K = All} t (resumed.NotYet same) → same.task.waiting ≡ true
waits_still t same h at = rw at.0 h

-- What a task gives at its end

pub record GivesOwn (t : TaskView) (answer : AnswerView) (give : GiveView AnswerTag) : Type 0 where
  pub plan : answer.plan ≡ t.task.plan
  pub origin : answer.origin ≡ t.task.origin
  pub given : give ≡ task_give t.task.plan t.task.origin t.joins
  pub known : IsByFaultOf t.task.plan answer.outcome

by-fault : (plan : PlanView) (ended : Outcome) → IsFaultOf plan ended → IsByFaultOf plan ended
by-fault plan (outcome.Value v) h = h
by-fault plan (outcome.Values vs) h = h
by-fault plan (outcome.Fault f) h = h
by-fault plan (outcome.Cut f) h = absurd h

gives-as : (K : Type 0) (c : Option Outcome) (t : TaskView) (answer : AnswerView) (give : GiveView AnswerTag) → advances {K = K} c t (stop.Done answer give) → GivesOwn t answer give
gives-as K None t answer give at = record { plan = at.keeps.0; origin = at.keeps.1; given = at.keeps.2; known = by-fault t.task.plan answer.outcome at.known }
gives-as K (Some ended) t answer give at =
    let e = at.is in
    record {
      plan = (cc);
      origin = (cc);
      given = (cc);
      known = subst (IsByFaultOf t.task.plan) (let o : ended ≡ answer.outcome = (cc) in o) at.known;
    }

gives : {K : Type 0} (t : TaskView) (answer : AnswerView) (give : GiveView AnswerTag) → Advances {K = K} t (stop.Done answer give) → GivesOwn t answer give
gives {K} t answer give at = gives-as K t.cut t answer give (advances-at {K = K} t (stop.Done answer give) at t.cut refl)

pub gives_its_own : {K : Type 0} (t : TaskView) (answer : AnswerView) (give : GiveView AnswerTag) → Advances {K = K} t (stop.Done answer give) → tag answer.plan answer.origin ≡ give.tag
gives_its_own t answer give at =
    let g = gives t answer give at in ap (λ (p : PlanView). tag p answer.origin) g.plan ∙ ap (tag t.task.plan) g.origin ∙ sym (ap (λ (x : GiveView AnswerTag). x.tag) g.given)

pub ends_by_its_plans : {K : Type 0} (t : TaskView) (answer : AnswerView) (give : GiveView AnswerTag) → Advances {K = K} t (stop.Done answer give) → IsByFaultOf answer.plan answer.outcome
ends_by_its_plans t answer give at = let g = gives t answer give at in subst (λ (p : PlanView). IsByFaultOf p answer.outcome) (sym g.plan) g.known

-- What was put

pub answers_own : {K : Type 0} (t : TaskView) (answer : AnswerView) (give : GiveView AnswerTag) (turn : Turn K) → Advances {K = K} t (stop.Done answer give) → TurnAnswers give turn →
    TurnAnswers (task_give t.task.plan t.task.origin t.joins) turn
answers_own t answer give turn at put = subst (λ (g : GiveView AnswerTag). TurnAnswers g turn) (gives t answer give at).given put

pub has_put : {K : Type 0} (t : TaskView) (answer : AnswerView) (give : GiveView AnswerTag) (before after : List AnswerView) → Advances {K = K} t (stop.Done answer give) → after ≡ before ++ answer ∷ [] →
    HasPut K t before after
has_put t answer give before after at put = record { answer = answer; by = (give, at); put = put }

-- what is left of a task that has ended answers for it
ends-for : (K : Type 0) (t rest : TaskView) (answer : AnswerView) → t.cut ≡ None → Pauses {K = K} t (paused.Ended rest) → EndsBy K rest answer → EndsBy K t answer
ends-for K t rest answer goes h (give, at) = (give, ends-so t (paused.Ended rest) h rest (stop.Done answer give) goes refl at)

pub put-for : (K : Type 0) (t rest : TaskView) (before after : List AnswerView) → t.cut ≡ None → Pauses {K = K} t (paused.Ended rest) → HasPut K rest before after → HasPut K t before after
put-for K t rest before after goes h p = record { answer = p.answer; by = ends-for K t rest p.answer goes h p.by; put = p.put }

pub put_on_err : {K E : Type 0} (r : Result (Turn K) E) (t : TaskView) (before after : List AnswerView) → HasPut K t before after → OnErr r (HasPut K t before after)
put_on_err (Ok turn) t before after p = tt
put_on_err (Err e) t before after p = p

pub puts_its_end : {K E : Type 0} (r : Result (Turn K) E) (t : TaskView) (before after : List AnswerView) → OnErr r (HasPut K t before after) → OnErr r (PutsItsEnd K t before after)
puts_its_end (Ok turn) t before after p = tt
puts_its_end (Err e) t before after p = inl p

pub unended_of : {A : Type 0} (r : Result A TaskView) (t rest : TaskView) → IfErr r (λ left. left ≡ rest) → IsUnended t rest → IfErr r (λ left. IsUnended t left)
unended_of (Ok a) t rest same h = tt
unended_of (Err left) t rest same h = subst (IsUnended t) (sym same) h

pub puts_none : (K : Type 0) (t : TaskView) (before after : List AnswerView) → t.cut ≡ None → after ≡ before → PutsItsEnd K t before after
puts_none K t before after goes same = inr (goes, same)

give-for : {K : Type 0} (t rest : TaskView) → Pauses {K = K} t (paused.Ended rest) → task_give rest.task.plan rest.task.origin rest.joins ≡ task_give t.task.plan t.task.origin t.joins
give-for t rest h = h.stop.keeps.2

module _ (t : TaskView) (old new : HandView) (none : old.current ≡ None) (same : new ≡ record old { answered = new.answered }) where
  with-put : (answer : AnswerView) → new.answered ≡ old.answered ++ answer ∷ [] → new ≡ record old { current = None; answered = old.answered ++ answer ∷ [] }
  with-put answer put =
      same
      ∙ ap (λ (l : List AnswerView). record old { answered = l }) put
      ∙ ap (λ (o : Option TaskView). record old { current = o; answered = old.answered ++ answer ∷ [] }) none

  ends-by : {K : Type 0} (turn : Turn K) → TurnAnswers (task_give t.task.plan t.task.origin t.joins) turn → HasPut K t old.answered new.answered → EndsTask t old turn new
  ends-by turn answers p = (p.answer, inl p.by, answers, with-put p.answer p.put)

  advances-by : {K : Type 0} (turn : Turn K) → TurnAnswers (task_give t.task.plan t.task.origin t.joins) turn → HasPut K t old.answered new.answered → AdvancesCurrent t old turn new
  advances-by Ran answers put = absurd answers
  advances-by (Answered arrived) answers put = ends-by (Answered arrived) answers put
  advances-by (EndedRoot arrived) answers put = ends-by (EndedRoot arrived) answers put
  advances-by Popped answers put = absurd answers
  advances-by Resumed answers put = absurd answers
  advances-by Waiting answers put = absurd answers
  advances-by Stole answers put = absurd answers
  advances-by Idle answers put = absurd answers

  pub put_advances : {K E : Type 0} (r : Result (Turn K) E) → IfOk r (TurnAnswers (task_give t.task.plan t.task.origin t.joins)) → HasPut K t old.answered new.answered →
      IfOk r (λ turn. AdvancesCurrent t old turn new)
  put_advances (Ok turn) answers put = advances-by turn answers put
  put_advances (Err e) answers put = tt

  pub end_advances : {K E : Type 0} (rest : TaskView) (r : Result (Turn K) E) → t.cut ≡ None → Pauses {K = K} t (paused.Ended rest) → IfOk r (TurnAnswers (task_give rest.task.plan rest.task.origin rest.joins)) →
      HasPut K rest old.answered new.answered → IfOk r (λ turn. AdvancesCurrent t old turn new)
  end_advances {K} rest (Ok turn) goes h answers put =
      advances-by turn (subst (λ (g : GiveView AnswerTag). TurnAnswers g turn) (give-for {K = K} t rest h) answers) (put-for K t rest old.answered new.answered goes h put)
  end_advances rest (Err e) goes h answers put = tt

  -- or its answer was a cut
  cut-by : {K : Type 0} (turn : Turn K) (by : Fault) → MayBeCutBy t by → TurnAnswers (task_give t.task.plan t.task.origin t.joins) turn → new.answered ≡ old.answered ++ cut_answer t by ∷ [] →
      EndsTask t old turn new
  cut-by turn by may answers put = (cut_answer t by, inr (by, may, refl), answers, with-put (cut_answer t by) put)

  pub cut_advances : {K : Type 0} (turn : Turn K) (by : Fault) → t.task.advanced ≡ false → IsCut t.task.plan t.task.origin by → TurnAnswers (task_give t.task.plan t.task.origin t.joins) turn →
      new.answered ≡ old.answered ++ cut_answer t by ∷ [] → AdvancesCurrent t old turn new
  cut_advances Ran by fresh stands answers put = absurd answers
  cut_advances (Answered arrived) by fresh stands answers put = cut-by (Answered arrived) by (fresh, stands) answers put
  cut_advances (EndedRoot arrived) by fresh stands answers put = cut-by (EndedRoot arrived) by (fresh, stands) answers put
  cut_advances Popped by fresh stands answers put = absurd answers
  cut_advances Resumed by fresh stands answers put = absurd answers
  cut_advances Waiting by fresh stands answers put = absurd answers
  cut_advances Stole by fresh stands answers put = absurd answers
  cut_advances Idle by fresh stands answers put = absurd answers
