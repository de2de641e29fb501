-- A task that comes to a stop and still has what it answers.
use Rattle.std.proofs.Common.{◌≡◌, ◌∙◌, true, false, None, refl, sym, ap, subst}
use Rattle.serial_meaning.specs.Answer.{AnswerView, AnswerTag, IsAnswer}
use Rattle.serial_meaning.specs.Plan.{PlanView}
use Rattle.serial_meaning.specs.declared.answer.Outcome.{Outcome}
use Rattle.serial_meaning.specs.declared.answer.Outcome.TheVariants as outcome
use Rattle.strand_meaning.specs.Cuts.{IsByFaultOf}
use Rattle.strand_meaning.specs.Laws.{IsFaultOf}
use Rattle.meet_block.specs.Gives.{give_of}
use Rattle.serial_meaning.specs.declared.origin.Origin.{Origin}
use Rattle.strand_machine.specs.Links.{GiveView, tag, task_give}
use Rattle.strand_machine.specs.Made.{IsSoundMade, KeepsAnswer, KnowsEnd, PausesAs, StopsSo, made, outcome_left}
use Rattle.strand_machine.specs.Stops.{Advances, HasEnded, IsCutEnd, IsStop, Pauses}
use Rattle.strand_machine.specs.Tasks.{HoldsOfTask, TaskView, cut_of, has_outcome, view_of}
use Rattle.strand_machine.specs.declared.task_state.TaskState.{TaskState}
use Rattle.strand_machine.specs.declared.parts.Parts.{Parts}
use Rattle.strand_machine.specs.MoveOrStop.{MoveOrStop}
use Rattle.strand_machine.specs.MoveOrStop as step-in
use Rattle.strand_machine.specs.declared.stop.Passed.{Passed}
use Rattle.strand_machine.specs.declared.stop.Passed.TheVariants as passed-in
use Rattle.strand_machine.specs.declared.stop.Paused.{Paused}
use Rattle.strand_machine.specs.declared.stop.Paused.TheVariants as paused-in
use Rattle.strand_machine.specs.declared.stop.Stop.{Stop}
use Rattle.strand_machine.specs.declared.stop.Stop.TheVariants as stop-in
use Rattle.strand_machine.specs.declared.remaining.Remaining.{Remaining}
use Rattle.strand_machine.specs.declared.remaining.Remaining.TheVariants as remaining
use Rattle.strand_machine.proofs.Moves.Making.{leaves-outcome}
use Rattle.strand_machine.proofs.NextStops.Advancing.{advances-uncut}

by-fault : (plan : PlanView) (o : Outcome) → IsFaultOf plan o → IsByFaultOf plan o
by-fault plan (outcome.Value v) h = h
by-fault plan (outcome.Values vs) h = h
by-fault plan (outcome.Fault f) h = h
by-fault plan (outcome.Cut f) h = absurd h

-- The fault by which it ended is known.
pub knows-end : {K : Type 0} (t : TaskView) (p : Parts K) (passed : Passed K) → StopsSo t (made p passed) → KnowsEnd p passed
knows-end t p passed-in.Continues h = tt
knows-end t p passed-in.Waits h = tt
knows-end t p (passed-in.Spawned child) h = tt
knows-end t p passed-in.Ends h =
    let ended = outcome_left p.remaining in by-fault p.state.links.plan ended (subst (λ (plan : PlanView). IsFaultOf plan ended) (sym h.keeps.0) h.known)

kept-end : {K : Type 0} (t rest : TaskView) (a : AnswerView) (give : GiveView AnswerTag) → IsStop {K = K} t (stop-in.Done a give) → KeepsAnswer {K = K} a give (paused-in.Ended rest) → HasEnded K t rest
kept-end {K} t rest a give h k =
    let answer : record { plan = rest.task.plan; origin = rest.task.origin; out = rest.task.trace.prefix; outcome = a.outcome } ≡ a = rw (k.0, k.1, k.2) refl in
    let join : rest.joins.parents ≡ t.joins.parents = k.4 ∙ ap (λ (g : GiveView AnswerTag). g.join) h.keeps.2 in
    let give-is : task_give rest.task.plan rest.task.origin rest.joins ≡ give =
    ap (λ (p : PlanView). task_give p rest.task.origin rest.joins) (k.0 ∙ h.keeps.0) ∙ ap (λ (o : Origin). task_give t.task.plan o rest.joins) (k.1 ∙ h.keeps.1)
    ∙ ap (give_of (tag t.task.plan t.task.origin)) join ∙ sym h.keeps.2 in
    record {
      outcome = a.outcome;
      cut = k.3;
      stop = subst (λ (x : AnswerView). IsStop {K = K} t (stop-in.Done x (task_give rest.task.plan rest.task.origin rest.joins))) (sym answer) (subst (λ (y : GiveView AnswerTag). IsStop {K = K} t (stop-in.Done a y)) (sym give-is) h);
    }

-- What a task answers that has ended is its next stop.
pub ended-stop : {K : Type 0} (t rest : TaskView) (s : Stop K) → HasEnded K t rest → Advances rest s → IsStop t s
ended-stop t rest s h a =
    let end : IsCutEnd rest h.outcome s = a.has_ended h.outcome h.cut in
    subst (IsStop t) (sym end.is) h.stop

-- What the code makes of a stop.
pub waits-as : {K : Type 0} (p : Parts K) (passed : Passed K) → passed ≡ passed-in.Waits → PausesAs (made p passed) (paused-in.Wait (view_of p.state p.remaining))
waits-as p passed is = subst (λ (x : Passed _). PausesAs (made p x) (paused-in.Wait (view_of p.state p.remaining))) (sym is) refl

pub spawns-as : {K : Type 0} (p : Parts K) (passed : Passed K) (child : TaskView) → passed ≡ passed-in.Spawned child → PausesAs (made p passed) (paused-in.Spawn child (view_of p.state p.remaining))
spawns-as p passed child is = subst (λ (x : Passed _). PausesAs (made p x) (paused-in.Spawn child (view_of p.state p.remaining))) (sym is) refl

pub holds-end : {K : Type 0} (b : TaskState K) (ended : Outcome) (w : Remaining) → w ≡ remaining.Ends ended → IsAnswer b.links.plan b.links.origin b.trace.prefix ended → IsByFaultOf b.links.plan ended → b.waiting ≡ false → HoldsOfTask b w
holds-end b ended w is answers known waits = subst (HoldsOfTask b) (sym is) (record { answers = answers; known = known; waits = waits })

pub ended-holds : {K : Type 0} (p : Parts K) (passed : Passed K) → passed ≡ passed-in.Ends → IsSoundMade p passed → KnowsEnd p passed → HoldsOfTask p.state p.remaining
ended-holds p passed is sound known =
    let left = leaves-outcome p passed is sound in holds-end p.state (outcome_left p.remaining) p.remaining left.is left.answers (subst (KnowsEnd p) is known) left.waits

pub ends-as : {K : Type 0} (p : Parts K) (passed : Passed K) → passed ≡ passed-in.Ends → IsSoundMade p passed → PausesAs (made p passed) (paused-in.Ended (view_of p.state p.remaining))
ends-as p passed is sound =
    let left = leaves-outcome p passed is sound in
    subst (λ (x : Passed _). PausesAs (made p x) (paused-in.Ended (view_of p.state p.remaining))) (sym is) (refl, refl, refl, ap cut_of left.is, refl)

-- What the code makes of it is its pause.
pub pauses : {K : Type 0} (t : TaskView) (m : MoveOrStop K) (p : Paused K) → StopsSo t m → PausesAs m p → Pauses t p
pauses t (step-in.Passes next) p h k = absurd k
pauses t (step-in.Stops (stop-in.Spawn child rest)) p h k = subst (Pauses t) (sym k) h
pauses t (step-in.Stops (stop-in.Wait rest)) p h k = subst (Pauses t) (sym k) h
pauses t (step-in.Stops (stop-in.Done a give)) (paused-in.Spawn child rest) h k = absurd k
pauses t (step-in.Stops (stop-in.Done a give)) (paused-in.Wait rest) h k = absurd k
pauses t (step-in.Stops (stop-in.Done a give)) (paused-in.Ended rest) h k = kept-end t rest a give h k

-- The stop that a pause comes to.
module _ {K : Type 0} (t : TaskView) (p : Paused K) (h : Pauses t p) where
  pub spawns-so : (child rest : TaskView) → t.cut ≡ None → p ≡ paused-in.Spawn child rest → Advances {K = K} t (stop-in.Spawn child rest)
  spawns-so child rest goes is = advances-uncut t (stop-in.Spawn child rest) goes (subst (Pauses t) is h)

  pub waits-so : (rest : TaskView) → t.cut ≡ None → p ≡ paused-in.Wait rest → Advances {K = K} t (stop-in.Wait rest)
  waits-so rest goes is = advances-uncut t (stop-in.Wait rest) goes (subst (Pauses t) is h)

  has-ended : (rest : TaskView) → p ≡ paused-in.Ended rest → HasEnded K t rest
  has-ended rest is = subst (Pauses t) is h

  pub ended-short : (rest : TaskView) → p ≡ paused-in.Ended rest → has_outcome rest.cut ≡ true
  ended-short rest is = ap has_outcome (has-ended rest is).cut

  pub ends-so : (rest : TaskView) (s : Stop K) → t.cut ≡ None → p ≡ paused-in.Ended rest → Advances rest s → Advances t s
  ends-so rest s goes is a = advances-uncut t s goes (ended-stop t rest s (has-ended rest is) a)
