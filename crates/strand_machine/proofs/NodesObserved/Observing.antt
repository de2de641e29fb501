-- What is observed of a step.
use Rattle.std.proofs.Common.{◌≡◌, ◌<◌, ℕ, List, [], ◌++◌, Option, Some, None, refl, sym, ap, ◌∙◌, subst}
use Rattle.serial_meaning.specs.declared.event.Event.{Event}
use Rattle.serial_meaning.specs.declared.event.Fault.{Fault}
use Rattle.serial_meaning.specs.declared.keep.All.{All}
use Rattle.strand_meaning.specs.Laws.{MovesFall, StopsAreSound}
use Rattle.strand_meaning.specs.Left.{moves_left}
use Rattle.strand_meaning.specs.Observation as meaning
use Rattle.strand_meaning.specs.Observation.{newest, also, no_observation, step_observation, Shows, Now, Later}
use Rattle.strand_meaning.specs.Sound.{IsTask}
use Rattle.strand_meaning.specs.Strands.{own_events, events_at}
use Rattle.strand_meaning.specs.Task.{Stop}
use Rattle.strand_meaning.proofs.NodesObserved.StopsObserved.{also-assoc}
use Rattle.strand_meaning.proofs.NodesObserved.EventsOfPedigree.{events_at-append}
use Rattle.strand_machine.specs.Probes.{probe_after}
use Rattle.strand_machine.specs.Observed.{IsObserved, with_step}
use Rattle.strand_machine.specs.Made.{IsSoundMade, LeadsTo, made}
use Rattle.strand_machine.specs.Stops.{IsStep, stop_of}
use Rattle.strand_machine.specs.Tasks.{HoldsOfTask, IsSound, TaskView, task_of, view_of}
use Rattle.strand_machine.specs.declared.parts.Parts.{Parts}
use Rattle.strand_machine.specs.declared.probe.StrandProbe.{StrandProbe}
use Rattle.strand_machine.specs.declared.observe.Observed.{Observed}
use Rattle.strand_machine.specs.MoveOrStop.{MoveOrStop as MadeStep}
use Rattle.strand_machine.specs.MoveOrStop as step-in
use Rattle.strand_machine.specs.declared.stop.Passed.{Passed}
use Rattle.strand_machine.specs.declared.stop.Passed.TheVariants as passed
use Rattle.strand_machine.specs.declared.stop.Stop.{Stop as MadeStop}
use Rattle.strand_machine.proofs.NextStops.Advancing.{falls, is-sound, leads-start, leads-on, stops-there}
use Rattle.strand_machine.proofs.NodesObserved.Probes.{looks-append, own-append}

newest-none : (f : Option Fault) → newest None f ≡ f
newest-none None = refl
newest-none (Some f) = refl

also-nothing : (later : meaning.Observation) → later ≡ also no_observation later
also-nothing later =
    ap (λ (f : Option Fault). record later { fault = f }) (sym (newest-none later.fault)) ∙ ap (λ (f : Option Fault). record later { fault = newest None later.fault; child_fault = f }) (sym (newest-none later.child_fault))

-- What comes next of a task comes next of the first one, after what is observed, of which the probe and the events have what is of the pedigree j.
pub record LeadsObserved (first : TaskView) (j : List ℕ) (before : StrandProbe) (now : TaskView) (observation : Observed) : Type 0 where
  pub leads : LeadsTo first now
  pub front : meaning.Observation
  pub shows : (later : meaning.Observation) (stop : Stop) → Shows now.task later stop → Shows first.task (also front later) stop
  pub probe : observation.probe ≡ probe_after j before front.items
  pub events : observation.events ≡ events_at j (own_events front.items)
  pub fault : observation.fault ≡ front.fault
  pub child_fault : observation.child_fault ≡ front.child_fault

pub observed-start : (t : TaskView) (j : List ℕ) (probe : StrandProbe) (observation : Observed) → t.cut ≡ None → observation ≡ record { probe = probe; events = []; fault = None; child_fault = None } → LeadsObserved t j probe t observation
observed-start t j probe observation goes h = record {
  leads = leads-start t goes;
  front = no_observation;
  shows = λ later stop s. subst (λ (n : meaning.Observation). Shows t.task n stop) (also-nothing later) s;
  probe = ap (λ (n : Observed). n.probe) h;
  events = ap (λ (n : Observed). n.events) h;
  fault = ap (λ (n : Observed). n.fault) h;
  child_fault = ap (λ (n : Observed). n.child_fault) h;
}

module _ (first : TaskView) (j : List ℕ) (probe : StrandProbe) (now : TaskView) (observation after : Observed) (h : LeadsObserved first j probe now observation) (same : after ≡ with_step j (step_observation now.task) observation) where
  abbrev step-shows : meaning.Observation
  step-shows = step_observation now.task

  more-seen : after.probe ≡ probe_after j probe (h.front.items ++ step-shows.items)
  more-seen = ap (λ (n : Observed). n.probe) same ∙ ap (λ (e : StrandProbe). probe_after j e step-shows.items) h.probe ∙ sym (looks-append j probe h.front.items step-shows.items)

  more-events : after.events ≡ events_at j (own_events (h.front.items ++ step-shows.items))
  more-events =
      ap (λ (n : Observed). n.events) same
      ∙ ap (λ (l : List Event). l ++ events_at j (own_events step-shows.items)) h.events
      ∙ sym (events_at-append j (own_events h.front.items) (own_events step-shows.items))
      ∙ ap (events_at j) (sym (own-append h.front.items step-shows.items))

  pub observed-on : MovesFall → (next : TaskView) (s : MadeStep All) → IsStep now s → s ≡ step-in.Passes next → LeadsObserved first j probe next after
  observed-on law next s g e =
      let k : IsStep {K = All} now (step-in.Passes next) = subst (IsStep now) e g in
      record {
        leads = leads-on law first now next s h.leads g e;
        front = also h.front step-shows;
        shows = λ later stop n. subst (λ (x : meaning.Observation). Shows first.task x stop) (sym (also-assoc h.front step-shows later)) (h.shows (also step-shows later) stop (Later next.task later k.is n refl));
        probe = more-seen;
        events = more-events;
        fault = ap (λ (n : Observed). n.fault) same ∙ ap (λ (f : Option Fault). newest f step-shows.fault) h.fault;
        child_fault = ap (λ (n : Observed). n.child_fault) same ∙ ap (λ (f : Option Fault). newest f step-shows.child_fault) h.child_fault;
      }

  pub observed-stop : StopsAreSound → IsTask first.task → (stop : MadeStop All) (s : MadeStep All) → IsStep now s → s ≡ step-in.Stops stop →
      IsObserved first j probe (record { stop = stop; probe = after.probe; events = after.events; fault = after.fault; child_fault = after.child_fault })
  observed-stop sounds sound stop s g e =
      let k : IsStep now (step-in.Stops stop) = subst (IsStep now) e g in
      record {
        stop = stops-there sounds first now s stop sound h.leads g e;
        observation = also h.front step-shows;
        shows = h.shows step-shows (stop_of stop) (Now k.is refl);
        probe = more-seen;
        events = more-events;
        fault = ap (λ (n : Observed). n.fault) same ∙ ap (λ (f : Option Fault). newest f step-shows.fault) h.fault;
        child_fault = ap (λ (n : Observed). n.child_fault) same ∙ ap (λ (f : Option Fault). newest f step-shows.child_fault) h.child_fault;
      }

-- The parts of a task to which moves in a row have led, with what was observed on the way.
pub record IsObservedWay (first : TaskView) (j : List ℕ) (before : StrandProbe) (p : Parts All) (observation : Observed) : Type 0 where
  pub sound : IsSound p.state p.remaining
  pub leads : LeadsObserved first j before (view_of p.state p.remaining) observation

pub observed-way : (t : TaskView) (j : List ℕ) (probe : StrandProbe) (p : Parts All) (observation : Observed) → view_of p.state p.remaining ≡ t → t.cut ≡ None → HoldsOfTask p.state p.remaining →
    observation ≡ record { probe = probe; events = []; fault = None; child_fault = None } → IsObservedWay t j probe p observation
observed-way t j probe p observation same goes holds h = record {
  sound = is-sound p.state p.remaining t same goes holds;
  leads = subst (λ (v : TaskView). LeadsObserved t j probe v observation) (sym same) (observed-start t j probe observation goes h);
}

-- One step further, of the parts `now`, which are those of the way.
module _ (first : TaskView) (j : List ℕ) (probe : StrandProbe) (old now next : Parts All) (observation after : Observed) (x : Passed All) (at : now ≡ old) (way : IsObservedWay first j probe old observation)
    (same : after ≡ with_step j (step_observation (task_of now.state now.remaining)) observation) (steps : IsStep (view_of now.state now.remaining) (made next x)) (sound : IsSoundMade next x) where
  abbrev here : TaskView
  here = view_of now.state now.remaining

  leads-here : LeadsObserved first j probe here observation
  leads-here = subst (λ (p : Parts All). LeadsObserved first j probe (view_of p.state p.remaining) observation) (sym at) way.leads

  pub observed-way-on : MovesFall → x ≡ passed.Continues → IsObservedWay first j probe next after
  observed-way-on law is = record {
    sound = subst (IsSoundMade next) is sound;
    leads = observed-on first j probe here observation after leads-here same law (view_of next.state next.remaining) (made next x) steps (ap (made next) is);
  }

  pub observed-way-falls : MovesFall → x ≡ passed.Continues → moves_left (task_of next.state next.remaining) < moves_left (task_of old.state old.remaining)
  observed-way-falls law is =
      subst (λ (p : Parts All). moves_left (task_of next.state next.remaining) < moves_left (task_of p.state p.remaining)) at (falls law here (view_of next.state next.remaining) (made next x) steps (ap (made next) is))

  pub observed-way-stops : StopsAreSound → IsTask first.task → (stop : MadeStop All) → step-in.Stops stop ≡ made next x →
      IsObserved first j probe (record { stop = stop; probe = after.probe; events = after.events; fault = after.fault; child_fault = after.child_fault })
  observed-way-stops law known stop is = observed-stop first j probe here observation after leads-here same law known stop (made next x) steps (sym is)
