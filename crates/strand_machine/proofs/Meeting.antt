-- The fault of its instance's own that a task meets on its way.
use Rattle.std.proofs.Common.{◌≡◌, ◌<◌, Option, Some, None, refl, sym, ap, ◌∙◌, subst}
use Rattle.serial_meaning.specs.declared.keep.All.{All}
use Rattle.strand_meaning.specs.Laws.{MovesFall, StopsAreSound}
use Rattle.strand_meaning.specs.Left.{moves_left}
use Rattle.strand_meaning.specs.Sound.{IsTask}
use Rattle.strand_meaning.specs.Task.{Stop}
use Rattle.strand_machine.specs.Made.{IsSoundMade, LeadsTo, made}
use Rattle.strand_machine.specs.Placed.{IsPlaced, Later, Meets, Now, latest, step_meets}
use Rattle.strand_machine.specs.Stops.{IsStep, stop_of}
use Rattle.strand_machine.specs.Tasks.{HoldsOfTask, IsSound, TaskView, task_of, view_of}
use Rattle.strand_machine.specs.declared.parts.Parts.{Parts}
use Rattle.strand_machine.specs.declared.placed.PlacedFault.{PlacedFault}
use Rattle.strand_machine.specs.MoveOrStop.{MoveOrStop as MadeStep}
use Rattle.strand_machine.specs.MoveOrStop as step-in
use Rattle.strand_machine.specs.declared.stop.Passed.{Passed}
use Rattle.strand_machine.specs.declared.stop.Passed.TheVariants as passed
use Rattle.strand_machine.specs.declared.stop.Stop.{Stop as MadeStop}
use Rattle.strand_machine.proofs.NextStops.Advancing.{falls, is-sound, leads-start, leads-on, stops-there}

pub latest-none : (met : Option PlacedFault) → met ≡ latest None met
latest-none None = refl
latest-none (Some f) = refl

pub latest-assoc : (first next later : Option PlacedFault) → latest first (latest next later) ≡ latest (latest first next) later
latest-assoc first next None = refl
latest-assoc first next (Some f) = refl

-- What comes next of a task comes next of the first one, after this fault.
pub record LeadsMeeting (first now : TaskView) (met : Option PlacedFault) : Type 0 where
  pub leads : LeadsTo first now
  pub meets : (later : Option PlacedFault) (stop : Stop) → Meets now.task later stop → Meets first.task (latest met later) stop

pub meeting-start : (t : TaskView) → t.cut ≡ None → LeadsMeeting t t None
meeting-start t goes = record { leads = leads-start t goes; meets = λ later stop m. subst (λ (n : Option PlacedFault). Meets t.task n stop) (latest-none later) m }

module _ (first now : TaskView) (met after : Option PlacedFault) (h : LeadsMeeting first now met) (same : after ≡ latest met (step_meets now.task)) where
  pub meeting-on : MovesFall → (next : TaskView) (s : MadeStep All) → IsStep now s → s ≡ step-in.Passes next → LeadsMeeting first next after
  meeting-on law next s g e =
      let k : IsStep {K = All} now (step-in.Passes next) = subst (IsStep now) e g in
      record {
        leads = leads-on law first now next s h.leads g e;
        meets = λ later stop m.
            subst (λ (n : Option PlacedFault). Meets first.task n stop) (latest-assoc met (step_meets now.task) later ∙ ap (λ (n : Option PlacedFault). latest n later) (sym same))
            (h.meets (latest (step_meets now.task) later) stop (Later next.task later k.is m refl));
      }

  pub meeting-stop : StopsAreSound → IsTask first.task → (stop : MadeStop All) (s : MadeStep All) → IsStep now s → s ≡ step-in.Stops stop → IsPlaced first (record { stop = stop; met = after })
  meeting-stop sounds sound stop s g e =
      let k : IsStep now (step-in.Stops stop) = subst (IsStep now) e g in
      record {
        stop = stops-there sounds first now s stop sound h.leads g e;
        meets = subst (λ (n : Option PlacedFault). Meets first.task n (stop_of stop)) (sym same) (h.meets (step_meets now.task) (stop_of stop) (Now k.is refl));
      }

-- The parts of a task to which moves in a row have led, with the fault that it met on the way.
pub record IsMeetingWay (first : TaskView) (p : Parts All) (met : Option PlacedFault) : Type 0 where
  pub sound : IsSound p.state p.remaining
  pub leads : LeadsMeeting first (view_of p.state p.remaining) met

pub meeting-way : (t : TaskView) (p : Parts All) → view_of p.state p.remaining ≡ t → t.cut ≡ None → HoldsOfTask p.state p.remaining → IsMeetingWay t p None
meeting-way t p same goes holds = record {
  sound = is-sound p.state p.remaining t same goes holds;
  leads = subst (λ (v : TaskView). LeadsMeeting t v None) (sym same) (meeting-start t goes);
}

-- One step further, of the parts `now`, which are those of the way.
module _ (first : TaskView) (old now next : Parts All) (met after : Option PlacedFault) (x : Passed All) (at : now ≡ old) (way : IsMeetingWay first old met)
    (same : after ≡ latest met (step_meets (task_of now.state now.remaining))) (steps : IsStep (view_of now.state now.remaining) (made next x)) (sound : IsSoundMade next x) where
  abbrev here : TaskView
  here = view_of now.state now.remaining

  leads-here : LeadsMeeting first here met
  leads-here = subst (λ (p : Parts All). LeadsMeeting first (view_of p.state p.remaining) met) (sym at) way.leads

  pub meeting-way-on : MovesFall → x ≡ passed.Continues → IsMeetingWay first next after
  meeting-way-on law is = record {
    sound = subst (IsSoundMade next) is sound;
    leads = meeting-on first here met after leads-here same law (view_of next.state next.remaining) (made next x) steps (ap (made next) is);
  }

  pub meeting-way-falls : MovesFall → x ≡ passed.Continues → moves_left (task_of next.state next.remaining) < moves_left (task_of old.state old.remaining)
  meeting-way-falls law is =
      subst (λ (p : Parts All). moves_left (task_of next.state next.remaining) < moves_left (task_of p.state p.remaining)) at (falls law here (view_of next.state next.remaining) (made next x) steps (ap (made next) is))

  pub meeting-way-stops : StopsAreSound → IsTask first.task → (stop : MadeStop All) → step-in.Stops stop ≡ made next x → IsPlaced first (record { stop = stop; met = after })
  meeting-way-stops law known stop is = meeting-stop first here met after leads-here same law known stop (made next x) steps (sym is)
