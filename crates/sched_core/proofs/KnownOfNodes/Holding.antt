-- What holds of every core, by the laws of the machine.
use Rattle.sched_core.specs.Cores.{core_of, plan_of}
use Rattle.sched_core.specs.Sound.{IsSound}
use Rattle.sched_core.specs.Consistent.{StepsTo, HoldsOfCore, IsAnsweredBy, IsConsistent}
use Rattle.sched_core.specs.declared.state.CoreState.{CoreState}
use Rattle.std.proofs.Common.{◌≡◌, Bool, true, false, ◌&&◌, ◌↔◌, Option, Some, None, IfSome, is_none, is_some, refl, sym, ap, ◌∙◌, subst}
use Rattle.std.proofs.lemmas.Bool.{false≢true}
use Rattle.serial_meaning.specs.Answer.{AnswerView}
use Rattle.serial_meaning.specs.Eval.{main_origin}
use Rattle.strand_meaning.specs.Laws.{IsFaultOf}
use Rattle.sched_meaning.specs.Core as machine
use Rattle.sched_meaning.specs.Steps.{Step}
use Rattle.sched_meaning.specs.declared.event.CoreEvent.{CoreEvent}
use Rattle.sched_core.specs.Lawful.{may_happen}
use Rattle.sched_core.specs.Stepped.{IsMains}
use Rattle.sched_core.proofs.Events.Taking.{is-answered, unanswered}
use Rattle.sched_core.proofs.Choices.Unlawful.{unlawful}
use Rattle.sched_meaning.proofs.KeptByEvents.Cores as cores

pub sound-of : (s : CoreState) → IsConsistent s → IsSound (core_of false s)
sound-of s t = record {
  once = cores.begun-once (plan_of s) t.led.workers t.led.events (core_of false s) t.valid t.led.leads;
  placed = cores.stands (plan_of s) t.led.workers t.led.events (core_of false s) t.valid t.led.leads;
  evaluated = cores.answers-are (plan_of s) t.led.workers t.led.events (core_of false s) t.valid t.led.leads;
  within = cores.runs-within (plan_of s) t.led.workers t.led.events (core_of false s) t.valid t.led.leads;
  lively = cores.goes-further (plan_of s) t.led.workers t.led.events (core_of false s) t.valid t.led.leads;
}

pub sound-held : (b : Bool) (s : CoreState) → HoldsOfCore b s → b ≡ false → IsSound (core_of b s)
sound-held true s h e = absurd (cc)
sound-held false s h e = sound-of s h

-- Main's answer

module _ (s : CoreState) (t : IsConsistent s) (a : AnswerView) (root : s.root ≡ Some a) where
  answer_given : IsAnsweredBy (plan_of s) s.given (main_origin (plan_of s)) (Some a)
  answer_given = subst (IsAnsweredBy (plan_of s) s.given (main_origin (plan_of s))) root t.root

  pub root-answered : machine.IsRootAnswered (core_of false s)
  root-answered = is-answered false s (main_origin (plan_of s)) answer_given.there

  pub root-is : IsMains (plan_of s) a
  root-is = record { plan_is = answer_given.plan_is; origin = answer_given.origin; fault = answer_given.known }

-- What isn't allowed has no step

pub not-allowed : (s : CoreState) → IsConsistent s → (e : CoreEvent) → (is_none s.root && may_happen (core_of false s) e) ≡ false → (next : machine.Core) → Step e (core_of false s) next → ⊥
not-allowed s t e not_so next step = by_root s.root refl not_so
  where
    by_root : (o : Option AnswerView) → s.root ≡ o → (is_none o && may_happen (core_of false s) e) ≡ false → ⊥
    by_root None h f = unlawful e (core_of false s) next f step.happens
    by_root (Some a) h f = step.unanswered (root-answered s t a h)

pub root-open : (o : Option AnswerView) (b : Bool) → (is_none o && b) ≡ true → o ≡ None
root-open None b h = refl
root-open (Some a) b h = absurd (cc)

pub may-go : (o : Option AnswerView) (b : Bool) → (is_none o && b) ≡ true → b ≡ true
may-go None b h = h
may-go (Some a) b h = absurd (cc)

-- A core that isn't spent, by its fields

pub not-spent : (b : Bool) (s : CoreState) (c : machine.Core) → core_of b s ≡ c → c.spent ≡ false → b ≡ false
not-spent b s c view spent = ap (λ (d : machine.Core). d.spent) view ∙ spent

pub consistent-open : (b : Bool) (s : CoreState) → HoldsOfCore b s → b ≡ false → IsConsistent s
consistent-open true s h e = absurd (false≢true (sym e))
consistent-open false s h e = h

pub open-is : (b : Bool) (s : CoreState) (c : machine.Core) → core_of b s ≡ c → b ≡ false → core_of false s ≡ c
open-is b s c view e = ap (λ x. core_of x s) (sym e) ∙ view

none-consistent : (s : CoreState) → IsConsistent s → (o : Option AnswerView) → s.root ≡ o → (is_some o ≡ false) ↔ (machine.IsRootAnswered (core_of false s) → ⊥)
none-consistent s t None root = (λ h. unanswered s t root, λ h. refl)
none-consistent s t (Some a) root = (λ h. absurd (false≢true (sym h)), λ h. absurd (h (root-answered s t a root)))

module _ (b : Bool) (s : CoreState) (c : machine.Core) (view : core_of b s ≡ c) (holds : HoldsOfCore b s) (spent : c.spent ≡ false) where
  consistent : IsConsistent s
  consistent = consistent-open b s holds (not-spent b s c view spent)

  same : core_of false s ≡ c
  same = open-is b s c view (not-spent b s c view spent)

  -- there is no answer exactly while the root isn't answered
  pub answer-none : (r : Bool) → r ≡ is_some s.root → (r ≡ false) ↔ (machine.IsRootAnswered c → ⊥)
  answer-none r is = subst (λ (d : machine.Core). (r ≡ false) ↔ (machine.IsRootAnswered d → ⊥)) same (subst (λ (x : Bool). (x ≡ false) ↔ (machine.IsRootAnswered (core_of false s) → ⊥)) (sym is) (none-consistent s consistent s.root refl))

  pub answer-fault : (o : Option AnswerView) → o ≡ s.root → IfSome o (λ a. IsFaultOf c.plan a.outcome)
  answer-fault None is = tt
  answer-fault (Some a) is = subst (λ (d : machine.Core). IsFaultOf d.plan a.outcome) same (root-is s consistent a (sym is)).fault

-- A step of a core, by what its fields do

module _ (b : Bool) (s : CoreState) (c : machine.Core) (view : core_of b s ≡ c) (holds : HoldsOfCore b s) (open_yet : b ≡ false) (e : CoreEvent) where
  pub has-none : false ≡ (is_none s.root && may_happen (core_of false s) e) → (next : machine.Core) → Step e c next → ⊥
  has-none not_so next step = not-allowed s (consistent-open b s holds open_yet) e (sym not_so) next (subst (λ (d : machine.Core). Step e d next) (sym (open-is b s c view open_yet)) step)

  pub is-made : (next : CoreState) → StepsTo e s next → Step e c (core_of false next)
  is-made next goes = subst (λ (d : machine.Core). Step e d (core_of false next)) (open-is b s c view open_yet) goes.step
