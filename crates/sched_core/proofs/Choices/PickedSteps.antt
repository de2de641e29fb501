-- Simulations: something is picked, it happens, less is left of the work, and main is answered by a run.
use Rattle.std.proofs.Common.{◌≡◌, ℕ, zero, suc, ◌+◌, ◌<◌, ◌≤◌, ◌%◌, ◌^◌, true, false, List, [], ◌∷◌, Option, Some, None, MatchOption, Contains, length, map, slice_get, sym, ap, ◌∙◌, subst, arith}
use Rattle.dotmix.specs.Words.{split_mix, seed_word}
use Rattle.dotmix.proofs.GammaLemmas.{state_after, state_after_word}
use Rattle.rand_xoshiro.specs.SplitMix64.{mix_u64}
use Rattle.serial_meaning.specs.Answer.{AnswerView}
use Rattle.serial_meaning.specs.Eval.{main_origin}
use Rattle.serial_meaning.specs.Plan.{PlanView}
use Rattle.strand_machine.specs.Links.{detached}
use Rattle.strand_machine.specs.Tasks.{fresh}
use Rattle.sched_meaning.specs.Core as machine
use Rattle.sched_meaning.specs.Simulation.{choices, picked, picked_of, Simulates, IsSimWorker}
use Rattle.sched_meaning.specs.Steps.{Step}
use Rattle.sched_meaning.specs.declared.event.CoreEvent.{CoreEvent}
use Rattle.sched_meaning.specs.declared.event.CoreEvent.TheVariants.{Run}
use Rattle.sched_meaning.proofs.WorkGoesOn.Choosing.{Advances, advances-choose, choices_advance}
use Rattle.sched_meaning.proofs.KeptByEvents.Cores as cores
use Rattle.sched_meaning.proofs.SimulationsEnd.Falling.{work_falls, work_left}
use Rattle.sched_core.specs.Begun.{IsBegun}
use Rattle.sched_core.specs.Cores.{core_of, plan_of, worker_of}
use Rattle.sched_core.specs.Lawful.{may_happen}
use Rattle.sched_core.specs.Stepped.{AnswersMain, Continues, IsMains}
use Rattle.sched_core.specs.Consistent.{StepsTo, IsConsistent}
use Rattle.sched_core.specs.declared.simulation.Simulated.{Simulated}
use Rattle.sched_core.specs.declared.state.CoreState.{CoreState}
use Rattle.sched_core.proofs.KnownOfNodes.Beginning.{core-begun, first_workers-many}
use Rattle.sched_core.proofs.KnownOfNodes.Holding.{root-answered, root-is}
use Rattle.sched_core.proofs.Worked.Lists.{length-map}
use Rattle.sched_core.proofs.KnownOfNodes.Staying.{Stays, happens-stays, no-answer}
use Rattle.sched_core.proofs.Events.Taking.{unanswered}
use Rattle.sched_core.proofs.Choices.Unlawful.{may}

-- What is picked of a list

get-in : (es : List CoreEvent) (k : ℕ) (e : CoreEvent) → slice_get es k ≡ Some e → Contains es e
get-in [] k e h = absurd (cc)
get-in (f ∷ es) zero e h = (0, omega arith, cc)
get-in (f ∷ es) (suc k) e h = let c = get-in es k e h in (suc c.0, omega (arith, c.1), c.2)

picked-in : (es : List CoreEvent) (w : ℕ) (e : CoreEvent) → picked_of es w ≡ Some e → Contains es e
picked-in [] w e h = absurd (cc)
picked-in (f ∷ es) w e h = get-in (f ∷ es) (w % suc (length es)) e h

get-none : (es : List CoreEvent) (k : ℕ) → slice_get es k ≡ None → k < length es → ⊥
get-none [] k h lt = absurd (omega arith)
get-none (f ∷ es) zero h lt = absurd (cc)
get-none (f ∷ es) (suc k) h lt = get-none es k h (omega arith)

below : (w n : ℕ) → w % suc n < suc n
below w n = omega arith

none-picked : (es : List CoreEvent) (w : ℕ) → picked_of es w ≡ None → (e : CoreEvent) → Contains es e → ⊥
none-picked [] w h e k = absurd (omega (arith, k.1))
none-picked (f ∷ es) w h e k = get-none (f ∷ es) (w % suc (length es)) h (below w (length es))

-- One step

module _ (s : CoreState) (t : IsConsistent s) (none : s.root ≡ None) (w : ℕ) where
  -- something is picked
  pub picks-one : picked (core_of false s) w ≡ None → ⊥
  picks-one h =
      let l = cores.goes-further (plan_of s) t.led.workers t.led.events (core_of false s) t.valid t.led.leads (unanswered s t none) in
      none-picked (choices (core_of false s)) w h l.event (advances-choose (core_of false s) l.event (l.next, l.step, l.fruitful))

  module _ (e : CoreEvent) (picks : picked (core_of false s) w ≡ Some e) where
    advances : Advances (core_of false s) e
    advances = choices_advance (core_of false s) e (picked-in (choices (core_of false s)) w e picks)

    pub lawful : may_happen (core_of false s) e ≡ true
    lawful = may e (core_of false s) advances.0 advances.1.happens

    module _ (next : CoreState) (goes : StepsTo e s next) where
      pub falls : work_left (core_of false next) < work_left (core_of false s)
      falls = work_falls (plan_of s) e (core_of false s) (core_of false next) (cores.kept (plan_of s) t.led.workers t.led.events (core_of false s) t.valid t.led.leads) goes.step advances.2

      same : Stays (core_of false s) (core_of false next)
      same = happens-stays e (core_of false s) (core_of false next) goes.step.happens

      pub plan-stays : plan_of next ≡ plan_of s
      plan-stays = same.plan

      pub workers-stay : length next.workers.items ≡ length s.workers.items
      workers-stay = sym (length-map worker_of next.workers.items) ∙ same.workers ∙ length-map worker_of s.workers.items

      module _ (a : AnswerView) (root : next.root ≡ Some a) where
        answered : machine.IsRootAnswered (core_of false next)
        answered = root-answered next goes.consistent a root

        mains : IsMains (plan_of s) a
        mains = subst (λ (p : PlanView). IsMains p a) plan-stays (root-is next goes.consistent a root)

        -- no event but a run answers main
        pub by-run : ((v : ℕ) → e ≡ Run v → ⊥) → ⊥
        by-run never =
            let answers : (core_of false next).answers ≡ (core_of false s).answers = no-answer e (core_of false s) (core_of false next) goes.step.happens never in
            unanswered s t none
            (subst (λ (l : List AnswerView). Contains (map (λ (b : AnswerView). b.origin) l) (main_origin (plan_of s))) answers
            (subst (λ (p : PlanView). Contains (map (λ (b : AnswerView). b.origin) (core_of false next).answers) (main_origin p)) plan-stays answered))

        pub ends : (v : ℕ) → e ≡ Run v → AnswersMain w s (record { answer = a; worker = v })
        ends v run = record {
          next = core_of false next;
          picks = picks ∙ ap (λ (x : CoreEvent). Some x) run;
          step = subst (λ (x : CoreEvent). Step x (core_of false s) (core_of false next)) run goes.step;
          answered = answered;
          mains = mains;
        }

      -- the simulation continues where main's answer, which isn't there, is taken
      pub goes-on : (left : Option AnswerView) → next.root ≡ None → left ≡ None → Continues w s (record next { root = left })
      goes-on left root none_left = record {
        event = e;
        picks = picks;
        goes = subst (λ (r : Option AnswerView). StepsTo e s (record next { root = r })) (root ∙ sym none_left) goes;
        root = none_left;
      }

-- Many steps

word-is : (seed i x s new : ℕ) → (x, new) ≡ mix_u64 s → s ≡ state_after seed i → x ≡ seed_word seed (i + 1)
word-is seed i x s new e h = ap (λ (p : ℕ × ℕ). p.0) e ∙ ap split_mix (sym (ap (λ (p : ℕ × ℕ). p.1) e) ∙ state_after_word seed i x s new e h)

-- So many words of the number led to this state.
pub record AfterWords (plan : PlanView) (workers number words : ℕ) (s : CoreState) : Type 0 where
  pub steps : ℕ
  pub state : words ≡ state_after number steps
  pub so_far : Simulates plan workers number steps (core_of false s)
  pub consistent : IsConsistent s
  pub root : s.root ≡ None
  pub plan_is : plan_of s ≡ plan
  pub few : length s.workers.items ≤ 64

start : (number : ℕ) → number < 2 ^ 64 → number ≡ state_after number 0
start number small = omega arith

pub starts : (plan : PlanView) (workers number words : ℕ) (s : CoreState) → IsBegun plan workers s → IsConsistent s → 1 ≤ workers → workers ≤ 64 → number < 2 ^ 64 → words ≡ number → AfterWords plan workers number words s
starts plan workers number words s b t some few small first = record {
  steps = 0;
  state = first ∙ start number small;
  so_far = core-begun plan workers s b;
  consistent = t;
  root = b.root;
  plan_is = b.plan_is;
  few = let e : length s.workers.items ≡ workers = ap length b.workers_are ∙ first_workers-many (fresh plan (main_origin plan) detached) workers some in omega arith;
}

module _ (plan : PlanView) (workers number words : ℕ) (s : CoreState) (p : AfterWords plan workers number words s) (x after : ℕ) (mixed : (x, after) ≡ mix_u64 words) where
  word-named : x ≡ seed_word number (p.steps + 1)
  word-named = word-is number p.steps x words after mixed p.state

  pub after-next-word : (next : CoreState) → Continues x s next → AfterWords plan workers number after next
  after-next-word next g = record {
    steps = suc p.steps;
    state = let e : p.steps + 1 ≡ suc p.steps = omega arith in state_after_word number p.steps x words after mixed p.state ∙ ap (state_after number) e;
    so_far = (core_of false s, p.so_far, subst (λ (o : Option CoreEvent). MatchOption o (core_of false next ≡ core_of false s) (λ e. Step e (core_of false s) (core_of false next))) (sym named) g.goes.step);
    consistent = g.goes.consistent;
    root = g.root;
    plan_is = plan-stays s p.consistent p.root x g.event g.picks next g.goes ∙ p.plan_is;
    few = let e : length next.workers.items ≡ length s.workers.items = workers-stay s p.consistent p.root x g.event g.picks next g.goes in let f : length s.workers.items ≤ 64 = p.few in omega arith;
  }
    where
      named : picked (core_of false s) (seed_word number (p.steps + 1)) ≡ Some g.event
      named = ap (picked (core_of false s)) (sym word-named) ∙ g.picks

  pub less-left : (next : CoreState) → Continues x s next → work_left (core_of false next) < work_left (core_of false s)
  less-left next g = falls s p.consistent p.root x g.event g.picks next g.goes

  pub worker-is : (simulated : Simulated) → AnswersMain x s simulated → IsSimWorker plan workers number simulated.worker
  worker-is simulated g = record {
    steps = p.steps;
    before = core_of false s;
    after = g.next;
    so_far = p.so_far;
    unanswered = unanswered s p.consistent p.root;
    picks = ap (picked (core_of false s)) (sym word-named) ∙ g.picks;
    step = g.step;
    answers = g.answered;
  }

  pub mains-are : (simulated : Simulated) → AnswersMain x s simulated → IsMains plan simulated.answer
  mains-are simulated g = subst (λ (q : PlanView). IsMains q simulated.answer) p.plan_is g.mains
