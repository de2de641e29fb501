-- What no event changes: the plan, how many workers there are, and but for runs the answers.
use Rattle.std.proofs.Common.{◌≡◌, ℕ, inl, inr, length, refl, sym, ap, ◌∙◌, subst}
use Rattle.strand_meaning.specs.Task.{Task, Stop, Spawn, Wait, End}
use Rattle.sched_meaning.specs.Core.{Core, Worker}
use Rattle.sched_meaning.specs.Steps.{Changes, Happens, recorded}
use Rattle.sched_meaning.specs.declared.event.CoreEvent.{CoreEvent}
use Rattle.sched_meaning.specs.declared.event.CoreEvent.TheVariants.{Run, Pop, Steal, Look, Idle}
use Rattle.sched_core.proofs.Worked.Lists.{length-set}

pub record Stays (c next : Core) : Type 0 where
  pub plan : next.plan ≡ c.plan
  pub workers : length next.workers ≡ length c.workers

module _ (n : ℕ) (R : Worker → Worker → Type 0) (c next : Core) (p : Changes n R c next) where
  changed-stays : Stays c next
  changed-stays = record {
    plan = ap (λ (d : Core). d.plan) p.next_is;
    workers = ap (λ (d : Core). length d.workers) p.next_is ∙ length-set c.workers n p.after;
  }

  changed-answers : next.answers ≡ c.answers
  changed-answers = ap (λ (d : Core). d.answers) p.next_is

both-stay : (a b c : Core) → Stays a b → Stays b c → Stays a c
both-stay a b c p q = record { plan = q.plan ∙ p.plan; workers = q.workers ∙ p.workers }

recorded-stays : (t : Task) (stop : Stop) (c : Core) → Stays c (recorded t stop c)
recorded-stays t (Spawn child rest) c = record { plan = refl; workers = refl }
recorded-stays t (Wait rest) c = record { plan = refl; workers = refl }
recorded-stays t (End out ended) c = record { plan = refl; workers = refl }

pub happens-stays : (e : CoreEvent) (c next : Core) → Happens e c next → Stays c next
happens-stays (Run w) c next h =
    subst (λ (d : Core). Stays c d) (sym h.next_is) (both-stay c h.moved (recorded h.task h.stop h.moved) (changed-stays w _ c h.moved h.runs) (recorded-stays h.task h.stop h.moved))
happens-stays (Pop w) c next h = changed-stays w _ c next h.pops
happens-stays (Steal thief victim) c next h = both-stay c h.without next (changed-stays victim _ c h.without h.gives) (changed-stays thief _ h.without next h.takes)
happens-stays (Look w place) c next (inl h) = changed-stays w _ c next h.resumes
happens-stays (Look w place) c next (inr h) = changed-stays w _ c next h.passes
happens-stays (Idle w) c next h = subst (λ (d : Core). Stays c d) (sym h.next_is) (record { plan = refl; workers = refl })

pub no-answer : (e : CoreEvent) (c next : Core) → Happens e c next → ((w : ℕ) → e ≡ Run w → ⊥) → next.answers ≡ c.answers
no-answer (Run w) c next h never = absurd (never w refl)
no-answer (Pop w) c next h never = changed-answers w _ c next h.pops
no-answer (Steal thief victim) c next h never = changed-answers thief _ h.without next h.takes ∙ changed-answers victim _ c h.without h.gives
no-answer (Look w place) c next (inl h) never = changed-answers w _ c next h.resumes
no-answer (Look w place) c next (inr h) never = changed-answers w _ c next h.passes
no-answer (Idle w) c next h never = ap (λ (d : Core). d.answers) h.next_is
