-- An event that isn't lawful has no step.
use Rattle.std.proofs.Common.{◌≡◌, ℕ, Bool, true, false, ◌&&◌, not, nat_eq, nat_lt, inl, inr, List, [], ◌∷◌, ◌++◌, Some, None, is_some, length, slice_get, refl, sym, ap, ◌∙◌}
use Rattle.std.proofs.lemmas.Bool.Decides.{Decides-eqb, Decides-ltb}
use Rattle.std.proofs.lemmas.Option.{slice_get_within}
use Rattle.strand_meaning.specs.Task.{Task}
use Rattle.sched_meaning.specs.Core.{Worker, Core}
use Rattle.sched_meaning.specs.Simulation.{has_task, is_free, has_ready, may_run}
use Rattle.sched_meaning.specs.Steps.{Happens, WorkerGives, Changes}
use Rattle.sched_meaning.specs.Steps as steps
use Rattle.sched_meaning.specs.declared.event.CoreEvent.{CoreEvent}
use Rattle.sched_meaning.specs.declared.event.CoreEvent.TheVariants.{Run, Pop, Steal, Look, Idle}
use Rattle.sched_core.specs.Lawful.{has_stalled, may_happen, may_idle}
use Rattle.sched_core.proofs.Worked.Lists.{get-other}

true-both : (a b : Bool) → a ≡ true → b ≡ true → (a && b) ≡ true
true-both a b g h = ap (λ x. x && b) g ∙ h

has-task : (ts : List Task) (t : Task) → has_task (ts ++ t ∷ []) ≡ true
has-task [] t = refl
has-task (u ∷ ts) t = refl

not-same : (n m : ℕ) → (n ≡ m → ⊥) → not (nat_eq n m) ≡ true
not-same n m h = by_test (nat_eq n m) refl
  where
    by_test : (b : Bool) → nat_eq n m ≡ b → not b ≡ true
    by_test true e = absurd (h ((Decides-eqb n m).0 e))
    by_test false e = refl

get-below : {A : Type 0} (xs : List A) (n : ℕ) (x : A) → slice_get xs n ≡ Some x → nat_lt n (length xs) ≡ true
get-below xs n x h = (Decides-ltb n (length xs)).1 (slice_get_within xs n x h)

look-may : (w place : ℕ) (c : Core) (o : Worker) (t : Task) → slice_get c.workers w ≡ Some o → o.current ≡ None → slice_get o.stalled place ≡ Some t → may_happen c (Look w place) ≡ true
look-may w place c o t there free at =
    true-both (is_free (slice_get c.workers w)) (has_stalled place (slice_get c.workers w)) (ap is_free there ∙ ap (λ x. not (is_some x)) free)
    (ap (has_stalled place) there ∙ get-below o.stalled place t at)

steal-may : (thief victim : ℕ) (c next : Core) → steps.Steals thief victim c next → may_happen c (Steal thief victim) ≡ true
steal-may thief victim c next s =
    true-both (not (nat_eq thief victim)) (is_free (slice_get c.workers thief) && has_ready (slice_get c.workers victim)) (not-same thief victim s.two)
    (true-both (is_free (slice_get c.workers thief)) (has_ready (slice_get c.workers victim)) (ap is_free there ∙ ap (λ o. not (is_some o)) s.takes.does.free) (ap has_ready s.gives.there ∙ ap has_task s.gives.does.front))
  where
    there : slice_get c.workers thief ≡ Some s.takes.worker
    there = sym (ap (λ (d : Core). slice_get d.workers thief) s.gives.next_is ∙ get-other c.workers victim thief s.gives.after s.two) ∙ s.takes.there

-- What happens is lawful.
pub may : (e : CoreEvent) (c next : Core) → Happens e c next → may_happen c e ≡ true
may (Run w) c next h = ap may_run h.runs.there ∙ ap is_some h.runs.does.current
may (Pop w) c next h =
    true-both (is_free (slice_get c.workers w)) (has_ready (slice_get c.workers w)) (ap is_free h.pops.there ∙ ap (λ o. not (is_some o)) h.pops.does.free)
    (ap has_ready h.pops.there ∙ ap has_task h.pops.does.back ∙ has-task h.pops.after.deque h.task)
may (Steal thief victim) c next h = steal-may thief victim c next h
may (Look w place) c next (inl h) = look-may w place c h.resumes.worker h.task h.resumes.there h.resumes.does.free h.resumes.does.there
may (Look w place) c next (inr h) = look-may w place c h.passes.worker h.task h.passes.there h.passes.does.free h.passes.does.there
may (Idle w) c next h = ap may_idle h.free

pub unlawful : (e : CoreEvent) (c next : Core) → may_happen c e ≡ false → Happens e c next → ⊥
unlawful e c next f h = let t : may_happen c e ≡ true = may e c next h in absurd (cc)
