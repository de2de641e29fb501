-- What is left of the work falls with each event that goes on with it: twice the segments left, and the workers without a current task.
use Rattle.std.proofs.Common.{◌≡◌, ℕ, ◌+◌, ◌<◌, ◌≤◌, inl, inr, [], Option, Some, None, refl, ap, ◌∙◌, arith}
use Rattle.serial_meaning.specs.Plan.{PlanView}
use Rattle.strand_meaning.specs.Task.{Task, Stop, Spawn, Wait, End}
use Rattle.sched_meaning.specs.Core.{Worker, Core}
use Rattle.sched_meaning.specs.Sound.{MakesProgress}
use Rattle.sched_meaning.specs.Steps.{after_stop, WorkerRuns, WorkerPops, WorkerGives, WorkerTakes, WorkerResumes, Changes, recorded, Happens, Step}
use Rattle.sched_meaning.specs.Steps as steps
use Rattle.sched_meaning.specs.declared.event.CoreEvent.{CoreEvent}
use Rattle.sched_meaning.specs.declared.event.CoreEvent.TheVariants.{Run, Pop, Steal, Look, Idle}
use Rattle.sched_meaning.proofs.Segments.Weights.{stop_weight, weight-stop}
use Rattle.sched_meaning.proofs.Segments.Counted.{nothing, segments}
use Rattle.sched_meaning.proofs.BegunOnce.Changing.{total, total-set, each-get}
use Rattle.sched_meaning.proofs.BegunOnce.Loads.{load, stop_load, load-stop, load-pops, load-gives, load-takes, load-resumes}
use Rattle.sched_meaning.proofs.KeptByEvents.Good.{IsRunning, IsGood, current-good}
use Rattle.sched_meaning.proofs.KeptByEvents.Kept.{IsKept}
use Rattle.sched_meaning.proofs.OneCore.OneStep.{not-both}

abbrev pub none_current : Option Task → ℕ
none_current None = 1
none_current (Some t) = 0

abbrev pub idles : Worker → ℕ
idles w = none_current w.current

abbrev pub work_left : Core → ℕ
work_left c = total (load segments) c.workers + total (load segments) c.workers + total idles c.workers

-- one worker changes: what it has, and whether it has a current task
module _ (n : ℕ) (R : Worker → Worker → Type 0) (c next : Core) (p : Changes n R c next) where
  changed-sum : (f : Worker → ℕ) → total f next.workers + f p.worker ≡ total f c.workers + f p.after
  changed-sum f = ap (λ (d : Core). total f d.workers + f p.worker) p.next_is ∙ total-set f c.workers n p.worker p.after p.there

taken-falls : (n : ℕ) (R : Worker → Worker → Type 0) (c next : Core) (p : Changes n R c next) → load segments p.after ≡ load segments p.worker → idles p.after ≡ 0 → idles p.worker ≡ 1 → work_left next < work_left c
taken-falls n R c next p same now before =
    let a : total (load segments) next.workers + load segments p.worker ≡ total (load segments) c.workers + load segments p.after = changed-sum n R c next p (load segments) in
    let b : total idles next.workers + idles p.worker ≡ total idles c.workers + idles p.after = changed-sum n R c next p idles in omega arith

pops-fall : (w : ℕ) (c next : Core) → steps.Pops w c next → work_left next < work_left c
pops-fall w c next s =
    taken-falls w _ c next s.pops (load-pops segments s.task s.pops.worker s.pops.after s.pops.does) (ap none_current s.pops.does.current) (ap none_current s.pops.does.free)

resumes-fall : (w k : ℕ) (c next : Core) → steps.Resumes w k c next → work_left next < work_left c
resumes-fall w k c next s =
    taken-falls w _ c next s.resumes (load-resumes segments k s.task s.resumes.worker s.resumes.after s.resumes.does) (ap (λ (v : Worker). idles v) s.resumes.does.after) (ap none_current s.resumes.does.free)

steals-fall : (thief victim : ℕ) (c next : Core) → steps.Steals thief victim c next → work_left next < work_left c
steals-fall thief victim c next s =
    let a : total (load segments) s.without.workers + load segments s.gives.worker ≡ total (load segments) c.workers + load segments s.gives.after = changed-sum victim _ c s.without s.gives (load segments) in
    let b : total idles s.without.workers + idles s.gives.worker ≡ total idles c.workers + idles s.gives.after = changed-sum victim _ c s.without s.gives idles in
    let d : total (load segments) next.workers + load segments s.takes.worker ≡ total (load segments) s.without.workers + load segments s.takes.after = changed-sum thief _ s.without next s.takes (load segments) in
    let e : total idles next.workers + idles s.takes.worker ≡ total idles s.without.workers + idles s.takes.after = changed-sum thief _ s.without next s.takes idles in
    let g : load segments s.gives.after + segments s.task ≡ load segments s.gives.worker = load-gives segments s.task s.gives.worker s.gives.after s.gives.does in
    let t : load segments s.takes.after ≡ load segments s.takes.worker + segments s.task = load-takes segments s.task s.takes.worker s.takes.after s.takes.does in
    let i : idles s.gives.after ≡ idles s.gives.worker = ap none_current s.gives.does.current in
    let j : idles s.takes.worker ≡ 1 = ap none_current s.takes.does.free in
    let k : idles s.takes.after ≡ 0 = ap (λ (v : Worker). idles v) s.takes.does.after in omega arith

stop-one : (stop : Stop) → stop_weight 1 nothing stop ≡ 1 + stop_load segments stop
stop-one (Spawn child rest) = omega arith
stop-one (Wait rest) = refl
stop-one (End out ended) = refl

recorded-workers : (t : Task) (stop : Stop) (c : Core) → (recorded t stop c).workers ≡ c.workers
recorded-workers t (Spawn child rest) c = refl
recorded-workers t (Wait rest) c = refl
recorded-workers t (End out ended) c = refl

none-at-most : (o : Option Task) → none_current o ≤ 1
none-at-most None = omega arith
none-at-most (Some t) = omega arith

runs-fall : (plan : PlanView) (w : ℕ) (c next : Core) → IsKept plan [] c → steps.ReachesStop w c next → work_left next < work_left c
runs-fall plan w c next is s =
    let p = s.runs in
    let g : IsRunning plan c.begun s.task = current-good plan c.begun p.worker s.task (each-get (IsGood plan c.begun) c.workers w p.worker p.there is.workers) p.does.current in
    let e : segments s.task ≡ stop_weight 1 nothing s.stop = weight-stop 1 nothing s.task s.stop g.0.task g.1 p.does.comes in
    let f : stop_weight 1 nothing s.stop ≡ 1 + stop_load segments s.stop = stop-one s.stop in
    let l : load segments (after_stop s.stop p.worker) + segments s.task ≡ load segments p.worker + stop_load segments s.stop = load-stop segments p.worker s.task s.stop p.does.current in
    let m : load segments p.after ≡ load segments (after_stop s.stop p.worker) = ap (λ (v : Worker). load segments v) p.does.after in
    let a : total (load segments) s.moved.workers + load segments p.worker ≡ total (load segments) c.workers + load segments p.after = changed-sum w _ c s.moved p (load segments) in
    let b : total idles s.moved.workers + idles p.worker ≡ total idles c.workers + idles p.after = changed-sum w _ c s.moved p idles in
    let i : idles p.after ≤ 1 = none-at-most p.after.current in
    let ws : next.workers ≡ s.moved.workers = ap (λ (d : Core). d.workers) s.next_is ∙ recorded-workers s.task s.stop s.moved in
    let x : total (load segments) next.workers ≡ total (load segments) s.moved.workers = ap (λ l. total (load segments) l) ws in
    let y : total idles next.workers ≡ total idles s.moved.workers = ap (λ l. total idles l) ws in omega arith

fruitful-falls : (plan : PlanView) (e : CoreEvent) (c next : Core) → IsKept plan [] c → Happens e c next → MakesProgress e c → work_left next < work_left c
fruitful-falls plan (Run w) c next is h f = runs-fall plan w c next is h
fruitful-falls plan (Pop w) c next is h f = pops-fall w c next h
fruitful-falls plan (Steal thief victim) c next is h f = steals-fall thief victim c next h
fruitful-falls plan (Look w k) c next is (inl h) f = resumes-fall w k c next h
fruitful-falls plan (Look w k) c next is (inr h) f = absurd (not-both w k c f.0 next f.1 h)
fruitful-falls plan (Idle w) c next is h f = absurd f

-- Each event that goes on with the work leaves less of it.
pub work_falls : (plan : PlanView) (e : CoreEvent) (c next : Core) → IsKept plan [] c → Step e c next → MakesProgress e c → work_left next < work_left c
work_falls plan e c next is s f = fruitful-falls plan e c next is s.happens f
