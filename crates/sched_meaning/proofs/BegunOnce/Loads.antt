-- What a worker's tasks weigh together, where a stalled task counts as one that went on. No move of a task from one place to another
-- changes it.
use Rattle.std.proofs.Common.{◌≡◌, ℕ, ◌+◌, [], ◌∷◌, ◌++◌, Option, Some, None, remove, ap, ◌∙◌, arith}
use Rattle.strand_meaning.specs.Task.{Task, start, Stop, Spawn, Wait, End}
use Rattle.sched_meaning.specs.Core.{Worker, resumed_task, current_tasks}
use Rattle.sched_meaning.specs.Steps.{after_stop, WorkerPops, WorkerGives, WorkerTakes, WorkerResumes, WorkerPasses}
use Rattle.sched_meaning.proofs.BegunOnce.Changing.{total, total-end, total-remove}

module _ (f : Task → ℕ) where
  abbrev stalled_load : Task → ℕ
  stalled_load t = f (resumed_task t)

  abbrev pub load : Worker → ℕ
  load w = total f (current_tasks w.current) + (total f w.deque + total stalled_load w.stalled)

  -- what a stop leaves
  abbrev pub stop_load : Stop → ℕ
  stop_load (Spawn child rest) = f (start rest.plan child) + f rest
  stop_load (Wait rest) = f (resumed_task rest)
  stop_load (End out ended) = 0

  current-is : (o : Option Task) (t : Task) → o ≡ Some t → total f (current_tasks o) ≡ f t
  current-is o t h = let e : total f (current_tasks o) ≡ f t + 0 = ap (λ x. total f (current_tasks x)) h in omega arith

  current-none : (o : Option Task) → o ≡ None → total f (current_tasks o) ≡ 0
  current-none o h = ap (λ x. total f (current_tasks x)) h

  pub load-stop : (w : Worker) (t : Task) (stop : Stop) → w.current ≡ Some t → load (after_stop stop w) + f t ≡ load w + stop_load stop
  load-stop w t (Spawn child rest) h =
      let e : total f (current_tasks w.current) ≡ f t = current-is w.current t h in
      let d : total f (w.deque ++ rest ∷ []) ≡ total f w.deque + f rest = total-end f w.deque rest in omega arith
  load-stop w t (Wait rest) h =
      let e : total f (current_tasks w.current) ≡ f t = current-is w.current t h in
      let d : total stalled_load (w.stalled ++ rest ∷ []) ≡ total stalled_load w.stalled + f (resumed_task rest) = total-end stalled_load w.stalled rest in omega arith
  load-stop w t (End out ended) h = let e : total f (current_tasks w.current) ≡ f t = current-is w.current t h in omega arith

  pub load-pops : (t : Task) (w next : Worker) → WorkerPops t w next → load next ≡ load w
  load-pops t w next p =
      let c : total f (current_tasks next.current) ≡ f t = current-is next.current t p.current in
      let n : total f (current_tasks w.current) ≡ 0 = current-none w.current p.free in
      let d : total f w.deque ≡ total f next.deque + f t = ap (λ l. total f l) p.back ∙ total-end f next.deque t in
      let r : total stalled_load next.stalled ≡ total stalled_load w.stalled = ap (λ l. total stalled_load l) p.stalled in omega arith

  pub load-gives : (t : Task) (w next : Worker) → WorkerGives t w next → load next + f t ≡ load w
  load-gives t w next p =
      let c : total f (current_tasks next.current) ≡ total f (current_tasks w.current) = ap (λ o. total f (current_tasks o)) p.current in
      let d : total f w.deque ≡ f t + total f next.deque = ap (λ l. total f l) p.front in
      let r : total stalled_load next.stalled ≡ total stalled_load w.stalled = ap (λ l. total stalled_load l) p.stalled in omega arith

  pub load-takes : (t : Task) (w next : Worker) → WorkerTakes t w next → load next ≡ load w + f t
  load-takes t w next p =
      let n : total f (current_tasks w.current) ≡ 0 = current-none w.current p.free in
      let e : load next ≡ load (record w { current = Some t }) = ap (λ (v : Worker). load v) p.after in omega arith

  pub load-resumes : (k : ℕ) (t : Task) (w next : Worker) → WorkerResumes k t w next → load next ≡ load w
  load-resumes k t w next p =
      let n : total f (current_tasks w.current) ≡ 0 = current-none w.current p.free in
      let r : total stalled_load (remove w.stalled k) + f (resumed_task t) ≡ total stalled_load w.stalled = total-remove stalled_load w.stalled k t p.there in
      let e : load next ≡ load (record w { current = Some (resumed_task t); stalled = remove w.stalled k }) = ap (λ (v : Worker). load v) p.after in omega arith

  pub load-passes : (k : ℕ) (t : Task) (w next : Worker) → WorkerPasses k t w next → load next ≡ load w
  load-passes k t w next p =
      let r : total stalled_load (remove w.stalled k) + f (resumed_task t) ≡ total stalled_load w.stalled = total-remove stalled_load w.stalled k t p.there in
      let d : total stalled_load (remove w.stalled k ++ t ∷ []) ≡ total stalled_load (remove w.stalled k) + f (resumed_task t) = total-end stalled_load (remove w.stalled k) t in
      let e : load next ≡ load (record w { stalled = remove w.stalled k ++ t ∷ [] }) = ap (λ (v : Worker). load v) p.after in omega arith
