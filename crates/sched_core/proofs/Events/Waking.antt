-- A look, by what the code does of it: the task is stalled no more, and becomes current with its children's answers or goes to the end of the stalled tasks.
use Rattle.std.proofs.Common.{◌≡◌, ℕ, true, List, Some, None, slice_get, slice_set, remove, map, sym, ap, ◌∙◌, subst}
use Rattle.sched_meaning.specs.Simulation.{is_free}
use Rattle.sched_meaning.specs.declared.event.CoreEvent.TheVariants.{Look}
use Rattle.sched_meaning.proofs.OneCore.OneStep.{some-one}
use Rattle.strand_machine.specs.Stops.{IsResumedWith}
use Rattle.sched_core.specs.Cores.{worker_of}
use Rattle.sched_core.specs.Moves.{CanResume, TakesStalled, Resumes, Stalls, SetsCurrent, WorkerChanges}
use Rattle.sched_core.specs.Nodes.{answers_in, without_children}
use Rattle.sched_core.specs.Consistent.{StepsTo, IsConsistent}
use Rattle.sched_core.specs.Workers.{WorkerView}
use Rattle.sched_core.specs.declared.job.Job.{Job}
use Rattle.sched_core.specs.declared.node.SpawnNode.{SpawnNode}
use Rattle.sched_core.specs.declared.state.CoreState.{CoreState}
use Rattle.sched_core.proofs.Events.Passing.{pass-goes}
use Rattle.sched_core.proofs.Events.Resuming.{is-stalled, resume-goes, tags-right, whole}
use Rattle.sched_core.proofs.Events.Taking.{Both, Keeps, both}

module _ (s : CoreState) (t : IsConsistent s) (w place : ℕ) (j : Job) (mid : List WorkerView) (leaves : WorkerChanges w (TakesStalled place j) s.workers.items mid) where
  module _ (node : SpawnNode) (found : slice_get s.nodes.items j.number ≡ Some node) where
    pub can-resume : node.unanswered ≡ 0 → CanResume s.nodes.items j
    can-resume zero_left = record {
      node = node;
      there = found;
      answered = whole s t w place leaves.worker leaves.there j leaves.does.0 node found zero_left;
      waits = (is-stalled s t w place leaves.worker leaves.there j leaves.does.0).1;
      tags = tags-right s t w place leaves.worker leaves.there j leaves.does.0 node found zero_left;
    }

    module _ (none : s.root ≡ None) (free : is_free (slice_get (map worker_of s.workers.items) w) ≡ true) (next : CoreState) where
      pub passes-on : (node.unanswered ≡ 0 → ⊥) → WorkerChanges w (Stalls j) mid next.workers.items → Keeps s next → StepsTo (Look w place) s next
      passes-on some stalls keeps = pass-goes s next t none keeps w place j (both w (TakesStalled place j) (Stalls j) s.workers.items mid next.workers.items leaves stalls) free node found some

      pub wakes : node.unanswered ≡ 0 → (next_job : Job) → Resumes j next_job s.nodes.items next.nodes.items → WorkerChanges w (SetsCurrent next_job) mid next.workers.items →
          next.plan ≡ s.plan → next.given ≡ s.given → next.root ≡ s.root → next.runs ≡ s.runs → StepsTo (Look w place) s next
      wakes zero_left next_job r takes plan given root runs =
          resume-goes s next t none w place b.worker b.there free j b.first.0 node found zero_left next_job is_resumed r.takes.number (record {
            workers = b.next_is ∙ ap (slice_set s.workers.items w) after-is;
            nodes = r.after_is ∙ ap (λ (n : SpawnNode). slice_set s.nodes.items j.number (without_children n)) same;
            plan = plan;
            given = given;
            root = root;
            runs = runs;
          })
        where
          b : Both w (TakesStalled place j) (SetsCurrent next_job) s.workers.items next.workers.items
          b = both w (TakesStalled place j) (SetsCurrent next_job) s.workers.items mid next.workers.items leaves takes

          same : r.node ≡ node
          same = some-one r.node node (sym r.there ∙ found)

          is_resumed : IsResumedWith (answers_in node.children) j.task next_job.task
          is_resumed = subst (λ (n : SpawnNode). IsResumedWith (answers_in n.children) j.task next_job.task) same r.takes.task

          after-is : b.after ≡ record b.worker { current = Some next_job; stalled = remove b.worker.stalled place }
          after-is = b.second ∙ ap (λ (v : WorkerView). record v { current = Some next_job }) b.first.1
