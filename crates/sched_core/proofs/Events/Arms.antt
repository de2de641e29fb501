-- Each kind of stop is handled.
use Rattle.std.proofs.Common.{◌≡◌, ℕ, ◌<◌, Result, OnOk, length, slice_index_or, slice_set, sym, subst}
use Rattle.serial_meaning.specs.declared.keep.All.{All}
use Rattle.strand_machine.specs.declared.stop.Stop.{Stop}
use Rattle.sched_core.specs.Moves.{Stalls, StallsTask, StopsAt, WorkerChanges}
use Rattle.sched_core.specs.Workers.{WorkerView}
use Rattle.sched_core.specs.declared.job.Job.{Job}
use Rattle.sched_core.specs.declared.state.CoreState.{CoreState}
use Rattle.sched_core.proofs.Worked.Placing.{change-at}

pub by-kind : {T E : Type 0} (r : Result T E) (w number : ℕ) (stop kind : Stop All) (s next : CoreState) → stop ≡ kind → OnOk r (StopsAt w number kind s next) → OnOk r (StopsAt w number stop s next)
by-kind r w number stop kind s next e h = subst (λ (k : Stop All). OnOk r (StopsAt w number k s next)) (sym e) h

-- the rest of the task goes to the end of its worker's stalled tasks
pub stalls-at : (w : ℕ) (rest : Job) (s next : CoreState) (v after : WorkerView) → v ≡ slice_index_or s.workers.items w v → w < length s.workers.items → next.workers.items ≡ slice_set s.workers.items w after →
    next.nodes.items ≡ s.nodes.items → next.plan ≡ s.plan → next.given ≡ s.given → next.root ≡ s.root → next.runs ≡ s.runs → Stalls rest v after → StallsTask w rest s next
stalls-at w rest s next v after at small workers nodes plan given root runs does = record {
  workers = subst (λ ws. WorkerChanges w (Stalls rest) s.workers.items ws) (sym workers) (change-at w (Stalls rest) s.workers.items v after at small does);
  nodes = nodes;
  plan = plan;
  given = given;
  root = root;
  runs = runs;
}
