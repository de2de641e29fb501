use Rattle.std.proofs.Common.{◌≡◌, ◌≤◌, ◌++◌, ◌∷◌, [], ap, ◌∙◌, arith}
use Rattle.sched_core.specs.Begun.{first_workers}
use Rattle.sched_core.specs.Workers.{WorkerView}
use Rattle.sched_core.proofs.KnownOfNodes.Beginning.{first_workers-more}
use Rattle.sched_core.proofs.new_state.first_workers.Goals as goal

pub loop-i-preserved : goal.loop-i-preserved
loop-i-preserved c =
    let some : 1 ≤ c.loop-i._i = omega arith in
    c.in_ok-push-2.ensures.items ∙ ap (λ l. l ++ c.new-in-loop-i.result ∷ []) c.loop-i.invariant ∙ ap (λ (w : WorkerView). first_workers c.args.main c.loop-i._i ++ w ∷ []) c.new-in-loop-i.ensures
    ∙ first_workers-more c.args.main c.loop-i._i some

pub returns : goal.returns
returns c =
    let end : c.loop-i._i ≡ c.args.workers = let t = c.loop-i-test.false in let some : 1 ≤ c.args.workers = c.requires in omega (arith, t, some) in
    c.loop-i.invariant ∙ ap (first_workers c.args.main) end
