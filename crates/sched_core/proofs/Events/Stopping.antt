-- A run, by what the code does of it: the task leaves its worker, comes to a stop, and the stop is handled.
use Rattle.std.proofs.Common.{◌≡◌, ℕ, zero, suc, ◌+◌, ◌≤◌, ◌<◌, List, [], ◌∷◌, ◌++◌, Option, Some, None, Contains, slice_get, slice_set, length, refl, sym, ap, ◌∙◌, subst, arith}
use Rattle.std.proofs.lemmas.Option.{slice_get_within}
use Rattle.serial_meaning.specs.Answer.{AnswerView}
use Rattle.serial_meaning.specs.declared.keep.All.{All}
use Rattle.strand_machine.specs.Stops.{Advances, IsStop}
use Rattle.strand_machine.specs.Tasks.{TaskView}
use Rattle.strand_machine.specs.declared.stop.Stop.{Stop}
use Rattle.strand_machine.specs.declared.stop.Stop.TheVariants as stop
use Rattle.sched_meaning.specs.declared.event.CoreEvent.TheVariants.{Run}
use Rattle.sched_meaning.proofs.OneCore.OneStep.{some-one}
use Rattle.sched_core.specs.Cores.{plan_of}
use Rattle.sched_core.specs.Moves.{BeginsTask, CanAnswer, CanStop, SwitchesToChild, TakesCurrent, PutsAnswer, Stalls, StallsTask, StopsAt, WorkerChanges, AnswerGoes, job}
use Rattle.sched_core.specs.Nodes.{awaiting, missing, missing_one, new_node}
use Rattle.sched_core.specs.Consistent.{StepsTo, IsAwaited, IsChild, IsAnsweredBy, IsJob, IsLinked, IsConsistent}
use Rattle.sched_core.specs.Workers.{WorkerView}
use Rattle.sched_core.specs.declared.job.Job.{Job}
use Rattle.sched_core.specs.declared.node.NodeChild.{NodeChild}
use Rattle.sched_core.specs.declared.node.Link.{Link}
use Rattle.sched_core.specs.declared.node.SpawnNode.{SpawnNode}
use Rattle.sched_core.specs.declared.state.CoreState.{CoreState}
use Rattle.sched_core.proofs.Events.Ending.{HasEnded, child-goes, root-goes}
use Rattle.sched_core.proofs.Events.Spawning.{spawn-goes}
use Rattle.sched_core.proofs.Worked.Lists.{length-set}
use Rattle.sched_core.proofs.Events.Running.{own-fresh, own-job, wait-goes}
use Rattle.sched_core.proofs.Events.Taking.{Both, Keeps, both}

-- What a stop needs

missing-few : (cs : List NodeChild) → missing cs ≤ length cs
missing-few [] = omega arith
missing-few (c ∷ cs) = let l : missing cs ≤ length cs = missing-few cs in let m : missing_one c.answer ≤ 1 = one c.answer in omega arith
  where
    one : (o : Option AnswerView) → missing_one o ≤ 1
    one None = omega arith
    one (Some a) = omega arith

missing-at : (cs : List NodeChild) (k : ℕ) (c : NodeChild) → slice_get cs k ≡ Some c → missing_one c.answer ≤ missing cs
missing-at [] k c h = absurd (cc)
missing-at (d ∷ cs) zero c h = let e : missing_one d.answer ≡ missing_one c.answer = ap (λ (x : NodeChild). missing_one x.answer) (some-one d c h) in omega arith
missing-at (d ∷ cs) (suc k) c h = let e : missing_one c.answer ≤ missing cs = missing-at cs k c h in omega arith

module _ (s mid : CoreState) (t : IsConsistent s) (w : ℕ) (j : Job) (lets : WorkerChanges w (TakesCurrent j) s.workers.items mid.workers.items) (keeps : Keeps s mid) where
  abbrev own : IsJob s.nodes.items j
  own = own-job s t w lets.worker lets.there j lets.does.0

  fresh : Contains s.given own.node.origin → ⊥
  fresh g = own-fresh s t w lets.worker lets.there j lets.does.0 (subst (Contains s.given) own.origin g)

  not-answered : (l : Link) → IsAwaited s.nodes.items j.number l → CanAnswer s.nodes.items (Some l)
  not-answered l a = record { parent = a.parent; there = a.there; place = slice_get_within a.parent.children l.place a.child a.at; unanswered = some-left }
    where
      its : IsChild (plan_of s) s.given s.nodes.items l.parent l.place a.child
      its = (t.nodes l.parent a.parent a.there).children l.place a.child a.at

      same : its.node ≡ own.node
      same = some-one its.node own.node (sym its.there ∙ ap (λ n. slice_get s.nodes.items n) a.number ∙ own.there)

      none : (o : Option AnswerView) → IsAnsweredBy (plan_of s) s.given own.node.origin o → missing_one o ≡ 1
      none None h = refl
      none (Some x) h = absurd (fresh h.there)

      some-left : 0 < a.parent.unanswered
      some-left =
          let u : a.parent.unanswered ≡ missing a.parent.children = (t.nodes l.parent a.parent a.there).unanswered in
          let m : missing_one a.child.answer ≤ missing a.parent.children = missing-at a.parent.children l.place a.child a.at in
          let o : missing_one a.child.answer ≡ 1 = none a.child.answer (subst (λ (n : SpawnNode). IsAnsweredBy (plan_of s) s.given n.origin a.child.answer) same its.answer_given) in omega arith

  can-answer : (o : Option Link) → IsLinked s.nodes.items j.number o → CanAnswer s.nodes.items o
  can-answer None h = tt
  can-answer (Some l) h = not-answered l h

  pub can-stop : CanStop w j.number mid
  can-stop = record {
    worker = let l : length mid.workers.items ≡ length s.workers.items = ap length lets.next_is ∙ length-set s.workers.items w lets.after in let k : w < length s.workers.items = slice_get_within s.workers.items w lets.worker lets.there in omega arith;
    node = own.node;
    there = ap (λ ns. slice_get ns j.number) keeps.nodes ∙ own.there;
    within = let u : own.node.unanswered ≡ missing own.node.children = (t.nodes j.number own.node own.there).unanswered in let m : missing own.node.children ≤ length own.node.children = missing-few own.node.children in omega arith;
    parent_awaits = subst (λ ns. CanAnswer ns own.node.link) (sym keeps.nodes) (can-answer own.node.link ((t.nodes j.number own.node own.there).link fresh));
  }

  stops-so : (to : Stop All) → Advances j.task to → IsStop j.task to
  stops-so to a = a.goes_on own.uncut

  -- The stop

  module _ (none : s.root ≡ None) (after next : CoreState) (workers : next.workers.items ≡ after.workers.items) (nodes : next.nodes.items ≡ after.nodes.items) (plan : next.plan ≡ after.plan) (given : next.given ≡ after.given) (root : next.root ≡ after.root)
      (runs : next.runs ≡ s.runs + 1) where
    waits : (rest : TaskView) → IsStop {K = All} j.task (stop.Wait rest) → StallsTask w (job rest j.number) mid after → StepsTo (Run w) s next
    waits rest stops p = wait-goes s next t none w b.worker b.there j b.first.0 (job rest j.number) stops refl (record {
      workers = workers ∙ b.next_is ∙ ap (slice_set s.workers.items w) after-is;
      nodes = nodes ∙ p.nodes ∙ keeps.nodes;
      plan = plan ∙ p.plan ∙ keeps.plan;
      given = given ∙ p.given ∙ keeps.given;
      root = root ∙ p.root ∙ keeps.root;
      runs = runs;
    })
      where
        b : Both w (TakesCurrent j) (Stalls (job rest j.number)) s.workers.items after.workers.items
        b = both w (TakesCurrent j) (Stalls (job rest j.number)) s.workers.items mid.workers.items after.workers.items lets p.workers

        after-is : b.after ≡ record b.worker { current = None; stalled = b.worker.stalled ++ job rest j.number ∷ [] }
        after-is = b.second ∙ ap (λ (v : WorkerView). record v { stalled = v.stalled ++ job rest j.number ∷ [] }) b.first.1

    spawns : (child rest : TaskView) → IsStop {K = All} j.task (stop.Spawn child rest) → BeginsTask w j.number child rest mid after → StepsTo (Run w) s next
    spawns child rest stops p =
        spawn-goes s next t none w b.worker b.there j b.first.0 (job child p.begun) (job rest j.number) stops (p.begun_is ∙ ap length keeps.nodes) refl p.nodes.node found (record {
          workers = workers ∙ b.next_is ∙ ap (slice_set s.workers.items w) after-is;
          nodes = nodes ∙ p.nodes.next_is
              ∙ ap (λ ns. slice_set ns j.number (awaiting (length ns) p.nodes.node) ++ new_node child.task.origin (Some (record { parent = j.number; place = length p.nodes.node.children })) ∷ []) keeps.nodes;
          plan = plan ∙ p.plan ∙ keeps.plan;
          given = given ∙ p.given ∙ keeps.given;
          root = root ∙ p.root ∙ keeps.root;
          runs = runs;
        })
      where
        b : Both w (TakesCurrent j) (SwitchesToChild (job child p.begun) (job rest j.number)) s.workers.items after.workers.items
        b = both w (TakesCurrent j) (SwitchesToChild (job child p.begun) (job rest j.number)) s.workers.items mid.workers.items after.workers.items lets p.workers

        after-is : b.after ≡ record b.worker { current = Some (job child p.begun); deque = b.worker.deque ++ job rest j.number ∷ [] }
        after-is = b.second ∙ ap (λ (v : WorkerView). record v { current = Some (job child p.begun); deque = v.deque ++ job rest j.number ∷ [] }) b.first.1

        found : slice_get s.nodes.items j.number ≡ Some p.nodes.node
        found = ap (λ ns. slice_get ns j.number) (sym keeps.nodes) ∙ p.nodes.there

    ends : (answer : AnswerView) (give : _) → IsStop {K = All} j.task (stop.Done answer give) → PutsAnswer j.number answer mid after → StepsTo (Run w) s next
    ends answer give stops p = by_link p.node.link refl p.goes
      where
        same : own.node ≡ p.node
        same = some-one own.node p.node (sym own.there ∙ ap (λ ns. slice_get ns j.number) (sym keeps.nodes) ∙ p.there)

        state : HasEnded w answer lets.worker s next
        state = record {
          workers = workers ∙ p.workers ∙ lets.next_is ∙ ap (slice_set s.workers.items w) lets.does.1;
          plan = plan ∙ p.plan ∙ keeps.plan;
          given = given ∙ p.given ∙ ap (λ l. l ++ answer.origin ∷ []) keeps.given;
          runs = runs;
        }

        by_link : (o : Option Link) → p.node.link ≡ o → AnswerGoes o answer mid after → StepsTo (Run w) s next
        by_link None e g =
            root-goes s next t none w lets.worker lets.there j lets.does.0 answer give stops state (ap (λ (n : SpawnNode). n.link) same ∙ e) (nodes ∙ g.1 ∙ keeps.nodes) (root ∙ g.0)
        by_link (Some l) e g =
            child-goes s next t none w lets.worker lets.there j lets.does.0 answer give stops state l (ap (λ (n : SpawnNode). n.link) same ∙ e) g.1.node (ap (λ ns. slice_get ns l.parent) (sym keeps.nodes) ∙ g.1.there) g.1.does.child g.1.does.there
            (nodes ∙ g.1.next_is ∙ ap (λ ns. slice_set ns l.parent g.1.after) keeps.nodes ∙ ap (slice_set s.nodes.items l.parent) g.1.does.next_is) (root ∙ g.0 ∙ keeps.root)

    pub run-goes : (to : Stop All) → Advances j.task to → StopsAt w j.number to mid after → StepsTo (Run w) s next
    run-goes (stop.Spawn child rest) a at = spawns child rest (stops-so (stop.Spawn child rest) a) at
    run-goes (stop.Wait rest) a at = waits rest (stops-so (stop.Wait rest) a) at
    run-goes (stop.Done answer give) a at = ends answer give (stops-so (stop.Done answer give) a) at
