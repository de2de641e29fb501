-- An end: the answer goes to the parent, or is the root's.
use Rattle.std.specs.Arc.{arc_value}
use Rattle.std.proofs.Common.{◌≡◌, ℕ, zero, suc, ◌+◌, ◌⊎◌, inl, inr, false, List, [], ◌∷◌, ◌++◌, Option, Some, None, IfSome, Contains, slice_get, slice_set, map, refl, sym, ap, ◌∙◌, subst}
use Rattle.std.proofs.lemmas.List.Elements.{Contains-push}
use Rattle.serial_meaning.specs.Answer.{AnswerView, IsEval}
use Rattle.serial_meaning.specs.Eval.{main_origin}
use Rattle.serial_meaning.specs.Plan.{PlanView}
use Rattle.serial_meaning.specs.declared.origin.Origin.{Origin}
use Rattle.strand_meaning.specs.Laws.{IsFaultOf}
use Rattle.strand_meaning.specs.Task.{End}
use Rattle.serial_meaning.specs.declared.keep.All.{All}
use Rattle.strand_machine.specs.Stops.{IsStop}
use Rattle.strand_machine.specs.AwaitedChildren.{awaited}
use Rattle.strand_machine.specs.declared.stop.Stop.TheVariants as stop
use Rattle.sched_meaning.specs.Steps.{after_stop, recorded}
use Rattle.sched_meaning.specs.declared.event.CoreEvent.TheVariants.{Run}
use Rattle.sched_meaning.proofs.KeptByEvents.Cores as cores
use Rattle.sched_meaning.proofs.KeptByEvents.Good.{IsLeft, stop-leaves}
use Rattle.sched_meaning.proofs.OneCore.OneStep.{some-one}
use Rattle.sched_core.specs.Cores.{answer_of, core_of, origins_of, plan_of, task_in, worker_of}
use Rattle.sched_core.specs.Nodes.{child_answered}
use Rattle.sched_core.specs.Consistent.{AreJobs, AreWorkers, Awaits, StepsTo, IsGiven, IsAnsweredBy, IsJob, IsLinked, IsConsistent}
use Rattle.sched_core.specs.Workers.{WorkerView}
use Rattle.sched_core.specs.declared.job.Job.{Job}
use Rattle.sched_core.specs.declared.node.NodeChild.{NodeChild}
use Rattle.sched_core.specs.declared.node.Link.{Link}
use Rattle.sched_core.specs.declared.node.SpawnNode.{SpawnNode}
use Rattle.sched_core.specs.declared.state.CoreState.{CoreState}
use Rattle.sched_core.proofs.KnownOfNodes.AnswersPut.{given-more, nodes-end, nodes-answered}
use Rattle.sched_core.proofs.Worked.Lists.{everywhere-set, get-map, get-other, get-set, map-append-one, map-set-same, same-or}
use Rattle.sched_core.proofs.Events.Running.{going, own-fresh, own-job, run-step, workers-moved}
use Rattle.sched_core.proofs.Events.Taking.{carry-nodes, carry-root, goes}

-- two numbers of one origin are one
once : (s : CoreState) → IsConsistent s → (j k : ℕ) (x y : SpawnNode) → slice_get s.nodes.items j ≡ Some x → slice_get s.nodes.items k ≡ Some y → x.origin ≡ y.origin → j ≡ k
once s t j k x y a b e =
    cores.begun-once (plan_of s) t.led.workers t.led.events (core_of false s) t.valid t.led.leads y.origin j k
    (get-map (λ (n : SpawnNode). n.origin) s.nodes.items j x a ∙ ap (λ o. Some o) e) (get-map (λ (n : SpawnNode). n.origin) s.nodes.items k y b)

-- an answer is what its origin answers
answer-is : (plan : PlanView) (a : AnswerView) → a.plan ≡ plan → IsEval plan a.origin a.out a.outcome → a ≡ answer_of plan a.origin
answer-is plan a p e = λ i. record { plan = p i; origin = a.origin; out = e.events i; outcome = e.ends i }

-- Jobs

jobs-map : (nodes after : List SpawnNode) → ((i : Job) → IsJob nodes i → IsJob after i) → (v : WorkerView) → AreJobs nodes v → AreJobs after v
jobs-map nodes after f v is = record { current = by_current v.current is.current; deque = λ k i h. f i (is.deque k i h); stalled = λ k i h. f i (is.stalled k i h) }
  where
    by_current : (o : Option Job) → IfSome o (IsJob nodes) → IfSome o (IsJob after)
    by_current None h = tt
    by_current (Some i) h = f i h

awaits-set : (begun : List Origin) (cs : List NodeChild) (os : List Origin) (k : ℕ) (c : NodeChild) (a : Option AnswerView) → slice_get cs k ≡ Some c → Awaits begun cs os → Awaits begun (slice_set cs k (record c { answer = a })) os
awaits-set begun [] os k c a h w = absurd (cc)
awaits-set begun (x ∷ cs) [] k c a h w = absurd w
awaits-set begun (x ∷ cs) (o ∷ os) zero c a h w = (ap (λ (y : NodeChild). slice_get begun y.number) (sym (some-one x c h)) ∙ w.0, w.1)
awaits-set begun (x ∷ cs) (o ∷ os) (suc k) c a h w = (w.0, awaits-set begun cs os k c a h w.1)

-- a parent that got a child's answer awaits the same origins
job-answered : (nodes : List SpawnNode) (l : Link) (parent : SpawnNode) (child : NodeChild) (a : AnswerView) → slice_get nodes l.parent ≡ Some parent → slice_get parent.children l.place ≡ Some child →
    (i : Job) → IsJob nodes i → IsJob (slice_set nodes l.parent (child_answered l.place child a parent)) i
job-answered nodes l parent child a at_parent at i is = by_number (same-or i.number l.parent)
  where
    origins : origins_of (slice_set nodes l.parent (child_answered l.place child a parent)) ≡ origins_of nodes
    origins = map-set-same (λ (x : SpawnNode). x.origin) nodes l.parent parent (child_answered l.place child a parent) at_parent refl

    by_number : (i.number ≡ l.parent) ⊎ (i.number ≡ l.parent → ⊥) → IsJob (slice_set nodes l.parent (child_answered l.place child a parent)) i
    by_number (inl e) =
        let same : is.node ≡ parent = some-one is.node parent (sym is.there ∙ ap (λ m. slice_get nodes m) e ∙ at_parent) in
        record {
          node = child_answered l.place child a parent;
          there = ap (λ m. slice_get (slice_set nodes l.parent (child_answered l.place child a parent)) m) e ∙ get-set nodes l.parent parent (child_answered l.place child a parent) at_parent;
          origin = ap (λ (x : SpawnNode). x.origin) (sym same) ∙ is.origin;
          awaits = subst (λ b. Awaits b (slice_set parent.children l.place (record child { answer = Some a })) (awaited (task_in i).trace.unmerged)) (sym origins)
              (awaits-set (origins_of nodes) parent.children (awaited (task_in i).trace.unmerged) l.place child (Some a) at
              (subst (λ (x : SpawnNode). Awaits (origins_of nodes) x.children (awaited (task_in i).trace.unmerged)) same is.awaits));
          uncut = is.uncut;
        }
    by_number (inr two) = record {
      node = is.node;
      there = get-other nodes l.parent i.number (child_answered l.place child a parent) two ∙ is.there;
      origin = is.origin;
      awaits = subst (λ b. Awaits b is.node.children (awaited (task_in i).trace.unmerged)) (sym origins) is.awaits;
      uncut = is.uncut;
    }

-- what the state is after the end
pub record HasEnded (w : ℕ) (a : AnswerView) (v : WorkerView) (s next : CoreState) : Type 0 where
  pub workers : next.workers.items ≡ slice_set s.workers.items w (record v { current = None })
  pub plan : next.plan ≡ s.plan
  pub given : next.given ≡ s.given ++ a.origin ∷ []
  pub runs : next.runs ≡ s.runs + 1

module _ (s next : CoreState) (t : IsConsistent s) (none : s.root ≡ None) (w : ℕ) (v : WorkerView) (there : slice_get s.workers.items w ≡ Some v) (j : Job) (current : v.current ≡ Some j) where
  module _ (a : AnswerView) (give : _) (stops : IsStop {K = All} j.task (stop.Done a give)) (p : HasEnded w a v s next) where
    abbrev pub own : IsJob s.nodes.items j
    own = own-job s t w v there j current

    left : IsLeft (plan_of s) (origins_of s.nodes.items) (task_in j) (End a.out a.outcome)
    left = stop-leaves (plan_of s) (origins_of s.nodes.items) (task_in j) (End a.out a.outcome) (going s t w v there j current) stops.next

    origin-is : a.origin ≡ own.node.origin
    origin-is = stops.keeps.1 ∙ sym own.origin

    is-given : IsGiven (plan_of s) (s.given ++ own.node.origin ∷ []) own.node.origin a
    is-given = record {
      plan_is = stops.keeps.0 ∙ left.0;
      origin = origin-is;
      known = subst (λ (q : PlanView). IsFaultOf q a.outcome) left.0 stops.known;
      there = Contains-push s.given own.node.origin;
    }

    fresh : Contains s.given own.node.origin → ⊥
    fresh g = own-fresh s t w v there j current (subst (Contains s.given) own.origin g)

    given-is : next.given ≡ s.given ++ own.node.origin ∷ []
    given-is = p.given ∙ ap (λ o. s.given ++ o ∷ []) origin-is

    said : answer_of (plan_of s) a.origin ≡ record { plan = (task_in j).plan; origin = (task_in j).origin; out = a.out; outcome = a.outcome }
    said = ap (answer_of (plan_of s)) stops.keeps.1 ∙ (λ i. record { plan = sym left.0 i; origin = (task_in j).origin; out = sym left.1.events i; outcome = sym left.1.ends i })

    core-is : origins_of next.nodes.items ≡ origins_of s.nodes.items →
        core_of false next ≡ recorded (task_in j) (End a.out a.outcome) (record (core_of false s) { workers = slice_set (map worker_of s.workers.items) w (after_stop (End a.out a.outcome) (worker_of v)) })
    core-is same = λ i. record { plan = arc_value (p.plan i); workers = workers i; begun = same i; answers = answers i; runs = p.runs i; spent = false }
      where
        workers : map worker_of next.workers.items ≡ slice_set (map worker_of s.workers.items) w (after_stop (End a.out a.outcome) (worker_of v))
        workers = ap (map worker_of) p.workers ∙ workers-moved s next t none w v (record v { current = None }) there j current (End a.out a.outcome) stops.next refl

        answers : map (answer_of (plan_of next)) next.given ≡ map (answer_of (plan_of s)) s.given ++ record { plan = (task_in j).plan; origin = (task_in j).origin; out = a.out; outcome = a.outcome } ∷ []
        answers =
            ap (λ q. map (answer_of (arc_value q)) next.given) p.plan ∙ ap (map (answer_of (plan_of s))) p.given ∙ map-append-one (answer_of (plan_of s)) s.given a.origin
            ∙ ap (λ x. map (answer_of (plan_of s)) s.given ++ x ∷ []) said

    workers-next : ((i : Job) → IsJob s.nodes.items i → IsJob next.nodes.items i) → AreWorkers next.nodes.items next.workers.items
    workers-next f = subst (AreWorkers next.nodes.items) (sym p.workers)
        (everywhere-set (AreJobs next.nodes.items) s.workers.items w (record v { current = None }) gone (λ k x h. jobs-map s.nodes.items next.nodes.items f x (t.workers k x h)))
      where
        gone : AreJobs next.nodes.items (record v { current = None })
        gone = let is : AreJobs next.nodes.items v = jobs-map s.nodes.items next.nodes.items f v (t.workers w v there) in record { current = tt; deque = is.deque; stalled = is.stalled }

    -- main's answer
    pub root-goes : own.node.link ≡ None → next.nodes.items ≡ s.nodes.items → next.root ≡ Some a → StepsTo (Run w) s next
    root-goes linked nodes root =
        goes (Run w) s next t none (ap arc_value p.plan)
        (run-step s next t none w v (record v { current = None }) there j current (End a.out a.outcome) stops.next (core-is (ap origins_of nodes))).happens
        (workers-next (λ i is. subst (λ l. IsJob l i) (sym nodes) is))
        (carry-nodes _ _ _ _ _ _ (ap arc_value p.plan) given-is nodes (nodes-end (plan_of s) s.given s.nodes.items t.nodes j.number own.node own.there fresh (once s t) linked))
        (carry-root _ _ _ _ _ _ (ap arc_value p.plan) given-is root (subst (λ o. IsGiven (plan_of s) (s.given ++ own.node.origin ∷ []) o a) main-is is-given))
      where
        zero-number : j.number ≡ 0
        zero-number = subst (λ (l : Option Link). IsLinked s.nodes.items j.number l) linked ((t.nodes j.number own.node own.there).link fresh)

        first : slice_get (origins_of s.nodes.items) 0 ≡ Some (main_origin (plan_of s))
        first =
            let r = (cores.kept (plan_of s) t.led.workers t.led.events (core_of false s) t.valid t.led.leads).root in ap (λ l. slice_get l 0) r.1

        main-is : own.node.origin ≡ main_origin (plan_of s)
        main-is = some-one own.node.origin (main_origin (plan_of s)) (sym (get-map (λ (n : SpawnNode). n.origin) s.nodes.items j.number own.node own.there) ∙ ap (λ m. slice_get (origins_of s.nodes.items) m) zero-number ∙ first)

    -- another's answer
    pub child-goes : (l : Link) → own.node.link ≡ Some l → (parent : SpawnNode) → slice_get s.nodes.items l.parent ≡ Some parent → (child : NodeChild) → slice_get parent.children l.place ≡ Some child →
        next.nodes.items ≡ slice_set s.nodes.items l.parent (child_answered l.place child a parent) → next.root ≡ s.root → StepsTo (Run w) s next
    child-goes l linked parent at_parent child at nodes root =
        goes (Run w) s next t none (ap arc_value p.plan)
        (run-step s next t none w v (record v { current = None }) there j current (End a.out a.outcome) stops.next
        (core-is (ap origins_of nodes ∙ map-set-same (λ (x : SpawnNode). x.origin) s.nodes.items l.parent parent (child_answered l.place child a parent) at_parent refl))).happens
        (workers-next (λ i is. subst (λ q. IsJob q i) (sym nodes) (job-answered s.nodes.items l parent child a at_parent at i is)))
        (carry-nodes _ _ _ _ _ _ (ap arc_value p.plan) given-is nodes (nodes-answered (plan_of s) s.given s.nodes.items t.nodes j.number own.node own.there fresh (once s t) l linked a is-given parent at_parent child at))
        (carry-root _ _ _ _ _ _ (ap arc_value p.plan) given-is root not-yet)
      where
        main-fresh : IsAnsweredBy (plan_of s) s.given (main_origin (plan_of s)) None
        main-fresh = subst (IsAnsweredBy (plan_of s) s.given (main_origin (plan_of s))) none t.root

        first : slice_get (origins_of s.nodes.items) 0 ≡ Some (main_origin (plan_of s))
        first =
            let r = (cores.kept (plan_of s) t.led.workers t.led.events (core_of false s) t.valid t.led.leads).root in ap (λ l. slice_get l 0) r.1

        other : own.node.origin ≡ main_origin (plan_of s) → ⊥
        other e =
            let number : j.number ≡ 0 = cores.begun-once (plan_of s) t.led.workers t.led.events (core_of false s) t.valid t.led.leads (main_origin (plan_of s)) j.number 0
            (get-map (λ (n : SpawnNode). n.origin) s.nodes.items j.number own.node own.there ∙ ap (λ o. Some o) e) first in
            let none-linked : own.node.link ≡ None = (t.nodes j.number own.node own.there).first number in
            let both : Some l ≡ None = sym linked ∙ none-linked in absurd (cc)

        not-yet : IsAnsweredBy (plan_of s) (s.given ++ own.node.origin ∷ []) (main_origin (plan_of s)) s.root
        not-yet = subst (IsAnsweredBy (plan_of s) (s.given ++ own.node.origin ∷ []) (main_origin (plan_of s))) (sym none) (given-more (plan_of s) s.given (main_origin (plan_of s)) own.node.origin None other main-fresh)
