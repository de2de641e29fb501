use Rattle.std.proofs.Common.{◌≡◌, ℕ, List, true, false, length, sym, ap, ◌∙◌, subst}
use Rattle.script_check.specs.Slots.{finds_all}
use Rattle.serial_meaning.specs.Plan.{functions_of}
use Rattle.strand_meaning.specs.Found.{FindsTargets, IsFoundPlan, functions_left}
use Rattle.strand_meaning.specs.Trace.{Trace}
use Rattle.strand_machine.specs.Links.{LinksView}
use Rattle.strand_machine.specs.Merge.{EndsShort, IsShort, merge_of, trace_of}
use Rattle.strand_machine.specs.AwaitedChildren.{awaited}
use Rattle.strand_machine.specs.Stops.{answer_tags}
use Rattle.strand_machine.specs.Tasks.{IsSound, view_of, remaining_of}
use Rattle.strand_machine.specs.declared.task_state.TaskState.{TaskState}
use Rattle.strand_machine.proofs.NextStops.Advancing.{sound_holds}
use Rattle.strand_machine.proofs.TakenAnswers.Answering.{length-answer-tags, length-tags}
use Rattle.strand_machine.proofs.TakenAnswers.Cutting.{answers-of, ends-short, kept-state, own-children, short-on, taken-from, takes-whole, is_resumed-short, is_resumed-whole}
use Rattle.strand_machine.proofs.Moves.Starts.{awaited_parts}
use Rattle.strand_machine.proofs.TakenAnswers.Taking.{goes-on-sound, goes-on-view}
use Rattle.strand_machine.proofs.TakenAnswers.Targets.{all-found}
use Rattle.strand_machine.proofs.resume.resume_parts.Goals as goal

pub merge_all-requires-clause-many : goal.merge_all-requires-clause-many
merge_all-requires-clause-many g c =
    let b = c.args.parts.now.state in
    let q = c.take_children-after.ensures.parted in
    sym (length-answer-tags c.args.answers) ∙ ap length c.requires.tags ∙ length-tags b.links.plan (awaited b.trace.unmerged)
    ∙ ap (λ (x : Trace). length (awaited x.unmerged)) (sym q.is) ∙ ap length (awaited_parts q.children c.take_children-after.result.items q.many) ∙ q.many

pub merge_all-requires-clause-unmerged : goal.merge_all-requires-clause-unmerged
merge_all-requires-clause-unmerged g c = ap (λ (x : Trace). x.unmerged) c.take_children-after.ensures.rest

pub merge_all-requires-clause-of_plan : goal.merge_all-requires-clause-of_plan
merge_all-requires-clause-of_plan g c = (c.args.parts.now.state.links.origin, c.requires.sound.of_plan)

pub merge_all-requires-clause-found : goal.merge_all-requires-clause-found
merge_all-requires-clause-found g c =
    let b = c.args.parts.now.state in
    let left = remaining_of b.links.plan c.args.parts.now.remaining in
    let q = c.take_children-after.ensures.parted in
    let table = c.slots-slots.ensures in
    let found : IsFoundPlan b.links.plan = subst IsFoundPlan c.plan.ensures (subst (λ (slots : List ℕ). finds_all slots (functions_of c.plan.result.now) ≡ true) table.table table.found) in
    all-found b.links.plan left q.children c.take_children-after.result.items q.many
    (subst (FindsTargets b.links.plan (functions_left left)) (sym (ap (λ (x : Trace). x.unmerged) q.is)) (c.requires.sound.task.found found))

pub cut_short-requires-clause-ends : goal.cut_short-requires-clause-ends
cut_short-requires-clause-ends g c =
    let b = c.args.parts.now.state in
    let w = c.args.parts.now.remaining in
    let q = c.take_children-after.ensures.parted in
    let bs = c.take_children-after.result.items in
    let after = merge_of c.merge_all.new.parts c.merge_all.new.merging in
    let parts = ap (λ (x : Trace). x.unmerged) q.is in
    let h = taken-from b w _ _ c.args.answers after c.take_children-after.ensures.rest c.in_ok-left.ensures.takes in
    subst (λ (f : LinksView). EndsShort f after) (sym (ap (λ (x : TaskState _). x.links) c.in_ok-left.ensures.rest.state))
    (ends-short b w q.children bs c.args.answers after parts (own-children b q.children bs (answer_tags c.args.answers) parts q.many c.requires.tags) h c.answers_end.ensures c.requires.sound.task
    (answers-of b.links.plan b.trace.unmerged c.args.answers h.said c.requires.tags) (sym h.cut ∙ c.if-merging.true))

pub cut_short-requires-clause-unmerged : goal.cut_short-requires-clause-unmerged
cut_short-requires-clause-unmerged g c = c.in_ok-left.ensures.rest.unmerged

pub returns-then-merging-clause-is_resumed : goal.returns-then-merging-clause-is_resumed
returns-then-merging-clause-is_resumed g c =
    let b = c.args.parts.now.state in
    let w = c.args.parts.now.remaining in
    let q = c.take_children-after.ensures.parted in
    let bs = c.take_children-after.result.items in
    let after = merge_of c.merge_all.new.parts c.merge_all.new.merging in
    let next = view_of c.cut_short.new.parts.state c.cut_short.new.parts.remaining in
    let parts = ap (λ (x : Trace). x.unmerged) q.is in
    let h = taken-from b w _ _ c.args.answers after c.take_children-after.ensures.rest c.in_ok-left.ensures.takes in
    is_resumed-short c.args.answers (view_of b w) next (sym h.cut ∙ c.if-merging.true)
    (short-on b w q.children bs c.args.answers after parts (own-children b q.children bs (answer_tags c.args.answers) parts q.many c.requires.tags) h next
    (subst (λ (x : TaskState _). IsShort x.links after x.advanced next) c.in_ok-left.ensures.rest.state c.cut_short.ensures.short))

pub returns-then-merging-clause-answers : goal.returns-then-merging-clause-answers
returns-then-merging-clause-answers g c = let b = c.args.parts.now.state in answers-of b.links.plan b.trace.unmerged c.args.answers c.in_ok-left.ensures.takes.said c.requires.tags

pub returns-clause-is_resumed : goal.returns-clause-is_resumed
returns-clause-is_resumed g c =
    let b = c.args.parts.now.state in
    let w = c.args.parts.now.remaining in
    let q = c.take_children-after.ensures.parted in
    let bs = c.take_children-after.result.items in
    let kept = c.merge_all.new.parts in
    let after = merge_of kept c.merge_all.new.merging in
    let next = c.end_wait.new.parts in
    let parts = ap (λ (x : Trace). x.unmerged) q.is in
    let h = taken-from b w _ _ c.args.answers after c.take_children-after.ensures.rest c.in_ok-left.ensures.takes in
    let whole = sym h.cut ∙ c.if-merging.false in
    let takes = takes-whole b w q.children bs c.args.answers after c.answers_are_evaluations.ensures h whole in
    let state : next.state ≡ record b { trace = trace_of after; values = after.values; waiting = false } =
    c.in_ok-end_wait.ensures.state ∙ ap (λ (x : TaskState _). record x { waiting = false }) (kept-state _ kept c.in_ok-left.ensures.rest) in
    is_resumed-whole c.args.answers (view_of b w) _ whole
    (ap (λ (x : TaskState _). view_of x next.remaining) state ∙ goes-on-view b w q.children bs (answer_tags c.args.answers) after next.remaining parts q.many c.requires.tags takes c.in_ok-end_wait.ensures.remaining c.requires.sound)

pub returns-clause-answers : goal.returns-clause-answers
returns-clause-answers g c = let b = c.args.parts.now.state in answers-of b.links.plan b.trace.unmerged c.args.answers c.in_ok-left.ensures.takes.said c.requires.tags

pub returns-clause-holds : goal.returns-clause-holds
returns-clause-holds g c =
    let b = c.args.parts.now.state in
    let w = c.args.parts.now.remaining in
    let q = c.take_children-after.ensures.parted in
    let bs = c.take_children-after.result.items in
    let kept = c.merge_all.new.parts in
    let after = merge_of kept c.merge_all.new.merging in
    let next = c.end_wait.new.parts in
    let parts = ap (λ (x : Trace). x.unmerged) q.is in
    let h = taken-from b w _ _ c.args.answers after c.take_children-after.ensures.rest c.in_ok-left.ensures.takes in
    let takes = takes-whole b w q.children bs c.args.answers after c.answers_are_evaluations.ensures h (sym h.cut ∙ c.if-merging.false) in
    let state : next.state ≡ record b { trace = trace_of after; values = after.values; waiting = false } =
    c.in_ok-end_wait.ensures.state ∙ ap (λ (x : TaskState _). record x { waiting = false }) (kept-state _ kept c.in_ok-left.ensures.rest) in
    sound_holds _ next.remaining (subst (λ (x : TaskState _). IsSound x next.remaining) (sym state)
    (goes-on-sound b w q.children bs (answer_tags c.args.answers) after next.remaining parts q.many c.requires.tags takes c.in_ok-end_wait.ensures.remaining c.answers_keep_tasks.ensures c.requires.sound))
