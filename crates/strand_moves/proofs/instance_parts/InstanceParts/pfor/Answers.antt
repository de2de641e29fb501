use Rattle.std.proofs.Common.{◌∙◌, ap, subst, sym, arith, w64, rules, SFits}
use Rattle.std.proofs.lemmas.Int.{to_z-of_z}
use Rattle.script_grammar.specs.declared.tree.Act.TheOpen as act
use Rattle.serial_meaning.specs.declared.event.Event.TheVariants as event
use Rattle.serial_meaning.specs.Values.{value_of, values_of}
use Rattle.strand_moves.specs.declared.instance_parts.InstanceParts.{InstanceParts}
use Rattle.strand_moves.specs.declared.effects.Effects.TheVariants as effect
use Rattle.strand_moves.specs.declared.effects.LoopedChild.{LoopedChild}
use Rattle.strand_moves.specs.Found.{FindsTarget}
use Rattle.strand_moves.specs.InstanceParts.{machine_of, present_of}
use Rattle.strand_moves.specs.Moves.{acted, present_pedigree}
use Rattle.strand_moves.proofs.SpawnedChildren.ChildLemmas.{looped-none, looped-some, strand_at}
use Rattle.strand_moves.proofs.SpawnedChildren.Waiting.{wait-exit, wait-fault}
use Rattle.strand_moves.proofs.Statements.LoopEquations.{pfor-lo-fault, pfor-hi-fault, pfor-args-fault, pfor-fault}
use Rattle.strand_moves.proofs.Statements.Naming.{top-named}
use Rattle.strand_moves.proofs.instance_parts.InstanceParts.pfor.Goals as goal

pub value-requires : goal.value-requires
value-requires c = c.requires.finds.first

pub value-requires-2 : goal.value-requires-2
value-requires-2 c = c.requires.finds.end

pub values-requires : goal.values-requires
values-requires c = rw c.as_slice.ensures c.requires.finds.args

pub begin_loop-requires : goal.begin_loop-requires
begin_loop-requires c = c.requires.finds.target

pub pass_loop-requires-clause-target : goal.pass_loop-requires-clause-target
pass_loop-requires-clause-target c = subst (λ (x : InstanceParts). FindsTarget c.args.slots.now x.top.env c.args.target.now) (sym c.begin_loop.ensures.others) c.requires.finds.target

pub pass_loop-requires-2-clause-target : goal.pass_loop-requires-2-clause-target
pass_loop-requires-2-clause-target c = subst (λ (x : InstanceParts). FindsTarget c.args.slots.now x.top.env c.args.target.now) (sym c.begin_loop.ensures.others) c.requires.finds.target

pub returns-in_err-value-clause-shows : goal.returns-in_err-value-clause-shows
returns-in_err-value-clause-shows c = λ st var.
    let i = c.args.self.now in
    let plan = c.args.plan.now in
    wait-exit (acted plan (present_of i) (machine_of plan i) st (act.Pfor var c.args.lo.now c.args.hi.now c.args.target.now c.args.call.now)) (present_pedigree (present_of i) (machine_of plan i)) _ (event.Loop (strand_at i)) c.from_residual.result
    c.in_err-value.field-0.0 (value_of c.args.lo.now i.top.env.variables) c.from_residual.ensures.1 c.in_err-value.ensures
    (pfor-lo-fault plan (present_of i) (machine_of plan i) st var c.args.lo.now c.args.hi.now c.args.target.now c.args.call.now)

pub returns-in_err-value-2-clause-shows : goal.returns-in_err-value-2-clause-shows
returns-in_err-value-2-clause-shows c = λ st var.
    let i = c.args.self.now in
    let plan = c.args.plan.now in
    wait-exit (acted plan (present_of i) (machine_of plan i) st (act.Pfor var c.args.lo.now c.args.hi.now c.args.target.now c.args.call.now)) (present_pedigree (present_of i) (machine_of plan i)) _ (event.Loop (strand_at i)) c.from_residual-in_err-value-2.result
    c.in_err-value-2.field-0.0 (value_of c.args.hi.now i.top.env.variables) c.from_residual-in_err-value-2.ensures.1 c.in_err-value-2.ensures
    (λ kind. pfor-hi-fault plan (present_of i) (machine_of plan i) st var c.args.lo.now c.args.hi.now c.args.target.now c.args.call.now c.in_ok-value.field-0 kind c.in_ok-value.ensures)

pub returns-in_err-rest-clause-shows : goal.returns-in_err-rest-clause-shows
returns-in_err-rest-clause-shows c = λ st var.
    let i = c.args.self.now in
    let plan = c.args.plan.now in
    let known = rw c.as_slice.ensures at c.in_err-rest.ensures in
    wait-exit (acted plan (present_of i) (machine_of plan i) st (act.Pfor var c.args.lo.now c.args.hi.now c.args.target.now c.args.call.now)) (present_pedigree (present_of i) (machine_of plan i)) _ (event.Loop (strand_at i)) c.from_residual-in_err-rest.result
    c.in_err-rest.field-0.0 (values_of c.args.call.now.args i.top.env.variables) c.from_residual-in_err-rest.ensures.1 known
    (λ kind. pfor-args-fault plan (present_of i) (machine_of plan i) st var c.args.lo.now c.args.hi.now c.args.target.now c.args.call.now c.in_ok-value.field-0 c.in_ok-value-2.field-0 kind
    c.in_ok-value.ensures c.in_ok-value-2.ensures)

pub returns-in_err-begin_loop-clause-shows : goal.returns-in_err-begin_loop-clause-shows
returns-in_err-begin_loop-clause-shows c = λ st var.
    let i = c.args.self.now in
    let plan = c.args.plan.now in
    let known = rw c.as_slice.ensures at c.in_ok-rest.ensures in
    let first : SFits w64 c.number-first.result = search rules in
    let end : SFits w64 c.number-end.result = search rules in
    let counted = rw (to_z-of_z w64 c.number-first.result first, to_z-of_z w64 c.number-end.result end, c.number-first.ensures, c.number-end.ensures) at c.iteration_count-count.ensures in
    wait-fault (acted plan (present_of i) (machine_of plan i) st (act.Pfor var c.args.lo.now c.args.hi.now c.args.target.now c.args.call.now)) (present_pedigree (present_of i) (machine_of plan i)) _ (event.Loop (strand_at i))
    c.from_residual-in_err-begin_loop.result c.in_err-begin_loop.field-0.0 c.from_residual-in_err-begin_loop.ensures.1
    (pfor-fault plan (present_of i) (machine_of plan i) st var c.args.lo.now c.args.hi.now c.args.target.now c.args.call.now c.in_ok-value.field-0 c.in_ok-value-2.field-0 c.in_ok-rest.rest c.iteration_count-count.result
    c.in_ok-value.ensures c.in_ok-value-2.ensures known counted c.in_err-begin_loop.field-0.0 (sym c.begin_loop.ensures.result ∙ c.in_err-begin_loop.was))

pub returns-then-count-eq0-clause-shows : goal.returns-then-count-eq0-clause-shows
returns-then-count-eq0-clause-shows c = λ st var.
    let i = c.args.self.now in
    let plan = c.args.plan.now in
    let known = rw c.as_slice.ensures at c.in_ok-rest.ensures in
    let first : SFits w64 c.number-first.result = search rules in
    let end : SFits w64 c.number-end.result = search rules in
    let counted = rw (to_z-of_z w64 c.number-first.result first, to_z-of_z w64 c.number-end.result end, c.number-first.ensures, c.number-end.ensures) at c.iteration_count-count.ensures in
    looped-none plan i st var c.args.lo.now c.args.hi.now c.args.target.now c.args.call.now c.in_ok-value.field-0 c.in_ok-value-2.field-0 c.in_ok-rest.rest c.iteration_count-count.result
    c.begin_loop.new.self.steps c.begin_loop.new.self c.in_ok-value.ensures c.in_ok-value-2.ensures known counted (sym c.begin_loop.ensures.result ∙ c.in_ok-begin_loop.was)
    c.in_ok-begin_loop.ensures.ok c.begin_loop.ensures.others c.if-count-eq0.true (effect.Emitted (event.Loop (strand_at i))) c.pass_loop.new.self
    (ap (λ (x : InstanceParts). effect.Emitted (event.Loop (strand_at x))) (sym c.begin_loop.ensures.others)) c.pass_loop.ensures.passed

pub returns-clause-shows : goal.returns-clause-shows
returns-clause-shows c = λ st var.
    let i = c.args.self.now in
    let plan = c.args.plan.now in
    let known = rw c.as_slice.ensures at c.in_ok-rest.ensures in
    let first : SFits w64 c.number-first.result = search rules in
    let end : SFits w64 c.number-end.result = search rules in
    let counted = rw (to_z-of_z w64 c.number-first.result first, to_z-of_z w64 c.number-end.result end, c.number-first.ensures, c.number-end.ensures) at c.iteration_count-count.ensures in
    let called = c.callee-function.ensures in
    let child = rw (to_z-of_z w64 c.number-first.result first) at c.in_ok-looped.ensures in
    let shown =
    ap (λ (x : InstanceParts). effect.Looped (event.Loop (strand_at x)) c.in_ok-looped.looped) (sym c.begin_loop.ensures.others)
    ∙ ap (λ (l : LoopedChild). effect.Looped (event.Loop (strand_at c.begin_loop.new.self)) l) child in
    looped-some plan i st var c.args.lo.now c.args.hi.now c.args.target.now c.args.call.now c.in_ok-value.field-0 c.in_ok-value-2.field-0 c.in_ok-rest.rest c.iteration_count-count.result
    c.begin_loop.new.self.steps c.begin_loop.new.self c.in_ok-value.ensures c.in_ok-value-2.ensures known counted (sym c.begin_loop.ensures.result ∙ c.in_ok-begin_loop.was)
    c.in_ok-begin_loop.ensures.ok c.begin_loop.ensures.others (omega arith) (effect.Looped (event.Loop (strand_at i)) c.in_ok-looped.looped) c.pass_loop-2.new.self c.callee-function.result c.number-first.result c.in_ok-trail.path c.in_ok-trail.trail
    called c.number-first.ensures (c.in_ok-trail.ensures.shared ∙ c.in_ok-trail.ensures.path) shown c.pass_loop-2.ensures.passed

pub returns-in_err-begin_loop-clause-named : goal.returns-in_err-begin_loop-clause-named
returns-in_err-begin_loop-clause-named c = λ plan.
    let others = c.begin_loop.ensures.others in
    top-named plan c.args.self.now c.begin_loop.new.self (ap (λ (x : InstanceParts). x.below.items) others) (ap (λ (x : InstanceParts). x.top.function) others) (ap (λ (x : InstanceParts). x.top.target) others) (ap (λ (x : InstanceParts). x.top.env.names) others)

pub returns-in_err-trail-clause-named : goal.returns-in_err-trail-clause-named
returns-in_err-trail-clause-named c = λ plan.
    let others = c.begin_loop.ensures.others in
    top-named plan c.args.self.now c.begin_loop.new.self (ap (λ (x : InstanceParts). x.below.items) others) (ap (λ (x : InstanceParts). x.top.function) others) (ap (λ (x : InstanceParts). x.top.target) others) (ap (λ (x : InstanceParts). x.top.env.names) others)

pub returns-in_err-looped-clause-named : goal.returns-in_err-looped-clause-named
returns-in_err-looped-clause-named c = λ plan.
    let others = c.begin_loop.ensures.others in
    top-named plan c.args.self.now c.begin_loop.new.self (ap (λ (x : InstanceParts). x.below.items) others) (ap (λ (x : InstanceParts). x.top.function) others) (ap (λ (x : InstanceParts). x.top.target) others) (ap (λ (x : InstanceParts). x.top.env.names) others)

pub returns-then-count-eq0-clause-named : goal.returns-then-count-eq0-clause-named
returns-then-count-eq0-clause-named c = λ plan h.
    let others = c.begin_loop.ensures.others in
    c.pass_loop.ensures.named plan (top-named plan c.args.self.now c.begin_loop.new.self (ap (λ (x : InstanceParts). x.below.items) others) (ap (λ (x : InstanceParts). x.top.function) others) (ap (λ (x : InstanceParts). x.top.target) others) (ap (λ (x : InstanceParts). x.top.env.names) others) h)

pub returns-clause-named : goal.returns-clause-named
returns-clause-named c = λ plan h.
    let others = c.begin_loop.ensures.others in
    c.pass_loop-2.ensures.named plan (top-named plan c.args.self.now c.begin_loop.new.self (ap (λ (x : InstanceParts). x.below.items) others) (ap (λ (x : InstanceParts). x.top.function) others) (ap (λ (x : InstanceParts). x.top.target) others) (ap (λ (x : InstanceParts). x.top.env.names) others) h)
