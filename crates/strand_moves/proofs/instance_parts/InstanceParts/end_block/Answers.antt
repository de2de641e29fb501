use Rattle.std.proofs.Common.{◌≡◌, true, [], ◌∷◌, ◌++◌, refl, sym, ap, subst, ◌∙◌, arith}
use Rattle.serial_meaning.specs.declared.event.Event.TheVariants as event
use Rattle.strand_meaning.specs.Machine.{Emitted, end_move, sync_effects}
use Rattle.strand_moves.specs.declared.instance_parts.InstanceParts.{InstanceParts}
use Rattle.strand_moves.specs.declared.effects.Effects.{Effects}
use Rattle.strand_moves.specs.Acts.{IsKept}
use Rattle.strand_moves.specs.Moves.{effects_of, present_pedigree}
use Rattle.strand_moves.specs.InstanceParts.{machine_of, path_of, present_of}
use Rattle.strand_moves.proofs.Statements.Equations.{moved}
use Rattle.strand_moves.proofs.OpenScopes.Levels.{is-out, join-kept, join-moves, out-kept, out-moves, rank-fits}
use Rattle.strand_moves.proofs.OpenScopes.Exits.{keeps-made, shows-made}
use Rattle.strand_moves.proofs.OpenScopes.Keeping.{here-is, keeps-where}
use Rattle.strand_moves.proofs.instance_parts.InstanceParts.end_block.Goals as goal

-- out of the innermost scope

pub go_out-requires : goal.go_out-requires
go_out-requires c =
    let fits = rank-fits c.args.plan.now c.args.self.now c.requires.instance c.pop.new.self.items c.in-Some.level c.in-Some.ensures.items c.if-self.true in
    omega (arith, fits)

pub returns-in_ok-go_out-in-Some-clause-shows : goal.returns-in_ok-go_out-in-Some-clause-shows
returns-in_ok-go_out-in-Some-clause-shows c =
    let plan = c.args.plan.now in
    let i = c.args.self.now in
    let rest = c.pop.new.self.items in
    let l = c.in-Some.level in
    let there = c.in-Some.ensures.items in
    let leaves = c.if-self.true in
    let popped : InstanceParts = record i { top = record i.top { levels = c.pop.new.self } } in
    let s = c.in_ok-go_out-in-Some.ensures in
    let out = is-out plan i c.requires.instance rest l there leaves popped c.go_out.new.self refl refl s.passed in
    out-moves plan i c.requires.instance rest l there leaves c.go_out.new.self out ∙ ap (λ (x : Effects). moved (effects_of x) (machine_of plan c.go_out.new.self)) (sym s.effects)

pub returns-in_ok-go_out-in-Some-clause-keeps : goal.returns-in_ok-go_out-in-Some-clause-keeps
returns-in_ok-go_out-in-Some-clause-keeps c =
    let plan = c.args.plan.now in
    let i = c.args.self.now in
    let rest = c.pop.new.self.items in
    let l = c.in-Some.level in
    let there = c.in-Some.ensures.items in
    let leaves = c.if-self.true in
    let popped : InstanceParts = record i { top = record i.top { levels = c.pop.new.self } } in
    let s = c.in_ok-go_out-in-Some.ensures in
    let out = is-out plan i c.requires.instance rest l there leaves popped c.go_out.new.self refl refl s.passed in
    out-kept plan i c.requires.instance rest l there leaves c.go_out.new.self out

-- at the sync at its end

pub returns-then-not-is_empty-clause-shows : goal.returns-then-not-is_empty-clause-shows
returns-then-not-is_empty-clause-shows c =
    let plan = c.args.plan.now in
    let i = c.args.self.now in
    let s = c.join_scope.ensures in
    let is-open_call : i.top.levels.items ≡ [] → ⊥ = λ e.
    (let some = c.if-not-is_empty.true in
    let none : c.is_empty.result ≡ true = rw (c.as_slice.ensures.value, e) at c.is_empty.ensures in
    absurd (cc)) in
    let m = machine_of plan i in
    shows-made (end_move plan (path_of i) m m.top.levels) (present_pedigree (present_of i) m) (machine_of plan c.join_scope.new.self) _ c.join_scope.result s.effects s.fine s.passed
    (λ passed.
    join-moves plan i c.requires.instance is-open_call c.if-self.false
    ∙ ap (λ (x : InstanceParts). moved (Emitted (event.Sync (present_of i ++ i.rank ∷ [])) ∷ sync_effects i.top.spawned) (machine_of plan x)) (sym passed))

pub returns-then-not-is_empty-clause-keeps : goal.returns-then-not-is_empty-clause-keeps
returns-then-not-is_empty-clause-keeps c =
    let plan = c.args.plan.now in
    let i = c.args.self.now in
    let s = c.join_scope.ensures in
    let is-open_call : i.top.levels.items ≡ [] → ⊥ = λ e.
    (let some = c.if-not-is_empty.true in
    let none : c.is_empty.result ≡ true = rw (c.as_slice.ensures.value, e) at c.is_empty.ensures in
    absurd (cc)) in
    keeps-made plan i c.join_scope.new.self c.join_scope.result s.fine s.passed
    (λ passed. subst (λ (x : InstanceParts). IsKept plan i x) (sym passed) (join-kept plan i c.requires.instance is-open_call c.if-self.false c.requires.none))

pub returns-then-not-is_empty-clause-child : goal.returns-then-not-is_empty-clause-child
returns-then-not-is_empty-clause-child c = c.join_scope.ensures.child c.args.plan.now

-- the end of the function

pub end-requires-clause-named : goal.end-requires-clause-named
end-requires-clause-named c = c.requires.instance.named

pub end-requires-clause-here : goal.end-requires-clause-here
end-requires-clause-here c = here-is c.args.plan.now c.args.self.now c.requires.instance

pub returns-then-self-2-clause-keeps : goal.returns-then-self-2-clause-keeps
returns-then-self-2-clause-keeps c =
    let e = c.end.ensures in
    keeps-where c.args.plan.now c.args.self.now c.end.new.self c.requires.instance c.if-self.false e.named e.few c.end.result e.stays

pub returns-clause-keeps : goal.returns-clause-keeps
returns-clause-keeps c =
    let e = c.return_step.ensures in
    keeps-where c.args.plan.now c.args.self.now c.return_step.new.self c.requires.instance c.if-self.false e.named e.few c.return_step.result e.stays

pub return_step-requires-clause-here : goal.return_step-requires-clause-here
return_step-requires-clause-here c = here-is c.args.plan.now c.args.self.now c.requires.instance
