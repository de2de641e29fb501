use Rattle.std.proofs.Common.{◌≡◌, ◌+◌, ◌-◌, List, None, length, refl, sym, ap, subst, ◌∙◌, arith}
use Rattle.script_check.specs.Slots.{finds_callee}
use Rattle.serial_meaning.specs.Plan.{functions_of}
use Rattle.strand_moves.specs.declared.cursor.Cursor.{Cursor}
use Rattle.strand_moves.specs.declared.frame.Frame.{Frame}
use Rattle.strand_moves.specs.declared.instance_parts.InstanceParts.{InstanceParts}
use Rattle.strand_moves.specs.Cursors.{block_of}
use Rattle.strand_moves.specs.Found.{FindsStatement}
use Rattle.strand_moves.specs.FastPath.{HasGone}
use Rattle.strand_moves.specs.StraightRuns.{Still, More}
use Rattle.script_grammar.specs.declared.tree.Stmt.{Stmt}
use Rattle.strand_moves.specs.InstanceParts.{IsStrand, statements_of}
use Rattle.strand_moves.proofs.OpenScopes.Keeping.{here-is, stays-instance, same-path}
use Rattle.strand_moves.proofs.Cursors.FoundStatements.{next-found}
use Rattle.strand_moves.proofs.Cursors.Loops.{came-inside, same-around, stayed-outside, still-around}
use Rattle.strand_moves.proofs.Cursors.Passing.{comes-ended, comes-undone, in-place, passed-sound, straight_run-called, straight_run-ended, straight_run-sent, text-same}
use Rattle.strand_moves.proofs.Frames.EndMoves.{did-end, did-not-end}
use Rattle.strand_moves.proofs.Statements.Naming.{top-named}
use Rattle.strand_moves.proofs.Statements.FastPathLemmas.{did-nothing, did-silent, passed-on, fast_path-moved}
use Rattle.strand_moves.proofs.instance_parts.InstanceParts.straight_run.Goals as goal

pub loop-around-init : goal.loop-around-init
loop-around-init g c = record { straight_run = Still c.args.self.now c.args.sink.now refl refl; sound = c.requires; path = refl; text = c.statements-text.ensures; block = c.loop_around-innermost.ensures.block; around = c.loop_around-innermost.ensures.around }

-- by each arm: a step is paid, and a call's frame counts less

pub loop-around-smaller-then-self-eq0-2 : goal.loop-around-smaller-then-self-eq0-2
loop-around-smaller-then-self-eq0-2 g c =
    let before = c.in_ok-around.ensures.moved.stays in
    let frames_before = ap (λ (bs : List Frame). length bs) before.below in
    let there = c.silent_statement.ensures.there in
    let frames = ap (λ (bs : List Frame). length bs) there.below in
    omega (arith, before.few, frames_before, there.steps, frames)

pub loop-around-smaller-then-branch : goal.loop-around-smaller-then-branch
loop-around-smaller-then-branch g c =
    let before = c.in_ok-around.ensures.moved.stays in
    let frames_before = ap (λ (bs : List Frame). length bs) before.below in
    let there = c.silent_statement.ensures.there in
    let frames = ap (λ (bs : List Frame). length bs) there.below in
    omega (arith, before.few, frames_before, there.steps, frames)

pub loop-around-smaller-in-Emitting : goal.loop-around-smaller-in-Emitting
loop-around-smaller-in-Emitting g c =
    let before = c.in_ok-around.ensures.moved.stays in
    let frames_before = ap (λ (bs : List Frame). length bs) before.below in
    let q = c.silent_statement.ensures.there in
    let gone = subst (HasGone g.S.EventSink.after c.args.plan.now c.in-Some.passed.0.now c.silent_statement.new.self c.loop_in_place.new.sink c.other_statement.new.self c.other_statement.new.sink) c.in-Emitting.is c.in_ok-other_statement.ensures.gone in
    let t = gone.1.there in
    let frames = ap (λ (bs : List Frame). length bs) (t.below ∙ q.below) in
    omega (arith, before.few, frames_before, q.steps, t.steps, frames)

pub loop-around-smaller : goal.loop-around-smaller
loop-around-smaller g c =
    let before = c.in_ok-around.ensures.moved.stays in
    let frames_before = ap (λ (bs : List Frame). length bs) before.below in
    let q = c.silent_statement.ensures.there in
    let gone = subst (HasGone g.S.EventSink.after c.args.plan.now c.in-Some.passed.0.now c.silent_statement.new.self c.loop_in_place.new.sink c.other_statement.new.self c.other_statement.new.sink) c.in-Calling.is c.in_ok-other_statement.ensures.gone in
    let begins = gone.0.2 in
    let frames = ap (λ (bs : List Frame). length bs) q.below in
    omega (arith, before.few, frames_before, q.steps, frames, begins.steps, begins.frames)

pub loop-around-smaller-in_default : goal.loop-around-smaller-in_default
loop-around-smaller-in_default g c =
    let before = c.in_ok-around.ensures.moved.stays in
    let frames_before = ap (λ (bs : List Frame). length bs) before.below in
    let ended = did-end g.S.EventSink.after c.args.plan.now _ c.frame_end.new.self c.loop_in_place.new.sink c.frame_end.new.sink _ c.if-not-branch.false c.in_ok-frame_end.ensures.did in
    let shorter = ended.shorter in
    omega (arith, before.few, frames_before, shorter)

pub loop-around-preserved-then-self-eq0-2 : goal.loop-around-preserved-then-self-eq0-2
loop-around-preserved-then-self-eq0-2 g c =
    let l = c.loop-around in
    let was = in-place g.S.EventSink.after c.args.plan.now c.args.self.now c.args.sink.now c.loop-around.self c.loop-around.sink c.loop-around.invariant.straight_run c.loop-around.invariant.path c.loop-around.text.now c.loop-around.block.now c.loop-around.invariant.text c.loop-around.invariant.block c.loop_in_place.new.self c.loop_in_place.new.sink c.in_ok-around.ensures.moved in
    let plan = c.args.plan.now in
    let i = c.loop_in_place.new.self in
    let st = c.in-Some.passed.0.now in
    let q = c.silent_statement in
    let new = q.new.self in
    let passes = rw was.text at c.in-Some.ensures.0 in
    let did = did-silent st _ new _ c.if-branch.true c.in_ok-silent_statement.ensures.did in
    let less : i.steps - 1 + 1 ≡ i.steps = omega arith in
    let paid : InstanceParts = record i { steps = i.steps - 1; top = record i.top { cursor = c.pass_in.new.self } } in
    let moves = fast_path-moved plan i st c.pass_in.new.self (i.steps - 1) (here-is plan i was.sound) passes less new did in
    let stays = q.ensures.stays in
    let there = q.ensures.there in
    let costs = q.ensures.few in
    let path = same-path i new (record { trail = stays.trail; scopes = stays.scopes; leaving = stays.leaving }) in
    let sound = stays-instance plan i new was.sound (passed-on plan i _ _ was.sound passes.first) (record { trail = stays.trail; scopes = stays.scopes; leaving = stays.leaving }) (λ h. q.ensures.named plan (top-named plan i paid refl refl refl refl h)) (omega (arith, costs)) in
    let inside = came-inside c.loop-around.text.now c.pass_in.new.self new.top.cursor st c.in-Some.ensures.0.after c.if-self-eq0-2.true c.in_ok-silent_statement.ensures.cursor in
    record {
      straight_run = More i new c.loop_in_place.new.sink was.straight_run moves path sound;
      sound = sound;
      path = path ∙ was.path;
      text = was.text ∙ sym (text-same plan i new there.function there.levels);
      block = c.entered_block-inside.ensures.block c.loop-around.text.now inside;
      around = c.entered_block-inside.ensures.around c.loop-around.text.now inside;
    }

pub loop-around-preserved-then-branch : goal.loop-around-preserved-then-branch
loop-around-preserved-then-branch g c =
    let l = c.loop-around in
    let was = in-place g.S.EventSink.after c.args.plan.now c.args.self.now c.args.sink.now c.loop-around.self c.loop-around.sink c.loop-around.invariant.straight_run c.loop-around.invariant.path c.loop-around.text.now c.loop-around.block.now c.loop-around.invariant.text c.loop-around.invariant.block c.loop_in_place.new.self c.loop_in_place.new.sink c.in_ok-around.ensures.moved in
    let plan = c.args.plan.now in
    let i = c.loop_in_place.new.self in
    let st = c.in-Some.passed.0.now in
    let q = c.silent_statement in
    let new = q.new.self in
    let passes = rw was.text at c.in-Some.ensures.0 in
    let did = did-silent st _ new _ c.if-branch.true c.in_ok-silent_statement.ensures.did in
    let less : i.steps - 1 + 1 ≡ i.steps = omega arith in
    let paid : InstanceParts = record i { steps = i.steps - 1; top = record i.top { cursor = c.pass_in.new.self } } in
    let moves = fast_path-moved plan i st c.pass_in.new.self (i.steps - 1) (here-is plan i was.sound) passes less new did in
    let stays = q.ensures.stays in
    let there = q.ensures.there in
    let same = stayed-outside c.loop-around.text.now c.pass_in.new.self new.top.cursor st c.in-Some.ensures.0.after c.if-self-eq0-2.false c.in_ok-silent_statement.ensures.cursor in
    let costs = q.ensures.few in
    let path = same-path i new (record { trail = stays.trail; scopes = stays.scopes; leaving = stays.leaving }) in
    let sound = stays-instance plan i new was.sound (passed-on plan i _ _ was.sound passes.first) (record { trail = stays.trail; scopes = stays.scopes; leaving = stays.leaving }) (λ h. q.ensures.named plan (top-named plan i paid refl refl refl refl h)) (omega (arith, costs)) in
    record {
      straight_run = More i new c.loop_in_place.new.sink was.straight_run moves path sound;
      sound = sound;
      path = path ∙ was.path;
      text = was.text ∙ sym (text-same plan i new there.function there.levels);
      block = c.in-Some.ensures.1 ∙ ap (λ (k : Cursor). block_of c.loop-around.text.now k.entered.items) (sym same);
      around = same-around c.loop-around.text.now c.pass_in.new.self new.top.cursor _ (ap (λ (k : Cursor). k.entered.items) same) c.in-Some.ensures.2;
    }

-- a statement that was found to be no plain one

pub loop-around-preserved-in-Emitting : goal.loop-around-preserved-in-Emitting
loop-around-preserved-in-Emitting g c =
    let l = c.loop-around in
    let was = in-place g.S.EventSink.after c.args.plan.now c.args.self.now c.args.sink.now c.loop-around.self c.loop-around.sink c.loop-around.invariant.straight_run c.loop-around.invariant.path c.loop-around.text.now c.loop-around.block.now c.loop-around.invariant.text c.loop-around.invariant.block c.loop_in_place.new.self c.loop_in_place.new.sink c.in_ok-around.ensures.moved in
    let plan = c.args.plan.now in
    let i = c.loop_in_place.new.self in
    let st = c.in-Some.passed.0.now in
    let q = c.silent_statement in
    let o = c.other_statement in
    let passes = rw was.text at c.in-Some.ensures.0 in
    let left = did-nothing st _ q.new.self _ c.if-branch.false c.in_ok-silent_statement.ensures.did in
    let gone = subst (HasGone g.S.EventSink.after plan st q.new.self c.loop_in_place.new.sink o.new.self o.new.sink) c.in-Emitting.is c.in_ok-other_statement.ensures.gone in
    let did = gone.0 in
    let there = gone.1 in
    let same = there.cursor ∙ ap (λ (x : InstanceParts). x.top.cursor) left.0 in
    let less : i.steps - 1 + 1 ≡ i.steps = omega arith in
    let moved = straight_run-sent g.S.EventSink.after plan c.args.self.now c.args.sink.now i c.loop_in_place.new.sink was.straight_run was.sound st c.pass_in.new.self (i.steps - 1) passes less q.new.self left.0 o.new.self o.new.sink did.0 did.1 did.2 o.ensures.named there.stays there.few in
    record {
      straight_run = moved.straight_run;
      sound = moved.sound;
      path = moved.path ∙ was.path;
      text = was.text ∙ sym (text-same plan i o.new.self (there.there.function ∙ q.ensures.there.function) (there.there.levels ∙ q.ensures.there.levels));
      block = c.in-Some.ensures.1 ∙ ap (λ (k : Cursor). block_of c.loop-around.text.now k.entered.items) (sym same);
      around = same-around c.loop-around.text.now c.pass_in.new.self o.new.self.top.cursor _ (ap (λ (k : Cursor). k.entered.items) same) c.in-Some.ensures.2;
    }

pub loop-around-preserved : goal.loop-around-preserved
loop-around-preserved g c =
    let l = c.loop-around in
    let was = in-place g.S.EventSink.after c.args.plan.now c.args.self.now c.args.sink.now c.loop-around.self c.loop-around.sink c.loop-around.invariant.straight_run c.loop-around.invariant.path c.loop-around.text.now c.loop-around.block.now c.loop-around.invariant.text c.loop-around.invariant.block c.loop_in_place.new.self c.loop_in_place.new.sink c.in_ok-around.ensures.moved in
    let plan = c.args.plan.now in
    let i = c.loop_in_place.new.self in
    let st = c.in-Some.passed.0.now in
    let q = c.silent_statement in
    let o = c.other_statement in
    let passes = rw was.text at c.in-Some.ensures.0 in
    let left = did-nothing st _ q.new.self _ c.if-branch.false c.in_ok-silent_statement.ensures.did in
    let gone = subst (HasGone g.S.EventSink.after plan st q.new.self c.loop_in_place.new.sink o.new.self o.new.sink) c.in-Calling.is c.in_ok-other_statement.ensures.gone in
    let did = gone.0 in
    let less : i.steps - 1 + 1 ≡ i.steps = omega arith in
    let moved = straight_run-called g.S.EventSink.after plan c.args.self.now c.args.sink.now i c.loop_in_place.new.sink was.straight_run was.sound st c.pass_in.new.self (i.steps - 1) passes less q.new.self left.0 o.new.self o.new.sink gone.1 did.0 o.ensures.named did.1 gone.2 in
    record { straight_run = moved.straight_run; sound = moved.sound; path = moved.path ∙ was.path; text = c.statements-text-in-Calling.ensures; block = c.loop_around-called.ensures.block; around = c.loop_around-called.ensures.around }

pub other_statement-requires-clause-strand : goal.other_statement-requires-clause-strand
other_statement-requires-clause-strand g c =
    let was = in-place g.S.EventSink.after c.args.plan.now c.args.self.now c.args.sink.now c.loop-around.self c.loop-around.sink c.loop-around.invariant.straight_run c.loop-around.invariant.path c.loop-around.text.now c.loop-around.block.now c.loop-around.invariant.text c.loop-around.invariant.block c.loop_in_place.new.self c.loop_in_place.new.sink c.in_ok-around.ensures.moved in
    let left = did-nothing c.in-Some.passed.0.now _ c.silent_statement.new.self _ c.if-branch.false c.in_ok-silent_statement.ensures.did in
    let strand = was.sound.strand in
    subst (IsStrand c.args.plan.now) (sym left.0) (record { fits = strand.fits; within = strand.within; few = strand.few })

pub other_statement-requires-clause-goes_on : goal.other_statement-requires-clause-goes_on
other_statement-requires-clause-goes_on g c =
    let was = in-place g.S.EventSink.after c.args.plan.now c.args.self.now c.args.sink.now c.loop-around.self c.loop-around.sink c.loop-around.invariant.straight_run c.loop-around.invariant.path c.loop-around.text.now c.loop-around.block.now c.loop-around.invariant.text c.loop-around.invariant.block c.loop_in_place.new.self c.loop_in_place.new.sink c.in_ok-around.ensures.moved in
    let passes = rw was.text at c.in-Some.ensures.0 in
    c.silent_statement.ensures.stays.leaving ∙ passed-on c.args.plan.now c.loop_in_place.new.self c.in-Some.passed.0.now _ was.sound passes.first

-- where no statement of a frame is left

pub frame_end-requires-clause-instance : goal.frame_end-requires-clause-instance
frame_end-requires-clause-instance g c =
    let was = in-place g.S.EventSink.after c.args.plan.now c.args.self.now c.args.sink.now c.loop-around.self c.loop-around.sink c.loop-around.invariant.straight_run c.loop-around.invariant.path c.loop-around.text.now c.loop-around.block.now c.loop-around.invariant.text c.loop-around.invariant.block c.loop_in_place.new.self c.loop_in_place.new.sink c.in_ok-around.ensures.moved in
    passed-sound c.args.plan.now c.loop_in_place.new.self c.pass_in.new.self None was.sound (rw was.text at c.in_default.ensures)

pub frame_end-requires-clause-none : goal.frame_end-requires-clause-none
frame_end-requires-clause-none g c =
    let was = in-place g.S.EventSink.after c.args.plan.now c.args.self.now c.args.sink.now c.loop-around.self c.loop-around.sink c.loop-around.invariant.straight_run c.loop-around.invariant.path c.loop-around.text.now c.loop-around.block.now c.loop-around.invariant.text c.loop-around.invariant.block c.loop_in_place.new.self c.loop_in_place.new.sink c.in_ok-around.ensures.moved in
    let none = rw was.text at c.in_default.ensures in
    none.1

pub loop-around-preserved-in_default : goal.loop-around-preserved-in_default
loop-around-preserved-in_default g c =
    let l = c.loop-around in
    let was = in-place g.S.EventSink.after c.args.plan.now c.args.self.now c.args.sink.now c.loop-around.self c.loop-around.sink c.loop-around.invariant.straight_run c.loop-around.invariant.path c.loop-around.text.now c.loop-around.block.now c.loop-around.invariant.text c.loop-around.invariant.block c.loop_in_place.new.self c.loop_in_place.new.sink c.in_ok-around.ensures.moved in
    let plan = c.args.plan.now in
    let e = c.frame_end in
    let none = rw was.text at c.in_default.ensures in
    let ended = did-end g.S.EventSink.after plan _ e.new.self c.loop_in_place.new.sink e.new.sink _ c.if-not-branch.false c.in_ok-frame_end.ensures.did in
    let moved = straight_run-ended g.S.EventSink.after plan c.args.self.now c.args.sink.now c.loop_in_place.new.self c.loop_in_place.new.sink was.straight_run was.sound c.pass_in.new.self none e.new.self e.new.sink ended in
    record { straight_run = moved.straight_run; sound = moved.sound; path = moved.path ∙ was.path; text = c.statements-text-in_default.ensures; block = c.loop_around-below.ensures.block; around = c.loop_around-below.ensures.around }

pub returns-then-not-branch : goal.returns-then-not-branch
returns-then-not-branch g c =
    let l = c.loop-around in
    let was = in-place g.S.EventSink.after c.args.plan.now c.args.self.now c.args.sink.now c.loop-around.self c.loop-around.sink c.loop-around.invariant.straight_run c.loop-around.invariant.path c.loop-around.text.now c.loop-around.block.now c.loop-around.invariant.text c.loop-around.invariant.block c.loop_in_place.new.self c.loop_in_place.new.sink c.in_ok-around.ensures.moved in
    let plan = c.args.plan.now in
    let e = c.frame_end in
    let none = rw was.text at c.in_default.ensures in
    let still = did-not-end g.S.EventSink.after plan _ e.new.self c.loop_in_place.new.sink e.new.sink _ c.if-not-branch.true c.in_ok-frame_end.ensures.did in
    comes-ended g.S.EventSink.after plan c.args.self.now c.args.sink.now c.loop_in_place.new.self c.loop_in_place.new.sink was.straight_run was.sound c.pass_in.new.self none was.path e.new.self e.new.sink still

pub loop_in_place-requires-clause-instance : goal.loop_in_place-requires-clause-instance
loop_in_place-requires-clause-instance g c = c.loop-around.invariant.sound

pub loop_in_place-requires-clause-block : goal.loop_in_place-requires-clause-block
loop_in_place-requires-clause-block g c = let was = c.loop-around.invariant in was.block ∙ ap (λ (t : List Stmt). block_of t c.loop-around.self.top.cursor.entered.items) was.text

pub loop_in_place-requires-clause-around : goal.loop_in_place-requires-clause-around
loop_in_place-requires-clause-around g c = let was = c.loop-around.invariant in rw was.text at was.around

pub returns-then-self-eq0 : goal.returns-then-self-eq0
returns-then-self-eq0 g c =
    let l = c.loop-around in
    let was = in-place g.S.EventSink.after c.args.plan.now c.args.self.now c.args.sink.now c.loop-around.self c.loop-around.sink c.loop-around.invariant.straight_run c.loop-around.invariant.path c.loop-around.text.now c.loop-around.block.now c.loop-around.invariant.text c.loop-around.invariant.block c.loop_in_place.new.self c.loop_in_place.new.sink c.in_ok-around.ensures.moved in
    record { before = c.loop_in_place.new.self; straight_run = was.straight_run; sound = was.sound; path = was.path; passed = refl; at = rw was.text at c.in-Some.ensures.0 }

pub returns-in-Other : goal.returns-in-Other
returns-in-Other g c =
    let l = c.loop-around in
    let was = in-place g.S.EventSink.after c.args.plan.now c.args.self.now c.args.sink.now c.loop-around.self c.loop-around.sink c.loop-around.invariant.straight_run c.loop-around.invariant.path c.loop-around.text.now c.loop-around.block.now c.loop-around.invariant.text c.loop-around.invariant.block c.loop_in_place.new.self c.loop_in_place.new.sink c.in_ok-around.ensures.moved in
    let plan = c.args.plan.now in
    let i = c.loop_in_place.new.self in
    let st = c.in-Some.passed.0.now in
    let q = c.silent_statement in
    let o = c.other_statement in
    let passes = rw was.text at c.in-Some.ensures.0 in
    let left = did-nothing st _ q.new.self _ c.if-branch.false c.in_ok-silent_statement.ensures.did in
    let gone = subst (HasGone g.S.EventSink.after plan st q.new.self c.loop_in_place.new.sink o.new.self o.new.sink) c.in-Other.is c.in_ok-other_statement.ensures.gone in
    let less : i.steps - 1 + 1 ≡ i.steps = omega arith in
    comes-undone g.S.EventSink.after plan c.args.self.now c.args.sink.now i c.loop_in_place.new.sink was.straight_run was.sound was.path st c.pass_in.new.self (i.steps - 1) passes less q.new.self left.0 o.new.self gone.0 o.new.sink gone.1

-- the table has the slots of what the next statement names

pub pass_in-requires-clause-block : goal.pass_in-requires-clause-block
pass_in-requires-clause-block g c = let was = in-place g.S.EventSink.after c.args.plan.now c.args.self.now c.args.sink.now c.loop-around.self c.loop-around.sink c.loop-around.invariant.straight_run c.loop-around.invariant.path c.loop-around.text.now c.loop-around.block.now c.loop-around.invariant.text c.loop-around.invariant.block c.loop_in_place.new.self c.loop_in_place.new.sink c.in_ok-around.ensures.moved in was.block

pub pass_in-requires-clause-around : goal.pass_in-requires-clause-around
pass_in-requires-clause-around g c = let was = in-place g.S.EventSink.after c.args.plan.now c.args.self.now c.args.sink.now c.loop-around.self c.loop-around.sink c.loop-around.invariant.straight_run c.loop-around.invariant.path c.loop-around.text.now c.loop-around.block.now c.loop-around.invariant.text c.loop-around.invariant.block c.loop_in_place.new.self c.loop_in_place.new.sink c.in_ok-around.ensures.moved in still-around c.loop-around.text.now (statements_of c.args.plan.now c.loop_in_place.new.self.top) c.loop-around.block.now c.loop_in_place.new.self.top.cursor _ was.text c.in_ok-around.ensures.left

pub silent_statement-requires : goal.silent_statement-requires
silent_statement-requires g c =
    let was = in-place g.S.EventSink.after c.args.plan.now c.args.self.now c.args.sink.now c.loop-around.self c.loop-around.sink c.loop-around.invariant.straight_run c.loop-around.invariant.path c.loop-around.text.now c.loop-around.block.now c.loop-around.invariant.text c.loop-around.invariant.block c.loop_in_place.new.self c.loop_in_place.new.sink c.in_ok-around.ensures.moved in
    let plan = c.args.plan.now in
    let i = c.loop_in_place.new.self in
    let passes = rw was.text at c.in-Some.ensures.0 in
    let paid : InstanceParts = record i { steps = i.steps - 1; top = record i.top { cursor = c.pass_in.new.self } } in
    (finds_callee (functions_of plan), next-found plan c.slots-slots.result.now paid (record { table = c.slots-slots.ensures.table; found = c.slots-slots.ensures.found }) (top-named plan i paid refl refl refl refl was.sound.named) c.in-Some.passed.0.now passes.after)

pub other_statement-requires-clause-slots : goal.other_statement-requires-clause-slots
other_statement-requires-clause-slots g c = record { table = c.slots-slots.ensures.table; found = c.slots-slots.ensures.found }

pub other_statement-requires-clause-finds : goal.other_statement-requires-clause-finds
other_statement-requires-clause-finds g c =
    let was = in-place g.S.EventSink.after c.args.plan.now c.args.self.now c.args.sink.now c.loop-around.self c.loop-around.sink c.loop-around.invariant.straight_run c.loop-around.invariant.path c.loop-around.text.now c.loop-around.block.now c.loop-around.invariant.text c.loop-around.invariant.block c.loop_in_place.new.self c.loop_in_place.new.sink c.in_ok-around.ensures.moved in
    let plan = c.args.plan.now in
    let i = c.loop_in_place.new.self in
    let st = c.in-Some.passed.0.now in
    let slots = c.slots-slots.result.now in
    let passes = rw was.text at c.in-Some.ensures.0 in
    let paid : InstanceParts = record i { steps = i.steps - 1; top = record i.top { cursor = c.pass_in.new.self } } in
    let left = did-nothing st _ c.silent_statement.new.self _ c.if-branch.false c.in_ok-silent_statement.ensures.did in
    let found = next-found plan slots paid (record { table = c.slots-slots.ensures.table; found = c.slots-slots.ensures.found }) (top-named plan i paid refl refl refl refl was.sound.named) st passes.after in
    subst (λ (x : InstanceParts). FindsStatement plan slots x.top.env st) (sym left.0) found
