use Rattle.std.proofs.Common.{false, Err, refl, ap, set, arith}
use Rattle.strand_meaning.specs.Task.{frame_with_answer}
use Rattle.strand_moves.specs.InstanceParts.{frame_of}
use Rattle.strand_moves.proofs.Frames.BelowLemmas.{changed-inside, changed-beyond}
use Rattle.strand_moves.proofs.Frames.Names.{named-set}
use Rattle.strand_moves.proofs.OpenScopes.Keeping.{changed-around, changed-few, changed-path, innermost-sound, scopes-replaced}
use Rattle.strand_moves.proofs.instance_parts.InstanceParts.receive_fault.Goals as goal

pub returns-then-height-len-2-clause-machine : goal.returns-then-height-len-2-clause-machine
returns-then-height-len-2-clause-machine c = λ plan target.
    changed-inside plan (frame_with_answer target (Err c.args.fault)) c.args.height c.args.self.now _ c.index_mut.result.now (record c.index_mut.result.now { faulted = c.take_least-then-height-len-2.new.faulted }) (omega (arith, c.args.self.now.below.ok.0)) c.index_mut.ensures.value refl (ap (λ x. record (frame_of plan false c.index_mut.result.now) { faulted = x }) c.take_least-then-height-len-2.ensures)

pub returns-else-height-len-2-clause-machine : goal.returns-else-height-len-2-clause-machine
returns-else-height-len-2-clause-machine c = λ plan target. changed-beyond plan (frame_with_answer target (Err c.args.fault)) c.args.height c.args.self.now (omega (arith, c.args.self.now.below.ok.0))

pub returns-then-height-len-2-clause-path : goal.returns-then-height-len-2-clause-path
returns-then-height-len-2-clause-path c =
    let i = c.args.self.now in
    let old = c.index_mut.result.now in
    changed-path i (set i.below.items c.args.height (record old { faulted = c.take_least-then-height-len-2.new.faulted })) (scopes-replaced i.below.items c.args.height old (record old { faulted = c.take_least-then-height-len-2.new.faulted }) (omega (arith, i.below.ok.0)) c.index_mut.ensures.value refl)

pub returns-then-height-len-clause-sound : goal.returns-then-height-len-clause-sound
returns-then-height-len-clause-sound c = λ plan h. innermost-sound plan c.args.self.now c.args.self.now.top.env c.take_least.new.faulted refl h

pub returns-then-height-len-2-clause-sound : goal.returns-then-height-len-2-clause-sound
returns-then-height-len-2-clause-sound c = λ plan h.
    let i = c.args.self.now in
    let old = c.index_mut.result.now in
    let same = scopes-replaced i.below.items c.args.height old (record old { faulted = c.take_least-then-height-len-2.new.faulted }) (omega (arith, i.below.ok.0)) c.index_mut.ensures.value refl in
    record {
      strand = record { fits = h.strand.fits; within = h.strand.within; few = h.strand.few };
      few = changed-few i (set i.below.items c.args.height (record old { faulted = c.take_least-then-height-len-2.new.faulted })) same h.few;
      around = changed-around i (set i.below.items c.args.height (record old { faulted = c.take_least-then-height-len-2.new.faulted })) same plan h.around;
      leaving = h.leaving;
      named = named-set plan i _ c.args.height old (record old { faulted = c.take_least-then-height-len-2.new.faulted }) (omega (arith, i.below.ok.0)) c.index_mut.ensures.value refl refl refl refl refl h.named;
    }
