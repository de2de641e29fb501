use Rattle.std.proofs.Common.{◌<◌, length, false, Ok, ◌∷◌, [], refl, sym, ap, subst, set, arith}
use Rattle.std.specs.Option.{option_copied}
use Rattle.strand_meaning.specs.Task.{frame_with_answer, with_answer}
use Rattle.strand_values.specs.Environments.{with_variables}
use Rattle.strand_moves.specs.declared.frame.Frame.{Frame}
use Rattle.strand_moves.specs.declared.instance_parts.InstanceParts.{InstanceParts}
use Rattle.strand_moves.specs.InstanceParts.{IsInstance, frame_of, path_of}
use Rattle.strand_moves.proofs.Frames.BelowLemmas.{changed-innermost, changed-inside, changed-beyond}
use Rattle.strand_moves.proofs.Frames.FoundBelow.{found-below, found-innermost}
use Rattle.strand_moves.proofs.Frames.Names.{innermost-named, named-set, one-below-named, target-found}
use Rattle.strand_moves.proofs.OpenScopes.Keeping.{changed-around, changed-few, changed-path, innermost-sound, scopes-replaced}
use Rattle.strand_moves.proofs.instance_parts.InstanceParts.receive_value.Goals as goal

-- the innermost frame

pub set_answer-requires : goal.set_answer-requires
set_answer-requires c =
    let plan = c.args.plan.now in
    let i = c.args.self.now in
    let to = option_copied c.args.target in
    let found = found-innermost plan to i c.args.height c.requires.found (omega (arith, i.below.ok.0)) in
    rw c.slots.ensures.table (target-found plan i.top to (innermost-named plan i c.requires.sound.named) found)

pub returns-then-height-len-clause-machine : goal.returns-then-height-len-clause-machine
returns-then-height-len-clause-machine c = λ p.
    let i = c.args.self.now in
    changed-innermost p (frame_with_answer (option_copied c.args.target) (Ok (c.args.value ∷ []))) c.args.height i c.set_answer.new.frame (omega (arith, i.below.ok.0)) (ap (λ (a : Frame). frame_of p i.leaving a) c.set_answer.ensures)

pub returns-then-height-len-clause-path : goal.returns-then-height-len-clause-path
returns-then-height-len-clause-path c = let i = c.args.self.now in ap (λ (a : Frame). let x : InstanceParts = record i { top = a } in path_of x) c.set_answer.ensures

pub returns-then-height-len-clause-sound : goal.returns-then-height-len-clause-sound
returns-then-height-len-clause-sound c = λ p h.
    let i = c.args.self.now in
    let env = with_variables i.top.env (with_answer (option_copied c.args.target) c.args.value i.top.env.variables) in
    subst (λ (a : Frame). IsInstance p (record i { top = a })) (sym c.set_answer.ensures) (innermost-sound p i env i.top.faulted refl h)

-- one below it

pub set_answer-requires-then-height-len-2 : goal.set_answer-requires-then-height-len-2
set_answer-requires-then-height-len-2 c =
    let plan = c.args.plan.now in
    let i = c.args.self.now in
    let to = option_copied c.args.target in
    let a = c.index_mut.result.now in
    let within : c.args.height < length i.below.items = omega (arith, i.below.ok.0) in
    let is = one-below-named plan i c.requires.sound.named c.args.height a within c.index_mut.ensures.value in
    rw c.slots-then-height-len-2.ensures.table (target-found plan a to is (found-below plan to i c.args.height c.requires.found a within c.index_mut.ensures.value))

pub returns-then-height-len-2-clause-machine : goal.returns-then-height-len-2-clause-machine
returns-then-height-len-2-clause-machine c = λ p.
    let new = c.set_answer-then-height-len-2.new.frame in
    changed-inside p (frame_with_answer (option_copied c.args.target) (Ok (c.args.value ∷ []))) c.args.height c.args.self.now _ c.index_mut.result.now new (omega (arith, c.args.self.now.below.ok.0)) c.index_mut.ensures.value refl (ap (λ (a : Frame). frame_of p false a) c.set_answer-then-height-len-2.ensures)

pub returns-else-height-len-2-clause-machine : goal.returns-else-height-len-2-clause-machine
returns-else-height-len-2-clause-machine c = λ p. changed-beyond p (frame_with_answer (option_copied c.args.target) (Ok (c.args.value ∷ []))) c.args.height c.args.self.now (omega (arith, c.args.self.now.below.ok.0))

pub returns-then-height-len-2-clause-path : goal.returns-then-height-len-2-clause-path
returns-then-height-len-2-clause-path c =
    let i = c.args.self.now in
    let old = c.index_mut.result.now in
    let new = c.set_answer-then-height-len-2.new.frame in
    let levels = ap (λ (a : Frame). a.levels.items) c.set_answer-then-height-len-2.ensures in
    changed-path i (set i.below.items c.args.height new) (scopes-replaced i.below.items c.args.height old new (omega (arith, i.below.ok.0)) c.index_mut.ensures.value levels)

pub returns-then-height-len-2-clause-sound : goal.returns-then-height-len-2-clause-sound
returns-then-height-len-2-clause-sound c = λ p h.
    let i = c.args.self.now in
    let old = c.index_mut.result.now in
    let new = c.set_answer-then-height-len-2.new.frame in
    let is = c.set_answer-then-height-len-2.ensures in
    let same = scopes-replaced i.below.items c.args.height old new (omega (arith, i.below.ok.0)) c.index_mut.ensures.value (ap (λ (a : Frame). a.levels.items) is) in
    record {
      strand = record { fits = h.strand.fits; within = h.strand.within; few = h.strand.few };
      few = changed-few i (set i.below.items c.args.height new) same h.few;
      around = changed-around i (set i.below.items c.args.height new) same p h.around;
      leaving = h.leaving;
      named =
          named-set p i _ c.args.height old new (omega (arith, i.below.ok.0)) c.index_mut.ensures.value (ap (λ (a : Frame). a.function) is) (ap (λ (a : Frame). a.target) is) (ap (λ (a : Frame). a.env.names) is)
          refl refl h.named;
    }
