use Rattle.std.proofs.Common.{◌≡◌, ◌++◌, ◌∷◌, [], ap, ◌∙◌}
use Rattle.dotmix.specs.declared.trail.Trail.{Trail}
use Rattle.serial_meaning.specs.declared.event.Event.TheVariants as event
use Rattle.strand_moves.specs.InstanceParts.{present_of}
use Rattle.strand_moves.proofs.instance_parts.InstanceParts.emitting_right.Goals as goal

pub returns-in_ok-emit_at-in-Draw-clause-did : goal.returns-in_ok-emit_at-in-Draw-clause-did
returns-in_ok-emit_at-in-Draw-clause-did g c = λ st.
    let i = c.args.self.now in
    let word = c.draw-word.result in
    let sent = c.in_ok-emit_at-in-Draw.ensures ∙ ap (λ (t : Trail). g.S.EventSink.after (event.Draw (t.path ++ i.rank ∷ []) word) c.args.sink.now) c.draw-word.ensures.stays.trail in
    rw c.in-Draw.is (event.Draw (present_of i ++ i.rank ∷ []) word, sent, c.draw-word.ensures.shows st c.in-Draw.field-0)

pub returns-in_ok-emit_at-in-New-clause-did : goal.returns-in_ok-emit_at-in-New-clause-did
returns-in_ok-emit_at-in-New-clause-did g c = λ st.
    let i = c.args.self.now in
    let sent = c.in_ok-emit_at-in-New.ensures ∙ ap (λ (t : Trail). g.S.EventSink.after (event.New (t.path ++ i.rank ∷ [])) c.args.sink.now) c.make_object.ensures.stays.trail in
    rw c.in-New.is (event.New (present_of i ++ i.rank ∷ []), sent, c.in_ok-make_object-in-New.ensures.shows c.args.plan.now st c.in-New.field-0)

pub returns-in_ok-emit_at-in-Draw-clause-named : goal.returns-in_ok-emit_at-in-Draw-clause-named
returns-in_ok-emit_at-in-Draw-clause-named g c = c.draw-word.ensures.named

pub returns-in_err-emit_at-in-Draw-clause-named : goal.returns-in_err-emit_at-in-Draw-clause-named
returns-in_err-emit_at-in-Draw-clause-named g c = c.draw-word.ensures.named

pub returns-in_ok-emit_at-in-New-clause-named : goal.returns-in_ok-emit_at-in-New-clause-named
returns-in_ok-emit_at-in-New-clause-named g c = c.make_object.ensures.named

pub returns-in_err-emit_at-in-New-clause-named : goal.returns-in_err-emit_at-in-New-clause-named
returns-in_err-emit_at-in-New-clause-named g c = c.make_object.ensures.named

pub returns-in_err-make_object-in-New-clause-named : goal.returns-in_err-make_object-in-New-clause-named
returns-in_err-make_object-in-New-clause-named g c = c.make_object.ensures.named
