use Rattle.std.proofs.Common.{◌++◌, ◌∷◌, [], inr, length, refl, ap, ◌∙◌, arith}
use Rattle.serial_meaning.specs.declared.event.Event.TheVariants as event
use Rattle.strand_moves.specs.declared.instance_parts.InstanceParts.{InstanceParts}
use Rattle.strand_moves.specs.Cursors.{statements_left}
use Rattle.strand_moves.specs.FastPath.{MakesEnd}
use Rattle.strand_moves.specs.InstanceParts.{present_of, statements_of}
use Rattle.strand_moves.proofs.Cursors.CursorLemmas.{nothing-in}
use Rattle.strand_moves.proofs.Frames.EndMoves.{ends-twice, gave-back, returned-alone, returned-sent}
use Rattle.strand_moves.proofs.OpenScopes.Keeping.{here-is}
use Rattle.strand_moves.proofs.instance_parts.InstanceParts.frame_end.Goals as goal
use Rattle.strand_moves.proofs.instance_parts.InstanceParts.frame_end.Goals.{then-syncs+in_ok-emit_at, else-syncs}

pub give_back-requires-clause-named : goal.give_back-requires-clause-named
give_back-requires-clause-named g c = c.requires.instance.named

pub give_back-requires-clause-here : goal.give_back-requires-clause-here
give_back-requires-clause-here g c = here-is c.args.plan.now c.args.self.now c.requires.instance

pub return_alone-requires-clause-here : goal.return_alone-requires-clause-here
return_alone-requires-clause-here g c = here-is c.args.plan.now c.args.self.now c.requires.instance

pub returns-then-self-2 : goal.returns-then-self-2
returns-then-self-2 g c =
    let i = c.args.self.now in
    let e = c.give_back.ensures in
    let outside = nothing-in i.top.levels.items (length i.top.levels.items) refl c.is_empty.result (rw c.as_slice.ensures.value at c.is_empty.ensures) c.if-not-is_empty.false in
    record { did = gave-back c.args.plan.now i c.requires.instance c.if-self.false c.requires.none outside g.S.EventSink.after c.args.sink.now c.args.sink.now c.give_back.new.self e.named (omega (arith, e.rank, e.steps)) c.give_back.result c.moved.result c.moved.ensures c.if-self-2.true e.shows e.same e.stays e.steps e.fewer refl }

-- its return was paid, with the sync that it implies, if any, and it goes on to give its value

pub give_back_paid-requires-clause-instance : goal.give_back_paid-requires-clause-instance
give_back_paid-requires-clause-instance g c =
    let i = c.args.self.now in
    let new = c.return_alone.new.self in
    let outside = nothing-in i.top.levels.items (length i.top.levels.items) refl c.is_empty.result (rw c.as_slice.ensures.value at c.is_empty.ensures) c.if-not-is_empty.false in
    elim c.if-syncs.branch [
      | then-syncs+in_ok-emit_at w ↦
          let e = rw w.if-syncs.true at c.in-Ok.ensures in
          let sent = w.sink-is ∙ w.in_ok-emit_at.ensures ∙ ap (λ (x : InstanceParts). g.S.EventSink.after (event.Sync (x.trail.path ++ i.rank ∷ [])) c.args.sink.now) e.rest in
          let one = returned-sent c.args.plan.now i c.requires.instance c.if-self.false c.requires.none outside g.S.EventSink.after c.args.sink.now c.if-syncs.sink new e.named e.few c.if-self-2.false e.rest e.paid (event.Sync (present_of i ++ i.rank ∷ [])) e.shows sent in
          one.sound
      | else-syncs w ↦
          let e = rw w.if-syncs.false at c.in-Ok.ensures in
          let one = returned-alone c.args.plan.now i c.requires.instance c.if-self.false c.requires.none outside g.S.EventSink.after c.args.sink.now c.if-syncs.sink new e.named e.few c.if-self-2.false e.rest e.paid e.shows w.sink-is in
          one.sound
    ]

pub give_back_paid-requires-clause-goes_on : goal.give_back_paid-requires-clause-goes_on
give_back_paid-requires-clause-goes_on g c = ap (λ (x : InstanceParts). x.leaving) c.in-Ok.ensures.rest ∙ c.if-self.false

pub give_back_paid-requires-clause-none : goal.give_back_paid-requires-clause-none
give_back_paid-requires-clause-none g c = ap (λ (x : InstanceParts). statements_left (statements_of c.args.plan.now x.top) x.top.cursor) c.in-Ok.ensures.rest ∙ c.requires.none

pub give_back_paid-requires-clause-outside : goal.give_back_paid-requires-clause-outside
give_back_paid-requires-clause-outside g c =
    let i = c.args.self.now in
    let outside = nothing-in i.top.levels.items (length i.top.levels.items) refl c.is_empty.result (rw c.as_slice.ensures.value at c.is_empty.ensures) c.if-not-is_empty.false in
    ap (λ (x : InstanceParts). x.top.levels.items) c.in-Ok.ensures.rest ∙ outside

pub give_back_paid-requires-clause-returning : goal.give_back_paid-requires-clause-returning
give_back_paid-requires-clause-returning g c = ap (λ (x : InstanceParts). x.top.returning) c.in-Ok.ensures.rest

pub returns-then-is_empty-2 : goal.returns-then-is_empty-2
returns-then-is_empty-2 g c =
    let i = c.args.self.now in
    let new = c.return_alone.new.self in
    let outside = nothing-in i.top.levels.items (length i.top.levels.items) refl c.is_empty.result (rw c.as_slice.ensures.value at c.is_empty.ensures) c.if-not-is_empty.false in
    let did : MakesEnd g.S.EventSink.after c.args.plan.now i c.args.sink.now new c.if-syncs.sink =
    elim c.if-syncs.branch [
      | then-syncs+in_ok-emit_at w ↦
          let e = rw w.if-syncs.true at c.in-Ok.ensures in
          let sent = w.sink-is ∙ w.in_ok-emit_at.ensures ∙ ap (λ (x : InstanceParts). g.S.EventSink.after (event.Sync (x.trail.path ++ i.rank ∷ [])) c.args.sink.now) e.rest in
          let one = returned-sent c.args.plan.now i c.requires.instance c.if-self.false c.requires.none outside g.S.EventSink.after c.args.sink.now c.if-syncs.sink new e.named e.few c.if-self-2.false e.rest e.paid (event.Sync (present_of i ++ i.rank ∷ [])) e.shows sent in
          one
      | else-syncs w ↦
          let e = rw w.if-syncs.false at c.in-Ok.ensures in
          let one = returned-alone c.args.plan.now i c.requires.instance c.if-self.false c.requires.none outside g.S.EventSink.after c.args.sink.now c.if-syncs.sink new e.named e.few c.if-self-2.false e.rest e.paid e.shows w.sink-is in
          one
    ] in
    record { did = inr (did, ap (λ (x : InstanceParts). statements_left (statements_of c.args.plan.now x.top) x.top.cursor) c.in-Ok.ensures.rest ∙ c.requires.none) }

pub returns : goal.returns
returns g c =
    let i = c.args.self.now in
    let new = c.return_alone.new.self in
    let outside = nothing-in i.top.levels.items (length i.top.levels.items) refl c.is_empty.result (rw c.as_slice.ensures.value at c.is_empty.ensures) c.if-not-is_empty.false in
    let did : MakesEnd g.S.EventSink.after c.args.plan.now i c.args.sink.now c.give_back_paid.new.self c.if-syncs.sink =
    elim c.if-syncs.branch [
      | then-syncs+in_ok-emit_at w ↦
          let e = rw w.if-syncs.true at c.in-Ok.ensures in
          let sent = w.sink-is ∙ w.in_ok-emit_at.ensures ∙ ap (λ (x : InstanceParts). g.S.EventSink.after (event.Sync (x.trail.path ++ i.rank ∷ [])) c.args.sink.now) e.rest in
          let one = returned-sent c.args.plan.now i c.requires.instance c.if-self.false c.requires.none outside g.S.EventSink.after c.args.sink.now c.if-syncs.sink new e.named e.few c.if-self-2.false e.rest e.paid (event.Sync (present_of i ++ i.rank ∷ [])) e.shows sent in
          ends-twice g.S.EventSink.after c.args.plan.now i new c.give_back_paid.new.self c.args.sink.now c.if-syncs.sink one c.in_ok-give_back_paid.ensures
      | else-syncs w ↦
          let e = rw w.if-syncs.false at c.in-Ok.ensures in
          let one = returned-alone c.args.plan.now i c.requires.instance c.if-self.false c.requires.none outside g.S.EventSink.after c.args.sink.now c.if-syncs.sink new e.named e.few c.if-self-2.false e.rest e.paid e.shows w.sink-is in
          ends-twice g.S.EventSink.after c.args.plan.now i new c.give_back_paid.new.self c.args.sink.now c.if-syncs.sink one c.in_ok-give_back_paid.ensures
    ] in
    record { did = did }
