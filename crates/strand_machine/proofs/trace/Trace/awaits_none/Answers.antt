use Rattle.std.proofs.Common.{◌≡◌, ◌∙◌, arith, length, sym}
use Rattle.strand_machine.proofs.Moves.Starts.{alone}
use Rattle.strand_machine.proofs.trace.Trace.awaits_none.Goals as goal

pub returns : goal.returns
returns g c =
    let t = c.self.inside in
    let many : t.after.len ≡ length t.after.items = omega (arith, t.after.ok.0) in
    rw (← c.self.view_is) (alone t.awaited.items t.after.items t.after.len c.is_empty.result c.self.invariant (many ∙ sym c.self.invariant) c.is_empty.ensures)
