use Rattle.std.proofs.Common.{◌≡◌, ◌∙◌, ap, arith, length, sym}
use Rattle.strand_machine.proofs.Moves.Starts.{awaited_parts}
use Rattle.strand_machine.proofs.trace.Trace.awaited_count.Goals as goal

pub returns : goal.returns
returns g c =
    let t = c.self.inside in
    let many : t.after.len ≡ length t.after.items = omega (arith, t.after.ok.0) in
    rw (← c.self.view_is) (c.len.ensures ∙ many ∙ sym c.self.invariant ∙ ap length (sym (awaited_parts t.awaited.items t.after.items c.self.invariant)))
