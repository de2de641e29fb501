use Rattle.std.proofs.Common.{rules, ◌≡◌, ◌+◌, ◌-◌, ◌<◌, length, arith}
use Rattle.strand_machine.proofs.Moves.Starts.{prefix-last}
use Rattle.strand_machine.proofs.trace.Trace.emit.Goals as goal

pub returns-in_ok-push-in-Some : goal.returns-in_ok-push-in-Some
returns-in_ok-push-in-Some g c =
    let inside = c.self.inside in
    let some : 0 < inside.after.len = search rules in
    let at : (inside.after.len - 1) + 1 ≡ length inside.after.items = omega (arith, inside.after.ok.0) in
    rw (← c.self.view_is)
    (prefix-last inside.prefix inside.fault inside.awaited.items inside.after.items (inside.after.len - 1) c.in-Some.last.now c.args.event c.push.new.self c.self.invariant at c.in-Some.ensures.value
    c.in_ok-push-in-Some.ensures.ok)
