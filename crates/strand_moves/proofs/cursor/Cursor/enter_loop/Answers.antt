use Rattle.std.proofs.Common.{◌-◌, refl}
use Rattle.strand_moves.specs.declared.cursor.Branch.TheVariants as branch
use Rattle.strand_moves.proofs.Cursors.CursorLemmas.{left-turn}
use Rattle.strand_moves.proofs.cursor.Cursor.enter_loop.Goals as goal

pub returns-clause-left : goal.returns-clause-left
returns-clause-left c = λ body st after.
    let pushed = c.in_ok-push.ensures.ok in
    let last = c.saturating_sub.ensures in
    let back = c.in_ok-back.ensures in
    left-turn body c.args.self.now _ st after (cc) refl

pub returns-clause-enters : goal.returns-clause-enters
returns-clause-enters c =
    let pushed = c.in_ok-push.ensures.ok in
    let last = c.saturating_sub.ensures in
    let back = c.in_ok-back.ensures in
    record { last = record { branch = branch.LoopBody; back = c.args.self.now.next - 1 }; entered = cc; from = refl; first = refl }
