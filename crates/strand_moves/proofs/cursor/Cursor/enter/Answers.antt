use Rattle.std.proofs.Common.{refl, if◌then◌else◌}
use Rattle.strand_moves.specs.declared.cursor.Branch.TheVariants as branch
use Rattle.strand_moves.proofs.Cursors.CursorLemmas.{from-branch, left-branch}
use Rattle.strand_moves.proofs.cursor.Cursor.enter.Goals as goal
use Rattle.strand_moves.proofs.cursor.Cursor.enter.Goals.{then-yes, else-yes}

pub returns-clause-left : goal.returns-clause-left
returns-clause-left c = λ body st after.
    let pushed = c.in_ok-push.ensures.ok in
    let back = c.in_ok-back.ensures in
    left-branch body c.args.self.now _ st c.args.yes after (elim c.if-yes.branch [ then-yes w ↦ rw w.if-yes.true (cc) | else-yes w ↦ rw w.if-yes.false (cc) ]) refl

pub returns-clause-enters : goal.returns-clause-enters
returns-clause-enters c =
    let pushed = c.in_ok-push.ensures.ok in
    let back = c.in_ok-back.ensures in
    record {
      last = record { branch = if c.args.yes then branch.Yes else branch.No; back = c.args.self.now.next };
      entered = elim c.if-yes.branch [ then-yes w ↦ rw w.if-yes.true (cc) | else-yes w ↦ rw w.if-yes.false (cc) ];
      from = from-branch c.args.yes c.args.self.now.next;
      first = refl;
    }
