use Rattle.std.proofs.Common.{ℕ, List, sym, ◌∙◌, ap₂}
use Rattle.serial_meaning.specs.Open.{raised}
use Rattle.strand_machine.specs.Probes.{ahead_of}
use Rattle.strand_machine.proofs.NodesObserved.Probes.{ahead-after, ahead-after-past}
use Rattle.strand_machine.proofs.probe.is_next.Goals as goal
use Rattle.strand_machine.proofs.probe.is_next.Goals.{else-strand-at-via-then-strand-at+else-same, else-strand-at-via-else-strand-at}

pub returns-then-same : goal.returns-then-same
returns-then-same c =
    let k = c.strand.inside in
    let j = c.at.inside in
    sym (ap₂ (λ (x y : List ℕ). ahead_of (raised x) y) (sym c.strand.view_is) (sym c.at.view_is) ∙ ahead-after k.path j.path k.rank j.rank (sym (c.same.ensures.0 c.if-same.true)) c.if-strand-at.true)

pub returns-else-strand-at : goal.returns-else-strand-at
returns-else-strand-at c =
    let k = c.strand.inside in
    let j = c.at.inside in
    sym (ap₂ (λ (x y : List ℕ). ahead_of (raised x) y) (sym c.strand.view_is) (sym c.at.view_is)
    ∙ ahead-after-past k.path j.path k.rank j.rank (λ e.
    elim c.else-strand-at.branch [
      | else-strand-at-via-then-strand-at+else-same w ↦ let yes = w.same.ensures.1 (sym e) in let no = w.if-same.false in absurd (cc)
      | else-strand-at-via-else-strand-at w ↦ w.if-strand-at.false
    ]))
