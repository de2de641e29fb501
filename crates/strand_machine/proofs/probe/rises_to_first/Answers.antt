use Rattle.std.proofs.Common.{◌≡◌, ℕ, ◌-◌, ◌++◌, ◌∷◌, [], List, Some, ap, sym, ◌∙◌, arith}
use Rattle.strand_machine.specs.Probes.{ahead_of}
use Rattle.strand_machine.proofs.NodesObserved.Probes.{ahead-other, ahead-same, rises-within}
use Rattle.strand_machine.proofs.probe.rises_to_first.Goals as goal

pub returns-then-same : goal.returns-then-same
returns-then-same c =
    let p = c.at.inside.path in
    let s = c.at.inside.rank in
    let same = c.same.ensures.0 c.if-same.true in
    let all : s - 0 ≡ s = omega arith in
    sym (ap (λ (j : List ℕ). ahead_of (c.args.path.now ++ 0 ∷ []) j) (sym c.at.view_is) ∙ ap (λ (l : List ℕ). ahead_of (l ++ 0 ∷ []) (p ++ s ∷ [])) (sym same) ∙ ahead-same p 0 s ∙ rises-within 0 s (omega arith) ∙ ap (λ (n : ℕ). Some n) all)

pub returns-else-same : goal.returns-else-same
returns-else-same c =
    let p = c.at.inside.path in
    let s = c.at.inside.rank in
    sym (ap (λ (j : List ℕ). ahead_of (c.args.path.now ++ 0 ∷ []) j) (sym c.at.view_is) ∙ ahead-other c.args.path.now p 0 s (λ e. let yes = c.same.ensures.1 (sym e) in let no = c.if-same.false in absurd (cc)))
