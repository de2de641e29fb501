use Rattle.std.proofs.Common.{◌≡◌, ◌+◌, ℕ, List, [], ◌∷◌, ◌++◌, length, length-append, sym, ap, ◌∙◌, arith}
use Rattle.std.specs.Ordering.{nat_cmp}
use Rattle.ped_path.proofs.OrderLemmas.{slice_cmp-drop_min}
use Rattle.strand_family.proofs.start.compare_iteration.Goals as goal

pub returns : goal.returns
returns c =
    let at = c.args.at.now in
    let way : List ℕ = c.args.path.now ++ c.args.k ∷ [] in
    let long : c.len.result + 1 ≡ length way = omega (arith, c.len.ensures.length, length-append c.args.path.now (c.args.k ∷ [])) in
    c.cmp.ensures ∙ ap (λ (n : ℕ). nat_cmp n (c.len.result + 1)) c.len-3.ensures.length ∙ ap (nat_cmp (length at)) long ∙ sym (slice_cmp-drop_min c.loop-i.i at way (omega arith)) ∙ c.loop-i.invariant
