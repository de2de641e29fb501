use Rattle.std.proofs.Common.{[], ◌∷◌, ◌++◌}
use Rattle.std.specs.Prelude.{codes}
use Rattle.ped_gen.specs.Scripts.{with_line_feeds}
use Rattle.ped_gen.proofs.PieceLemmas.{sized_thrice}
use Rattle.ped_gen.proofs.script.loop_script.Goals as goal

pub returns : goal.returns
returns c =
    sized_thrice _ _ _ _ _ _ _ _ c.args.size.now (codes "];") (codes " into a call cell(k);") (codes " {") (codes "\n")
    (with_line_feeds (codes "  let s = 0;" ∷ codes "  let i = 0;" ∷ []) ++ codes "  pfor k in 0..")
    (codes "  while i < ")
    (with_line_feeds (codes "    s = s + a[i];" ∷ codes "    i = i + 1;" ∷ codes "  }" ∷ codes "  print s;" ∷ codes "  return 0;" ∷ codes "}" ∷ []))
    c.in_ok-text.ensures.items
    c.in_ok-extend_from_slice.ensures.items
    c.in_ok-extend_from_slice-2.ensures.items
    c.in_ok-extend_from_slice-3.ensures.items
    c.in_ok-extend_from_slice-4.ensures.items
    c.in_ok-extend_from_slice-5.ensures.items
    c.in_ok-extend_from_slice-6.ensures.items
