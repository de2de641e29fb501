use Rattle.std.proofs.Common.{[], ◌∷◌}
use Rattle.std.specs.Prelude.{codes}
use Rattle.ped_gen.specs.Scripts.{with_line_feeds}
use Rattle.ped_gen.proofs.PieceLemmas.{sized_once}
use Rattle.ped_gen.proofs.script.tree_script.Goals as goal

pub returns : goal.returns
returns c =
    sized_once _ _ _ _ c.args.size.now (codes ");") (codes "\n") (with_line_feeds (codes "  print s;" ∷ codes "  return 0;" ∷ codes "}" ∷ []))
    c.in_ok-text.ensures.items c.in_ok-extend_from_slice.ensures.items c.in_ok-extend_from_slice-2.ensures.items
