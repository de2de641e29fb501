use Rattle.replay.proofs.Down.{begins_at_main, seen_from_main}
use Rattle.replay.proofs.descent.replay.Goals as goal

pub loop-strand-init : goal.loop-strand-init
loop-strand-init c = record {
  on = begins_at_main _ _ _ _ c.at.inside.path c.at.inside.rank c.at.view_is c.deref.ensures c.in_ok-origin.ensures;
  same = seen_from_main _ _ _ _ c.at.inside.path c.at.inside.rank c.at.view_is c.deref.ensures c.in_ok-origin.ensures;
}
