use Rattle.std.proofs.Common.{rules}
use Rattle.meet_block.proofs.Steps.{retires}
use Rattle.meet_block.proofs.spare_counter.SpareCounter.retired.Goals as goal

pub split_seat-seen-requires : goal.split_seat-seen-requires
split_seat-seen-requires g c = let s = c.args.seat.now in (
  search rules,
  search rules,
  retires g.A.Tagged.tag s.id s.me.0 c.requires.parents c.requires.ready.0 c.requires.none_left,
)
