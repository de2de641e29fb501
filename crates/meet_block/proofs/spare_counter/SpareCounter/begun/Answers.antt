use Rattle.std.proofs.Common.{rules, arith}
use Rattle.meet_block.proofs.Steps.{begins}
use Rattle.meet_block.proofs.spare_counter.SpareCounter.begun.Goals as goal

pub store-requires : goal.store-requires
store-requires g c = let s = c.before.before.before.args.self in (search rules, search rules, begins _ _ _ s.parents _ s.seat.me (omega arith) s.spare.0 s.spare.1)
