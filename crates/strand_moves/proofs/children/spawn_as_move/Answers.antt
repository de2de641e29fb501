use Rattle.std.proofs.Common.{inl, refl}
use Rattle.strand_moves.proofs.children.spawn_as_move.Goals as goal

pub returns-in-Ok-boxed : goal.returns-in-Ok-boxed
returns-in-Ok-boxed c = inl (rw (c.in-Ok.is, c.in-Ok-boxed.ensures) refl)

pub returns-in-Err : goal.returns-in-Err
returns-in-Err c = inl (rw c.in-Err.is refl)
