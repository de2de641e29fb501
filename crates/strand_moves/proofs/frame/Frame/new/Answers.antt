use Rattle.std.proofs.Common.{refl}
use Rattle.strand_moves.specs.InstanceParts.{body_of}
use Rattle.strand_moves.proofs.frame.Frame.new.Goals as goal

pub returns : goal.returns
returns c = record {
  env = refl;
  begins = λ plan. rw (c.none.ensures, c.new.ensures (body_of plan c.args.number)) refl;
}
