use Rattle.std.proofs.Common.{◌≡◌, false, take}
use Rattle.std.specs.Arc.{arc_value}
use Rattle.strand_machine.specs.Links.{tags}
use Rattle.strand_machine.specs.Stops.{answer_tags, any_cut}
use Rattle.serial_runner.proofs.walk.answers_of.Given as goal

abbrev pub invariant-loop-origin : goal.invariant-loop-origin
invariant-loop-origin l = record {
  tags : answer_tags l.answers.items ≡ tags (arc_value l.plan) (take l.origin-index l.origins);
  whole : any_cut l.answers.items ≡ false;
}
