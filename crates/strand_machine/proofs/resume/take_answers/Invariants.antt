use Rattle.std.proofs.Common.{◌≡◌, ◌-◌, take, drop}
use Rattle.strand_machine.specs.Links.{tags, AwaitsCount}
use Rattle.strand_machine.specs.Stops.{answer_tags}
use Rattle.strand_machine.proofs.resume.take_answers.Given as goal

abbrev pub invariant-loop-i : goal.invariant-loop-i
invariant-loop-i g l = record {
  tags : answer_tags l.answers.items ≡ tags l.initial.links.plan (take l.i (drop l.first l.initial.links.children));
  links : l.links ≡ record l.initial.links { taken = l.links.taken };
  last : AwaitsCount l.links (l.awaited - l.i);
}
