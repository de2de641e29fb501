use Rattle.std.specs.Arc.{arc_value}
use Rattle.strand_family.proofs.Tags.{looked}
use Rattle.strand_family.proofs.links.Links.look.Goals as goal

pub returns : goal.returns
returns g c = rw (← c.self.view_is) (looked (arc_value c.self.inside.plan) c.self.inside.origin c.self.inside.give.join c.self.inside.join c.look.new.self c.look.result c.look.ensures.answers c.look.ensures.named)
