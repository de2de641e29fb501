use Rattle.std.proofs.Common.{◌∙◌, ap}
use Rattle.std.specs.Prelude.{slice_get}
use Rattle.serial_meaning.proofs.Kept.{kept_all}
use Rattle.serial_meaning.proofs.out.Out+All.get.Goals as goal

pub returns : goal.returns
returns c = c.get.ensures ∙ ap (λ l. slice_get l c.args.i) (c.self.invariant.1 ∙ kept_all c.self.inside.whole.items ∙ c.self.view_is)
