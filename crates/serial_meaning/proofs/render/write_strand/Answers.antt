use Rattle.std.proofs.Common.{◌≡◌, ◌++◌, subst}
use Rattle.std.specs.Prelude.{OnOk, flat_map}
use Rattle.serial_meaning.specs.Render.{strand_line}
use Rattle.serial_meaning.proofs.Kept.{kept_all}
use Rattle.serial_meaning.proofs.render.write_strand.Goals as goal

pub returns : goal.returns
returns c = subst (λ l. OnOk c.write_events.result (c.write_events.new.text.items ≡ c.args.text.now.items ++ flat_map strand_line l)) (kept_all c.args.events.now) c.write_events.ensures
