use Rattle.std.proofs.Common.{◌≡◌, rules}
use Rattle.std.specs.Arc.{arc_value}
use Rattle.engine.specs.Report.{plan_of}
use Rattle.engine.proofs.BatchLemmas.{only_plan}
use Rattle.engine.proofs.run.plan_script.Goals as goal

pub returns-clause-only : goal.returns-clause-only
returns-clause-only c =
    let is : arc_value c.in_ok-new.field-0 ≡ plan_of c.args.settings c.in_ok-script.script = search rules in
    only_plan c.args.settings c.args.bytes.now (arc_value c.in_ok-new.field-0) c.in_ok-script.script c.in_ok-script.ensures.one_script c.in_ok-script.ensures.script is
