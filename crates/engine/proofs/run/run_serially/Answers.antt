use Rattle.std.proofs.Common.{◌≡◌, rules}
use Rattle.std.specs.Arc.{arc_value}
use Rattle.engine.proofs.ReportLemmas.{main_is_origin}
use Rattle.engine.proofs.run.run_serially.Goals as goal

pub run_serial_keeping-requires : goal.run_serial_keeping-requires
run_serial_keeping-requires g c =
    let same : c.deref.result.now ≡ arc_value c.args.plan.now = search rules in
    main_is_origin (arc_value c.args.plan.now) c.deref.result.now c.in_ok-origin.origin same c.in_ok-origin.ensures
