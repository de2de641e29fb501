use Rattle.std.proofs.Common.{◌∙◌, ap}
use Rattle.std.specs.Arc.{arc_value}
use Rattle.strand_machine.specs.Stops.{answer_tags, any_cut}
use Rattle.serial_runner.proofs.Advancing.{more-uncut, uncut}
use Rattle.serial_runner.proofs.Answered.{tags_next}
use Rattle.serial_runner.proofs.walk.answers_of.Goals as goal

pub loop-origin-preserved : goal.loop-origin-preserved
loop-origin-preserved c = record {
  tags = ap answer_tags c.in_ok-push.ensures.items
      ∙ tags_next (arc_value c.args.plan.now) c.args.origins.now c.loop-origin.answers.items c.loop-origin.origin-index c.origin-item.result c.in_ok-run_serial.field-0 c.loop-origin.invariant.tags c.loop-origin-test.true c.origin-item.is
      c.in_ok-run_serial.ensures.plan (c.in_ok-run_serial.ensures.origin ∙ c.in_ok-share_origin.ensures);
  whole = ap any_cut c.in_ok-push.ensures.items
      ∙ more-uncut c.loop-origin.answers.items c.in_ok-run_serial.field-0 c.loop-origin.invariant.whole (uncut (arc_value c.args.plan.now) c.in_ok-run_serial.field-0.outcome c.in_ok-run_serial.ensures.fault);
}
