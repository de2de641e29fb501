use Rattle.std.proofs.Common.{sym, subst}
use Rattle.ped_path.specs.Path.{IsBefore}
use Rattle.serial_meaning.specs.Answer.{KnownView}
use Rattle.parallel_runner.proofs.Knowing.{first-before_least, least-after_first}
use Rattle.parallel_runner.proofs.known_faults.KnownFaults.is_news.Goals as goal

pub returns-in-Some : goal.returns-in-Some
returns-in-Some c = (
  λ yes. first-before_least c.args.plan.now c.args.fault.now c.args.self.now c.in-Some.least.now c.in-Some.ensures.some
      (subst (λ (k : KnownView). IsBefore c.args.fault.now.at k.fault.at) c.least.view_is (c.before-in-Some.ensures.0 yes)),
  λ first. c.before-in-Some.ensures.1
      (subst (λ (k : KnownView). IsBefore c.args.fault.now.at k.fault.at) (sym c.least.view_is)
      (least-after_first c.args.plan.now c.args.fault.now c.args.self.now c.in-Some.least.now c.in-Some.ensures.some first)),
)
