use Rattle.std.proofs.Common.{ap}
use Rattle.serial_meaning.specs.declared.environment.Content.TheVariants.{Scalar}
use Rattle.strand_values.specs.Environments.{EnvironmentView}
use Rattle.strand_moves.specs.declared.frame.Frame.{Frame}
use Rattle.strand_moves.proofs.Frames.ReplacedLemmas.{replaces}
use Rattle.strand_moves.proofs.answers.set_answer.Goals as goal

pub replace_scalar-requires : goal.replace_scalar-requires
replace_scalar-requires c = rw c.in-Some.is at c.requires

pub returns-in-Some : goal.returns-in-Some
returns-in-Some c =
    rw c.in-Some.is
    (ap (λ (env : EnvironmentView). let a : Frame = record c.args.frame.now { env = env } in a)
    (replaces c.in-Some.x.now.bytes (Scalar c.args.value) c.args.frame.now.env c.replace_scalar.new.self c.replace_scalar.ensures.there c.replace_scalar.ensures.missing))
