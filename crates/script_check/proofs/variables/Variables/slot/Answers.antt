use Rattle.std.proofs.Common.{rules}
use Rattle.script_check.proofs.variables.Variables.slot.Goals as goal

pub returns : goal.returns
returns c = search (rules, c.self.invariant c.args.name.now)
