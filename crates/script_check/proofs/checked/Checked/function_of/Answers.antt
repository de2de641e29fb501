use Rattle.std.proofs.Common.{rules}
use Rattle.script_check.proofs.Tables.Indexed.{named_within}
use Rattle.script_check.proofs.checked.Checked.function_of.Goals as goal

pub returns-clause-within : goal.returns-clause-within
returns-clause-within c = named_within c.args.self.now.functions c.args.name.now.bytes c.get.result (search rules)
