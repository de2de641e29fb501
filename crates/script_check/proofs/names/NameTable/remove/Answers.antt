use Rattle.script_check.proofs.Tables.Entries.{removed}
use Rattle.script_check.proofs.names.NameTable.remove.Goals as goal

pub returns-clause-what : goal.returns-clause-what
returns-clause-what g c = removed c.args.name.now c.args.self.now.map c.remove.new.self c.remove.ensures.updates
