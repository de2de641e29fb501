use Rattle.std.proofs.Common.{◌≡◌, false, rules}
use Rattle.std.specs.Prelude.{is_some}
use Rattle.script_check.specs.Tables.{table_of}
use Rattle.script_check.proofs.Tables.Entries.{added}
use Rattle.script_check.proofs.names.NameTable.insert.Goals as goal

pub returns-in_ok-insert : goal.returns-in_ok-insert
returns-in_ok-insert g c =
    let absent : is_some ((table_of c.args.self.now.map).what c.args.name.now) ≡ false = search rules in
    added c.args.name.now c.in_ok-key.key.items c.args.value c.in_ok-insert.field-0 c.args.self.now.map c.insert.new.self
    c.in_ok-key.ensures.items absent c.in_ok-insert.ensures.updates c.in_ok-insert.ensures.old c.in_ok-insert.ensures.len
