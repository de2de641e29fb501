use Rattle.std.proofs.Common.{◌≡◌, false, ap, rules}
use Rattle.script_check.specs.Names.{no_names}
use Rattle.script_check.specs.Tables.{no_entries, table_of}
use Rattle.script_check.specs.declared.symbols.Change.TheVariants.{Cleared}
use Rattle.script_check.specs.Walk.{names_of, walk_state, pending_in, undone}
use Rattle.script_check.proofs.Walk.Undone.{one_change}
use Rattle.script_check.proofs.symbols.SymbolTable.sync.Goals as goal

pub returns : goal.returns
returns c =
    let s = c.args.self.now in
    let now = names_of (table_of c.replace-pending.new.dest.map) in
    let table : table_of c.replace-pending.new.dest.map ≡ no_entries = search rules in
    let emptied : now ≡ no_names = ap names_of table in
    let was : names_of (table_of c.replace-pending.result.map) ≡ pending_in s = search rules in
    let undoes : undone c.push.new.self.items now ≡ undone s.block.changes.items (pending_in s) =
    one_change s.block.changes.items c.push.new.self.items (Cleared c.replace-pending.result) (pending_in s) now c.in_ok-push.ensures.items was in
    λ i. record (walk_state s) { names = emptied i; keeps = false; before = undoes i }
