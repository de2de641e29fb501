use Rattle.std.proofs.Common.{◌≡◌, ℕ, false, List, ap, ◌∙◌, rules}
use Rattle.script_check.specs.Names.{with_name}
use Rattle.script_check.specs.Tables.{table_of}
use Rattle.script_check.specs.Walk.{names_of, walk_state, pending_in, undone}
use Rattle.script_check.proofs.Walk.Collected.{names_added}
use Rattle.script_check.proofs.Walk.Undone.{one_added}
use Rattle.script_check.proofs.symbols.SymbolTable.add_pending.Goals as goal

pub returns-in_ok-insert : goal.returns-in_ok-insert
returns-in_ok-insert c =
    let s = c.args.self.now in
    let x = c.args.name.now.bytes in
    let key = c.in_ok-from_slice.field-0 in
    let added : names_of (table_of c.insert.new.self.map) ≡ with_name x (pending_in s) =
    ap names_of c.in_ok-insert.ensures ∙ names_added (table_of s.pending.map) c.as_slice-bytes.result.now tt
    ∙ ap (λ (y : List ℕ). with_name y (pending_in s)) c.as_slice-bytes.ensures in
    let absent : pending_in s x ≡ false = search rules in
    let copied : key.items ≡ x = search rules in
    let undoes : undone c.push.new.self.items (names_of (table_of c.insert.new.self.map)) ≡ undone s.block.changes.items (pending_in s) =
    one_added s.block.changes.items c.push.new.self.items key x (pending_in s) (names_of (table_of c.insert.new.self.map))
    c.in_ok-push.ensures.items copied added absent in
    λ i. record (walk_state s) { names = added i; before = undoes i }
