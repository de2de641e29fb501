use Rattle.std.proofs.Common.{◌≡◌, ℕ, List, ap, sym, ◌∙◌, rules}
use Rattle.script_check.specs.declared.symbols.Change.{Change}
use Rattle.script_check.specs.declared.symbols.Change.TheVariants.{Added}
use Rattle.script_check.specs.Tables.{table_of}
use Rattle.script_check.specs.Walk.{without_name, undo, pending_in}
use Rattle.script_check.proofs.Walk.Undone.{names_without}
use Rattle.script_check.proofs.symbols.SymbolTable.undo.Goals as goal

pub returns-in-Added-clause-names : goal.returns-in-Added-clause-names
returns-in-Added-clause-names c =
    let s = c.args.self.now in
    let is : c.args.change ≡ Added c.in-Added.name = search rules in
    names_without (table_of s.pending.map) (table_of c.remove.new.self.map).what c.as_slice.result.now c.remove.ensures.what
    ∙ ap (λ (x : List ℕ). without_name x (pending_in s)) c.as_slice.ensures.value
    ∙ ap (λ (d : Change). undo d (pending_in s)) (sym is)
