use Rattle.std.proofs.Common.{◌≡◌, [], ◌∷◌, ◌++◌, ap, ◌∙◌, rules}
use Rattle.script_check.specs.declared.symbols.Block.{Block}
use Rattle.script_check.specs.Walk.{pending_in}
use Rattle.script_check.proofs.Walk.Undone.{one_undone}
use Rattle.script_check.proofs.symbols.SymbolTable.leave.Goals as goal

pub loop-change-preserved : goal.loop-change-preserved
loop-change-preserved c =
    let s = c.loop-change.self in
    let items : s.block.changes.items ≡ c.pop.new.self.items ++ c.in-Some.change ∷ [] = search rules in (
      c.undo.ensures.known ∙ c.loop-change.invariant.0,
      ap (λ (b : Block). b.keeps) c.undo.ensures.block ∙ c.loop-change.invariant.1,
      one_undone s.block.changes.items c.pop.new.self.items c.undo.new.self.block.changes.items c.in-Some.change (pending_in s) (pending_in c.undo.new.self)
          items (ap (λ (b : Block). b.changes.items) c.undo.ensures.block) c.undo.ensures.names ∙ c.loop-change.invariant.2,
    )
