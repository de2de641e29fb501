use Rattle.std.proofs.Common.{◌≡◌, length}
use Rattle.script_check.specs.Walk.{known_in, walk_state}
use Rattle.script_check.proofs.symbols.SymbolTable.leave.Given as goal

abbrev pub invariant-loop-change : goal.invariant-loop-change
invariant-loop-change l =
    (known_in l.self ≡ known_in l.initial.self)
    × (l.self.block.keeps ≡ l.initial.self.block.keeps)
    × ((walk_state l.self).before ≡ (walk_state l.initial.self).before)

abbrev pub decreases-loop-change : goal.decreases-loop-change
decreases-loop-change l = length l.self.block.changes.items
