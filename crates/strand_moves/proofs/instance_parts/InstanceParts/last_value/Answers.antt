use Rattle.std.proofs.Common.{Bool, List, Option, length, reverse, refl, ap, subst, ◌∙◌}
use Rattle.std.specs.Option.{option_copied}
use Rattle.script_grammar.specs.declared.tree.Stmt.{Stmt}
use Rattle.strand_meaning.specs.Machine.{end_move, return_move}
use Rattle.strand_moves.specs.declared.frame.Level.{Level}
use Rattle.strand_moves.specs.StraightRuns.{HasPassedStatement}
use Rattle.strand_moves.specs.InstanceParts.{body_of, levels_of, machine_of, path_of}
use Rattle.strand_moves.proofs.Cursors.CursorLemmas.{nothing-in}
use Rattle.strand_moves.proofs.Cursors.Passing.{end-moves}
use Rattle.strand_moves.proofs.Frames.Ending.{value-returned}
use Rattle.strand_moves.proofs.Frames.Names.{innermost-named}
use Rattle.strand_moves.proofs.instance_parts.InstanceParts.last_value.Goals as goal

pub result-requires : goal.result-requires
result-requires c = innermost-named c.args.plan.now c.args.self.now c.requires.sound.named

pub returns-in-Ok : goal.returns-in-Ok
returns-in-Ok c =
    let plan = c.args.plan.now in
    let i = c.args.self.now in
    let m = machine_of plan i in
    let is = ap option_copied c.in-None.is in
    let none = subst (λ (n : Option Stmt). HasPassedStatement plan i n) is c.requires.passed in
    let outside = nothing-in i.top.levels.items (length i.top.levels.items) refl c.is_empty-2.result (rw c.as_slice.ensures.value at c.is_empty-2.ensures) c.if-not-is_empty-2.false in
    let alone = nothing-in i.below.items i.below.len i.below.ok.0 _ c.is_empty.ensures c.if-not-is_empty.false in
    end-moves plan i (option_copied c.args.next) is none
    ∙ ap (λ (ls : List Level). end_move plan (path_of i) m (levels_of (body_of plan i.top.function) (reverse ls))) outside
    ∙ ap (λ (b : Bool). return_move plan (path_of i) m b) c.if-not-self.false
    ∙ value-returned plan i c.in-Ok.value c.in-Ok.ensures alone
