use Rattle.std.proofs.Common.{Option, ap, subst}
use Rattle.std.specs.Option.{option_copied}
use Rattle.script_grammar.specs.declared.tree.Stmt.{Stmt}
use Rattle.strand_meaning.specs.Machine.{end_move, move, statement_move}
use Rattle.strand_moves.specs.StraightRuns.{HasPassedStatement, unpassed}
use Rattle.strand_moves.specs.InstanceParts.{machine_of, path_of, present_of}
use Rattle.strand_moves.specs.Moves.{present_pedigree}
use Rattle.strand_moves.proofs.Cursors.FoundStatements.{next-found}
use Rattle.strand_moves.proofs.Cursors.Passing.{end-moves, next-moves}
use Rattle.strand_moves.proofs.Statements.Paying.{shows-same}
use Rattle.strand_moves.proofs.instance_parts.InstanceParts.act.Goals as goal

pub returns-in-Some-clause-moves : goal.returns-in-Some-clause-moves
returns-in-Some-clause-moves c =
    let plan = c.args.plan.now in
    let i = c.args.self.now in
    let m = machine_of plan i in
    let st = c.in-Some.statement.now in
    let is = ap option_copied c.in-Some.is in
    shows-same (move plan (path_of i) (unpassed plan i (option_copied c.args.next))) (statement_move plan (path_of i) m st m.top.left) (present_pedigree (present_of i) m) (machine_of plan c.statement.new.self) c.statement.result
    (next-moves plan i (option_copied c.args.next) st is) c.statement.ensures.shows

pub statement-requires-clause-goes_on : goal.statement-requires-clause-goes_on
statement-requires-clause-goes_on c = let has = subst (λ (n : Option Stmt). HasPassedStatement c.args.plan.now c.args.self.now n) (ap option_copied c.in-Some.is) c.requires.passed in has.0

pub statement-requires-clause-after : goal.statement-requires-clause-after
statement-requires-clause-after c = let has = subst (λ (n : Option Stmt). HasPassedStatement c.args.plan.now c.args.self.now n) (ap option_copied c.in-Some.is) c.requires.passed in has.1

pub end_block-requires-clause-none : goal.end_block-requires-clause-none
end_block-requires-clause-none c = subst (λ (n : Option Stmt). HasPassedStatement c.args.plan.now c.args.self.now n) (ap option_copied c.in-None.is) c.requires.passed

pub returns-in-None-clause-moves : goal.returns-in-None-clause-moves
returns-in-None-clause-moves c =
    let plan = c.args.plan.now in
    let i = c.args.self.now in
    let m = machine_of plan i in
    let is = ap option_copied c.in-None.is in
    let none = subst (λ (n : Option Stmt). HasPassedStatement plan i n) is c.requires.passed in
    shows-same (move plan (path_of i) (unpassed plan i (option_copied c.args.next))) (end_move plan (path_of i) m m.top.levels) (present_pedigree (present_of i) m) (machine_of plan c.end_block.new.self) c.end_block.result
    (end-moves plan i (option_copied c.args.next) is none) c.end_block.ensures.shows

pub statement-requires-clause-slots : goal.statement-requires-clause-slots
statement-requires-clause-slots c = record { table = c.slots.ensures.table; found = c.slots.ensures.found }

pub statement-requires-clause-finds : goal.statement-requires-clause-finds
statement-requires-clause-finds c =
    let i = c.args.self.now in
    let has = subst (λ (n : Option Stmt). HasPassedStatement c.args.plan.now i n) (ap option_copied c.in-Some.is) c.requires.passed in
    next-found c.args.plan.now c.slots.result.now i (record { table = c.slots.ensures.table; found = c.slots.ensures.found }) c.requires.sound.named c.in-Some.statement.now has.1
