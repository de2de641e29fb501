use Rattle.std.proofs.Common.{◌≡◌, Some, None, subst}
use Rattle.strand_meaning.specs.Machine.{Machine, move}
use Rattle.strand_moves.specs.Moves.{run_of}
use Rattle.strand_moves.specs.InstanceParts.{machine_of, path_of}
use Rattle.strand_moves.proofs.Cursors.Passing.{passed-has, passed-machine, passed-sound}
use Rattle.strand_moves.proofs.instance_parts.InstanceParts.make_placed_move.Goals as goal

pub make-requires-clause-sound : goal.make-requires-clause-sound
make-requires-clause-sound c =
    let passes = rw c.statements-text.ensures at c.in-Some.ensures in
    passed-sound c.args.plan.now c.args.self.now c.pass_next.new.self (Some c.in-Some.statement.now) c.requires passes

pub make-requires-clause-passed : goal.make-requires-clause-passed
make-requires-clause-passed c =
    let passes = rw c.statements-text.ensures at c.in-Some.ensures in
    passed-has c.args.plan.now c.args.self.now c.pass_next.new.self (Some c.in-Some.statement.now) c.requires passes

pub returns-in_ok-move_result-in-Some-clause-moves : goal.returns-in_ok-move_result-in-Some-clause-moves
returns-in_ok-move_result-in-Some-clause-moves c =
    let plan = c.args.plan.now in
    let i = c.args.self.now in
    let passes = rw c.statements-text.ensures at c.in-Some.ensures in
    subst (λ (m : Machine). move plan (path_of i) m ≡ run_of c.in_ok-move_result-in-Some.move_result (machine_of plan c.make.new.self)) (passed-machine plan i c.pass_next.new.self (Some c.in-Some.statement.now) passes) c.in_ok-move_result-in-Some.ensures.moves

pub make-requires-in-None-clause-sound : goal.make-requires-in-None-clause-sound
make-requires-in-None-clause-sound c =
    let ended = rw c.statements-text.ensures at c.in-None.ensures in
    passed-sound c.args.plan.now c.args.self.now c.pass_next.new.self None c.requires ended

pub make-requires-in-None-clause-passed : goal.make-requires-in-None-clause-passed
make-requires-in-None-clause-passed c =
    let ended = rw c.statements-text.ensures at c.in-None.ensures in
    passed-has c.args.plan.now c.args.self.now c.pass_next.new.self None c.requires ended

pub returns-in_ok-move_result-in-None-clause-moves : goal.returns-in_ok-move_result-in-None-clause-moves
returns-in_ok-move_result-in-None-clause-moves c =
    let plan = c.args.plan.now in
    let i = c.args.self.now in
    let ended = rw c.statements-text.ensures at c.in-None.ensures in
    subst (λ (m : Machine). move plan (path_of i) m ≡ run_of c.in_ok-move_result-in-None.move_result (machine_of plan c.make-in-None.new.self)) (passed-machine plan i c.pass_next.new.self None ended) c.in_ok-move_result-in-None.ensures.moves
