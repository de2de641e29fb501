use Rattle.std.proofs.Common.{◌≡◌, ◌++◌, List, length}
use Rattle.std.specs.Vec.Iter.{into_iter_items, into_iter_len}
use Rattle.serial_meaning.specs.Answer.{AnswerView}
use Rattle.parallel_runner.specs.Crews.{AreRootAnswers}
use Rattle.crew.proofs.run.answers_of.Given as goal

-- with the answers of the roots that are left they are the answers of all
abbrev pub invariant-loop-root : goal.invariant-loop-root
invariant-loop-root g l = record {
  roots : into_iter_len l.root-iterator ≡ length (into_iter_items l.root-iterator);
  answers : (rest : List AnswerView) → AreRootAnswers (into_iter_items l.root-iterator) rest → AreRootAnswers l.fn.roots.items (l.answers.items ++ rest);
}
