use Rattle.std.proofs.Common.{◌≡◌, ◌<◌, ◌≤◌, ◌∙◌, List, ℕ, ap, length, get_or, arith}
use Rattle.serial_meaning.specs.Answer.{AnswerView}
use Rattle.run_lines.proofs.Loops.{front_of, goes_on, puts_all}
use Rattle.run_lines.proofs.PutLemmas.{on_err}
use Rattle.seed_batch.proofs.Parts.{part-next, parts-end}
use Rattle.seed_batch.proofs.render.put_batch.Goals as goal

pub returns-in_err-put_part-clause-front : goal.returns-in_err-put_part-clause-front
returns-in_err-put_part-clause-front g c =
    let l = c.loop-i in
    let a = c.answer-item.result in
    let as-many : length c.as_slice-answer-items.result.now ≡ length c.args.answers.now = ap length c.as_slice-answer-items.ensures in
    let in-answers : l.i < length c.args.answers.now = omega arith in
    let in-seeds : l.i < length c.args.seeds.now = omega arith in
    let split = part-next c.args.seeds.now c.args.answers.now l.i 0 _ a a in-seeds in-answers (ap (λ (xs : List ℕ). get_or xs l.i 0) c.as_slice-seeds.ensures)
    (c.answer-item.is ∙ ap (λ (xs : List AnswerView). get_or xs l.i a) c.as_slice-answer-items.ensures) in
    on_err _ c.from_residual.result (front_of _ _ _ _ _ _ _ _ _ split l.invariant.going c.in_err-put_part.ensures.front)

pub loop-i-preserved : goal.loop-i-preserved
loop-i-preserved g c =
    let l = c.loop-i in
    let a = c.answer-item.result in
    let as-many : length c.as_slice-answer-items.result.now ≡ length c.args.answers.now = ap length c.as_slice-answer-items.ensures in
    let in-answers : l.i < length c.args.answers.now = omega arith in
    let in-seeds : l.i < length c.args.seeds.now = omega arith in
    let split = part-next c.args.seeds.now c.args.answers.now l.i 0 _ a a in-seeds in-answers (ap (λ (xs : List ℕ). get_or xs l.i 0) c.as_slice-seeds.ensures)
    (c.answer-item.is ∙ ap (λ (xs : List AnswerView). get_or xs l.i a) c.as_slice-answer-items.ensures) in
    let later : g.S.Sink.faults l.out ≤ g.S.Sink.faults c.put_part.new.out = c.in_ok-put_part.ensures.cause.later in
    record {
      going = goes_on _ _ _ _ _ _ _ _ _ split l.invariant.going _ c.in_ok-put_part.ensures.all;
      later = omega (arith, later, l.invariant.later);
    }

pub returns-clause-all : goal.returns-clause-all
returns-clause-all g c =
    let as-many : length c.as_slice-answer-items.result.now ≡ length c.args.answers.now = ap length c.as_slice-answer-items.ensures in
    let end : length c.args.answers.now ≤ c.loop-i.i = omega arith in
    puts_all _ _ _ _ _ _ (parts-end c.args.seeds.now c.args.answers.now c.loop-i.i end) c.loop-i.invariant.going
