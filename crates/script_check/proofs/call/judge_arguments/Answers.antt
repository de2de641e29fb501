use Rattle.std.proofs.Common.{◌≡◌, ◌<◌, ◌≤◌, ◌+◌, ◌∙◌, length, get_or, arith, rules}
use Rattle.std.proofs.lemmas.List.{at_drop_all}
use Rattle.script_check.specs.Walk.{known_in, pending_in}
use Rattle.script_check.proofs.Walk.Reading.{at_index}
use Rattle.script_check.proofs.Walk.Called.{with_parameter, without_parameter}
use Rattle.script_check.proofs.call.judge_arguments.Goals as goal
use Rattle.script_check.proofs.call.judge_arguments.Goals.{in-Some, in-None}

pub loop-i-preserved : goal.loop-i-preserved
loop-i-preserved c =
    let params = c.args.params.now in
    let args = c.args.args.now in
    let i = c.loop-i.i in
    let e = c.index-args-i.result in
    let k = known_in c.args.symbols.now in
    let p = pending_in c.args.symbols.now in
    elim c.match-get.branch [
      | in-Some w ↦
          let q = w.in-Some.param.now in
          let h : i < length params = search rules in
          let is : q ≡ get_or params i q = search rules in
          with_parameter params args i e k p c.loop-i.found c.match-get.found c.loop-i-test.true c.index-args-i.is q (at_index params i q h is) (w.found-is ∙ w.want.ensures.found) ∙ c.loop-i.invariant
      | in-None w ↦
          let h : length params ≤ i = search rules in
          without_parameter params args i e k p c.loop-i.found c.match-get.found c.loop-i-test.true c.index-args-i.is
          (at_drop_all (λ l. l) params i h) (at_drop_all (λ l. l) params (i + 1) (omega (arith, h))) (w.found-is ∙ w.see.ensures.found) ∙ c.loop-i.invariant
    ]
