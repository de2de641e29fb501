use Rattle.std.proofs.Common.{◌≡◌, ◌+◌, ◌-◌, ◌≤◌, [], length, arith, rules}
use Rattle.draw_lines.proofs.StreamLemmas.{can_still, front_of, front_then, goes_on, on_err}
use Rattle.draw_lines.proofs.write.write_blocks.Goals as goal

pub returns-in_err-write_draws-clause-front : goal.returns-in_err-write_draws-clause-front
returns-in_err-write_draws-clause-front g c =
    let n = length c.writing.numbers in
    let parts : n + (c.writing.left - n) ≡ c.writing.left = omega (arith, c.writing-test.true, c.writing.auto.numbers) in
    on_err _ c.from_residual.result (front_of _ _ _ _ c.writing.stream c.writing.left n (c.writing.left - n) parts c.writing.invariant.written c.in_err-write_draws.ensures.front)

pub writing-preserved : goal.writing-preserved
writing-preserved g c =
    let n = length c.args.numbers.now in
    let parts : n + (c.writing.left - n) ≡ c.writing.left = omega (arith, c.writing-test.true) in
    let later : g.K.Sink.faults c.writing.out ≤ g.K.Sink.faults c.write_draws.new.out = c.in_ok-write_draws.ensures.cause.later in
    record {
      can = can_still (g.K.Sink.written c.args.out.now) (g.K.Sink.written c.writing.out) (g.K.Sink.written c.write_draws.new.out) [] c.writing.stream c.writing.left n (c.writing.left - n) parts c.skip.new.self c.skip.ensures c.writing.invariant.can;
      written = goes_on _ _ _ _ c.writing.stream c.writing.left n (c.writing.left - n) parts c.skip.new.self c.skip.ensures c.writing.invariant.written (search rules);
      later = omega (arith, later, c.writing.invariant.later);
    }

pub returns-clause-front : goal.returns-clause-front
returns-clause-front g c =
    front_then _ _ _ _ c.writing.stream c.writing.left _ c.write_draws-2.result c.write_draws-2.ensures.front (search rules) c.writing.invariant.written
