use Rattle.std.proofs.Common.{◌≡◌, ◌+◌, ◌<◌, ◌≤◌, ◌++◌, ◌∙◌, Some, List, ℕ, drop, length, slice_get, sym, arith}
use Rattle.std.specs.Prelude.{codes, decimal}
use Rattle.ped_path.specs.Text.{stopped}
use Rattle.run_lines.proofs.Loops.{front_of, goes_on, got, next_of, none_of, puts_all}
use Rattle.run_lines.proofs.PutLemmas.{on_err}
use Rattle.run_lines.proofs.line.put_path.Goals as goal

abbrev stop : ℕ → List ℕ
stop r = decimal r ++ codes "."

next_rank : (path : List ℕ) (i r n : ℕ) → slice_get path i ≡ Some r → n ≡ length path → i < n → stopped (drop i path) ≡ stop r ++ stopped (drop (i + 1) path)
next_rank path i r n at long within = next_of stop path i 0 r (omega (arith, long, within)) (got path i r 0 at)

pub returns-in_err-put_rank-clause-front : goal.returns-in_err-put_rank-clause-front
returns-in_err-put_rank-clause-front g c =
    let path = c.args.path.now in
    let split = next_rank path c.loop-i.i c.in-Some.rank _ (sym c.rank_at.ensures.value ∙ c.in-Some.is) c.len-i-end.ensures.length c.loop-i-test.true in
    on_err _ c.from_residual.result (front_of _ _ _ _ _ (stopped path) _ _ _ split c.loop-i.invariant.going c.in_err-put_rank.ensures.front)

pub loop-i-preserved : goal.loop-i-preserved
loop-i-preserved g c =
    let path = c.args.path.now in
    let split = next_rank path c.loop-i.i c.in-Some.rank _ (sym c.rank_at.ensures.value ∙ c.in-Some.is) c.len-i-end.ensures.length c.loop-i-test.true in
    let later : g.S.Sink.faults c.loop-i.out ≤ g.S.Sink.faults c.put_rank.new.out = c.in_ok-put_rank.ensures.cause.later in
    record {
      going = goes_on _ _ _ _ _ (stopped path) _ _ _ split c.loop-i.invariant.going _ c.in_ok-put_rank.ensures.all;
      later = omega (arith, later, c.loop-i.invariant.later);
    }

pub returns-clause-all : goal.returns-clause-all
returns-clause-all g c =
    let path = c.args.path.now in
    let end : length path ≤ c.loop-i.i = omega (arith, c.loop-i-test.false, c.len-i-end.ensures.length) in
    puts_all _ _ _ _ _ _ (none_of stop path c.loop-i.i end) c.loop-i.invariant.going
