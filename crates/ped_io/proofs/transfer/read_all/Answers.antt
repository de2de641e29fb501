use Rattle.std.proofs.Common.{ℕ, arith, length-take}
use Rattle.ped_io.proofs.StreamLemmas.{consumes_at_most, consumes_just}
use Rattle.ped_io.proofs.transfer.read_all.Goals as goal

pub returns-then-count-wanted-clause-too_long : goal.returns-then-count-wanted-clause-too_long
returns-then-count-wanted-clause-too_long g c = λ _.
    consumes_just _ _ _ _ _ _ c.reading.invariant.taken c.in_ok-count.ensures.bytes.0
    (omega (arith, c.if-count-wanted.true, c.in_ok-count.ensures.bound, c.reading.all.ok.0, c.reading.invariant.within))

pub returns-in_err-extend_from_slice-clause-memory_within :
    goal.returns-in_err-extend_from_slice-clause-memory_within
returns-in_err-extend_from_slice-clause-memory_within g c = λ _.
    consumes_at_most _ _ _ _ _ _ c.reading.invariant.taken c.in_ok-count.ensures.bytes.0
    (omega (arith, c.if-count-wanted.false, c.in_ok-count.ensures.bound, c.reading.all.ok.0, c.min.ensures, c.read.auto.buf, length-take {A = ℕ}))
