use Rattle.std.proofs.Common.{◌≢◌, ◌<◌, length, get_or, arith, refl}
use Rattle.std.proofs.lemmas.Bool.Decides.{nat_tests}
use Rattle.ped_path.proofs.ParseLemmas.{rank_then, split_of, too_big}
use Rattle.ped_path.proofs.parse.read_rank.Goals as goal
use Rattle.ped_path.proofs.parse.read_rank.Goals.{else-digits-gt1-via-then-digits-gt1+else-digits-eq48, else-digits-gt1-via-else-digits-gt1}

pub rank_of-requires : goal.rank_of-requires
rank_of-requires c = (split_of c.args.rest.now c.split_at.result.0.now c.split_at.result.1.now _ c.digits_len.ensures.value c.split_at.ensures.front c.split_at.ensures.back).all

pub returns-in-Some-clause-ok : goal.returns-in-Some-clause-ok
returns-in-Some-clause-ok c =
    let some : 0 < length c.split_at.result.0.now = first_of (omega arith, grind arith, grind (arith, nat_tests)) in
    let needed : 1 < length c.split_at.result.0.now → get_or c.split_at.result.0.now 0 0 ≢ 48 =
    elim c.else-digits-gt1.branch [
      | else-digits-gt1-via-then-digits-gt1+else-digits-eq48 w ↦ λ long. w.if-digits-eq48.false
      | else-digits-gt1-via-else-digits-gt1 w ↦ λ long. absurd (omega arith)
    ] in
    rank_then c.args.rest.now c.split_at.result.0.now c.split_at.result.1.now c.in-Some.rank
    (split_of c.args.rest.now c.split_at.result.0.now c.split_at.result.1.now _ c.digits_len.ensures.value c.split_at.ensures.front c.split_at.ensures.back)
    some needed c.in-Some.ensures.0 c.in-Some.ensures.1

pub returns-in-None-clause-err : goal.returns-in-None-clause-err
returns-in-None-clause-err c =
    let some : 0 < length c.split_at.result.0.now = first_of (omega arith, grind arith, grind (arith, nat_tests)) in
    let needed : 1 < length c.split_at.result.0.now → get_or c.split_at.result.0.now 0 0 ≢ 48 =
    elim c.else-digits-gt1.branch [
      | else-digits-gt1-via-then-digits-gt1+else-digits-eq48 w ↦ λ long. w.if-digits-eq48.false
      | else-digits-gt1-via-else-digits-gt1 w ↦ λ long. absurd (omega arith)
    ] in (
      refl,
      too_big c.args.rest.now c.split_at.result.0.now c.split_at.result.1.now
          (split_of c.args.rest.now c.split_at.result.0.now c.split_at.result.1.now _ c.digits_len.ensures.value c.split_at.ensures.front c.split_at.ensures.back)
          some needed c.in-None.ensures,
    )
