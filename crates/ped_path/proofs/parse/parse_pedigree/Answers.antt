use Rattle.std.proofs.Common.{◌<◌, ◌≡◌, length, arith, refl}
use Rattle.std.proofs.lemmas.Bool.Decides.{nat_tests}
use Rattle.ped_path.proofs.ParseLemmas.{after_first, len_small, not_empty, read_more, read_short, read_whole, refused_after}
use Rattle.ped_path.proofs.parse.parse_pedigree.Goals as goal

pub overflow_cast-end : goal.overflow_cast-end
overflow_cast-end c =
    let l = len_small c.loop-count.rest.now c.in_ok-rank.after.now c.in_ok-rank.rank c.in_ok-rank.ensures.ok in omega (arith, l)

pub overflow_add-end : goal.overflow_add-end
overflow_add-end c =
    let l = len_small c.loop-count.rest.now c.in_ok-rank.after.now c.in_ok-rank.rank c.in_ok-rank.ensures.ok in
    let s = c.loop-count.invariant.small in omega (arith, l, s)

pub overflow_add-at : goal.overflow_add-at
overflow_add-at c =
    let l = len_small c.loop-count.rest.now c.in_ok-rank.after.now c.in_ok-rank.rank c.in_ok-rank.ensures.ok in
    let s = c.loop-count.invariant.small in omega (arith, l, s)

pub returns-then-is_empty-2-clause-ok : goal.returns-then-is_empty-2-clause-ok
returns-then-is_empty-2-clause-ok c =
    let none : length c.in_ok-rank.after.now ≡ 0 = first_of (omega arith, grind arith, grind (arith, nat_tests)) in (
      read_whole c.args.text.now c.loop-count.path _ c.loop-count._count c.loop-count.at c.in_ok-rank.rank c.loop-count.rest.now c.in_ok-rank.after.now c.loop-count.invariant c.in_ok-rank.ensures.ok none refl,
      read_short c.args.text.now c.loop-count.path _ c.loop-count._count c.loop-count.at c.in_ok-rank.rank c.loop-count.rest.now (omega arith) c.loop-count.invariant refl,
    )

pub returns-then-after-ne46-clause-err : goal.returns-then-after-ne46-clause-err
returns-then-after-ne46-clause-err c =
    let some : 0 < length c.args.text.now = first_of (omega arith, grind arith, grind (arith, nat_tests)) in
    let more : 0 < length c.in_ok-rank.after.now = first_of (omega arith, grind arith, grind (arith, nat_tests)) in
    refused_after c.args.text.now c.loop-count.path c.loop-count._count c.loop-count.at _ c.in_ok-rank.rank c.loop-count.rest.now c.in_ok-rank.after.now
    (not_empty c.args.text.now some) (omega arith) c.loop-count.invariant c.in_ok-rank.ensures.ok refl more c.if-after-ne46.true

pub loop-count-preserved : goal.loop-count-preserved
loop-count-preserved c =
    let more : 0 < length c.in_ok-rank.after.now = first_of (omega arith, grind arith, grind (arith, nat_tests)) in
    read_more c.args.text.now c.loop-count.path c.in_ok-path-2.path c.loop-count.rest.now c.in_ok-rank.after.now _ c.loop-count._count c.loop-count.at _ c.in_ok-rank.rank
    c.loop-count.invariant c.in_ok-rank.ensures.ok c.in_ok-path-2.ensures refl more c.if-after-ne46.false (after_first c.in_ok-rank.after.now)
