use Rattle.std.proofs.Common.{arith}
use Rattle.ped_path.proofs.TextLemmas.{front-rank, front-take, front-whole, text-whole}
use Rattle.ped_path.proofs.text.write_pedigree.Goals as goal

pub returns-in_err-write_rank-clause-front : goal.returns-in_err-write_rank-clause-front
returns-in_err-write_rank-clause-front c =
    let e = c.in_err-write_rank.ensures.err in front-take c.j.inside.path c.args.j.now c.j.inside.rank c.loop-i.i _ _ c.j.view_is (cc)

pub returns-in_err-push-clause-front : goal.returns-in_err-push-clause-front
returns-in_err-push-clause-front c =
    let e = c.in_ok-write_rank.ensures.ok in
    let f = c.in_err-push.ensures.items in front-rank c.j.inside.path c.args.j.now c.j.inside.rank c.loop-i.i _ _ c.j.view_is (omega arith) (cc)

pub returns-in_err-write_rank-2-clause-front : goal.returns-in_err-write_rank-2-clause-front
returns-in_err-write_rank-2-clause-front c =
    let e = c.in_err-write_rank-2.ensures.err in front-take c.j.inside.path c.args.j.now c.j.inside.rank c.loop-i.i _ _ c.j.view_is (cc)

pub returns-clause-ok : goal.returns-clause-ok
returns-clause-ok c =
    let e = c.in_ok-write_rank-2.ensures.ok in text-whole c.j.inside.path c.args.j.now c.j.inside.rank c.loop-i.i _ _ c.j.view_is (omega arith) (cc)

pub returns-clause-front : goal.returns-clause-front
returns-clause-front c =
    let e = c.in_ok-write_rank-2.ensures.ok in
    front-whole _ _ _ (text-whole c.j.inside.path c.args.j.now c.j.inside.rank c.loop-i.i _ c.write_rank-2.new.out.items c.j.view_is (omega arith) (cc))
