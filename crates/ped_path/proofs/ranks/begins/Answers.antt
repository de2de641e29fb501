use Rattle.std.proofs.Common.{◌≡◌, ◌<◌, ℕ, length, take, sym, ◌∙◌, subst, arith}
use Rattle.ped_path.proofs.FrontLemmas.{front-all, front-differs}
use Rattle.ped_path.proofs.ranks.begins.Goals as goal

pub returns-then-rank : goal.returns-then-rank
returns-then-rank g c =
    let xs = g.A.Ranks.ranks c.args.list.now in
    let ys = g.B.Ranks.ranks c.args.front.now in
    let within : c.loop-i.i < length ys = let l = c.count-i-end.ensures in let t = c.loop-i-test.true in omega (arith, l, t) in
    sym (front-differs xs ys c.loop-i.i within (λ e. c.if-rank.true (c.rank.ensures ∙ e ∙ sym c.rank-in-loop-i.ensures)))

pub returns : goal.returns
returns g c =
    let xs = g.A.Ranks.ranks c.args.list.now in
    let ys = g.B.Ranks.ranks c.args.front.now in
    let all : c.loop-i.i ≡ length ys = let l = c.count-i-end.ensures in let t = c.loop-i-test.false in let e = c.loop-i.auto.i-end in omega (arith, l, t, e) in
    sym (front-all xs ys (subst (λ (n : ℕ). take n xs ≡ take n ys) all c.loop-i.invariant))
