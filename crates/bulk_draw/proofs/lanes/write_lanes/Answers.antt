use Rattle.std.proofs.Common.{◌≡◌, ◌∙◌, ◌+◌, ◌++◌, ap, sym, get_or, take, arith}
use Rattle.std.specs.Prelude.{set}
use Rattle.std.proofs.lemmas.List.{drop-drop}
use Rattle.std.proofs.lemmas.List.Edits.{paste_all, paste_more, paste_none}
use lib.Seq.{paste}
use Rattle.bulk_draw.proofs.lanes.write_lanes.Goals as goal

pub loop-i-init : goal.loop-i-init
loop-i-init c = paste_none c.args.out.now c.args.start c.args.lanes.now

pub loop-i-preserved : goal.loop-i-preserved
loop-i-preserved c =
    ap (λ xs. set xs (c.args.start + c.loop-i.i) (get_or c.args.lanes.now c.loop-i.i 0)) c.loop-i.invariant ∙ paste_more c.args.out.now c.args.start c.args.lanes.now c.loop-i.i 0 (omega arith) (omega arith)

pub returns : goal.returns
returns c =
    let all : c.loop-i.i ≡ 8 = omega arith in
    c.loop-i.invariant ∙ ap (paste c.args.out.now c.args.start c.args.lanes.now) all ∙ paste_all c.args.out.now c.args.start c.args.lanes.now 8 (omega arith) ∙ ap (λ rest. take c.args.start c.args.out.now ++ (c.args.lanes.now ++ rest)) (sym (drop-drop 8 c.args.start c.args.out.now))
