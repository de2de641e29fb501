use Rattle.std.proofs.Common.{sym}
use Rattle.ped_words.proofs.PedigreeLemmas.{ped_good, ped_refused}
use Rattle.ped_words.proofs.value.pedigree_in.Goals as goal

pub returns-in-Ok-clause-read : goal.returns-in-Ok-clause-read
returns-in-Ok-clause-read c =
    let good = ped_good c.args.word.now c.in-Ok.pedigree c.in-Ok.ensures.ok.0 c.rank_count.ensures.some c.rank_count.ensures.ranks c.in-Ok.ensures.ok.1 in
    (good.0, good.1, c.in-Ok.ensures.ok.1)

pub returns-in-Some-clause-read : goal.returns-in-Some-clause-read
returns-in-Some-clause-read c = ped_refused c.args.word.now c.in-Err.error c.in-Some.rule c.in-Err.ensures.err (sym c.in-Some.ensures)
