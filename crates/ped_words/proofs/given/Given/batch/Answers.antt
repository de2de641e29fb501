use Rattle.std.proofs.Common.{length, rules}
use Rattle.ped_words.specs.Table.{value_type_of}
use Rattle.ped_words.specs.Given.{HasCount}
use Rattle.ped_words.specs.declared.table.OptionName.TheVariants as name
use Rattle.ped_words.proofs.GammaLemmas.{batch_within}
use Rattle.ped_words.proofs.given.Given.batch.Goals as goal

pub returns-clause-lawful : goal.returns-clause-lawful
returns-clause-lawful c =
    let count : HasCount (value_type_of name.Seeds) (length c.in-Some.seeds.items) = search rules in
    (batch_within c.in-Some.seeds.items c.limits.result c.rounds.result count c.limits.ensures.depth c.limits.ensures.budget c.rounds.ensures.range, c.workers.ensures.range)
