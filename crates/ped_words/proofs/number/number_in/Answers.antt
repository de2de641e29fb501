use Rattle.std.proofs.Common.{◌≡◌, true, arith, rules}
use Rattle.std.proofs.lemmas.Bool.Decides.{nat_tests}
use Rattle.ped_words.specs.Numbers.{is_number}
use Rattle.ped_words.proofs.NumberLemmas.{number_rule-refused}
use Rattle.ped_words.proofs.number.number_in.Goals as goal

pub returns-in_default-3-clause-err : goal.returns-in_default-3-clause-err
returns-in_default-3-clause-err c =
    let number : is_number c.args.word.now ≡ true = first_of (cc, search rules, grind (arith, nat_tests)) in
    number_rule-refused c.args.least c.args.most c.args.word.now c.in_default.field-0 (omega arith) number c.in_default.ensures.value.0
