use Rattle.std.proofs.Common.{Some, length, ◌∙◌, ap, rules}
use Rattle.ped_words.specs.Given.{IsIndexedList, values_in}
use Rattle.ped_words.specs.declared.table.OptionName.TheVariants as name
use Rattle.ped_words.proofs.GammaLemmas.{gamma_err, gamma_ok, seed_long}
use Rattle.ped_words.proofs.given.Given.coefficients.Goals as goal

pub returns-in-Ok-clause-fits : goal.returns-in-Ok-clause-fits
returns-in-Ok-clause-fits c =
    let placed : IsIndexedList (values_in c.args.self.now) name.Gamma (Some (c.deref.result.now, c.in-Some.at)) = search rules in
    (gamma_ok (values_in c.args.self.now) c.deref.result.now c.in-Some.at c.args.depth placed c.in-Ok.gamma
    (record { too_many = c.in-Ok.ensures.too_many; too_big = c.in-Ok.ensures.too_big })
    c.in-Ok.ensures.ok).1

pub returns-in-Some-clause-err : goal.returns-in-Some-clause-err
returns-in-Some-clause-err c =
    let placed : IsIndexedList (values_in c.args.self.now) name.Gamma (Some (c.deref.result.now, c.in-Some.at)) = search rules in
    gamma_err (values_in c.args.self.now) c.deref.result.now c.in-Some.at c.args.depth placed c.in-Err.error c.gamma_error.result
    (record { too_many = c.in-Err.ensures.too_many; too_big = c.in-Err.ensures.too_big })
    c.gamma_error.ensures

pub returns-clause-long : goal.returns-clause-long
returns-clause-long c = ap length c.in_ok-of_seed-in-None.ensures ∙ seed_long c.unwrap_or-seed.result c.args.depth
