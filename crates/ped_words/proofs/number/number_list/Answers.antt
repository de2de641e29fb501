use Rattle.std.proofs.Common.{◌≡◌, true, false, length, arith, rules}
use Rattle.std.specs.List.{list_all}
use Rattle.std.proofs.lemmas.Bool.Decides.{nat_tests}
use Rattle.ped_words.specs.Numbers.{are_few, is_number}
use Rattle.ped_words.proofs.NumberLemmas.{count_broken, form_broken, list_good, range_broken}
use Rattle.ped_words.proofs.number.number_list.Goals as goal

pub returns-then-not-all_numbers : goal.returns-then-not-all_numbers
returns-then-not-all_numbers c = form_broken c.args.word.now c.in_ok-parts.parts.items c.in_ok-parts.ensures c.args.most (search rules)

pub returns-then-not-are_few : goal.returns-then-not-are_few
returns-then-not-are_few c =
    let good : list_all (λ x. is_number x.now) c.in_ok-parts.parts.items ≡ true = search rules in
    let many : are_few c.args.most (length c.in_ok-parts.parts.items) ≡ false = first_of (search rules, grind (arith, nat_tests)) in
    count_broken c.args.word.now c.in_ok-parts.parts.items c.in_ok-parts.ensures c.args.most good many

pub returns-in-Some : goal.returns-in-Some
returns-in-Some c =
    let good : list_all (λ x. is_number x.now) c.in_ok-parts.parts.items ≡ true = search rules in
    let few : are_few c.args.most (length c.in_ok-parts.parts.items) ≡ true = first_of (search rules, grind (arith, nat_tests)) in
    list_good c.args.word.now c.in_ok-parts.parts.items c.in_ok-parts.ensures c.args.most c.in-Some.numbers.items good few (search rules)

pub returns : goal.returns
returns c =
    let good : list_all (λ x. is_number x.now) c.in_ok-parts.parts.items ≡ true = search rules in
    let few : are_few c.args.most (length c.in_ok-parts.parts.items) ≡ true = first_of (search rules, grind (arith, nat_tests)) in
    range_broken c.args.word.now c.in_ok-parts.parts.items c.in_ok-parts.ensures c.args.most good few (search rules)
