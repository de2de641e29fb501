use Rattle.std.proofs.Common.{◌≡◌, ℕ, ◌<◌, ◌/◌, false, cond, eqb, None, Some, Err, List, length, map, sym, ◌∙◌, ap, subst, arith, rules}
use Rattle.std.specs.Prelude.{string_bytes}
use Rattle.std.proofs.lemmas.List.{length-map}
use Rattle.std.proofs.lemmas.Bool.Decides.{nat_tests}
use Rattle.ped_words.specs.Judging.{first_broken, pairs_in}
use Rattle.ped_words.specs.Making.{made_command}
use Rattle.ped_words.specs.Reading.{reading, reading_as}
use Rattle.ped_words.specs.Rules.{IsUnlessMemory, breaks, unless_error}
use Rattle.ped_words.specs.Table.{subcommand_of}
use Rattle.ped_words.specs.Given.{GivenWords, values_in}
use Rattle.ped_words.specs.Values.{option_values, word_at}
use Rattle.ped_words.specs.declared.rule.Rule.TheVariants.{NoCommand}
use Rattle.ped_words.specs.declared.table.Subcommand.{Subcommand}
use Rattle.ped_words.proofs.read.read_words.Goals as goal

some_words : (n : ℕ) → 0 < n → eqb n 0 ≡ false
some_words n some = grind (arith, nat_tests)

reading_made : (words : List (List ℕ)) (subcommand : Subcommand) → 0 < length words → subcommand_of (word_at words 0) ≡ Some subcommand → first_broken subcommand words ≡ None → reading words ≡ made_command subcommand (option_values words (pairs_in words)) (length words)
unfolding reading
reading_made words subcommand some named whole =
    ap (λ b. cond b (Err (breaks NoCommand 0)) (reading_as (subcommand_of (word_at words 0)) words)) (some_words (length words) some) ∙ ap (λ o. reading_as o words) named ∙ ap (λ b. unless_error b (made_command subcommand (option_values words (pairs_in words)) (length words))) whole

pub returns-clause-value : goal.returns-clause-value
returns-clause-value c =
    let words = map string_bytes c.args.words.now in
    let long = length-map c.args.words.now string_bytes in
    let given_some : 0 < length c.args.words.now = first_of (search rules, grind (arith, nat_tests)) in
    let some : 0 < length words = omega (arith, long, given_some) in
    let named : subcommand_of (word_at words 0) ≡ Some c.in-Some.subcommand = ap subcommand_of (sym c.text_at.ensures) ∙ search rules in
    let given : c.new-given.result ≡ record { words = words; pairs = pairs_in words } = c.new-given.ensures ∙ ap (λ n. record { words = words; pairs = n / 2 }) (sym long) in
    let G : GivenWords → Type 0 = λ g. IsUnlessMemory (made_command c.in-Some.subcommand (values_in g) (length g.words)) c.command.result in
    subst (λ r. IsUnlessMemory r c.command.result) (sym (reading_made words c.in-Some.subcommand some named c.in_ok-judge_pairs.ensures.broken)) (subst G given c.command.ensures.value)
