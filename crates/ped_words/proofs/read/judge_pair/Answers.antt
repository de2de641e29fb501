use Rattle.std.proofs.Common.{◌≡◌, ℕ, ◌+◌, ◌*◌, false, Option, Some, None, Result, Ok, Err, List, length, map, sym, ◌∙◌, ap, refl, arith}
use Rattle.std.specs.Prelude.{OnOk, IfErr, option_and_then, string_bytes}
use Rattle.std.specs.Option.{option_or}
use Rattle.std.proofs.lemmas.List.{length-map}
use Rattle.ped_words.specs.Judging.{broken_name, broken_pair, broken_value, type_rule, value_rule}
use Rattle.ped_words.specs.Rules.{broken_at, IsRefusal}
use Rattle.ped_words.specs.Given.{values_in}
use Rattle.ped_words.specs.Values.{has, name_word, value_word, option_values, word_at}
use Rattle.ped_words.specs.Table.{value_type_of, name_of}
use Rattle.ped_words.specs.declared.rule.Rule.{Rule}
use Rattle.ped_words.specs.declared.rule.WordError.{WordError}
use Rattle.ped_words.specs.declared.table.ValueType.{ValueType}
use Rattle.ped_words.specs.declared.table.OptionName.{OptionName}
use Rattle.ped_words.specs.declared.table.Subcommand.{Subcommand}
use Rattle.ped_words.proofs.RuleLemmas.{refused_as}
use Rattle.ped_words.proofs.ValueLemmas.{count_pair, same_name}
use Rattle.ped_words.proofs.read.judge_pair.Goals as goal

-- What is known after the name of a pair that breaks no rule.
record Named (subcommand : Subcommand) (words : List (List ℕ)) (k : ℕ) (n : OptionName) (value_type : ValueType) (word : List ℕ) (at : ℕ) : Type 0 where
  judged : broken_pair subcommand words k ≡ broken_at (2 * k + 2) (value_rule n (value_word words k))
  kind_is : value_type ≡ value_type_of n
  value : word ≡ value_word words k
  place : at ≡ 2 * k + 2

broken_same : (subcommand : Subcommand) (words : List (List ℕ)) (k : ℕ) (n : OptionName) (value_type : ValueType) (word : List ℕ) (at : ℕ) → Named subcommand words k n value_type word at → broken_pair subcommand words k ≡ broken_at at (type_rule value_type word)
broken_same subcommand words k n value_type word at h =
    h.judged ∙ ap (λ w. broken_at (2 * k + 2) (value_rule n w)) (sym h.value) ∙ ap (λ i. broken_at i (value_rule n word)) (sym h.place) ∙ ap (λ q. broken_at at (type_rule q word)) (sym h.kind_is)

on_ok : (P : Type 0) (r : Result (Unit {0}) WordError) → P → OnOk r P
on_ok P (Ok u) p = p
on_ok P (Err e) p = tt

module _ (subcommand : Subcommand) (words : List (List ℕ)) (k : ℕ) (n : OptionName) (value_type : ValueType) (word : List ℕ) (at : ℕ) (h : Named subcommand words k n value_type word at) where
  no_rule : (r : Result (Unit {0}) WordError) → OnOk r (type_rule value_type word ≡ None) → OnOk r (broken_pair subcommand words k ≡ None)
  no_rule (Ok u) none = broken_same subcommand words k n value_type word at h ∙ ap (broken_at at) none
  no_rule (Err e) none = tt

  refused : (r : Result (Unit {0}) WordError) → IfErr r (IsRefusal (broken_at at (type_rule value_type word))) → IfErr r (IsRefusal (broken_pair subcommand words k))
  refused (Ok u) h2 = tt
  refused (Err e) h2 = refused_as _ _ e (broken_same subcommand words k n value_type word at h) h2

-- the first rule that a pair breaks, by that of its name
by_name : (subcommand : Subcommand) (words : List (List ℕ)) (k : ℕ) (o : Option Rule) → broken_name subcommand words k ≡ o → broken_pair subcommand words k ≡ option_or (broken_at (2 * k + 1) o) (broken_at (2 * k + 2) (broken_value words k))
by_name subcommand words k o is = ap (λ r. option_or (broken_at (2 * k + 1) r) (broken_at (2 * k + 2) (broken_value words k))) is

pub returns-in-Err-clause-err : goal.returns-in-Err-clause-err
returns-in-Err-clause-err c =
    let words = map string_bytes c.args.words.now in
    let same = same_name
    c.args.subcommand
    words
    c.args.pair
    (length c.args.words.now)
    (2 * c.args.pair + 1 + 1)
    (values_in c.new-given.result)
    c.text_at.result.now
    (ap values_in c.new-given.ensures)
    c.text_at.ensures
    (sym (length-map c.args.words.now string_bytes))
    (omega arith)
    in refused_as _ _ c.at.result (by_name c.args.subcommand words c.args.pair (Some c.in-Err.rule) (same ∙ c.in-Err.ensures.err)) (rw c.at.ensures refl)

name_known : (c : goal.After-judge_value) → Named c.args.subcommand (map string_bytes c.args.words.now) c.args.pair c.in-Ok.name c.value_type.result c.text_at-2.result.now (2 * c.args.pair + 1 + 1)
name_known c =
    let words = map string_bytes c.args.words.now in
    let next : 2 * c.args.pair + 1 + 1 ≡ 2 * c.args.pair + 2 = omega arith in
    let same = same_name
    c.args.subcommand
    words
    c.args.pair
    (length c.args.words.now)
    (2 * c.args.pair + 1 + 1)
    (values_in c.new-given.result)
    c.text_at.result.now
    (ap values_in c.new-given.ensures)
    c.text_at.ensures
    (sym (length-map c.args.words.now string_bytes))
    next
    in let named : name_of (name_word words c.args.pair) ≡ Some c.in-Ok.name = ap name_of (sym c.text_at.ensures) ∙ c.in-Ok.ensures.named in
    record {
      judged = by_name c.args.subcommand words c.args.pair None (same ∙ c.in-Ok.ensures.ok)
          ∙ ap (λ o. broken_at (2 * c.args.pair + 2) (option_and_then (λ n. value_rule n (value_word words c.args.pair)) o)) named;
      kind_is = c.value_type.ensures;
      value = c.text_at-2.ensures ∙ ap (word_at words) next;
      place = next;
    }

pub returns-clause-broken : goal.returns-clause-broken
returns-clause-broken c = no_rule _ _ _ _ _ _ _ (name_known c) c.judge_value.result c.judge_value.ensures.ok

pub returns-clause-counted : goal.returns-clause-counted
returns-clause-counted c =
    let words = map string_bytes c.args.words.now in
    let named : name_of (name_word words c.args.pair) ≡ Some c.in-Ok.name = ap name_of (sym c.text_at.ensures) ∙ c.in-Ok.ensures.named in
    let fresh : has (option_values words c.args.pair) c.in-Ok.name ≡ false = ap (λ g. has (values_in g) c.in-Ok.name) (sym c.new-given.ensures) ∙ c.in-Ok.ensures.fresh in
    on_ok _ c.judge_value.result (count_pair words c.args.pair c.in-Ok.name named fresh)

pub returns-clause-err : goal.returns-clause-err
returns-clause-err c = refused _ _ _ _ _ _ _ (name_known c) c.judge_value.result c.judge_value.ensures.err
