-- What the first word of a batch is.
use Rattle.std.proofs.Common.{◌≡◌, ℕ, ◌<◌, Bool, true, false, cond, eqb, Option, Some, None, Result, Ok, Err, List, [], ◌∷◌, length, codes, refl, ap, sym, ◌∙◌, arith, subst}
use Rattle.std.specs.Prelude.{IsFalse, IsTrue, option_and_then}
use Rattle.std.specs.Option.{option_map}
use Rattle.std.specs.Str.{bytes_eq}
use Rattle.std.proofs.lemmas.Bool.Decides.{nat_tests}
use Rattle.std.proofs.lemmas.Slice.Eq.{bytes_eq-Decides}
use Rattle.ped_words.specs.Commands.{is_batch}
use Rattle.ped_words.specs.Making.{command_of, made_of}
use Rattle.ped_words.specs.Reading.{reading, reading_as}
use Rattle.ped_words.specs.Rules.{unless_error}
use Rattle.ped_words.specs.Table.{lookup, subcommand_of}
use Rattle.ped_words.specs.Values.{OptionValues, number_value, pedigree, shape, word_at}
use Rattle.ped_words.specs.declared.command.Command.{Command}
use Rattle.ped_words.specs.declared.rule.WordError.{WordError}
use Rattle.ped_words.specs.declared.table.OptionName.TheVariants as name
use Rattle.ped_words.specs.declared.table.Subcommand.{Subcommand}
use Rattle.ped_words.specs.declared.table.Subcommand.TheVariants as subcommand

-- A command that comes of this isn't a batch.
abbrev NoBatch : Option Command → Type 0
NoBatch o = (c : Command) → o ≡ Some c → IsFalse (is_batch c)

at_some : (d : Command) → IsFalse (is_batch d) → NoBatch (Some d)
at_some d none c e = let same : d ≡ c = cc in let P : Command → Type 0 = λ x. IsFalse (is_batch x) in subst P same none

at_map : {X : Type 0} (f : X → Command) → ((x : X) → IsFalse (is_batch (f x))) → (o : Option X) → NoBatch (option_map f o)
at_map {X} f none None c e = absurd (cc)
at_map {X} f none (Some x) c e = at_some (f x) (none x) c e

at_then : {X : Type 0} (f : X → Option Command) → ((x : X) → NoBatch (f x)) → (o : Option X) → NoBatch (option_and_then f o)
at_then {X} f none None c e = absurd (cc)
at_then {X} f none (Some x) c e = none x c e

-- Of the commands one alone makes a batch.
other_subcommands : (v : Subcommand) (values : OptionValues) → (v ≡ subcommand.Batch → ⊥) → NoBatch (command_of v values)
other_subcommands subcommand.Run values other = at_some _ refl
other_subcommands subcommand.Serial values other = at_some _ refl
other_subcommands subcommand.Sim values other = at_map _ (λ n. refl) (number_value values name.Number)
other_subcommands subcommand.Replay values other = at_map _ (λ j. refl) (pedigree values)
other_subcommands subcommand.Hash values other = at_map _ (λ j. refl) (pedigree values)
other_subcommands subcommand.Check values other = at_some _ refl
other_subcommands subcommand.Fmt values other = at_some _ refl
other_subcommands subcommand.Gen values other = at_then _ (λ s. at_map _ (λ n. refl) (number_value values name.Size)) (shape values)
other_subcommands subcommand.Stream values other = at_then _ (λ j. at_map _ (λ n. refl) (number_value values name.Count)) (pedigree values)
other_subcommands subcommand.Span values other = at_some _ refl
other_subcommands subcommand.Batch values other = absurd (other refl)

-- A row of a table gives this, and its word is the one that was looked for, or a later row does.
at_row : {X : Type 0} (P : Type 0) (key word : List ℕ) (value x : X) (rows : List (List ℕ × X)) → (word ≡ key → value ≡ x → P) → (lookup rows word ≡ Some x → P) → lookup ((key, value) ∷ rows) word ≡ Some x → P
at_row {X} P key word value x rows here later e = by (bytes_eq word key) refl
  where
    by : (b : Bool) → bytes_eq word key ≡ b → P
    by true is =
        let found : Some value ≡ Some x = sym (ap (λ t. cond t (Some value) (lookup rows word)) is) ∙ e in
        here ((bytes_eq-Decides word key).0 is) (cc)
    by false is = later (sym (ap (λ t. cond t (Some value) (lookup rows word)) is) ∙ e)

-- the rows of the table of commands after each command
abbrev after_span : List (List ℕ × Subcommand)
after_span = (codes "batch", subcommand.Batch) ∷ []

abbrev after_stream : List (List ℕ × Subcommand)
after_stream = (codes "span", subcommand.Span) ∷ after_span

abbrev after_gen : List (List ℕ × Subcommand)
after_gen = (codes "stream", subcommand.Stream) ∷ after_stream

abbrev after_fmt : List (List ℕ × Subcommand)
after_fmt = (codes "gen", subcommand.Gen) ∷ after_gen

abbrev after_check : List (List ℕ × Subcommand)
after_check = (codes "fmt", subcommand.Fmt) ∷ after_fmt

abbrev after_hash : List (List ℕ × Subcommand)
after_hash = (codes "check", subcommand.Check) ∷ after_check

abbrev after_replay : List (List ℕ × Subcommand)
after_replay = (codes "hash", subcommand.Hash) ∷ after_hash

abbrev after_sim : List (List ℕ × Subcommand)
after_sim = (codes "replay", subcommand.Replay) ∷ after_replay

abbrev after_serial : List (List ℕ × Subcommand)
after_serial = (codes "sim", subcommand.Sim) ∷ after_sim

abbrev after_run : List (List ℕ × Subcommand)
after_run = (codes "serial", subcommand.Serial) ∷ after_serial

batch_word : (word : List ℕ) → subcommand_of word ≡ Some subcommand.Batch → word ≡ codes "batch"
batch_word word =
    at_row (word ≡ codes "batch") (codes "run") word subcommand.Run subcommand.Batch after_run (λ w v. absurd (cc))
    (at_row (word ≡ codes "batch") (codes "serial") word subcommand.Serial subcommand.Batch after_serial (λ w v. absurd (cc))
    (at_row (word ≡ codes "batch") (codes "sim") word subcommand.Sim subcommand.Batch after_sim (λ w v. absurd (cc))
    (at_row (word ≡ codes "batch") (codes "replay") word subcommand.Replay subcommand.Batch after_replay (λ w v. absurd (cc))
    (at_row (word ≡ codes "batch") (codes "hash") word subcommand.Hash subcommand.Batch after_hash (λ w v. absurd (cc))
    (at_row (word ≡ codes "batch") (codes "check") word subcommand.Check subcommand.Batch after_check (λ w v. absurd (cc))
    (at_row (word ≡ codes "batch") (codes "fmt") word subcommand.Fmt subcommand.Batch after_fmt (λ w v. absurd (cc))
    (at_row (word ≡ codes "batch") (codes "gen") word subcommand.Gen subcommand.Batch after_gen (λ w v. absurd (cc))
    (at_row (word ≡ codes "batch") (codes "stream") word subcommand.Stream subcommand.Batch after_stream (λ w v. absurd (cc))
    (at_row (word ≡ codes "batch") (codes "span") word subcommand.Span subcommand.Batch after_span (λ w v. absurd (cc))
    (at_row (word ≡ codes "batch") (codes "batch") word subcommand.Batch subcommand.Batch [] (λ w v. w) (λ e. absurd (cc))))))))))))

unless_ok : {X : Type 0} (broken : Option WordError) (r : Result X WordError) (x : X) → unless_error broken r ≡ Ok x → r ≡ Ok x
unless_ok {X} None r x e = e
unless_ok {X} (Some error) r x e = absurd (cc)

kept_ok : (broken : Option WordError) (d c : Command) → unless_error broken (Ok d) ≡ Ok c → Some d ≡ Some c
kept_ok None d c e = cc
kept_ok (Some error) d c e = absurd (cc)

made_ok : (broken : Option WordError) (words : ℕ) (o : Option Command) (c : Command) → made_of broken words o ≡ Ok c → o ≡ Some c
made_ok broken words None c e = absurd (cc)
made_ok broken words (Some d) c e = kept_ok broken d c e

some_words : (n : ℕ) → 0 < n → eqb n 0 ≡ false
some_words n some = grind (arith, nat_tests)

by_false : {X : Type 0} (b : Bool) (x y z : X) → b ≡ false → cond b x y ≡ z → y ≡ z
by_false {X} true x y z is e = absurd (cc)
by_false {X} false x y z is e = e

-- Words that give a batch say so first.
pub batch_is_first : (words : List (List ℕ)) (c : Command) → reading words ≡ Ok c → (word_at words 0 ≡ codes "batch" → ⊥) → IsFalse (is_batch c)
unfolding reading
batch_is_first [] c e other = absurd (cc)
batch_is_first (word ∷ others) c e other =
    let words = word ∷ others in
    let some : eqb (length words) 0 ≡ false = some_words (length words) (omega arith) in
    let read = by_false (eqb (length words) 0) _ (reading_as (subcommand_of (word_at words 0)) words) (Ok c) some e in
    by (subcommand_of (word_at words 0)) refl read
  where
    by : (o : Option Subcommand) → subcommand_of (word_at (word ∷ others) 0) ≡ o → reading_as o (word ∷ others) ≡ Ok c → IsFalse (is_batch c)
    by None is read = absurd (cc)
    by (Some v) is read =
        other_subcommands v _ (λ batch. other (batch_word (word_at (word ∷ others) 0) (is ∙ ap Some batch))) c (made_ok _ _ _ c (unless_ok _ _ c read))
