-- What words are read as: a command, or the first rule that they break, with the index of the word that breaks it.
use Rattle.std.specs.Prelude.{ℕ, ◌==◌, if◌then◌else◌, Option, Some, None, Result, Err, List, length}
use Rattle.ped_words.specs.Judging.{first_broken, pairs_in}
use Rattle.ped_words.specs.Making.{made_command}
use Rattle.ped_words.specs.Rules.{breaks, unless_error}
use Rattle.ped_words.specs.Table.{subcommand_of}
use Rattle.ped_words.specs.Values.{option_values, word_at}
use Rattle.ped_words.specs.declared.command.Command.{Command}
use Rattle.ped_words.specs.declared.rule.Rule.TheVariants.{NoCommand, UnknownCommand}
use Rattle.ped_words.specs.declared.rule.WordError.{WordError}
use Rattle.ped_words.specs.declared.table.Subcommand.{Subcommand}

-- Each pair is judged before what depends on several of them.
abbrev pub reading_as : Option Subcommand → List (List ℕ) → Result Command WordError
reading_as None words = Err (breaks UnknownCommand 0)
reading_as (Some subcommand) words = unless_error (first_broken subcommand words) (made_command subcommand (option_values words (pairs_in words)) (length words))

-- A function, so each list of words has one reading: one command, or one rule that is broken first.
unfoldable pub reading : List (List ℕ) → Result Command WordError
reading words = if length words == 0 then Err (breaks NoCommand 0) else reading_as (subcommand_of (word_at words 0)) words
