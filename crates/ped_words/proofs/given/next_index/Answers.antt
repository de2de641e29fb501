use Rattle.std.proofs.Common.{map, string_bytes, sym, ◌∙◌, arith}
use Rattle.std.proofs.lemmas.List.{length-map}
use Rattle.ped_words.proofs.ValueLemmas.{index_before, index_here}
use Rattle.ped_words.proofs.given.next_index.Goals as goal

pub returns-then-names_option : goal.returns-then-names_option
returns-then-names_option c =
    let long = length-map c.args.words.now string_bytes in
    index_here (map string_bytes c.args.words.now) c.args.pair c.args.name c.text_at.result.now c.text_at.ensures (sym c.names_option.ensures ∙ c.if-names_option.true) (omega (arith, long, c.requires.within))

pub returns-else-names_option : goal.returns-else-names_option
returns-else-names_option c =
    index_before (map string_bytes c.args.words.now) c.args.pair c.args.name c.text_at.result.now c.text_at.ensures (sym c.names_option.ensures ∙ c.if-names_option.false) c.args.before c.requires.before
