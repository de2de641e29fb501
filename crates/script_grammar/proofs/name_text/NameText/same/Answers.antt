use Rattle.std.proofs.Common.{◌≡◌, sym, ◌∙◌, arith}
use Rattle.std.specs.Cmp.Lexicographic.{bytes_decides}
use Rattle.script_grammar.proofs.NameLemmas.{short_names}
use Rattle.script_grammar.proofs.name_text.NameText.same.Goals as goal

pub returns-then-self-le-COMPARED_FIRST : goal.returns-then-self-le-COMPARED_FIRST
returns-then-self-le-COMPARED_FIRST c =
    let e = short_names c.front_number.result c.front_number-2.result c.self.inside.room c.other.inside.room c.self.inside.length c.other.inside.length c.front_number.ensures.bytes c.front_number-2.ensures.bytes (omega arith) (omega arith) (omega arith) in
    sym ((bytes_decides c.args.self.now c.args.other.now).1 (sym c.self.view_is ∙ e ∙ c.other.view_is))
