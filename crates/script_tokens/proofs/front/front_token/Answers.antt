use Rattle.std.proofs.Common.{◌∙◌, sym, ap, subst}
use Rattle.std.specs.Prelude.{unwrap_or}
use Rattle.script_tokens.specs.declared.token.Word.TheVariants.{Name}
use Rattle.script_tokens.specs.Lexing.{BeginsNoToken, Fronts}
use Rattle.script_tokens.proofs.Longest.{letter_front, digit_front, long_front, short_front, no_symbol_front}
use Rattle.script_tokens.proofs.front.front_token.Goals as goal

pub returns-then-is_letter : goal.returns-then-is_letter
returns-then-is_letter c =
    letter_front c.args.version _ _ _ _ _ c.in_ok-first.ensures.cases.0 (sym c.is_letter.ensures ∙ c.if-is_letter.true) c.name_length-end.ensures.value
    (c.unwrap_or.ensures ∙ ap (λ k. unwrap_or k Name) c.keyword.ensures)

pub returns-then-is_ascii_digit : goal.returns-then-is_ascii_digit
returns-then-is_ascii_digit c =
    digit_front c.args.version _ _ _ _ c.in_ok-first.ensures.cases.0 (sym c.is_letter.ensures ∙ c.if-is_letter.false)
    (sym c.is_ascii_digit.ensures.value ∙ c.if-is_ascii_digit.true) c.digits_length.ensures.value

pub returns-in-Some : goal.returns-in-Some
returns-in-Some c =
    long_front c.args.version _ _ _ _ c.in_ok-first.ensures.cases.0 (sym c.is_letter.ensures ∙ c.if-is_letter.false)
    (sym c.is_ascii_digit.ensures.value ∙ c.if-is_ascii_digit.false) (sym c.in-Some.is ∙ c.long_symbol_at.ensures)

pub returns-in_err-short_symbol : goal.returns-in_err-short_symbol
returns-in_err-short_symbol c =
    let none : BeginsNoToken c.args.version c.args.bytes.now =
    no_symbol_front c.args.version _ _ _ c.in_ok-first.ensures.cases.0 (sym c.is_letter.ensures ∙ c.if-is_letter.false)
    (sym c.is_ascii_digit.ensures.value ∙ c.if-is_ascii_digit.false) (sym c.in_default.is ∙ c.long_symbol_at.ensures)
    (sym c.in_err-short_symbol.was ∙ c.short_symbol.ensures) in
    subst (Fronts c.args.version c.args.bytes.now) (sym c.from_residual-in_err-short_symbol.ensures) none

pub returns : goal.returns
returns c =
    short_front c.args.version _ _ _ _ c.in_ok-first.ensures.cases.0 (sym c.is_letter.ensures ∙ c.if-is_letter.false)
    (sym c.is_ascii_digit.ensures.value ∙ c.if-is_ascii_digit.false) (sym c.in_default.is ∙ c.long_symbol_at.ensures)
    (sym c.in_ok-short_symbol.was ∙ c.short_symbol.ensures)
