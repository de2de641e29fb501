use Rattle.std.proofs.Common.{rules, IfOk, ◌≡◌, ◌++◌, ℕ, List, [], ap, ◌∙◌}
use Rattle.std.proofs.lemmas.Result.{IfOk-weaker}
use Rattle.script_excerpt.specs.Excerpts.{IsPlaceExcerpt, caret_line, place_line, text_lines}
use Rattle.script_excerpt.specs.Places.{line_of}
use Rattle.script_excerpt.proofs.lines.place_excerpt.Goals as goal

pub returns : goal.returns
returns c =
    let first : List ℕ = place_line (line_of c.args.text.now c.args.at) c.position_of-place.result.column in
    let second : List ℕ = text_lines c.args.text.now c.window-from.result.0 c.args.at c.window-from.result.1 in
    let third : List ℕ = c.in_ok-caret.caret.items in
    let one : c.in_ok-lines.lines.items ≡ first = search rules in
    let two : c.in_ok-lines-2.lines.items ≡ c.in_ok-lines.lines.items ++ second = search rules in
    let end : third ≡ caret_line c.args.message.now [] = search rules in
    let last : IfOk c.extended.result (λ lines. lines.items ≡ c.in_ok-lines-2.lines.items ++ third) = search rules in
    IfOk-weaker c.extended.result (λ lines. lines.items ≡ c.in_ok-lines-2.lines.items ++ third) (λ lines. IsPlaceExcerpt c.args.text.now c.args.at c.args.message.now lines.items)
    (λ lines three. record {
      column = c.position_of-place.result.column;
      from = c.window-from.result.0;
      to = c.window-from.result.1;
      is_column = c.position_of-place.ensures.column;
      is_window = c.window-from.ensures;
      whole = three ∙ ap (λ xs. c.in_ok-lines-2.lines.items ++ xs) end ∙ ap (λ xs. xs ++ caret_line c.args.message.now []) (two ∙ ap (λ xs. xs ++ second) one);
    })
    last
