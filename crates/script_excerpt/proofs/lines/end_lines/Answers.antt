use Rattle.std.proofs.Common.{rules, IfOk, ◌≡◌, ◌++◌, codes, [], inl, inr}
use Rattle.std.proofs.lemmas.Result.{IfOk-weaker}
use Rattle.script_excerpt.specs.Excerpts.{IsEnd, caret_line}
use Rattle.script_excerpt.proofs.lines.end_lines.Goals as goal

pub returns-in_ok-line-in-Some : goal.returns-in_ok-line-in-Some
returns-in_ok-line-in-Some c =
    IfOk-weaker c.with_line.result (λ end. end.items ≡ caret_line c.args.message.now [] ++ c.in-Some.reason.now ++ codes "\n") (λ end. IsEnd c.args.text.now c.args.at c.args.message.now end.items)
    (λ end is. inr (c.in-Some.reason.now, is))
    (search rules)

pub returns-in_ok-advice-in-None : goal.returns-in_ok-advice-in-None
returns-in_ok-advice-in-None c =
    IfOk-weaker c.caret_line-in-None.result (λ end. end.items ≡ caret_line c.args.message.now c.in_ok-advice-in-None.advice.items) (λ end. IsEnd c.args.text.now c.args.at c.args.message.now end.items)
    (λ end is. inl (c.in_ok-advice-in-None.advice.items, c.in_ok-advice-in-None.ensures, is))
    (search rules)
