use Rattle.std.proofs.Common.{subst}
use Rattle.script_tokens.specs.Lexing.{Fronts, token}
use Rattle.script_tokens.proofs.LexingLemmas.{below_128, not_below_128, stands_end, stands_no_token, stands_not_ascii}
use Rattle.script_tokens.proofs.lexing.lexeme_at.Goals as goal

pub returns-in_default : goal.returns-in_default
returns-in_default c = stands_end c.args.version _ _ c.in_default.ensures.cases

pub returns-then-not-is_ascii : goal.returns-then-not-is_ascii
returns-then-not-is_ascii c =
    stands_not_ascii c.args.version _ _ _ _ c.in-Some.ensures.cases.0 (not_below_128 _ _ c.is_ascii.ensures c.if-not-is_ascii.true)

pub returns-in-Some-front_token : goal.returns-in-Some-front_token
returns-in-Some-front_token c = token (subst (Fronts c.args.version c.args.rest.now) c.in-Some-front_token.is c.front_token.ensures)

pub returns-in-None : goal.returns-in-None
returns-in-None c =
    stands_no_token c.args.version _ _ _ _ c.in-Some.ensures.cases.0 (below_128 _ _ c.is_ascii.ensures c.if-not-is_ascii.false)
    (subst (Fronts c.args.version c.args.rest.now) c.in-None.is c.front_token.ensures)
