use Rattle.std.proofs.Common.{◌≡◌, ◌++◌, [], ◌∙◌, subst}
use Rattle.std.specs.Prelude.{IfSome, IfNone}
use Rattle.serial_meaning.specs.Chunks.{joined}
use Rattle.serial_meaning.proofs.Kept.{kept_all}
use Rattle.serial_meaning.proofs.out.Out+All.chunks.Goals as goal

pub returns-clause-some : goal.returns-clause-some
returns-clause-some c =
    subst (λ l. IfSome c.chunks.result (λ parts. joined parts.0.now ++ parts.1.now ≡ l)) (c.self.invariant.1 ∙ kept_all c.self.inside.whole.items ∙ c.self.view_is) c.chunks.ensures.some

pub returns-clause-none : goal.returns-clause-none
returns-clause-none c =
    subst (λ l. IfNone c.chunks.result (l ≡ [])) (c.self.invariant.1 ∙ kept_all c.self.inside.whole.items ∙ c.self.view_is) c.chunks.ensures.none
