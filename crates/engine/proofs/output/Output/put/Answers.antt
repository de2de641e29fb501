use Rattle.std.proofs.Common.{◌≡◌, ◌∙◌, ◌++◌, List, ℕ, ap, sym, rules}
use Rattle.run_lines.proofs.PutLemmas.{err_after, ok_after}
use Rattle.engine.specs.Output.{runs_text}
use Rattle.engine.proofs.output.Output.put.Goals as goal

pub returns-clause-all : goal.returns-clause-all
returns-clause-all g c =
    let text : c.deref.result.now ≡ c.self.inside.text.items = search rules in
    let split = sym c.self.view_is ∙ ap (λ (t : List ℕ). t ++ runs_text c.self.inside.runs) (sym text) in
    ok_after _ _ _ _ _ _ _ _ split _ c.put-2.result c.in_ok-put.ensures.all c.put-2.ensures.all

pub returns-clause-front : goal.returns-clause-front
returns-clause-front g c =
    let text : c.deref.result.now ≡ c.self.inside.text.items = search rules in
    let split = sym c.self.view_is ∙ ap (λ (t : List ℕ). t ++ runs_text c.self.inside.runs) (sym text) in
    err_after _ _ _ _ _ _ _ _ split c.put-2.result c.in_ok-put.ensures.all c.put-2.ensures.front
