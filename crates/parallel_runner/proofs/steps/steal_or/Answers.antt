use Rattle.std.proofs.Common.{◌≡◌, ◌++◌, ◌∙◌, refl, sym, subst, inr, length, take, drop}
use Rattle.std.proofs.lemmas.List.{take_at}
use Rattle.parallel_runner.specs.Hands.{AllMiss}
use Rattle.parallel_runner.proofs.steps.steal_or.Goals as goal

pub returns-in-None-clause-took : goal.returns-in-None-clause-took
returns-in-None-clause-took g c =
    let old = c.args.state.now.thieves in
    let after = c.steal.new.thieves in
    let now = take old.len (after ++ drop (length after) old.items) in
    let miss : AllMiss old.items after = subst (λ l. AllMiss l after) c.as_mut_slice.ensures.value c.in-None.ensures.none in
    let same : now ≡ after = take_at after (drop (length after) old.items) old.len (c.in-None.ensures.none.count ∙ c.as_mut_slice.ensures.len) in
    inr (refl, subst (AllMiss old.items) (sym same) miss, refl)
