use Rattle.std.proofs.Common.{◌≡◌, ◌++◌, ◌∙◌, ap, sym, subst, List, length, take, drop, rules}
use Rattle.std.proofs.lemmas.List.{take_at}
use Rattle.parallel_runner.specs.Crews.{AreIdle, HaveMet}
use Rattle.parallel_runner.specs.Hands.{HandView}
use Rattle.parallel_runner.proofs.Meeting.{are-idle, as-many}
use Rattle.parallel_runner.proofs.setup.make_hands.Goals as goal

pub returns-clause-idle : goal.returns-clause-idle
returns-clause-idle g c =
    let new = c.in_ok-hands.hands.items in
    let met = c.exchange_thieves.new.hands in
    let now = take c.in_ok-hands.hands.len (met ++ drop (length met) new) in
    let whole : c.as_mut_slice.result.now ≡ new = search rules in
    let long : length new ≡ c.in_ok-hands.hands.len = search rules in
    let overflow : now ≡ met = take_at met (drop (length met) new) c.in_ok-hands.hands.len (c.in_ok-exchange_thieves.ensures.count ∙ ap length whole ∙ long) in
    subst (AreIdle c.args.workers) (sym overflow) (are-idle c.args.workers new met c.in_ok-hands.ensures (subst (λ (l : List HandView). HaveMet l met) whole c.in_ok-exchange_thieves.ensures.met))

pub returns-clause-count : goal.returns-clause-count
returns-clause-count g c = as-many c.args.workers _ (returns-clause-idle g c)
