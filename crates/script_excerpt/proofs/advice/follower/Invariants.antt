use Rattle.std.proofs.Common.{IfSome}
use Rattle.script_excerpt.specs.Followers.{GoesOn}
use Rattle.script_excerpt.proofs.advice.follower.Given as goal

abbrev pub invariant-loop-word : goal.invariant-loop-word
invariant-loop-word l = IfSome l.found (λ word. GoesOn l.text l.at word.now)
