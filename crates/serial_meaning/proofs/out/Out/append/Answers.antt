use Rattle.std.proofs.Common.{◌≡◌, ◌+◌, ◌++◌, ◌∙◌, ap, sym, rules, arith, length, length-append}
use Rattle.serial_meaning.proofs.Kept.{kept_append}
use Rattle.serial_meaning.proofs.out.Out.append.Goals as goal

pub invariant_of-self-2 : goal.invariant_of-self-2
invariant_of-self-2 g c =
    let xs = c.self.inside.whole.items in let ys = c.other.inside.whole.items in
    let whole : c.followed_by.result.items ≡ xs ++ ys = c.followed_by.ensures ∙ ap (λ l. l.items ++ ys) c.taken.ensures in
    let count : c.in_ok-count.count ≡ c.self.inside.count + c.other.inside.count = search rules in
    let long : c.in_ok-count.count ≡ length (xs ++ ys) = omega (arith, count, c.self.invariant.0, c.other.invariant.0, length-append xs ys) in
    rw whole (long, rw (c.in_ok-append.ensures.ok, c.self.invariant.1, c.other.invariant.1) (sym (kept_append g.K.Keep.kept xs ys)))
