use Rattle.std.proofs.Common.{◌≡◌, ◌+◌, ◌++◌, ◌∷◌, [], ◌∙◌, ap, sym, rules, arith, length, length-append}
use Rattle.serial_meaning.proofs.Kept.{kept_append}
use Rattle.serial_meaning.proofs.out.Out.push.Goals as goal

pub invariant_of-self-2 : goal.invariant_of-self-2
invariant_of-self-2 g c =
    let xs = c.self.inside.whole.items in
    let more : c.with-more.result.items ≡ c.args.event ∷ [] = c.with-more.ensures ∙ ap (λ l. l ++ c.args.event ∷ []) c.none.ensures in
    let whole : c.followed_by.result.items ≡ xs ++ c.args.event ∷ [] =
    c.followed_by.ensures ∙ ap (λ l. l.items ++ c.with-more.result.items) c.taken.ensures ∙ ap (λ l. xs ++ l) more in
    let count : c.in_ok-count.count ≡ c.self.inside.count + 1 = search rules in
    let long : c.in_ok-count.count ≡ length (xs ++ c.args.event ∷ []) = omega (arith, count, c.self.invariant.0, length-append xs (c.args.event ∷ [])) in
    rw whole (long, rw (c.in_ok-push_if.ensures.ok, c.self.invariant.1, c.keeps-keeps.ensures) (sym (kept_append g.K.Keep.kept xs (c.args.event ∷ []))))
