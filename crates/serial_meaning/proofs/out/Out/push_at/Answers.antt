use Rattle.std.proofs.Common.{◌≡◌, ◌+◌, ◌++◌, ◌∷◌, [], false, ◌∙◌, ap, sym, rules, arith, length, length-append}
use Rattle.serial_meaning.specs.EventKinds.{event_at}
use Rattle.serial_meaning.proofs.Kept.{kept_same}
use Rattle.serial_meaning.proofs.out.Out.push_at.Goals as goal

pub invariant_of-self : goal.invariant_of-self
invariant_of-self g c =
    let xs = c.self.inside.whole.items in
    let j = c.args.path.now ++ c.args.rank ∷ [] in
    let e = event_at j c.args.kind in
    let whole : c.followed_by.result.items ≡ xs ++ e ∷ [] =
    c.followed_by.ensures ∙ ap (λ l. l.items ++ c.unmade-more.result.items) c.taken.ensures ∙ ap (λ l. xs ++ l) c.unmade-more.ensures in
    let count : c.in_ok-count.count ≡ c.self.inside.count + 1 = search rules in
    let long : c.in_ok-count.count ≡ length (xs ++ e ∷ []) = omega (arith, count, c.self.invariant.0, length-append xs (e ∷ [])) in
    let dropped : g.K.Keep.kept e ≡ false = sym (c.keeps_kind.ensures j) ∙ c.if-keeps_kind.false in
    rw whole (long, c.self.invariant.1 ∙ sym (kept_same g.K.Keep.kept xs e dropped))
