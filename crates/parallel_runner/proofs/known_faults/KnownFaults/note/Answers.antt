use Rattle.std.proofs.Common.{◌≡◌, ℕ, ◌<◌, ◌∙◌, ◌++◌, ◌∷◌, [], List, IsTrue, length, get_or, map, rules, arith, sym, ap, subst}
use Rattle.std.proofs.lemmas.List.{get_or_default, map_push}
use Rattle.std.specs.Arc.{arc_value}
use Rattle.ped_path.specs.Path.{IsBefore}
use Rattle.serial_meaning.specs.Answer.{KnownView}
use Rattle.serial_meaning.specs.Plan.{PlanView}
use Rattle.parallel_runner.specs.Faults.{AreLeast, HasNoneOf}
use Rattle.parallel_runner.proofs.Knowing.{kept, replaced, new-known, plan_of}
use Rattle.parallel_runner.proofs.known_faults.KnownFaults.note.Goals as goal

moved : (a b a' b' : List ℕ) → a ≡ a' → b ≡ b' → IsBefore a b → IsBefore a' b'
moved a b a' b' e f h = subst (λ (x : List ℕ). IsBefore x b') e (subst (IsBefore a) f h)

-- the first of its plan
first : (known all : List KnownView) (plan : PlanView) (x : KnownView) (least least' : List KnownView) → AreLeast known least → HasNoneOf plan least → plan ≡ x.plan → all ≡ known ++ x ∷ [] →
    least' ≡ least ++ x ∷ [] → AreLeast all least'
first known all plan x least least' are none its more pushed =
    subst (λ (l : List KnownView). AreLeast l least') (sym more)
    (subst (AreLeast (known ++ x ∷ [])) (sym pushed) (new-known known least are x (subst (λ (p : PlanView). HasNoneOf p least) its none)))

pub invariant_of-self : goal.invariant_of-self
invariant_of-self c =
    let x = c.args.known in
    let xs = c.as_slice.result.now in
    let ys = c.self.inside.least.items in
    let same : xs ≡ ys = c.as_slice.ensures.value in
    let more : c.add.new.all.items ≡ c.self.inside.all.items ++ arc_value x ∷ [] = c.add.ensures ∙ ap (λ (k : KnownView). c.self.inside.all.items ++ k ∷ []) c.deref-in-Some.ensures in
    let its : c.deref-2.result.now ≡ (arc_value x).plan = c.deref-2.ensures ∙ ap plan_of (c.behind-known.view_is ∙ c.deref.ensures) in
    let own : c.behind-known-in-Some.inside.fault.at ≡ (arc_value x).fault.at = ap (λ (k : KnownView). k.fault.at) (c.behind-known-in-Some.view_is ∙ c.deref-in-Some-2.ensures) in
    let within : c.in-Some.i < length ys = omega (arith, c.in-Some.ensures.some.0, ap length same) in
    let there : c.index.result.now ≡ get_or ys c.in-Some.i x = c.index.ensures ∙ get_or_default ys c.in-Some.i c.index.result.now x within in
    let other : c.behind-index.inside.fault.at ≡ (arc_value (get_or ys c.in-Some.i x)).fault.at =
    ap (λ (k : KnownView). k.fault.at) (c.behind-index.view_is ∙ c.deref-in-Some-3.ensures ∙ ap arc_value there) in
    replaced arc_value xs ys c.in-Some.i c.deref-2.result.now same c.in-Some.ensures.some.0 c.in-Some.ensures.some.1 c.self.inside.all.items c.add.new.all.items x c.self.invariant more its
    (moved _ _ _ _ own other (c.before-in-Some.ensures.0 c.if-before.true))

pub invariant_of-self-else-before : goal.invariant_of-self-else-before
invariant_of-self-else-before c =
    let x = c.args.known in
    let xs = c.as_slice.result.now in
    let ys = c.self.inside.least.items in
    let same : xs ≡ ys = c.as_slice.ensures.value in
    let more : c.add.new.all.items ≡ c.self.inside.all.items ++ arc_value x ∷ [] = c.add.ensures ∙ ap (λ (k : KnownView). c.self.inside.all.items ++ k ∷ []) c.deref-in-Some.ensures in
    let its : c.deref-2.result.now ≡ (arc_value x).plan = c.deref-2.ensures ∙ ap plan_of (c.behind-known.view_is ∙ c.deref.ensures) in
    let own : c.behind-known-in-Some.inside.fault.at ≡ (arc_value x).fault.at = ap (λ (k : KnownView). k.fault.at) (c.behind-known-in-Some.view_is ∙ c.deref-in-Some-2.ensures) in
    let within : c.in-Some.i < length ys = omega (arith, c.in-Some.ensures.some.0, ap length same) in
    let there : c.index.result.now ≡ get_or ys c.in-Some.i x = c.index.ensures ∙ get_or_default ys c.in-Some.i c.index.result.now x within in
    let other : c.behind-index.inside.fault.at ≡ (arc_value (get_or ys c.in-Some.i x)).fault.at =
    ap (λ (k : KnownView). k.fault.at) (c.behind-index.view_is ∙ c.deref-in-Some-3.ensures ∙ ap arc_value there) in
    kept arc_value xs ys c.in-Some.i c.deref-2.result.now same c.in-Some.ensures.some.0 c.in-Some.ensures.some.1 c.self.inside.all.items c.add.new.all.items x c.self.invariant more its
    (λ before. let yes : IsTrue c.before-in-Some.result = c.before-in-Some.ensures.1 (moved _ _ _ _ (sym own) (sym other) before) in absurd (let no = c.if-before.false in (cc)))

pub invariant_of-self-in-None : goal.invariant_of-self-in-None
invariant_of-self-in-None c =
    let x = c.args.known in
    let ys = c.self.inside.least.items in
    let same : c.as_slice.result.now ≡ ys = c.as_slice.ensures.value in
    let its : c.deref-2.result.now ≡ (arc_value x).plan = c.deref-2.ensures ∙ ap plan_of (c.behind-known.view_is ∙ c.deref.ensures) in
    let more : c.add-in-None.new.all.items ≡ c.self.inside.all.items ++ arc_value x ∷ [] = search rules in
    let pushed : c.push_reserved.new.self.items ≡ ys ++ x ∷ [] = search rules in
    let none = subst (λ (l : List KnownView). HasNoneOf c.deref-2.result.now l) (ap (map arc_value) same) c.in-None.ensures.none in
    first c.self.inside.all.items c.add-in-None.new.all.items c.deref-2.result.now (arc_value x) (map arc_value ys) (map arc_value c.push_reserved.new.self.items) c.self.invariant none its more
    (ap (map arc_value) pushed ∙ map_push arc_value ys x)
