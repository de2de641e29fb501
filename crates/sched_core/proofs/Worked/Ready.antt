-- Whether all children of a task have answered: by their count, as the machine says it.
use Rattle.std.proofs.Common.{◌≡◌, ℕ, zero, suc, ◌+◌, false, ◌||◌, List, [], ◌∷◌, Option, Some, None, All, Contains, slice_get, map, refl, ap, ◌∙◌, arith}
use Rattle.serial_meaning.specs.Answer.{AnswerView}
use Rattle.serial_meaning.specs.Plan.{PlanView}
use Rattle.serial_meaning.specs.declared.answer.Outcome.{Outcome}
use Rattle.serial_meaning.specs.declared.answer.Outcome.TheVariants as outcome
use Rattle.serial_meaning.specs.declared.origin.Origin.{Origin}
use Rattle.strand_meaning.specs.Laws.{IsFaultOf}
use Rattle.strand_meaning.specs.Trace.{AwaitedChild}
use Rattle.strand_machine.specs.Links.{tag, tags}
use Rattle.strand_machine.specs.AwaitedChildren.{awaited}
use Rattle.strand_machine.specs.Stops.{answer_tags, any_cut, is_cut}
use Rattle.sched_core.specs.Nodes.{answers_in, and_answer, missing, missing_one}
use Rattle.sched_core.specs.Consistent.{Awaits, IsAnsweredBy}
use Rattle.sched_core.specs.declared.node.NodeChild.{NodeChild}

-- the machine's list of awaited children is the tasks'
pub awaited-same : (ps : List AwaitedChild) → map (λ (p : AwaitedChild). p.child) ps ≡ awaited ps
awaited-same [] = refl
awaited-same (p ∷ ps) = ap (λ l. p.child ∷ l) (awaited-same ps)

all-first : {A : Type 0} (P : A → Type 0) (x : A) (xs : List A) → All P (x ∷ xs) → P x
all-first P x xs h = h 0 x (omega arith)

all-rest : {A : Type 0} (P : A → Type 0) (x : A) (xs : List A) → All P (x ∷ xs) → All P xs
all-rest P x xs h = λ k d lt. h (suc k) d (omega (arith, lt))

all-none : {A : Type 0} (P : A → Type 0) → All P []
all-none P = λ k d lt. absurd (omega (arith, lt))

all-more : {A : Type 0} (P : A → Type 0) (x : A) (xs : List A) → P x → All P xs → All P (x ∷ xs)
all-more P x xs p all zero d lt = p
all-more P x xs p all (suc k) d lt = all k d (omega (arith, lt))

-- a fault of the plan, or a value, is no cut
pub uncut : (plan : PlanView) (o : Outcome) → IsFaultOf plan o → is_cut o ≡ false
uncut plan (outcome.Value v) h = refl
uncut plan (outcome.Values vs) h = refl
uncut plan (outcome.Fault f) h = refl
uncut plan (outcome.Cut f) h = absurd h

module _ (plan : PlanView) (given begun : List Origin) where
  -- each of these children has its answer kept exactly where it was given
  abbrev pub AreAnswersGiven : List NodeChild → Type 0
  AreAnswersGiven cs = (k : ℕ) (c : NodeChild) → slice_get cs k ≡ Some c → (o : Origin) → slice_get begun c.number ≡ Some o → IsAnsweredBy plan given o c.answer

  given-there : (o : Origin) (a : Option AnswerView) → IsAnsweredBy plan given o a → missing_one a ≡ 0 → Contains given o
  given-there o None h m = absurd (cc)
  given-there o (Some a) h m = h.there

  -- where none is missing all were given
  pub all-given : (cs : List NodeChild) (os : List Origin) → Awaits begun cs os → AreAnswersGiven cs → missing cs ≡ 0 → All (Contains given) os
  all-given [] [] a h m = all-none (Contains given)
  all-given [] (o ∷ os) a h m = absurd a
  all-given (c ∷ cs) [] a h m = absurd a
  all-given (c ∷ cs) (o ∷ os) a h m =
      all-more (Contains given) o os (given-there o c.answer (h 0 c refl o a.0) (omega arith)) (all-given cs os a.1 (λ k. h (suc k)) (omega arith))

  some-there : (c : NodeChild) (x : AnswerView) (cs : List NodeChild) (n : ℕ) → c.answer ≡ Some x → missing (c ∷ cs) ≡ n → missing cs ≡ n
  some-there c x cs n e m = let z : missing_one c.answer ≡ 0 = ap missing_one e in let k : missing_one c.answer + missing cs ≡ n = m in omega arith

  none-there : (c : NodeChild) (cs : List NodeChild) → c.answer ≡ None → missing (c ∷ cs) ≡ 0 → ⊥
  none-there c cs e m = let z : missing_one c.answer ≡ 1 = ap missing_one e in let k : missing_one c.answer + missing cs ≡ 0 = m in absurd (omega arith)

  rest-there : (c : NodeChild) (cs : List NodeChild) → missing (c ∷ cs) ≡ 0 → missing cs ≡ 0
  rest-there c cs m = let k : missing_one c.answer + missing cs ≡ 0 = m in omega arith

  -- where one is missing one wasn't
  pub not-all : (cs : List NodeChild) (os : List Origin) (n : ℕ) → Awaits begun cs os → AreAnswersGiven cs → missing cs ≡ suc n → All (Contains given) os → ⊥
  not-all [] os n a h m all = absurd (cc)
  not-all (c ∷ cs) [] n a h m all = absurd a
  not-all (c ∷ cs) (o ∷ os) n a h m all = by_answer c.answer refl (h 0 c refl o a.0) (λ rest. not-all cs os n a.1 (λ j. h (suc j)) rest (all-rest (Contains given) o os all))
    where
      by_answer : (x : Option AnswerView) → c.answer ≡ x → IsAnsweredBy plan given o x → (missing cs ≡ suc n → ⊥) → ⊥
      by_answer None e k later = k (all-first (Contains given) o os all)
      by_answer (Some x) e k later = later (some-there c x cs (suc n) e m)

  -- the answers are those of the children, in order, and none is a cut
  pub tags-are : (cs : List NodeChild) (os : List Origin) → Awaits begun cs os → AreAnswersGiven cs → missing cs ≡ 0 → answer_tags (answers_in cs) ≡ tags plan os
  tags-are [] [] a h m = refl
  tags-are [] (o ∷ os) a h m = absurd a
  tags-are (c ∷ cs) [] a h m = absurd a
  tags-are (c ∷ cs) (o ∷ os) a h m = by_answer c.answer refl (h 0 c refl o a.0) (tags-are cs os a.1 (λ k. h (suc k)) (rest-there c cs m))
    where
      by_answer : (x : Option AnswerView) → c.answer ≡ x → IsAnsweredBy plan given o x → answer_tags (answers_in cs) ≡ tags plan os → answer_tags (and_answer c.answer (answers_in cs)) ≡ tags plan (o ∷ os)
      by_answer None e k later = absurd (none-there c cs e m)
      by_answer (Some x) e k later =
          ap (λ y. answer_tags (and_answer y (answers_in cs))) e ∙ ap (λ p. tag p x.origin ∷ answer_tags (answers_in cs)) k.plan_is ∙ ap (λ p. tag plan p ∷ answer_tags (answers_in cs)) k.origin
          ∙ ap (λ l. tag plan o ∷ l) later

  pub none-cut : (cs : List NodeChild) (os : List Origin) → Awaits begun cs os → AreAnswersGiven cs → any_cut (answers_in cs) ≡ false
  none-cut [] [] a h = refl
  none-cut [] (o ∷ os) a h = absurd a
  none-cut (c ∷ cs) [] a h = absurd a
  none-cut (c ∷ cs) (o ∷ os) a h = by_answer c.answer refl (h 0 c refl o a.0) (none-cut cs os a.1 (λ k. h (suc k)))
    where
      by_answer : (x : Option AnswerView) → c.answer ≡ x → IsAnsweredBy plan given o x → any_cut (answers_in cs) ≡ false → any_cut (and_answer c.answer (answers_in cs)) ≡ false
      by_answer None e k later = ap (λ y. any_cut (and_answer y (answers_in cs))) e ∙ later
      by_answer (Some x) e k later = ap (λ y. any_cut (and_answer y (answers_in cs))) e ∙ ap (λ b. b || any_cut (answers_in cs)) (uncut plan x.outcome k.known) ∙ later
