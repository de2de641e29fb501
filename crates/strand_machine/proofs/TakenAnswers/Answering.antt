-- The answers of children.
use Rattle.std.proofs.Common.{◌≡◌, ℕ, zero, suc, ◌+◌, ◌-◌, ◌<◌, ◌≤◌, Bool, true, false, List, [], ◌∷◌, ◌++◌, Some, length, length-append, length-drop, take, drop, replicate, refl, sym, ap, ◌∙◌, subst, arith, add-one}
use Rattle.std.proofs.Math.ListN.{set, length-replicate}
use Rattle.std.specs.Prelude.{slice_get}
use Rattle.std.proofs.lemmas.Bool.{true≢false}
use Rattle.serial_meaning.specs.Answer.{AnswerView, IsEval, IsAnswer}
use Rattle.serial_meaning.specs.Plan.{PlanView}
use Rattle.serial_meaning.specs.declared.event.Event.{Event}
use Rattle.serial_meaning.specs.declared.origin.Origin.{Origin}
use Rattle.serial_meaning.specs.declared.answer.Outcome.{Outcome}
use Rattle.serial_meaning.specs.declared.answer.Outcome.TheVariants as outcome
use Rattle.strand_meaning.specs.Trace.{AwaitedChild}
use Rattle.strand_machine.specs.Links.{LinksView, AwaitsCount, tag, tags, origins}
use Rattle.strand_machine.specs.AwaitedChildren.{awaited}
use Rattle.strand_machine.specs.Stops.{answer_tags, is_cut}
use Rattle.strand_machine.specs.Tasks.{AwaitsLast}

-- What an answer says

-- an answer that is no cut says the evaluation of its origin
pub eval-of : (plan : PlanView) (o : Origin) (out : List Event) (ended : Outcome) → is_cut ended ≡ false → IsAnswer plan o out ended → IsEval plan o out ended
eval-of plan o out (outcome.Value v) whole h = h
eval-of plan o out (outcome.Values vs) whole h = h
eval-of plan o out (outcome.Fault f) whole h = h
eval-of plan o out (outcome.Cut f) whole h = absurd (true≢false whole)

-- The answers of the last children

tags-more : (plan : PlanView) (os : List Origin) (i : ℕ) (o : Origin) → slice_get os i ≡ Some o → tags plan (take (suc i) os) ≡ tags plan (take i os) ++ tag plan o ∷ []
tags-more plan [] i o h = absurd (cc)
tags-more plan (p ∷ os) zero o h = let e : p ≡ o = cc in ap (λ (q : Origin). tag plan q ∷ []) e
tags-more plan (p ∷ os) (suc i) o h = ap (λ l. tag plan p ∷ l) (tags-more plan os i o h)

at-drop : (os : List Origin) (n m i : ℕ) → m ≡ n + i → slice_get (drop n os) i ≡ slice_get os m
at-drop os zero m i h = let e : i ≡ m = omega arith in ap (slice_get os) e
at-drop [] (suc n) m i h = refl
at-drop (o ∷ os) (suc n) zero i h = absurd (omega arith)
at-drop (o ∷ os) (suc n) (suc m) i h = at-drop os n m i (omega arith)

pub answer-tags-more : (xs : List AnswerView) (a : AnswerView) → answer_tags (xs ++ a ∷ []) ≡ answer_tags xs ++ tag a.plan a.origin ∷ []
answer-tags-more [] a = refl
answer-tags-more (b ∷ xs) a = ap (λ l. tag b.plan b.origin ∷ l) (answer-tags-more xs a)

-- one more answer, of the child with the number m
pub one-more : (plan : PlanView) (os : List Origin) (xs : List AnswerView) (a : AnswerView) (n m i : ℕ) →
    answer_tags xs ≡ tags plan (take i (drop n os)) → m ≡ n + i → a.plan ≡ plan → slice_get os m ≡ Some a.origin →
    answer_tags (xs ++ a ∷ []) ≡ tags plan (take (i + 1) (drop n os))
one-more plan os xs a n m i before at same is =
    answer-tags-more xs a ∙ ap (λ l. l ++ tag a.plan a.origin ∷ []) before ∙ ap (λ (p : PlanView). tags plan (take i (drop n os)) ++ tag p a.origin ∷ []) same
    ∙ sym (tags-more plan (drop n os) i a.origin (at-drop os n m i at ∙ is)) ∙ ap (λ (k : ℕ). tags plan (take k (drop n os))) (sym (add-one i))

take-all : (os : List Origin) (n : ℕ) → n ≡ length os → take n os ≡ os
take-all [] zero h = refl
take-all [] (suc n) h = refl
take-all (o ∷ os) zero h = absurd (omega arith)
take-all (o ∷ os) (suc n) h = ap (λ l. o ∷ l) (take-all os n (omega arith))

-- those of all children from one on
pub all-of-them : (os : List Origin) (first n : ℕ) → first + n ≡ length os → take n (drop first os) ≡ drop first os
all-of-them os first n h = take-all (drop first os) n (omega (arith, length-drop first os))

pub links-kept : (a b d : LinksView) (taken : List Bool) → b ≡ record a { taken = b.taken } → d ≡ record b { taken = taken } → d ≡ record a { taken = d.taken }
links-kept a b d taken h k =
    k ∙ ap (λ (f : LinksView). record f { taken = taken }) h ∙ ap (λ (l : List Bool). record a { taken = l }) (sym (ap (λ (f : LinksView). f.taken) k))

front : (xs : List Bool) (m k : ℕ) → m ≡ length xs → 0 < k → slice_get (xs ++ replicate k false) m ≡ Some false
front [] m zero h pos = absurd (omega arith)
front [] zero (suc k) h pos = refl
front [] (suc m) (suc k) h pos = absurd (omega arith)
front (x ∷ xs) zero k h pos = absurd (omega arith)
front (x ∷ xs) (suc m) k h pos = front xs m k (omega arith) pos

-- the first of the answers that are awaited is there
pub first-there : (links : LinksView) (m k : ℕ) → AwaitsCount links k → m + k ≡ length links.children → 0 < k → slice_get links.taken m ≡ Some false
first-there links m k h at pos =
    let same : length h.passed + k ≡ length links.children = h.same in
    let e : m ≡ length h.passed = omega arith in ap (λ (l : List Bool). slice_get l m) h.taken ∙ front h.passed m k e pos

taken-front : (xs : List Bool) (m k : ℕ) → m ≡ length xs → set (xs ++ replicate (suc k) false) m true ≡ (xs ++ true ∷ []) ++ replicate k false
taken-front [] zero k h = refl
taken-front [] (suc m) k h = absurd (omega arith)
taken-front (x ∷ xs) zero k h = absurd (omega arith)
taken-front (x ∷ xs) (suc m) k h = ap (λ l. x ∷ l) (taken-front xs m k (omega arith))

-- one fewer is awaited once it is taken
pub first-taken : (links after : LinksView) (m k : ℕ) → AwaitsCount links (suc k) → m + suc k ≡ length links.children →
    after ≡ record links { taken = set links.taken m true } → AwaitsCount after k
first-taken links after m k h at is =
    let same : length h.passed + suc k ≡ length links.children = h.same in
    let e : m ≡ length h.passed = omega arith in
    let within : suc k ≤ length links.children = h.within in
    let longer : length (h.passed ++ true ∷ []) ≡ length h.passed + 1 = length-append h.passed (true ∷ []) in
    let there : AwaitsCount (record links { taken = set links.taken m true }) k = record {
      within = omega arith;
      passed = h.passed ++ true ∷ [];
      same = omega arith;
      taken = ap (λ (l : List Bool). set l m true) h.taken ∙ taken-front h.passed m k e;
    } in subst (λ (f : LinksView). AwaitsCount f k) (sym is) there

-- of as many children as were begun it is known whether their answers were taken
pub taken-length : (links : LinksView) (k : ℕ) → AwaitsCount links k → length links.taken ≡ length links.children
taken-length links k h = ap length h.taken ∙ length-append h.passed (replicate k false) ∙ ap (λ (n : ℕ). length h.passed + n) (length-replicate k false) ∙ h.same

length-awaited : (ps : List AwaitedChild) → length (awaited ps) ≡ length ps
length-awaited [] = refl
length-awaited (p ∷ ps) = ap suc (length-awaited ps)

pub awaits-count : (links : LinksView) (ps : List AwaitedChild) → AwaitsLast links ps → AwaitsCount links (length (awaited ps))
awaits-count links ps h =
    let all : length links.children ≡ length h.before + length (awaited ps) = ap length h.children ∙ length-append h.before (awaited ps) in
    record {
      within = omega arith;
      passed = h.passed;
      same = ap (λ n. n + length (awaited ps)) h.same ∙ sym all;
      taken = h.taken ∙ ap (λ n. h.passed ++ replicate n false) (sym (length-awaited ps));
    }

drop-front : (os more : List Origin) (n : ℕ) → n ≡ length os → drop n (os ++ more) ≡ more
drop-front [] more zero h = refl
drop-front [] more (suc n) h = absurd (omega arith)
drop-front (o ∷ os) more zero h = absurd (omega arith)
drop-front (o ∷ os) more (suc n) h = drop-front os more n (omega arith)

-- the last children are those whose answers are awaited
pub last-awaited : (links : LinksView) (ps : List AwaitedChild) → AwaitsLast links ps → drop (length links.children - length (awaited ps)) links.children ≡ awaited ps
last-awaited links ps h =
    let all : length links.children ≡ length h.before + length (awaited ps) = ap length h.children ∙ length-append h.before (awaited ps) in
    let n : length links.children - length (awaited ps) ≡ length h.before = omega arith in
    ap (λ (l : List Origin). drop (length links.children - length (awaited ps)) l) h.children ∙ drop-front h.before (awaited ps) _ n

-- The tags of answers

pub origins-tags : (plan : PlanView) (os : List Origin) → origins (tags plan os) ≡ os
origins-tags plan [] = refl
origins-tags plan (o ∷ os) = ap (λ l. o ∷ l) (origins-tags plan os)

pub length-answer-tags : (xs : List AnswerView) → length (answer_tags xs) ≡ length xs
length-answer-tags [] = refl
length-answer-tags (a ∷ xs) = ap suc (length-answer-tags xs)

pub length-tags : (plan : PlanView) (os : List Origin) → length (tags plan os) ≡ length os
length-tags plan [] = refl
length-tags plan (o ∷ os) = ap suc (length-tags plan os)
