-- What is printed of main's answers under a list of seeds.
use Rattle.std.proofs.Common.{◌≡◌, ◌≤◌, ◌<◌, ◌+◌, ℕ, All, List, [], ◌∷◌, ◌++◌, Result, Ok, Err, map, length, drop, get_or, refl, sym, ap, ap₂, ◌∙◌, subst}
use Rattle.std.proofs.lemmas.List.{drop_more, drop_all}
use Rattle.std.proofs.lemmas.List.Elements.{All-map}
use Rattle.serial_meaning.specs.Plan.{PlanView}
use Rattle.serial_meaning.specs.Eval.{elision, eval, main_origin}
use Rattle.serial_meaning.specs.Answer.{AnswerTag, AnswerView, IsEval, outcome_of}
use Rattle.serial_meaning.specs.Render.{IsWhole, answer_text}
use Rattle.serial_meaning.specs.declared.value.Value.{Value}
use Rattle.serial_meaning.specs.declared.event.Fault.{Fault}
use Rattle.serial_meaning.specs.declared.event.Event.{Event}
use Rattle.serial_meaning.specs.declared.origin.Origin.{Origin}
use Rattle.serial_meaning.specs.declared.origin.Origin.TheVariants.{Instance, Loop}
use Rattle.serial_meaning.specs.declared.answer.Outcome.{Outcome}
use Rattle.meet_block.specs.Joined.{Joined, JoinView}
use Rattle.strand_machine.specs.Links.{tag}
use Rattle.strand_machine.specs.Tasks.{TaskView}
use Rattle.parallel_runner.specs.Crews.{AreNewRoots, AreRootAnswers, IsCrewOf}
use Rattle.parallel_runner.specs.Hands.{HandView}
use Rattle.seed_batch.specs.Batch.{main_answer, seed_lines, batch, batch_text}

-- The answers of the roots of plans are main's

abbrev meant : AnswerTag → AnswerView
meant t = record { plan = t.plan; origin = t.origin; out = (eval t.plan t.origin).items; outcome = outcome_of t.origin (eval t.plan t.origin).ending }

is-meant : (t : AnswerTag) (out : List Event) (ended : Outcome) → IsEval t.plan t.origin out ended → record { plan = t.plan; origin = t.origin; out = out; outcome = ended } ≡ meant t
is-meant t out ended is =
    ap₂ (λ (es : List Event) (o : Outcome). record { plan = t.plan; origin = t.origin; out = es; outcome = o }) is.events is.ends

is-mains : (plan : PlanView) (a : AnswerView) → tag plan (main_origin plan) ∷ [] ≡ tag a.plan a.origin ∷ [] → IsEval a.plan a.origin a.out a.outcome → a ≡ main_answer plan
is-mains plan a tagged is =
    let same : tag plan (main_origin plan) ≡ tag a.plan a.origin = cc in is-meant (tag a.plan a.origin) a.out a.outcome is ∙ ap meant (sym same)

of-plans : (plans : List PlanView) (roots : List (JoinView AnswerTag)) (tasks : List TaskView) (answers : List AnswerView) → AreNewRoots plans roots tasks → AreRootAnswers roots answers → answers ≡ map main_answer plans
of-plans [] [] [] answers new h = h
of-plans [] (r ∷ rs) tasks answers new h = absurd new
of-plans [] [] (t ∷ ts) answers new h = absurd new
of-plans (p ∷ ps) [] tasks answers new h = absurd new
of-plans (p ∷ ps) (r ∷ rs) [] answers new h = absurd new
of-plans (p ∷ ps) (r ∷ rs) (t ∷ ts) [] new h = absurd h
of-plans (p ∷ ps) (r ∷ rs) (t ∷ ts) (a ∷ answers) new h =
    ap₂ (λ x xs. x ∷ xs) (is-mains p a (sym (ap (λ (j : Joined AnswerTag). j.tags) new.0.child) ∙ h.0) h.1) (of-plans ps rs ts answers new.1 h.2)

pub all_are_mains : (plans : List PlanView) (roots : List (JoinView AnswerTag)) (answers : List AnswerView) → (workers : ℕ) (hands : List HandView) → IsCrewOf plans workers roots hands → AreRootAnswers roots answers →
    answers ≡ map main_answer plans
all_are_mains plans roots answers workers hands crew h = of-plans plans roots crew.0 answers crew.1 h

-- and none of main's answers is a cut
whole : (o : Origin) (r : Result (List Value) Fault) → IsWhole (outcome_of o r)
whole (Instance function args path) (Ok vs) = tt
whole (Instance function args path) (Err f) = tt
whole (Loop function rest first path range) (Ok vs) = tt
whole (Loop function rest first path range) (Err f) = tt

main-is-whole : (plan : PlanView) → IsWhole (main_answer plan).outcome
main-is-whole plan = whole (main_origin plan) (elision plan).ending

pub all_are_whole : (plans : List PlanView) (answers : List AnswerView) → answers ≡ map main_answer plans → All (λ (answer : AnswerView). IsWhole answer.outcome) answers
all_are_whole plans answers e =
    subst (All (λ (answer : AnswerView). IsWhole answer.outcome)) (sym e)
    (All-map (λ (answer : AnswerView). IsWhole answer.outcome) main_answer plans (λ k d within. main-is-whole (get_or plans k d)))

-- The parts from the i-th on are that one and those after it

pub part-next : (seeds : List ℕ) (answers : List AnswerView) (i d s : ℕ) (e a : AnswerView) → i < length seeds → i < length answers → s ≡ get_or seeds i d → a ≡ get_or answers i e →
    batch_text (drop i seeds) (drop i answers) ≡ seed_lines s (answer_text a) ++ batch_text (drop (i + 1) seeds) (drop (i + 1) answers)
part-next seeds answers i d s e a in-seeds in-answers is-s is-a =
    ap₂ (λ (xs : List ℕ) (ys : List AnswerView). batch_text xs ys) (drop_more seeds i d in-seeds) (drop_more answers i e in-answers)
    ∙ sym (ap₂ (λ (x : ℕ) (y : AnswerView). batch_text (x ∷ drop (i + 1) seeds) (y ∷ drop (i + 1) answers)) is-s is-a)

no-parts : (seeds : List ℕ) → batch_text seeds [] ≡ []
no-parts [] = refl
no-parts (s ∷ ss) = refl

pub parts-end : (seeds : List ℕ) (answers : List AnswerView) (i : ℕ) → length answers ≤ i → batch_text (drop i seeds) (drop i answers) ≡ []
parts-end seeds answers i end = ap (batch_text (drop i seeds)) (drop_all i answers end) ∙ no-parts (drop i seeds)

-- What is printed of main's answers, where each seed has this plan

elisions : (plan : ℕ → PlanView) (seeds : List ℕ) → batch_text seeds (map main_answer (map plan seeds)) ≡ batch (λ seed. answer_text (main_answer (plan seed))) seeds
elisions plan [] = refl
elisions plan (s ∷ ss) = ap (λ text. seed_lines s (answer_text (main_answer (plan s))) ++ text) (elisions plan ss)

pub batch_is : (plan : ℕ → PlanView) (seeds : List ℕ) (plans : List PlanView) (answers : List AnswerView) → plans ≡ map plan seeds → answers ≡ map main_answer plans →
    batch_text seeds answers ≡ batch (λ seed. answer_text (main_answer (plan seed))) seeds
batch_is plan seeds plans answers planned answered = ap (batch_text seeds) (answered ∙ ap (map main_answer) planned) ∙ elisions plan seeds
