-- How a crew begins.
use Rattle.std.specs.Prelude.{◌≡◌, ◌≤◌, ◌⊎◌, ℕ, ◌+◌, List, [], ◌∷◌, ◌++◌, false, Some, None, is_none, length, map, reverse}
use Rattle.serial_meaning.specs.Answer.{AnswerTag, AnswerView, IsEval}
use Rattle.serial_meaning.specs.Eval.{main_origin}
use Rattle.serial_meaning.specs.Plan.{PlanView}
use Rattle.steal_deck.specs.Ends.{DeckId, ThiefEnd, new_owner, new_thief}
use Rattle.meet_block.specs.Joined.{Joined, JoinView, joined_with}
use Rattle.strand_machine.specs.Links.{AreJoinNames, tag}
use Rattle.strand_machine.specs.Tasks.{TaskView, fresh}
use Rattle.parallel_runner.specs.Hands.{HandView, IsRoots}

-- These are the tags of one child, which is main.
abbrev pub IsMainAlone : List AnswerTag → Type 0
IsMainAlone [] = ⊥
IsMainAlone (t ∷ []) = IsRoots t
IsMainAlone (t ∷ u ∷ us) = ⊥

-- the child of the root of a plan, whose answer wasn't put
abbrev pub new_root : PlanView → Joined AnswerTag
new_root plan = joined_with (tag plan (main_origin plan) ∷ []) (false ∷ []) false []

-- Such a root, and its task, of which nothing is done. The task's give is of the root's join, which isn't detached.
pub record IsNewRoot (plan : PlanView) (root : JoinView AnswerTag) (task : TaskView) : Type 0 where
  pub child : root.children ≡ new_root plan
  pub named : is_none root.name ≡ false
  pub begun : task ≡ fresh plan (main_origin plan) task.joins
  pub joins : AreJoinNames root.name task.joins

-- the same of a root and a task of each plan
abbrev pub AreNewRoots : List PlanView → List (JoinView AnswerTag) → List TaskView → Type 0
AreNewRoots [] [] [] = Unit {0}
AreNewRoots (p ∷ ps) (r ∷ rs) (t ∷ ts) = IsNewRoot p r t × AreNewRoots ps rs ts
AreNewRoots _ _ _ = ⊥

-- a hand that has nothing, and no thieves
abbrev pub new_hand : DeckId → HandView
new_hand deck = record { current = None; overflow = []; deck = new_owner deck; stalled = []; thieves = []; answered = [] }

-- so many of them
abbrev pub AreNew : ℕ → List HandView → Type 0
AreNew workers hands = (decks : List DeckId) × (length decks ≡ workers) × (hands ≡ map new_hand decks)

-- a thief of the hand's deck
abbrev pub thief_of : HandView → ThiefEnd TaskView
thief_of h = new_thief h.deck.deck

-- one thief more was made of its deck
abbrev pub with_thief : HandView → HandView
with_thief h = record h { deck = record h.deck { made = h.deck.made + 1 } }

-- A hand without a task. It has a thief of each of these other decks, and each of their hands has one of its own.
abbrev pub idle_hand : DeckId → List DeckId → HandView
idle_hand deck others = record {
  current = None;
  overflow = [];
  deck = record (new_owner deck) { made = length others };
  stalled = [];
  thieves = map new_thief others;
  answered = [];
}

-- The hands with these decks, which stand after those with the decks `before`. Each has its thieves from the next hand upwards and round.
abbrev pub idle_hands : List DeckId → List DeckId → List HandView
idle_hands before [] = []
idle_hands before (deck ∷ decks) = idle_hand deck (decks ++ before) ∷ idle_hands (before ++ deck ∷ []) decks

-- so many hands that have met, each without a task
abbrev pub AreIdle : ℕ → List HandView → Type 0
AreIdle workers hands = (decks : List DeckId) × (length decks ≡ workers) × (hands ≡ idle_hands [] decks)

-- Each of these new hands has its thieves of the others' decks.
abbrev pub HaveMet : List HandView → List HandView → Type 0
HaveMet old new = (decks : List DeckId) → old ≡ map new_hand decks → new ≡ idle_hands [] decks

-- The first of these hands has this task.
abbrev pub first_begins : TaskView → List HandView → List HandView
first_begins task [] = []
first_begins task (h ∷ hs) = record h { current = Some task } ∷ hs

-- A crew of so many hands before its first turn: the root's task is the first hand's, and there is no other.
abbrev pub IsNewCrew : PlanView → ℕ → JoinView AnswerTag → List HandView → Type 0
IsNewCrew plan workers root hands =
    (task : TaskView) × IsNewRoot plan root task × ((idle : List HandView) × AreIdle workers idle × (hands ≡ first_begins task idle))

-- These tasks were put after all others of a hand that had none, the last of them first: each was pushed on its deck, but from the first push
-- on that was refused they stand in its private list. No push among the first 64 is refused.
pub record IsDealt (tasks : List TaskView) (old new : HandView) : Type 0 where
  pub all : new.deck.pushed ++ new.overflow ≡ reverse tasks
  pub refused : (new.overflow ≡ []) ⊎ (64 ≤ length new.deck.pushed)
  pub same : new ≡ record old { overflow = new.overflow; deck = record old.deck { pushed = new.deck.pushed } }

-- The first of these hands was dealt these tasks.
abbrev pub FirstIsDealt : List TaskView → List HandView → List HandView → Type 0
FirstIsDealt tasks [] new = new ≡ []
FirstIsDealt tasks (h ∷ hs) [] = ⊥
FirstIsDealt tasks (h ∷ hs) (first ∷ others) = IsDealt tasks h first × (others ≡ hs)

-- A crew of so many hands before its first turn, with a root of each plan: the root tasks are the first hand's, the first plan's to be taken
-- up first, and there is no other.
abbrev pub IsCrewOf : List PlanView → ℕ → List (JoinView AnswerTag) → List HandView → Type 0
IsCrewOf plans workers roots hands =
    (tasks : List TaskView) × AreNewRoots plans roots tasks × ((idle : List HandView) × AreIdle workers idle × FirstIsDealt tasks idle hands)

-- Each of these is the answer of a root: it has its tag, and is no cut but the serial meaning.
abbrev pub AreRootAnswers : List (JoinView AnswerTag) → List AnswerView → Type 0
AreRootAnswers [] answers = answers ≡ []
AreRootAnswers (r ∷ rs) [] = ⊥
AreRootAnswers (r ∷ rs) (a ∷ answers) = (r.children.tags ≡ tag a.plan a.origin ∷ []) × IsEval a.plan a.origin a.out a.outcome × AreRootAnswers rs answers
