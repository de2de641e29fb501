-- How contracts see a task's links to its parent and its children.
use Rattle.std.specs.Prelude.{◌≡◌, ◌≤◌, ℕ, Bool, true, false, List, [], ◌∷◌, ◌++◌, ◌+◌, Option, None, is_none, length, replicate}
use Rattle.meet_block.specs.Gives.{GiveView, give_of}
use Rattle.meet_block.specs.declared.join.Look.{Look}
use Rattle.meet_block.specs.declared.join.Look.TheVariants.{Ready, NotYet}
use Rattle.serial_meaning.specs.Answer.{AnswerTag}
use Rattle.serial_meaning.specs.Plan.{PlanView}
use Rattle.serial_meaning.specs.declared.origin.Origin.{Origin}

-- The names of a task's joins: of its parent's, which made its give, and of its own, for its children. A detached task has neither.
pub record JoinNames : Type 0 where
  pub parents : Option ℕ
  pub own : Option ℕ

abbrev pub detached : JoinNames
detached = record { parents = None; own = None }

-- The names of the joins of a task that began with a give of the join of this name. Its own join is detached exactly where that give is.
pub record AreJoinNames (name : Option ℕ) (joins : JoinNames) : Type 0 where
  pub parents : joins.parents ≡ name
  pub own : is_none joins.own ≡ is_none name

-- A task's links: the origins of all children that it began, in order, and which of their answers it has taken; whether a look found that
-- all have answered; the numbers that looks have loaded; and the names of the task's joins.
pub record LinksView : Type 0 where
  pub plan : PlanView
  pub origin : Origin
  pub children : List Origin
  pub taken : List Bool
  pub ready : Bool
  pub loads : List ℕ
  pub joins : JoinNames

abbrev pub childless : PlanView → Origin → JoinNames → LinksView
childless plan o joins = record { plan = plan; origin = o; children = []; taken = []; ready = true; loads = []; joins = joins }

abbrev pub tag : PlanView → Origin → AnswerTag
tag plan o = record { plan = plan; origin = o }

-- the give of a task with these joins
abbrev pub task_give : PlanView → Origin → JoinNames → GiveView AnswerTag
task_give plan o joins = give_of (tag plan o) joins.parents

abbrev pub tags : PlanView → List Origin → List AnswerTag
tags plan [] = []
tags plan (o ∷ os) = tag plan o ∷ tags plan os

abbrev pub origins : List AnswerTag → List Origin
origins [] = []
origins (t ∷ ts) = t.origin ∷ origins ts

-- A look loads zeros until it stops at another number.
abbrev pub HasPassed : List ℕ → List ℕ → Type 0
HasPassed before after = (passed : ℕ) × (after ≡ before ++ replicate passed 0)

abbrev pub HasStopped : List ℕ → List ℕ → Type 0
HasStopped before after = (passed pending : ℕ) × (1 ≤ pending) × (after ≡ before ++ (replicate passed 0 ++ pending ∷ []))

abbrev pub LooksAtChildren : LinksView → LinksView → Look → Type 0
LooksAtChildren before after Ready = HasPassed before.loads after.loads × (after ≡ record before { ready = true; loads = after.loads })
LooksAtChildren before after (NotYet n) = HasStopped before.loads after.loads × (after ≡ record before { ready = false; loads = after.loads })

-- one child more
abbrev pub links_with_child : LinksView → Origin → LinksView
links_with_child links child = record links { children = links.children ++ child ∷ []; taken = links.taken ++ false ∷ []; ready = false }

-- the last n children have answers that weren't taken
pub record AwaitsCount (links : LinksView) (n : ℕ) : Type 0 where
  pub within : n ≤ length links.children
  pub passed : List Bool
  pub same : length passed + n ≡ length links.children
  pub taken : links.taken ≡ passed ++ replicate n false
