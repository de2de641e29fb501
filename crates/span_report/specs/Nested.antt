-- How the events of a run nest: those of a spawned child, or of a loop's iterations, are between the Spawn or the loop's event and
-- the parent's next one. A scope has no event of its own: the instance's own events have one more rank there.
use Rattle.std.specs.Prelude.{◌+◌, ℕ, List, [], ◌∷◌, ◌++◌}
use Rattle.serial_meaning.specs.Plan.{PlanView}
use Rattle.serial_meaning.specs.Eval.{elision}
use Rattle.serial_meaning.specs.declared.value.Value.{Value}
use Rattle.serial_meaning.specs.declared.event.Event.{Event}
use Rattle.serial_meaning.specs.declared.event.Event.TheVariants as event

-- one event that begins no child and raises the rank
pub data RaisesWithoutChild : List ℕ → Event → Type 0 where
  Draw : (j : List ℕ) (n : ℕ) → RaisesWithoutChild j (event.Draw j n)
  New : (j : List ℕ) → RaisesWithoutChild j (event.New j)
  Sync : (j : List ℕ) → RaisesWithoutChild j (event.Sync j)

-- Whose events a list has: those of the instance with the path `home`, at a present path from this rank on, or those of the
-- iterations of the loop with this pedigree from this number on. A present path is the instance's path and then the ranks of its
-- open scopes.
pub data Whose : Type 0 where
  Instance : (home : List ℕ) → Whose
  Iterations : Whose

-- A run may end anywhere, by a fault.
pub data IsNested : Whose → List ℕ → ℕ → List Event → Type 0 where
  Ends : (whose : Whose) (path : List ℕ) (rank : ℕ) → IsNested whose path rank []
  Prints : (home path : List ℕ) (rank : ℕ) (v : Value) (es : List Event) → IsNested (Instance home) path rank es → IsNested (Instance home) path rank (event.Print (path ++ rank ∷ []) v ∷ es)
  Steps : (home path : List ℕ) (rank : ℕ) (e : Event) (es : List Event) → RaisesWithoutChild (path ++ rank ∷ []) e → IsNested (Instance home) path (rank + 1) es → IsNested (Instance home) path rank (e ∷ es)
  Spawns : (home path : List ℕ) (rank : ℕ) (child es : List Event) → IsNested (Instance (path ++ rank ∷ [])) (path ++ rank ∷ []) 0 child → IsNested (Instance home) path (rank + 1) es →
      IsNested (Instance home) path rank (event.Spawn (path ++ rank ∷ []) ∷ (child ++ es))
  Loops : (home path : List ℕ) (rank : ℕ) (inner es : List Event) → IsNested Iterations (path ++ rank ∷ []) 0 inner → IsNested (Instance home) path (rank + 1) es →
      IsNested (Instance home) path rank (event.Loop (path ++ rank ∷ []) ∷ (inner ++ es))
  Iterates : (path : List ℕ) (k : ℕ) (inner es : List Event) → IsNested (Instance (path ++ k ∷ [])) (path ++ k ∷ []) 0 inner → IsNested Iterations path (k + 1) es → IsNested Iterations path k (inner ++ es)
  Scopes : (home path : List ℕ) (rank : ℕ) (inner es : List Event) → IsNested (Instance home) (path ++ rank ∷ []) 0 inner → IsNested (Instance home) path (rank + 1) es →
      IsNested (Instance home) path rank (inner ++ es)

-- The events of the serial elision nest so.
abbrev pub ElisionIsNested : Type 0
ElisionIsNested = (plan : PlanView) → IsNested (Instance []) [] 0 (elision plan).items
