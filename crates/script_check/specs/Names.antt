-- Sets of names, and which names are pending after statements.
use Rattle.std.specs.Prelude.{◌≡◌, ℕ, Bool, true, false, ◌||◌, ◌&&◌, List, [], ◌∷◌}
use Rattle.std.specs.Str.{bytes_eq}
use Rattle.script_grammar.specs.declared.tree.Name.{Name}
use Rattle.script_grammar.specs.declared.tree.Right.{Right}
use Rattle.script_grammar.specs.declared.tree.Right.TheVariants as right
use Rattle.script_grammar.specs.declared.tree.Act.TheOpen as act
use Rattle.script_grammar.specs.declared.tree.Act.TheOpen.{Act-F}

-- a set of names, as the test for its members
abbrev pub NameSet : Type 0
NameSet = List ℕ → Bool

abbrev pub no_names : NameSet
no_names x = false

abbrev pub with_name : List ℕ → NameSet → NameSet
with_name x p y = bytes_eq x y || p y

abbrev pub union : NameSet → NameSet → NameSet
union p q x = p x || q x

-- the set, or the empty one
abbrev pub names_if : Bool → NameSet → NameSet
names_if kept p x = kept && p x

-- each name of p is in q
abbrev pub IsWithin : NameSet → NameSet → Type 0
IsWithin p q = (x : List ℕ) → p x ≡ true → q x ≡ true

-- a spawn adds its target
abbrev pub after_right : Name → Right → NameSet → NameSet
after_right x (right.Value e) p = p
after_right x (right.Draw at) p = p
after_right x (right.New at) p = p
after_right x (right.Call at c) p = p
after_right x (right.Spawn at c) p = with_name x.bytes p

module _ {J : Type 0} (after_one : J → NameSet → NameSet) where
  abbrev pub after_each : List J → NameSet → NameSet
  after_each [] p = p
  after_each (j ∷ js) p = after_each js (after_one j p)

  -- A sync and the end of a `scope` empty the set. An `if` ends with the union of both ends, a `while` with its own set and its
  -- body's. Other statements keep the set.
  abbrev pub after_act : {A : Type 0} → Act-F A J → NameSet → NameSet
  after_act (act.Let x r) p = after_right x r p
  after_act (act.Array x n) p = p
  after_act (act.Set x r) p = after_right x r p
  after_act (act.Store x i e) p = p
  after_act (act.Spawn c) p = p
  after_act (act.Call c) p = p
  after_act act.Sync p = no_names
  after_act (act.Print e) p = p
  after_act (act.If e a b) p = union (after_each a p) (after_each b p)
  after_act (act.While e a) p = union p (after_each a p)
  after_act (act.Pfor x lo hi target c) p = p
  after_act (act.Scope a) p = no_names
