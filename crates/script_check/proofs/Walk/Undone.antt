-- What undoes the changes of the pending set.
use Rattle.std.proofs.Common.{◌≡◌, ℕ, Bool, true, false, cond, ◌||◌, ◌&&◌, List, [], ◌∷◌, ◌++◌, Option, None, refl, sym, ap, ◌∙◌, ⊎_elim}
use Rattle.std.specs.Prelude.{is_some, not}
use Rattle.std.specs.Global.{Vec}
use Rattle.std.specs.Map.{update}
use Rattle.std.specs.Str.{bytes_eq}
use Rattle.std.specs.Cmp.Lexicographic.{bytes_decides}
use Rattle.std.proofs.lemmas.Bool.{cases_Bool}
use Rattle.script_check.specs.declared.symbols.Change.{Change}
use Rattle.script_check.specs.declared.symbols.Change.TheVariants.{Added}
use Rattle.script_check.specs.Tables.{Table}
use Rattle.script_check.specs.Names.{NameSet, with_name}
use Rattle.script_check.specs.Walk.{names_of, without_name, undo, undone}

-- the last change is undone first
pub undone_last : (cs : List Change) (c : Change) (p : NameSet) → undone (cs ++ c ∷ []) p ≡ undone cs (undo c p)
undone_last [] c p = refl
undone_last (d ∷ cs) c p = ap (undo d) (undone_last cs c p)

-- a table without a name
pub names_without : {A : Type 0} (table : Table A) (what : List ℕ → Option A) (x : List ℕ) → what ≡ update bytes_eq table.what x None →
    (λ (y : List ℕ). is_some (what y)) ≡ without_name x (names_of table)
names_without {A} table what x e = ap (λ (f : List ℕ → Option A). λ (y : List ℕ). is_some (f y)) e ∙ (λ i y. pick (bytes_eq x y) (table.what y) i)
  where
    pick : (b : Bool) (o : Option A) → is_some (cond b None o) ≡ (not b && is_some o)
    pick true o = refl
    pick false o = refl

same_test : (x y : List ℕ) (p : NameSet) → bytes_eq x y ≡ true → p y ≡ p x
same_test x y p h = ap p (sym ((bytes_decides x y).0 h))

-- a name that came into the set and is taken out again
pub in_and_out : (x : List ℕ) (p : NameSet) → p x ≡ false → without_name x (with_name x p) ≡ p
in_and_out x p e i y =
    ⊎_elim
    (λ h. ap (λ b. not b && (b || p y)) h ∙ sym (same_test x y p h ∙ e))
    (λ h. ap (λ b. not b && (b || p y)) h)
    (cases_Bool (bytes_eq x y)) i

-- a change more
pub one_change : (cs ds : List Change) (c : Change) (p q : NameSet) → ds ≡ cs ++ c ∷ [] → undo c q ≡ p → undone ds q ≡ undone cs p
one_change cs ds c p q d e = ap (λ (l : List Change). undone l q) d ∙ undone_last cs c q ∙ ap (undone cs) e

pub one_added : (cs ds : List Change) (key : Vec ℕ) (x : List ℕ) (p q : NameSet) → ds ≡ cs ++ Added key ∷ [] → key.items ≡ x → q ≡ with_name x p → p x ≡ false →
    undone ds q ≡ undone cs p
one_added cs ds key x p q d k n e =
    one_change cs ds (Added key) p q d ((λ i. without_name (k i) (n i)) ∙ in_and_out x p e)

-- a change fewer
pub one_undone : (cs ds es : List Change) (c : Change) (p q : NameSet) → cs ≡ ds ++ c ∷ [] → es ≡ ds → q ≡ undo c p → undone es q ≡ undone cs p
one_undone cs ds es c p q d e n = (λ i. undone (e i) (n i)) ∙ sym (undone_last ds c p) ∙ ap (λ (l : List Change). undone l p) (sym d)
