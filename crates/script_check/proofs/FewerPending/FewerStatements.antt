-- The same of statements.
use Rattle.std.proofs.Common.{◌≡◌, ℕ, Bool, true, false, ◌||◌, List, [], ◌∷◌, ◌++◌, refl, sym, ap, subst}
use Rattle.std.proofs.lemmas.Bool.{true≢false}
use Rattle.std.specs.Prelude.{is_some}
use Rattle.std.specs.Str.{bytes_eq}
use Rattle.script_grammar.specs.declared.tree.Kind.TheVariants.{Int}
use Rattle.script_grammar.specs.declared.tree.Name.{Name}
use Rattle.script_grammar.specs.declared.tree.Right.{Right}
use Rattle.script_grammar.specs.declared.tree.Right.TheVariants as right
use Rattle.script_grammar.specs.declared.tree.Stmt.{Stmt}
use Rattle.script_grammar.specs.declared.tree.Act.{Act, map-Act}
use Rattle.script_grammar.specs.declared.tree.Act.TheOpen as act
use Rattle.script_grammar.specs.declared.tree.Act.TheOpen.{Act-F}
use Rattle.script_check.specs.Names.{NameSet, IsWithin, union, after_right}
use Rattle.script_check.specs.Functions.{function_named}
use Rattle.script_check.specs.Rules.{Declared, kind_of_variable, scalar_use, array_use, declaration, array_length, let_in_a_block}
use Rattle.script_check.specs.Expressions.{wanted, two_wanted, reading_of}
use Rattle.script_check.specs.Statements.{Context, Judged, judge, judge_what, judge_act, judge_all, read_right, wanted_as, target_use, loop_call_of, violations_each, block_violations, known_each, after}
use Rattle.script_check.proofs.FewerPending.Induction.{Each, Inside, induct, induct_each, judge_open}
use Rattle.script_check.proofs.FewerPending.Fewer.{Fine, none_fine, same_fine, append_fine, scalar_use_fine, array_use_fine, wanted_fine, two_fine, read_fine, call_fine, loop_call_fine, target_fine, right_fine, wanted_as_fine, nothing_left, nothing_right, both_nothing}

abbrev IsMonotone : (NameSet → NameSet) → Type 0
IsMonotone f = (fewer p : NameSet) → IsWithin fewer p → IsWithin (f fewer) (f p)

abbrev FineJudged : Judged → Type 0
FineJudged j = ((context : Context) → Fine (j.violations context)) × IsMonotone j.after

abbrev FineStmt : Stmt → Type 0
FineStmt s = FineJudged (judge s)

either : (a b c d : Bool) → (a ≡ true → c ≡ true) → (b ≡ true → d ≡ true) → (a || b) ≡ true → (c || d) ≡ true
either true b c d f g h = ap (λ z. z || d) (f refl)
either false true true d f g h = refl
either false true false d f g h = g refl
either false false c d f g h = absurd (true≢false (sym h))

both_within : (p q r s : NameSet) → IsWithin p r → IsWithin q s → IsWithin (union p q) (union r s)
both_within p q r s f g x h = either (p x) (q x) (r x) (s x) (f x) (g x) h

right_monotone : (x : Name) (r : Right) → IsMonotone (after_right x r)
right_monotone x (right.Value e) fewer p w y h = w y h
right_monotone x (right.Draw at) fewer p w y h = w y h
right_monotone x (right.New at) fewer p w y h = w y h
right_monotone x (right.Call at c) fewer p w y h = w y h
right_monotone x (right.Spawn at c) fewer p w y h = either (bytes_eq x.bytes y) (fewer y) (bytes_eq x.bytes y) (p y) (λ e. e) (w y) h

kept : IsMonotone (λ p. p)
kept fewer p w = w

each_monotone : (ss : List Stmt) → Each FineStmt ss → IsMonotone (after ss)
each_monotone [] h fewer p w = w
each_monotone (s ∷ ss) h fewer p w = each_monotone ss h.1 ((judge s).after fewer) ((judge s).after p) (h.0.1 fewer p w)

each_fine : (ss : List Stmt) → Each FineStmt ss → (context : Context) → Fine (violations_each (judge_all ss) context)
each_fine [] h context known fewer p w e = refl
each_fine (s ∷ ss) h context known fewer p w e =
    both_nothing ((judge s).violations context known fewer) (violations_each (judge_all ss) context ((judge s).known context.functions known) ((judge s).after fewer))
    (h.0.0 context known fewer p w (nothing_left ((judge s).violations context known p) (violations_each (judge_all ss) context ((judge s).known context.functions known) ((judge s).after p)) e))
    (each_fine ss h.1 context ((judge s).known context.functions known) ((judge s).after fewer) ((judge s).after p) (h.0.1 fewer p w)
    (nothing_right ((judge s).violations context known p) (violations_each (judge_all ss) context ((judge s).known context.functions known) ((judge s).after p)) e))

-- what a statement does in the open, with what is told of those inside it
abbrev told : Act-F Act Stmt → ℕ → Judged
told d at = judge_act (map-Act Act Stmt (ℕ → Judged) Judged judge_what judge d) at

open_fine : (at : ℕ) (d : Act-F Act Stmt) → Inside FineStmt d → FineJudged (told d at)
open_fine at (act.Let x r) h = (
  λ context. append_fine (λ k p. let_in_a_block context.in_block at ++ (read_right context.functions r).violations k p) (λ k p. declaration k x)
      (append_fine (λ k p. let_in_a_block context.in_block at) (read_right context.functions r).violations (same_fine (λ k. let_in_a_block context.in_block at)) (right_fine context.functions r))
      (same_fine (λ k. declaration k x)),
  right_monotone x r,
)
open_fine at (act.Array x n) h = (λ context. same_fine (λ k. let_in_a_block context.in_block at ++ declaration k x ++ array_length n), kept)
open_fine at (act.Set x r) h = (
  λ context. append_fine (λ k p. scalar_use (k.what x.bytes) p x) (λ k p. wanted_as (kind_of_variable (k.what x.bytes)) (read_right context.functions r) k p)
      (scalar_use_fine x) (λ known. wanted_as_fine (kind_of_variable (known.what x.bytes)) (read_right context.functions r) (right_fine context.functions r) known),
  right_monotone x r,
)
open_fine at (act.Store x i e) h =
    (λ context. append_fine (λ k p. array_use (k.what x.bytes) p x) (two_wanted Int (reading_of i) (reading_of e)) (array_use_fine x) (two_fine Int (reading_of i) (reading_of e) (read_fine i) (read_fine e)), kept)
open_fine at (act.Spawn c) h = (λ context. call_fine (function_named context.functions c.name.bytes) c, kept)
open_fine at (act.Call c) h = (λ context. call_fine (function_named context.functions c.name.bytes) c, kept)
open_fine at act.Sync h = (λ context. none_fine, λ fewer p w x e. e)
open_fine at (act.Print e) h = (λ context. read_fine e, kept)
open_fine at (act.If e a b) h = (
  λ context. append_fine (λ k p. wanted Int (reading_of e) k p ++ block_violations (judge_all a) context k p) (λ k p. block_violations (judge_all b) context (known_each (judge_all a) context.functions k) p)
      (append_fine (wanted Int (reading_of e)) (block_violations (judge_all a) context) (wanted_fine Int (reading_of e) (read_fine e)) (each_fine a h.0 (record context { in_block = true })))
      (λ known. each_fine b h.1 (record context { in_block = true }) (known_each (judge_all a) context.functions known)),
  λ fewer p w. both_within (after a fewer) (after b fewer) (after a p) (after b p) (each_monotone a h.0 fewer p w) (each_monotone b h.1 fewer p w),
)
open_fine at (act.While e a) h = (
  λ context known fewer p w.
      append_fine (wanted Int (reading_of e)) (block_violations (judge_all a) context) (wanted_fine Int (reading_of e) (read_fine e)) (each_fine a h (record context { in_block = true })) known
      (union fewer (after a fewer)) (union p (after a p)) (both_within fewer (after a fewer) p (after a p) w (each_monotone a h fewer p w)),
  λ fewer p w. both_within fewer (after a fewer) p (after a p) w (each_monotone a h fewer p w),
)
open_fine at (act.Pfor x lo hi target c) h = (
  λ context. append_fine (λ k p. two_wanted Int (reading_of lo) (reading_of hi) k p ++ target_use target k p) (loop_call_of (function_named context.functions c.name.bytes) (is_some target) c)
      (append_fine (two_wanted Int (reading_of lo) (reading_of hi)) (target_use target) (two_fine Int (reading_of lo) (reading_of hi) (read_fine lo) (read_fine hi)) (target_fine target))
      (loop_call_fine (function_named context.functions c.name.bytes) (is_some target) c),
  kept,
)
open_fine at (act.Scope a) h = (λ context. each_fine a h (record context { in_block = true }), λ fewer p w x e. e)

all_fine : (s : Stmt) → FineStmt s
all_fine = induct FineStmt (λ at d h. subst FineJudged (sym (judge_open at d)) (open_fine at d h))

pub fewer_pending_stays_valid : (statements : List Stmt) (context : Context) (known : Declared) (fewer p : NameSet) → IsWithin fewer p →
    violations_each (judge_all statements) context known p ≡ [] →
    (violations_each (judge_all statements) context known fewer ≡ []) × IsWithin (after statements fewer) (after statements p)
fewer_pending_stays_valid statements context known fewer p w h =
    let each = induct_each FineStmt all_fine statements in
    (each_fine statements each context known fewer p w h, each_monotone statements each fewer p w)
