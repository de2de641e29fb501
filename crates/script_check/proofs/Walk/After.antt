-- The walk's state after statements.
use Rattle.std.proofs.Common.{◌≡◌, ℕ, ◌+◌, ◌<◌, Bool, true, false, ◌||◌, ◌&&◌, List, ◌∷◌, ◌++◌, length, drop, get_or, Option, refl, sym, ap, ◌∙◌}
use Rattle.script_grammar.specs.declared.tree.Function.{Function}
use Rattle.script_grammar.specs.declared.tree.Stmt.{Stmt}
use Rattle.script_check.specs.declared.findings.Violation.{Violation}
use Rattle.script_check.specs.Violations.{earliest}
use Rattle.script_check.specs.Names.{NameSet, no_names, names_if, union}
use Rattle.script_grammar.specs.declared.tree.Kind.TheVariants.{Int}
use Rattle.script_check.specs.Rules.{Declared}
use Rattle.script_check.specs.Expressions.{Violations, Reading, wanted}
use Rattle.script_check.specs.Statements.{context, Judged, judge, judge_all, known_each, violations_each, after}
use Rattle.script_check.specs.Walk.{WalkState, keeps, keeps_all, state_after, state_after_all}
use Rattle.script_check.proofs.LeastViolation.Earliest.{earliest_append, after_two, after_three}
use Rattle.script_check.proofs.Walk.Reading.{at_index}
use Rattle.script_check.proofs.FewerPending.Linear.{linear_all, loop_set}

turned : (a b c : Bool) → (a && (b && c)) ≡ ((b && a) && c)
turned true true c = refl
turned true false c = refl
turned false true c = refl
turned false false c = refl

pub after_first : (functions : List Function) (s : Stmt) (ss : List Stmt) (state : WalkState) → state_after_all functions ss (state_after functions s state) ≡ state_after_all functions (s ∷ ss) state
after_first functions s ss state = ap (λ b. record (state_after_all functions (s ∷ ss) state) { keeps = b }) (turned (keeps_all ss) (keeps s) state.keeps)

pub one_after : (functions : List Function) (ss : List Stmt) (i : ℕ) (s : Stmt) (state next : WalkState) → i < length ss → s ≡ get_or ss i s → next ≡ state_after functions s state →
    state_after_all functions (drop (i + 1) ss) next ≡ state_after_all functions (drop i ss) state
one_after functions ss i s state next h is e =
    ap (state_after_all functions (drop (i + 1) ss)) e ∙ after_first functions s (drop (i + 1) ss) state ∙ ap (λ l. state_after_all functions l state) (sym (at_index ss i s h is))

pub one_judged : (functions : List Function) (in_block : Bool) (ss : List Stmt) (i : ℕ) (s : Stmt) (state next : WalkState) (before now : Option Violation) →
    i < length ss → s ≡ get_or ss i s → next ≡ state_after functions s state →
    now ≡ earliest before ((judge s).violations (context functions in_block) state.known state.names) →
    earliest now (violations_each (judge_all (drop (i + 1) ss)) (context functions in_block) next.known next.names)
    ≡ earliest before (violations_each (judge_all (drop i ss)) (context functions in_block) state.known state.names)
one_judged functions in_block ss i s state next before now h is e n =
    ap (λ (t : WalkState). earliest now (rest t.known t.names)) e
    ∙ ap (λ o. earliest o (rest ((judge s).known functions state.known) ((judge s).after state.names))) n
    ∙ sym (earliest_append before ((judge s).violations (context functions in_block) state.known state.names) (rest ((judge s).known functions state.known) ((judge s).after state.names)))
    ∙ ap (λ (l : List Stmt). earliest before (violations_each (judge_all l) (context functions in_block) state.known state.names)) (sym (at_index ss i s h is))
  where
    rest : Violations
    rest = violations_each (judge_all (drop (i + 1) ss)) (context functions in_block)

-- the sets at the end of an `if` and at the beginning of a `while`
pub if_names : (a b : List Stmt) (kept : Bool) (p : NameSet) → kept ≡ (keeps_all a || keeps_all b) →
    union (after b no_names) (union (after a no_names) (names_if kept p)) ≡ union (after a p) (after b p)
if_names a b kept p e i x =
    (ap (λ k. after b no_names x || (after a no_names x || (k && p x))) e
    ∙ cases (after a no_names x) (after b no_names x) (keeps_all a) (keeps_all b) (p x)
    ∙ ap (λ z. z || (after b no_names x || (keeps_all b && p x))) (sym (linear_all a no_names p x))
    ∙ ap (λ z. after a p x || z) (sym (linear_all b no_names p x))) i
  where
    cases : (g h k j p : Bool) → (h || (g || ((k || j) && p))) ≡ ((g || (k && p)) || (h || (j && p)))
    cases true true k j p = refl
    cases true false k j p = refl
    cases false true true true true = refl
    cases false true true true false = refl
    cases false true true false true = refl
    cases false true true false false = refl
    cases false true false j p = refl
    cases false false true true true = refl
    cases false false true true false = refl
    cases false false true false true = refl
    cases false false true false false = refl
    cases false false false j p = refl

pub while_names : (body : List Stmt) (p : NameSet) → union (after body no_names) p ≡ union p (after body p)
while_names body p i x = sym (loop_set body p x) i

module _ (functions : List Function) (a : List Stmt) where
  abbrev pub with_known : WalkState → WalkState
  with_known state = record state { known = known_each (judge_all a) functions state.known }

module _ (functions : List Function) (a b : List Stmt) where
  pub if_state : (kept : Bool) (state first second last : WalkState) → first ≡ with_known functions a state → second ≡ with_known functions b first →
      last ≡ record second { names = union (after a second.names) (after b second.names); keeps = kept && second.keeps } → kept ≡ (keeps_all a || keeps_all b) →
      last ≡ record {
        known = known_each (judge_all b) functions (known_each (judge_all a) functions state.known);
        names = union (after a state.names) (after b state.names);
        keeps = (keeps_all a || keeps_all b) && state.keeps;
        before = state.before;
      }
  if_state kept state first second last f s l k =
      l ∙ ap (λ (t : WalkState). record t { names = union (after a t.names) (after b t.names); keeps = kept && t.keeps }) (s ∙ ap (with_known functions b) f)
      ∙ ap (λ n. record (with_known functions b (with_known functions a state)) { names = union (after a state.names) (after b state.names); keeps = n && state.keeps }) k

  pub if_violations : (in_block : Bool) (condition : List Violation) (state next : WalkState) (found first second third : Option Violation) →
      first ≡ earliest found condition →
      second ≡ earliest first (violations_each (judge_all a) (context functions true) state.known state.names) →
      next ≡ with_known functions a state →
      third ≡ earliest second (violations_each (judge_all b) (context functions true) next.known next.names) →
      third ≡ earliest found (condition ++ violations_each (judge_all a) (context functions true) state.known state.names
      ++ violations_each (judge_all b) (context functions true) (known_each (judge_all a) functions state.known) state.names)
  if_violations in_block condition state next found first second third f s n t =
      after_three found first second third condition (violations_each (judge_all a) (context functions true) state.known state.names)
      (violations_each (judge_all b) (context functions true) (known_each (judge_all a) functions state.known) state.names) _ f s
      (t ∙ ap (λ (m : WalkState). earliest second (violations_each (judge_all b) (context functions true) m.known m.names)) n) refl

module _ (functions : List Function) (a : List Stmt) where
  abbrev pub with_loop_set : WalkState → WalkState
  with_loop_set state = record state { names = union state.names (after a state.names) }

  pub while_state : (state first last : WalkState) → first ≡ with_loop_set state → last ≡ with_known functions a first → last ≡ with_known functions a (with_loop_set state)
  while_state state first last f l = l ∙ ap (with_known functions a) f

  -- the sets of the loop as they were found
  pub while_violations : (condition : Reading) (known known' : Declared) (p q : NameSet) (found first second : Option Violation) →
      known' ≡ known → q ≡ union p (after a p) → first ≡ earliest found (wanted Int condition known' q) →
      second ≡ earliest first (violations_each (judge_all a) (context functions true) known' q) →
      second ≡ earliest found (wanted Int condition known (union p (after a p)) ++ violations_each (judge_all a) (context functions true) known (union p (after a p)))
  while_violations condition known known' p q found first second k e f s =
      after_two found first second (wanted Int condition known' q) (violations_each (judge_all a) (context functions true) known' q) _ f s refl
      ∙ ap (λ (m : Declared). earliest found (wanted Int condition m q ++ violations_each (judge_all a) (context functions true) m q)) k
      ∙ ap (λ (r : NameSet). earliest found (wanted Int condition known r ++ violations_each (judge_all a) (context functions true) known r)) e

  -- a scope: what its block makes known, and after its sync nothing is pending
  pub scope_state : (state first last : WalkState) → first ≡ with_known functions a state → last ≡ record first { names = no_names; keeps = false } →
      last ≡ record (with_known functions a state) { names = no_names; keeps = false }
  scope_state state first last f l = l ∙ ap (λ (t : WalkState). record t { names = no_names; keeps = false }) f

-- a statement of which this is told
pub after_by : (functions : List Function) (s : Stmt) (j : Judged) (kept : Bool) (state : WalkState) → judge s ≡ j → keeps s ≡ kept →
    state_after functions s state ≡ record { known = j.known functions state.known; names = j.after state.names; keeps = kept && state.keeps; before = state.before }
after_by functions s j kept state e k i =
    record { known = (e i).known functions state.known; names = (e i).after state.names; keeps = k i && state.keeps; before = state.before }
