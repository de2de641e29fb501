-- The statements that are left of a frame are of its function's text, so that the plan's tables have all that they name.
use Rattle.std.proofs.Common.{◌≡◌, ◌≤◌, ℕ, zero, suc, Bool, true, ◌&&◌, List, [], ◌∷◌, ◌++◌, Option, Some, None, map, length, slice_get, arith, refl, sym, ap, ◌∙◌, subst}
use Rattle.std.proofs.lemmas.Bool.{and_parts}
use Rattle.std.proofs.lemmas.List.{length-map}
use Rattle.script_grammar.specs.declared.tree.Name.{Name}
use Rattle.script_grammar.specs.declared.tree.CallText.{CallText}
use Rattle.script_grammar.specs.declared.tree.Expr.{Expr}
use Rattle.script_grammar.specs.declared.tree.Function.{Function}
use Rattle.script_grammar.specs.declared.tree.Right.{Right}
use Rattle.script_grammar.specs.declared.tree.Stmt.{Stmt, out-Stmt, fold_out-Stmt}
use Rattle.script_grammar.specs.declared.tree.Act.{Act, map-Act, fold_out-Act}
use Rattle.script_grammar.specs.declared.tree.Act.TheFolds.{fold-Act}
use Rattle.script_grammar.specs.declared.tree.Act.TheOpen as act
use Rattle.script_grammar.specs.declared.tree.Act.TheOpen.{Act-F}
use Rattle.script_check.specs.Names as check
use Rattle.script_check.specs.Slots.{all_true, every_in, every_in_act, every_in_all, every_in_block, every_in_right, every_in_statement, every_in_target, finds_all, finds_callee, finds_in, has_slot, stand_from, table_of_slots, variable_names}
use Rattle.serial_meaning.specs.Functions.{function_at}
use Rattle.serial_meaning.specs.Names.{Names}
use Rattle.serial_meaning.specs.Plan.{PlanView, functions_of}
use Rattle.strand_meaning.specs.Found.{FindsAt, FindsDestination, FindsTargetIn, IsFoundPlan, functions_in, variables_in}
use Rattle.strand_meaning.specs.Machine.{Frame, Level, Machine, Spawned, child_destination}
use Rattle.strand_meaning.specs.Pending.{act_of, HasBlock, Then, Else, LoopBody, ComesTo, Here, Past, Within, FrameStandsAt, Outside, InScope, ArePending}

-- of a list all are true
pub one-of : {X : Type 0} (test : X → Bool) (xs : List X) (i : ℕ) (x : X) → all_true (map test xs) ≡ true → slice_get xs i ≡ Some x → test x ≡ true
one-of test [] i x h e = absurd (cc)
one-of test (y ∷ xs) zero x h e = let same : y ≡ x = cc in subst (λ z. test z ≡ true) same (and_parts (test y) (all_true (map test xs)) h).0
one-of test (y ∷ xs) (suc i) x h e = one-of test xs i x (and_parts (test y) (all_true (map test xs)) h).1 e

both-true : (a b : Bool) → a ≡ true → b ≡ true → (a && b) ≡ true
both-true a b h k = ap (λ c. c && b) h ∙ k

-- where each name of a variable and each that is called is such a one
module _ (is calls : Name → Bool) where
  abbrev in_act : Act → Bool
  in_act = fold-Act Bool Bool (every_in_act is calls) (λ s. s.act)

  abbrev pub opened : Act-F Act Stmt → Bool
  opened a = every_in_act is calls (map-Act Act Stmt Bool Bool in_act (every_in_statement is calls) a)

  every-out : (st : Stmt) → every_in_statement is calls st ≡ opened (act_of st)
  every-out st = fold_out-Stmt Bool Bool (every_in_act is calls) (λ s. s.act) st ∙ fold_out-Act Bool Bool (every_in_act is calls) (λ s. s.act) (out-Stmt st).act

  -- a statement by its act
  pub opened-found : (st : Stmt) (a : Act-F Act Stmt) → act_of st ≡ a → every_in_statement is calls st ≡ true → opened a ≡ true
  opened-found st a e h = sym (every-out st ∙ ap opened e) ∙ h

  pub first-found : (st : Stmt) (sts : List Stmt) → every_in_block is calls (st ∷ sts) ≡ true → every_in_statement is calls st ≡ true
  first-found st sts h = (and_parts (every_in_statement is calls st) (every_in_block is calls sts) h).0

  pub others-found : (st : Stmt) (sts : List Stmt) → every_in_block is calls (st ∷ sts) ≡ true → every_in_block is calls sts ≡ true
  others-found st sts h = (and_parts (every_in_statement is calls st) (every_in_block is calls sts) h).1

  pub append-found : (sts more : List Stmt) → every_in_block is calls sts ≡ true → every_in_block is calls more ≡ true → every_in_block is calls (sts ++ more) ≡ true
  append-found [] more h k = k
  append-found (st ∷ sts) more h k = both-true (every_in_statement is calls st) (every_in_block is calls (sts ++ more)) (first-found st sts h) (append-found sts more (others-found st sts h) k)

  if-found : (e : Expr) (first second : List Stmt) → opened (act.If e first second) ≡ true → (every_in_block is calls first && every_in_block is calls second) ≡ true
  if-found e first second h = (and_parts (every_in is e) (every_in_block is calls first && every_in_block is calls second) h).1

  block-found : {st : Stmt} {before : check.NameSet} {block : List Stmt} {inner : check.NameSet} {again : List Stmt} → HasBlock st before block inner again → every_in_statement is calls st ≡ true → every_in_block is calls block ≡ true
  block-found {st = st} (Then e first second a) h = (and_parts (every_in_block is calls first) (every_in_block is calls second) (if-found e first second (opened-found st (act.If e first second) a h))).0
  block-found {st = st} (Else e first second a) h = (and_parts (every_in_block is calls first) (every_in_block is calls second) (if-found e first second (opened-found st (act.If e first second) a h))).1
  block-found {st = st} (LoopBody e body a) h = (and_parts (every_in is e) (every_in_block is calls body) (opened-found st (act.While e body) a h)).1

  -- and with it what comes after it, before the statements after that one
  again-found : {st : Stmt} {before : check.NameSet} {block : List Stmt} {inner : check.NameSet} {again : List Stmt} → HasBlock st before block inner again → every_in_statement is calls st ≡ true → every_in_block is calls again ≡ true
  again-found (Then e first second a) h = refl
  again-found (Else e first second a) h = refl
  again-found {st = st} (LoopBody e body a) h = both-true (every_in_statement is calls st) true h refl

  pub comes-found : {from now : check.NameSet} {sts left : List Stmt} → ComesTo from sts left now → every_in_block is calls sts ≡ true → every_in_block is calls left ≡ true
  comes-found Here h = h
  comes-found (Past {st = st} {sts = sts} c) h = comes-found c (others-found st sts h)
  comes-found (Within {st = st} {next = next} {sts = sts} {again = again} {left = left} b c) h =
      let own = first-found st sts h in
      let after = append-found again sts (again-found b own) (others-found st sts h) in
      append-found (next ∷ left) (again ++ sts) (comes-found c (block-found b own)) after

  -- where a frame stands, from its function's body
  pub stands-found : {body : List Stmt} {levels : List Level} {left : List Stmt} {now : check.NameSet} → FrameStandsAt body levels left now → every_in_block is calls body ≡ true → every_in_block is calls left ≡ true
  stands-found (Outside c) h = comes-found c h
  stands-found (InScope {level = level} {st = st} {block = block} s a c) h =
      comes-found c (opened-found st (act.Scope block) a (first-found st level.left (stands-found s h)))

  -- the variable of a statement to which the value of its right side goes
  pub let-found : (st : Stmt) (x : Name) (r : Right) → act_of st ≡ act.Let x r → every_in_statement is calls st ≡ true → every_in_target is (Some x) ≡ true
  let-found st x r e h = (and_parts (is x) (every_in_right is calls r) (opened-found st (act.Let x r) e h)).0

  pub set-found : (st : Stmt) (x : Name) (r : Right) → act_of st ≡ act.Set x r → every_in_statement is calls st ≡ true → every_in_target is (Some x) ≡ true
  set-found st x r e h = (and_parts (is x) (every_in_right is calls r) (opened-found st (act.Set x r) e h)).0

  -- and that of a loop, if any
  pub loop-found : (st : Stmt) (x : Name) (lo hi : Expr) (target : Option Name) (c : CallText) → act_of st ≡ act.Pfor x lo hi target c → every_in_statement is calls st ≡ true → every_in_target is target ≡ true
  loop-found st x lo hi target c e h =
      let call = calls c.name && every_in_all is c.args in
      let upper = (and_parts (every_in is lo) (every_in is hi && (every_in_target is target && call)) (opened-found st (act.Pfor x lo hi target c) e h)).1 in
      (and_parts (every_in_target is target) call (and_parts (every_in is hi) (every_in_target is target && call) upper).1).0

-- the text of a function
pub body-found : (table : List ℕ) (functions : List Function) (i : ℕ) (f : Function) → finds_all table functions ≡ true → slice_get functions i ≡ Some f →
    every_in_block (has_slot table (variable_names f)) (finds_callee functions) f.body ≡ true
body-found table functions i f h e =
    let names = variable_names f in
    let own = one-of (finds_in table functions) functions i f h e in
    let body = every_in_block (has_slot table names) (finds_callee functions) f.body in
    let value = every_in (has_slot table names) f.result in
    (and_parts body value (and_parts (stand_from 0 names f.params) (body && value) own).1).0

pub left-found : (plan : PlanView) (names : Names) (a : Frame) (left : List Stmt) → IsFoundPlan plan → ArePending plan names a left →
    every_in_block (has_slot (table_of_slots (functions_of plan)) (variables_in (function_at (functions_of plan) a.function))) (finds_callee (functions_of plan)) left ≡ true
left-found plan names a left h p =
    let functions = functions_of plan in
    let table = table_of_slots functions in
    subst (λ (o : Option Function). every_in_block (has_slot table (variables_in o)) (finds_callee functions) left ≡ true) (sym p.of_plan)
    (stands-found (has_slot table (variable_names p.function)) (finds_callee functions) p.stands (body-found table functions a.function p.function h p.of_plan))

-- no frame has so many below it
pub none-above : (plan : PlanView) (height : ℕ) (target : Option Name) (functions : List ℕ) → length functions ≤ height → FindsAt plan height target functions
none-above plan height target [] h = _
none-above plan height target (function ∷ below) h = ((λ e. absurd (omega arith)), none-above plan height target below (omega arith))

-- where the value of a statement of a machine's innermost frame goes
module _ (plan : PlanView) (m : Machine) where
  abbrev has_own : Name → Bool
  has_own = has_slot (table_of_slots (functions_of plan)) (variables_in (function_at (functions_of plan) m.top.function))

  abbrev has_callee : Name → Bool
  has_callee = finds_callee (functions_of plan)

  pub spawned-found : (target : Option Name) → FindsTargetIn plan target m.top.function → FindsDestination plan (functions_in m) (Spawned (length m.below) target)
  spawned-found target h =
      let function_of = λ (a : Frame). a.function in
      ((λ e. h), none-above plan (length m.below) target (map function_of m.below) (omega (arith, length-map m.below function_of)))

  pub destination-found : (st : Stmt) (d : Act-F Act Stmt) → act_of st ≡ d → every_in_statement has_own has_callee st ≡ true →
      FindsDestination plan (functions_in m) (child_destination (length m.below) d)
  destination-found st (act.Let x r) e h = spawned-found (Some x) (let-found has_own has_callee st x r e h)
  destination-found st (act.Array x n) e h = spawned-found None refl
  destination-found st (act.Set x r) e h = spawned-found (Some x) (set-found has_own has_callee st x r e h)
  destination-found st (act.Store x i v) e h = spawned-found None refl
  destination-found st (act.Spawn c) e h = spawned-found None refl
  destination-found st (act.Call c) e h = spawned-found None refl
  destination-found st act.Sync e h = spawned-found None refl
  destination-found st (act.Print v) e h = spawned-found None refl
  destination-found st (act.If v first second) e h = spawned-found None refl
  destination-found st (act.While v body) e h = spawned-found None refl
  destination-found st (act.Pfor x lo hi target c) e h = loop-found has_own has_callee st x lo hi target c e h
  destination-found st (act.Scope block) e h = spawned-found None refl

  -- the same of the first statement that is left of it
  pub next-found : (names : Names) (st : Stmt) (left : List Stmt) → IsFoundPlan plan → ArePending plan names m.top (st ∷ left) →
      FindsDestination plan (functions_in m) (child_destination (length m.below) (act_of st))
  next-found names st left h p = destination-found st (act_of st) refl (first-found has_own has_callee st left (left-found plan names m.top (st ∷ left) h p))
