-- Moves that a loop's body makes in place, and the step by which the loop goes round.
use Rattle.std.proofs.Common.{◌≡◌, ℕ, suc, ◌+◌, ◌-◌, ◌≤◌, Bool, true, false, inl, inr, List, [], ◌∷◌, ◌++◌, Option, Some, None, IfSome, Ok, length, take, get_or, slice_get, refl, sym, ap, subst, ◌∙◌, arith}
use Rattle.std.proofs.Common.{ℤ}
use Rattle.std.proofs.lemmas.List.{drop_all, drop_more, length-append, take-append-drop}
use Rattle.script_grammar.specs.declared.tree.Expr.{Expr}
use Rattle.script_grammar.specs.declared.tree.Name.{Name}
use Rattle.script_grammar.specs.declared.tree.Right.TheVariants as right
use Rattle.script_grammar.specs.declared.tree.Stmt.{Stmt, out-Stmt}
use Rattle.script_grammar.specs.declared.tree.Act.{Act, out-Act}
use Rattle.script_grammar.specs.declared.tree.Act.TheOpen as act
use Rattle.script_grammar.specs.declared.tree.Act.TheOpen.{Act-F}
use Rattle.serial_meaning.specs.Exec.{with_content}
use Rattle.serial_meaning.specs.Plan.{PlanView}
use Rattle.serial_meaning.specs.Values.{value_of, is_true}
use Rattle.serial_meaning.specs.declared.environment.Content.TheVariants.{Scalar}
use Rattle.serial_meaning.specs.declared.event.Event.{Event}
use Rattle.serial_meaning.specs.declared.value.Value.{Value}
use Rattle.serial_meaning.specs.declared.value.Value.TheVariants.{Int}
use Rattle.strand_values.specs.Environments.{EnvironmentView, with_variables}
use Rattle.strand_moves.specs.declared.cursor.Branch.{Branch}
use Rattle.strand_moves.specs.declared.cursor.Branch.TheVariants as branch
use Rattle.strand_moves.specs.declared.cursor.Cursor.{Cursor}
use Rattle.strand_moves.specs.declared.cursor.Entered.{Entered}
use Rattle.strand_moves.specs.declared.effects.Effects.TheVariants as effect
use Rattle.strand_moves.specs.declared.effects.MoveResult.TheVariants as move_result
use Rattle.strand_moves.specs.declared.instance_parts.InstanceParts.{InstanceParts}
use Rattle.strand_moves.specs.Acts.{Acts, Costs, Stays}
use Rattle.strand_moves.specs.Cursors.{HasEntered, IsAfterStatement, IsAround, IsInLoop, IsStillIn, MayEnter, block_in, block_of, branch_at, branch_of, entered_at, left_around, statements_left}
use Rattle.strand_moves.specs.InstanceParts.{IsInstance, KeepsNames, machine_of, path_of, present_of, statements_of}
use Rattle.strand_moves.specs.Moves.{acted, run_of}
use Rattle.strand_moves.specs.FastPath.{Draws, GivesValue, IsSilent, StaysThere, emitted}
use Rattle.strand_moves.specs.StraightRuns.{GoesOnInBlock, IsMoveInBlock, IsSilentMove, IsSentInBlock, More, StaysInBlock, Still}
use Rattle.strand_moves.proofs.Cursors.CursorLemmas.{block_of-more, branch-there, left_around-more, passes, rest-next, rest_of}
use Rattle.strand_moves.proofs.Cursors.Passing.{straight_run-over, straight_run-sent, text-same}
use Rattle.strand_moves.proofs.OpenScopes.Keeping.{here-is, same-path, stays-instance}
use Rattle.strand_moves.proofs.Statements.Assigning.{number-acts}
use Rattle.strand_moves.proofs.Statements.Equations.{after_statement, let-is-set, paid-move, turn, moved}
use Rattle.strand_moves.proofs.Statements.Going.{moves-on}
use Rattle.strand_moves.proofs.Statements.Naming.{names-stay, top-named}
use Rattle.strand_moves.proofs.Statements.FastPathLemmas.{passed-on, fast_path-moved, with_cursor}

-- the last block that was entered, and those around it
last-entered : (es : List Entered) (n : ℕ) (d : Entered) → n + 1 ≡ length es → es ≡ take n es ++ get_or es n d ∷ []
last-entered es n d long =
    sym (take-append-drop n es)
    ∙ ap (λ (l : List Entered). take n es ++ l) (drop_more es n d (omega (arith, long)) ∙ ap (λ (l : List Entered). get_or es n d ∷ l) (drop_all (n + 1) es (omega (arith, long))))

-- the block that is entered by a loop
loop-body : (block : List Stmt) (last : Entered) (loop : Stmt) (e : Expr) (inner : List Stmt) → last.branch ≡ branch.LoopBody → slice_get block last.back ≡ Some loop → out-Act (out-Stmt loop).act ≡ act.While e inner → block_in block last ≡ inner
loop-body block last loop e inner of_loop there is =
    ap (λ (b : Branch). branch_at (slice_get block (entered_at b last.back)) b) of_loop
    ∙ ap (λ (s : Option Stmt). branch_at s branch.LoopBody) there
    ∙ ap (λ (a : Act-F Act Stmt). branch_of a branch.LoopBody) is

module _ (body : List Stmt) (c : Cursor) (around : List Entered) (last : Entered) (entered : c.entered.items ≡ around ++ last ∷ []) where
  innermost-is : block_in (block_of body around) last ≡ block_of body c.entered.items
  innermost-is = sym (block_of-more body around last) ∙ ap (λ (es : List Entered). block_of body es) (sym entered)

  module _ (loop : Stmt) (e : Expr) (inner : List Stmt) (of_loop : last.branch ≡ branch.LoopBody) (there : slice_get (block_of body around) last.back ≡ Some loop) (is : out-Act (out-Stmt loop).act ≡ act.While e inner) where
    loop-block : inner ≡ block_of body c.entered.items
    loop-block = sym (loop-body (block_of body around) last loop e inner of_loop there is) ∙ innermost-is

    in-loop : IsInLoop body c e
    in-loop = record { around = around; last = last; entered = entered; of_loop = of_loop; loop = loop; there = there; is = is ∙ ap (λ (l : List Stmt). act.While e l) loop-block }

-- by the last of a cursor's blocks, and the block in which that was entered
module _ (body : List Stmt) (c : Cursor) (es : List Entered) (d : Entered) (outer : List Stmt) (same : es ≡ c.entered.items) (some : 1 ≤ length es) (outer-is : outer ≡ block_of body (take (length es - 1) es)) where
  abbrev last : Entered
  last = get_or es (length es - 1) d

  entered : c.entered.items ≡ take (length es - 1) es ++ last ∷ []
  entered = sym same ∙ last-entered es (length es - 1) d (omega (arith, some))

  pub last-block : (block : List Stmt) → block ≡ block_in outer last → block ≡ block_of body c.entered.items
  last-block block is = is ∙ ap (λ (b : List Stmt). block_in b last) outer-is ∙ innermost-is body c (take (length es - 1) es) last entered

  pub last-loop : (loop : Stmt) (e : Expr) (inner : List Stmt) → last.branch ≡ branch.LoopBody → slice_get outer last.back ≡ Some loop → out-Act (out-Stmt loop).act ≡ act.While e inner → (inner ≡ block_of body c.entered.items) × IsInLoop body c e
  last-loop loop e inner of_loop there is =
      let within = ap (λ (b : List Stmt). slice_get b last.back) (sym outer-is) ∙ there in
      (loop-block body c (take (length es - 1) es) last entered loop e inner of_loop within is, in-loop body c (take (length es - 1) es) last entered loop e inner of_loop within is)

at-end : (es : List Entered) (e d : Entered) → get_or (es ++ e ∷ []) (length es) d ≡ e
at-end [] e d = refl
at-end (x ∷ es) e d = at-end es e d

-- by the last of a cursor's blocks, which it has just entered
module _ (body : List Stmt) (c : Cursor) (st : Stmt) (h : HasEntered body c st) (es : List Entered) (d : Entered) (same : es ≡ c.entered.items) where
  last-is : get_or es (length es - 1) d ≡ h.last
  last-is =
      let long = length-append h.around (h.last ∷ []) in
      let at : length (h.around ++ h.last ∷ []) - 1 ≡ length h.around = omega (arith, long) in
      ap (λ (l : List Entered). get_or l (length l - 1) d) (same ∙ h.entered) ∙ ap (λ (n : ℕ). get_or (h.around ++ h.last ∷ []) n d) at ∙ at-end h.around h.last d

  pub entered-block : (block : List Stmt) → block ≡ branch_of (out-Act (out-Stmt st).act) (get_or es (length es - 1) d).branch → block ≡ block_of body c.entered.items
  entered-block block is =
      is ∙ ap (λ (e : Entered). branch_of (out-Act (out-Stmt st).act) e.branch) last-is ∙ sym (branch-there (block_of body h.around) h.last st h.there)
      ∙ innermost-is body c h.around h.last h.entered

  pub entered-loop : (e : Expr) (inner : List Stmt) → (get_or es (length es - 1) d).branch ≡ branch.LoopBody → out-Act (out-Stmt st).act ≡ act.While e inner → IsInLoop body c e
  entered-loop e inner of_loop is =
      let of : h.last.branch ≡ branch.LoopBody = sym (ap (λ (x : Entered). x.branch) last-is) ∙ of_loop in
      let there : slice_get (block_of body h.around) h.last.back ≡ Some st = ap (λ (b : Branch). slice_get (block_of body h.around) (entered_at b h.last.back)) (sym of) ∙ h.there in
      in-loop body c h.around h.last h.entered st e inner of there is

-- by where a statement that may enter a block left the cursor
module _ (body : List Stmt) (old new : Cursor) (st : Stmt) (after : IsAfterStatement body old st) where
  pub came-inside : new.next ≡ 0 → MayEnter old new → HasEntered body new st
  came-inside first (inl same) =
      let some = after.some in
      let moved : new.next ≡ old.next = ap (λ (c : Cursor). c.next) same in
      absurd (omega (arith, first, some, moved))
  came-inside first (inr e) = record { around = old.entered.items; last = e.last; entered = e.entered; there = ap (λ (n : ℕ). slice_get (block_of body old.entered.items) n) e.from ∙ after.there }

  pub stayed-outside : (new.next ≡ 0 → ⊥) → MayEnter old new → new ≡ old
  stayed-outside on (inl same) = same
  stayed-outside on (inr e) = absurd (on e.first)

pub same-loop : (body : List Stmt) (c d : Cursor) (e : Expr) → d.entered.items ≡ c.entered.items → IsInLoop body c e → IsInLoop body d e
same-loop body c d e same h =
    record {
      around = h.around;
      last = h.last;
      entered = same ∙ h.entered;
      of_loop = h.of_loop;
      loop = h.loop;
      there = h.there;
      is = h.is ∙ ap (λ (es : List Entered). act.While e (block_of body es)) (sym same);
    }

module _ (body : List Stmt) (c : Cursor) (e : Expr) (h : IsInLoop body c e) where
  -- what is left after the loop
  abbrev pub after_loop : List Stmt
  after_loop = rest_of body h.around (h.last.back + 1)

  loop-next : left_around body c.entered.items ≡ h.loop ∷ after_loop
  loop-next = ap (λ (es : List Entered). left_around body es) h.entered ∙ left_around-more body h.around h.last ∙ rest-next body h.around h.last.back h.loop h.there

  pub left-at-end : length (block_of body c.entered.items) ≤ c.next → statements_left body c ≡ h.loop ∷ after_loop
  unfolding statements_left
  left-at-end ended = ap (λ (l : List Stmt). l ++ left_around body c.entered.items) (drop_all c.next (block_of body c.entered.items) ended) ∙ loop-next

  pub left-again : (d : Cursor) → d.entered.items ≡ c.entered.items → d.next ≡ 0 → statements_left body d ≡ block_of body c.entered.items ++ (h.loop ∷ after_loop)
  unfolding statements_left
  left-again d same k = rw (same, k) (ap (λ (l : List Stmt). block_of body c.entered.items ++ l) loop-next)

module _ (plan : PlanView) (i : InstanceParts) (sound : IsInstance plan i) (n : ℕ) (less : n + 1 ≡ i.steps) (cursor : Cursor) where
  abbrev text : List Stmt
  text = statements_of plan i.top

  -- a loop that goes round in place
  pub goes-round : (e : Expr) → IsInLoop text i.top.cursor e → length (block_of text i.top.cursor.entered.items) ≤ i.top.cursor.next → (v : Value) → value_of e i.top.env.variables ≡ Ok v → is_true v ≡ true →
      cursor.entered.items ≡ i.top.cursor.entered.items → cursor.next ≡ 0 → IsSilentMove plan i (with_cursor plan i n cursor)
  goes-round e h ended v known holds same first =
      let m = machine_of plan i in
      let block = block_of text i.top.cursor.entered.items in
      let rest = after_loop text i.top.cursor e h in
      let next = left-at-end text i.top.cursor e h ended in
      let one : m.steps ≡ suc n = omega (arith, less) in
      let new : InstanceParts = with_cursor plan i n cursor in
      let stays : Stays i new = record { trail = refl; scopes = refl; leaving = refl } in
      record {
        moves =
            moves-on plan (path_of i) m h.loop rest next
            ∙ paid-move plan (path_of i) (record m { top = record m.top { left = rest } }) h.loop rest n one
            ∙ ap (λ (p : List ℕ). acted plan p (after_statement m n rest) h.loop (out-Act (out-Stmt h.loop).act)) (here-is plan i sound)
            ∙ ap (λ (a : Act-F Act Stmt). acted plan (present_of i) (after_statement m n rest) h.loop a) h.is
            ∙ turn plan (present_of i) (after_statement m n rest) h.loop e block v known holds
            ∙ ap (λ (left : List Stmt). moved [] (after_statement m n left)) (sym (left-again text i.top.cursor e h cursor same first));
        path = same-path i new stays;
        sound = stays-instance plan i new sound (passed-on plan i h.loop rest sound next) stays (top-named plan i new refl refl refl refl) (omega (arith, less));
      }

  -- a statement that gives a variable a plain number
  module _ (st : Stmt) (x : Name) (e : Expr) (k : ℤ) (env : EnvironmentView) (known : value_of e i.top.env.variables ≡ Ok (Int k)) (set : env ≡ with_variables i.top.env (with_content i.top.env.variables x.bytes (Scalar (Int k)))) where
    abbrev given : InstanceParts
    given = record i { steps = n; top = record i.top { cursor = cursor; env = env } }

    gives : GivesValue (out-Act (out-Stmt st).act) x e → IsSilent st (with_cursor plan i n cursor) given true
    gives (inl is) = λ p after.
        let paid = with_cursor plan i n cursor in
        ap (λ (a : Act-F Act Stmt). acted p (present_of paid) (machine_of p paid) st a) is ∙ let-is-set p (present_of paid) (machine_of p paid) st x (right.Value e) ∙ number-acts p paid env st x e k known set
    gives (inr is) = λ p after.
        let paid = with_cursor plan i n cursor in
        ap (λ (a : Act-F Act Stmt). acted p (present_of paid) (machine_of p paid) st a) is ∙ number-acts p paid env st x e k known set

    pub gives-number : GivesValue (out-Act (out-Stmt st).act) x e → slice_get (block_of text i.top.cursor.entered.items) i.top.cursor.next ≡ Some st → cursor.entered.items ≡ i.top.cursor.entered.items → cursor.next ≡ i.top.cursor.next + 1 →
        IsSilentMove plan i given
    gives-number is there same next =
        let passed = passes text i.top.cursor cursor st there same next in
        let stays : Stays i given = record { trail = refl; scopes = refl; leaving = refl } in
        record {
          moves = fast_path-moved plan i st cursor n (here-is plan i sound) passed less given (gives is);
          path = same-path i given stays;
          sound = stays-instance plan i given sound (passed-on plan i st _ sound passed.first) stays (top-named plan i given refl refl refl (names-stay env i.top.env _ set)) (omega (arith, less));
        }

  -- a draw
  module _ {S : Type 0} (after : Event → S → S) (sent : S) (st : Stmt) (x : Name) (is : Draws (out-Act (out-Stmt st).act) x) where
    abbrev paid : InstanceParts
    paid = with_cursor plan i n cursor

    drawn-acts : (new : InstanceParts) (e : Event) → ((at : ℕ) → Acts plan st (act.Set x (right.Draw at)) paid new (emitted (Ok e))) → Draws (out-Act (out-Stmt st).act) x →
        acted plan (present_of paid) (machine_of plan paid) st (out-Act (out-Stmt st).act) ≡ run_of (move_result.Moved (effect.Emitted e)) (machine_of plan new)
    drawn-acts new e acts (at, inl let-is) = ap (λ (a : Act-F Act Stmt). acted plan (present_of paid) (machine_of plan paid) st a) let-is ∙ let-is-set plan (present_of paid) (machine_of plan paid) st x (right.Draw at) ∙ acts at
    drawn-acts new e acts (at, inr set-is) = ap (λ (a : Act-F Act Stmt). acted plan (present_of paid) (machine_of plan paid) st a) set-is ∙ acts at

    pub draws-on : slice_get (block_of text i.top.cursor.entered.items) i.top.cursor.next ≡ Some st → cursor.entered.items ≡ i.top.cursor.entered.items → cursor.next ≡ i.top.cursor.next + 1 →
        (new : InstanceParts) (heard : S) (e : Event) → heard ≡ after e sent → ((at : ℕ) → Acts plan st (act.Set x (right.Draw at)) paid new (emitted (Ok e))) → KeepsNames plan paid new → Stays paid new → Costs paid new →
        StaysThere paid new → new.top.cursor ≡ cursor → IsSentInBlock after plan i sent new heard true
    draws-on there same next new heard e took acts named stays few alike at =
        let passed = passes text i.top.cursor cursor st there same next in
        let on = straight_run-sent after plan i sent i sent (Still i sent refl refl) sound st cursor n passed less paid refl new heard e took (drawn-acts new e acts is) named stays few in
        let blocks : StaysInBlock i new = record {
          below = alike.below;
          function = alike.function;
          levels = alike.levels;
          entered = ap (λ (c : Cursor). c.entered.items) at ∙ same;
          few = omega (arith, alike.steps, less);
        } in
        (record { straight_run = on.straight_run; path = on.path; sound = on.sound; stays = blocks }, omega (arith, alike.steps, less))

-- moves in a block, one after another
module _ {S : Type 0} (after : Event → S → S) (plan : PlanView) (first : InstanceParts) (start : S) (i : InstanceParts) (sent : S) (h : GoesOnInBlock after plan first start i sent) where
  pub over-block : (new : InstanceParts) (heard : S) → GoesOnInBlock after plan i sent new heard → GoesOnInBlock after plan first start new heard
  over-block new heard m =
      record {
        straight_run = straight_run-over after plan first start i sent h.straight_run new heard m.straight_run;
        path = m.path ∙ h.path;
        sound = m.sound;
        stays = record {
          below = m.stays.below ∙ h.stays.below;
          function = m.stays.function ∙ h.stays.function;
          levels = m.stays.levels ∙ h.stays.levels;
          entered = m.stays.entered ∙ h.stays.entered;
          few = omega (arith, m.stays.few, h.stays.few);
        };
      }

  -- one that showed nothing
  pub in-block : (new : InstanceParts) → IsSilentMove plan i new → StaysInBlock i new → GoesOnInBlock after plan first start new sent
  in-block new m s = over-block new sent (record { straight_run = More i new sent (Still i sent refl refl) m.moves m.path m.sound; path = m.path; sound = m.sound; stays = s })

pub stands-in-block : (i : InstanceParts) → StaysInBlock i i
stands-in-block i = record { below = refl; function = refl; levels = refl; entered = refl; few = omega arith }

-- by what a call answered
pub did-move : (plan : PlanView) (old new : InstanceParts) (moved : Bool) → moved ≡ true → IsMoveInBlock plan old new moved → IsMoveInBlock plan old new true
did-move plan old new moved e h = subst (IsMoveInBlock plan old new) e h

pub did-not-move : (plan : PlanView) (old new : InstanceParts) (moved : Bool) → moved ≡ false → IsMoveInBlock plan old new moved → new ≡ old
did-not-move plan old new moved e h = subst (IsMoveInBlock plan old new) e h

module _ {S : Type 0} (after : Event → S → S) (plan : PlanView) (old : InstanceParts) (from : S) (new : InstanceParts) (to : S) (moved : Bool) where
  pub did-send : moved ≡ true → IsSentInBlock after plan old from new to moved → IsSentInBlock after plan old from new to true
  did-send e h = subst (IsSentInBlock after plan old from new to) e h

-- the same loop and the same block there
module _ (plan : PlanView) (old new : InstanceParts) where
  pub still-in-loop : (e : Expr) → StaysInBlock old new → IsInLoop (statements_of plan old.top) old.top.cursor e → IsInLoop (statements_of plan new.top) new.top.cursor e
  still-in-loop e s h =
      subst (λ (body : List Stmt). IsInLoop body new.top.cursor e) (sym (text-same plan old new s.function s.levels)) (same-loop (statements_of plan old.top) old.top.cursor new.top.cursor e s.entered h)

  pub still-block : (block : List Stmt) → StaysInBlock old new → block ≡ block_of (statements_of plan old.top) old.top.cursor.entered.items → block ≡ block_of (statements_of plan new.top) new.top.cursor.entered.items
  still-block block s h =
      h ∙ ap (λ (es : List Entered). block_of (statements_of plan old.top) es) (sym s.entered) ∙ ap (λ (body : List Stmt). block_of body new.top.cursor.entered.items) (sym (text-same plan old new s.function s.levels))

-- a cursor in the same block
pub same-around : (body : List Stmt) (c d : Cursor) (o : Option Expr) → d.entered.items ≡ c.entered.items → IsAround body c o → IsAround body d o
same-around body c d None same h = tt
same-around body c d (Some e) same h = same-loop body c d e same h

-- by what is left of a loop's body
pub still-around : (own body block : List Stmt) (c : Cursor) (o : Option Expr) → own ≡ body → IsStillIn body block c o → IsAround own c o
still-around own body block c None same h = tt
still-around own body block c (Some e) same h = subst (λ (t : List Stmt). IsInLoop t c e) (sym same) h.0

-- what follows where there is something
pub if-some : {A : Type 0} {P Q : A → Type 0} (o : Option A) → ((a : A) → P a → Q a) → IfSome o P → IfSome o Q
if-some None f h = tt
if-some (Some a) f h = f a h
