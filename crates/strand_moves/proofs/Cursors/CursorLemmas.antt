-- Blocks that are entered and left.
use Rattle.std.proofs.Common.{◌≡◌, ℕ, ◌+◌, ◌-◌, ◌<◌, ◌≤◌, Bool, true, false, List, [], ◌∷◌, ◌++◌, Option, Some, None, IsSome, length, nat_eq, drop, slice_get, refl, sym, ap, ◌∙◌, arith, if◌then◌else◌}
use Rattle.std.proofs.lemmas.Bool.{eqb-true, eq-eqb}
use Rattle.std.proofs.lemmas.List.{append-nil, append_assoc, drop_all, drop_more, nil_from_length}
use Rattle.std.proofs.lemmas.Option.{slice_get_within, get_or_from_slice_get}
use Rattle.script_grammar.specs.declared.tree.Stmt.{Stmt, out-Stmt}
use Rattle.script_grammar.specs.declared.tree.Act.{out-Act}
use Rattle.strand_moves.specs.declared.cursor.Branch.TheVariants as branch
use Rattle.strand_moves.specs.declared.cursor.Entered.{Entered}
use Rattle.strand_moves.specs.declared.cursor.Cursor.{Cursor}
use Rattle.strand_moves.specs.Cursors.{branch_of, branch_at, entered_at, block_in, block_of, left_around, statements_left, IsAfterStatement, PassesStatement}

-- where no block is entered, none can be left
pub nothing-there : (es : List Entered) → (0 < length es → IsSome {T = Entered} None) → es ≡ []
nothing-there [] f = refl
nothing-there (e ∷ es) f = let some : false ≡ true = f (omega arith) in absurd (cc)

-- by what a list's `is_empty` answered
module _ {A : Type 0} (items : List A) (len : ℕ) (there : len ≡ length items) (empty : Bool) (is : empty ≡ nat_eq len 0) where
  pub nothing-in : empty ≡ true → items ≡ []
  nothing-in e = nil_from_length items (sym there ∙ eqb-true len 0 (sym is ∙ e))

  pub something-in : empty ≡ false → items ≡ [] → ⊥
  something-in e none = let yes : empty ≡ true = is ∙ eq-eqb len 0 (there ∙ ap length none) in absurd (cc)

-- what is left where these blocks are entered, from this place in the innermost one on
abbrev pub rest_of : List Stmt → List Entered → ℕ → List Stmt
rest_of body es n = drop n (block_of body es) ++ left_around body es

pub block_of-more : (body : List Stmt) (es : List Entered) (e : Entered) → block_of body (es ++ e ∷ []) ≡ block_in (block_of body es) e
block_of-more body [] e = refl
block_of-more body (f ∷ es) e = block_of-more (block_in body f) es e

pub left_around-more : (body : List Stmt) (es : List Entered) (e : Entered) → left_around body (es ++ e ∷ []) ≡ rest_of body es e.back
left_around-more body [] e = sym (append-nil (drop e.back body))
left_around-more body (f ∷ es) e =
    ap (λ (l : List Stmt). l ++ drop f.back body) (left_around-more (block_in body f) es e)
    ∙ append_assoc (drop e.back (block_of (block_in body f) es)) (left_around (block_in body f) es) (drop f.back body)

pub rest-left : (body : List Stmt) (es : List Entered) (e : Entered) (n : ℕ) → length (block_of body (es ++ e ∷ [])) ≤ n → rest_of body (es ++ e ∷ []) n ≡ rest_of body es e.back
rest-left body es e n h =
    ap (λ (l : List Stmt). l ++ left_around body (es ++ e ∷ [])) (drop_all n (block_of body (es ++ e ∷ [])) h) ∙ left_around-more body es e

pub rest-ended : (body : List Stmt) (n : ℕ) → length body ≤ n → rest_of body [] n ≡ []
rest-ended body n h = append-nil (drop n body) ∙ drop_all n body h

pub rest-entered : (body : List Stmt) (es : List Entered) (e : Entered) → rest_of body (es ++ e ∷ []) 0 ≡ block_in (block_of body es) e ++ rest_of body es e.back
rest-entered body es e =
    ap (λ (l : List Stmt). l ++ left_around body (es ++ e ∷ [])) (block_of-more body es e) ∙ ap (λ (l : List Stmt). block_in (block_of body es) e ++ l) (left_around-more body es e)

pub branch-there : (block : List Stmt) (e : Entered) (st : Stmt) → slice_get block (entered_at e.branch e.back) ≡ Some st → block_in block e ≡ branch_of (out-Act (out-Stmt st).act) e.branch
branch-there block e st h = ap (λ (s : Option Stmt). branch_at s e.branch) h

drop-next : (block : List Stmt) (n : ℕ) (st : Stmt) → slice_get block n ≡ Some st → drop n block ≡ st ∷ drop (n + 1) block
drop-next block n st h =
    drop_more block n st (slice_get_within block n st h) ∙ ap (λ (s : Stmt). s ∷ drop (n + 1) block) (get_or_from_slice_get block n st st h)

pub rest-next : (body : List Stmt) (es : List Entered) (n : ℕ) (st : Stmt) → slice_get (block_of body es) n ≡ Some st → rest_of body es n ≡ st ∷ rest_of body es (n + 1)
rest-next body es n st h = ap (λ (l : List Stmt). l ++ left_around body es) (drop-next (block_of body es) n st h)

-- back to the statement that stands before this place
rest-back : (body : List Stmt) (es : List Entered) (n : ℕ) (st : Stmt) → 0 < n → slice_get (block_of body es) (n - 1) ≡ Some st → rest_of body es (n - 1) ≡ st ∷ rest_of body es n
rest-back body es n st l h =
    let next : n - 1 + 1 ≡ n = omega arith in
    rest-next body es (n - 1) st h ∙ ap (λ (k : ℕ). st ∷ rest_of body es k) next

-- the cursor as it was, and with a block of the statement before it entered
pub left-entered : (body : List Stmt) (c d : Cursor) (e : Entered) (st : Stmt) → d.entered.items ≡ c.entered.items ++ e ∷ [] → d.next ≡ 0 → slice_get (block_of body c.entered.items) (entered_at e.branch e.back) ≡ Some st →
    statements_left body d ≡ branch_of (out-Act (out-Stmt st).act) e.branch ++ rest_of body c.entered.items e.back
unfolding statements_left
left-entered body c d e st h k there =
    rw (h, k) (rest-entered body c.entered.items e) ∙ ap (λ (l : List Stmt). l ++ rest_of body c.entered.items e.back) (branch-there (block_of body c.entered.items) e st there)

pub left-is : (body : List Stmt) (c : Cursor) → rest_of body c.entered.items c.next ≡ statements_left body c
unfolding statements_left
left-is body c = refl

pub left-branch : (body : List Stmt) (c d : Cursor) (st : Stmt) (yes : Bool) → IsAfterStatement body c st → d.entered.items ≡ c.entered.items ++ record { branch = if yes then branch.Yes else branch.No; back = c.next } ∷ [] → d.next ≡ 0 →
    statements_left body d ≡ branch_of (out-Act (out-Stmt st).act) (if yes then branch.Yes else branch.No) ++ statements_left body c
left-branch body c d st true after h k =
    left-entered body c d (record { branch = branch.Yes; back = c.next }) st h k after.there ∙ ap (λ (l : List Stmt). branch_of (out-Act (out-Stmt st).act) branch.Yes ++ l) (left-is body c)
left-branch body c d st false after h k =
    left-entered body c d (record { branch = branch.No; back = c.next }) st h k after.there ∙ ap (λ (l : List Stmt). branch_of (out-Act (out-Stmt st).act) branch.No ++ l) (left-is body c)

pub from-branch : (yes : Bool) (n : ℕ) → entered_at (if yes then branch.Yes else branch.No) n ≡ n - 1
from-branch true n = refl
from-branch false n = refl

pub left-turn : (body : List Stmt) (c d : Cursor) (st : Stmt) → IsAfterStatement body c st → d.entered.items ≡ c.entered.items ++ record { branch = branch.LoopBody; back = c.next - 1 } ∷ [] → d.next ≡ 0 →
    statements_left body d ≡ branch_of (out-Act (out-Stmt st).act) branch.LoopBody ++ (st ∷ statements_left body c)
left-turn body c d st after h k =
    left-entered body c d (record { branch = branch.LoopBody; back = c.next - 1 }) st h k after.there
    ∙ ap (λ (l : List Stmt). branch_of (out-Act (out-Stmt st).act) branch.LoopBody ++ l) (rest-back body c.entered.items c.next st after.some after.there ∙ ap (λ (l : List Stmt). st ∷ l) (left-is body c))

pub left-back : (body : List Stmt) (c d : Cursor) (st : Stmt) → IsAfterStatement body c st → d.entered.items ≡ c.entered.items → d.next ≡ c.next - 1 → statements_left body d ≡ st ∷ statements_left body c
unfolding statements_left
left-back body c d st after h k = rw (h, k) (rest-back body c.entered.items c.next st after.some after.there)

-- after the next statement
pub passes : (body : List Stmt) (c d : Cursor) (st : Stmt) → slice_get (block_of body c.entered.items) c.next ≡ Some st → d.entered.items ≡ c.entered.items → d.next ≡ c.next + 1 → PassesStatement body c d st
unfolding statements_left
passes body c d st there h k =
    let back : c.next + 1 - 1 ≡ c.next = omega arith in
    record {
      first = rw (h, k) (rest-next body c.entered.items c.next st there);
      after = record { some = omega arith; there = rw (h, k, back) there };
    }

-- a block that is left, since nothing of it is left
pub left-out : (body : List Stmt) (c d : Cursor) (e : Entered) → c.entered.items ≡ d.entered.items ++ e ∷ [] → d.next ≡ e.back → length (block_of body c.entered.items) ≤ c.next → statements_left body d ≡ statements_left body c
unfolding statements_left
left-out body c d e h k ended =
    let past : length (block_of body (d.entered.items ++ e ∷ [])) ≤ c.next = rw h at ended in
    rw (h, k) (sym (rest-left body d.entered.items e c.next past))

pub left-ended : (body : List Stmt) (c : Cursor) → c.entered.items ≡ [] → length (block_of body c.entered.items) ≤ c.next → statements_left body c ≡ []
unfolding statements_left
left-ended body c h ended =
    let past : length body ≤ c.next = rw h at ended in
    rw h (rest-ended body c.next past)

pub left-same : (body : List Stmt) (c d : Cursor) → d.entered.items ≡ c.entered.items → d.next ≡ c.next → statements_left body d ≡ statements_left body c
unfolding statements_left
left-same body c d h k = rw (h, k) refl
