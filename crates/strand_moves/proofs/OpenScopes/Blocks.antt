-- The blocks of open scopes, from the outermost one on.
use Rattle.std.proofs.Common.{◌≡◌, List, [], ◌∷◌, ◌++◌, reverse, refl, sym, ap, ◌∙◌}
use Rattle.std.proofs.lemmas.List.{reverse-append}
use Rattle.script_grammar.specs.declared.tree.Stmt.{Stmt}
use Rattle.strand_moves.specs.declared.frame.Level.{Level}
use Rattle.strand_moves.specs.Cursors.{scope_after}
use Rattle.strand_moves.specs.InstanceParts.{block_inside}

-- the block of the innermost of these scopes, which stand the outermost first
abbrev pub block_from : List Stmt → List Level → List Stmt
block_from block [] = block
block_from block (l ∷ ls) = block_from (scope_after block l.cursor) ls

inside-outermost : (body : List Stmt) (ls : List Level) (l : Level) → block_inside body (ls ++ l ∷ []) ≡ block_inside (scope_after body l.cursor) ls
inside-outermost body [] l = refl
inside-outermost body (m ∷ ls) l = ap (λ (block : List Stmt). scope_after block m.cursor) (inside-outermost body ls l)

pub from-outermost : (body : List Stmt) (ls : List Level) → block_from body ls ≡ block_inside body (reverse ls)
from-outermost body [] = refl
from-outermost body (l ∷ ls) =
    from-outermost (scope_after body l.cursor) ls ∙ sym (inside-outermost body (reverse ls) l) ∙ ap (λ (ms : List Level). block_inside body ms) (sym (reverse-append (l ∷ []) ls))
