-- The answers of children that have answered, one after the other.
use Rattle.std.proofs.Common.{◌≡◌, ◌+◌, List, [], ◌∷◌, ◌++◌, Some, None, length, refl, sym, ap, ◌∙◌, append_assoc, arith}
use Rattle.serial_meaning.specs.Answer.{AnswerView}
use Rattle.sched_core.specs.Nodes.{and_answer, answers_in, missing, missing_one}
use Rattle.sched_core.specs.declared.node.NodeChild.{NodeChild}

pub not-missing : (c : NodeChild) (all rest : List NodeChild) → all ≡ c ∷ rest → missing all ≡ 0 → c.answer ≡ None → ⊥
not-missing c all rest e z none =
    let m : missing_one c.answer + missing rest ≡ 0 = sym (ap missing e) ∙ z in
    let one : missing_one c.answer ≡ 1 = ap missing_one none in absurd (omega arith)

pub rest-whole : (c : NodeChild) (all rest : List NodeChild) → all ≡ c ∷ rest → missing all ≡ 0 → missing rest ≡ 0
rest-whole c all rest e z = let m : missing_one c.answer + missing rest ≡ 0 = sym (ap missing e) ∙ z in omega arith

pub one-more : (c : NodeChild) (a : AnswerView) (all rest : List NodeChild) (whole now next : List AnswerView) → all ≡ c ∷ rest → c.answer ≡ Some a → whole ≡ now ++ answers_in all → next ≡ now ++ a ∷ [] → whole ≡ next ++ answers_in rest
one-more c a all rest whole now next e has h push =
    h ∙ ap (λ (l : List NodeChild). now ++ answers_in l) e ∙ ap (λ o. now ++ and_answer o (answers_in rest)) has ∙ sym (append_assoc now (a ∷ []) (answers_in rest)) ∙ ap (λ l. l ++ answers_in rest) (sym push)

append-none : (xs : List AnswerView) → xs ++ [] ≡ xs
append-none [] = refl
append-none (x ∷ xs) = ap (λ l. x ∷ l) (append-none xs)

pub none-more : (all : List NodeChild) (whole now : List AnswerView) → length all ≡ 0 → whole ≡ now ++ answers_in all → now ≡ whole
none-more [] whole now e h = sym (h ∙ append-none now)
none-more (c ∷ all) whole now e h = absurd (omega arith)
