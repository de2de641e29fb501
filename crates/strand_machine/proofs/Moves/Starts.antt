-- The parts of children, and events after the last one.
use Rattle.std.proofs.Common.{◌≡◌, ℕ, ◌+◌, ◌<◌, ◌==◌, Bool, true, Option, List, [], ◌∷◌, ◌++◌, length, get_or, refl, sym, ap, ◌∙◌, arith}
use Rattle.std.specs.Prelude.{IsTrue}
use Rattle.std.proofs.lemmas.Bool.Decides.{nat_tests}
use Rattle.std.proofs.Math.ListN.{set}
use Rattle.serial_meaning.specs.declared.event.Event.{Event}
use Rattle.serial_meaning.specs.declared.event.Fault.{Fault}
use Rattle.serial_meaning.specs.declared.origin.Origin.{Origin}
use Rattle.strand_meaning.specs.Trace.{AwaitedChild, after_last, emit}
use Rattle.strand_machine.specs.AwaitedChildren.{awaited_child, awaited_children, awaited}
use Rattle.strand_machine.specs.declared.trace.AfterChild.{AfterChild}

pub awaited_parts : {K : Type 0} (os : List Origin) (bs : List (AfterChild K)) → length os ≡ length bs → awaited (awaited_children os bs) ≡ os
awaited_parts [] bs h = refl
awaited_parts (o ∷ os) [] h = absurd (omega arith)
awaited_parts (o ∷ os) (b ∷ bs) h = ap (λ l. o ∷ l) (awaited_parts os bs (omega arith))

pub parts_more : {K : Type 0} (os : List Origin) (bs : List (AfterChild K)) (o : Origin) (b : AfterChild K) → length os ≡ length bs → awaited_children (os ++ o ∷ []) (bs ++ b ∷ []) ≡ awaited_children os bs ++ awaited_child o b ∷ []
parts_more [] [] o b h = refl
parts_more [] (c ∷ bs) o b h = absurd (omega arith)
parts_more (p ∷ os) [] o b h = absurd (omega arith)
parts_more (p ∷ os) (c ∷ bs) o b h = ap (λ l. awaited_child p c ∷ l) (parts_more os bs o b (omega arith))

not-zero : (n : ℕ) → 0 < n → (n == 0) ≡ true → ⊥
not-zero n h e = grind (arith, nat_tests)

pub alone : {K : Type 0} (os : List Origin) (bs : List (AfterChild K)) (n : ℕ) (r : Bool) → length os ≡ length bs → n ≡ length os → r ≡ (n == 0) → (IsTrue r → awaited_children os bs ≡ []) × (awaited_children os bs ≡ [] → IsTrue r)
alone [] bs n r h k e = (λ t. refl, λ x. e ∙ ap (λ (m : ℕ). m == 0) k)
alone (o ∷ os) [] n r h k e = absurd (omega arith)
alone (o ∷ os) (b ∷ bs) n r h k e = (λ t. absurd (not-zero n (omega arith) (sym e ∙ t)), λ x. absurd (cc))

-- an event after the last child
emit_last : {K : Type 0} (o : Origin) (os : List Origin) (c : AfterChild K) (cs : List (AfterChild K)) (b : AfterChild K) (e : Event) → length os ≡ length cs → b ≡ get_or (c ∷ cs) (length cs) b →
    after_last (awaited_child o c) (awaited_children os cs) e ≡ awaited_children (o ∷ os) (set (c ∷ cs) (length cs) (record b { events = b.events ++ e ∷ [] }))
emit_last o [] c [] b e h g = ap (λ (d : AfterChild _). awaited_child o (record d { events = d.events ++ e ∷ [] }) ∷ []) (sym g)
emit_last o [] c (d ∷ cs) b e h g = absurd (omega arith)
emit_last o (p ∷ os) c [] b e h g = absurd (omega arith)
emit_last o (p ∷ os) c (d ∷ cs) b e h g = ap (λ l. awaited_child o c ∷ l) (emit_last p os d cs b e (omega arith) g)

pub prefix-last : {K : Type 0} (prefix : List Event) (fault : Option Fault) (os : List Origin) (bs : List (AfterChild K)) (i : ℕ) (b : AfterChild K) (e : Event) (es : List Event) → length os ≡ length bs → i + 1 ≡ length bs → b ≡ get_or bs i b → es ≡ b.events ++ e ∷ [] →
    record { prefix = prefix; fault = fault; unmerged = awaited_children os (set bs i (record b { events = es })) } ≡ emit e (record { prefix = prefix; fault = fault; unmerged = awaited_children os bs })
prefix-last prefix fault os [] i b e es h k g w = absurd (omega arith)
prefix-last prefix fault [] (c ∷ cs) i b e es h k g w = absurd (omega arith)
prefix-last prefix fault (o ∷ os) (c ∷ cs) i b e es h k g w =
    let at : i ≡ length cs = omega arith in
    let last : b ≡ get_or (c ∷ cs) (length cs) b = rw at at g in
    rw (w, at) (ap (λ (ps : List AwaitedChild). record { prefix = prefix; fault = fault; unmerged = ps }) (sym (emit_last o os c cs b e (omega arith) last)))
