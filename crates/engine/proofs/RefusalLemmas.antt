-- What a refusal that tells a line says of the bytes.
use Rattle.std.proofs.Common.{◌≡◌, List, [], ℕ, Contains, sym, subst, arith}
use Rattle.script_check.specs.Valid.{IsValid, CheckFault}
use Rattle.script_check.specs.Violations.{violation}
use Rattle.script_grammar.specs.declared.tree.Script.{Script}
use Rattle.script_grammar.specs.Text.{Text}
use Rattle.engine.specs.Promise.{IsRejected}
use Rattle.engine.specs.Refusal.{IsRejection, IsRefusalLine}
use Rattle.engine.specs.declared.refusal.Refusal.{Refusal}
use Rattle.engine.specs.declared.refusal.Refusal.TheVariants.{TooLong, Rejected, Read, Memory}

-- A script with a violated condition isn't valid.
not_valid : (script : Script) (number at : ℕ) → CheckFault script number at → IsValid script → ⊥
not_valid script number at fault valid =
    let none : Contains [] (violation number at) = subst (λ vs. Contains vs (violation number at)) valid fault.violated in absurd (omega (arith, none.1))

pub invalid_text : (bytes : List ℕ) (script : Script) → Text bytes script → ((other : Script) → Text bytes other → other ≡ script) → (number at : ℕ) → CheckFault script number at →
    (other : Script) → Text bytes other → IsValid other → ⊥
invalid_text bytes script text one number at fault other read valid = not_valid script number at fault (subst IsValid (one other read) valid)

pub told_rejection : (takes : Script → Type 0) (bytes line : List ℕ) (refusal : Refusal) → IsRejected takes bytes line → IsRefusalLine line refusal → IsRejection takes bytes refusal
told_rejection takes bytes line TooLong untaken told = absurd told
told_rejection takes bytes line (Rejected said) untaken told = subst (IsRejected takes bytes) (sym told) untaken
told_rejection takes bytes line Read untaken told = absurd told
told_rejection takes bytes line Memory untaken told = tt

-- What is no script of some kind is no script of a narrower kind.
pub rejection_narrower : (takes narrower : Script → Type 0) → ((script : Script) → narrower script → takes script) → (bytes : List ℕ) (refusal : Refusal) → IsRejection takes bytes refusal → IsRejection narrower bytes refusal
rejection_narrower takes narrower sub bytes TooLong is = is
rejection_narrower takes narrower sub bytes (Rejected line) is = record { none = λ script text taken. is.none script text (sub script taken); why = is.why }
rejection_narrower takes narrower sub bytes Read is = is
rejection_narrower takes narrower sub bytes Memory is = is
