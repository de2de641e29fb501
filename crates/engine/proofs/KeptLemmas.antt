-- What is kept has all lines: the events that have a line in some form, and prints where values alone are shown.
use Rattle.std.proofs.Common.{◌≡◌, List, true, false, refl, sym, ap, ◌∙◌, subst}
use Rattle.std.specs.Prelude.{All}
use Rattle.std.specs.List.{slice_index_or}
use Rattle.serial_meaning.specs.Answer.{AnswerView}
use Rattle.serial_meaning.specs.KeptLines.{KeepsLines}
use Rattle.serial_meaning.specs.Lined.{has_line}
use Rattle.serial_meaning.specs.Plan.{PlanView}
use Rattle.serial_meaning.specs.Prints.{is_print}
use Rattle.serial_meaning.specs.declared.event.Event.{Event}
use Rattle.serial_meaning.specs.declared.event.Event.TheVariants as event
use Rattle.serial_meaning.specs.declared.plan.Show.{Show}
use Rattle.serial_meaning.specs.declared.plan.Show.TheVariants.{Plain}

pub lines_kept : (show : Show) → KeepsLines has_line show
lines_kept show (event.Print j v) none = let no : true ≡ false = none in absurd (cc)
lines_kept show (event.Draw j n) none = let no : true ≡ false = none in absurd (cc)
lines_kept show (event.New j) none = let no : true ≡ false = none in absurd (cc)
lines_kept show (event.Spawn j) none = refl
lines_kept show (event.Sync j) none = refl
lines_kept show (event.Loop j) none = refl

-- the same of several answers
pub all_lines_kept : (answers : List AnswerView) → All (λ (answer : AnswerView). KeepsLines has_line answer.plan.show) answers
all_lines_kept answers = λ k d within. lines_kept (slice_index_or answers k d).plan.show

plain : KeepsLines is_print Plain
plain (event.Print j v) none = let no : true ≡ false = none in absurd (cc)
plain (event.Draw j n) none = refl
plain (event.New j) none = refl
plain (event.Spawn j) none = refl
plain (event.Sync j) none = refl
plain (event.Loop j) none = refl

pub prints_kept : (show : Show) → show ≡ Plain → KeepsLines is_print show
prints_kept show is = subst (KeepsLines is_print) (sym is) plain

-- the same of a plan, as an answer has it
pub prints_kept_of : (plan seen : PlanView) → seen ≡ plan → plan.show ≡ Plain → KeepsLines is_print seen.show
prints_kept_of plan seen same is = prints_kept seen.show (ap (λ (p : PlanView). p.show) same ∙ is)
