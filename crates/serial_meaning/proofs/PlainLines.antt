-- Only prints have a line where values alone are printed.
use Rattle.std.proofs.Common.{◌≡◌, List, [], ◌∷◌, ◌++◌, true, false, refl, sym, ap, ap₂, ◌∙◌}
use Rattle.std.specs.Prelude.{flat_map}
use Rattle.serial_meaning.specs.declared.event.Event.{Event}
use Rattle.serial_meaning.specs.declared.event.Event.TheVariants as event
use Rattle.serial_meaning.specs.declared.plan.Show.{Show}
use Rattle.serial_meaning.specs.declared.plan.Show.TheVariants.{Plain}
use Rattle.serial_meaning.specs.Keeping.{kept_of}
use Rattle.serial_meaning.specs.KeptLines.{KeepsLines}
use Rattle.serial_meaning.specs.Laws.{PlainTextDependsOnPrints}
use Rattle.serial_meaning.specs.Prints.{has_print, is_print}
use Rattle.serial_meaning.specs.Render.{event_line, end_line}
use Rattle.serial_meaning.proofs.KeptLines.{kept_lines}

pub plain_of_none : (events : List Event) → has_print events ≡ false → flat_map (event_line Plain) events ≡ []
plain_of_none [] none = refl
plain_of_none (event.Print j v ∷ events) none = let no : true ≡ false = none in absurd (cc)
plain_of_none (event.Draw j n ∷ events) none = plain_of_none events none
plain_of_none (event.New j ∷ events) none = plain_of_none events none
plain_of_none (event.Spawn j ∷ events) none = plain_of_none events none
plain_of_none (event.Sync j ∷ events) none = plain_of_none events none
plain_of_none (event.Loop j ∷ events) none = plain_of_none events none

prints_have_lines : KeepsLines is_print Plain
prints_have_lines (event.Print j v) none = let no : true ≡ false = none in absurd (cc)
prints_have_lines (event.Draw j n) none = refl
prints_have_lines (event.New j) none = refl
prints_have_lines (event.Spawn j) none = refl
prints_have_lines (event.Sync j) none = refl
prints_have_lines (event.Loop j) none = refl

lines_of_prints : (show : Show) (es : List Event) → show ≡ Plain → flat_map (event_line show) es ≡ flat_map (event_line Plain) (kept_of is_print es)
lines_of_prints show es is = ap (λ s. flat_map (event_line s) es) is ∙ sym (kept_lines is_print Plain es prints_have_lines)

pub plain_text_depends_on_prints : PlainTextDependsOnPrints
plain_text_depends_on_prints a b a-plain b-plain prints ends =
    ap₂ ◌++◌
    (lines_of_prints a.plan.show a.out a-plain ∙ ap (flat_map (event_line Plain)) prints ∙ sym (lines_of_prints b.plan.show b.out b-plain))
    (ap end_line ends)
