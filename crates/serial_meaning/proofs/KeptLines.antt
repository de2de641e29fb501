-- What is kept has all lines, where each event is kept that has one.
use Rattle.std.proofs.Common.{◌≡◌, ℕ, List, [], ◌∷◌, ◌++◌, Bool, true, false, refl, ap, ◌∙◌, sym}
use Rattle.std.specs.Prelude.{flat_map}
use Rattle.serial_meaning.specs.declared.event.Event.{Event}
use Rattle.serial_meaning.specs.declared.plan.Show.{Show}
use Rattle.serial_meaning.specs.Keeping.{kept_of, keep_if}
use Rattle.serial_meaning.specs.KeptLines.{KeepsLines}
use Rattle.serial_meaning.specs.Render.{event_line}

line_before : (line : Event → List ℕ) (b : Bool) (e : Event) (es : List Event) → (b ≡ false → line e ≡ []) → flat_map line (keep_if b e es) ≡ line e ++ flat_map line es
line_before line true e es none = refl
line_before line false e es none = ap (λ l. l ++ flat_map line es) (sym (none refl))

pub kept_lines : (kept : Event → Bool) (show : Show) (es : List Event) → KeepsLines kept show → flat_map (event_line show) (kept_of kept es) ≡ flat_map (event_line show) es
kept_lines kept show [] lines = refl
kept_lines kept show (e ∷ es) lines = line_before (event_line show) (kept e) e (kept_of kept es) (lines e) ∙ ap (λ l. event_line show e ++ l) (kept_lines kept show es lines)
