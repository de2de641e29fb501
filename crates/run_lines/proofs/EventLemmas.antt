-- The lines of events that are kept in parts.
use Rattle.std.proofs.Common.{◌≡◌, ℕ, List, [], ◌∷◌, ◌++◌, Bool, true, false, refl, sym, ap, ◌∙◌}
use Rattle.std.specs.Prelude.{flat_map}
use Rattle.std.proofs.lemmas.Grind.{flat_map-append}
use Rattle.serial_meaning.specs.Chunks.{joined}
use Rattle.serial_meaning.specs.Keeping.{keep_if, kept_of}
use Rattle.serial_meaning.specs.Answer.{AnswerView}
use Rattle.serial_meaning.specs.Render.{answer_text, end_line, event_line}
use Rattle.serial_meaning.specs.declared.event.Event.{Event}
use Rattle.serial_meaning.specs.declared.plan.Show.{Show}

joined_lines : (line : Event → List ℕ) (chunks : List (List Event)) → flat_map line (joined chunks) ≡ flat_map (flat_map line) chunks
joined_lines line [] = refl
joined_lines line (chunk ∷ chunks) = flat_map-append line chunk (joined chunks) ∙ ap (λ l. flat_map line chunk ++ l) (joined_lines line chunks)

-- the full chunks, and the last one
pub parts_lines : (line : Event → List ℕ) (full : List (List Event)) (last : List Event) → flat_map line (joined full ++ last) ≡ flat_map (flat_map line) full ++ flat_map line last
parts_lines line full last = flat_map-append line (joined full) last ∙ ap (λ l. l ++ flat_map line last) (joined_lines line full)

-- what is kept has all lines
kept_first : (line : Event → List ℕ) (k : Bool) (e : Event) (rest : List Event) → (k ≡ false → line e ≡ []) → flat_map line (keep_if k e rest) ≡ line e ++ flat_map line rest
kept_first line true e rest none = refl
kept_first line false e rest none = ap (λ l. l ++ flat_map line rest) (sym (none refl))

kept_lines : (line : Event → List ℕ) (kept : Event → Bool) (es : List Event) → ((e : Event) → kept e ≡ false → line e ≡ []) → flat_map line (kept_of kept es) ≡ flat_map line es
kept_lines line kept [] none = refl
kept_lines line kept (e ∷ es) none = kept_first line (kept e) e (kept_of kept es) (none e) ∙ ap (λ l. line e ++ l) (kept_lines line kept es none)

pub kept_parts : (line : Event → List ℕ) (kept : Event → Bool) (parts events : List Event) → ((e : Event) → kept e ≡ false → line e ≡ []) → parts ≡ kept_of kept events → flat_map line parts ≡ flat_map line events
kept_parts line kept parts events none is = ap (flat_map line) is ∙ kept_lines line kept events none

pub none_kept : (line : Event → List ℕ) (kept : Event → Bool) (events : List Event) → ((e : Event) → kept e ≡ false → line e ≡ []) → kept_of kept events ≡ [] → flat_map line events ≡ []
none_kept line kept events none empty = sym (kept_parts line kept [] events none (sym empty))

-- an answer, however it is seen
pub answer_lines : (a seen : AnswerView) (show : Show) → seen ≡ a → seen.plan.show ≡ show → answer_text a ≡ flat_map (event_line show) seen.out ++ end_line seen.outcome
answer_lines a seen show same is = sym (ap answer_text same) ∙ ap (λ s. flat_map (event_line s) seen.out ++ end_line seen.outcome) is
