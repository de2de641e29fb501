-- What is kept of a list of events.
use Rattle.std.proofs.Common.{◌≡◌, ℕ, List, [], ◌∷◌, ◌++◌, Bool, true, false, refl, ap, ◌∙◌}
use Rattle.serial_meaning.specs.declared.event.Event.{Event}
use Rattle.serial_meaning.specs.declared.event.EventKind.{EventKind}
use Rattle.serial_meaning.specs.declared.event.EventKind.TheVariants as kind
use Rattle.serial_meaning.specs.EventKinds.{event_at}
use Rattle.serial_meaning.specs.Keeping.{kept_of, keep_if}
use Rattle.serial_meaning.specs.Prints.{is_print}

keep_before : (b : Bool) (x : Event) (xs ys : List Event) → keep_if b x (xs ++ ys) ≡ keep_if b x xs ++ ys
keep_before true x xs ys = refl
keep_before false x xs ys = refl

pub kept_append : (kept : Event → Bool) (xs ys : List Event) → kept_of kept (xs ++ ys) ≡ kept_of kept xs ++ kept_of kept ys
kept_append kept [] ys = refl
kept_append kept (x ∷ xs) ys = ap (keep_if (kept x) x) (kept_append kept xs ys) ∙ keep_before (kept x) x (kept_of kept xs) (kept_of kept ys)

-- one event more, which is kept
pub kept_more : (kept : Event → Bool) (es : List Event) (e : Event) → kept e ≡ true → kept_of kept (es ++ e ∷ []) ≡ kept_of kept es ++ e ∷ []
kept_more kept es e is = kept_append kept es (e ∷ []) ∙ ap (λ b. kept_of kept es ++ keep_if b e []) is

-- and which is not
pub kept_same : (kept : Event → Bool) (es : List Event) (e : Event) → kept e ≡ false → kept_of kept (es ++ e ∷ []) ≡ kept_of kept es
kept_same kept [] e is = ap (λ b. keep_if b e []) is
kept_same kept (x ∷ es) e is = ap (keep_if (kept x) x) (kept_same kept es e is)

pub kept_all : (es : List Event) → kept_of (λ _. true) es ≡ es
kept_all [] = refl
kept_all (e ∷ es) = ap (λ l. e ∷ l) (kept_all es)

-- no event of these kinds is a print
pub kind_is_no_print : (j : List ℕ) (k : EventKind) → is_print (event_at j k) ≡ false
kind_is_no_print j (kind.Draw word) = refl
kind_is_no_print j kind.New = refl
kind_is_no_print j kind.Spawn = refl
kind_is_no_print j kind.Sync = refl
kind_is_no_print j kind.Loop = refl
