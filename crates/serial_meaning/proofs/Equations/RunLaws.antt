-- Runs one after another.
use Rattle.std.proofs.Common.{◌≡◌, List, ◌++◌, Result, Ok, Err, refl, ap, append_assoc}
use Rattle.serial_meaning.specs.Runs.{Run, after_items, continued, ◌then◌}

-- what holds of the value where a run ended well
abbrev pub Gives : {E A : Type 0} → (A → Type 0) → Result A E → Type 0
Gives P (Ok a) = P a
Gives P (Err e) = Unit {0}

pub anything : {E A : Type 0} (r : Result A E) → Gives (λ (a : A). Unit {0}) r
anything (Ok a) = tt
anything (Err e) = tt

pub gives-at : {E A : Type 0} (P : A → Type 0) (r : Result A E) (a : A) → Gives P r → r ≡ Ok a → P a
gives-at P r a h e = rw e at h

module _ {I E : Type 0} where
  pub goes_on-after : {A B : Type 0} (xs ys : List I) (r : Result A E) (go : A → Run I E B) → continued (xs ++ ys) r go ≡ after_items xs (continued ys r go)
  goes_on-after xs ys (Ok a) go = ap (λ l. record { items = l; ending = (go a).ending }) (append_assoc xs ys (go a).items)
  goes_on-after xs ys (Err e) go = refl

  pub goes_on-then : {A B C : Type 0} (xs : List I) (r : Result A E) (f : A → Run I E B) (g : B → Run I E C) → (continued xs r f then g) ≡ continued xs r (λ a. f a then g)
  goes_on-then xs (Ok a) f g = goes_on-after xs (f a).items (f a).ending g
  goes_on-then xs (Err e) f g = refl

  pub then-then : {A B C : Type 0} (r : Run I E A) (f : A → Run I E B) (g : B → Run I E C) → ((r then f) then g) ≡ (r then λ a. f a then g)
  then-then r f g = goes_on-then r.items r.ending f g

  pub goes_on-same : {A B : Type 0} (xs : List I) (r : Result A E) (f g : A → Run I E B) → ((a : A) → r ≡ Ok a → f a ≡ g a) → continued xs r f ≡ continued xs r g
  goes_on-same xs (Ok a) f g same = ap (after_items xs) (same a refl)
  goes_on-same xs (Err e) f g same = refl

  pub then-same : {A B : Type 0} (r : Run I E A) (f g : A → Run I E B) → ((a : A) → r.ending ≡ Ok a → f a ≡ g a) → (r then f) ≡ (r then g)
  then-same r f g same = goes_on-same r.items r.ending f g same

  pub goes_on-gives : {A B : Type 0} (P : A → Type 0) (Q : B → Type 0) (xs : List I) (r : Result A E) (f : A → Run I E B) → Gives P r → ((a : A) → P a → Gives Q (f a).ending) → Gives Q (continued xs r f).ending
  goes_on-gives P Q xs (Ok a) f h go = go a h
  goes_on-gives P Q xs (Err e) f h go = tt

  pub then-gives : {A B : Type 0} (P : A → Type 0) (Q : B → Type 0) (r : Run I E A) (f : A → Run I E B) → Gives P r.ending → ((a : A) → P a → Gives Q (f a).ending) → Gives Q (r then f).ending
  then-gives P Q r f h go = goes_on-gives P Q r.items r.ending f h go
