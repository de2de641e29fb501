-- A run so far: what happened, in order, and how it ended (docs/LANGUAGE.md, "Steps"). Definitions of a script's meaning put runs one after
-- another.
use Rattle.std.specs.Prelude.{List, [], ◌∷◌, ◌++◌, Result, Ok, Err}

pub record Run (I E A : Type 0) : Type 0 where
  pub items : List I
  pub ending : Result A E

abbrev pub done : {I E A : Type 0} → A → Run I E A
done a = record { items = []; ending = Ok a }

abbrev pub run_ends_by : {I E A : Type 0} → E → Run I E A
run_ends_by e = record { items = []; ending = Err e }

abbrev pub happens : {I E A : Type 0} → I → A → Run I E A
happens i a = record { items = i ∷ []; ending = Ok a }

-- a run with items before it
abbrev pub after_items : {I E A : Type 0} → List I → Run I E A → Run I E A
after_items items r = record { items = items ++ r.items; ending = r.ending }

-- goes on after a run, unless that ended early
infixl 10 ◌then◌
abbrev pub continued : {I E A B : Type 0} → List I → Result A E → (A → Run I E B) → Run I E B
continued items (Ok a) go = after_items items (go a)
continued items (Err e) go = record { items = items; ending = Err e }

abbrev pub ◌then◌ : {I E A B : Type 0} → Run I E A → (A → Run I E B) → Run I E B
r then go = continued r.items r.ending go

-- the same for a calculation, in which nothing happens
infixl 10 ◌>>=◌
abbrev pub ◌>>=◌ : {A B E : Type 0} → Result A E → (A → Result B E) → Result B E
(Ok x) >>= f = f x
(Err e) >>= f = Err e
