-- A variable that is there takes a new value, and no other comes to be.
use Rattle.std.proofs.Common.{◌≡◌, ℕ, Bool, true, false, List, [], ◌∷◌, Option, Some, None, IsSome, IsNone, refl, ap, ◌∙◌, if◌then◌else◌}
use Rattle.std.specs.Str.{bytes_eq}
use Rattle.serial_meaning.specs.Values.{Env, content_of}
use Rattle.serial_meaning.specs.Exec.{with_content}
use Rattle.serial_meaning.specs.declared.environment.Content.{Content}
use Rattle.serial_meaning.specs.declared.environment.Variable.{Variable}
use Rattle.strand_meaning.specs.Task.{replaced}
use Rattle.strand_values.specs.Environments.{EnvironmentView, with_variables}

module _ (name : List ℕ) (content : Content) where
  there-at : (b : Bool) (v : Variable) (vs : Env) → (IsSome (content_of vs name) → with_content vs name content ≡ replaced vs name content) → IsSome (if b then Some v.content else content_of vs name) →
      (if b then record v { content = content } ∷ vs else v ∷ with_content vs name content) ≡ (if b then record v { content = content } ∷ vs else v ∷ replaced vs name content)
  there-at true v vs rest some = refl
  there-at false v vs rest some = ap (λ (l : Env). v ∷ l) (rest some)

  there : (env : Env) → IsSome (content_of env name) → with_content env name content ≡ replaced env name content
  there [] some = absurd (cc)
  there (v ∷ vs) some = there-at (bytes_eq v.name name) v vs (there vs) some

  missing-at : (b : Bool) (v : Variable) (vs : Env) → (IsNone (content_of vs name) → vs ≡ replaced vs name content) → IsNone (if b then Some v.content else content_of vs name) →
      v ∷ vs ≡ (if b then record v { content = content } ∷ vs else v ∷ replaced vs name content)
  missing-at true v vs rest none = absurd (cc)
  missing-at false v vs rest none = ap (λ (l : Env). v ∷ l) (rest none)

  missing : (env : Env) → IsNone (content_of env name) → env ≡ replaced env name content
  missing [] none = refl
  missing (v ∷ vs) none = missing-at (bytes_eq v.name name) v vs (missing vs) none

  -- what the environment's method promises is the meaning's change
  pub replaces : (old new : EnvironmentView) → (IsSome (content_of old.variables name) → new ≡ with_variables old (with_content old.variables name content)) → (IsNone (content_of old.variables name) → new ≡ old) → new ≡ with_variables old (replaced old.variables name content)
  replaces old new some none = by_content (content_of old.variables name) refl
    where
      by_content : (s : Option Content) → content_of old.variables name ≡ s → new ≡ with_variables old (replaced old.variables name content)
      by_content (Some s) e = let found : IsSome (content_of old.variables name) = rw e refl in some found ∙ ap (λ (vs : Env). with_variables old vs) (there old.variables found)
      by_content None e = let lost : IsNone (content_of old.variables name) = rw e refl in none lost ∙ ap (λ (vs : Env). with_variables old vs) (missing old.variables lost)
