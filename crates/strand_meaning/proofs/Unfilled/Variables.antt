-- Variables that are set and replaced.
use Rattle.std.proofs.Common.{◌≡◌, Bool, true, false, List, [], ◌∷◌, Option, Some, None, refl, sym, ap, ◌∙◌, if◌then◌else◌}
use Rattle.std.specs.Str.{bytes_eq}
use Rattle.std.proofs.lemmas.Slice.Eq.{bytes_eq-Decides}
use Rattle.script_grammar.specs.declared.tree.Name.{Name}
use Rattle.serial_meaning.specs.Values.{Env, content_of, items_of}
use Rattle.serial_meaning.specs.Exec.{with_content, with_front, with_loop_values}
use Rattle.serial_meaning.specs.declared.value.Value.{Value}
use Rattle.serial_meaning.specs.declared.environment.Content.{Content}
use Rattle.serial_meaning.specs.declared.environment.Content.TheVariants.{Array}
use Rattle.strand_meaning.specs.Task.{replaced}

pub same-name : (x y : List _) → bytes_eq x y ≡ true → x ≡ y
same-name x y h = (bytes_eq-Decides x y).0 h

pub is-itself : (x : List _) → bytes_eq x x ≡ true
is-itself x = (bytes_eq-Decides x x).1 refl

pub is-other : (x y : List _) → (x ≡ y → ⊥) → bytes_eq x y ≡ false
is-other x y h = from (bytes_eq x y) refl
  where
    from : (b : Bool) → bytes_eq x y ≡ b → b ≡ false
    from true e = absurd (h (same-name x y e))
    from false e = refl

pub with-with : (env : Env) (x : List _) (a b : Content) → with_content (with_content env x a) x b ≡ with_content env x b
with-with [] x a b = rw (is-itself x) refl
with-with (v ∷ vs) x a b = from (bytes_eq v.name x) refl (with-with vs x a b)
  where
    from : (t : Bool) → bytes_eq v.name x ≡ t → with_content (with_content vs x a) x b ≡ with_content vs x b →
        with_content (if t then record v { content = a } ∷ vs else v ∷ with_content vs x a) x b ≡ (if t then record v { content = b } ∷ vs else v ∷ with_content vs x b)
    from true e ih = rw e refl
    from false e ih = rw e (ap (λ r. v ∷ r) ih)

content-with : (env : Env) (x : List _) (a : Content) → content_of (with_content env x a) x ≡ Some a
content-with [] x a = rw (is-itself x) refl
content-with (v ∷ vs) x a = from (bytes_eq v.name x) refl (content-with vs x a)
  where
    from : (t : Bool) → bytes_eq v.name x ≡ t → content_of (with_content vs x a) x ≡ Some a → content_of (if t then record v { content = a } ∷ vs else v ∷ with_content vs x a) x ≡ Some a
    from true e ih = rw e refl
    from false e ih = rw e ih

pub content-replaced : (env : Env) (p x : List _) (a : Content) → (p ≡ x → ⊥) → content_of (replaced env p a) x ≡ content_of env x
content-replaced [] p x a h = refl
content-replaced (v ∷ vs) p x a h = from (bytes_eq v.name p) refl (content-replaced vs p x a h)
  where
    from : (t : Bool) → bytes_eq v.name p ≡ t → content_of (replaced vs p a) x ≡ content_of vs x → content_of (if t then record v { content = a } ∷ vs else v ∷ replaced vs p a) x ≡ content_of (v ∷ vs) x
    from true e ih = let o : bytes_eq v.name x ≡ false = is-other v.name x (λ q. h (sym (same-name v.name p e) ∙ q)) in rw o refl
    from false e ih = ap (λ r. if bytes_eq v.name x then Some v.content else r) ih

pub replaced-with : (env : Env) (x : List _) (a b : Content) → replaced (with_content env x a) x b ≡ with_content env x b
replaced-with [] x a b = rw (is-itself x) refl
replaced-with (v ∷ vs) x a b = from (bytes_eq v.name x) refl (replaced-with vs x a b)
  where
    from : (t : Bool) → bytes_eq v.name x ≡ t → replaced (with_content vs x a) x b ≡ with_content vs x b →
        replaced (if t then record v { content = a } ∷ vs else v ∷ with_content vs x a) x b ≡ (if t then record v { content = b } ∷ vs else v ∷ with_content vs x b)
    from true e ih = rw e refl
    from false e ih = rw e (ap (λ r. v ∷ r) ih)

-- Setting a variable and replacing another one may be done in either order.
pub with-replaced : (env : Env) (p x : List _) (a b : Content) → (p ≡ x → ⊥) → with_content (replaced env p a) x b ≡ replaced (with_content env x b) p a
with-replaced [] p x a b h = let o : bytes_eq x p ≡ false = is-other x p (λ q. h (sym q)) in rw o refl
with-replaced (v ∷ vs) p x a b h = from (bytes_eq v.name p) refl (bytes_eq v.name x) refl (with-replaced vs p x a b h)
  where
    from : (t : Bool) → bytes_eq v.name p ≡ t → (u : Bool) → bytes_eq v.name x ≡ u → with_content (replaced vs p a) x b ≡ replaced (with_content vs x b) p a →
        with_content (if t then record v { content = a } ∷ vs else v ∷ replaced vs p a) x b ≡ replaced (if u then record v { content = b } ∷ vs else v ∷ with_content vs x b) p a
    from true e true g ih = absurd (h (sym (same-name v.name p e) ∙ same-name v.name x g))
    from true e false g ih = rw (e, g) refl
    from false e true g ih = rw (e, g) refl
    from false e false g ih = rw (e, g) (ap (λ r. v ∷ r) ih)

-- Values that are put in later may be put in at once.
pub filled-later : (target : Option Name) (vs : List Value) (env : Env) → with_loop_values target vs (with_loop_values target [] env) ≡ with_loop_values target vs env
filled-later None vs env = refl
filled-later (Some x) vs env =
    let xs = items_of (content_of env x.bytes) in
    ap (λ o. with_content (with_content env x.bytes (Array (with_front xs []))) x.bytes (Array (with_front (items_of o) vs))) (content-with env x.bytes (Array (with_front xs [])))
    ∙ with-with env x.bytes (Array (with_front xs [])) (Array (with_front (with_front xs []) vs)) ∙ ap (λ l. with_content env x.bytes (Array (with_front l vs))) (front-nothing xs)
  where
    front-nothing : (xs : List _) → with_front xs [] ≡ xs
    front-nothing [] = refl
    front-nothing (x ∷ xs) = refl
