-- Texts that are cut into tokens of a form, whatever stands after them.
use Rattle.std.proofs.Common.{◌≡◌, ℕ, suc, ◌+◌, ◌≤◌, List, [], ◌∷◌, ◌++◌, length, codes, Some, None, Bool, true, false, not, nat_eq, refl, sym, ap, ◌∙◌, subst, arith, append_assoc}
use Rattle.std.proofs.lemmas.Bool.{eqb-true}
use Rattle.script_tokens.specs.declared.token.Word.{Word}
use Rattle.script_tokens.specs.declared.token.Word.TheVariants.{Name, Number}
use Rattle.script_tokens.specs.Word.{word_of, is_name_byte}
use Rattle.script_tokens.specs.Lexing.{is_blank}
use Rattle.script_grammar.specs.Grammar.{Terminal, tok}
use Rattle.script_print.proofs.Cutting.{IsModest, Spells, spells_token, spells_blank, starts, longest_by}
use Rattle.script_tokens.specs.declared.version.Version.{Version}

-- between the tokens from the first on and those after the last
abbrev pub Relation : Type 1
Relation = List Terminal → List Terminal → Type 0

-- The bytes are cut into tokens whose last are those of what stands after, and the others are of the form.
pub record Cut (version : Version) (D : List Terminal → List Terminal → Type 0) (at : ℕ) (bytes : List ℕ) (after : ℕ → List Terminal) : Type 0 where
  pub tokens : List Terminal
  pub spells : Spells version at bytes tokens
  pub end : ℕ
  pub form : D tokens (after end)

-- Wherever the text stands, and whatever stands after it that begins with a byte that passes, it is of the form.
pub record Forms (version : Version) (text : List ℕ) (passes : ℕ → Bool) (D : List Terminal → List Terminal → Type 0) : Type 0 where
  pub cut : (rest : List ℕ) (after : ℕ → List Terminal) → starts passes rest ≡ true → ((at : ℕ) → Spells version at rest (after at)) → (at : ℕ) → Cut version D at (text ++ rest) after

-- one form and then another
pub data Then (D E : List Terminal → List Terminal → Type 0) : List Terminal → List Terminal → Type 0 where
  and_then : {us mid ts : List Terminal} → D us mid → E mid ts → Then D E us ts

-- one token
pub data IsToken (w : Word) (text : List ℕ) : List Terminal → List Terminal → Type 0 where
  a_token : {a : ℕ} {ts : List Terminal} → IsToken w text (tok a w text ∷ ts) ts

-- no token
pub data IsNothing : List Terminal → List Terminal → Type 0 where
  nothing : {ts : List Terminal} → IsNothing ts ts

pub then_ : {version : Version} {t u : List ℕ} {f g : ℕ → Bool} {D E : List Terminal → List Terminal → Type 0} → Forms version t f D → Forms version u g E →
    ((rest : List ℕ) → starts g rest ≡ true → starts f (u ++ rest) ≡ true) → Forms version (t ++ u) g (Then D E)
then_ {version = version} {t = t} {u = u} a b ok = record {
  cut = λ rest after s spells at.
      let first = a.cut (u ++ rest) (λ n. (b.cut rest after s spells n).tokens) (ok rest s) (λ n. (b.cut rest after s spells n).spells) at in
      let second = b.cut rest after s spells first.end in
      record {
        tokens = first.tokens;
        spells = subst (λ z. Spells version at z first.tokens) (sym (append_assoc t u rest)) first.spells;
        end = second.end;
        form = and_then first.form second.form;
      };
}

pub weaken : {version : Version} {t : List ℕ} {f : ℕ → Bool} {D E : List Terminal → List Terminal → Type 0} → Forms version t f D → ((us ts : List Terminal) → D us ts → E us ts) → Forms version t f E
weaken a h = record {
  cut = λ rest after s spells at.
      let c = a.cut rest after s spells at in
      record { tokens = c.tokens; spells = c.spells; end = c.end; form = h c.tokens (after c.end) c.form };
}

-- fewer bytes may stand after
pub before : {version : Version} {t : List ℕ} {f : ℕ → Bool} {D : List Terminal → List Terminal → Type 0} (g : ℕ → Bool) → Forms version t f D → ((rest : List ℕ) → starts g rest ≡ true → starts f rest ≡ true) → Forms version t g D
before g a h = record { cut = λ rest after s spells at. a.cut rest after (h rest s) spells at }

pub empty : {version : Version} {f : ℕ → Bool} → Forms version [] f IsNothing
empty = record { cut = λ rest after s spells at. record { tokens = after at; spells = spells at; end = at; form = nothing } }

-- any byte may stand after
abbrev pub any : ℕ → Bool
any b = true

pub anything : (rest : List ℕ) → starts any rest ≡ true
anything [] = refl
anything (b ∷ bs) = refl

-- a byte that goes on no name and no number
abbrev pub calm : ℕ → Bool
calm b = not (is_name_byte b)

-- a byte that makes no arrow of a minus
abbrev pub no_arrow : ℕ → Bool
no_arrow b = not (nat_eq 62 b)

pub calmly : {version : Version} {t : List ℕ} {D : List Terminal → List Terminal → Type 0} → Forms version t any D → Forms version t calm D
calmly a = before calm a (λ rest s. anything rest)

pub a_blank : {version : Version} (b : ℕ) → is_blank b ≡ true → Forms version (b ∷ []) any IsNothing
a_blank b h = record {
  cut = λ rest after s spells at. record { tokens = after (suc at); spells = spells_blank at b rest (after (suc at)) h (spells (suc at)); end = suc at; form = nothing };
}

pub token_before : {version : Version} (w : Word) (text : List ℕ) (f : ℕ → Bool) → word_of version text ≡ Some w → ((b : ℕ) → f b ≡ true → word_of version (text ++ b ∷ []) ≡ None) →
    ((at : ℕ) → IsModest (tok at w text)) → Forms version text f (IsToken w text)
token_before w text f e none modest = record {
  cut = λ rest after s spells at. record {
    tokens = tok at w text ∷ after (at + length text);
    spells = spells_token at w text rest (after (at + length text)) (longest_by w text f e none rest s) (modest at) (spells (at + length text));
    end = at + length text;
    form = a_token;
  };
}

-- neither a name nor a number
abbrev pub is_fixed : Word → Bool
is_fixed Name = false
is_fixed Number = false
is_fixed _ = true

pub fixed_is_modest : (at : ℕ) (w : Word) (text : List ℕ) → is_fixed w ≡ true → IsModest (tok at w text)
fixed_is_modest at w text h = record { number = λ e. let f = ap is_fixed e in absurd cc; name = λ e. let f = ap is_fixed e in absurd cc }

-- a keyword or symbol before any byte, or of one byte
pub symbol : {version : Version} (w : Word) (text : List ℕ) → is_fixed w ≡ true → word_of version text ≡ Some w → ((b : ℕ) → word_of version (text ++ b ∷ []) ≡ None) → Forms version text any (IsToken w text)
symbol w text h e none = token_before w text any e (λ b s. none b) (λ at. fixed_is_modest at w text h)

pub word_before : {version : Version} (c : ℕ) (w : Word) (text : List ℕ) → is_fixed w ≡ true → word_of version text ≡ Some w → word_of version (text ++ c ∷ []) ≡ None → Forms version text (nat_eq c) (IsToken w text)
word_before {version = version} c w text h e none =
    token_before w text (nat_eq c) e (λ b s. subst (λ z. word_of version (text ++ z ∷ []) ≡ None) (eqb-true c b s) none) (λ at. fixed_is_modest at w text h)
