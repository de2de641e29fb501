-- What surrounds an offset of a text, by which habits of other languages are recognized.
use Rattle.std.specs.Prelude.{◌≡◌, ◌≤◌, ◌-◌, ◌&&◌, ◌||◌, ◌==◌, ℕ, List, Bool, [], ◌∷◌, drop, false, length, nat_eq, not, take, true}
use Rattle.std.specs.List.{IsAfterLastMatch, ends_with, starts_with}
use Rattle.script_tokens.specs.Word.{is_name_byte}

-- a blank, a tab, or the end of a line
abbrev pub is_blank : ℕ → Bool
is_blank byte = byte == 32 || byte == 9 || byte == 13 || byte == 10

-- the length of the bytes without the blanks at their end
abbrev pub IsTrimmed : List ℕ → ℕ → Type 0
IsTrimmed bytes end = (end ≤ length bytes) × IsAfterLastMatch (λ byte. not (is_blank byte)) bytes end

-- the name at the end of the bytes begins here
abbrev pub IsNameStart : List ℕ → ℕ → Type 0
IsNameStart bytes start = (start ≤ length bytes) × IsAfterLastMatch (λ byte. not (is_name_byte byte)) bytes start

-- what is before an offset, without the blanks at its end
abbrev pub IsFront : List ℕ → ℕ → List ℕ → Type 0
IsFront text at front = (end : ℕ) × IsTrimmed (take at text) end × (front ≡ take end (take at text))

-- what is before the name at the end of the bytes, without the blanks at its end
abbrev pub IsWithoutName : List ℕ → List ℕ → Type 0
IsWithoutName bytes rest = (start : ℕ) × IsNameStart bytes start × IsFront bytes start rest

-- the first byte belongs to a name
abbrev pub begins_in_name : List ℕ → Bool
begins_in_name [] = false
begins_in_name (byte ∷ _) = is_name_byte byte

-- the last byte belongs to a name
abbrev pub ends_in_name : List ℕ → Bool
ends_in_name bytes = begins_in_name (drop (length bytes - 1) bytes)

-- there is no name of which one part ends the first bytes and another begins the rest
abbrev pub is_split : List ℕ → List ℕ → Bool
is_split front rest = not (ends_in_name front && begins_in_name rest)

-- the bytes end with this word, and not with a longer name that ends so
abbrev pub ends_with_word : List ℕ → List ℕ → Bool
ends_with_word front word = ends_with nat_eq front word && is_split (take (length front - length word) front) word

-- the bytes begin with this word, and not with a longer name that begins so
abbrev pub begins_with_word : List ℕ → List ℕ → Bool
begins_with_word rest word = starts_with nat_eq rest word && is_split word (drop (length word) rest)
