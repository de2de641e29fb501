-- Which texts are tokens of a version, and which tokens. A token is a name, a keyword, a number or a symbol, and `Word` says which.
use Rattle.std.specs.Prelude.{ℕ, Bool, true, false, List, [], ◌∷◌, Option, Some, None, ◌||◌, ◌&&◌, ◌==◌, if◌then◌else◌, unwrap_or, codes, bytes_eq}
use Rattle.std.specs.List.{list_all}
use Rattle.std.specs.Char.{is_ascii_alphabetic, is_ascii_digit}
use Rattle.script_tokens.specs.declared.token.Word.{Word}
use Rattle.script_tokens.specs.declared.version.Version.{Version}
use Rattle.script_tokens.specs.declared.version.Version.TheVariants.{One, Two}
use Rattle.script_tokens.specs.declared.token.TokenKind.{TokenKind}
use Rattle.script_tokens.specs.declared.token.TokenKind.TheVariants as kinds
use Rattle.script_tokens.specs.declared.token.Word.TheVariants.{Name, Number, Fn, Id, Let, Spawn, Call, Sync, Print, If, Else, While, Pfor, In, Into, Draw, New, Return, Same, Older, Open, Close, OpenBlock, CloseBlock, OpenItem, CloseItem, Comma, Semicolon, Assign, Plus, Minus, Times, Over, Modulo, Eq, Ne, Lt, Le, Gt, Ge, Arrow, Range, Scope}

abbrev pub Spelling : Type 0
Spelling = List ℕ × Word

-- the keywords of every version
abbrev pub common_keywords : List Spelling
common_keywords =
    (codes "fn", Fn) ∷ (codes "id", Id) ∷ (codes "let", Let) ∷ (codes "spawn", Spawn) ∷ (codes "call", Call) ∷ (codes "sync", Sync)
    ∷ (codes "print", Print) ∷ (codes "if", If) ∷ (codes "else", Else) ∷ (codes "while", While) ∷ (codes "pfor", Pfor) ∷ (codes "in", In)
    ∷ (codes "into", Into) ∷ (codes "draw", Draw) ∷ (codes "new", New) ∷ (codes "return", Return) ∷ (codes "same", Same) ∷ (codes "older", Older)
    ∷ []

-- the keywords of a version
abbrev pub keywords : Version → List Spelling
keywords One = common_keywords
keywords Two = (codes "scope", Scope) ∷ common_keywords

abbrev pub symbols : List Spelling
symbols =
    (codes "(", Open) ∷ (codes ")", Close) ∷ (codes "{", OpenBlock) ∷ (codes "}", CloseBlock) ∷ (codes "[", OpenItem) ∷ (codes "]", CloseItem)
    ∷ (codes ",", Comma) ∷ (codes ";", Semicolon) ∷ (codes "=", Assign) ∷ (codes "+", Plus) ∷ (codes "-", Minus) ∷ (codes "*", Times)
    ∷ (codes "/", Over) ∷ (codes "%", Modulo) ∷ (codes "==", Eq) ∷ (codes "!=", Ne) ∷ (codes "<", Lt) ∷ (codes "<=", Le)
    ∷ (codes ">", Gt) ∷ (codes ">=", Ge) ∷ (codes "->", Arrow) ∷ (codes "..", Range)
    ∷ []

-- the word with that spelling
abbrev pub word_spelled : List Spelling → List ℕ → Option Word
word_spelled [] text = None
word_spelled (s ∷ ss) text = if bytes_eq s.0 text then Some s.1 else word_spelled ss text

-- a letter or `_`
abbrev pub is_letter : ℕ → Bool
is_letter b = is_ascii_alphabetic b || b == 95

abbrev pub is_name_byte : ℕ → Bool
is_name_byte b = is_letter b || is_ascii_digit b

-- a letter or `_`, followed by letters, digits and `_`
abbrev pub is_name : List ℕ → Bool
is_name [] = false
is_name (b ∷ bs) = is_letter b && list_all is_name_byte bs

-- one or more digits
abbrev pub is_number : List ℕ → Bool
is_number [] = false
is_number (b ∷ bs) = is_ascii_digit b && list_all is_ascii_digit bs

-- the token that a whole text is
abbrev pub word_of : Version → List ℕ → Option Word
word_of version text =
    if is_name text then Some (unwrap_or (word_spelled (keywords version) text) Name)
    else if is_number text then Some Number
    else word_spelled symbols text

-- the word that only version 2 has
abbrev pub is_scope : Word → Bool
is_scope Scope = true
is_scope _ = false

-- the kind of token
abbrev pub kind_of : Word → TokenKind
kind_of Name = kinds.Name
kind_of Number = kinds.Number
kind_of Fn = kinds.Keyword
kind_of Id = kinds.Keyword
kind_of Let = kinds.Keyword
kind_of Spawn = kinds.Keyword
kind_of Call = kinds.Keyword
kind_of Sync = kinds.Keyword
kind_of Print = kinds.Keyword
kind_of If = kinds.Keyword
kind_of Else = kinds.Keyword
kind_of While = kinds.Keyword
kind_of Pfor = kinds.Keyword
kind_of In = kinds.Keyword
kind_of Into = kinds.Keyword
kind_of Draw = kinds.Keyword
kind_of New = kinds.Keyword
kind_of Return = kinds.Keyword
kind_of Same = kinds.Keyword
kind_of Older = kinds.Keyword
kind_of Scope = kinds.Keyword
kind_of _ = kinds.Symbol
