-- The grammar, as derivations of lists of tokens. It serves both versions: what version 2 adds begins with a token that no text of
-- version 1 has, which `AreOf` says of a list of tokens.
--
-- `IsX tokens x rest`: the tokens before `rest` derive from X, and `x` is their tree. Each constructor is a rule; its tokens are in
-- the first index, in the order of the text.
use Rattle.std.specs.Prelude.{◌≡◌, ℕ, ◌+◌, ◌*◌, ◌-◌, pos, Bool, true, false, List, [], ◌∷◌, ◌++◌, Option, Some, None, if◌then◌else◌}
use Rattle.script_tokens.specs.declared.version.Version.{Version}
use Rattle.script_tokens.specs.declared.version.Version.TheVariants.{One, Two}
use Rattle.script_tokens.specs.declared.token.Word.{Word}
use Rattle.script_tokens.specs.declared.token.Word.TheVariants as word
use Rattle.script_tokens.specs.Word.{is_scope}
use Rattle.script_grammar.specs.declared.tree.Name.{Name}
use Rattle.script_grammar.specs.declared.tree.Number.{Number}
use Rattle.script_grammar.specs.declared.tree.Expr.{Expr}
use Rattle.script_grammar.specs.declared.tree.Expr.TheVariants as expr
use Rattle.script_grammar.specs.declared.tree.SumPart.{SumPart}
use Rattle.script_grammar.specs.declared.tree.ProductPart.{ProductPart}
use Rattle.script_grammar.specs.declared.tree.ProductSign.{ProductSign}
use Rattle.script_grammar.specs.declared.tree.ProductSign.TheVariants.{Times, Over, Modulo}
use Rattle.script_grammar.specs.declared.tree.Comparison.{Comparison}
use Rattle.script_grammar.specs.declared.tree.Comparison.TheVariants.{Eq, Ne, Lt, Le, Gt, Ge}
use Rattle.script_grammar.specs.declared.tree.CallText.{CallText}
use Rattle.script_grammar.specs.declared.tree.Right.{Right}
use Rattle.script_grammar.specs.declared.tree.Right.TheVariants as right
use Rattle.script_grammar.specs.declared.tree.Stmt.{Stmt}
use Rattle.script_grammar.specs.declared.tree.Act.{Act}
use Rattle.script_grammar.specs.declared.tree.Act.TheVariants as act
use Rattle.script_grammar.specs.declared.tree.Kind.{Kind}
use Rattle.script_grammar.specs.declared.tree.Kind.TheVariants.{Int, Id}
use Rattle.script_grammar.specs.declared.tree.Param.{Param}
use Rattle.script_grammar.specs.declared.tree.Function.{Function}

-- a token: the offset of its first byte, its word and its bytes
pub record Terminal : Type 0 where
  pub at : ℕ
  pub word : Word
  pub text : List ℕ

abbrev pub tok : ℕ → Word → List ℕ → Terminal
tok at w text = record { at = at; word = w; text = text }

abbrev pub name_at : ℕ → List ℕ → Name
name_at at text = record { bytes = text; at = at }

-- the number whose digits are those of n and then these
abbrev pub decimal : ℕ → List ℕ → ℕ
decimal n [] = n
decimal n (digit ∷ digits) = decimal (10 * n + (digit - 48)) digits

abbrev pub number_at : ℕ → List ℕ → Number
number_at at text = record { at = at; value = pos (decimal 0 text) }

-- a sum, or a product, of one operand is that operand
abbrev pub sum_of : Expr → List SumPart → Expr
sum_of x [] = x
sum_of x (p ∷ ps) = expr.Sum x (p ∷ ps)

abbrev pub product_of : Expr → List ProductPart → Expr
product_of x [] = x
product_of x (p ∷ ps) = expr.Product x (p ∷ ps)

-- whether the sign is a minus
pub data IsSumSign : Word → Bool → Type 0 where
  a_plus : IsSumSign word.Plus false
  a_minus : IsSumSign word.Minus true

pub data IsProductSign : Word → ProductSign → Type 0 where
  a_times : IsProductSign word.Times Times
  an_over : IsProductSign word.Over Over
  a_modulo : IsProductSign word.Modulo Modulo

pub data IsComparison : Word → Comparison → Type 0 where
  an_eq : IsComparison word.Eq Eq
  a_ne : IsComparison word.Ne Ne
  a_lt : IsComparison word.Lt Lt
  a_le : IsComparison word.Le Le
  a_gt : IsComparison word.Gt Gt
  a_ge : IsComparison word.Ge Ge

mutual
  -- "-" factor | number | name | name "[" expr "]" | "(" expr ")" | "same" "(" expr "," expr ")" | "older" "(" expr "," expr ")"
  pub data IsFactor : List Terminal → Expr → List Terminal → Type 0 where
    a_neg : {a : ℕ} {t : List ℕ} {ts rest : List Terminal} {x : Expr}
        → IsFactor ts x rest
        → IsFactor (tok a word.Minus t ∷ ts) (expr.Neg a x) rest
    a_number : {a : ℕ} {t : List ℕ} {rest : List Terminal} → IsFactor (tok a word.Number t ∷ rest) (expr.Number (number_at a t)) rest
    a_name : {a : ℕ} {t : List ℕ} {rest : List Terminal} → IsFactor (tok a word.Name t ∷ rest) (expr.Var (name_at a t)) rest
    an_item : {a b c : ℕ} {t u v : List ℕ} {ts rest : List Terminal} {x : Expr}
        → IsExpr ts x (tok c word.CloseItem v ∷ rest)
        → IsFactor (tok a word.Name t ∷ tok b word.OpenItem u ∷ ts) (expr.Item (name_at a t) x) rest
    a_group : {a b : ℕ} {t u : List ℕ} {ts rest : List Terminal} {x : Expr}
        → IsExpr ts x (tok b word.Close u ∷ rest)
        → IsFactor (tok a word.Open t ∷ ts) x rest
    a_same : {a b c d : ℕ} {t u v w : List ℕ} {ts us rest : List Terminal} {x y : Expr}
        → IsExpr ts x (tok c word.Comma v ∷ us) → IsExpr us y (tok d word.Close w ∷ rest)
        → IsFactor (tok a word.Same t ∷ tok b word.Open u ∷ ts) (expr.Same a x y) rest
    an_older : {a b c d : ℕ} {t u v w : List ℕ} {ts us rest : List Terminal} {x y : Expr}
        → IsExpr ts x (tok c word.Comma v ∷ us) → IsExpr us y (tok d word.Close w ∷ rest)
        → IsFactor (tok a word.Older t ∷ tok b word.Open u ∷ ts) (expr.Older a x y) rest

  -- factor { ( "*" | "/" | "%" ) factor }
  pub data IsTerm : List Terminal → Expr → List Terminal → Type 0 where
    factors : {ts mid rest : List Terminal} {x : Expr} {xs : List ProductPart}
        → IsFactor ts x mid → IsFactors mid xs rest
        → IsTerm ts (product_of x xs) rest

  pub data IsFactors : List Terminal → List ProductPart → List Terminal → Type 0 where
    no_factors : {rest : List Terminal} → IsFactors rest [] rest
    one_factor : {a : ℕ} {k : Word} {t : List ℕ} {s : ProductSign} {ts mid rest : List Terminal} {x : Expr} {xs : List ProductPart}
        → IsProductSign k s → IsFactor ts x mid → IsFactors mid xs rest
        → IsFactors (tok a k t ∷ ts) (record { sign = s; operand = x } ∷ xs) rest

  -- term { ( "+" | "-" ) term }
  pub data IsSum : List Terminal → Expr → List Terminal → Type 0 where
    terms : {ts mid rest : List Terminal} {x : Expr} {xs : List SumPart}
        → IsTerm ts x mid → IsTerms mid xs rest
        → IsSum ts (sum_of x xs) rest

  pub data IsTerms : List Terminal → List SumPart → List Terminal → Type 0 where
    no_terms : {rest : List Terminal} → IsTerms rest [] rest
    one_term : {a : ℕ} {k : Word} {t : List ℕ} {s : Bool} {ts mid rest : List Terminal} {x : Expr} {xs : List SumPart}
        → IsSumSign k s → IsTerm ts x mid → IsTerms mid xs rest
        → IsTerms (tok a k t ∷ ts) (record { minus = s; operand = x } ∷ xs) rest

  -- sum [ ( "==" | "!=" | "<" | "<=" | ">" | ">=" ) sum ]
  pub data IsExpr : List Terminal → Expr → List Terminal → Type 0 where
    alone : {ts rest : List Terminal} {x : Expr} → IsSum ts x rest → IsExpr ts x rest
    compared : {a : ℕ} {k : Word} {t : List ℕ} {s : Comparison} {ts us rest : List Terminal} {x y : Expr}
        → IsSum ts x (tok a k t ∷ us) → IsComparison k s → IsSum us y rest
        → IsExpr ts (expr.Compare x s y) rest

-- { "," expr }
pub data IsMoreArgs : List Terminal → List Expr → List Terminal → Type 0 where
  no_more_args : {rest : List Terminal} → IsMoreArgs rest [] rest
  one_more_arg : {a : ℕ} {t : List ℕ} {ts mid rest : List Terminal} {x : Expr} {xs : List Expr}
      → IsExpr ts x mid → IsMoreArgs mid xs rest
      → IsMoreArgs (tok a word.Comma t ∷ ts) (x ∷ xs) rest

-- [ expr { "," expr } ]
pub data IsArgs : List Terminal → List Expr → List Terminal → Type 0 where
  no_args : {rest : List Terminal} → IsArgs rest [] rest
  some_args : {ts mid rest : List Terminal} {x : Expr} {xs : List Expr}
      → IsExpr ts x mid → IsMoreArgs mid xs rest
      → IsArgs ts (x ∷ xs) rest

-- name "(" args ")"
pub data IsCall : List Terminal → CallText → List Terminal → Type 0 where
  a_call : {a b c : ℕ} {t u v : List ℕ} {ts rest : List Terminal} {xs : List Expr}
      → IsArgs ts xs (tok c word.Close v ∷ rest)
      → IsCall (tok a word.Name t ∷ tok b word.Open u ∷ ts) (record { name = name_at a t; args = xs }) rest

-- expr | "draw" | "new" | "call" name "(" args ")" | "spawn" name "(" args ")"
pub data IsRight : List Terminal → Right → List Terminal → Type 0 where
  right_value : {ts rest : List Terminal} {x : Expr} → IsExpr ts x rest → IsRight ts (right.Value x) rest
  right_draw : {a : ℕ} {t : List ℕ} {rest : List Terminal} → IsRight (tok a word.Draw t ∷ rest) (right.Draw a) rest
  right_new : {a : ℕ} {t : List ℕ} {rest : List Terminal} → IsRight (tok a word.New t ∷ rest) (right.New a) rest
  right_call : {a : ℕ} {t : List ℕ} {ts rest : List Terminal} {c : CallText} → IsCall ts c rest → IsRight (tok a word.Call t ∷ ts) (right.Call a c) rest
  right_spawn : {a : ℕ} {t : List ℕ} {ts rest : List Terminal} {c : CallText} → IsCall ts c rest → IsRight (tok a word.Spawn t ∷ ts) (right.Spawn a c) rest

-- [ "into" name ]
pub data IsInto : List Terminal → Option Name → List Terminal → Type 0 where
  no_into : {rest : List Terminal} → IsInto rest None rest
  an_into : {a b : ℕ} {t u : List ℕ} {rest : List Terminal} → IsInto (tok a word.Into t ∷ tok b word.Name u ∷ rest) (Some (name_at b u)) rest

abbrev pub stmt_at : ℕ → Act → Stmt
stmt_at at x = record { at = at; act = x }

mutual
  pub data IsStmt : List Terminal → Stmt → List Terminal → Type 0 where
    -- "let" name "=" right ";"
    a_let : {a b c d : ℕ} {t u v w : List ℕ} {ts rest : List Terminal} {r : Right}
        → IsRight ts r (tok d word.Semicolon w ∷ rest)
        → IsStmt (tok a word.Let t ∷ tok b word.Name u ∷ tok c word.Assign v ∷ ts) (stmt_at a (act.Let (name_at b u) r)) rest
    -- "let" name "[" number "]" ";"
    an_array : {a b c d e f : ℕ} {t u v w x y : List ℕ} {rest : List Terminal}
        → IsStmt
        (tok a word.Let t ∷ tok b word.Name u ∷ tok c word.OpenItem v ∷ tok d word.Number w ∷ tok e word.CloseItem x ∷ tok f word.Semicolon y ∷ rest)
        (stmt_at a (act.Array (name_at b u) (number_at d w))) rest
    -- name "=" right ";"
    a_set : {a b c : ℕ} {t u v : List ℕ} {ts rest : List Terminal} {r : Right}
        → IsRight ts r (tok c word.Semicolon v ∷ rest)
        → IsStmt (tok a word.Name t ∷ tok b word.Assign u ∷ ts) (stmt_at a (act.Set (name_at a t) r)) rest
    -- name "[" expr "]" "=" expr ";"
    a_store : {a b c d e : ℕ} {t u v w z : List ℕ} {ts us rest : List Terminal} {x y : Expr}
        → IsExpr ts x (tok c word.CloseItem v ∷ tok d word.Assign w ∷ us) → IsExpr us y (tok e word.Semicolon z ∷ rest)
        → IsStmt (tok a word.Name t ∷ tok b word.OpenItem u ∷ ts) (stmt_at a (act.Store (name_at a t) x y)) rest
    -- "spawn" name "(" args ")" ";"
    a_spawn : {a b : ℕ} {t u : List ℕ} {ts rest : List Terminal} {c : CallText}
        → IsCall ts c (tok b word.Semicolon u ∷ rest)
        → IsStmt (tok a word.Spawn t ∷ ts) (stmt_at a (act.Spawn c)) rest
    -- "call" name "(" args ")" ";"
    a_call_stmt : {a b : ℕ} {t u : List ℕ} {ts rest : List Terminal} {c : CallText}
        → IsCall ts c (tok b word.Semicolon u ∷ rest)
        → IsStmt (tok a word.Call t ∷ ts) (stmt_at a (act.Call c)) rest
    -- "sync" ";"
    a_sync : {a b : ℕ} {t u : List ℕ} {rest : List Terminal}
        → IsStmt (tok a word.Sync t ∷ tok b word.Semicolon u ∷ rest) (stmt_at a act.Sync) rest
    -- "print" expr ";"
    a_print : {a b : ℕ} {t u : List ℕ} {ts rest : List Terminal} {x : Expr}
        → IsExpr ts x (tok b word.Semicolon u ∷ rest)
        → IsStmt (tok a word.Print t ∷ ts) (stmt_at a (act.Print x)) rest
    -- "if" expr block [ "else" block ]
    an_if : {a : ℕ} {t : List ℕ} {ts us vs rest : List Terminal} {x : Expr} {p q : List Stmt}
        → IsExpr ts x us → IsBlock us p vs → IsElse vs q rest
        → IsStmt (tok a word.If t ∷ ts) (stmt_at a (act.If x p q)) rest
    -- "while" expr block
    a_while : {a : ℕ} {t : List ℕ} {ts us rest : List Terminal} {x : Expr} {p : List Stmt}
        → IsExpr ts x us → IsBlock us p rest
        → IsStmt (tok a word.While t ∷ ts) (stmt_at a (act.While x p)) rest
    -- "pfor" name "in" expr ".." expr [ "into" name ] "call" name "(" name { "," expr } ")" ";", where the last name is the first again
    a_pfor : {a b c d e f g h i j : ℕ} {t n u v w f' y z o : List ℕ} {ts us vs ws rest : List Terminal} {lo hi : Expr} {into : Option Name} {xs : List Expr}
        → IsExpr ts lo (tok d word.Range v ∷ us)
        → IsExpr us hi vs
        → IsInto vs into (tok e word.Call w ∷ tok f word.Name f' ∷ tok g word.Open y ∷ tok h word.Name n ∷ ws)
        → IsMoreArgs ws xs (tok i word.Close z ∷ tok j word.Semicolon o ∷ rest)
        → IsStmt (tok a word.Pfor t ∷ tok b word.Name n ∷ tok c word.In u ∷ ts)
        (stmt_at a (act.Pfor (name_at b n) lo hi into (record { name = name_at f f'; args = xs }))) rest
    -- "scope" block, in version 2
    a_scope : {a : ℕ} {t : List ℕ} {ts rest : List Terminal} {p : List Stmt}
        → IsBlock ts p rest
        → IsStmt (tok a word.Scope t ∷ ts) (stmt_at a (act.Scope p)) rest

  -- { stmt }
  pub data IsStmts : List Terminal → List Stmt → List Terminal → Type 0 where
    no_stmts : {rest : List Terminal} → IsStmts rest [] rest
    one_stmt : {ts mid rest : List Terminal} {x : Stmt} {xs : List Stmt} → IsStmt ts x mid → IsStmts mid xs rest → IsStmts ts (x ∷ xs) rest

  -- "{" { stmt } "}"
  pub data IsBlock : List Terminal → List Stmt → List Terminal → Type 0 where
    a_block : {a b : ℕ} {t u : List ℕ} {ts rest : List Terminal} {xs : List Stmt}
        → IsStmts ts xs (tok b word.CloseBlock u ∷ rest)
        → IsBlock (tok a word.OpenBlock t ∷ ts) xs rest

  -- [ "else" block ]
  pub data IsElse : List Terminal → List Stmt → List Terminal → Type 0 where
    no_else : {rest : List Terminal} → IsElse rest [] rest
    an_else : {a : ℕ} {t : List ℕ} {ts rest : List Terminal} {xs : List Stmt} → IsBlock ts xs rest → IsElse (tok a word.Else t ∷ ts) xs rest

-- name | "id" name
pub data IsParam : List Terminal → Param → List Terminal → Type 0 where
  int_param : {a : ℕ} {t : List ℕ} {rest : List Terminal}
      → IsParam (tok a word.Name t ∷ rest) (record { kind = Int; name = name_at a t }) rest
  id_param : {a b : ℕ} {t u : List ℕ} {rest : List Terminal}
      → IsParam (tok a word.Id t ∷ tok b word.Name u ∷ rest) (record { kind = Id; name = name_at b u }) rest

-- { "," param }
pub data IsMoreParams : List Terminal → List Param → List Terminal → Type 0 where
  no_more_params : {rest : List Terminal} → IsMoreParams rest [] rest
  one_more_param : {a : ℕ} {t : List ℕ} {ts mid rest : List Terminal} {x : Param} {xs : List Param}
      → IsParam ts x mid → IsMoreParams mid xs rest
      → IsMoreParams (tok a word.Comma t ∷ ts) (x ∷ xs) rest

-- [ param { "," param } ]
pub data IsParams : List Terminal → List Param → List Terminal → Type 0 where
  no_params : {rest : List Terminal} → IsParams rest [] rest
  some_params : {ts mid rest : List Terminal} {x : Param} {xs : List Param}
      → IsParam ts x mid → IsMoreParams mid xs rest
      → IsParams ts (x ∷ xs) rest

-- [ "->" "id" ]
pub data IsAnswerKind : List Terminal → Kind → List Terminal → Type 0 where
  int_answer : {rest : List Terminal} → IsAnswerKind rest Int rest
  id_answer : {a b : ℕ} {t u : List ℕ} {rest : List Terminal} → IsAnswerKind (tok a word.Arrow t ∷ tok b word.Id u ∷ rest) Id rest

-- "fn" name "(" params ")" [ "->" "id" ] "{" { stmt } "return" expr ";" "}"
pub data IsFunction : List Terminal → Function → List Terminal → Type 0 where
  a_function : {a b c d e f g h : ℕ} {t n u v w x y z : List ℕ} {ts us vs ws rest : List Terminal}
      {ps : List Param} {k : Kind} {body : List Stmt} {r : Expr}
      → IsParams ts ps (tok d word.Close v ∷ us)
      → IsAnswerKind us k (tok e word.OpenBlock w ∷ vs)
      → IsStmts vs body (tok f word.Return x ∷ ws)
      → IsExpr ws r (tok g word.Semicolon y ∷ tok h word.CloseBlock z ∷ rest)
      → IsFunction (tok a word.Fn t ∷ tok b word.Name n ∷ tok c word.Open u ∷ ts)
      (record { name = name_at b n; params = ps; answer = k; body = body; return_at = f; result = r }) rest

-- { function }
pub data IsFunctions : List Terminal → List Function → List Terminal → Type 0 where
  no_functions : {rest : List Terminal} → IsFunctions rest [] rest
  one_function : {ts mid rest : List Terminal} {f : Function} {fs : List Function}
      → IsFunction ts f mid → IsFunctions mid fs rest
      → IsFunctions ts (f ∷ fs) rest

-- the whole list of tokens, apart from the limits
abbrev pub IsScript : List Terminal → List Function → Type 0
IsScript tokens functions = IsFunctions tokens functions []

abbrev pub has_scope : List Terminal → Bool
has_scope [] = false
has_scope (t ∷ ts) = if is_scope t.word then true else has_scope ts

-- the tokens are of the version: in version 1 none is the word `scope`
abbrev pub AreOf : Version → List Terminal → Type 0
AreOf One tokens = has_scope tokens ≡ false
AreOf Two tokens = Unit {0}

-- the tokens are a script of the version's grammar, apart from the limits
abbrev pub IsScriptOf : Version → List Terminal → List Function → Type 0
IsScriptOf version tokens functions = AreOf version tokens × IsScript tokens functions

-- they are the beginning of some script of the version's grammar
abbrev pub IsViable : Version → List Terminal → Type 0
IsViable version tokens = (more : List Terminal) × (functions : List Function) × IsScriptOf version (tokens ++ more) functions
