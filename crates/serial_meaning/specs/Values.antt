-- What an expression gives (docs/LANGUAGE.md, "Kinds and values").
use Rattle.std.specs.Prelude.{ℕ, zero, suc, Bool, true, false, ◌&&◌, List, [], ◌∷◌, Option, Some, None, Result, Ok, Err, slice_get, if◌then◌else◌, int_lt, int_le, int_rem}
use Rattle.std.specs.Prelude.{ℤ, pos, negsuc}
use Rattle.std.specs.Int.{w64, int_wrapping_add, int_wrapping_sub, int_wrapping_mul, int_wrapping_div, int_wrapping_neg}
use Rattle.std.specs.Str.{bytes_eq}
use Rattle.std.specs.Ordering.{nat_cmp, is_lt}
use Rattle.std.specs.Cmp.Lexicographic.{slice_cmp}
use Rattle.script_grammar.specs.declared.tree.Expr.{Expr}
use Rattle.script_grammar.specs.declared.tree.Expr.TheFolds.{fold-Expr, fold-SumPart, fold-ProductPart}
use Rattle.script_grammar.specs.declared.tree.SumPart.{SumPart}
use Rattle.script_grammar.specs.declared.tree.ProductPart.{ProductPart}
use Rattle.script_grammar.specs.declared.tree.Expr.TheOpen as node
use Rattle.script_grammar.specs.declared.tree.Expr.TheOpen.{Expr-F, SumPart-F, ProductPart-F}
use Rattle.script_grammar.specs.declared.tree.Comparison.{Comparison}
use Rattle.script_grammar.specs.declared.tree.Comparison.TheVariants as compares
use Rattle.script_grammar.specs.declared.tree.ProductSign.{ProductSign}
use Rattle.script_grammar.specs.declared.tree.ProductSign.TheVariants as sign
use Rattle.serial_meaning.specs.Runs.{◌>>=◌}
use Rattle.serial_meaning.specs.declared.value.Value.{Value}
use Rattle.serial_meaning.specs.declared.value.Value.TheVariants.{Int, Id}
use Rattle.serial_meaning.specs.declared.environment.Content.{Content}
use Rattle.serial_meaning.specs.declared.environment.Content.TheVariants.{Scalar, Array}
use Rattle.serial_meaning.specs.declared.environment.Variable.{Variable}
use Rattle.serial_meaning.specs.declared.event.FaultKind.{FaultKind}
use Rattle.serial_meaning.specs.declared.event.FaultKind.TheVariants.{Divide, Index}

-- a value, or the fault that the leftmost evaluation meets first
abbrev pub Val : Type 0
Val = Result Value FaultKind

-- the variables of a frame
abbrev pub Env : Type 0
Env = List Variable

abbrev pub content_of : Env → List ℕ → Option Content
content_of [] name = None
content_of (v ∷ vs) name = if bytes_eq v.name name then Some v.content else content_of vs name

-- A valid script reads no scalar as an array, no Int as an Id, and no name that isn't known. What stands here for these cases is
-- never used.
abbrev pub scalar : Option Content → Value
scalar (Some (Scalar v)) = v
scalar (Some (Array xs)) = Int (pos 0)
scalar None = Int (pos 0)

abbrev pub items_of : Option Content → List ℤ
items_of (Some (Scalar v)) = []
items_of (Some (Array xs)) = xs
items_of None = []

abbrev pub as_integer : Value → ℤ
as_integer (Int n) = n
as_integer (Id j) = pos 0

abbrev pub object : Value → List ℕ
object (Int n) = []
object (Id j) = j

abbrev pub truth : Bool → Value
truth true = Int (pos 1)
truth false = Int (pos 0)

-- whether a condition holds: it isn't 0
abbrev pub is_nonzero : ℤ → Bool
is_nonzero (pos zero) = false
is_nonzero (pos (suc n)) = true
is_nonzero (negsuc n) = true

abbrev pub is_true : Value → Bool
is_true v = is_nonzero (as_integer v)

abbrev pub at_index : List ℤ → ℤ → Option ℤ
at_index xs (pos i) = slice_get xs i
at_index xs (negsuc i) = None

-- an array's item
abbrev pub item_or_fault : Option ℤ → Val
item_or_fault (Some n) = Ok (Int n)
item_or_fault None = Err Index

abbrev pub item : List ℤ → ℤ → Val
item xs i = item_or_fault (at_index xs i)

abbrev pub compared : Comparison → ℤ → ℤ → Bool
compared compares.Eq x y = int_le x y && int_le y x
compared compares.Ne x y = if int_le x y && int_le y x then false else true
compared compares.Lt x y = int_lt x y
compared compares.Le x y = int_le x y
compared compares.Gt x y = int_lt y x
compared compares.Ge x y = int_le y x

-- a quotient or remainder by y, unless y is 0
abbrev pub over : (ℤ → ℤ → ℤ) → ℤ → ℤ → Val
over f x (pos zero) = Err Divide
over f x (pos (suc n)) = Ok (Int (f x (pos (suc n))))
over f x (negsuc n) = Ok (Int (f x (negsuc n)))

abbrev pub product : ProductSign → ℤ → ℤ → Val
product sign.Times x y = Ok (Int (int_wrapping_mul w64 x y))
product sign.Over x y = over (int_wrapping_div w64) x y
product sign.Modulo x y = over int_rem x y

abbrev pub added : Bool → ℤ → ℤ → Val
added true x y = Ok (Int (int_wrapping_sub w64 x y))
added false x y = Ok (Int (int_wrapping_add w64 x y))

-- what a part of a tree gives in each environment
abbrev pub Meaning : Type 0
Meaning = Env → Val

-- a chain of operators goes from the left: each operation is done before the next operand is evaluated
abbrev pub sums : Env → Value → List (Bool × Meaning) → Val
sums env v [] = Ok v
sums env v (p ∷ ps) =
    p.1 env >>= λ y. added p.0 (as_integer v) (as_integer y) >>= λ z. sums env z ps

abbrev pub products : Env → Value → List (ProductSign × Meaning) → Val
products env v [] = Ok v
products env v (p ∷ ps) =
    p.1 env >>= λ y. product p.0 (as_integer v) (as_integer y) >>= λ z. products env z ps

-- one node, from what its parts give
abbrev pub value_at : Expr-F Meaning (ProductSign × Meaning) (Bool × Meaning) → Meaning
value_at (node.Number n) env = Ok (Int n.value)
value_at (node.Var x) env = Ok (scalar (content_of env x.bytes))
value_at (node.Item x i) env = i env >>= λ v. item (items_of (content_of env x.bytes)) (as_integer v)
value_at (node.Neg at e) env = e env >>= λ v. Ok (Int (int_wrapping_neg w64 (as_integer v)))
value_at (node.Same at a b) env =
    a env >>= λ x. b env >>= λ y. Ok (truth (bytes_eq (object x) (object y)))
value_at (node.Older at a b) env =
    a env >>= λ x. b env >>= λ y. Ok (truth (is_lt (slice_cmp nat_cmp (object x) (object y))))
value_at (node.Compare a how b) env =
    a env >>= λ x. b env >>= λ y. Ok (truth (compared how (as_integer x) (as_integer y)))
value_at (node.Sum first rest) env = first env >>= λ v. sums env v rest
value_at (node.Product first rest) env = first env >>= λ v. products env v rest

abbrev pub product_at : ProductPart-F Meaning (ProductSign × Meaning) (Bool × Meaning) → ProductSign × Meaning
product_at p = (p.sign, p.operand)

abbrev pub sum_at : SumPart-F Meaning (ProductSign × Meaning) (Bool × Meaning) → Bool × Meaning
sum_at p = (p.minus, p.operand)

abbrev pub value_of : Expr → Meaning
value_of = fold-Expr Meaning (ProductSign × Meaning) (Bool × Meaning) value_at product_at sum_at

abbrev pub sum_part : SumPart → Bool × Meaning
sum_part = fold-SumPart Meaning (ProductSign × Meaning) (Bool × Meaning) value_at product_at sum_at

abbrev pub product_part : ProductPart → ProductSign × Meaning
product_part = fold-ProductPart Meaning (ProductSign × Meaning) (Bool × Meaning) value_at product_at sum_at

-- the values of arguments, from left to right
abbrev pub values_of : List Expr → Env → Result (List Value) FaultKind
values_of [] env = Ok []
values_of (e ∷ es) env = value_of e env >>= λ v. values_of es env >>= λ vs. Ok (v ∷ vs)
