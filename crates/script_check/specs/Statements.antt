-- The violations in statements.
use Rattle.std.specs.Prelude.{ℕ, Bool, true, false, nat_eq, is_some, List, [], ◌∷◌, ◌++◌, length, map, Option, Some, None}
use Rattle.script_grammar.specs.declared.tree.Kind.{Kind}
use Rattle.script_grammar.specs.declared.tree.Kind.TheVariants.{Int, Id}
use Rattle.script_grammar.specs.declared.tree.Name.{Name}
use Rattle.script_grammar.specs.declared.tree.Param.{Param}
use Rattle.script_grammar.specs.declared.tree.Function.{Function}
use Rattle.script_grammar.specs.declared.tree.CallText.{CallText}
use Rattle.script_grammar.specs.declared.tree.Expr.{Expr}
use Rattle.script_grammar.specs.declared.tree.Right.{Right}
use Rattle.script_grammar.specs.declared.tree.Right.TheVariants as right
use Rattle.script_grammar.specs.declared.tree.Stmt.{Stmt}
use Rattle.script_grammar.specs.declared.tree.Act.TheOpen as act
use Rattle.script_grammar.specs.declared.tree.Act.TheOpen.{Act-F, Stmt-F}
use Rattle.script_grammar.specs.declared.tree.Act.TheFolds.{fold-Stmt, fold-Act}
use Rattle.script_grammar.specs.declared.tree.Act.{Act}
use Rattle.script_check.specs.declared.variable.Variable.TheVariants.{Scalar, Array}
use Rattle.script_check.specs.Tables.{with_first}
use Rattle.script_check.specs.Functions.{function_named}
use Rattle.script_check.specs.Names.{NameSet, union, after_each, after_act}
use Rattle.script_check.specs.Rules.{Declared, unknown_function, wrong_number_of_arguments, wrong_kind, let_in_a_block, array_length, kind_of_variable, scalar_use, array_use, declaration}
use Rattle.script_check.specs.Expressions.{Violations, Reading, wanted, two_wanted, reading_of}

-- Calls

-- arguments, each of its parameter's kind
abbrev pub arguments : List Param → List Expr → Violations
arguments params [] known p = []
arguments [] (e ∷ es) known p = (reading_of e).violations known p ++ arguments [] es known p
arguments (q ∷ params) (e ∷ es) known p = wanted q.kind (reading_of e) known p ++ arguments params es known p

abbrev pub call_of : Option Function → CallText → Violations
call_of None c known p = unknown_function c.name ++ arguments [] c.args known p
call_of (Some f) c known p =
    wrong_number_of_arguments (nat_eq (length f.params) (length c.args)) c.name ++ arguments f.params c.args known p

abbrev pub answer_kind_of : Option Function → Option Kind
answer_kind_of None = None
answer_kind_of (Some f) = Some f.answer

-- The call of a parallel loop: the loop variable is the first argument, and a target receives the values.
abbrev pub loop_arguments : List Param → CallText → Violations
loop_arguments [] c known p = wrong_number_of_arguments false c.name ++ arguments [] c.args known p
loop_arguments (q ∷ params) c known p =
    wrong_number_of_arguments (nat_eq (length params) (length c.args)) c.name
    ++ wrong_kind Int (Some q.kind) c.name.at ++ arguments params c.args known p

-- the kind of the values that a loop's target receives, none without a target
abbrev pub received_kind : Bool → Kind → Option Kind
received_kind true kind = Some kind
received_kind false kind = None

abbrev pub loop_call_of : Option Function → Bool → CallText → Violations
loop_call_of None has_target c known p = unknown_function c.name ++ arguments [] c.args known p
loop_call_of (Some f) has_target c known p =
    wrong_kind Int (received_kind has_target f.answer) c.name.at ++ loop_arguments f.params c known p

abbrev pub target_use : Option Name → Violations
target_use None known p = []
target_use (Some x) known p = array_use (known.what x.bytes) p x

-- Statements

module _ (functions : List Function) where
  abbrev pub call : CallText → Violations
  call c = call_of (function_named functions c.name.bytes) c

  abbrev pub read_right : Right → Reading
  read_right (right.Value e) = reading_of e
  read_right (right.Draw at) = record { at = at; kind = λ known. Some Int; violations = λ known p. [] }
  read_right (right.New at) = record { at = at; kind = λ known. Some Id; violations = λ known p. [] }
  read_right (right.Call at c) = record { at = at; kind = λ known. answer_kind_of (function_named functions c.name.bytes); violations = call c }
  read_right (right.Spawn at c) = record { at = at; kind = λ known. answer_kind_of (function_named functions c.name.bytes); violations = call c }

-- a right side that is assigned to a variable: it must have the variable's kind, if that has one
abbrev pub wanted_as : Option Kind → Reading → Violations
wanted_as None r = r.violations
wanted_as (Some kind) r = wanted kind r

-- the kind of a variable that a right side declares: Int where it has none, since it calls an unknown function
abbrev pub declared_kind : Option Kind → Kind
declared_kind None = Int
declared_kind (Some kind) = kind

-- the context of statements
pub record Context : Type 0 where
  pub functions : List Function
  pub in_block : Bool

abbrev pub context : List Function → Bool → Context
context functions in_block = record { functions = functions; in_block = in_block }

-- a statement's effect on those after it, and its violations
pub record Judged : Type 0 where
  pub after : NameSet → NameSet
  pub known : List Function → Declared → Declared
  pub violations : Context → Violations

abbrev pub known_each : List Judged → List Function → Declared → Declared
known_each [] functions known = known
known_each (j ∷ js) functions known = known_each js functions (j.known functions known)

abbrev pub violations_each : List Judged → Context → Violations
violations_each [] context known p = []
violations_each (j ∷ js) context known p = j.violations context known p ++ violations_each js context (j.known context.functions known) (j.after p)

-- what a statement declares; a name keeps its first declaration
abbrev pub known_act : {A : Type 0} → Act-F A Judged → List Function → Declared → Declared
known_act (act.Let x r) functions known = with_first known x.bytes (Scalar (declared_kind ((read_right functions r).kind known)))
known_act (act.Array x n) functions known = with_first known x.bytes Array
known_act (act.Set x r) functions known = known
known_act (act.Store x i e) functions known = known
known_act (act.Spawn c) functions known = known
known_act (act.Call c) functions known = known
known_act act.Sync functions known = known
known_act (act.Print e) functions known = known
known_act (act.If e a b) functions known = known_each b functions (known_each a functions known)
known_act (act.While e a) functions known = known_each a functions known
known_act (act.Pfor x lo hi target c) functions known = known
known_act (act.Scope a) functions known = known_each a functions known

-- the violations of a block
abbrev pub block_violations : List Judged → Context → Violations
block_violations js context = violations_each js (record context { in_block = true })

-- the violations of a statement with this offset
abbrev pub violations_act : {A : Type 0} → Act-F A Judged → ℕ → Context → Violations
violations_act (act.Let x r) at context known p =
    let_in_a_block context.in_block at ++ (read_right context.functions r).violations known p ++ declaration known x
violations_act (act.Array x n) at context known p = let_in_a_block context.in_block at ++ declaration known x ++ array_length n
violations_act (act.Set x r) at context known p =
    scalar_use (known.what x.bytes) p x ++ wanted_as (kind_of_variable (known.what x.bytes)) (read_right context.functions r) known p
violations_act (act.Store x i e) at context known p = array_use (known.what x.bytes) p x ++ two_wanted Int (reading_of i) (reading_of e) known p
violations_act (act.Spawn c) at context known p = call context.functions c known p
violations_act (act.Call c) at context known p = call context.functions c known p
violations_act act.Sync at context known p = []
violations_act (act.Print e) at context known p = (reading_of e).violations known p
violations_act (act.If e a b) at context known p =
    wanted Int (reading_of e) known p ++ block_violations a context known p ++ block_violations b context (known_each a context.functions known) p
violations_act (act.While e a) at context known p =
    let q = union p (after_each (λ (j : Judged). j.after) a p) in
    wanted Int (reading_of e) known q ++ block_violations a context known q
violations_act (act.Pfor x lo hi target c) at context known p =
    two_wanted Int (reading_of lo) (reading_of hi) known p ++ target_use target known p
    ++ loop_call_of (function_named context.functions c.name.bytes) (is_some target) c known p
violations_act (act.Scope a) at context known p = block_violations a context known p

-- one statement, from the judgements on those inside it
abbrev pub judge_act : Act-F (ℕ → Judged) Judged → ℕ → Judged
judge_act d at = record { after = after_act (λ (j : Judged). j.after) d; known = known_act d; violations = violations_act d at }

abbrev pub judge : Stmt → Judged
judge = fold-Stmt (ℕ → Judged) Judged judge_act (λ s. s.act s.at)

abbrev pub judge_what : Act → ℕ → Judged
judge_what = fold-Act (ℕ → Judged) Judged judge_act (λ s. s.act s.at)

abbrev pub judge_all : List Stmt → List Judged
judge_all = map judge

-- the names that are pending after these statements
abbrev pub after : List Stmt → NameSet → NameSet
after ss = after_each (λ (j : Judged). j.after) (judge_all ss)
