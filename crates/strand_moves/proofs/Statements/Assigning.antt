-- A variable that is given the value of an expression.
use Rattle.std.proofs.Common.{◌≡◌, Result, Ok, Err, OnOk, OnErr, refl, ap, sym, ◌∙◌, ℤ}
use Rattle.script_grammar.specs.declared.tree.Expr.{Expr}
use Rattle.script_grammar.specs.declared.tree.Name.{Name}
use Rattle.script_grammar.specs.declared.tree.Right.TheVariants as right
use Rattle.script_grammar.specs.declared.tree.Stmt.{Stmt}
use Rattle.script_grammar.specs.declared.tree.Act.TheOpen as act
use Rattle.serial_meaning.specs.Runs.{◌>>=◌}
use Rattle.serial_meaning.specs.Values.{Env, Val, value_of}
use Rattle.serial_meaning.specs.Exec.{with_content}
use Rattle.serial_meaning.specs.Plan.{PlanView}
use Rattle.serial_meaning.specs.declared.environment.Content.TheVariants.{Scalar}
use Rattle.serial_meaning.specs.declared.value.Value.{Value}
use Rattle.serial_meaning.specs.declared.value.Value.TheVariants.{Int}
use Rattle.serial_meaning.specs.declared.event.FaultKind.{FaultKind}
use Rattle.strand_values.specs.Changes.{assigned}
use Rattle.strand_values.specs.Environments.{EnvironmentView, with_variables}
use Rattle.strand_values.specs.declared.evaluation_error.EvaluationError as values
use Rattle.strand_values.specs.declared.evaluation_error.EvaluationError.TheVariants as error
use Rattle.strand_moves.specs.declared.instance_parts.InstanceParts.{InstanceParts}
use Rattle.strand_moves.specs.Acts.{Acts}
use Rattle.strand_moves.specs.InstanceParts.{machine_of, present_of}
use Rattle.strand_moves.specs.FastPath.{silent}
use Rattle.strand_moves.proofs.Statements.Equations.{set-value, set-value-fault}
use Rattle.strand_moves.proofs.Statements.Naming.{variables-are}

pub on-err : {E : Type 0} (r : Result (Unit {0}) E) (e : E) (P : Type 0) → OnErr r P → r ≡ Err e → P
on-err (Ok u) e P h k = absurd (cc)
on-err (Err f) e P h k = h

given-known : (d : Val) (f : Value → Env) (env : Env) → (d >>= λ v. Ok (f v)) ≡ Ok env → (v : Value) × ((d ≡ Ok v) × (env ≡ f v))
given-known (Ok v) f env h = (v, (refl, (cc)))
given-known (Err kind) f env h = absurd (cc)

given-fault : (d : Val) (f : Value → Env) (kind : FaultKind) → (d >>= λ v. let r : Result Env FaultKind = Ok (f v) in r) ≡ Err kind → d ≡ Err kind
given-fault (Ok v) f kind h = absurd (cc)
given-fault (Err k) f kind h = let e : k ≡ kind = cc in ap Err e

pub assigned-acts : (plan : PlanView) (i : InstanceParts) (env : EnvironmentView) (st : Stmt) (x : Name) (e : Expr) (r : Result (Unit {0}) values.EvaluationError) → OnOk r (assigned i.top.env.variables x e ≡ Ok env.variables) →
    ((kind : FaultKind) → r ≡ Err (error.Fault kind) → assigned i.top.env.variables x e ≡ Err kind) →
    Acts plan st (act.Set x (right.Value e)) i (record i { top = record i.top { env = env } }) (silent r)
assigned-acts plan i env st x e (Ok u) ok fault =
    let old = i.top.env.variables in
    let known = given-known (value_of e old) (λ (v : Value). with_content old x.bytes (Scalar v)) env.variables ok in
    set-value plan (present_of i) (machine_of plan i) st x e known.0 env.variables known.1.0 known.1.1
assigned-acts plan i env st x e (Err (error.Fault kind)) ok fault =
    let old = i.top.env.variables in
    set-value-fault plan (present_of i) (machine_of plan i) st x e kind (given-fault (value_of e old) (λ (v : Value). with_content old x.bytes (Scalar v)) kind (fault kind refl))
assigned-acts plan i env st x e (Err error.Memory) ok fault = tt

pub assigned-number : (env new : Env) (x : Name) (e : Expr) (n : ℤ) → value_of e env ≡ Ok (Int n) → new ≡ with_content env x.bytes (Scalar (Int n)) → assigned env x e ≡ Ok new
assigned-number env new x e n is set = ap (λ (d : Val). d >>= λ v. Ok (with_content env x.bytes (Scalar v))) is ∙ ap Ok (sym set)

pub number-acts : (plan : PlanView) (i : InstanceParts) (env : EnvironmentView) (st : Stmt) (x : Name) (e : Expr) (n : ℤ) → value_of e i.top.env.variables ≡ Ok (Int n) →
    env ≡ with_variables i.top.env (with_content i.top.env.variables x.bytes (Scalar (Int n))) →
    Acts plan st (act.Set x (right.Value e)) i (record i { top = record i.top { env = env } }) (silent (Ok tt))
number-acts plan i env st x e n is set =
    let old = i.top.env in
    assigned-acts plan i env st x e (Ok tt) (assigned-number old.variables env.variables x e n is (variables-are env old (with_content old.variables x.bytes (Scalar (Int n))) set)) (λ kind h. absurd (cc))
