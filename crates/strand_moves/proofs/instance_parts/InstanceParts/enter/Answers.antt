use Rattle.std.proofs.Common.{ℕ, [], ◌∷◌, length, refl, ap, subst, ◌∙◌, sym, arith}
use Rattle.std.specs.Option.{option_copied}
use Rattle.serial_meaning.specs.Exec.{bound}
use Rattle.serial_meaning.specs.Functions.{function_at}
use Rattle.serial_meaning.specs.Plan.{functions_of}
use Rattle.strand_values.specs.Changes.{called_with}
use Rattle.strand_values.specs.Environments.{EnvironmentView}
use Rattle.strand_meaning.specs.Machine.{Machine}
use Rattle.strand_moves.specs.Acts.{IsCallee}
use Rattle.strand_moves.specs.InstanceParts.{IsNamedIn, machine_of, present_of}
use Rattle.strand_moves.specs.Moves.{acted, call_to, present_pedigree}
use Rattle.strand_moves.proofs.Frames.CallLemmas.{begun-stays, callee-function, callee-target, called-by, called-fault, is_below, is_not_below, calls-open, machine-begun, stands-silent}
use Rattle.strand_moves.proofs.Frames.Names.{named-begun, own-names, own-names-there, params-stand, target-named}
use Rattle.strand_moves.proofs.Statements.Naming.{there-named}
use Rattle.strand_moves.proofs.Statements.Equations.{call, callee, call-args-fault, calls-fault, moved}
use Rattle.strand_moves.proofs.OpenScopes.Exits.{silent-exit}
use Rattle.strand_moves.proofs.instance_parts.InstanceParts.enter.Goals as goal

pub unreachable-requires : goal.unreachable-requires
unreachable-requires c = own-names-there c.args.plan.now c.args.number c.args.function.now c.requires.there c.in_default.ensures

pub called_with-requires-clause-params : goal.called_with-requires-clause-params
called_with-requires-clause-params c =
    let plan = c.args.plan.now in
    let f = c.args.function.now in
    rw (c.as_slice-params.ensures, own-names plan c.args.number f c.requires.there c.in-Some.names.now c.in-Some.ensures) (params-stand plan c.args.number f c.requires.there c.args.slots.now c.requires.slots)

pub called_with-requires-clause-args : goal.called_with-requires-clause-args
called_with-requires-clause-args c = rw c.as_slice-args.ensures c.requires.args

pub returns-in_err-env-clause-shows : goal.returns-in_err-env-clause-shows
returns-in_err-env-clause-shows c = λ st.
    let i = c.args.self.now in
    let plan = c.args.plan.now in
    let to = option_copied c.args.target in
    let f = c.args.function.now in
    let text = c.args.call.now in
    let known = rw (c.as_slice-params.ensures, c.as_slice-args.ensures) at c.in_err-env.ensures in
    let names = c.in-Some.names.now in
    silent-exit (acted plan (present_of i) (machine_of plan i) st (call_to to text)) (present_pedigree (present_of i) (machine_of plan i)) _ c.from_residual.result c.in_err-env.field-0.0
    (called_with names f.params text.args i.top.env.variables) c.from_residual.ensures.1 known
    (λ kind e. call-args-fault plan (present_of i) (machine_of plan i) st to text kind (called-fault names f.params text.args i.top.env.variables kind e))

pub returns-then-len-ge-MOST_CALLS-clause-shows : goal.returns-then-len-ge-MOST_CALLS-clause-shows
returns-then-len-ge-MOST_CALLS-clause-shows c = λ st.
    let i = c.args.self.now in
    let plan = c.args.plan.now in
    let text = c.args.call.now in
    let known = called-by c.in-Some.names.now c.args.function.now.params text.args i.top.env.variables c.in_ok-env.env (rw (c.as_slice-params.ensures, c.as_slice-args.ensures) at c.in_ok-env.ensures) in
    calls-fault plan (present_of i) (machine_of plan i) st (option_copied c.args.target) text known.0 known.1.0
    (is_not_below (length (machine_of plan i).below) 256 (omega (arith, calls-open plan i)))

pub returns-clause-shows : goal.returns-clause-shows
returns-clause-shows c = λ st.
    let i = c.args.self.now in
    let plan = c.args.plan.now in
    let to = option_copied c.args.target in
    let f = c.args.function.now in
    let text = c.args.call.now in
    let number = c.args.number in
    let names = c.in-Some.names.now in
    let same = c.requires.number in
    let known = called-by names f.params text.args i.top.env.variables c.in_ok-env.env (rw (c.as_slice-params.ensures, c.as_slice-args.ensures) at c.in_ok-env.ensures) in
    let vs = known.0 in
    let room = is_below (length (machine_of plan i).below) 256 (omega (arith, calls-open plan i)) in
    let opened = c.in_ok-open_call.ensures in
    let new = c.open_call.new.self in
    let begun = subst (λ (env : EnvironmentView). IsCallee number env to new.top) {y = record { names = names; variables = bound f.params vs }} known.1.1 opened.top in
    call plan (present_of i) (machine_of plan i) st to text vs f known.1.0 room (ap (λ (n : ℕ). function_at (functions_of plan) n) (sym same) ∙ c.requires.there)
    ∙ ap (λ (n : ℕ). let m = machine_of plan i in moved [] (record m { top = callee to n f vs; below = m.top ∷ m.below })) (sym same)
    ∙ ap (λ (m : Machine). moved [] m) (sym (machine-begun plan number f vs names to i new begun opened.below opened.rank opened.steps opened.leaving c.requires.goes_on c.requires.there))

pub returns-clause-stays : goal.returns-clause-stays
returns-clause-stays c =
    let opened = c.in_ok-open_call.ensures in
    begun-stays c.args.plan.now c.args.number c.in_ok-env.env (option_copied c.args.target) c.args.self.now c.open_call.new.self opened.top opened.below opened.trail opened.leaving

pub returns-in_err-env-clause-stays : goal.returns-in_err-env-clause-stays
returns-in_err-env-clause-stays c = let i = c.args.self.now in stands-silent i i c.from_residual.result (record { trail = refl; scopes = refl; leaving = refl })

pub returns-clause-named : goal.returns-clause-named
returns-clause-named c =
    let plan = c.args.plan.now in
    let i = c.args.self.now in
    let f = c.args.function.now in
    let names = c.in-Some.names.now in
    let known = called-by names f.params c.args.call.now.args i.top.env.variables c.in_ok-env.env (rw (c.as_slice-params.ensures, c.as_slice-args.ensures) at c.in_ok-env.ensures) in
    let opened = c.in_ok-open_call.ensures in
    let top = opened.top in
    named-begun plan i c.open_call.new.self opened.below
    (record {
      function = f;
      of_plan = ap (λ (n : ℕ). function_at (functions_of plan) n) (callee-function plan c.args.number c.in_ok-env.env (option_copied c.args.target) c.open_call.new.self.top top) ∙ c.requires.there;
      names = ap (λ (e : EnvironmentView). e.names) (top.env ∙ known.1.1) ∙ own-names plan c.args.number f c.requires.there names c.in-Some.ensures;
    })
    (subst (IsNamedIn plan i.top) (sym (callee-target plan c.args.number c.in_ok-env.env (option_copied c.args.target) c.open_call.new.self.top top)) (target-named plan c.args.slots.now i.top (option_copied c.args.target) c.requires.slots c.requires.target))

pub returns-in_err-open_call-clause-named : goal.returns-in_err-open_call-clause-named
returns-in_err-open_call-clause-named c = there-named c.args.plan.now c.args.self.now c.open_call.new.self c.in_err-open_call.ensures.err
