use Rattle.std.proofs.Common.{◌<◌, ◌^◌, false, None, length, refl, sym, ap, subst, ◌∙◌, rules, arith}
use Rattle.std.proofs.lemmas.Option.{slice_get_read}
use Rattle.serial_meaning.specs.Functions.{function_at}
use Rattle.serial_meaning.specs.Plan.{PlanView, functions_of}
use Rattle.strand_meaning.specs.Machine.{Stands}
use Rattle.strand_values.specs.Environments.{EnvironmentView}
use Rattle.strand_moves.specs.declared.instance_parts.InstanceParts.{InstanceParts}
use Rattle.strand_moves.specs.Acts.{IsCallee}
use Rattle.strand_moves.specs.InstanceParts.{IsInstance, machine_of, path_of}
use Rattle.strand_moves.proofs.Frames.CallLemmas.{callee-function, callee-scopes, first-begun}
use Rattle.strand_moves.proofs.Frames.Names.{own-names, params-stand}
use Rattle.strand_moves.proofs.OpenScopes.Keeping.{first-path, first-sound}
use Rattle.strand_moves.proofs.instance_parts.InstanceParts.new.Goals as goal

pub bound-requires : goal.bound-requires
bound-requires c =
    let plan = c.args.plan.now in
    let number = c.args.function in
    let f = c.index-functions-function.result in
    let there = slice_get_read (functions_of plan) (length (functions_of plan)) number f refl c.requires.there (rw c.functions.ensures.functions at c.index-functions-function.is) in
    rw (c.as_slice.ensures, own-names plan number f there c.in-Some.names.now c.in-Some.ensures) (params-stand plan number f there c.slots.result.now (record { table = c.slots.ensures.table; found = c.slots.ensures.found }))

pub returns-clause-begins : goal.returns-clause-begins
returns-clause-begins c =
    let plan = c.args.plan.now in
    let number = c.args.function in
    let f = c.index-functions-function.result in
    let there = slice_get_read (functions_of plan) (length (functions_of plan)) number f refl c.requires.there (rw c.functions.ensures.functions at c.index-functions-function.is) in
    let env = rw c.as_slice.ensures at c.in_ok-env.ensures in
    let limits = ap (λ (p : PlanView). p.limits.budget) c.plan.view_is in
    let first : InstanceParts = record { trail = c.args.trail; rank = 0; steps = c.plan.inside.limits.budget; leaving = false; top = c.new.result; below = c.frames.result } in
    first-begun plan number f c.args.args.now c.in-Some.names.now None first (subst (λ (e : EnvironmentView). IsCallee number e None c.new.result) env c.new.ensures) c.frames.ensures.list refl limits refl refl there
    ∙ ap (λ (x : InstanceParts). Stands (machine_of plan x)) (sym c.in_ok-boxed.ensures)

pub returns-clause-path : goal.returns-clause-path
returns-clause-path c =
    let a = c.new.ensures in
    let first : InstanceParts = record { trail = c.args.trail; rank = 0; steps = c.plan.inside.limits.budget; leaving = false; top = c.new.result; below = c.frames.result } in
    ap (λ (x : InstanceParts). path_of x) c.in_ok-boxed.ensures
    ∙ first-path first (callee-scopes c.args.plan.now c.args.function c.in_ok-env.env None c.new.result a) c.frames.ensures.list

pub returns-clause-sound : goal.returns-clause-sound
returns-clause-sound c =
    let plan = c.args.plan.now in
    let number = c.args.function in
    let f = c.index-functions-function.result in
    let there = slice_get_read (functions_of plan) (length (functions_of plan)) number f refl c.requires.there (rw c.functions.ensures.functions at c.index-functions-function.is) in
    let a = c.new.ensures in
    let env = rw c.as_slice.ensures at c.in_ok-env.ensures in
    let depth = ap (λ (p : PlanView). p.limits.depth) c.plan.view_is in
    let gamma = ap (λ (p : PlanView). length p.gamma) c.plan.view_is in
    let coefficients = c.plan.invariant.coefficients in
    let within = c.requires.within in
    let first : InstanceParts = record { trail = c.args.trail; rank = 0; steps = c.plan.inside.limits.budget; leaving = false; top = c.new.result; below = c.frames.result } in
    let steps : c.plan.inside.limits.budget < 2 ^ 32 = search rules in
    subst (λ (x : InstanceParts). IsInstance plan x) (sym c.in_ok-boxed.ensures)
    (first-sound plan first c.requires.fits (omega (arith, depth, gamma, coefficients, within)) refl steps refl (callee-scopes plan number c.in_ok-env.env None c.new.result a) c.frames.ensures.list
    (record {
      function = f;
      of_plan = ap (λ n. function_at (functions_of plan) n) (callee-function plan number c.in_ok-env.env None c.new.result a) ∙ there;
      names = ap (λ (e : EnvironmentView). e.names) (a.env ∙ env) ∙ own-names plan number f there c.in-Some.names.now c.in-Some.ensures;
    }))
