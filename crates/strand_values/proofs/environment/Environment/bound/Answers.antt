use Rattle.std.proofs.Common.{Some, is_some, ap, ◌∙◌, arith}
use Rattle.serial_meaning.specs.declared.environment.Content.TheVariants.{Scalar}
use Rattle.serial_meaning.specs.declared.value.Value.{Value}
use Rattle.strand_values.specs.Environments.{entry_content}
use Rattle.strand_values.proofs.BoundLemmas.{bound-begins, bound-more, bound-ends, slot_for}
use Rattle.strand_values.proofs.environment.Environment.bound.Goals as goal

pub loop-i-init : goal.loop-i-init
loop-i-init c = bound-begins c.args.names.now c.args.params.now c.args.args.now c.in_ok-env.env c.in_ok-env.ensures

pub put-requires-clause-there : goal.put-requires-clause-there
put-requires-clause-there c = slot_for c.args.names.now c.args.params.now c.loop-i.i c.loop-i.env c.requires c.loop-i.invariant.names_are (omega arith)

pub put-requires-clause-some : goal.put-requires-clause-some
put-requires-clause-some c = ap (λ o. is_some o) c.of.ensures

pub loop-i-preserved : goal.loop-i-preserved
loop-i-preserved c =
    bound-more c.args.names.now c.args.params.now c.args.args.now c.loop-i.i c.loop-i.env c.put.new.self (entry_content c.of.result) c.index-args-i.result c.requires c.loop-i.invariant (omega arith) (omega arith)
    c.index-args-i.is (c.of.ensures ∙ ap (λ (v : Value). Some (Scalar v)) c.in_ok-share.ensures) c.put.ensures

pub returns : goal.returns
returns c = bound-ends c.args.names.now c.args.params.now c.args.args.now c.loop-i.i c.loop-i.env c.loop-i.invariant (omega arith)
