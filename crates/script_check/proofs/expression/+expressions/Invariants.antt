use Rattle.std.proofs.Common.{◌≡◌, map, drop}
use Rattle.script_grammar.specs.declared.tree.Kind.TheVariants.{Int}
use Rattle.script_check.specs.Violations.{earliest}
use Rattle.script_check.specs.Expressions.{read_sum_part, read_product_part, all_wanted}
use Rattle.script_check.specs.Walk.{known_in, pending_in}
use Rattle.script_check.proofs.expression.+expressions.Given as goal

abbrev pub invariant-want_factors-loop-part : goal.invariant-want_factors-loop-part
invariant-want_factors-loop-part l =
    earliest l.found (all_wanted Int (map read_product_part (drop l.part-index l.parts)) (known_in l.symbols) (pending_in l.symbols))
    ≡ earliest l.initial.found (all_wanted Int (map read_product_part l.parts) (known_in l.symbols) (pending_in l.symbols))

abbrev pub invariant-want_summands-loop-part : goal.invariant-want_summands-loop-part
invariant-want_summands-loop-part l =
    earliest l.found (all_wanted Int (map read_sum_part (drop l.part-index l.parts)) (known_in l.symbols) (pending_in l.symbols))
    ≡ earliest l.initial.found (all_wanted Int (map read_sum_part l.parts) (known_in l.symbols) (pending_in l.symbols))
