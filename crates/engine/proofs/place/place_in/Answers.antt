use Rattle.std.proofs.Common.{List, refl, sym, ap, ◌∙◌}
use Rattle.std.proofs.lemmas.Option.{slice_get_read}
use Rattle.script_grammar.specs.declared.tree.Function.{Function}
use Rattle.serial_meaning.specs.Functions.{function_at}
use Rattle.engine.proofs.place.place_in.Goals as goal

pub returns : goal.returns
returns c =
    let f = c.in_ok-function.function.now in
    let found = c.in_ok-function.ensures.lookup in
    record {
      function = f;
      there = ap (λ (fs : List Function). function_at fs c.args.function) (sym c.functions.ensures.functions) ∙ slice_get_read c.functions.result.now _ c.args.function f refl found.3.0 found.1;
      named = c.copy.ensures;
      offset = refl;
    }
