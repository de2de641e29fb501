use Rattle.std.proofs.Common.{◌≡◌, ◌≤◌, drop}
use Rattle.script_grammar.specs.Grammar.{decimal}
use Rattle.script_text.proofs.parser.source.decimal_value.Given as goal

abbrev pub invariant-loop-digit : goal.invariant-loop-digit
invariant-loop-digit l = record {
  so_far : decimal 0 l.digits ≡ decimal l.value (drop l.digit-index l.digits);
  fits : l.value ≤ 9223372036854775807;
}
