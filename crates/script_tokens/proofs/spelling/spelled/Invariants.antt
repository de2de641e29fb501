use Rattle.std.proofs.Common.{◌≡◌, drop, map}
use Rattle.script_tokens.specs.Word.{word_spelled}
use Rattle.script_tokens.proofs.spelling.spelled.Given as goal

-- the entries that were passed over spell another text
abbrev pub invariant-loop-spelling : goal.invariant-loop-spelling
invariant-loop-spelling l = word_spelled (map (λ s. (s.0.now, s.1)) l.table) l.text ≡ word_spelled (map (λ s. (s.0.now, s.1)) (drop l.spelling-index l.table)) l.text
