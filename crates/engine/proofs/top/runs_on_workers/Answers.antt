use Rattle.std.proofs.Common.{◌↔◌, ◌<◌, length, IsTrue, string_bytes, arith, rules}
use Rattle.engine.specs.Commands.{IsRunWord}
use Rattle.engine.proofs.WordLemmas.{is_run_first}
use Rattle.engine.proofs.top.runs_on_workers.Goals as goal

pub returns-in-len1-up : goal.returns-in-len1-up
returns-in-len1-up c =
    let some : 0 < length c.args.words.now = omega (arith, c.in-len1-up.len_at_least) in
    let means : IsTrue c.is_run_word.result ↔ IsRunWord (string_bytes c.word-item.result) = search rules in
    is_run_first string_bytes c.args.words.now c.word-item.result some c.word-item.is (IsTrue c.is_run_word.result) means
