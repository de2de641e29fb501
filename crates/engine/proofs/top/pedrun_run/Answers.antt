use Rattle.engine.proofs.Calls.{is_call_end}
use Rattle.engine.proofs.top.pedrun_run.Goals as goal

pub returns : goal.returns
returns g c = is_call_end _ _ _ _ _ _ c.status.ensures c.answer_words_by_crew-end.ensures.promise c.answer_words_by_crew-end.ensures.untouched c.answer_words_by_crew-end.ensures.no_output c.write_end.ensures.told c.write_end.ensures.no_line
