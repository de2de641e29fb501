use Rattle.std.proofs.Common.{◌∙◌}
use Rattle.script_print.proofs.Computing.{then_ok, loop_written, block_written}
use Rattle.script_print.proofs.statement.+statements.Goals as goal

pub write_act-returns-in_ok-write_into-in-Pfor : goal.write_act-returns-in_ok-write_into-in-Pfor
write_act-returns-in_ok-write_into-in-Pfor t c =
    then_ok _ c.write_loop_call.ensures
    (loop_written _ _ _ _ _ _ _ _ _ _ _ c.in-Pfor.is c.in_ok-write_range-in-Pfor.ensures c.in_ok-write_into-in-Pfor.ensures)

pub write_block-returns : goal.write_block-returns
write_block-returns t c =
    block_written _ _ _ _ _ _ _ _ c.in_ok-extend_from_slice.ensures.items (c.deref.ensures.value ∙ c.in_ok-inner_margin.ensures) c.in_ok-write_stmts.ensures c.in_ok-extend_from_slice-2.ensures.items c.in_ok-push.ensures.items
