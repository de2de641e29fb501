use Rattle.script_print.proofs.Computing.{then_ok, sum_written, product_written}
use Rattle.script_print.proofs.expression.+expressions.Goals as goal

pub write_expr-returns-in_ok-write_operand-in-Sum : goal.write_expr-returns-in_ok-write_operand-in-Sum
write_expr-returns-in_ok-write_operand-in-Sum t c =
    then_ok _ c.write_sum_parts.ensures
    (sum_written _ _ _ _ _ _ _ _ c.in-Sum.is c.get-in-Sum.ensures c.as_slice.ensures c.in_ok-write_operand-in-Sum.ensures)

pub write_expr-returns-in_ok-write_operand-in-Product : goal.write_expr-returns-in_ok-write_operand-in-Product
write_expr-returns-in_ok-write_operand-in-Product t c =
    then_ok _ c.write_product_parts.ensures
    (product_written _ _ _ _ _ _ _ _ c.in-Product.is c.get-in-Product.ensures c.as_slice-in-Product.ensures c.in_ok-write_operand-in-Product.ensures)
