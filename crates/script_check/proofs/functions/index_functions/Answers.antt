use Rattle.std.proofs.Common.{◌≡◌, ap, ◌∙◌, rules}
use Rattle.std.specs.Prelude.{is_some}
use Rattle.script_check.specs.Tables.{table_of, with_first}
use Rattle.script_check.specs.Violations.{earliest, violation_if}
use Rattle.script_check.proofs.Tables.Indexed.{one_indexed, one_twice}
use Rattle.script_check.proofs.functions.index_functions.Goals as goal

pub loop-i-preserved : goal.loop-i-preserved
loop-i-preserved c =
    let f = c.index-list-i.result in
    let fs = c.args.list.now in
    let i = c.loop-i.i in
    let table = table_of c.loop-i.first.map in
    let put : table_of c.insert.new.self.map ≡ with_first table f.name.bytes i = search rules in
    let seen : c.add_violation_if.new.self ≡ earliest c.loop-i.found (violation_if (is_some (table.what f.name.bytes)) 3 f.name.at) = search rules in (
      one_indexed fs i f table (table_of c.insert.new.self.map) c.loop-i-test.true c.index-list-i.is c.loop-i.invariant.0 put,
      one_twice fs i f c.loop-i.found c.add_violation_if.new.self c.loop-i-test.true c.index-list-i.is
          (seen ∙ ap (λ o. earliest c.loop-i.found (violation_if (is_some o) 3 f.name.at)) (c.loop-i.invariant.0 f.name.bytes))
          ∙ c.loop-i.invariant.1,
    )
