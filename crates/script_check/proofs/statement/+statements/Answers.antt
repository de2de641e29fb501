use Rattle.std.proofs.Common.{◌≡◌, Bool, ◌||◌, ◌&&◌, true, false, ap, sym, ◌∙◌, rules}
use Rattle.script_grammar.specs.declared.tree.Kind.TheVariants.{Int}
use Rattle.script_grammar.specs.declared.tree.Act.{Act}
use Rattle.script_grammar.specs.declared.tree.Act.TheVariants as variant
use Rattle.script_check.specs.Violations.{earliest}
use Rattle.script_check.specs.Names.{no_names, union}
use Rattle.script_check.specs.Expressions.{reading_of, wanted}
use Rattle.script_check.specs.Statements.{context, Judged, judge_what, judge_all, violations_each, after}
use Rattle.script_check.specs.Walk.{WalkState, keeps_what, keeps_all, walk_state}
use Rattle.script_check.proofs.Walk.After.{one_after, one_judged, if_state, if_violations, while_state, while_violations, scope_state, with_known, with_loop_set, after_by}
use Rattle.script_check.proofs.FewerPending.Induction.{judge_is, keeps_is, judge_if, keeps_if, judge_while, keeps_while, judge_scope, keeps_scope}
use Rattle.script_check.proofs.statement.+statements.Goals as goal

pub judge_nested-returns-in_ok-end_if-in-If-clause-state : goal.judge_nested-returns-in_ok-end_if-in-If-clause-state
judge_nested-returns-in_ok-end_if-in-If-clause-state t c =
    let fs = c.args.functions.now in
    let st = c.args.statement.now in
    let a = c.as_slice.result.now in
    let b = c.as_slice-in-If.result.now in
    let s = walk_state c.args.symbols.now in
    let k : Bool = c.in_ok-first-in-If.first || c.in_ok-second-in-If.second in
    let kept : k ≡ (keeps_all a || keeps_all b) = search rules in
    let last : walk_state c.end_if.new.symbols ≡ record (walk_state c.judge_block-in-If.new.symbols) {
      names = union (after a (walk_state c.judge_block-in-If.new.symbols).names) (after b (walk_state c.judge_block-in-If.new.symbols).names);
      keeps = k && (walk_state c.judge_block-in-If.new.symbols).keeps;
    } = search rules in
    let what : st.act ≡ variant.If c.in-If.e a b = search rules in
    if_state fs a b k s (walk_state c.judge_block.new.symbols) (walk_state c.judge_block-in-If.new.symbols) (walk_state c.end_if.new.symbols)
    c.in_ok-first-in-If.ensures.state c.in_ok-second-in-If.ensures.state last kept
    ∙ sym (after_by fs st _ _ s (judge_is st ∙ ap (λ (w : Act). judge_what w st.at) what ∙ judge_if st.at c.in-If.e a b) (keeps_is st ∙ ap keeps_what what ∙ keeps_if c.in-If.e a b))

pub judge_nested-returns-in_ok-end_if-in-If-clause-found : goal.judge_nested-returns-in_ok-end_if-in-If-clause-found
judge_nested-returns-in_ok-end_if-in-If-clause-found t c in_block =
    let fs = c.args.functions.now in
    let st = c.args.statement.now in
    let a = c.as_slice.result.now in
    let b = c.as_slice-in-If.result.now in
    let s = walk_state c.args.symbols.now in
    let condition = wanted Int (reading_of c.in-If.e) s.known s.names in
    let what : st.act ≡ variant.If c.in-If.e a b = search rules in
    if_violations fs a b in_block condition s (walk_state c.judge_block.new.symbols) c.args.found.now c.want.new.found c.judge_block.new.found c.judge_block-in-If.new.found
    c.want.ensures.found c.in_ok-first-in-If.ensures.found c.in_ok-first-in-If.ensures.state c.in_ok-second-in-If.ensures.found
    ∙ ap (λ (j : Judged). earliest c.args.found.now (j.violations (context fs in_block) s.known s.names)) (sym (judge_is st ∙ ap (λ (w : Act). judge_what w st.at) what ∙ judge_if st.at c.in-If.e a b))

pub judge_nested-returns-in_ok-judge_block-in-While-clause-state : goal.judge_nested-returns-in_ok-judge_block-in-While-clause-state
judge_nested-returns-in_ok-judge_block-in-While-clause-state t c =
    let fs = c.args.functions.now in
    let st = c.args.statement.now in
    let a = c.as_slice-in-While.result.now in
    let s = walk_state c.args.symbols.now in
    let what : st.act ≡ variant.While c.in-While.e a = search rules in
    let begun : walk_state c.begin_while.new.symbols ≡ with_loop_set fs a s = search rules in
    let last : walk_state c.judge_block-in-While.new.symbols ≡ with_known fs a (walk_state c.begin_while.new.symbols) = search rules in
    while_state fs a s (walk_state c.begin_while.new.symbols) (walk_state c.judge_block-in-While.new.symbols) begun last
    ∙ sym (after_by fs st _ _ s (judge_is st ∙ ap (λ (w : Act). judge_what w st.at) what ∙ judge_while st.at c.in-While.e a) (keeps_is st ∙ ap keeps_what what ∙ keeps_while c.in-While.e a))

pub judge_nested-returns-in_ok-judge_block-in-While-clause-found : goal.judge_nested-returns-in_ok-judge_block-in-While-clause-found
judge_nested-returns-in_ok-judge_block-in-While-clause-found t c in_block =
    let fs = c.args.functions.now in
    let st = c.args.statement.now in
    let a = c.as_slice-in-While.result.now in
    let s = walk_state c.args.symbols.now in
    let m = walk_state c.begin_while.new.symbols in
    let what : st.act ≡ variant.While c.in-While.e a = search rules in
    let known : m.known ≡ s.known = ap (λ (t : WalkState). t.known) c.in_ok-begin_while-in-While.ensures in
    let set : m.names ≡ union s.names (after a s.names) = ap (λ (t : WalkState). t.names) c.in_ok-begin_while-in-While.ensures in
    let body : c.judge_block-in-While.new.found ≡ earliest c.want-in-While.new.found (violations_each (judge_all a) (context fs true) m.known m.names) = search rules in
    while_violations fs a (reading_of c.in-While.e) s.known m.known s.names m.names c.args.found.now c.want-in-While.new.found c.judge_block-in-While.new.found
    known set c.want-in-While.ensures.found body
    ∙ ap (λ (j : Judged). earliest c.args.found.now (j.violations (context fs in_block) s.known s.names)) (sym (judge_is st ∙ ap (λ (w : Act). judge_what w st.at) what ∙ judge_while st.at c.in-While.e a))

pub judge_nested-returns-in_ok-sync-in-Scope-clause-state : goal.judge_nested-returns-in_ok-sync-in-Scope-clause-state
judge_nested-returns-in_ok-sync-in-Scope-clause-state t c =
    let fs = c.args.functions.now in
    let st = c.args.statement.now in
    let a = c.as_slice-in-Scope.result.now in
    let s = walk_state c.args.symbols.now in
    let what : st.act ≡ variant.Scope a = search rules in
    let first : walk_state c.judge_block-in-Scope.new.symbols ≡ with_known fs a s = search rules in
    let last : walk_state c.sync.new.self ≡ record (walk_state c.judge_block-in-Scope.new.symbols) { names = no_names; keeps = false } = search rules in
    scope_state fs a s (walk_state c.judge_block-in-Scope.new.symbols) (walk_state c.sync.new.self) first last
    ∙ sym (after_by fs st _ _ s (judge_is st ∙ ap (λ (w : Act). judge_what w st.at) what ∙ judge_scope st.at a) (keeps_is st ∙ ap keeps_what what ∙ keeps_scope a))

pub judge_nested-returns-in_ok-sync-in-Scope-clause-found : goal.judge_nested-returns-in_ok-sync-in-Scope-clause-found
judge_nested-returns-in_ok-sync-in-Scope-clause-found t c in_block =
    let fs = c.args.functions.now in
    let st = c.args.statement.now in
    let a = c.as_slice-in-Scope.result.now in
    let s = walk_state c.args.symbols.now in
    let what : st.act ≡ variant.Scope a = search rules in
    let block : c.judge_block-in-Scope.new.found ≡ earliest c.args.found.now (violations_each (judge_all a) (context fs true) s.known s.names) = search rules in
    block ∙ ap (λ (j : Judged). earliest c.args.found.now (j.violations (context fs in_block) s.known s.names)) (sym (judge_is st ∙ ap (λ (w : Act). judge_what w st.at) what ∙ judge_scope st.at a))

pub judge_each-loop-statement-preserved : goal.judge_each-loop-statement-preserved
judge_each-loop-statement-preserved t c =
    let fs = c.args.functions.now in
    let ss = c.args.statements.now in
    let i = c.loop-statement.statement-index in
    let s = c.statement-item.result in (
      one_after fs ss i s (walk_state c.loop-statement.symbols) (walk_state c.judge.new.symbols) c.loop-statement-test.true c.statement-item.is c.in_ok-judge.ensures.state ∙ c.loop-statement.invariant.0,
      one_judged fs c.args.in_block ss i s (walk_state c.loop-statement.symbols) (walk_state c.judge.new.symbols) c.loop-statement.found c.judge.new.found
          c.loop-statement-test.true c.statement-item.is c.in_ok-judge.ensures.state c.in_ok-judge.ensures.found ∙ c.loop-statement.invariant.1,
    )
