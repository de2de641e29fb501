use Rattle.std.proofs.Common.{◌≡◌, ◌-◌, ◌&&◌, false, true, drop, sym, ap, ◌∙◌, arith, rules}
use Rattle.script_grammar.specs.declared.tree.Act.{the_lemmas}
use Rattle.script_check.specs.Names.{NameSet, no_names, union, with_name}
use Rattle.script_check.specs.Statements.{judge, after}
use Rattle.script_check.specs.Walk.{WalkState, keeps, keeps_all, walk_state}
use Rattle.script_check.proofs.Walk.Collected.{alone, two_sets, kept_more, one_more, all_of_it, keeps_none}
use Rattle.script_check.proofs.spawns.+spawns.Goals as goal

pub collect-returns-then-not-branch-clause-keeps : goal.collect-returns-then-not-branch-clause-keeps
collect-returns-then-not-branch-clause-keeps t c =
    let i = c.loop-i.i in
    let ss = c.args.statements.now in
    let s = c.index-statements-i.result in
    let not_kept : keeps s ≡ false = search rules in
    sym (keeps_none ss (i - 1) (kept_more ss i (i - 1) s (omega arith) (omega arith) c.index-statements-i.is ∙ ap (λ b. b && keeps_all (drop i ss)) not_kept))

pub collect-returns-then-not-branch-clause-state : goal.collect-returns-then-not-branch-clause-state
collect-returns-then-not-branch-clause-state t c =
    let i = c.loop-i.i in
    let ss = c.args.statements.now in
    let s = c.index-statements-i.result in
    let not_kept : keeps s ≡ false = search rules in
    all_of_it ss (i - 1) (walk_state c.args.symbols.now) (walk_state c.collect_one.new.symbols)
    (kept_more ss i (i - 1) s (omega arith) (omega arith) c.index-statements-i.is ∙ ap (λ b. b && keeps_all (drop i ss)) not_kept)
    (one_more ss i (i - 1) s (walk_state c.args.symbols.now) (walk_state c.loop-i.symbols) (walk_state c.collect_one.new.symbols) (omega arith) (omega arith)
    c.index-statements-i.is c.loop-i.invariant.1 c.loop-i.invariant.2 c.in_ok-collect_one.ensures.state)

pub collect-loop-i-preserved : goal.collect-loop-i-preserved
collect-loop-i-preserved t c =
    let i = c.loop-i.i in
    let ss = c.args.statements.now in
    let s = c.index-statements-i.result in
    let kept : keeps s ≡ true = search rules in (
      omega arith,
      kept_more ss i (i - 1) s (omega arith) (omega arith) c.index-statements-i.is ∙ ap (λ b. b && keeps_all (drop i ss)) kept ∙ c.loop-i.invariant.1,
      one_more ss i (i - 1) s (walk_state c.args.symbols.now) (walk_state c.loop-i.symbols) (walk_state c.collect_one.new.symbols) (omega arith) (omega arith)
          c.index-statements-i.is c.loop-i.invariant.1 c.loop-i.invariant.2 c.in_ok-collect_one.ensures.state,
    )

pub collect_one-returns-then-first-clause-state : goal.collect_one-returns-then-first-clause-state
collect_one-returns-then-first-clause-state t c =
    let a = after c.as_slice.result.now no_names in
    let b = after c.as_slice-in-If.result.now no_names in
    let s = walk_state c.args.symbols.now in
    let e : (judge c.args.statement.now).after no_names ≡ union a b = search (rules, the_lemmas) in
    c.in_ok-second-in-If.ensures.state ∙ ap (λ (t : WalkState). record t { names = union b t.names }) c.in_ok-first-in-If.ensures.state
    ∙ ap (λ (p : NameSet). record s { names = p }) (two_sets a b s.names ∙ ap (λ (f : NameSet). union f s.names) (sym e))

pub collect_one-returns-else-first-clause-state : goal.collect_one-returns-else-first-clause-state
collect_one-returns-else-first-clause-state t c =
    let a = after c.as_slice.result.now no_names in
    let b = after c.as_slice-in-If.result.now no_names in
    let s = walk_state c.args.symbols.now in
    let e : (judge c.args.statement.now).after no_names ≡ union a b = search (rules, the_lemmas) in
    c.in_ok-second-in-If.ensures.state ∙ ap (λ (t : WalkState). record t { names = union b t.names }) c.in_ok-first-in-If.ensures.state
    ∙ ap (λ (p : NameSet). record s { names = p }) (two_sets a b s.names ∙ ap (λ (f : NameSet). union f s.names) (sym e))

pub collect_one-returns-in_ok-add_pending-in-Let-default-Spawn-clause-state : goal.collect_one-returns-in_ok-add_pending-in-Let-default-Spawn-clause-state
collect_one-returns-in_ok-add_pending-in-Let-default-Spawn-clause-state t c =
    let x = c.in-Let-default-Spawn.x.bytes in
    let s = walk_state c.args.symbols.now in
    let e : (judge c.args.statement.now).after no_names ≡ with_name x no_names = search (rules, the_lemmas) in
    c.in_ok-add_pending-in-Let-default-Spawn.ensures ∙ ap (λ (p : NameSet). record s { names = p }) (alone x s.names ∙ ap (λ (f : NameSet). union f s.names) (sym e))

pub collect_one-returns-in_ok-add_pending-in-Set-default-Spawn-clause-state : goal.collect_one-returns-in_ok-add_pending-in-Set-default-Spawn-clause-state
collect_one-returns-in_ok-add_pending-in-Set-default-Spawn-clause-state t c =
    let x = c.in-Set-default-Spawn.x.bytes in
    let s = walk_state c.args.symbols.now in
    let e : (judge c.args.statement.now).after no_names ≡ with_name x no_names = search (rules, the_lemmas) in
    c.in_ok-add_pending-in-Set-default-Spawn.ensures ∙ ap (λ (p : NameSet). record s { names = p }) (alone x s.names ∙ ap (λ (f : NameSet). union f s.names) (sym e))
