-- Where validity goes on in the statements of a function: after a statement, and into a block.
use Rattle.std.proofs.Common.{◌≡◌, ℕ, Bool, true, false, ◌||◌, List, [], ◌∷◌, ◌++◌, refl, sym, ap, ◌∙◌, append_assoc, subst}
use Rattle.script_grammar.specs.declared.tree.Stmt.{Stmt, out-Stmt, fold_out-Stmt}
use Rattle.script_grammar.specs.declared.tree.Act.{Act, map-Act, fold_out-Act}
use Rattle.script_grammar.specs.declared.tree.Act.TheOpen as act
use Rattle.script_grammar.specs.declared.tree.Act.TheOpen.{Act-F}
use Rattle.script_check.specs.Names as check
use Rattle.script_check.specs.Names.{no_names, union}
use Rattle.script_check.specs.Statements.{Judged, judge_act, judge, judge_what, after}
use Rattle.script_check.proofs.FewerPending.Linear.{loop_closed}
use Rattle.strand_meaning.specs.Machine.{Level}
use Rattle.strand_meaning.specs.Pending.{act_of, HasBlock, Then, Else, LoopBody, ComesTo, Here, Past, Within, FrameStandsAt, Outside, InScope, judged_by, judging_set}

or-left : (a b : Bool) → a ≡ true → (a || b) ≡ true
or-left a b h = ap (λ c. c || b) h

or-right : (a b : Bool) → b ≡ true → (a || b) ≡ true
or-right true b h = refl
or-right false b h = h

-- what is pending after a statement, by what it does
abbrev pub names_after : Act-F Act Stmt → check.NameSet → check.NameSet
names_after d p = (judge_act (map-Act Act Stmt (ℕ → Judged) Judged judge_what judge d) 0).after p

pub after-names : (st : Stmt) (p : check.NameSet) → (judge st).after p ≡ names_after (act_of st) p
after-names st p =
    ap (λ (j : Judged). j.after p)
    (fold_out-Stmt (ℕ → Judged) Judged judge_act (λ s. s.act s.at) st
    ∙ ap (λ (f : ℕ → Judged). f (out-Stmt st).at) (fold_out-Act (ℕ → Judged) Judged judge_act (λ s. s.act s.at) (out-Stmt st).act))

pub after-as : (st : Stmt) (d : Act-F Act Stmt) → act_of st ≡ d → (p : check.NameSet) → (judge st).after p ≡ names_after d p
after-as st d e p = after-names st p ∙ ap (λ (c : Act-F Act Stmt). names_after c p) e

set-within : (p q r : check.NameSet) → q ≡ r → check.IsWithin p r → check.IsWithin p q
set-within p q r e w = subst (check.IsWithin p) (sym e) w

-- the set by which a statement is judged has all that is pending before it
judged-within : (d : Act-F Act Stmt) (p : check.NameSet) → check.IsWithin p (judged_by d p)
judged-within (act.Let x r) p name h = h
judged-within (act.Array x n) p name h = h
judged-within (act.Set x r) p name h = h
judged-within (act.Store x i e) p name h = h
judged-within (act.Spawn c) p name h = h
judged-within (act.Call c) p name h = h
judged-within act.Sync p name h = h
judged-within (act.Print e) p name h = h
judged-within (act.If e a b) p name h = h
judged-within (act.While e a) p name h = or-left (p name) (after a p name) h
judged-within (act.Pfor x lo hi target c) p name h = h
judged-within (act.Scope a) p name h = h

pub at-within : (left : List Stmt) (p : check.NameSet) → check.IsWithin p (judging_set left p)
at-within [] p name h = h
at-within (st ∷ left) p name h = judged-within (act_of st) p name h

-- at the end of statements all that is pending after them is
pub comes-end : {from now : check.NameSet} {sts : List Stmt} → ComesTo from sts [] now → now ≡ after sts from
comes-end Here = refl
comes-end (Past c) = comes-end c

-- Validity comes to what is left, where all of that set is in the set by which it judges what comes first.
pub record GoesOn (from : check.NameSet) (sts left : List Stmt) (set : check.NameSet) : Type 0 where
  pub now : check.NameSet
  pub comes : ComesTo from sts left now
  pub all : check.IsWithin set (judging_set left now)

-- after a block that ends with a set
after-block : {from now : check.NameSet} {sts left block : List Stmt} {inner : check.NameSet} {again : List Stmt} {st : Stmt} → ComesTo from sts (st ∷ left) now → GoesOn from sts left ((judge st).after now) → HasBlock st now block inner again →
    (set : check.NameSet) → check.IsWithin set (after block inner) → GoesOn from sts (again ++ left) set
after-block {now = now} {st = st} c o (Then e a b h) set w = record {
  now = o.now;
  comes = o.comes;
  all = λ name k. o.all name (set-within (after a now) ((judge st).after now) (union (after a now) (after b now)) (after-as st (act.If e a b) h now) (λ x l. or-left (after a now x) (after b now x) l) name (w name k));
}
after-block {now = now} {st = st} c o (Else e a b h) set w = record {
  now = o.now;
  comes = o.comes;
  all = λ name k. o.all name (set-within (after b now) ((judge st).after now) (union (after a now) (after b now)) (after-as st (act.If e a b) h now) (λ x l. or-right (after a now x) (after b now x) l) name (w name k));
}
after-block {now = now} {st = st} c o (LoopBody e body h) set w = record {
  now = now;
  comes = c;
  all = λ name k. set-within (union now (after body now)) (judged_by (act_of st) now) (union now (after body now)) (ap (λ (d : Act-F Act Stmt). judged_by d now) h) (λ x l. l) name (loop_closed body now name (w name k));
}

here-on : (from : check.NameSet) (st : Stmt) (sts : List Stmt) → GoesOn from (st ∷ sts) sts ((judge st).after from)
here-on from st sts = record { now = (judge st).after from; comes = Past Here; all = at-within sts ((judge st).after from) }

-- after a statement
pub goes-on : {from now : check.NameSet} {sts left : List Stmt} {st : Stmt} → ComesTo from sts (st ∷ left) now → GoesOn from sts left ((judge st).after now)
goes-on {now = now} {left = left} {st = st} Here = here-on now st left
goes-on (Past c) = let o = goes-on c in record { now = o.now; comes = Past o.comes; all = o.all }
goes-on {from} {now = now} (Within {inner = inner} {st = outer} {next = next} {sts = sts} {block = block} {again = again} {left = rest} b c) = by_rest rest (goes-on c)
  where
    by_rest : (rest : List Stmt) → GoesOn inner block rest ((judge next).after now) → GoesOn from (outer ∷ sts) (rest ++ (again ++ sts)) ((judge next).after now)
    by_rest [] o = after-block Here (here-on from outer sts) b ((judge next).after now) (subst (check.IsWithin ((judge next).after now)) (comes-end o.comes) o.all)
    by_rest (x ∷ xs) o = record { now = o.now; comes = Within b o.comes; all = o.all }

-- into a block of the next statement
deeper : {from now inner set : check.NameSet} {sts left block again rest : List Stmt} {st next : Stmt} →
    ComesTo from sts (st ∷ left) now → HasBlock st now block inner again → ComesTo inner block (next ∷ rest) set → ComesTo from sts (next ∷ (rest ++ (again ++ left))) set
deeper Here b c = Within b c
deeper (Past d) b c = Past (deeper d b c)
deeper {from} {set = set} {again = again} {rest = rest} {next = next} (Within {st = outer} {sts = sts} {again = then} {left = xs} a d) b c =
    subst (λ (l : List Stmt). ComesTo from (outer ∷ sts) (next ∷ l) set)
    (append_assoc rest (again ++ xs) (then ++ sts) ∙ ap (λ (l : List Stmt). rest ++ l) (append_assoc again xs (then ++ sts)))
    (Within a (deeper d b c))

pub goes-in : {from now inner : check.NameSet} {sts left again : List Stmt} {st : Stmt} → ComesTo from sts (st ∷ left) now → (block : List Stmt) → HasBlock st now block inner again → GoesOn from sts (block ++ (again ++ left)) inner
goes-in {inner = inner} c [] b = after-block c (goes-on c) b inner (λ name h. h)
goes-in {inner = inner} {left = left} {again = again} c (x ∷ xs) b = record { now = inner; comes = deeper c b Here; all = at-within (x ∷ (xs ++ (again ++ left))) inner }

-- The same of a function's statements

pub record StandsOn (body : List Stmt) (levels : List Level) (left : List Stmt) (set : check.NameSet) : Type 0 where
  pub now : check.NameSet
  pub stands : FrameStandsAt body levels left now
  pub all : check.IsWithin set (judging_set left now)

pub stands-on : {body left : List Stmt} {levels : List Level} {st : Stmt} {now : check.NameSet} → FrameStandsAt body levels (st ∷ left) now → StandsOn body levels left ((judge st).after now)
stands-on (Outside c) = let o = goes-on c in record { now = o.now; stands = Outside o.comes; all = o.all }
stands-on (InScope s e c) = let o = goes-on c in record { now = o.now; stands = InScope s e o.comes; all = o.all }

pub stands-in : {body left again : List Stmt} {levels : List Level} {st : Stmt} {now inner : check.NameSet} → FrameStandsAt body levels (st ∷ left) now → (block : List Stmt) → HasBlock st now block inner again → StandsOn body levels (block ++ (again ++ left)) inner
stands-in (Outside c) block b = let o = goes-in c block b in record { now = o.now; stands = Outside o.comes; all = o.all }
stands-in (InScope s e c) block b = let o = goes-in c block b in record { now = o.now; stands = InScope s e o.comes; all = o.all }

-- out of the innermost scope
pub stands-out : {body left : List Stmt} {level : Level} {levels : List Level} {now : check.NameSet} → FrameStandsAt body (level ∷ levels) left now → (set : check.NameSet) × FrameStandsAt body levels level.left set
stands-out (InScope s e c) = let o = stands-on s in (o.now, o.stands)
