-- Scopes that are entered and left, as changes of an instance.
use Rattle.std.proofs.Common.{◌≡◌, ℕ, ◌+◌, ◌<◌, ◌^◌, Bool, true, false, List, [], ◌∷◌, ◌++◌, Option, reverse, length, refl, sym, ap, subst, ◌∙◌, arith, if◌then◌else◌}
use Rattle.std.proofs.lemmas.List.{append-nil, length-append, reverse-append, reverse-reverse}
use Rattle.dotmix.specs.Trails.{FitsGamma}
use Rattle.dotmix.specs.declared.trail.Trail.{Trail}
use Rattle.script_grammar.specs.declared.tree.Stmt.{Stmt}
use Rattle.script_grammar.specs.declared.tree.Stmt.{out-Stmt}
use Rattle.script_grammar.specs.declared.tree.Act.{Act, out-Act}
use Rattle.script_grammar.specs.declared.tree.Act.TheOpen as act
use Rattle.script_grammar.specs.declared.tree.Act.TheOpen.{Act-F}
use Rattle.serial_meaning.specs.Plan.{PlanView}
use Rattle.serial_meaning.specs.declared.event.Event.TheVariants as event
use Rattle.strand_meaning.specs.Machine.{Opens, Closes, Machine, Emitted, Effect, end_move, here_of, inside_of, level_move, present, sync_effects}
use Rattle.strand_meaning.specs.Machine as meaning
use Rattle.strand_moves.specs.declared.frame.Level.{Level}
use Rattle.strand_moves.specs.declared.cursor.Cursor.{Cursor}
use Rattle.strand_moves.specs.declared.instance_parts.InstanceParts.{InstanceParts}
use Rattle.strand_moves.specs.Acts.{GoesIn, IsKept}
use Rattle.strand_moves.specs.Cursors.{IsAfterStatement, statements_left, scope_after, scope_at, scope_of}
use Rattle.strand_moves.specs.Moves.{acted}
use Rattle.strand_moves.proofs.Frames.CallLemmas.{is_below}
use Rattle.strand_moves.specs.InstanceParts.{AreAround, IsInstance, body_of, block_inside, levels_of, machine_of, open_scopes, path_around, path_of, present_of, ranks_after, scopes_of, statements_of}
use Rattle.strand_moves.proofs.Statements.Equations.{scope, moved}
use Rattle.strand_moves.proofs.OpenScopes.Keeping.{here-is}
use Rattle.strand_moves.proofs.Statements.Naming.{top-named}

module _ (plan : PlanView) (path : List ℕ) (m : Machine) where
  module _ (l : meaning.Level) (ls : List meaning.Level) (there : m.top.levels ≡ l ∷ ls) where
    end-some : (b : Bool) → m.top.leaving ≡ b → end_move plan path m m.top.levels ≡ level_move plan path m l ls b
    end-some b e = ap (λ (ls : List meaning.Level). end_move plan path m ls) there ∙ ap (λ (t : Bool). level_move plan path m l ls t) e

    pub joins : m.top.leaving ≡ false →
        end_move plan path m m.top.levels
        ≡ moved (Emitted (event.Sync (here_of path m ++ m.rank ∷ [])) ∷ sync_effects m.top.spawned) (record m { rank = m.rank + 1; top = record m.top { leaving = true; spawned = false } })
    joins e =
        end-some false e
        ∙ ap (λ (effects : List Effect). moved (Emitted (event.Sync (here_of path m ++ m.rank ∷ [])) ∷ effects) (record m { rank = m.rank + 1; top = record m.top { leaving = true; spawned = false } })) (append-nil (sync_effects m.top.spawned))

    pub goes-out : m.top.leaving ≡ true →
        end_move plan path m m.top.levels
        ≡ moved (Closes (here_of path m) ∷ []) (record m { rank = l.rank + 1; top = record m.top { left = l.left; levels = ls; leaving = false } })
    goes-out e =
        end-some true e
        ∙ ap (λ (p : List ℕ). moved (Closes p ∷ []) (record m { rank = l.rank + 1; top = record m.top { left = l.left; levels = ls; leaving = false } }))
        (ap (λ (ls : List meaning.Level). inside_of (present path m.below) ls) (sym there))

-- scopes that are open, from the innermost on
turned : (rest : List Level) (l : Level) → reverse (rest ++ l ∷ []) ≡ l ∷ reverse rest
turned rest l = reverse-append rest (l ∷ [])

module _ {X : Type 0} where
  some-first : (xs : List X) → (xs ≡ [] → ⊥) → (x : X) × ((rest : List X) × (xs ≡ x ∷ rest))
  some-first [] h = absurd (h refl)
  some-first (x ∷ xs) h = (x, (xs, refl))

  turned-some : (xs : List X) → (xs ≡ [] → ⊥) → reverse xs ≡ [] → ⊥
  turned-some xs h e = h (sym (reverse-reverse xs) ∙ ap (λ (ys : List X). reverse ys) e)

module _ (plan : PlanView) (i : InstanceParts) (h : IsInstance plan i) where
  -- out of the innermost scope
  module _ (rest : List Level) (l : Level) (there : i.top.levels.items ≡ rest ++ l ∷ []) (leaves : i.leaving ≡ true) where
    opened : open_scopes i ≡ l ∷ (reverse rest ++ scopes_of (reverse i.below.items))
    opened = ap (λ (ls : List Level). reverse ls ++ scopes_of (reverse i.below.items)) there ∙ ap (λ (ls : List Level). ls ++ scopes_of (reverse i.below.items)) (turned rest l)

    stands : AreAround plan (l ∷ (reverse rest ++ scopes_of (reverse i.below.items))) i.trail.path
    stands = subst (λ (ls : List Level). AreAround plan ls i.trail.path) opened h.around

    pub rank-fits : l.rank + 1 < 2 ^ 32
    rank-fits =
        let few = h.few in
        let ranks : ranks_after (open_scopes i) ≡ l.rank + 1 + ranks_after (reverse rest ++ scopes_of (reverse i.below.items)) = ap (λ (ls : List Level). ranks_after ls) opened in
        omega (arith, few, ranks)

    -- where the instance goes on
    abbrev pub IsOut : InstanceParts → Type 0
    IsOut new = (new.top.levels.items ≡ rest) × (new ≡ record i { trail = l.trail; rank = l.rank + 1; leaving = false; top = record i.top { levels = new.top.levels; cursor = l.cursor } })

    pub is-out : (popped new : InstanceParts) → popped ≡ record i { top = record i.top { levels = popped.top.levels } } → popped.top.levels.items ≡ rest →
        new ≡ record popped { trail = l.trail; rank = l.rank + 1; leaving = false; top = record popped.top { cursor = l.cursor } } → IsOut new
    is-out popped new is left e = (
      ap (λ (x : InstanceParts). x.top.levels.items) e ∙ left,
      e ∙ ap (λ (x : InstanceParts). let y : InstanceParts = record x { trail = l.trail; rank = l.rank + 1; leaving = false; top = record x.top { cursor = l.cursor } } in y) is
          ∙ ap (λ (x : InstanceParts). let y : InstanceParts = record i { trail = l.trail; rank = l.rank + 1; leaving = false; top = record i.top { levels = x.top.levels; cursor = l.cursor } } in y) (sym e),
    )

    pub out-moves : (new : InstanceParts) → IsOut new → end_move plan (path_of i) (machine_of plan i) (machine_of plan i).top.levels ≡ moved (Closes (l.trail.path ++ l.rank ∷ []) ∷ []) (machine_of plan new)
    out-moves new out =
        let m = machine_of plan i in
        let body = body_of plan i.top.function in
        let levels = ap (λ (ls : List Level). levels_of body (reverse ls)) there ∙ ap (λ (ls : List Level). levels_of body ls) (turned rest l) in
        let place = here-is plan i h ∙ stands.0 in
        let next : Machine = record m { rank = l.rank + 1; top = record m.top { left = statements_left (block_inside body (reverse rest)) l.cursor; levels = levels_of body (reverse rest); leaving = false } } in
        let machine : machine_of plan new ≡ next =
        ap (λ (x : InstanceParts). machine_of plan x) out.1
        ∙ ap (λ (ls : List Level). record m { rank = l.rank + 1; top = record m.top { left = statements_left (block_inside body (reverse ls)) l.cursor; levels = levels_of body (reverse ls); leaving = false } }) out.0 in
        goes-out plan (path_of i) m (record { rank = l.rank; left = statements_left (block_inside body (reverse rest)) l.cursor }) (levels_of body (reverse rest)) levels leaves
        ∙ ap (λ (p : List ℕ). moved (Closes p ∷ []) next) place
        ∙ ap (λ (n : Machine). moved (Closes (l.trail.path ++ l.rank ∷ []) ∷ []) n) (sym machine)

    out-scopes : (new : InstanceParts) → IsOut new → open_scopes new ≡ reverse rest ++ scopes_of (reverse i.below.items)
    out-scopes new out =
        ap (λ (x : InstanceParts). open_scopes x) out.1 ∙ ap (λ (ls : List Level). reverse ls ++ scopes_of (reverse i.below.items)) out.0

    out-instance : (new : InstanceParts) → IsOut new → IsInstance plan (record i { trail = l.trail; rank = l.rank + 1; leaving = false; top = record i.top { levels = new.top.levels; cursor = l.cursor } })
    out-instance new out =
        let few = h.few in
        let fits = rank-fits in
        let within = h.strand.within in
        let scopes = ap (λ (ls : List Level). reverse ls ++ scopes_of (reverse i.below.items)) out.0 in
        let was : ranks_after (open_scopes i) ≡ l.rank + 1 + ranks_after (reverse rest ++ scopes_of (reverse i.below.items)) = ap (λ (ls : List Level). ranks_after ls) opened in
        let is : ranks_after (reverse new.top.levels.items ++ scopes_of (reverse i.below.items)) ≡ ranks_after (reverse rest ++ scopes_of (reverse i.below.items)) = ap (λ (ls : List Level). ranks_after ls) scopes in
        let left : (if i.leaving then 0 else i.rank) ≡ 0 = ap (λ (b : Bool). if b then 0 else i.rank) leaves in
        let longer = ap (λ (p : List ℕ). length p) stands.0 ∙ length-append l.trail.path (l.rank ∷ []) in
        record {
          strand = record { fits = stands.1; within = omega (arith, within, longer); few = omega (arith, fits) };
          few = omega (arith, few, was, is, left);
          around = subst (λ (ls : List Level). AreAround plan ls l.trail.path) (sym scopes) stands.2;
          leaving = λ e. absurd (cc);
          named = top-named plan i (record i { trail = l.trail; rank = l.rank + 1; leaving = false; top = record i.top { levels = new.top.levels; cursor = l.cursor } }) refl refl refl refl h.named;
        }

    pub out-kept : (new : InstanceParts) → IsOut new → IsKept plan i new
    out-kept new out =
        record {
          instance = subst (λ (x : InstanceParts). IsInstance plan x) (sym out.1) (out-instance new out);
          path =
              ap (λ (ls : List Level). path_around ls new.trail.path) (out-scopes new out) ∙ ap (λ (x : InstanceParts). path_around (reverse rest ++ scopes_of (reverse i.below.items)) x.trail.path) out.1
              ∙ sym (ap (λ (ls : List Level). path_around ls i.trail.path) opened);
        }

  -- at the sync at its end
  module _ (some : i.top.levels.items ≡ [] → ⊥) (on : i.leaving ≡ false) where
    abbrev pub joined : InstanceParts
    joined = record i { rank = i.rank + 1; leaving = true; top = record i.top { spawned = false } }

    first : (l : Level) × ((rest : List Level) × (reverse i.top.levels.items ≡ l ∷ rest))
    first = some-first (reverse i.top.levels.items) (turned-some i.top.levels.items some)

    pub join-moves : end_move plan (path_of i) (machine_of plan i) (machine_of plan i).top.levels ≡ moved (Emitted (event.Sync (present_of i ++ i.rank ∷ [])) ∷ sync_effects i.top.spawned) (machine_of plan joined)
    join-moves =
        let m = machine_of plan i in
        let body = body_of plan i.top.function in
        joins plan (path_of i) m _ _ (ap (λ (ls : List Level). levels_of body ls) first.1.1) on
        ∙ ap (λ (p : List ℕ). moved (Emitted (event.Sync (p ++ i.rank ∷ [])) ∷ sync_effects i.top.spawned) (machine_of plan joined)) (here-is plan i h)

    pub join-kept : statements_left (statements_of plan i.top) i.top.cursor ≡ [] → IsKept plan i joined
    join-kept none =
        let few = h.few in
        let before : (if i.leaving then 0 else i.rank) ≡ i.rank = ap (λ (b : Bool). if b then 0 else i.rank) on in
        let ranks : ranks_after (open_scopes i) ≡ first.0.rank + 1 + ranks_after (first.1.0 ++ scopes_of (reverse i.below.items)) = ap (λ (ls : List Level). ranks_after (ls ++ scopes_of (reverse i.below.items))) first.1.1 in
        record {
          instance = record {
            strand = record { fits = h.strand.fits; within = h.strand.within; few = omega (arith, few, before, ranks) };
            few = omega (arith, few);
            around = h.around;
            leaving = λ e. (none, some);
            named = top-named plan i joined refl refl refl refl h.named;
          };
          path = refl;
        }

-- Into a scope

scope-there : (body : List Stmt) (c : Cursor) (st : Stmt) (block : List Stmt) → IsAfterStatement body c st → out-Act (out-Stmt st).act ≡ act.Scope block → scope_after body c ≡ block
scope-there body c st block after is = ap (λ (s : Option Stmt). scope_at s) after.there ∙ ap (λ (a : Act-F Act Stmt). scope_of a) is

module _ (i new : InstanceParts) (inner : Trail) where
  -- where the block of a scope begins
  abbrev pub Begins : Type 0
  Begins =
      (new.top.levels.items ≡ i.top.levels.items ++ record { trail = i.trail; rank = i.rank; cursor = i.top.cursor } ∷ [])
      × ((body : List Stmt) → statements_left body new.top.cursor ≡ body)
      × (new ≡ record i { trail = inner; rank = 0; top = record i.top { levels = new.top.levels; cursor = new.top.cursor } })

  abbrev last : Level
  last = record { trail = i.trail; rank = i.rank; cursor = i.top.cursor }

  in-turned : Begins → reverse new.top.levels.items ≡ last ∷ reverse i.top.levels.items
  in-turned b = ap (λ (ls : List Level). reverse ls) b.0 ∙ turned i.top.levels.items last

  pub in-scopes : Begins → open_scopes new ≡ last ∷ open_scopes i
  in-scopes b = ap (λ (x : InstanceParts). open_scopes x) b.2 ∙ ap (λ (ls : List Level). ls ++ scopes_of (reverse i.below.items)) (in-turned b)

  pub goes-in : (plan : PlanView) → Begins → FitsGamma plan.gamma inner → inner.path ≡ present_of i ++ i.rank ∷ [] → length (present_of i) + 1 < length plan.gamma → GoesIn plan i new
  goes-in plan b fits path within =
      let trail = ap (λ (x : InstanceParts). x.trail) b.2 in
      let longer = ap (λ (p : List ℕ). length p) (ap (λ (t : Trail). t.path) trail ∙ path) ∙ length-append (present_of i) (i.rank ∷ []) in
      record {
        fits = subst (λ (t : Trail). FitsGamma plan.gamma t) (sym trail) fits;
        path = ap (λ (t : Trail). t.path) trail ∙ path;
        within = omega (arith, within, longer);
        scopes = in-scopes b;
        rank = ap (λ (x : InstanceParts). x.rank) b.2;
        steps = ap (λ (x : InstanceParts). x.steps) b.2;
        leaving = ap (λ (x : InstanceParts). x.leaving) b.2;
      }

  pub in-moves : (plan : PlanView) (st : Stmt) (block : List Stmt) → Begins → IsAfterStatement (statements_of plan i.top) i.top.cursor st → out-Act (out-Stmt st).act ≡ act.Scope block → length (present_of i) + 1 < plan.limits.depth →
      acted plan (present_of i) (machine_of plan i) st (act.Scope block) ≡ moved (Opens (present_of i ++ i.rank ∷ []) ∷ []) (machine_of plan new)
  in-moves plan st block b after is deep =
      let m = machine_of plan i in
      let body = body_of plan i.top.function in
      let starts = b.1 (block_inside body (reverse new.top.levels.items)) in
      let text = ap (λ (ls : List Level). block_inside body ls) (in-turned b) ∙ scope-there (statements_of plan i.top) i.top.cursor st block after is in
      let levels = ap (λ (ls : List Level). levels_of body ls) (in-turned b) in
      let machine : machine_of plan new ≡ record m { rank = 0; top = record m.top { left = block; levels = record { rank = m.rank; left = m.top.left } ∷ m.top.levels } } =
      ap (λ (x : InstanceParts). machine_of plan x) b.2
      ∙ ap (λ (left : List Stmt). record m { rank = 0; top = record m.top { left = left; levels = levels_of body (reverse new.top.levels.items) } }) (starts ∙ text)
      ∙ ap (λ (ls : List meaning.Level). record m { rank = 0; top = record m.top { left = block; levels = ls } }) levels in
      scope plan (present_of i) m st block (is_below (length (present_of i) + 1) plan.limits.depth deep)
      ∙ ap (λ (n : Machine). moved (Opens (present_of i ++ i.rank ∷ []) ∷ []) n) (sym machine)
