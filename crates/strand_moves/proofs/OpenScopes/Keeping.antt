-- Open scopes, and what moves keep of an instance.
use Rattle.std.proofs.Common.{◌≡◌, ℕ, zero, suc, ◌+◌, ◌<◌, ◌≤◌, ◌^◌, Bool, false, List, [], ◌∷◌, ◌++◌, Option, Result, Ok, Err, IfOk, map, reverse, length, get_or, set, refl, sym, ap, subst, ◌∙◌, arith, if◌then◌else◌}
use Rattle.std.proofs.lemmas.List.{append_assoc, get_or_default, reverse-append}
use Rattle.std.proofs.lemmas.List.Elements.{All-cons, All-nil, All-same}
use Rattle.dotmix.specs.Trails.{FitsGamma}
use Rattle.dotmix.specs.declared.trail.Trail.{Trail}
use Rattle.script_grammar.specs.declared.tree.Stmt.{Stmt}
use Rattle.serial_meaning.specs.Plan.{PlanView}
use Rattle.serial_meaning.specs.declared.event.Fault.{Fault}
use Rattle.serial_meaning.specs.declared.event.FaultKind.{FaultKind}
use Rattle.strand_meaning.specs.Machine.{here_of, inside_of, present}
use Rattle.strand_values.specs.Environments.{EnvironmentView}
use Rattle.strand_values.specs.declared.evaluation_error.EvaluationError as values
use Rattle.strand_values.specs.declared.evaluation_error.EvaluationError.TheVariants as error
use Rattle.strand_moves.specs.declared.frame.Frame.{Frame}
use Rattle.strand_moves.specs.declared.frame.Level.{Level}
use Rattle.strand_moves.specs.declared.instance_parts.InstanceParts.{InstanceParts}
use Rattle.strand_moves.specs.declared.effects.MoveResult.{MoveResult}
use Rattle.strand_moves.specs.Acts.{Costs, GoesIn, KeepsInstance, StaysUnlessMemory, Stays}
use Rattle.strand_moves.specs.InstanceParts.{AreAround, IsInstance, IsNamed, IsStrand, KeepsNames, TargetsAreNamed, frame_of, body_of, levels_of, machine_of, rank_bound, open_scopes, path_around, path_of, present_of, ranks_after, scopes_of}
use Rattle.strand_moves.proofs.Statements.Naming.{top-named}

-- Paths

around-append : (ls rs : List Level) (here : List ℕ) → path_around (ls ++ rs) here ≡ path_around rs (path_around ls here)
around-append [] rs here = refl
around-append (l ∷ ls) rs here = around-append ls rs l.trail.path

module _ (plan : PlanView) where
  around-rest : (ls rs : List Level) (here : List ℕ) → AreAround plan (ls ++ rs) here → AreAround plan rs (path_around ls here)
  around-rest [] rs here h = h
  around-rest (l ∷ ls) rs here h = around-rest ls rs l.trail.path h.2

  inside-levels : (body : List Stmt) (ls rs : List Level) (here : List ℕ) → AreAround plan (ls ++ rs) here → inside_of (path_around ls here) (levels_of body ls) ≡ here
  inside-levels body [] rs here h = refl
  inside-levels body (l ∷ ls) rs here h = ap (λ (p : List ℕ). p ++ l.rank ∷ []) (inside-levels body ls rs l.trail.path h.2) ∙ sym h.0

  present-below : (stack : List Frame) (here : List ℕ) → AreAround plan (scopes_of stack) here → present (path_around (scopes_of stack) here) (map (frame_of plan false) stack) ≡ here
  present-below [] here h = refl
  present-below (a ∷ stack) here h =
      let ls = reverse a.levels.items in
      let out = path_around ls here in
      let path = around-append ls (scopes_of stack) here in
      let rest = ap (λ (p : List ℕ). present p (map (frame_of plan false) stack)) path ∙ present-below stack out (around-rest ls (scopes_of stack) here h) in
      ap (λ (p : List ℕ). inside_of p (levels_of (body_of plan a.function) ls)) rest ∙ inside-levels (body_of plan a.function) ls (scopes_of stack) here h

  -- the present path is that of the machine
  pub here-is : (i : InstanceParts) → IsInstance plan i → here_of (path_of i) (machine_of plan i) ≡ present_of i
  here-is i h = present-below (i.top ∷ reverse i.below.items) i.trail.path h.around

-- Frames whose scopes stay

scopes-last : (xs : List Frame) (x : Frame) → scopes_of (xs ++ x ∷ []) ≡ scopes_of xs ++ (reverse x.levels.items ++ [])
scopes-last [] x = refl
scopes-last (y ∷ xs) x = ap (λ (ls : List Level). reverse y.levels.items ++ ls) (scopes-last xs x) ∙ sym (append_assoc (reverse y.levels.items) (scopes_of xs) (reverse x.levels.items ++ []))

scopes-turned : (x : Frame) (xs : List Frame) → scopes_of (reverse (x ∷ xs)) ≡ scopes_of (reverse xs) ++ (reverse x.levels.items ++ [])
scopes-turned x xs = ap (λ (stack : List Frame). scopes_of stack) (reverse-append (x ∷ []) xs) ∙ scopes-last (reverse xs) x

-- one of them is changed
pub scopes-set : (xs : List Frame) (h : ℕ) (a : Frame) → a.levels.items ≡ (get_or xs h a).levels.items → scopes_of (reverse (set xs h a)) ≡ scopes_of (reverse xs)
scopes-set [] h a e = refl
scopes-set (x ∷ xs) zero a e = scopes-turned a xs ∙ ap (λ (ls : List Level). scopes_of (reverse xs) ++ (reverse ls ++ [])) e ∙ sym (scopes-turned x xs)
scopes-set (x ∷ xs) (suc h) a e =
    scopes-turned x (set xs h a) ∙ ap (λ (ls : List Level). ls ++ (reverse x.levels.items ++ [])) (scopes-set xs h a e) ∙ sym (scopes-turned x xs)

-- What stays

pub same-path : (old new : InstanceParts) → Stays old new → path_of new ≡ path_of old
same-path old new s = ap (λ (ls : List Level). path_around ls new.trail.path) s.scopes ∙ ap (λ (t : Trail). path_around (open_scopes old) t.path) s.trail

going-on : (b : Bool) (n : ℕ) → b ≡ false → (if b then 0 else n) ≡ n
going-on b n e = ap (λ (t : Bool). if t then 0 else n) e

module _ (plan : PlanView) (old new : InstanceParts) (h : IsInstance plan old) (on : old.leaving ≡ false) (s : Stays old new) (kept : KeepsNames plan old new) (less : new.rank + new.steps ≤ old.rank + old.steps) where
  stays-few : rank_bound new < 2 ^ 32
  stays-few =
      let few = h.few in
      let before = going-on old.leaving old.rank on in
      let after = going-on new.leaving new.rank (s.leaving ∙ on) in
      let ranks : ranks_after (open_scopes new) ≡ ranks_after (open_scopes old) = ap (λ (ls : List Level). ranks_after ls) s.scopes in
      omega (arith, few, before, after, ranks, less)

  stays-strand : IsStrand plan new
  stays-strand =
      let few = h.few in
      let before = going-on old.leaving old.rank on in
      record {
        fits = subst (λ (t : Trail). FitsGamma plan.gamma t) (sym s.trail) h.strand.fits;
        within = subst (λ (t : Trail). length t.path < length plan.gamma) (sym s.trail) h.strand.within;
        few = omega (arith, few, before, less);
      }

  pub stays-instance : IsInstance plan new
  stays-instance =
      record {
        strand = stays-strand;
        few = stays-few;
        around = subst (λ (ls : List Level). AreAround plan ls new.trail.path) (sym s.scopes) (subst (λ (t : Trail). AreAround plan (open_scopes old) t.path) (sym s.trail) h.around);
        leaving = λ e. let no = s.leaving ∙ on in absurd (cc);
        named = kept h.named;
      }

  pub keeps-stays : (result : Result MoveResult values.EvaluationError) → KeepsInstance plan old new result
  keeps-stays (Ok move_result) = record { instance = stays-instance; path = same-path old new s }
  keeps-stays (Err (error.Fault kind)) = (record { instance = stays-instance; path = same-path old new s }, s.trail)
  keeps-stays (Err error.Memory) = tt

-- the same where there may have been no memory
pub keeps-where : (plan : PlanView) (old new : InstanceParts) → IsInstance plan old → old.leaving ≡ false → KeepsNames plan old new → new.rank + new.steps ≤ old.rank + old.steps → (result : Result MoveResult values.EvaluationError) → StaysUnlessMemory old new result → KeepsInstance plan old new result
keeps-where plan old new h on kept less (Ok move_result) s = keeps-stays plan old new h on s kept less (Ok move_result)
keeps-where plan old new h on kept less (Err (error.Fault kind)) s = keeps-stays plan old new h on s kept less (Err (error.Fault kind))
keeps-where plan old new h on kept less (Err error.Memory) s = tt

pub stands-still : (old new : InstanceParts) → Stays old new → (result : Result MoveResult values.EvaluationError) → StaysUnlessMemory old new result
stands-still old new s (Ok move_result) = s
stands-still old new s (Err (error.Fault kind)) = s
stands-still old new s (Err error.Memory) = tt

pub stands-same : (old : InstanceParts) (result : Result MoveResult values.EvaluationError) → StaysUnlessMemory old old result
stands-same old result = stands-still old old (record { trail = refl; scopes = refl; leaving = refl }) result

-- after the step of a statement
module _ (plan : PlanView) (old paid : InstanceParts) (n : ℕ) (h : IsInstance plan old) (on : old.leaving ≡ false) (is-paid : paid ≡ record old { steps = n }) (less : n + 1 ≡ old.steps) where
  paid-stays : (new : InstanceParts) → Stays paid new → Stays old new
  paid-stays new s =
      let P : InstanceParts → Type 0 = λ x. Stays x new in
      let t = subst P is-paid s in
      record { trail = t.trail; scopes = t.scopes; leaving = t.leaving }

  paid-costs : (new : InstanceParts) → Costs paid new → new.rank + new.steps ≤ old.rank + old.steps
  paid-costs new c = let P : InstanceParts → Type 0 = λ x. Costs x new in let d = subst P is-paid c in omega (arith, d, less)

  paid-kept : (new : InstanceParts) → KeepsNames plan paid new → KeepsNames plan old new
  paid-kept new kept h = let P : InstanceParts → Type 0 = λ x. KeepsNames plan x new in subst P is-paid kept (top-named plan old (record old { steps = n }) refl refl refl refl h)

  pub keeps-paid : (new : InstanceParts) → KeepsNames plan paid new → Stays paid new → Costs paid new → (result : Result MoveResult values.EvaluationError) → KeepsInstance plan old new result
  keeps-paid new kept s c result = keeps-stays plan old new h on (paid-stays new s) (paid-kept new kept) (paid-costs new c) result

  pub keeps-unless : (new : InstanceParts) → KeepsNames plan paid new → Costs paid new → (result : Result MoveResult values.EvaluationError) → StaysUnlessMemory paid new result → KeepsInstance plan old new result
  keeps-unless new kept c (Ok move_result) s = keeps-paid new kept s c (Ok move_result)
  keeps-unless new kept c (Err (error.Fault kind)) s = keeps-paid new kept s c (Err (error.Fault kind))
  keeps-unless new kept c (Err error.Memory) s = tt

  into-instance : (new : InstanceParts) → KeepsNames plan old new → GoesIn plan (record old { steps = n }) new → IsInstance plan new
  into-instance new kept g =
      let few = h.few in
      let before = going-on old.leaving old.rank on in
      let after = going-on new.leaving new.rank (g.leaving ∙ on) in
      let ranks : ranks_after (open_scopes new) ≡ old.rank + 1 + ranks_after (open_scopes old) = ap (λ (ls : List Level). ranks_after ls) g.scopes in
      let rank = g.rank in
      let steps = g.steps in
      record {
        strand = record { fits = g.fits; within = g.within; few = omega (arith, rank) };
        few = omega (arith, few, before, after, ranks, rank, steps, less);
        around = subst (λ (ls : List Level). AreAround plan ls new.trail.path) (sym g.scopes) (g.path, h.strand.fits, h.around);
        leaving = λ e. let no = g.leaving ∙ on in absurd (cc);
        named = kept h.named;
      }

  keeps-into-at : (new : InstanceParts) → KeepsNames plan old new → (result : Result MoveResult values.EvaluationError) → IfOk result (λ _. GoesIn plan (record old { steps = n }) new) → ((kind : FaultKind) → result ≡ Err (error.Fault kind) → new ≡ record old { steps = n }) → KeepsInstance plan old new result
  keeps-into-at new kept (Ok move_result) g same = record { instance = into-instance new kept g; path = ap (λ (ls : List Level). path_around ls new.trail.path) g.scopes }
  keeps-into-at new kept (Err (error.Fault kind)) g same =
      let s : Stays old new = subst (λ (x : InstanceParts). Stays old x) (sym (same kind refl)) (record { trail = refl; scopes = refl; leaving = refl }) in
      let rank = ap (λ (x : InstanceParts). x.rank) (same kind refl) in
      let steps = ap (λ (x : InstanceParts). x.steps) (same kind refl) in
      keeps-stays plan old new h on s kept (omega (arith, rank, steps, less)) (Err (error.Fault kind))
  keeps-into-at new kept (Err error.Memory) g same = tt

  pub keeps-into : (new : InstanceParts) → KeepsNames plan paid new → (result : Result MoveResult values.EvaluationError) → IfOk result (λ _. GoesIn plan paid new) → ((kind : FaultKind) → result ≡ Err (error.Fault kind) → new ≡ paid) → KeepsInstance plan old new result
  keeps-into new kept result g same =
      let P : InstanceParts → Type 0 = λ x. IfOk result (λ _. GoesIn plan x new) in
      keeps-into-at new (paid-kept new kept) result (subst P is-paid g) (λ kind e. same kind e ∙ is-paid)

-- An instance of which frames were changed, but for their places

module _ (i : InstanceParts) (below : List Frame) (same : scopes_of (reverse below) ≡ scopes_of (reverse i.below.items)) where
  changed-scopes : scopes_of (i.top ∷ reverse below) ≡ open_scopes i
  changed-scopes = ap (λ (ls : List Level). reverse i.top.levels.items ++ ls) same

  pub changed-path : path_around (scopes_of (i.top ∷ reverse below)) i.trail.path ≡ path_of i
  changed-path = ap (λ (ls : List Level). path_around ls i.trail.path) changed-scopes

  pub changed-few : rank_bound i < 2 ^ 32 → (if i.leaving then 0 else i.rank) + i.steps + ranks_after (scopes_of (i.top ∷ reverse below)) < 2 ^ 32
  changed-few few = let ranks = ap (λ (ls : List Level). ranks_after ls) changed-scopes in omega (arith, few, ranks)

  pub changed-around : (plan : PlanView) → AreAround plan (open_scopes i) i.trail.path → AreAround plan (scopes_of (i.top ∷ reverse below)) i.trail.path
  changed-around plan h = subst (λ (ls : List Level). AreAround plan ls i.trail.path) (sym changed-scopes) h

-- An instance before its first move stands inside no scope.
first-scopes : (i : InstanceParts) → i.top.levels.items ≡ [] → i.below.items ≡ [] → open_scopes i ≡ []
first-scopes i none alone = ap (λ (ls : List Level). reverse ls ++ scopes_of (reverse i.below.items)) none ∙ ap (λ (below : List Frame). scopes_of (reverse below)) alone

pub first-path : (i : InstanceParts) → i.top.levels.items ≡ [] → i.below.items ≡ [] → path_of i ≡ i.trail.path
first-path i none alone = ap (λ (ls : List Level). path_around ls i.trail.path) (first-scopes i none alone)

-- an instance before its first move
pub first-sound : (plan : PlanView) (i : InstanceParts) → FitsGamma plan.gamma i.trail → length i.trail.path < length plan.gamma → i.rank ≡ 0 → i.steps < 2 ^ 32 → i.leaving ≡ false → i.top.levels.items ≡ [] → i.below.items ≡ [] → IsNamed plan i.top → IsInstance plan i
first-sound plan i fits within rank steps on none alone named =
    let scopes = first-scopes i none alone in
    let ranks : ranks_after (open_scopes i) ≡ 0 = ap (λ (ls : List Level). ranks_after ls) scopes in
    let here = going-on i.leaving i.rank on in
    record {
      strand = record { fits = fits; within = within; few = omega (arith, rank) };
      few = omega (arith, here, rank, ranks, steps);
      around = subst (λ (ls : List Level). AreAround plan ls i.trail.path) (sym scopes) tt;
      leaving = λ e. absurd (cc);
      named =
          record {
            each = All-cons (IsNamed plan) i.top i.below.items named (All-same (IsNamed plan) i.below.items [] alone (All-nil (IsNamed plan)));
            targets = subst (λ (below : List Frame). TargetsAreNamed plan i.top.target (reverse below)) (sym alone) tt;
          };
    }

-- the innermost has other variables, or took a fault
pub innermost-sound : (plan : PlanView) (i : InstanceParts) (env : EnvironmentView) (faulted : Option Fault) → env.names ≡ i.top.env.names → IsInstance plan i → IsInstance plan (record i { top = record i.top { env = env; faulted = faulted } })
innermost-sound plan i env faulted names h =
    record {
      strand = record { fits = h.strand.fits; within = h.strand.within; few = h.strand.few };
      few = h.few;
      around = h.around;
      leaving = h.leaving;
      named = top-named plan i (record i { top = record i.top { env = env; faulted = faulted } }) refl refl refl names h.named;
    }

-- the scopes of a frame that is replaced by one with the same
pub scopes-replaced : (xs : List Frame) (h : ℕ) (old a : Frame) → h < length xs → old ≡ get_or xs h old → a.levels.items ≡ old.levels.items → scopes_of (reverse (set xs h a)) ≡ scopes_of (reverse xs)
scopes-replaced xs h old a within there same =
    scopes-set xs h a (same ∙ ap (λ (x : Frame). x.levels.items) (there ∙ get_or_default xs h old a within))
