-- Frames whose variables are those of their functions.
use Rattle.std.proofs.Common.{◌≡◌, ℕ, zero, suc, ◌<◌, true, Bool, ◌&&◌, List, [], ◌∷◌, ◌++◌, Option, Some, None, All, map, option_map, get_or, length, reverse, set, refl, sym, ap, subst, ◌∙◌}
use Rattle.std.proofs.lemmas.Bool.{and_parts}
use Rattle.std.proofs.lemmas.List.{get_or_default, map-append, reverse-append}
use Rattle.std.proofs.lemmas.List.Elements.{All-cons, All-get_or, All-head, All-pop, All-push, All-same, All-set, All-tail}
use Rattle.script_check.specs.Slots.{every_in, every_in_block, every_in_target, finds_callee, finds_in, has_slot, stand_from, table_of_slots, variable_names}
use Rattle.script_grammar.specs.declared.tree.Function.{Function}
use Rattle.script_grammar.specs.declared.tree.Name.{Name}
use Rattle.serial_meaning.specs.Functions.{function_at}
use Rattle.serial_meaning.specs.Plan.{PlanView, functions_of}
use Rattle.strand_meaning.specs.Found.{FindsTargetIn, variables_in}
use Rattle.strand_values.specs.Environments.{FindsExpression}
use Rattle.strand_moves.specs.declared.frame.Frame.{Frame}
use Rattle.strand_moves.specs.declared.instance_parts.InstanceParts.{InstanceParts}
use Rattle.strand_moves.specs.Found.{AreSlots, FindsTarget}
use Rattle.strand_moves.specs.InstanceParts.{AreNamed, IsNamed, IsNamedIn, KeepsNames, TargetsAreNamed}
use Rattle.strand_meaning.proofs.FoundTargets.LeftStatements.{one-of}
use Rattle.strand_moves.proofs.Statements.Naming.{same-named}

-- Targets

module _ (plan : PlanView) where
  abbrev table : List ℕ
  table = table_of_slots (functions_of plan)

  -- a target that is found is named
  pub target-named : (slots : List ℕ) (caller : Frame) (target : Option Name) → AreSlots slots plan → FindsTarget slots caller.env target → IsNamedIn plan caller target
  target-named slots caller target all h = subst (λ (t : List ℕ). FindsTarget t caller.env target) all.table h

  -- what is found in a function is found in its frames
  pub target-found : (a : Frame) (target : Option Name) → IsNamed plan a → FindsTargetIn plan target a.function → FindsTarget table a.env target
  target-found a target is h =
      let names : variables_in (function_at (functions_of plan) a.function) ≡ a.env.names = ap variables_in is.of_plan ∙ sym is.names in
      subst (λ (ns : List (List ℕ)). every_in_target (has_slot table ns) target ≡ true) names h

-- what targets are told of a frame
abbrev tie : Frame → Option Name × List (List ℕ)
tie a = (a.target, a.env.names)

ties-same : (plan : PlanView) (target : Option Name) (xs ys : List Frame) → map tie xs ≡ map tie ys → TargetsAreNamed plan target xs → TargetsAreNamed plan target ys
ties-same plan target [] [] e h = tt
ties-same plan target [] (y ∷ ys) e h = absurd (cc)
ties-same plan target (x ∷ xs) [] e h = absurd (cc)
ties-same plan target (x ∷ xs) (y ∷ ys) e h =
    let first : tie x ≡ tie y = cc in
    let rest : map tie xs ≡ map tie ys = cc in (
      subst (λ (ns : List (List ℕ)). every_in_target (has_slot (table plan) ns) target ≡ true) (ap (λ (t : Option Name × List (List ℕ)). t.1) first) h.0,
      ties-same plan y.target xs ys rest (subst (λ (t : Option Name). TargetsAreNamed plan t xs) (ap (λ (t : Option Name × List (List ℕ)). t.0) first) h.1),
    )

set-tie : (xs : List Frame) (h : ℕ) (a : Frame) → tie a ≡ tie (get_or xs h a) → map tie (set xs h a) ≡ map tie xs
set-tie [] h a e = refl
set-tie (x ∷ xs) zero a e = ap (λ (t : Option Name × List (List ℕ)). t ∷ map tie xs) e
set-tie (x ∷ xs) (suc h) a e = ap (λ (ts : List (Option Name × List (List ℕ))). tie x ∷ ts) (set-tie xs h a e)

turned : (xs : List Frame) → map tie (reverse xs) ≡ reverse (map tie xs)
turned [] = refl
turned (x ∷ xs) =
    ap (map tie) (reverse-append (x ∷ []) xs) ∙ map-append tie (reverse xs) (x ∷ [])
    ∙ ap (λ (ts : List (Option Name × List (List ℕ))). ts ++ tie x ∷ []) (turned xs) ∙ sym (reverse-append (tie x ∷ []) (map tie xs))

turned-ties : (xs ys : List Frame) → map tie xs ≡ map tie ys → map tie (reverse xs) ≡ map tie (reverse ys)
turned-ties xs ys e = turned xs ∙ ap reverse e ∙ sym (turned ys)

-- Frames

module _ (plan : PlanView) where
  pub innermost-named : (i : InstanceParts) → AreNamed plan i → IsNamed plan i.top
  innermost-named i h = All-head (IsNamed plan) i.top i.below.items h.each

  -- nothing changed
  pub still-named : (old new : InstanceParts) → new ≡ old → KeepsNames plan old new
  still-named old new e h = subst (λ (x : InstanceParts). AreNamed plan x) (sym e) h

  pub one-below-named : (i : InstanceParts) → AreNamed plan i → (h : ℕ) (a : Frame) → h < length i.below.items → a ≡ get_or i.below.items h a → IsNamed plan a
  one-below-named i all h a within there = subst (IsNamed plan) (sym there) (All-get_or (IsNamed plan) i.below.items h a within (All-tail (IsNamed plan) i.top i.below.items all.each))

  -- one of those below is changed
  module _ (i new : InstanceParts) (h : ℕ) (old a : Frame) (within : h < length i.below.items) (there : old ≡ get_or i.below.items h old) (function : a.function ≡ old.function) (target : a.target ≡ old.target) (names : a.env.names ≡ old.env.names) where
    its-tie : tie a ≡ tie (get_or i.below.items h a)
    its-tie =
        ap (λ (t : Option Name). (t, a.env.names)) target ∙ ap (λ (ns : List (List ℕ)). (old.target, ns)) names
        ∙ ap tie (there ∙ get_or_default i.below.items h old a within)

    pub named-set : new.top ≡ i.top → new.below.items ≡ set i.below.items h a → KeepsNames plan i new
    named-set top below all =
        let is : IsNamed plan a = same-named plan old a function names (one-below-named i all h old within there) in
        record {
          each =
              All-cons (IsNamed plan) new.top new.below.items (subst (IsNamed plan) (sym top) (innermost-named i all))
              (All-same (IsNamed plan) new.below.items (set i.below.items h a) below (All-set (IsNamed plan) i.below.items h a is (All-tail (IsNamed plan) i.top i.below.items all.each)));
          targets =
              subst (λ (t : Frame). TargetsAreNamed plan t.target (reverse new.below.items)) (sym top)
              (ties-same plan i.top.target (reverse i.below.items) (reverse new.below.items)
              (turned-ties i.below.items new.below.items (sym (ap (map tie) below ∙ set-tie i.below.items h a its-tie))) all.targets);
        }

  -- one frame more
  pub named-begun : (old new : InstanceParts) → new.below.items ≡ old.below.items ++ old.top ∷ [] → IsNamed plan new.top → IsNamedIn plan old.top new.top.target → KeepsNames plan old new
  named-begun old new below is target h =
      record {
        each =
            All-cons (IsNamed plan) new.top new.below.items is
            (All-same (IsNamed plan) new.below.items (old.below.items ++ old.top ∷ []) below (All-push (IsNamed plan) old.below.items old.top (All-tail (IsNamed plan) old.top old.below.items h.each) (innermost-named old h)));
        targets = subst (TargetsAreNamed plan new.top.target) (sym (ap reverse below ∙ reverse-append old.below.items (old.top ∷ []))) (target, h.targets);
      }

  -- those below one that ends
  module _ (i : InstanceParts) (h : AreNamed plan i) (rest : List Frame) (caller : Frame) (there : i.below.items ≡ rest ++ caller ∷ []) where
    below-named : All (IsNamed plan) rest × IsNamed plan caller
    below-named = All-pop (IsNamed plan) i.below.items rest (Some caller) there (All-tail (IsNamed plan) i.top i.below.items h.each)

    caller-named : IsNamed plan caller
    caller-named = below-named.1

    targets-below : IsNamedIn plan caller i.top.target × TargetsAreNamed plan caller.target (reverse rest)
    targets-below = subst (TargetsAreNamed plan i.top.target) (ap reverse there ∙ reverse-append rest (caller ∷ [])) h.targets

    -- its value goes to a variable of the caller's, if to any
    pub value-named : IsNamedIn plan caller i.top.target
    value-named = targets-below.0

    pub named-ended : (new : InstanceParts) → new.top.function ≡ caller.function → new.top.target ≡ caller.target → new.top.env.names ≡ caller.env.names → new.below.items ≡ rest → AreNamed plan new
    named-ended new function target names below =
        record {
          each =
              All-cons (IsNamed plan) new.top new.below.items (same-named plan caller new.top function names caller-named) (All-same (IsNamed plan) new.below.items rest below below-named.0);
          targets =
              subst (λ (t : Option Name). TargetsAreNamed plan t (reverse new.below.items)) (sym target)
              (subst (λ (frames : List Frame). TargetsAreNamed plan caller.target (reverse frames)) (sym below) targets-below.1);
        }

-- a function of a plan
module _ (plan : PlanView) (number : ℕ) (f : Function) (there : function_at (functions_of plan) number ≡ Some f) where
  pub own-names : (names : List (List ℕ)) → Some names ≡ option_map variable_names (function_at (functions_of plan) number) → names ≡ variable_names f
  own-names names h = let same : Some names ≡ Some (variable_names f) = h ∙ ap (option_map variable_names) there in cc

  pub own-names-there : None ≡ option_map variable_names (function_at (functions_of plan) number) → ⊥
  own-names-there h = let no = h ∙ ap (option_map variable_names) there in absurd (cc)

  module _ (slots : List ℕ) (all : AreSlots slots plan) where
    abbrev body : Bool
    body = every_in_block (has_slot slots (variable_names f)) (finds_callee (functions_of plan)) f.body

    abbrev text : Bool
    text = body && every_in (has_slot slots (variable_names f)) f.result

    parts : (stand_from 0 (variable_names f) f.params ≡ true) × (text ≡ true)
    parts = and_parts (stand_from 0 (variable_names f) f.params) text (one-of (finds_in slots (functions_of plan)) (functions_of plan) number f all.found there)

    pub params-stand : stand_from 0 (variable_names f) f.params ≡ true
    params-stand = parts.0

    result-named : every_in (has_slot slots (variable_names f)) f.result ≡ true
    result-named = (and_parts body (every_in (has_slot slots (variable_names f)) f.result) parts.1).1

    pub result-found : (a : Frame) → a.env.names ≡ variable_names f → FindsExpression slots a.env f.result
    result-found a names = ap (λ (ns : List (List ℕ)). every_in (has_slot slots ns) f.result) names ∙ result-named

-- a frame of a function of a plan
pub names-of : (plan : PlanView) (a : Frame) → IsNamed plan a → (f : Function) → function_at (functions_of plan) a.function ≡ Some f → a.env.names ≡ variable_names f
names-of plan a is f there =
    let both : Some is.function ≡ Some f = sym is.of_plan ∙ there in
    let same : is.function ≡ f = cc in
    is.names ∙ ap variable_names same
