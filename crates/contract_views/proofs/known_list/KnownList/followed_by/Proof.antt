-- `followed_by` makes a value of no bytes, whose items are those of the first list and then those of the second.
use Rattle.std.proofs.Common.{◌++◌}
use Rattle.atomic_table.proofs.Names.{◌≡◌, List, [], ◌∷◌, refl, ap, ◌∙◌, a_type, Val, vstruct, vnil, of_list, inst_fn, SProp, emp, Fml, Is, ‵, raw, ◌⊛◌, ◌$◌, ◌∵◌, !, qed, by, keep, split, fjoin, use0, no_more, and_then, returns, enter, alloc_all, pass_all, free_all, look_at, get, sets, agg, tables, no, RattleType, owns, types_at, plain, nothing, param, layouts, alive, Stays, stay_dropped, walk_of, Goes-dropped, fact, fact_i, makes_shadow}
use denote.Struct.Struct.{Struct}
use denote.Struct.Owning.{shape}
use Rattle.atomic_table.proofs.Walks.{proved, leaves}
use Rattle.atomic_table.proofs.Fields.{token_val}
use Rattle.contract_views.specs.contracts.known_list.KnownList as known_list
use Rattle.contract_views.specs.contracts.known_list.KnownList.followed_by.{ended, clauses}
use Rattle.contract_views.specs.contracts.known_list.KnownList.followed_by.Key.{name as #self}
use Rattle.contract_views.proofs.known_list.KnownList.followed_by.Statement.{statement}
use Rattle.contract_views.proofs.known_list.KnownList.followed_by.Code as code

module _ (R : RattleType) where
  abbrev Bare : RattleType
  Bare = Struct (shape (known_list.the_type R))

  bare_told : (vs : List Val) → Is Bare (tt, tt) vs → vs ≡ token_val ∷ []
  bare_told vs is = is.1.0 ∙ ap (λ (ws : List Val). vstruct (of_list (ws ++ [])) ∷ []) is.1.1.0.1.0

pub followed_by_spec : {M : Type 1} → statement M
followed_by_spec 𝓤 𝓛 𝓜 𝓡 wired T _ =
    let H = 𝓛.H in let 𝓣 = tables 𝓤 H 𝓜 𝓡 𝓡.env in let R : RattleType = param 0 T in let En = ended T in let c = clauses T 𝓛 𝓜.mem 𝓡.returns in
    let inst = layouts (a_type ∷ []) (T, tt) in let fn = inst_fn inst code.function in let closed = code.unfolded 𝓤 H 𝓜 𝓡 wired (T, tt) in let Lr : RattleType = known_list.the_row R in
    let hs : Stays En.signature.params En.kept = (stay_dropped (plain (λ _. Lr)) no, (stay_dropped (plain (λ _. Lr)) no, tt)) in
    proved 𝓛 En hs c 𝓜 𝓡 (Goes-dropped 𝓛 1 (plain (λ _. Lr)) no (λ κs x f. refl), (Goes-dropped 𝓛 1 (plain (λ _. Lr)) no (λ κs x f. refl), tt)) (#self inst) fn closed
    (λ κs. ((λ _. token_val ∷ []), ((λ _. token_val ∷ []), tt))) (λ κs. ((λ x vs so. bare_told R vs so.0), ((λ x vs so. bare_told R vs so.0), tt))) (λ κs qs bounds a gh are.
    let v : Val = token_val in let r : Lr.Denot = record { marker = record {}; items = a.0.items ++ a.1.0.items } in let O : Fml = Lr.own_val r (v ∷ []) in
    let Told : Type 0 = r.items ≡ a.0.items ++ a.1.0.items in
    let y : (walk_of 𝓛 En hs c).Ghost = ((κs, qs, bounds, a, (token_val ∷ [], (token_val ∷ [], tt))), gh) in let Post : Val → SProp 𝓤 = (walk_of 𝓛 En hs c).post y in
    qed 𝓛 ((raw (alive 𝓛 En.signature κs qs) ⊛ ‵ (owns (types_at En.signature.params κs) a y.0.4)) ∷ raw ((c κs a).requires gh) ∷ []) ∵
    split ! $ keep ! (0 ∷ []) $ use0 𝓛 (‵ O) (makes_shadow 𝓛 O ((λ vss. (tt, ((λ uss. (tt, tt)), tt))), tt) (((vstruct vnil ∷ [], tt), (refl, ((tt, (refl, tt)), tt))), tt)) $
    enter ! 𝓣.C 𝓣.Λ fn (token_val ∷ token_val ∷ []) Post $ alloc_all ! (λ l. pass_all ! refl ((tt, (tt, tt)), ((tt, (tt, tt)), tt)) $
    sets ! (agg ! (no_more !)) refl (tt, tt) $ sets ! (agg ! (and_then ! (get ! refl) (no_more !))) refl (tt, (tt, tt)) $
    use0 𝓛 (raw (fact 𝓤 Told)) (fact_i 𝓤 Told (emp 𝓤) refl) $ nothing ! $ nothing ! $ fjoin ! $ nothing ! $ fjoin ! $
    returns ! (look_at ! 0 refl) $ free_all ! refl $ keep ! (3 ∷ 0 ∷ 2 ∷ 1 ∷ []) $ by ! (leaves 𝓛 En hs c y v r (tt, (tt, tt)) (tt, (tt, tt)))))
