-- `into_parts` compares the pointer with null.
use Rattle.rart_c.proofs.Steps.{◌≡◌, [], ◌∷◌, ◌++◌, refl, ap, ◌∙◌, lit<, after, Good, Some-of, none_of, None, Some, proved_at, leaves, ghosts, and_tt, ftrue, emp, fact, fact_i, tables, yes, layout, RattleType, owns, block_ptr, null_ptr, ptr_val, tests_null, types_at, type_at, plain, nothing, Stays, stay_dropped, walk_of, Goes-dropped, Val, vptr, vcons, vnil, WpFn, alloc_all, pass_all, free_all, look_at, get, get_in, sets, sets_last, env, ‵, raw, ◌⊛◌, prop, at_ret, ◌$◌, ◌∵◌, !, qed, by, move, keep, split, fsplit, fjoin, regoal, use0, use1, live, agg, sub, whole, stop, fld, lit, of_opd, bin, no_more, and_then, first, branches, exec, returns, enter}
use Rattle.rart_c.proofs.Handles.{Heap, Kept, heap_good, either}
use Rattle.rart_c.proofs.Parts.{Parts, closes}
use Rattle.rart_c.proofs.Pointers.{pair, apart, pair_good}
use Rattle.rart_c.specs.Trees.{tree_at}
use Rattle.core.specs.contracts.clone.U64Clone.TheImpl.{ghosts as clones}
use denote.Builtin.{u64 as Value}
use Rattle.rart_c.specs.contracts.handle.RartTree as handle
use Rattle.rart_c.specs.contracts.handle.RartTree.into_parts as f
use Rattle.rart_c.proofs.handle.RartTree.into_parts.Statement.{statement}
use Rattle.rart_c.proofs.handle.RartTree.into_parts.Code as code

abbrev Out : RattleType
Out = Parts (Kept Value clones) Heap heap_good ghosts

abbrev stayed : Stays f.ended.signature.params f.ended.kept
stayed = (stay_dropped (plain (λ _. handle.the_row)) yes, tt)

pub into_parts_spec : {M : Type 1} → statement M
into_parts_spec 𝓤 𝓛 𝓜 𝓡 wired =
    let c = f.clauses 𝓛 𝓜.mem 𝓡.returns in let W = walk_of 𝓛 f.ended stayed c in
    let 𝓣 = tables 𝓤 𝓛.H 𝓜 𝓡 𝓡.env in let Answer : RattleType = type_at f.ended.signature.result
    tt in
    proved_at 𝓛 f.ended stayed c 𝓜 𝓡
    (Goes-dropped 𝓛 0 (plain (λ _. handle.the_row)) yes (λ κs x w. refl), tt)
    f.Key.name code.function (code.unfolded 𝓤 𝓛.H 𝓜 𝓡 wired) (λ z are. let d = z.0.3.0 in
    let x = d.shows in
    qed 𝓛 ((‵ ftrue ⊛ ‵ (owns (types_at f.ended.signature.params z.0.0) z.0.3 z.0.4))
    ∷ raw ((c z.0.0 z.0.3).requires z.1) ∷ []) ∵ split ! $ move ! (1 ∷ []) $ fsplit ! $
    fsplit ! $ apart Heap heap_good ghosts ! d.at d.alloc z.0.4.0 (λ h is fits. move ! (1 ∷ []) $
    either Value clones ! d.alloc d.at x
    (λ null none. let v : Val = live 0 vnil in
    let good : Good (layout Answer) v = (tt, (record { fits = lit< tt }, tt)) in
    regoal ! (λ us. prop (WpFn 𝓤 𝓛.H 𝓣.C 𝓣.Λ code.function (us ++ []) (W.post z)))
    (is ∙ ap (λ p. pair (ptr_val p) h ∷ []) null) refl $
    enter ! _ _ _ _ _ $
    alloc_all ! (λ l. pass_all ! refl (
      pair_good Heap heap_good ghosts null_ptr h fits
          (record { fits = lit< tt }),
      tt,
    ) $
    sets ! (of_opd ! (get_in ! (fld ! refl (stop !)) (sub ! 0 refl (whole !)))) refl (
      tt,
      record { fits = lit< tt },
    ) $
    sets ! (of_opd ! (get_in ! (fld ! refl (stop !)) (sub ! 1 refl (whole !)))) refl fits $
    sets ! (bin ! (get ! refl) (lit ! tt) tt) refl (tt, tt) $ first ! $ branches ! (get ! refl)
    (λ _. sets_last ! (agg ! (and_then ! (lit ! tt) (no_more !))) refl good $
    exec ! 𝓣.C 𝓣.Λ (env code.function.locals l) (after 4 code.function.body) (at_ret _ (W.post z)) $
    sets ! (of_opd ! (get ! refl)) refl good $
    use0 𝓛 (‵ (Answer.own_val None (v ∷ []))) (none_of 𝓛 Out) $
    use0 𝓛 (raw (fact 𝓤 (x ≡ tree_at 0))) (fact_i 𝓤 (x ≡ tree_at 0) (emp 𝓤) none) $ nothing ! $
    nothing ! $ fjoin ! $
    returns ! (look_at ! 0 refl) $ free_all ! refl $ keep ! (5 ∷ 0 ∷ 2 ∷ 1 ∷ []) $
    by ! (leaves 𝓛 f.ended stayed c z v None (tt, tt) (tt, tt)))
    (λ wrong. absurd wrong)))
    (λ b o at testable. let w : Val = pair (vptr b o) h in let v : Val = live 1 (vcons w vnil) in
    let parts : Out.Denot = record { at = block_ptr b o; alloc = d.alloc; value = x } in
    let made = pair_good Heap heap_good ghosts (block_ptr b o) h fits tt in
    let good : Good (layout Answer) v = (
      and_tt _ made.0,
      (
        record { fits = lit< tt },
        (
          made.1,
          tt,
        ),
      ),
    ) in
    regoal ! (λ us. prop (WpFn 𝓤 𝓛.H 𝓣.C 𝓣.Λ code.function (us ++ []) (W.post z)))
    (is ∙ ap (λ p. pair (ptr_val p) h ∷ []) at) refl $
    enter ! _ _ _ _ _ $ alloc_all ! (λ l. pass_all ! refl (made, tt) $
    sets ! (of_opd ! (get_in ! (fld ! refl (stop !)) (sub ! 0 refl (whole !)))) refl (tt, tt) $
    sets ! (of_opd ! (get_in ! (fld ! refl (stop !)) (sub ! 1 refl (whole !)))) refl fits $
    sets ! (bin ! (get ! refl) (lit ! tt) (tests_null (block_ptr b o) testable)) refl (tt, tt) $
    first ! $ branches ! (get ! refl) (λ wrong. absurd wrong) (λ _.
    sets ! (agg ! (and_then ! (get ! refl) (and_then ! (get ! refl) (no_more !)))) refl made $
    sets_last ! (agg ! (and_then ! (lit ! tt) (and_then ! (get ! refl) (no_more !)))) refl good $
    exec ! 𝓣.C 𝓣.Λ (env code.function.locals l) (after 4 code.function.body) (at_ret _ (W.post z)) $
    sets ! (of_opd ! (get ! refl)) refl good $
    closes (Kept Value clones) Heap heap_good ghosts ! b o h d.alloc x $
    use1 𝓛 (‵ (Answer.own_val (Some parts) (v ∷ []))) (Some-of 𝓛 Out parts w) $
    use0 𝓛 (raw (fact 𝓤 (x ≡ x))) (fact_i 𝓤 (x ≡ x) (emp 𝓤) refl) $ nothing ! $ nothing ! $
    fjoin ! $
    returns ! (look_at ! 0 refl) $ free_all ! refl $ keep ! (4 ∷ 0 ∷ 2 ∷ 1 ∷ []) $
    by ! (leaves 𝓛 f.ended stayed c z v (Some parts) (tt, tt) (tt, tt)))))))
