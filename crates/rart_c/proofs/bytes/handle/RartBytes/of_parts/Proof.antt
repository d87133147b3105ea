-- `of_parts` keeps both fields, the pointer under another type.
use Rattle.rart_c.proofs.Steps.{◌≡◌, [], ◌∷◌, ◌++◌, refl, proved_at, leaves, ghosts, ftrue, emp, fact, fact_i, tables, yes, RattleType, owns, block_ptr, types_at, plain, nothing, Stays, stay_dropped, walk_of, Goes-dropped, vptr, WpFn, alloc_all, pass_all, free_all, look_at, get, get_in, sets, ‵, raw, ◌⊛◌, prop, ◌$◌, ◌∵◌, !, qed, by, move, keep, split, fsplit, fjoin, regoal, use0, agg, sub, whole, stop, fld, of_opd, no_more, and_then, returns, enter}
use Rattle.rart_c.proofs.Handles.{Heap, Kept, heap_good}
use Rattle.rart_c.proofs.Pointers.{pair, pair_good, together}
use Rattle.rart_c.proofs.Parts.{Parts, opens}
use Rattle.rart_c.specs.contracts.bytes.value.Bytes.{the_row as Value}
use Rattle.rart_c.specs.contracts.bytes.value.BytesClone.TheImpl.{ghosts as clones}
use Rattle.rart_c.specs.contracts.bytes.handle.RartBytes.of_parts as f
use Rattle.rart_c.proofs.bytes.handle.RartBytes.of_parts.Statement.{statement}
use Rattle.rart_c.proofs.bytes.handle.RartBytes.of_parts.Code as code

abbrev From : RattleType
From = Parts (Kept Value clones) Heap heap_good ghosts

abbrev stayed : Stays f.ended.signature.params f.ended.kept
stayed = (stay_dropped (plain (λ _. From)) yes, tt)

pub of_parts_spec : {M : Type 1} → statement M
of_parts_spec 𝓤 𝓛 𝓜 𝓡 wired =
    let c = f.clauses 𝓛 𝓜.mem 𝓡.returns in let W = walk_of 𝓛 f.ended stayed c in
    let 𝓣 = tables 𝓤 𝓛.H 𝓜 𝓡 𝓡.env in
    proved_at 𝓛 f.ended stayed c 𝓜 𝓡 (Goes-dropped 𝓛 0 (plain (λ _. From)) yes (λ κs x w. refl), tt)
    f.Key.name code.function (code.unfolded 𝓤 𝓛.H 𝓜 𝓡 wired) (λ z are. let d = z.0.3.0 in
    qed 𝓛 ((‵ ftrue ⊛ ‵ (owns (types_at f.ended.signature.params z.0.0) z.0.3 z.0.4))
    ∷ raw ((c z.0.0 z.0.3).requires z.1) ∷ []) ∵ split ! $ move ! (1 ∷ []) $ fsplit ! $
    opens (Kept Value clones) Heap heap_good ghosts ! d z.0.4.0 (λ b o h at is fits.
    let good = pair_good Heap heap_good ghosts (block_ptr b o) h fits tt in
    regoal ! (λ us. prop (WpFn 𝓤 𝓛.H 𝓣.C 𝓣.Λ code.function (us ++ []) (W.post z))) is refl $
    enter ! _ _ _ _ _ $ alloc_all ! (λ l. pass_all ! refl (good, tt) $
    sets ! (of_opd ! (get_in ! (fld ! refl (stop !)) (sub ! 0 refl (whole !)))) refl (tt, tt) $
    sets ! (of_opd ! (get_in ! (fld ! refl (stop !)) (sub ! 1 refl (whole !)))) refl fits $
    sets ! (agg ! (and_then ! (get ! refl) (and_then ! (get ! refl) (no_more !)))) refl good $
    move ! (1 ∷ 0 ∷ []) $
    together Heap heap_good ghosts ! (block_ptr b o) d.alloc h $ fjoin ! $
    use0 𝓛 (raw (fact 𝓤 (d.value ≡ d.value))) (fact_i 𝓤 (d.value ≡ d.value) (emp 𝓤) refl) $
    nothing ! $ nothing ! $ fjoin ! $
    returns ! (look_at ! 0 refl) $ free_all ! refl $ keep ! (4 ∷ 0 ∷ 2 ∷ 1 ∷ []) $
    by ! (leaves 𝓛 f.ended stayed c z (pair (vptr b o) h)
    (record { at = block_ptr b o; alloc = d.alloc; shows = d.value }) (tt, tt) (tt, tt)))))
