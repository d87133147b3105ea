-- `empty` is null, at which nothing is owned.
use Rattle.rart_c.proofs.Steps.{◌≡◌, [], ◌∷◌, ◌++◌, refl, lit<, handle_tells, proved_at, leaves, ghosts, ftrue, emp, fact, fact_i, tables, yes, owns, null_ptr, ptr_val, types_at, plain, nothing, Stays, stay_dropped, walk_of, Goes-dropped, WpFn, alloc_all, pass_all, free_all, look_at, get, sets, ‵, raw, ◌⊛◌, prop, ◌$◌, ◌∵◌, !, qed, by, move, keep, split, fsplit, fjoin, regoal, use0, agg, lit, no_more, and_then, returns, enter}
use Rattle.rart_c.proofs.Handles.{Heap, heap_good, nothing_held}
use Rattle.rart_c.proofs.Pointers.{Handle, pair, pair_good, together}
use Rattle.rart_c.specs.Trees.{tree_at}
use Rattle.core.specs.contracts.clone.U64Clone.TheImpl.{ghosts as clones}
use denote.Builtin.{u64 as Value}
use Rattle.rart_c.specs.contracts.handle.RartTree.empty as f
use Rattle.rart_c.proofs.handle.RartTree.empty.Statement.{statement}
use Rattle.rart_c.proofs.handle.RartTree.empty.Code as code

abbrev stayed : Stays f.ended.signature.params f.ended.kept
stayed = (stay_dropped (plain (λ _. Heap)) yes, tt)

pub empty_spec : {M : Type 1} → statement M
empty_spec 𝓤 𝓛 𝓜 𝓡 wired =
    let c = f.clauses 𝓛 𝓜.mem 𝓡.returns in let W = walk_of 𝓛 f.ended stayed c in
    let 𝓣 = tables 𝓤 𝓛.H 𝓜 𝓡 𝓡.env in
    proved_at 𝓛 f.ended stayed c 𝓜 𝓡 (Goes-dropped 𝓛 0 (plain (λ _. Heap)) yes (λ κs x w. refl), tt)
    f.Key.name code.function (code.unfolded 𝓤 𝓛.H 𝓜 𝓡 wired) (λ z are. let a = z.0.3.0 in
    qed 𝓛 ((‵ ftrue ⊛ ‵ (owns (types_at f.ended.signature.params z.0.0) z.0.3 z.0.4))
    ∷ raw ((c z.0.0 z.0.3).requires z.1) ∷ []) ∵ split ! $ move ! (1 ∷ []) $ fsplit ! $
    handle_tells (Handle Heap heap_good ghosts) ! a z.0.4.0 (λ h is fits.
    let good = pair_good Heap heap_good ghosts null_ptr h fits (record { fits = lit< tt }) in
    regoal ! (λ us. prop (WpFn 𝓤 𝓛.H 𝓣.C 𝓣.Λ code.function (us ++ []) (W.post z))) is refl $
    enter ! _ _ _ _ _ $ alloc_all ! (λ l. pass_all ! refl (fits, tt) $
    sets ! (agg ! (and_then ! (lit ! tt) (and_then ! (get ! refl) (no_more !)))) refl good $
    nothing_held Value clones ! a $ move ! (1 ∷ 0 ∷ []) $
    together Heap heap_good ghosts ! null_ptr a h $ fjoin ! $
    use0 𝓛 (raw (fact 𝓤 (tree_at {V = Value.Denot} 0 ≡ tree_at 0))) (fact_i 𝓤
    (tree_at {V = Value.Denot} 0 ≡ tree_at 0) (emp 𝓤) refl) $ nothing ! $ nothing ! $ fjoin ! $
    returns ! (look_at ! 0 refl) $ free_all ! refl $ keep ! (3 ∷ 0 ∷ 2 ∷ 1 ∷ []) $
    by ! (leaves 𝓛 f.ended stayed c z (pair (ptr_val null_ptr) h)
    (record { at = null_ptr; alloc = a; shows = tree_at 0 }) (tt, tt) (tt, tt)))))
