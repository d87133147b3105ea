-- `table_mut` lends the table where there is one, and the handle shows what it leaves.
use Rattle.rart_c.proofs.Steps.{◌≡◌, ℕ, [], ◌∷◌, List, refl, sym, ap, ◌∙◌, lit<, after, Some-of, none_of, None, Some, ghosts, ftrue, fsep, flft, tables, RattleType, Ptr, block_ptr, ptr_val, tests_null, type_at, plain, nothing, Stays, stay_dropped, walk_of, Val, vptr, vcons, vnil, bare, alloc_all, pass_all, free_all, look_at, get, sets, sets_last, env, ‵, ◌⊛◌, some, later, at_ret, ◌$◌, ◌∵◌, !, qed, move, keep, drop, split, split3, join, fsplit, fjoin, fpack, pick, use0, use1, await, rewrite, live, agg, sub, whole, stop, fld, lit, of_opd, bin, no_more, and_then, first, blocks, branches, exec, returns, enter, sem}
use Rattle.rart_c.proofs.Handles.{Heap, Kept, heap_good, either}
use Rattle.rart_c.proofs.Pointers.{Beside, apart, pair, together}
use Rattle.rart_c.specs.Owned.{held}
use Rattle.rart_c.specs.Trees.{Tree, tree_at}
use Rattle.std.proofs.raw_atomic.Walks.{proved}
use Rattle.rart_c.specs.contracts.bytes.value.Bytes.{the_row as Value}
use Rattle.rart_c.specs.contracts.bytes.value.BytesClone.TheImpl.{ghosts as clones}
use base.Fml.{Fml, GName, fres}
use base.Fraction.{full_share}
use base.Logic.{ent, sep}
use denote.Exit.{no}
use denote.Follow.{follows, follows_by, lends_Part}
use denote.Memory.{cell_at, lone, mem, part_at, part_of}
use denote.Ref.{MutBor, MutRef, mut_vals, mut_Tells}
use denote.Signature.{mut_ref_to}
use denote.Steps.{opens, closes}
use denote.Struct.Struct.{Struct}
use denote.Triple.Walked.{Goes-spent_ref, ends_at, says}
use mir.Syntax.{named}
use seplogic.Ra.Ura.{Ura}
use types.ByLocal.{through}
use types.Kit.{done, fsplit3, frame, group, suffices}
use types.Logic.{Logic}
use types.Part.{look_in}
use types.Run.{addr, load, skips, returns_within}
use Rattle.rart_c.specs.contracts.bytes.handle.RartBytes.{the_row as Row}
use Rattle.rart_c.specs.contracts.bytes.handle.RartBytes.table_mut as f
use Rattle.rart_c.proofs.bytes.handle.RartBytes.table_mut.Statement.{statement}
use Rattle.rart_c.proofs.bytes.handle.RartBytes.table_mut.Code as code

abbrev Table : RattleType
Table = Kept Value clones

abbrev stayed : Stays f.ended.signature.params f.ended.kept
stayed = (stay_dropped (mut_ref_to (0 ∷ []) tt (plain (λ _. Row))) no, tt)

module _ {M : Type 1} {𝓤 : Ura M} (𝓛 : Logic 𝓤) (h : Row.Denot) (us : List Val) (g : Val)
    (is : us ≡ pair (ptr_val h.at) g ∷ []) (b o b' o' : ℕ) (at : h.at ≡ block_ptr b' o') where
  abbrev shown_as : Tree Value.Denot → Row.Denot
  shown_as last = record h { shows = last }

  -- all of the handle but the table
  abbrev Rest : Fml
  Rest = fsep (ghosts.dealloc_token h.alloc (bare (lone Table.mir)) (block_ptr b' o'))
      (fsep (Heap.own_val h.alloc (g ∷ [])) (cell_at full_share Row.mir us b o))

  back : (last : Tree Value.Denot)
      → ent 𝓤 (sep 𝓤 (sem 𝓛 ((mem Table).own_at last b' o')) (sem 𝓛 Rest))
      (sem 𝓛 ((mem Row).own_at (shown_as last) b o))
  unfolding part_of
  back last =
      qed 𝓛 (‵ (part_at Table full_share last b' o') ∷ ‵ Rest ∷ []) ∵ move ! (1 ∷ []) $ fsplit ! $
      move ! (1 ∷ []) $ fsplit ! $ move ! (3 ∷ 2 ∷ []) $ fjoin ! $
      rewrite ! 0 (λ (p : Ptr). ‵ (held Value clones h.alloc p last)) (sym at) refl $
      move ! (1 ∷ []) $ together Heap heap_good ghosts ! h.at h.alloc g $
      rewrite ! 0 (λ (vs : List Val). ‵ ((Struct (Beside Heap heap_good ghosts)).own_val (h.at, (h.alloc, tt)) vs)) (sym is) refl $
      fjoin ! $ move ! (1 ∷ 0 ∷ []) $ fjoin ! $
      fpack ! (List Val) (λ vs. fsep (cell_at full_share Row.mir vs b o) (Row.own_val (shown_as last) vs)) us $ done !

pub table_mut_spec : {M : Type 1} → statement M
unfolding follows_by
table_mut_spec 𝓤 𝓛 𝓜 𝓡 wired =
    let c = f.clauses 𝓛 𝓜.mem 𝓡.returns in let W = walk_of 𝓛 f.ended stayed c in
    let 𝓣 = tables 𝓤 𝓛.H 𝓜 𝓡 𝓡.env in
    proved 𝓛 f.ended stayed c 𝓜 𝓡 (Goes-spent_ref 𝓛 1 (0 ∷ []) tt (plain (λ _. Row)), tt)
    f.Key.name code.function (code.unfolded 𝓤 𝓛.H 𝓜 𝓡 wired)
    (λ κs. (mut_vals, tt)) (λ κs. (mut_Tells (named 0) κs.0 Row, tt)) (λ κs qs bounds a _ are.
    let b = a.0.ref_ptr.0 in let o = a.0.ref_ptr.1 in let γ = a.0.ghost_name in let h = a.0.now in
    let vs = mut_vals a.0 in let κ = κs.0 in let q = qs.0 in
    let y : W.Ghost = ((κs, qs, bounds, a, (vs, tt)), tt) in
    let Lent : RattleType = MutRef (named 0) κ Table in
    let Answer : RattleType = type_at f.ended.signature.result κs in
    let Cell = λ (ws : List Val). ‵ (cell_at full_share Row.mir ws b o) in
    let Fields = λ (ws : List Val). ‵ ((Struct (Beside Heap heap_good ghosts)).own_val (h.at, (h.alloc, tt)) ws) in
    qed 𝓛 (((‵ (flft κ q) ⊛ ‵ ftrue) ⊛ ‵ ((MutRef (named 0) κ Row).own_val a.0 vs) ⊛ ‵ ftrue) ∷ ‵ ftrue ∷ []) ∵
    split ! $ split ! $ move ! (2 ∷ []) $ split ! $ keep ! (0 ∷ 2 ∷ []) $
    enter ! _ _ _ _ _ $ alloc_all ! (λ l. pass_all ! refl ((tt, tt), tt) $
    fsplit3 ! $ move ! (1 ∷ 2 ∷ 3 ∷ []) $ opens ! tt Row b o (λ us.
    move ! (1 ∷ []) $ fsplit ! $ apart Heap heap_good ghosts ! h.at h.alloc us (λ g is fits.
    move ! (1 ∷ []) $ either Value clones ! h.alloc h.at h.shows
    (λ null none. let word = is ∙ ap (λ (p : Ptr). pair (ptr_val p) g ∷ []) null in
    -- [the allocator's handle; the cell; the open borrow, in three entries]
    rewrite ! 1 Cell word refl $
    sets ! (of_opd ! (load ! (through ! refl (fld ! refl (stop !))) (look_in ! 1 (sub ! 0 refl (whole !))))) refl (tt, record { fits = lit< tt }) $
    rewrite ! 1 Cell (sym word) refl $
    together Heap heap_good ghosts ! h.at h.alloc g $ rewrite ! 0 Fields (sym is) refl $
    nothing ! $ fpack ! (h.shows ≡ tree_at 0) (λ _. ftrue) none $
    rewrite ! 0 (λ (p : Ptr). ‵ (held Value clones h.alloc p h.shows)) (sym null) refl $
    move ! (1 ∷ []) $ fjoin ! $ move ! (1 ∷ []) $ closes ! tt Row h us b o $
    use1 𝓛 (‵ (fres γ (Row.coded.code h))) (𝓛.names.obs-res γ (Row.coded.code h)) $ move ! (1 ∷ []) $ drop ! $
    -- [what the handle ends as; the share of the lifetime]
    sets ! (of_opd ! (get ! refl)) refl (tt, record { fits = lit< tt }) $
    sets ! (bin ! (get ! refl) (lit ! tt) tt) refl (tt, tt) $
    first ! $ branches ! (get ! refl)
    (λ _. sets ! (agg ! (and_then ! (lit ! tt) (no_more !))) refl (tt, (record { fits = lit< tt }, tt)) $
    use0 𝓛 (‵ (Answer.own_val None (live 0 vnil ∷ []))) (none_of 𝓛 Lent) $
    returns_within ! (W.post y) refl (look_at ! 0 refl) $ free_all ! refl $ keep ! (0 ∷ 2 ∷ 1 ∷ []) $
    suffices ! _ (ends_at 𝓛 f.ended stayed c y (live 0 vnil) None (tt, tt) (tt, tt)) $
    nothing ! $ nothing ! $ fjoin ! $ join ! $ nothing ! $ move ! (2 ∷ 0 ∷ []) $ join ! $ join ! $ frame ! $ says ! none $ done !)
    (λ wrong. absurd wrong))
    (λ b' o' at testable.
    let word = is ∙ ap (λ (p : Ptr). pair (ptr_val p) g ∷ []) at in let there : Val = vptr b' o' in
    -- [the box; the allocator's handle; the cell; the open borrow, in three entries]
    rewrite ! 2 Cell word refl $
    sets ! (of_opd ! (load ! (through ! refl (fld ! refl (stop !))) (look_in ! 2 (sub ! 0 refl (whole !))))) refl (tt, tt) $
    rewrite ! 2 Cell (sym word) refl $
    sets ! (of_opd ! (get ! refl)) refl (tt, tt) $
    sets ! (bin ! (get ! refl) (lit ! tt) (tests_null (block_ptr b' o') testable)) refl (tt, tt) $
    first ! $ branches ! (get ! refl) (λ wrong. absurd wrong) (λ _. skips ! $
    exec ! 𝓣.C 𝓣.Λ (env code.function.locals l) (after 4 code.function.body) (at_ret (env code.function.locals l) (W.post y)) $
    sets ! (of_opd ! (get ! refl)) refl (tt, tt) $ sets ! (of_opd ! (get ! refl)) refl (tt, tt) $
    first ! $ blocks ! $ sets_last ! (addr ! (through ! refl (stop !))) refl (tt, tt) $
    exec ! 𝓣.C 𝓣.Λ (env code.function.locals l) (after 7 code.function.body) (at_ret (env code.function.locals l) (W.post y)) $
    sets ! (of_opd ! (get ! refl)) refl (tt, tt) $
    sets ! (agg ! (and_then ! (lit ! tt) (and_then ! (get ! refl) (no_more !)))) refl (tt, (record { fits = lit< tt }, (tt, tt))) $
    fsplit ! $ move ! (2 ∷ 3 ∷ []) $ fjoin ! $ move ! (2 ∷ 0 ∷ []) $ fjoin ! $
    -- [the rest; the table; the open borrow, in three entries]
    move ! (2 ∷ 3 ∷ 4 ∷ 1 ∷ 0 ∷ []) $ group ! 5 $
    use1 𝓛 (later (some (λ (δ : GName). ‵ (Lent.own_val (record { ref_ptr = (b', o'); ghost_name = δ; now = h.shows }) (there ∷ [])) ⊛ ‵ (flft κ q) ⊛ ‵ (follows Row Table γ δ (shown_as 𝓛 h us g is b o b' o' at)))))
    (lends_Part 𝓛 Row Table (shown_as 𝓛 h us g is b o b' o' at) (named 0) κ q b o b' o' γ (sem 𝓛 (Rest 𝓛 h us g is b o b' o' at)) (back 𝓛 h us g is b o b' o' at) (Row.coded.code h) (Row.coded.code h) h.shows) $
    await ! tt $ pick ! (λ δ.
    let r : MutBor (Tree Value.Denot) = record { ref_ptr = (b', o'); ghost_name = δ; now = h.shows } in
    split3 ! $ use1 𝓛 (‵ (Answer.own_val (Some r) (live 1 (vcons there vnil) ∷ []))) (Some-of 𝓛 Lent r there) $
    returns ! (look_at ! 0 refl) $ free_all ! refl $ keep ! (0 ∷ 1 ∷ 2 ∷ []) $
    suffices ! _ (ends_at 𝓛 f.ended stayed c y (live 1 (vcons there vnil)) (Some r) (tt, tt) (tt, tt)) $
    nothing ! $ nothing ! $ fjoin ! $ join ! $ nothing ! $ move ! (2 ∷ 0 ∷ []) $ join ! $ join ! $ frame ! $ says ! refl $ done !)))))))
