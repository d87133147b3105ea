-- `open` has the pointer and the allocator of `into_raw_with_allocator`.
use Rattle.rart_c.proofs.Steps.{◌≡◌, [], ◌∷◌, ◌++◌, refl, ap, ◌∙◌, Goes-blank, fm, proved_at, leaves, box_out, box_in, ftrue, flft, emp, id⊢, fact, fact_i, tables, RawPtr, no, param, bounded, param_laws, RattleType, owns, Ptr, block_ptr, ptr_val, types_at, plain, nothing, only, heard, Tuple, calls_at, Lasts, lasts, triple_of, Stays, stay_dropped, walk_of, inst_fn, a_type, dcons, dnil, Val, vptr, WpFn, alloc_all, pass_all, free_all, look_at, get, get_in, sets, lands_as, ‵, raw, ◌⊛◌, some, later, prop, ◌$◌, ◌∵◌, !, qed, by, move, keep, drop, split, split3, join, fsplit, fjoin, pick, regoal, use0, use1, await, rewrite, agg, sub, whole, stop, fld, of_opd, no_more, and_then, returns, enter}
use Rattle.rart_c.proofs.Parts.{boxed, at_a_block, closes}
use Rattle.rart_c.proofs.Pointers.{pair, apart, pair_good}
use Rattle.std_alloc.proofs.BoxSteps.Form as box
use Rattle.std_alloc.proofs.boxed.Box.into_raw_with_allocator.Met.{met}
use Rattle.std_alloc.specs.contracts.boxed.Box.into_raw_with_allocator as callee
use Rattle.rart_c.specs.contracts.unboxed.Unboxed.open as f
use Rattle.rart_c.proofs.unboxed.Unboxed.open.Statement.{statement}
use Rattle.rart_c.proofs.unboxed.Unboxed.open.Code as code

pub open_spec : {M : Type 1} → statement M
open_spec 𝓤 𝓛 𝓜 𝓡 wired T A LT LA g d dx dd allocator glue glued =
    let R : RattleType = param 0 T in let Z : RattleType = param 1 A in
    let LZ = param_laws 1 A LA in
    let E : box.Bx = record {
      row = T;
      laws = LT;
      al = record
          { row = A; laws = LA; g = g; d = d; drops = dd };
    } in
    let En = f.ended T A g d dx dd in let c = f.clauses T A g d dx dd 𝓛 𝓜.mem 𝓡.returns in
    let inst = bounded (a_type ∷ a_type ∷ []) (T, (A, tt)) (dcons d (dcons dx (dcons dd dnil))) in
    let fn = inst_fn inst code.function in let 𝓣 = tables 𝓤 𝓛.H 𝓜 𝓡 𝓡.env in
    let stayed : Stays En.signature.params En.kept = (stay_dropped (plain (λ _. box.B E)) no, tt) in
    let W = walk_of 𝓛 En stayed c in
    let Called = triple_of 𝓛 (callee.signature T A g d dd dx)
    (callee.spec T A g d dd dx 𝓛 𝓜.mem 𝓡.returns) in
    proved_at 𝓛 En stayed c 𝓜 𝓡 (Goes-blank 𝓛 2 (plain (λ _. box.B E)) no (λ κs x w. tt), tt)
    (f.Key.name inst) fn (code.unfolded 𝓤 𝓛.H 𝓜 𝓡 wired (T, (A, tt)) d dx dd) (λ z are.
    let κs = z.0.0 in let qs = z.0.1 in let v = z.0.3.0 in let a = v.alloc in
    let tokens = ‵ (flft κs.0 qs.0) ⊛ ‵ (flft κs.1.0 qs.1.0) ⊛ ‵ ftrue in
    qed 𝓛 ((tokens ⊛ ‵ (owns (types_at En.signature.params κs) z.0.3 z.0.4))
    ∷ raw ((c κs z.0.3).requires z.1) ∷ []) ∵ split ! $ move ! (1 ∷ []) $ fsplit ! $
    box_out E ! v z.0.4.0 (λ b o h at is fits. box_in E ! v b o v.value at refl $
    let w : Val = pair (vptr b o) h in let good = pair_good Z LZ g (block_ptr b o) h fits tt in
    let y : Called.Ghost = ((κs, qs, tt, (v, tt), (w ∷ [], tt)), tt) in
    let Both = Tuple (RawPtr ∷ Z ∷ []) in
    -- what the callee wants: the tokens, the box, what `open` asks for, which is the same
    fjoin ! $ move ! (1 ∷ 0 ∷ []) $ join ! $ join ! $ use1 𝓛 (raw (Called.pre y)) (id⊢ 𝓤 _) $
    regoal ! (λ us. prop (WpFn 𝓤 𝓛.H 𝓣.C 𝓣.Λ fn (us ++ []) (W.post z))) is refl $
    enter ! _ _ _ _ _ $ alloc_all ! (λ l. pass_all ! refl (good, tt) $
    sets ! (of_opd ! (get ! refl)) refl good $
    calls_at ! (fm 𝓛 𝓜 𝓡) Called
    (met 𝓤 𝓛 𝓜 𝓡 (code.calls-std_alloc::boxed::Box::into_raw_with_allocator 𝓡.env wired) T A LT
    LA g d dd dx allocator glued glue)
    y (and_then ! (get ! refl) (no_more !)) (λ u.
    use1 𝓛 (later (some (λ (r : Ptr × A.Denot). (tokens ⊛ ‵ (Both.own_val r (u ∷ []))) ⊛
    some (λ (ws : Lasts (callee.ended T A g d dd dx) κs y.0.3). ‵ (lasts
    (callee.ended T A g d dd dx) κs y.0.3 ws) ⊛
    (raw (fact 𝓤 (r.1 ≡ a)) ⊛ ‵ (boxed R Z LZ g a r.0 v.value)))))) (id⊢ 𝓤 _) $
    await ! tt $ pick ! (λ r. split ! $ move ! (1 ∷ []) $ pick ! (λ _. split3 ! $ drop ! $
    heard ! (r.1 ≡ a) (λ same.
    at_a_block R Z LZ g ! a r.0 v.value (λ b' o' at'.
    move ! (1 ∷ []) $ split ! $ move ! (1 ∷ []) $ apart Z LZ g ! r.0 r.1 (u ∷ []) (λ h' is' fits'.
    rewrite ! 0 (λ (x : A.Denot). ‵ (A.own_val x (h' ∷ []))) same refl $
    let made = pair_good Z LZ g (block_ptr b' o') h' fits' tt in
    lands_as ! (ap only (is' ∙ ap (λ p. pair (ptr_val p) h' ∷ []) at')) refl made $
    sets ! (of_opd ! (get_in ! (fld ! refl (stop !)) (sub ! 0 refl (whole !)))) refl (tt, tt) $
    sets ! (of_opd ! (get_in ! (fld ! refl (stop !)) (sub ! 1 refl (whole !)))) refl fits' $
    sets ! (of_opd ! (get ! refl)) refl fits' $
    sets ! (agg ! (and_then ! (get ! refl) (and_then ! (get ! refl) (no_more !)))) refl made $
    move ! (2 ∷ 0 ∷ []) $ closes R Z LZ g ! b' o' h' a v.value $
    use0 𝓛 (raw (fact 𝓤 (v.value ≡ v.value))) (fact_i 𝓤 (v.value ≡ v.value) (emp 𝓤) refl) $
    nothing ! $ nothing ! $ fjoin ! $
    returns ! (look_at ! 0 refl) $ free_all ! refl $ keep ! (3 ∷ 0 ∷ 2 ∷ 1 ∷ []) $
    by ! (leaves 𝓛 En stayed c z (pair (vptr b' o') h')
    (record { at = block_ptr b' o'; alloc = a; value = v.value }) ((tt, (tt, tt)), tt) (
      tt,
      tt,
    )))))))))))
