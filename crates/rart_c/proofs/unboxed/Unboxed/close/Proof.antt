-- `close` makes the box of both fields, by `from_raw`.
use Rattle.rart_c.proofs.Steps.{◌≡◌, List, [], ◌∷◌, ◌++◌, refl, sym, ap, subst, Goes-blank, after, fm, Good, proved_at, leaves, box_out, box_in, ftrue, flft, id⊢, ◌⊑◌, fact, tables, no, param, layout, bounded, param_laws, RattleType, owns, block_ptr, types_at, plain, nothing, only, calls_at_last, Lasts, lasts, triple_of, Stays, stay_dropped, walk_of, inst_fn, a_type, dcons, dnil, Val, vptr, WpFn, alloc_all, pass_all, free_all, look_at, get, get_in, sets, lands_last, env, ‵, raw, ◌⊛◌, some, later, prop, at_ret, ◌$◌, ◌∵◌, !, qed, by, move, keep, drop, split, split3, join, fsplit, fjoin, pick, regoal, use1, await, rewrite, feq_i, sub, whole, stop, fld, of_opd, no_more, and_then, first, blocks, exec, returns, enter}
use Rattle.rart_c.proofs.Parts.{Parts, opens}
use Rattle.rart_c.proofs.Pointers.{pair_good}
use Rattle.std_alloc.proofs.BoxSteps.Form as box
use Rattle.std_alloc.proofs.boxed.Box.from_raw.Met.{met}
use Rattle.std_alloc.specs.contracts.boxed.Box.from_raw as callee
use Rattle.rart_c.specs.contracts.unboxed.Unboxed.close as f
use Rattle.rart_c.proofs.unboxed.Unboxed.close.Statement.{statement}
use Rattle.rart_c.proofs.unboxed.Unboxed.close.Code as code

pub close_spec : {M : Type 1} → statement M
close_spec 𝓤 𝓛 𝓜 𝓡 wired T A LT LA g d dx dd allocator glue glued =
    let R : RattleType = param 0 T in let Z : RattleType = param 1 A in
    let LZ = param_laws 1 A LA in
    let E : box.Bx = record {
      row = T;
      laws = LT;
      al = record
          { row = A; laws = LA; g = g; d = d; drops = dd };
    } in
    let B : RattleType = box.B E in let From : RattleType = Parts R Z LZ g in
    let En = f.ended T A g d dx dd in let c = f.clauses T A g d dx dd 𝓛 𝓜.mem 𝓡.returns in
    let inst = bounded (a_type ∷ a_type ∷ []) (T, (A, tt)) (dcons d (dcons dx (dcons dd dnil))) in
    let fn = inst_fn inst code.function in let 𝓣 = tables 𝓤 𝓛.H 𝓜 𝓡 𝓡.env in
    let stayed : Stays En.signature.params En.kept = (stay_dropped (plain (λ _. From)) no, tt) in
    let W = walk_of 𝓛 En stayed c in
    let Called = triple_of 𝓛 (callee.signature T A g d dd)
    (callee.spec T A g d dd 𝓛 𝓜.mem 𝓡.returns) in
    proved_at 𝓛 En stayed c 𝓜 𝓡 (Goes-blank 𝓛 2 (plain (λ _. From)) no (λ κs x w. tt), tt)
    (f.Key.name inst) fn (code.unfolded 𝓤 𝓛.H 𝓜 𝓡 wired (T, (A, tt)) d dx dd) (λ z are.
    let κs = z.0.0 in let qs = z.0.1 in let v = z.0.3.0 in let a = v.alloc in
    let tokens = ‵ (flft κs.0 qs.0) ⊛ ‵ (flft κs.1.0 qs.1.0) ⊛ ‵ ftrue in
    qed 𝓛 ((tokens ⊛ ‵ (owns (types_at En.signature.params κs) z.0.3 z.0.4))
    ∷ raw ((c κs z.0.3).requires z.1) ∷ []) ∵ split ! $ move ! (1 ∷ []) $ fsplit ! $
    opens R Z LZ g ! v z.0.4.0 (λ b o h at is fits.
    let good = pair_good Z LZ g (block_ptr b o) h fits tt in
    let y : Called.Ghost = (
      (
        κs,
        qs,
        tt,
        (a, (block_ptr b o, tt)),
        (
          h ∷ [],
          (
            vptr b o ∷ [],
            tt,
          ),
        ),
      ),
      v.value,
    ) in
    -- of what `close` asks for the callee has the lifetimes' bounds, and what the box owned
    move ! (4 ∷ []) $ use1 𝓛 (raw (fact 𝓤 (κs.0 ⊑ T.lives)) ⊛ raw (fact 𝓤 (κs.1.0 ⊑ A.lives)) ⊛
    ‵ ftrue) (id⊢ 𝓤 _) $
    split3 ! $ move ! (2 ∷ []) $ drop ! $ move ! (1 ∷ 2 ∷ []) $ join ! $ move ! (1 ∷ 0 ∷ []) $
    join ! $
    move ! (2 ∷ []) $ feq_i ! (List Val) (vptr b o ∷ []) (vptr b o ∷ []) refl $ fjoin ! $
    move ! (2 ∷ 0 ∷ []) $ fjoin ! $ move ! (2 ∷ 0 ∷ []) $ join ! $ join ! $
    use1 𝓛 (raw (Called.pre y)) (id⊢ 𝓤 _) $
    regoal ! (λ us. prop (WpFn 𝓤 𝓛.H 𝓣.C 𝓣.Λ fn (us ++ []) (W.post z))) is refl $
    enter ! _ _ _ _ _ $ alloc_all ! (λ l. pass_all ! refl (good, tt) $
    sets ! (of_opd ! (get_in ! (fld ! refl (stop !)) (sub ! 0 refl (whole !)))) refl (tt, tt) $
    sets ! (of_opd ! (get_in ! (fld ! refl (stop !)) (sub ! 1 refl (whole !)))) refl fits $
    first ! $ blocks ! $ sets ! (of_opd ! (get ! refl)) refl fits $
    calls_at_last ! (fm 𝓛 𝓜 𝓡) Called
    (met 𝓤 𝓛 𝓜 𝓡 (code.calls-std_alloc::boxed::Box::from_raw 𝓡.env wired) T A LT LA g d dd
    allocator glued)
    y (and_then ! (get ! refl) (and_then ! (get ! refl) (no_more !))) (λ u.
    use1 𝓛 (later (some (λ (r : B.Denot). (tokens ⊛ ‵ (B.own_val r (u ∷ []))) ⊛
    some (λ (ws : Lasts (callee.ended T A g d dd) κs y.0.3). ‵ (lasts
    (callee.ended T A g d dd) κs y.0.3 ws) ⊛
    (raw (fact 𝓤 (r.value ≡ v.value)) ⊛ raw (fact 𝓤 (r.alloc ≡ a))))))) (id⊢ 𝓤 (Called.post y u)) $
    await ! tt $ pick ! (λ r. split ! $ move ! (1 ∷ []) $ pick ! (λ _. split3 ! $ drop ! $
    move ! (2 ∷ []) $
    split ! $ move ! (1 ∷ []) $
    box_out E ! r (u ∷ []) (λ b' o' h' at' is' fits'. box_in E ! r b' o' r.value at' refl $
    rewrite ! 0 (λ (us : List Val). ‵ (B.own_val r us)) (sym is') refl $
    let made : Good (layout B) u = subst (Good (layout B)) (sym (ap only is')) (pair_good Z LZ g
    (block_ptr b' o') h' fits' tt) in
    lands_last ! refl made $
    exec ! 𝓣.C 𝓣.Λ (env fn.locals l) (after 3 fn.body) (at_ret _ (W.post z)) $
    sets ! (of_opd ! (get ! refl)) refl made $ nothing ! $ nothing ! $ fjoin ! $
    returns ! (look_at ! 0 refl) $ free_all ! refl $ keep ! (2 ∷ 0 ∷ 1 ∷ 3 ∷ []) $
    by ! (leaves 𝓛 En stayed c z u r ((tt, (tt, tt)), tt) (tt, tt)))))))))
