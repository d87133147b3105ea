-- `found_of(self.value_mut(key))` by hand, step by step: the call below, what it lent, and then the
-- call that turns its answer.
-- Rows, laws, bounds with their dictionaries and their proofs come in the order of the statement:
-- keys K, values V, prefixes P; then KeyTrait, Eq, PartialEq, Ord, PartialOrd, Partial, Clone, and
-- the drops of K, V and P.
use Rattle.rart_versioned.proofs.ProofSteps.{◌≡◌, ◌+◌, ◌<◌, ◌^◌, Some, [], ◌∷◌, refl, sym, ap, subst, ◌∙◌, proved, GName, ftrue, flft, id⊢, sep, emp, via, fst∗, snd∗, ◌⊑◌, fact, fact_use, fact_i, tables, inst_fn, Args, named, a_type, dcons, dnil, ‵, raw, ◌⊛◌, some, later, ◌$◌, ◌∵◌, !, qed, done, move, drop, use0, use1, split, split3, join, fjoin, suffices, pick, await, rewrite, frame, enter, addr, stop, no_more, and_then, returns, alloc_all, pass_all, free_all, look_at, get, through, sets, lands_as, RefOf, yes, no, follows_if, Is, shows, param, bounded, param_laws, RattleType, mut_vals, mut_Tells, shr_vals, shr_Tells, plain, mut_ref_to, named_lft, type_at, nothing, heard, peeks, calls_at, lasts, Lasts, on_entry, triple_of, framed, Stays, stay_dropped, Goes-dropped, Goes-spent_ref, ends_at}
use mathlib.Core.Option as maybe
use Rattle.std.specs.Prelude.{OnErr, IfErr, IfOk, IsSome}
use Rattle.std.specs.Option.{option_map}
use Rattle.std.proofs.result.Result.TheLaws as Result-laws
use Rattle.std.proofs.option.Option.TheLaws as Option-laws
use Rattle.std.proofs.alloc.AllocError.TheLaws as Err-laws
use Rattle.rart_below.specs.Clones.{ClonesEqual}
use Rattle.rart_versioned.proofs.ProofSteps.{reference-laws}
use Rattle.rart_versioned.proofs.VersionFoundLemmas.{same-name, found-was, refused-there}
use Rattle.rart_versioned.proofs.counted.missing.Missing.TheLaws as Missing-laws
use Rattle.rart_versioned.specs.Lent.{LendsValue, found_name}
use Rattle.rart_versioned.specs.Missing.{Explains, found_value}
use Rattle.rart_maps.specs.Versions.{with_key, value_at}
use Rattle.rart_versioned.specs.contracts.counted.tree.VersionedAdaptiveRadixTree.{the_row}
use Rattle.rart_versioned.specs.contracts.counted.tree.VersionedAdaptiveRadixTree.get_mut_k as f
use Rattle.rart_versioned.proofs.counted.tree.VersionedAdaptiveRadixTree.get_mut_k.Statement.{statement}
use Rattle.rart_versioned.proofs.counted.tree.VersionedAdaptiveRadixTree.get_mut_k.Code as code
use Rattle.rart_versioned.specs.contracts.counted.tree.VersionedAdaptiveRadixTree.value_mut as g
use Rattle.rart_versioned.proofs.counted.tree.VersionedAdaptiveRadixTree.value_mut.Met as g-met
use Rattle.rart_versioned.specs.contracts.counted.missing.found_of as h
use Rattle.rart_versioned.proofs.counted.missing.found_of.Met as h-met

pub get_mut_k_spec : {M : Type 1} → statement M
get_mut_k_spec 𝓤 𝓛 𝓜 𝓡 wired K V P LK LV LP k k-d e e-d q q-d o o-d r r-d p p-d v v-d x-d y-d z-d mk
    me mq mo mr mp mv mx my mz =
    let ended = f.ended K V P k k-d e e-d q q-d o o-d r r-d p p-d v v-d x-d y-d z-d in
    let R : RattleType = the_row (param 0 K) (param 1 V) (param 2 P) k q o r p v in
    let T : RattleType = param 1 V in
    let Key = RefOf (1 ∷ []) tt (plain (λ _. param 0 K)) (λ _. tt) in
    let stayed : Stays ended.signature.params ended.kept =
    (stay_dropped (mut_ref_to (0 ∷ []) tt (plain (λ _. R))) no, (stay_dropped Key yes, tt)) in
    let args : Args =
    bounded (a_type ∷ a_type ∷ a_type ∷ []) (K, (V, (P, tt)))
    (dcons k-d (dcons e-d (dcons q-d
    (dcons o-d (dcons r-d (dcons p-d (dcons v-d (dcons x-d (dcons y-d (dcons z-d dnil))))))))))
    in
    let c =
    f.clauses K V P k k-d e e-d q q-d o o-d r r-d p p-d v v-d x-d y-d z-d 𝓛 𝓜.mem 𝓡.returns in
    let g-sig = g.signature K V P k k-d e e-d q q-d o o-d r r-d p p-d v v-d x-d y-d z-d in
    let G =
    triple_of 𝓛 g-sig (g.spec K V P k k-d e e-d q q-d o o-d r r-d p p-d v v-d x-d y-d z-d 𝓛
    𝓜.mem 𝓡.returns) in
    let H = triple_of 𝓛 (h.signature V) (h.spec V 𝓛 𝓜.mem 𝓡.returns) in
    let g-end = g.ended K V P k k-d e e-d q q-d o o-d r r-d p p-d v v-d x-d y-d z-d in
    let fr = framed 𝓤 𝓛.H 𝓜 (tables 𝓤 𝓛.H 𝓜 𝓡 𝓡.env) in
    proved 𝓛 ended stayed c 𝓜 𝓡 (
      Goes-spent_ref 𝓛 5 (0 ∷ []) tt (plain (λ _. R)),
      (Goes-dropped 𝓛 5 Key yes (λ κs x w. refl), tt),
    )
    (f.Key.name args) (inst_fn args code.function)
    (code.unfolded 𝓤 𝓛.H 𝓜 𝓡 wired (K, (V, (P, tt))) k-d e-d q-d o-d r-d p-d v-d x-d y-d z-d)
    (λ κs. (mut_vals, (shr_vals, tt)))
    (λ κs. (mut_Tells (named 0) κs.0 R, (shr_Tells (named 1) κs.1.0 (param 0 K), tt)))
    (λ κs qs bounds a _ are.
    let w = k.bytes a.1.0.now in
    let was = value_at a.0.now w in
    let κ-V = κs.1.1.1.0 in
    let q-V = qs.1.1.1.0 in
    let Found : RattleType = type_at g-sig.result κs in
    let Given : RattleType = type_at ended.signature.result κs in
    let laws = reference-laws (named_lft 5 0 tt κs) T (param_laws 1 V LV) in
    let found_laws = Result-laws.the_row_laws _ _ laws Missing-laws.the_row_laws in
    let given_laws =
    Result-laws.the_row_laws _ _ (Option-laws.the_row_laws _ laws) Err-laws.the_row_laws in
    let z : G.Ghost = ((κs, qs, bounds, a, (mut_vals a.0, (shr_vals a.1.0, tt))), tt) in
    let in-K = fact 𝓤 (κs.1.1.0 ⊑ K.lives) in
    let in-V = fact 𝓤 (κ-V ⊑ V.lives) in
    let in-P = fact 𝓤 (κs.1.1.1.1.0 ⊑ P.lives) in
    let asked = sep 𝓤 (fact 𝓤 (ClonesEqual v.is_clone)) (fact 𝓤 (a.0.now.number + 1 < 2 ^ 64)) in
    let after-V = sep 𝓤 in-P asked in
    let after-K = sep 𝓤 in-V after-V in
    fact_use 𝓤 (κ-V ⊑ V.lives) (via 𝓤 (sep 𝓤 in-K after-K)
    (snd∗ 𝓤 (on_entry 𝓛 g-sig κs qs a z.0.4) (sep 𝓤 in-K after-K))
    (via 𝓤 after-K (snd∗ 𝓤 in-K after-K) (fst∗ 𝓤 in-V after-V))) (λ within.
    qed 𝓛 (raw (G.pre z) ∷ []) ∵ enter ! _ _ _ _ _ $
    alloc_all ! (λ l. pass_all ! refl ((tt, tt), ((tt, tt), tt)) $
    sets ! (addr ! (through ! refl (stop !))) refl (tt, tt) $
    calls_at ! fr G (g-met.met 𝓤 𝓛 𝓜 𝓡
    (code.calls-rart_versioned::counted::tree::VersionedAdaptiveRadixTree::value_mut 𝓡.env wired) K
    V P LK LV LP k k-d e e-d q q-d o o-d r r-d p p-d v v-d x-d y-d z-d mk me mq mo mr mp mv mx
    my mz) z
    (and_then ! (get ! refl) (and_then ! (get ! refl) (no_more !))) (λ u.
    use1 𝓛
    (later (some (λ (lent : Found.Denot).
    ((‵ (flft κs.0 qs.0) ⊛ ‵ (flft κs.1.0 qs.1.0) ⊛ ‵ (flft κs.1.1.0 qs.1.1.0) ⊛ ‵
    (flft κ-V q-V) ⊛ ‵ (flft κs.1.1.1.1.0 qs.1.1.1.1.0) ⊛ ‵ ftrue) ⊛ ‵
    (Found.own_val lent (u ∷ []))) ⊛
    some (λ (ws : Lasts g-end κs a). ‵ (lasts g-end κs a ws) ⊛ ‵
    (LendsValue (param 0 K) T (param 2 P) k.MAXIMUM_SIZE k.bytes q.eq o.cmp r.partial_cmp p v
    a.0 w lent) ⊛ raw (fact 𝓤 (IfOk lent (λ value. was ≡ Some value.now))) ⊛ raw
    (fact 𝓤 (IfErr lent (λ missing. Explains missing was))))))) (id⊢ 𝓤 _) $
    await ! tt $ pick ! (λ lent. split ! $ split ! $ move ! (2 ∷ []) $ pick !
    (λ ws. split ! $ drop ! $ split3 ! $
    move ! (1 ∷ []) $ heard ! _ (λ there.
    move ! (1 ∷ []) $ heard ! _ (λ missing.
    move ! (1 ∷ []) $ split3 ! $ move ! (2 ∷ []) $ split3 ! $ move ! (2 ∷ []) $ split ! $ move !
    (7 ∷ []) $
    -- [the result; κ₄; nothing; κ₂; κ₃; κ₀; κ₁; what follows]
    peeks ! Found (Is Found) (shows 𝓛 Found) lent (u ∷ [])
    (λ is. lands_as ! refl refl ((found_laws.lawful 𝓛).typed lent (u ∷ []) is).0 $
    let z' : H.Ghost =
    (((κs.0, (κ-V, tt)), (qs.0, (q-V, tt)), (bounds.1.0, tt), (lent, tt), (u ∷ [], tt)), tt) in
    nothing ! $ move ! (1 ∷ 0 ∷ []) $ fjoin ! $ move ! (4 ∷ 2 ∷ []) $ join ! $ move !
    (4 ∷ 0 ∷ []) $ join ! $ join ! $
    use0 𝓛 (raw in-V) (fact_i 𝓤 (κ-V ⊑ V.lives) (emp 𝓤) within) $ nothing ! $ move !
    (1 ∷ 0 ∷ []) $ join ! $ move ! (1 ∷ 0 ∷ []) $ join ! $ use1 𝓛 (raw (H.pre z')) (id⊢ 𝓤 _) $
    calls_at ! fr H (h-met.met 𝓤 𝓛 𝓜 𝓡
    (code.calls-rart_versioned::counted::missing::found_of 𝓡.env wired) V LV) z'
    (and_then ! (get ! refl) (no_more !)) (λ u'.
    use1 𝓛 (later (some (λ (found : Given.Denot).
    ((‵ (flft κs.0 qs.0) ⊛ ‵ (flft κ-V q-V) ⊛ ‵ ftrue) ⊛ ‵ (Given.own_val found (u' ∷ []))) ⊛
    some (λ (ws' : Lasts (h.ended V) z'.0.0 (lent, tt)). ‵
    (lasts (h.ended V) z'.0.0 (lent, tt) ws') ⊛ raw (fact 𝓤 (found ≡ found_value lent))))))
    (id⊢ 𝓤 _) $
    await ! tt $ pick ! (λ found. split ! $ split ! $ move ! (2 ∷ []) $ pick !
    (λ ws'. split ! $ drop ! $ heard ! _ (λ same. split3 ! $
    -- [κ₀; κ₃; nothing; the result; κ₄; κ₂; κ₁; what follows]
    move ! (4 ∷ 2 ∷ []) $ join ! $ move ! (2 ∷ 0 ∷ []) $ join ! $ move !
    (3 ∷ 0 ∷ []) $ join ! $ move ! (3 ∷ 0 ∷ []) $ join ! $ move ! (1 ∷ 0 ∷ []) $ join ! $ move !
    (1 ∷ 2 ∷ 0 ∷ []) $
    peeks ! Given (Is Given) (shows 𝓛 Given) found (u' ∷ [])
    (λ is'. lands_as ! refl refl ((given_laws.lawful 𝓛).typed found (u' ∷ []) is').0 $
    returns ! (look_at ! 0 refl) $ free_all ! refl $
    rewrite ! 1 (λ (m : maybe.Option GName). ‵
    (follows_if R T a.0.ghost_name m (λ left. with_key a.0.now w left 1) a.0.now))
    (same-name lent ∙ ap found_name (sym same)) refl $
    suffices ! _ (ends_at 𝓛 ended stayed c z u' found (tt, (tt, tt)) (tt, (tt, tt))) $
    nothing ! $ nothing ! $ fjoin ! $ nothing ! $ fjoin ! $ join ! $ move !
    (2 ∷ 0 ∷ []) $ join ! $ frame ! $
    use0 𝓛 (raw (fact 𝓤 (OnErr found (IsSome was))))
    (fact_i 𝓤 (OnErr found (IsSome was)) (emp 𝓤)
    (subst (λ x. OnErr x (IsSome was)) (sym same) (refused-there was lent missing))) $
    use0 𝓛 (raw (fact 𝓤 (IfOk found (λ value. option_map (λ x. x.now) value ≡ was))))
    (fact_i 𝓤 (IfOk found (λ value. option_map (λ x. x.now) value ≡ was)) (emp 𝓤)
    (subst (λ x. IfOk x (λ value. option_map (λ x. x.now) value ≡ was)) (sym same)
    (found-was was lent there missing))) $
    join ! $ move ! (1 ∷ []) $ frame ! $ done !))))))))))))))
