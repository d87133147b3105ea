-- The loan of one slot of an array. No proof of it is generated, so the code is walked by hand.
use mathlib.Core.Path.{◌≡◌, refl, sym, ap, subst, ◌∙◌}
use Prim.Native.Nat.{ℕ, zero, suc, ◌*◌, ◌^◌, ◌<◌, ◌≤◌}
use native.Mathlib.Nat.{mul-le-mul_right, suc-mul, zero-mul}
use native.Mathlib.Omega.{arith}
use mathlib.Core.List.{List, [], ◌∷◌}
use lib.ListN.{length, get_or}
use seplogic.Ra.Ura.{Ura}
use mir.Syntax.{Fn, named, w64}
use mir.MapTy.{inst_fn}
use mir.Val.{Val, vptr, vint}
use base.Logic.{SProp, ent, sep, ex, guard}
use base.Fml.{Fml, Lft, GName, Share, ftrue, flft, fobs, fbor}
use prog.Memory.{Memory, capped, size}
use prog.Capped.{capped_is}
use prog.Routine.{Routine}
use prog.Wp.{Calls, Loops, WpFn, Tables}
use sound.WpLaws.{WpFn-mono}
use types.Logic.{Logic, sem}
use types.Mut.{open_ref}
use types.SemTy.{Body}
use types.Follow.{takes_part}
use types.Kit.{Item, ‵, ◌⊛◌, raw, given, some, later, ◌$◌, ◌∵◌, !, qed, by, move, keep, drop, split, split3, join, learn, fsplit, fsplit3, fjoin, fjoin3, use1, use2, await, pick, suffices, frame, done, updating, group, now, show, feq_i, check}
use types.Run.{stop, fld, addr, bin, size_word, returns, enter}
use types.ByLocal.{alloc_all, pass_all, free_all, look_at, get, through, sets, is}
use contract.BorrowLft.{◌⊑◌}
use contract.Lifetimes.{AllOutlive}
use contract.Monad.{Fun}
use contract.Running.{tables, tables_of}
use denote.Builtin.{RefMutOf, usize}
use denote.Exit.{yes, no}
use denote.Follow.{follows}
use denote.Memory.{mem}
use denote.Param.{number, layout}
use denote.Param.Laws.{Laws}
use denote.Plain.{uint_vals, uint_Tells}
use denote.RattleType.{RattleType, owns}
use denote.Ref.{MutBor, MutRef, mut_vals, mut_Tells}
use denote.Signature.{plain}
use denote.Steps.{nothing}
use denote.Triple.Clauses.{Clauses, Ended, closing}
use denote.Triple.Entry.{on_entry}
use denote.Triple.Spec.{Meets, triple_of}
use denote.Triple.Table.{entered}
use denote.Triple.Walked.{says, Stays, stay_dropped, walk_of, ends_at, walked, Goes-dropped, Goes-spent_ref, walk_Meets}
use Rattle.rart_below.proofs.SlotMemoryLemmas.{arguments, Element, Whole, Around, Outside, elements, first, spot, written, cut_at, opened, taken_out, put_back}
use Rattle.rart_below.specs.contracts.mapping.slot_array.SlotArray.slot_mut as F
use Rattle.rart_below.specs.contracts.mapping.slot_array.SlotArray.slot_mut.Key.{name as #self}
use Rattle.rart_below.proofs.mapping.slot_array.SlotArray.slot_mut.Statement as stated
use Rattle.rart_below.proofs.mapping.slot_array.SlotArray.slot_mut.Code as code

-- the element's offset, which the code computes by a size that is cut off at a word
offset : (place width : ℕ) → place * width < 2 ^ 64 → place * capped width ≡ place * width
offset zero width fits = zero-mul (capped width) ∙ sym (zero-mul width)
offset (suc place) width fits =
    let more = suc-mul place width in ap (λ (w : ℕ). suc place * w) (capped_is width (omega arith))

module _ (X : RattleType) (n : ℕ) where
  abbrev function : Fn
  function = inst_fn (arguments X n) code.function

  abbrev ended : Ended
  ended = F.ended X (number n)

  -- on the return the loan goes on in the result, and the place is let go
  abbrev stays : Stays ended.signature.params ended.kept
  stays = (
    stay_dropped (RefMutOf (0 ∷ []) tt (plain (λ _. Whole X n)) (λ _. tt)) no,
    (stay_dropped (plain (λ _. usize)) yes, tt),
  )

module _ (X : RattleType) (n : ℕ) (laws : Laws X) {M : Type 1} {𝓤 : Ura M} (𝓛 : Logic 𝓤) where
  open 𝓛 use {H, A}

  -- ---- the loan, passed on to the element
  module _ (lifetime : Lft) (share : Share) (b o : ℕ) (name : GName) (value : (Whole X n).Denot)
      (place : ℕ) where
    abbrev at_place : ℕ
    at_place = spot X n 𝓛 b o value place

    abbrev lender : MutBor (Whole X n).Denot
    lender = record { ref_ptr = (b, o); ghost_name = name; now = value }

    abbrev lent : GName × X.Denot → MutBor X.Denot
    lent to = record { ref_ptr = (b, at_place); ghost_name = to.0; now = to.1 }

    abbrev returned : GName × X.Denot → Fml
    returned to = follows (Whole X n) (Element X n) name to.0 (written X n 𝓛 b o value place)

    abbrev Passed : GName × X.Denot → SProp 𝓤
    Passed to =
        guard 𝓤 (to.1 ≡ get_or value.slots place to.1)
        (sep 𝓤 (sem 𝓛 ((MutRef (named 0) lifetime (Element X n)).own_val (lent to)
        (vptr b at_place ∷ []))) (sep 𝓤 (A.lft lifetime share) (sem 𝓛 (returned to))))

    abbrev passed : GName × X.Denot → Item 𝓤
    passed to =
        given (to.1 ≡ get_or value.slots place to.1)
        (‵ ((MutRef (named 0) lifetime (Element X n)).own_val (lent to) (vptr b at_place ∷ [])) ⊛ ‵
        (flft lifetime share) ⊛ ‵ (returned to))

    passes : place < n → (vals : List Val)
        → ent 𝓤 (sep 𝓤 (sem 𝓛 ((MutRef (named 0) lifetime (Whole X n)).own_val lender vals))
        (A.lft lifetime share)) (H.⇛ (ex 𝓤 Passed))
    passes fits vals =
        qed 𝓛 (‵ ((MutRef (named 0) lifetime (Whole X n)).own_val lender vals)
        ∷ ‵ (flft lifetime share) ∷ []) ∵
        updating ! $ fsplit3 ! $ drop ! $ open_ref ! tt (mem (Whole X n)) {b = b} {o = o} $
        use1 𝓛 (given (length value.slots ≡ n)
        (‵ (elements X n 𝓛 b o value place value.slots (first X n 𝓛 b o value place)) ⊛ raw
        (Outside X n 𝓛 b o value place))) (opened X n 𝓛 b o value place laws) $
        learn ! (λ long.
        let within : place < length value.slots = omega arith in
        let cut = cut_at value.slots place within in
        let element : X.Denot = cut.0 in
        use1 𝓛 (‵ ((mem (Element X n)).own_at element b at_place) ⊛ raw
        (Around X n 𝓛 b o value place))
        (taken_out X n 𝓛 b o value place within element cut.1.whole) $
        split ! $ move ! (2 ∷ 3 ∷ 4 ∷ 0 ∷ 1 ∷ []) $ group ! 5 $
        use1 𝓛 (later (some (λ (to : GName). ‵ (fobs to ((Element X n).coded.code element)) ⊛ ‵
        (fbor lifetime (Body (mem (Element X n)) b at_place to)) ⊛ ‵ (flft lifetime share) ⊛ ‵
        (returned (to, element)))))
        (takes_part 𝓛 (mem (Whole X n)) (mem (Element X n))
        (written X n 𝓛 b o value place) lifetime share b o b at_place name
        (Around X n 𝓛 b o value place) (put_back X n 𝓛 b o value place fits long)
        ((Whole X n).coded.code value) ((Whole X n).coded.code value) element) $
        await ! tt $ pick ! (λ to. split3 ! $
        feq_i ! (List Val) (vptr b at_place ∷ [])
        (vptr b at_place ∷ []) refl $ fjoin3 ! $ now ! $ show ! Passed (to, element) $
        check ! (cut.1.found element) $ done !))

  -- ---- the code, which makes a reference of the element's place
  module _ (at_mem : Memory → SProp 𝓤) (run : Routine → Fun 𝓤) where
    abbrev clauses : Clauses 𝓤 (ended X n)
    clauses = F.clauses X (number n) 𝓛 at_mem run

    module _ (C : Calls 𝓤 H) (Λ : Loops 𝓤 H) (l lT lN : Lft) (q qT qN : Share)
        (outlive : AllOutlive 3 (ended X n).signature.outlives (l, (lT, (lN, tt))))
        (b o : ℕ) (name : GName) (value : (Whole X n).Denot) (place : ℕ) where
      abbrev self : MutBor (Whole X n).Denot
      self = lender l q b o name value place

      abbrev vals : List Val
      vals = mut_vals self

      abbrev entry : (walk_of 𝓛 (ended X n) (stays X n) clauses).Ghost
      entry = (
        (
          (l, (lT, (lN, tt))),
          (q, (qT, (qN, tt))),
          outlive,
          (self, (place, tt)),
          (vals, (vint w64 place ∷ [], tt)),
        ),
        tt,
      )

      walk : place < n → place < 2 ^ 64 → n * size (layout X) < 2 ^ 63
          → ent 𝓤 (on_entry 𝓛 (ended X n).signature (l, (lT, (lN, tt))) (q, (qT, (qN, tt)))
          (self, (place, tt)) (vals, (vint w64 place ∷ [], tt)))
          (WpFn 𝓤 H C Λ (function X n) (vptr b o ∷ vint w64 place ∷ [])
          ((walk_of 𝓛 (ended X n) (stays X n) clauses).post entry))
      walk fits word small =
          let width : ℕ = size (layout X) in
          let below : place * width ≤ n * width = mul-le-mul_right width (omega arith) in
          let in_word : place * width < 2 ^ 64 = omega arith in
          let same = offset place width in_word in
          qed 𝓛 ((‵ (flft l q) ⊛ ‵ (flft lT qT) ⊛ ‵ (flft lN qN) ⊛ ‵ ftrue)
          ∷ ‵ (owns (MutRef (named 0) l (Whole X n) ∷ usize ∷ []) (self, (place, tt))
          (vals, (vint w64 place ∷ [], tt))) ∷ []) ∵
          enter ! C Λ (function X n) (vptr b o ∷ vint w64 place ∷ []) _ $
          alloc_all ! (λ locals. pass_all ! refl ((tt, tt), ((tt, record { fits = word }), tt)) $
          sets ! (is ! (bin ! (get ! refl) (size_word !)
          (record { fits = subst (λ (w : ℕ). w < 2 ^ 64) (sym same) in_word }))
          (ap (vint w64) same)) refl (tt, record { fits = in_word }) $
          sets ! (addr ! (through ! refl (fld ! refl (stop !)))) refl (tt, tt) $
          sets ! (bin ! (get ! refl) (get ! refl) tt) refl (tt, tt) $
          sets ! (addr ! (through ! refl (stop !))) refl (tt, tt) $
          split ! $ move ! (2 ∷ []) $ fsplit ! $ move ! (0 ∷ 2 ∷ []) $
          use2 𝓛 (later (some (passed l q b o name value place)))
          (passes l q b o name value place fits vals) $
          await ! tt $ pick ! (λ to. learn ! (λ read.
          returns ! (look_at ! 0 refl) $ free_all ! refl $ keep ! (0 ∷ 2 ∷ []) $ split3 ! $
          suffices ! _ (ends_at 𝓛 (ended X n) (stays X n) clauses entry
          (vptr b (at_place l q b o name value place)) (lent l q b o name value place to)
          (tt, (tt, tt)) (tt, (tt, tt))) $
          nothing ! $ nothing ! $ fjoin ! $ nothing ! $ fjoin ! $ join ! $ move !
          (1 ∷ 3 ∷ []) $ join ! $ join ! $ frame ! $ says ! read $ done !)))

    meets : (𝓣 : Tables 𝓤 H) → Meets 𝓛 (ended X n).signature (WpFn 𝓤 H 𝓣.C 𝓣.Λ (function X n))
        (closing 𝓛 (ended X n) clauses)
    meets 𝓣 =
        let runs = WpFn 𝓤 H 𝓣.C 𝓣.Λ (function X n) in
        walk_Meets 𝓛 (ended X n) (stays X n) (
          Goes-spent_ref 𝓛 3 (0 ∷ []) tt (plain (λ _. Whole X n)),
          (Goes-dropped 𝓛 3 (plain (λ _. usize)) yes (λ ls x f. refl), tt),
        ) clauses runs
        (WpFn-mono 𝓤 H 𝓛.laws 𝓣 (function X n))
        (walked 𝓛 (ended X n) (stays X n) clauses runs (λ ls. (mut_vals, (uint_vals w64, tt)))
        (λ ls. (mut_Tells (named 0) ls.0 (Whole X n), (uint_Tells w64, tt)))
        (λ ls qs outlive args ghost are.
        qed 𝓛 (raw (on_entry 𝓛 (ended X n).signature ls qs args
        (mut_vals args.0, (vint w64 args.1.0 ∷ [], tt)))
        ∷ (given (ls.1.0 ⊑ X.lives) (‵ ftrue) ⊛ given (ls.1.1.0 ⊑ []) (‵ ftrue) ⊛ given
        (size (layout (Whole X n)) < 2 ^ 63) (‵ ftrue) ⊛ given (args.1.0 < n) (‵ ftrue)) ∷ []) ∵
        move ! (1 ∷ []) $ split3 ! $ drop ! $ drop ! $ split ! $ learn !
        (λ small. drop ! $ learn ! (λ fits. drop ! $
        by ! (walk 𝓣.C 𝓣.Λ ls.0 ls.1.0 ls.1.1.0 qs.0 qs.1.0 qs.1.1.0 outlive args.0.ref_ptr.0
        args.0.ref_ptr.1 args.0.ghost_name args.0.now args.1.0 fits are.1.0.1 (omega arith))))))

pub slot_mut_spec : {M : Type 1} → stated.statement M
unfolding tables_of
slot_mut_spec 𝓤 𝓛 𝓜 𝓡 wired X n laws fits =
    let 𝓣 : Tables 𝓤 𝓛.H = tables_of 𝓤 𝓛.H 𝓜 (tables 𝓤 𝓛.H 𝓜 𝓡 𝓡.env) in
    entered 𝓤 𝓛.H (triple_of 𝓛 (ended X n).signature (F.spec X (number n) 𝓛 𝓜.mem 𝓡.returns)) 𝓣.C
    𝓣.Λ (#self (arguments X n)) (function X n)
    (code.unfolded 𝓤 𝓛.H 𝓜 𝓡 wired (X, (number n, tt)))
    (meets X n laws 𝓛 𝓜.mem 𝓡.returns 𝓣)
