-- A struct of a pointer and an allocator's handle, by its one machine value. Assumes `Logic`.
--     Beside     the struct's shape. No name and no type argument is read of it
--     pair       its machine value, of the pointer's and the handle's
--     pair_good      it has its type where the handle's value has
--     apart, together      what its fields own is what the handle owns, and back
use Rattle.std.proofs.Common.{◌≡◌, List, [], ◌∷◌, ◌++◌, refl, ◌∙◌}
use lib.Dec.{T}
use mathlib.Core.Bool.{true, ◌&&◌}
use seplogic.Ra.Ura.{Ura}
use mir.Syntax.{impl, tnil, dnil}
use mir.Val.{Val, vstruct, vcons, vnil, of_list, has_ty, WT}
use types.Logic.{Logic}
use types.Kit.{Item, Goal, Seq, Step, step, ‵, ◌$◌, move, drop, fsplit, fjoin, fpick, fpack, feq_i, feq_l}
use denote.RattleType.{RattleType, Valss}
use denote.Builtin.{RawPtr}
use denote.Param.{layout}
use denote.Param.Laws.{Laws}
use denote.RawPtr.{Ptr, ptr_val}
use denote.Steps.{nothing}
use denote.Struct.Struct.{Shape, Struct, within}
use Rattle.core.specs.declared.alloc.Allocator.{Ghosts}
use Rattle.core.proofs.alloc.Calls.{Al, handle_tells}
use Rattle.core.proofs.cell.Inside.{Good}
use Rattle.std_alloc.proofs.ResultValues.{and_tt}

abbrev pub pair : Val → Val → Val
pair v w = vstruct (vcons v (vcons w vnil))

module _ (Z : RattleType) (laws : Laws Z) (g : Ghosts Z.Denot) where
  -- the handle's row with its laws, where no method is called
  abbrev pub Handle : Al
  Handle = record { row = Z; laws = laws; g = g; d = impl [] tnil dnil; drops = impl [] tnil dnil }

  abbrev pub Beside : Shape
  Beside = record { name = []; args = []; types = []; fields = RawPtr ∷ Z ∷ [] }

  module _ {M : Type 1} {𝓤 : Ura M} {𝓛 : Logic 𝓤} {K : Type 0} {Γ : List
      (Item 𝓤)} {G : Goal 𝓤 𝓛.H} where
    pub apart : K → (p : Ptr) (a : Z.Denot) (vs : List Val)
        → ((h : Val) → vs ≡ pair (ptr_val p) h ∷ [] → Good (layout Z) h
        → Seq K 𝓛 (‵ (Z.own_val a (h ∷ [])) ∷ Γ) G)
        → Seq K 𝓛 (‵ ((Struct Beside).own_val (p, (a, tt)) vs) ∷ Γ) G
    apart t p a vs k =
        fpick t (λ vss. fsplit t $ feq_l t (λ whole. fsplit t $ feq_l t (λ front. fsplit t $
        handle_tells Handle t a vss.1.0 (λ h back fits. move t (1 ∷ []) $ drop t $
        k h (whole ∙ (λ j. vstruct (of_list (front j ++ (back j ++ []))) ∷ [])) fits))))

    pub together : K → (p : Ptr) (a : Z.Denot) (h : Val)
        → Step K 𝓛 (‵ ((Struct Beside).own_val (p, (a, tt)) (pair (ptr_val p) h ∷ [])) ∷ Γ) G
        (‵ (Z.own_val a (h ∷ [])) ∷ Γ) G
    together t p a h = step (λ rest. let v : Val = pair (ptr_val p) h in
        nothing t $ move t (1 ∷ 0 ∷ []) $ fjoin t $
        feq_i t (List Val) (ptr_val p ∷ []) (ptr_val p ∷ []) refl $ fjoin t $
        feq_i t (List Val) (v ∷ []) (v ∷ []) refl $ fjoin t $
        fpack t (Valss (RawPtr ∷ Z ∷ [])) (within Beside (p, (a, tt)) (v ∷ []))
        (ptr_val p ∷ [], (h ∷ [], tt)) $ rest)

  pub pair_good : (p : Ptr) (h : Val) → Good (layout Z) h → WT (ptr_val p)
      → T (has_ty (layout Z) h && true) × WT (pair (ptr_val p) h)
  pair_good p h fits ok = (and_tt (has_ty (layout Z) h) fits.0, (ok, (fits.1, tt)))
