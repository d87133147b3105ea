-- A box taken apart, by its machine value. Assumes `Logic`.
--     Parts      its row, of the element's and the allocator's
--     opens, closes     it is what its fields own and what the box owned
use Rattle.std.proofs.Common.{◌≡◌, ℕ, List, [], ◌∷◌, ◌∙◌, ap}
use Rattle.core.proofs.cell.Inside.{Good}
use Rattle.core.specs.declared.alloc.Allocator.{Ghosts}
use Rattle.std_alloc.specs.Box.Ownership.{box_owns}
use base.Fml.{Fml}
use base.Logic.{never, fst∗}
use denote.Memory.{lone}
use denote.Param.{layout}
use denote.Param.Laws.{Laws}
use denote.RattleType.{RattleType}
use denote.RawPtr.{Ptr, block_ptr, null_ptr, ptr_val, in_a_block}
use mir.Raw.{raw as bare}
use mir.Val.{Val, vptr}
use seplogic.Ra.Ura.{Ura}
use types.Kit.{Item, Goal, Seq, Step, step, ‵, ◌$◌, move, fsplit, fjoin}
use types.Logic.{Logic, sem}
use Rattle.rart_c.proofs.Pointers.{pair, apart, together}
use Rattle.rart_c.specs.contracts.unboxed.Unboxed as unboxed

module _ (R Z : RattleType) (laws : Laws Z) (g : Ghosts Z.Denot) where
  abbrev pub Parts : RattleType
  Parts = unboxed.the_row R Z g

  -- what the box at a pointer owns
  abbrev pub boxed : Z.Denot → Ptr → R.Denot → Fml
  boxed a = box_owns (g.dealloc_token a) R

  module _ {M : Type 1} {𝓤 : Ura M} {𝓛 : Logic 𝓤} {K : Type 0} {Γ : List
      (Item 𝓤)} {G : Goal 𝓤 𝓛.H} where
    -- no box is at null
    pub at_a_block : K → (a : Z.Denot) (p : Ptr) (x : R.Denot)
        → ((b o : ℕ) → p ≡ block_ptr b o → Seq K 𝓛 (‵ (boxed a (block_ptr b o) x) ∷ Γ) G)
        → Seq K 𝓛 (‵ (boxed a p x) ∷ Γ) G
    at_a_block t a p x k =
        in_a_block t p (λ q. boxed a q x)
        (fst∗ 𝓤 (never 𝓤) (sem 𝓛 (g.dealloc_token a (bare (lone R.mir)) null_ptr))) k

  module _ {M : Type 1} {𝓤 : Ura M} {𝓛 : Logic 𝓤} {K : Type 0} {Γ : List
      (Item 𝓤)} {G : Goal 𝓤 𝓛.H} where
    pub opens : K → (d : Parts.Denot) (vs : List Val)
        → ((b o : ℕ) (h : Val) → d.at ≡ block_ptr b o → vs ≡ pair (vptr b o) h ∷ []
        → Good (layout Z) h
        → Seq K 𝓛 (‵ (boxed d.alloc (block_ptr b o) d.value) ∷ ‵ (Z.own_val d.alloc
        (h ∷ [])) ∷ Γ) G)
        → Seq K 𝓛 (‵ (Parts.own_val d vs) ∷ Γ) G
    opens t d vs k =
        fsplit t $ apart Z laws g t d.at d.alloc vs (λ h is fits. move t (1 ∷ []) $
        at_a_block t d.alloc d.at d.value (λ b o e.
        k b o h e (is ∙ ap (λ p. pair (ptr_val p) h ∷ []) e) fits))

    pub closes : K → (b o : ℕ) (h : Val) (a : Z.Denot) (x : R.Denot)
        → Step K 𝓛 (‵ (Parts.own_val (record { at = block_ptr b o; alloc = a; value = x }) (pair
        (vptr b o) h ∷ [])) ∷ Γ) G
        (‵ (boxed a (block_ptr b o) x) ∷ ‵ (Z.own_val a (h ∷ [])) ∷ Γ) G
    closes t b o h a x = step (λ rest.
        move t (1 ∷ 0 ∷ []) $ together Z laws g t (block_ptr b o) a h $ fjoin t $ rest)
