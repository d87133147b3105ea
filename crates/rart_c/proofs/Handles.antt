-- What a handle owns at null and elsewhere, whatever its values are. Assumes `Logic`.
--     Heap, Kept     the allocator's handle and what the pointer leads to, as rows
--     nothing_held, either     what is held at null, and at a block
use Rattle.std.proofs.Common.{◌≡◌, ℕ, List, ◌∷◌, refl}
use Rattle.std.proofs.alloc.Global.TheLaws as heap_laws
use Rattle.std.specs.contracts.alloc.Global as heap
use Rattle.std.specs.contracts.impls.GlobalAllocator.TheImpl.{ghosts}
use Rattle.std.specs.declared.alloc.Global.{Global}
use Rattle.std.specs.declared.clone.Clone.{Ghosts}
use base.Fml.{Fml, ftrue}
use base.Logic.{via, snd∗, guard_i}
use contract.Monad.{fact_use}
use denote.Memory.{lone}
use denote.Param.Laws.{Laws}
use denote.RattleType.{RattleType}
use denote.RawPtr.{Ptr, block_ptr, null_ptr, Testable}
use mir.Raw.{raw as bare}
use seplogic.Ra.Ura.{Ura}
use types.Kit.{Item, Goal, Seq, Step, step, ‵, given, ◌$◌, drop, learn, fpack, fpick, use1}
use types.Logic.{Logic, sem}
use denote.Steps.{nothing}
use Rattle.core.specs.Ptr.{points_to}
use Rattle.std.proofs.GlobalToken.{dealloc_token-Testable}
use Rattle.rart_c.proofs.Parts.{boxed}
use Rattle.rart_c.specs.Trees.{Tree, tree_at}
use Rattle.rart_c.specs.Owned.{held}
use Rattle.rart_c.specs.contracts.table.Table as table

abbrev pub Heap : RattleType
Heap = heap.the_row

pub heap_good : Laws Heap
heap_good = heap_laws.the_row_laws

module _ (V : RattleType) (clones : Ghosts V.Denot) where
  abbrev pub Kept : RattleType
  Kept = table.the_row V clones

  module _ {M : Type 1} {𝓤 : Ura M} {𝓛 : Logic 𝓤} {K : Type 0} {Γ : List
      (Item 𝓤)} {G : Goal 𝓤 𝓛.H} where
    pub nothing_held : K → (a : Global)
        → Step K 𝓛 (‵ (held V clones a null_ptr (tree_at 0)) ∷ Γ) G Γ G
    nothing_held t a = step (λ rest.
        nothing t $ fpack t (tree_at {V = V.Denot} 0 ≡ tree_at 0) (λ _. ftrue) refl $ rest)

    -- what is held tells whether the pointer is null, and it can be compared with null where it
    -- isn't
    pub either : K → (a : Global) (p : Ptr) (x : Tree V.Denot)
        → (p ≡ null_ptr → x ≡ tree_at 0 → Seq K 𝓛 Γ G)
        → ((b o : ℕ) → p ≡ block_ptr b o → Testable (block_ptr b o)
        → Seq K 𝓛 (‵ (boxed Kept Heap heap_good ghosts a (block_ptr b o) x) ∷ Γ) G)
        → Seq K 𝓛 (‵ (held V clones a p x) ∷ Γ) G
    either t a null_ptr x none one = fpick t (λ is_empty. drop t $ none refl is_empty)
    either t a (block_ptr b o) x none one =
        let p : Ptr = block_ptr b o in let whole : Fml = boxed Kept Heap heap_good ghosts a p x in
        use1 𝓛 (given (Testable p) (‵ whole))
        (fact_use 𝓤 (Testable p)
        (via 𝓤 _
        (snd∗ 𝓤 (sem 𝓛 (points_to Kept p x)) (sem 𝓛 (ghosts.dealloc_token a (bare
        (lone Kept.mir)) p)))
        (dealloc_token-Testable 𝓛 a (bare (lone Kept.mir)) p))
        (guard_i 𝓤 (Testable p) (sem 𝓛 whole))) $
        learn t (λ ok. one b o refl ok)
