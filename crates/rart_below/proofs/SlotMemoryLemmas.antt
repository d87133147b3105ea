-- A struct whose one field is an array, in memory: one element beside all that lies round it.
use mathlib.Core.Path.{◌≡◌, refl, sym, ap, ◌∙◌}
use Prim.Native.Nat.{ℕ, zero, suc, ◌+◌, ◌*◌, ◌<◌}
use native.Mathlib.Omega.{arith}
use mathlib.Core.List.{List, [], ◌∷◌, ◌++◌}
use lib.ListN.{length, get_or, set, take, drop as list_drop, length-set}
use lib.Seq.{set_split}
use seplogic.Ra.Ura.{Ura}
use mir.Syntax.{Ty, Args, a_type, a_number, ty_array, ty_struct}
use base.Logic.{SProp, ent, sep, guard}
use base.Fraction.{full_share}
use base.Fml.{Fml, ftrue, fsep, feq}
use prog.Memory.{align, size, up}
use types.Logic.{Logic, sem}
use types.SemTy.{cells}
use types.Kit.{‵, ◌⊛◌, raw, ◌$◌, ◌∵◌, !, qed, move, drop, split, join, fsplit, fjoin, use1, use2, done, rewrite, feq_l, feq_i, check}
use borrow.Table.Elements.{at, at_mul, cut_app, join_app, length-take-le}
use denote.Array.{Array}
use denote.ArrayMemory.{Array-apart, Array-whole}
use denote.Index.{row, whole_in, whole_out}
use denote.Memory.{mem, part_at}
use denote.Param.{param, number, layout, layouts, ArrayAt}
use denote.Param.Laws.{Laws, param_laws, number_array_laws}
use denote.RattleType.{RattleType}
use denote.Steps.{nothing}
use denote.Struct.Declared.{shape}
use denote.Struct.Members.{Member, raw_tys}
use denote.Struct.Parts.{shape_of, Struct-left, left_Struct}
use denote.Struct.Recorded.{Recorded-part}
use denote.Struct.Struct.{Struct}
use Rattle.rart_below.specs.contracts.mapping.slot_array.SlotArray.{the_row, the_type}

-- an element of a list, and the two lists beside it
pub record IsCut {A : Type 0} (list : List A) (place : ℕ) (element : A) : Type 0 where
  pub whole : list ≡ take place list ++ element ∷ list_drop (suc place) list
  pub found : (other : A) → element ≡ get_or list place other

pub cut_at : {A : Type 0} (list : List A) (place : ℕ) → place < length list
    → (element : A) × IsCut list place element
cut_at [] place within = absurd (omega arith)
cut_at (first ∷ rest) zero within = (first, record { whole = refl; found = λ other. refl })
cut_at (first ∷ rest) (suc place) within =
    let later = cut_at rest place (omega arith) in
    (later.0, record { whole = ap (λ list. first ∷ list) later.1.whole; found = later.1.found })

module _ (X : RattleType) (n : ℕ) where
  abbrev pub arguments : Args
  arguments = layouts (a_type ∷ a_number ∷ []) (X, (number n, tt))

  -- the element's type, the number of elements, and the struct
  abbrev pub Element : RattleType
  Element = param 0 X

  abbrev pub Length : RattleType
  Length = param 1 (number n)

  abbrev pub Whole : RattleType
  Whole = the_row Element Length

  abbrev pub array : Ty
  array = ty_array (layout X) n

  abbrev pub members : List Member
  members = record { row = ArrayAt Element Length; ty = array } ∷ []

  abbrev Members : RattleType
  Members = Struct (shape_of (the_type Element Length).name members)

  -- the struct's memory is that of its members
  by_members : (value : Whole.Denot) (b o : ℕ)
      → part_at Whole full_share value b o ≡ part_at Members full_share (value.slots, tt) b o
  by_members value b o = let type = the_type Element Length in
      Recorded-part (Struct (shape type)) type.D type.to type.to_one full_share value b o

  module _ {M : Type 1} {𝓤 : Ura M} (𝓛 : Logic 𝓤) (b o : ℕ) (value : Whole.Denot) (place : ℕ) where
    open 𝓛 use {H}

    -- where the array begins, and where the element lies
    abbrev pub first : ℕ
    first = o + up (align array) zero

    abbrev pub spot : ℕ
    spot = place * size (layout X) + first

    abbrev pub before : List X.Denot
    before = take place value.slots

    abbrev pub behind : List X.Denot
    behind = list_drop (suc place) value.slots

    abbrev pub elements : List X.Denot → ℕ → Fml
    elements list start = cells (mem Element) list b start

    abbrev pub Outside : SProp 𝓤
    Outside = H.left full_share (ty_struct [] (raw_tys members)) (raw_tys members) b o

    -- all of the struct but the element
    abbrev pub Around : SProp 𝓤
    Around =
        sep 𝓤 (sem 𝓛 (elements before first))
        (sep 𝓤 (sem 𝓛 (elements behind (spot + size (layout X)))) Outside)

    -- the struct with this element there
    abbrev pub written : X.Denot → Whole.Denot
    written element = record { slots = set value.slots place element }

    past_before : place < length value.slots → at first (size (layout X)) (length before) ≡ spot
    past_before within =
        at_mul first (size (layout X)) (length before)
        ∙ ap (λ (count : ℕ). count * size (layout X) + first)
        (length-take-le place value.slots (omega arith))

    -- the array's elements, out of the struct
    pub opened : Laws X → ent 𝓤 (sem 𝓛 ((mem Whole).own_at value b o))
        (guard 𝓤 (length value.slots ≡ n) (sep 𝓤 (sem 𝓛 (elements value.slots first)) Outside))
    opened laws =
        qed 𝓛 (‵ (part_at Whole full_share value b o) ∷ []) ∵
        rewrite ! 0 (λ (formula : Fml). ‵ formula) (by_members value b o) refl $
        use1 𝓛 (‵ (fsep (part_at (Array Element n) full_share value.slots b first) ftrue) ⊛ raw
        Outside)
        (Struct-left 𝓛 full_share (the_type Element Length).name members
        ((number_array_laws Element (param_laws 0 X laws) Length refl).single, tt)
        (value.slots, tt) b o) $
        split ! $ fsplit ! $ move ! (1 ∷ []) $ drop ! $
        use1 𝓛 (‵ (fsep (feq ℕ (length value.slots) n)
        (row Element full_share value.slots b first)))
        (Array-apart 𝓛 Element full_share tt n value.slots b first) $
        fsplit ! $ feq_l ! (λ long. use1 𝓛 (‵ (elements value.slots first))
        (whole_in 𝓛 Element value.slots b first) $ check ! long $ done !)

    -- The elements are the one at the place and those beside it.
    pub taken_out : place < length value.slots → (element : X.Denot)
        → value.slots ≡ before ++ element ∷ behind
        → ent 𝓤 (sep 𝓤 (sem 𝓛 (elements value.slots first)) Outside)
        (sep 𝓤 (sem 𝓛 ((mem Element).own_at element b spot)) Around)
    taken_out within element whole =
        qed 𝓛 (‵ (elements value.slots first) ∷ raw Outside ∷ []) ∵
        rewrite ! 0 (λ (list : List X.Denot). ‵ (elements list first)) whole refl $
        use1 𝓛 (‵ (elements before first) ⊛ ‵
        (elements (element ∷ behind) (at first (size (layout X)) (length before))))
        (cut_app 𝓛 (mem Element) before (element ∷ behind) b first) $
        split ! $ rewrite ! 1 (λ (start : ℕ). ‵ (elements (element ∷ behind) start))
        (past_before within) refl $ move ! (1 ∷ []) $ fsplit ! $
        move ! (1 ∷ 3 ∷ []) $ join ! $ move ! (2 ∷ 0 ∷ []) $ join ! $ move !
        (1 ∷ 0 ∷ []) $ join ! $ done !

    -- The element may be another when it is put back.
    pub put_back : place < n → length value.slots ≡ n → (element : X.Denot)
        → ent 𝓤 (sep 𝓤 (sem 𝓛 ((mem Element).own_at element b spot)) Around)
        (sem 𝓛 ((mem Whole).own_at (written element) b o))
    put_back fits long element =
        let within : place < length value.slots = omega arith in
        let after = written element in
        qed 𝓛 (‵ ((mem Element).own_at element b spot) ∷ ‵ (elements before first)
        ∷ ‵ (elements behind (spot + size (layout X))) ∷ raw Outside ∷ []) ∵
        move ! (0 ∷ 2 ∷ []) $ fjoin ! $
        rewrite ! 0 (λ (start : ℕ). ‵ (elements (element ∷ behind) start))
        (sym (past_before within)) refl $ move ! (1 ∷ 0 ∷ []) $
        use2 𝓛 (‵ (elements (before ++ element ∷ behind) first))
        (join_app 𝓛 (mem Element) before (element ∷ behind) b first) $
        rewrite ! 0 (λ (list : List X.Denot). ‵ (elements list first))
        (sym (set_split value.slots place element within)) refl $
        use1 𝓛 (‵ (row Element full_share after.slots b first))
        (whole_out 𝓛 Element after.slots b first) $
        feq_i ! ℕ (length after.slots) n (length-set value.slots place element ∙ long) $ fjoin ! $
        use1 𝓛 (‵ (part_at (Array Element n) full_share after.slots b first))
        (Array-whole 𝓛 Element full_share n after.slots b first) $
        nothing ! $ move ! (1 ∷ 0 ∷ []) $ fjoin ! $
        use2 𝓛 (‵ (part_at Members full_share (after.slots, tt) b o))
        (left_Struct 𝓛 full_share (the_type Element Length).name members (after.slots, tt) b o)
        $
        rewrite ! 0 (λ (formula : Fml). ‵ formula) (sym (by_members after b o)) refl $ done !
