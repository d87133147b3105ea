-- No form of a family begins another, or a version's or a list of changes'.
use Rattle.std.proofs.Common.{◌≡◌, ◌≤◌, ℕ, Bool, List, [], ◌∷◌, ◌++◌, length, map, Option, refl, sym, ap, ◌∙◌, append_assoc, append-nil, arith}
use Rattle.std.proofs.lemmas.List.{append_cancel_left, length-append, length-map}
use Rattle.std.specs.FinMap as finite
use Rattle.sha2.specs.Sha256.{sha256}
use Rattle.rart_maps.specs.ChangeLaws.{Decides}
use Rattle.rart_maps.specs.ChangeLists.{changes}
use Rattle.rart_maps.specs.Versions.{Map, Version}
use Rattle.rart_maps.proofs.ChangeLawLemmas.{patches_give_the_new}
use Rattle.rart_family.specs.Families.{Family}
use Rattle.rart_saved.specs.ChangeForms.{changes_head}
use Rattle.rart_saved.specs.FamilyFormLaws.{FamiliesAreNoChanges, FamiliesAreNoVersion, FamilyFormsAreOfOne, FamilyFormsStandApart}
use Rattle.rart_saved.specs.FamilyForms.{as_setting, content_or, difference, family_body, family_head, optional, place, places, saved_family, version_behind}
use Rattle.rart_saved.specs.Forms.{entries, head}
use Rattle.rart_saved.specs.Laws.{leb-apart, same_first}
use Rattle.rart_saved.specs.Numbers.{leb}
use Rattle.rart_saved.proofs.ChangeFormLemmas.{changes-begin}
use Rattle.rart_saved.proofs.ListedLemmas.{same-entries}
use Rattle.rart_saved.proofs.OptionalLemmas.{optional-apart}
use Rattle.rart_saved.proofs.SavedLemmas.{saved-then}
use Rattle.rart_saved.proofs.SettingLemmas.{settled, settled-patched}

module _ {V : Type 0} where
  -- the map of the last version, or the one before where there is none
  pub last_content : Map V → Family V → Map V
  last_content before [] = before
  last_content before (one ∷ later) = last_content (content_or before one) later

  pub last_content-next : (before : Map V) (done : Family V) (one : Option (Version V))
      → last_content before (done ++ one ∷ []) ≡ content_or (last_content before done) one
  unfolding last_content
  last_content-next before [] one = refl
  last_content-next before (first ∷ done) one =
      last_content-next (content_or before first) done one

  pub last_content-none : (before : Map V) → last_content before [] ≡ before
  unfolding last_content
  last_content-none before = refl

module _ {V : Type 0} (written : V → List ℕ) (same : V → V → Bool) where
  abbrev pub settings : Map V → Map V → List (List ℕ × Option V)
  settings old new = map as_setting (changes same old new)

  pub map-of-settings : Decides same → (old m n : Map V) → settings old m ≡ settings old n → m ≡ n
  map-of-settings decides old m n is =
      sym (patches_give_the_new same decides old m)
      ∙ sym (settled-patched (changes same old m) old)
      ∙ ap (settled old) is
      ∙ settled-patched (changes same old n) old
      ∙ patches_give_the_new same decides old n

  -- ---- forms from their start on

  pub difference-then : (old new : Map V) (rest : List ℕ) → difference written same old new ++ rest
      ≡ leb (length (changes same old new))
      ++ (entries (optional written) [] (settings old new) ++ rest)
  unfolding difference
  difference-then old new rest =
      append_assoc (leb (length (changes same old new)))
      (entries (optional written) [] (settings old new)) rest

  pub version_behind-then : (before : Map V) (v : Version V) (rest : List ℕ)
      → version_behind written same before v ++ rest
      ≡ leb v.number ++ (difference written same before v.content ++ rest)
  unfolding version_behind
  version_behind-then before v rest =
      append_assoc (leb v.number) (difference written same before v.content) rest

  pub saved_family-then : (kind : ℕ) (family : Family V) (rest : List ℕ)
      → saved_family written same kind family ++ rest
      ≡ family_head kind ++ (leb (length family) ++ (places written same finite.empty family
      ++ (sha256 (family_body written same kind family) ++ rest)))
  unfolding saved_family family_body
  saved_family-then kind family rest =
      let all = places written same finite.empty family in
      let sum = sha256 (family_body written same kind family) in
      append_assoc (family_head kind ++ leb (length family) ++ all) sum rest
      ∙ append_assoc (family_head kind ++ leb (length family)) all (sum ++ rest)
      ∙ append_assoc (family_head kind) (leb (length family)) (all ++ (sum ++ rest))

  -- ---- one more place

  pub places-next : (before : Map V) (done : Family V) (one : Option (Version V))
      → places written same before (done ++ one ∷ [])
      ≡ places written same before done ++ place written same (last_content before done) one
  unfolding places last_content
  places-next before [] one = append-nil (place written same before one)
  places-next before (first ∷ done) one =
      ap (λ g. place written same before first ++ g)
      (places-next (content_or before first) done one)
      ∙ sym (append_assoc (place written same before first)
      (places written same (content_or before first) done) _)

  -- ---- no form begins another

  module _ (apart : (x y : V) (r s : List ℕ) → written x ++ r ≡ written y ++ s → x ≡ y)
      (decides : Decides same) where
    difference-apart : (old m n : Map V) (r s : List ℕ)
        → difference written same old m ++ r ≡ difference written same old n ++ s
        → (m ≡ n) × (r ≡ s)
    difference-apart old m n r s is =
        let counts =
        leb-apart (length (changes same old m)) (length (changes same old n)) _ _
        (sym (difference-then old m r) ∙ is ∙ difference-then old n s) in
        let lists =
        same-entries (optional written) (optional-apart written apart) (settings old m)
        (settings old n) r s
        (length-map (changes same old m) as_setting ∙ counts.0
        ∙ sym (length-map (changes same old n) as_setting)) counts.1 in
        (map-of-settings decides old m n lists.0, lists.1)

    pub version_behind-apart : (before : Map V) (v w : Version V) (r s : List ℕ)
        → version_behind written same before v ++ r ≡ version_behind written same before w ++ s
        → v ≡ w
    version_behind-apart before v w r s is =
        let numbers =
        leb-apart v.number w.number _ _
        (sym (version_behind-then before v r) ∙ is ∙ version_behind-then before w s) in
        let contents = difference-apart before v.content w.content r s numbers.1 in
        λ i. record { content = contents.0 i; number = numbers.0 i }

    place-apart : (before : Map V) (one other : Option (Version V)) (r s : List ℕ)
        → place written same before one ++ r ≡ place written same before other ++ s
        → (one ≡ other) × (r ≡ s)
    place-apart before one other r s is =
        let same_one =
        optional-apart (version_behind written same before) (version_behind-apart before) one
        other r s is in (
          same_one,
          append_cancel_left (place written same before other) r s
              (ap (λ p. place written same before p ++ r) (sym same_one) ∙ is),
        )

    -- Of two families that begin alike the shorter begins the longer.
    pub places-front : (before : Map V) (done todo : Family V) (r s : List ℕ)
        → places written same before done ++ r ≡ places written same before todo ++ s
        → length done ≤ length todo
        → (later : Family V) × (todo ≡ done ++ later)
        × (r ≡ places written same (last_content before done) later ++ s)
    unfolding places last_content
    places-front before [] todo r s is few = (todo, refl, is)
    places-front before (one ∷ done) [] r s is few = absurd (omega (arith, few))
    places-front before (one ∷ done) (other ∷ todo) r s is few =
        let firsts = content_or before one in
        let first =
        place-apart before one other (places written same firsts done ++ r)
        (places written same (content_or before other) todo ++ s)
        (sym (append_assoc (place written same before one) (places written same firsts done) r)
        ∙ is
        ∙ append_assoc (place written same before other)
        (places written same (content_or before other) todo) s) in
        let more =
        places-front firsts done todo r s
        (first.1 ∙ ap (λ p. places written same (content_or before p) todo ++ s) (sym first.0))
        (omega (arith, few)) in
        (more.0, (λ i. sym first.0 i ∷ more.1 i), more.2)

    pub same-places : (one other : Family V) (r s : List ℕ) → length one ≡ length other
        → places written same finite.empty one ++ r ≡ places written same finite.empty other ++ s
        → (one ≡ other) × (r ≡ s)
    unfolding places
    same-places one other r s long is =
        let front = places-front finite.empty one other r s is (omega (arith, long)) in
        let nothing : front.0 ≡ [] =
        no_place front.0 (omega (arith, long, ap length front.1, length-append one front.0)) in (
          sym (append-nil one) ∙ (λ i. one ++ sym nothing i) ∙ sym front.1,
          front.2
              ∙ ap (λ ps. places written same (last_content finite.empty one) ps ++ s) nothing,
        )
      where
        no_place : (ps : Family V) → length ps ≡ 0 → ps ≡ []
        no_place [] is = refl
        no_place (p ∷ ps) is = absurd (omega (arith, is))

    pub families-apart' : (kind : ℕ) (one other : Family V) (r s : List ℕ)
        → saved_family written same kind one ++ r ≡ saved_family written same kind other ++ s
        → (one ≡ other) × (r ≡ s)
    families-apart' kind one other r s is =
        let whole =
        append_cancel_left (family_head kind) _ _
        (sym (saved_family-then kind one r) ∙ is ∙ saved_family-then kind other s) in
        let counts = leb-apart (length one) (length other) _ _ whole in
        let same_one = (same-places one other _ _ counts.0 counts.1).0 in (
          same_one,
          append_cancel_left (saved_family written same kind other) r s
              (ap (λ f. saved_family written same kind f ++ r) (sym same_one) ∙ is),
        )

  module _ (kind : ℕ) where
    pub families-apart : ((x y : V) (r s : List ℕ) → written x ++ r ≡ written y ++ s → x ≡ y)
        → FamilyFormsStandApart written same kind
    families-apart apart decides one other r s is =
        families-apart' apart decides kind one other r s is

    pub families-of_one : ((x y : V) (r s : List ℕ) → written x ++ r ≡ written y ++ s → x ≡ y)
        → FamilyFormsAreOfOne written same kind
    families-of_one apart decides one other is =
        (families-apart apart decides one other [] [] (ap (λ g. g ++ []) is)).0

    version-head : (r s : List ℕ) → head kind ++ r ≡ family_head kind ++ s → ⊥
    unfolding head family_head
    version-head r s is = omega (arith, same_first is)

    list-head : (r s : List ℕ) → changes_head kind ++ r ≡ family_head kind ++ s → ⊥
    unfolding changes_head family_head
    list-head r s is = omega (arith, same_first is)

    pub families-no_version : FamiliesAreNoVersion written same kind
    families-no_version v family r s is =
        version-head _ _
        (sym (append_assoc (head kind) _ r) ∙ ap (λ g. g ++ r) (sym (saved-then written kind v))
        ∙ is ∙ saved_family-then kind family s)

    pub families-no_changes : FamiliesAreNoChanges written same kind
    families-no_changes list family r s is =
        list-head _ _
        (sym (append_assoc (changes_head kind) _ r)
        ∙ ap (λ g. g ++ r) (sym (changes-begin written kind list))
        ∙ is ∙ saved_family-then kind family s)
