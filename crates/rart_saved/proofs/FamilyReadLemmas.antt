-- Versions of a family that are read one by one.
use Rattle.std.proofs.Common.{◌≡◌, ◌+◌, ◌<◌, ◌≤◌, ◌^◌, ℕ, zero, suc, Bool, List, [], ◌∷◌, ◌++◌, length, take, drop, Option, Result, Ok, Err, refl, sym, ap, subst, ◌∙◌, append_assoc, append-nil, inl, arith}
use Rattle.std.specs.Prelude.{IfSome, Some, None, Contains}
use Rattle.std.specs.Borrow.{Bor}
use Rattle.std.specs.Option.{option_copied, unwrap_or}
use Rattle.std.specs.Result.{IfOk}
use Rattle.std.proofs.lemmas.List.{append_cancel_left, length-append, length-map}
use Rattle.std.specs.FinMap as finite
use Rattle.sha2.specs.Sha256.{sha256}
use Rattle.rart_below.specs.Bytes.{byte_order}
use Rattle.rart_maps.specs.ChangeLaws.{Decides}
use Rattle.rart_maps.specs.ChangeLists.{changes}
use Rattle.rart_maps.specs.Versions.{Map, Version}
use Rattle.rart_maps.proofs.ElementLemmas.{Contains-here, Contains-later, Contains-nil}
use Rattle.rart_family.specs.Families.{Family, version_at}
use Rattle.rart_saved.specs.FamilyForms.{IsFamilyOf, as_setting, content_or, difference, family_body, family_head, optional, place, places, saved_family, version_behind}
use Rattle.rart_saved.specs.FamilyLoads.{GivesBackFamily, GivesBackFamilyUnlessIo, GivesBackFamilyWithin, HasVersionsWithin, LacksFamily, LacksPlace, LacksPlaces}
use Rattle.rart_saved.specs.Forms.{IsVersionOf, entries}
use Rattle.rart_saved.specs.Keys.{narrowed}
use Rattle.rart_saved.specs.Laws.{leb-apart}
use Rattle.rart_saved.specs.Loads.{HasKeysWithin}
use Rattle.rart_saved.specs.Numbers.{leb}
use Rattle.rart_saved.specs.Parts.{HasPart}
use Rattle.rart_saved.specs.Refusals.{OnErrWithin}
use Rattle.rart_saved.specs.declared.error.LoadError.{LoadError}
use Rattle.rart_saved.proofs.FamilyFormLemmas.{difference-then, families-of_one, last_content, last_content-next, last_content-none, map-of-settings, places-front, places-next, same-places, saved_family-then, settings, version_behind-then}
use Rattle.rart_saved.proofs.FormLengthLemmas.{entries-long, front-within}
use Rattle.rart_saved.proofs.LimitLemmas.{limit-none, refused-told, version-narrowed}
use Rattle.rart_saved.proofs.ListedLemmas.{same-entries}
use Rattle.rart_saved.proofs.OptionalLemmas.{optional-apart, optional-long}
use Rattle.rart_saved.proofs.BytePartLemmas.{part-front, part-join}
use Rattle.rart_saved.proofs.SavedLemmas.{memory_alone}
use Rattle.rart_saved.proofs.SettingReadLemmas.{contains-last}

-- the map of the version at a place, or the one before
pub unwrapped : {V : Type 0} (one : Option (Bor (Version V))) (before : Bor (Version V))
    → (unwrap_or one before).now.content ≡ content_or before.now.content (option_copied one)
unwrapped None before = refl
unwrapped (Some v) before = refl

-- One place more is taken.
pub places-taken : {V : Type 0} (family : Family V) (i : ℕ) → i < length family
    → take (i + 1) family ≡ take i family ++ version_at family i ∷ []
places-taken [] i below = absurd (omega (arith, below))
places-taken (one ∷ family) zero below = refl
places-taken {V} (one ∷ family) (suc i) below =
    let next : suc i + 1 ≡ suc (i + 1) = omega arith in
    ap (λ n. take n (one ∷ family)) next
    ∙ ap (λ (ps : Family V). one ∷ ps) (places-taken family i (omega (arith, below)))

-- a family of one place more
pub family-none : {V : Type 0} (most : Option ℕ) → IsFamilyOf {V = V} most []
family-none most one there = absurd (Contains-nil one there)

pub family-more : {V : Type 0} (most : Option ℕ) (family : Family V) (i : ℕ) → i < length family
    → IsFamilyOf most (take i family) → IfSome (version_at family i) (IsVersionOf most)
    → IsFamilyOf most (take (i + 1) family)
family-more {V} most family i below is last =
    subst (IsFamilyOf most) (sym (places-taken family i below))
    (λ one there. contains-last (take i family) (version_at family i) one there
    (λ (o : Option (Version V)). IfSome o (IsVersionOf most)) is last)

-- Versions within a limit on their keys, and one more.
pub versions-none : {V : Type 0} (longest : Option ℕ) → HasVersionsWithin {V = V} longest []
versions-none longest one there = absurd (Contains-nil one there)

pub versions-next : {V : Type 0} (longest : Option ℕ) (family : Family V) (one : Option (Version V))
    → HasVersionsWithin longest family → IfSome one (HasKeysWithin longest)
    → HasVersionsWithin longest (family ++ one ∷ [])
versions-next {V} longest family one within last other there =
    contains-last family one other there
    (λ (o : Option (Version V)). IfSome o (HasKeysWithin longest)) within last

-- A family whose keys are within the limit too.
family-narrowed : {V : Type 0} (longest most : Option ℕ) (family : Family V) → IsFamilyOf most family
    → HasVersionsWithin longest family → IsFamilyOf (narrowed longest most) family
family-narrowed {V} longest most family is within one there =
    each one (is one there) (within one there)
  where
    each : (o : Option (Version V)) → IfSome o (IsVersionOf most)
        → IfSome o (HasKeysWithin longest) → IfSome o (IsVersionOf (narrowed longest most))
    each None version short = tt
    each (Some v) version short = version-narrowed longest most v version short

module _ {V : Type 0} (written : V → List ℕ) (same : V → V → Bool) where
  -- ---- one version

  -- The parts of a version, read one behind the other.
  pub version_behind-read : (bytes : List ℕ) (at from behind end number count : ℕ) (old : Map V)
      (v : Version V) → HasPart bytes at (leb number) from → HasPart bytes from (leb count) behind
      → HasPart bytes behind (entries (optional written) [] (settings written same old v.content))
      end
      → v.number ≡ number → length (changes same old v.content) ≡ count
      → HasPart bytes at (version_behind written same old v) end
  unfolding version_behind difference
  version_behind-read bytes at from behind end number count old v numbers counts lists is long =
      part-join bytes at from end _ _
      (subst (λ n. HasPart bytes at (leb n) from) (sym is) numbers)
      (part-join bytes from behind end _ _
      (subst (λ n. HasPart bytes from (leb n) behind) (sym long) counts) lists)

  -- The same, written one behind the other.
  pub version_behind-written : (out one two three listed : List ℕ) (number count : ℕ)
      (old : Map V) (v : Version V) → one ≡ out ++ leb number → two ≡ one ++ leb count
      → three ≡ two ++ listed → number ≡ v.number → count ≡ length (changes same old v.content)
      → listed ≡ entries (optional written) [] (settings written same old v.content)
      → three ≡ out ++ version_behind written same old v
  unfolding version_behind difference
  version_behind-written out one two three listed number count old v first second third is long
      lists =
      third ∙ ap (λ g. g ++ listed) (second ∙ ap (λ g. g ++ leb count) first)
      ∙ append_assoc (out ++ leb number) (leb count) listed
      ∙ append_assoc out (leb number) (leb count ++ listed)
      ∙ (λ i. out ++ (leb (is i) ++ (leb (long i) ++ lists i)))

  module _ (bytes : List ℕ) (old : Map V) (v : Version V) (rest : List ℕ) (at : ℕ)
      (stands : drop at bytes ≡ version_behind written same old v ++ rest) where
    -- what stands behind the number
    pub opened-version : (from number : ℕ) → HasPart bytes at (leb number) from
        → (number ≡ v.number) × (drop from bytes ≡ leb (length (changes same old v.content))
        ++ (entries (optional written) [] (settings written same old v.content) ++ rest))
    opened-version from number numbers =
        let parts =
        leb-apart number v.number (drop from bytes) _
        (sym numbers.stands ∙ stands ∙ version_behind-then written same old v rest) in
        (parts.0, parts.1 ∙ difference-then written same old v.content rest)

    -- so many as a number can be
    pub few-changes : (from number : ℕ) → HasPart bytes at (leb number) from
        → length bytes < 2 ^ 64 → length (changes same old v.content) < 2 ^ 64
    few-changes from number numbers fits =
        let list = settings written same old v.content in
        let counted = leb (length (changes same old v.content)) in
        let all = entries (optional written) [] list in
        let within =
        front-within bytes (counted ++ all) rest from
        ((opened-version from number numbers).1 ∙ sym (append_assoc counted all rest)) in
        omega (
          arith,
          fits,
          within,
          length-append counted all,
          entries-long (optional written) [] list,
          length-map (changes same old v.content) as_setting,
        )

    -- and behind the count
    pub opened-changes : (from behind number count : ℕ) → HasPart bytes at (leb number) from
        → HasPart bytes from (leb count) behind
        → (length (changes same old v.content) ≡ count) × (drop behind bytes
        ≡ entries (optional written) [] (settings written same old v.content) ++ rest)
    opened-changes from behind number count numbers counts =
        let parts =
        leb-apart count (length (changes same old v.content)) (drop behind bytes) _
        (sym counts.stands ∙ (opened-version from number numbers).1) in
        (sym parts.0, parts.1)

    -- What was read is the map of that version.
    pub opened-content : ((x y : V) (r s : List ℕ) → written x ++ r ≡ written y ++ s → x ≡ y)
        → Decides same → (from behind end number count : ℕ) (new : Map V)
        → HasPart bytes at (leb number) from → HasPart bytes from (leb count) behind
        → HasPart bytes behind (entries (optional written) [] (settings written same old new)) end
        → length (changes same old new) ≡ count → new ≡ v.content
    opened-content apart decides from behind end number count new numbers counts lists long =
        let opened = opened-changes from behind number count numbers counts in
        map-of-settings written same decides old new v.content
        (same-entries (optional written) (optional-apart written apart)
        (settings written same old new) (settings written same old v.content) (drop end bytes) rest
        (length-map (changes same old new) as_setting ∙ long ∙ sym opened.0
        ∙ sym (length-map (changes same old v.content) as_setting))
        (sym lists.stands ∙ opened.1)).0

  -- ---- one place behind another

  -- So many places were read from one place of the bytes to another, the last version with this
  -- map, which has so many keys.
  pub record IsPlaced (bytes : List ℕ) (at end i : ℕ) (family : Family V) (latest : Map V)
      (keys : ℕ) : Type 0 where
    pub count : length family ≡ i
    pub last : latest ≡ last_content finite.empty family
    pub part : HasPart bytes at (places written same finite.empty family) end
    pub counted : keys ≡ finite.len latest
    pub room : keys ≤ end

  pub placed-none : (bytes : List ℕ) (at : ℕ) (latest : Map V) (keys : ℕ) → at ≤ length bytes
      → latest ≡ finite.empty → keys ≡ 0 → IsPlaced bytes at at 0 [] latest keys
  unfolding places
  placed-none bytes at latest keys within empty none = record {
    count = refl;
    last = empty ∙ sym (last_content-none finite.empty);
    part = record { within = within; stands = refl };
    counted = none ∙ sym (finite.len-empty byte_order V) ∙ ap finite.len (sym empty);
    room = omega (arith, none);
  }

  pub placed-next : (bytes : List ℕ) (at end end' i : ℕ) (family : Family V)
      (latest latest' : Map V) (keys keys' : ℕ) (one : Option (Version V))
      → IsPlaced bytes at end i family latest keys
      → HasPart bytes end (place written same latest one) end' → latest' ≡ content_or latest one
      → keys' ≡ finite.len latest' → keys' ≤ end'
      → IsPlaced bytes at end' (i + 1) (family ++ one ∷ []) latest' keys'
  placed-next bytes at end end' i family latest latest' keys keys' one is part next counted room =
      record {
        count = length-append family (one ∷ []) ∙ ap (λ n. n + 1) is.count;
        last = next ∙ ap (λ m. content_or m one) is.last
            ∙ sym (last_content-next finite.empty family one);
        part = subst (λ g. HasPart bytes at g end')
            ((λ j. places written same finite.empty family ++ place written same (is.last j) one)
            ∙ sym (places-next written same finite.empty family one))
            (part-join bytes at end end' _ _ is.part part);
        counted = counted;
        room = room;
      }

  contains-seam : (done later : Family V) (one : Option (Version V))
      → Contains (done ++ one ∷ later) one
  contains-seam [] later one = Contains-here one later
  contains-seam (first ∷ done) later one =
      Contains-later first (done ++ one ∷ later) one (contains-seam done later one)

  module _ (apart : (x y : V) (r s : List ℕ) → written x ++ r ≡ written y ++ s → x ≡ y)
      (decides : Decides same) where
    -- Where no next place has its form, no family of more has its places.
    pub lacks-places : (most : Option ℕ) (bytes : List ℕ) (at end i count : ℕ) (family : Family V)
        (latest : Map V) (keys : ℕ) → IsPlaced bytes at end i family latest keys → i < count
        → LacksPlace written same most latest (drop end bytes)
        → LacksPlaces written same most count (drop at bytes)
    unfolding places
    lacks-places most bytes at end i count family latest keys is less lacks all rest long admits
        stands =
        let front =
        places-front written same apart decides finite.empty family all _ rest
        (sym is.part.stands ∙ stands) (omega (arith, less, is.count, long)) in
        goes_on front.0 front.1 front.2
      where
        goes_on : (later : Family V) → all ≡ family ++ later
            → drop end bytes
            ≡ places written same (last_content finite.empty family) later ++ rest
            → ⊥
        goes_on [] whole ends =
            omega (arith, less, is.count, long, ap length whole, length-append family [])
        goes_on (one ∷ later) whole ends =
            let here = last_content finite.empty family in
            lacks one (places written same (content_or here one) later ++ rest)
            (admits one (subst (λ ps. Contains ps one) (sym whole)
            (contains-seam family later one)))
            (ends
            ∙ append_assoc (place written same here one)
            (places written same (content_or here one) later) rest
            ∙ ap (λ m. place written same m one
            ++ (places written same (content_or here one) later ++ rest)) (sym is.last))

  -- So many places are written behind a start, the last version with this map.
  pub record IsWritten (start bytes : List ℕ) (family : Family V) (latest : Map V) : Type 0 where
    pub written_are : bytes ≡ start ++ places written same finite.empty family
    pub last : latest ≡ last_content finite.empty family

  pub written-none : (start bytes : List ℕ) (latest : Map V) → bytes ≡ start
      → latest ≡ finite.empty → IsWritten start bytes [] latest
  unfolding places
  written-none start bytes latest begins empty = record {
    written_are = begins ∙ sym (append-nil start);
    last = empty ∙ sym (last_content-none finite.empty);
  }

  pub written-next : (start bytes bytes' : List ℕ) (family : Family V) (latest latest' : Map V)
      (one : Option (Version V)) → IsWritten start bytes family latest
      → bytes' ≡ bytes ++ place written same latest one → latest' ≡ content_or latest one
      → IsWritten start bytes' (family ++ one ∷ []) latest'
  written-next start bytes bytes' family latest latest' one is grown next = record {
    written_are = grown
        ∙ (λ i. is.written_are i ++ place written same (is.last i) one)
        ∙ append_assoc start (places written same finite.empty family) _
        ∙ ap (λ g. start ++ g) (sym (places-next written same finite.empty family one));
    last = next ∙ ap (λ m. content_or m one) is.last
        ∙ sym (last_content-next finite.empty family one);
  }

  -- Of all places, closed by the sum, they are the form of the family.
  pub family-written : (kind : ℕ) (bytes all : List ℕ) (family : Family V) (latest : Map V)
      → IsWritten (family_head kind ++ leb (length family)) bytes family latest
      → all ≡ bytes ++ sha256 bytes → all ≡ saved_family written same kind family
  unfolding saved_family family_body
  family-written kind bytes all family latest is whole =
      whole ∙ ap (λ b. b ++ sha256 b) is.written_are

  -- ---- a family

  places-long : (before : Map V) (ps : Family V) → length ps ≤ length (places written same before ps)
  unfolding places
  places-long before [] = omega arith
  places-long before (one ∷ later) =
      omega (
        arith,
        optional-long (version_behind written same before) one,
        places-long (content_or before one) later,
        length-append (place written same before one)
            (places written same (content_or before one) later),
      )

  module _ (kind : ℕ) where
    pub family-read : (bytes : List ℕ) (at from end count : ℕ) (family : Family V)
        → HasPart bytes 0 (family_head kind) at → HasPart bytes at (leb count) from
        → HasPart bytes from (places written same finite.empty family) end
        → length family ≡ count → drop end bytes ≡ sha256 (take end bytes)
        → bytes ≡ saved_family written same kind family
    unfolding saved_family family_body
    family-read bytes at from end count family heads counts lists long sums =
        let whole : HasPart bytes 0 (family_body written same kind family) end =
        part-join bytes 0 from end _ _
        (part-join bytes 0 at from _ _ heads
        (subst (λ n. HasPart bytes at (leb n) from) (sym long) counts)) lists in
        whole.stands
        ∙ ap (λ g. family_body written same kind family ++ g)
        (sums ∙ ap sha256 (part-front bytes _ end whole))

    module _ (bytes : List ℕ) (family : Family V)
        (stands : bytes ≡ saved_family written same kind family) where
      -- what stands behind the head
      pub opened-family : (at : ℕ) → HasPart bytes 0 (family_head kind) at
          → drop at bytes ≡ leb (length family) ++ (places written same finite.empty family
          ++ (sha256 (family_body written same kind family) ++ []))
      opened-family at heads =
          append_cancel_left (family_head kind) (drop at bytes) _
          (sym heads.stands ∙ stands ∙ sym (append-nil (saved_family written same kind family))
          ∙ saved_family-then written same kind family [])

      pub few-places : (at : ℕ) → HasPart bytes 0 (family_head kind) at → length bytes < 2 ^ 64
          → length family < 2 ^ 64
      few-places at heads fits =
          let counted = leb (length family) in
          let all = places written same finite.empty family in
          let rest = sha256 (family_body written same kind family) ++ [] in
          let within =
          front-within bytes (counted ++ all) rest at
          (opened-family at heads ∙ sym (append_assoc counted all rest)) in
          omega (
            arith,
            fits,
            within,
            length-append counted all,
            places-long finite.empty family,
          )

      -- and behind the count
      pub opened-places : (at from count : ℕ) → HasPart bytes 0 (family_head kind) at
          → HasPart bytes at (leb count) from → (length family ≡ count) × (drop from bytes
          ≡ places written same finite.empty family
          ++ (sha256 (family_body written same kind family) ++ []))
      opened-places at from count heads counts =
          let parts =
          leb-apart count (length family) (drop from bytes) _
          (sym counts.stands ∙ opened-family at heads) in
          (sym parts.0, parts.1)

      -- Where all its places were read, only its sum stands behind them.
      pub opened-sum : ((x y : V) (r s : List ℕ) → written x ++ r ≡ written y ++ s → x ≡ y)
          → Decides same → (at from end count : ℕ) (found : Family V)
          → HasPart bytes 0 (family_head kind) at → HasPart bytes at (leb count) from
          → HasPart bytes from (places written same finite.empty found) end
          → length found ≡ count → drop end bytes ≡ sha256 (take end bytes)
      unfolding family_body
      opened-sum apart decides at from end count found heads counts lists long =
          let opened = opened-places at from count heads counts in
          let parts =
          same-places written same apart decides found family (drop end bytes) _
          (long ∙ sym opened.0) (sym lists.stands ∙ opened.1) in
          let whole : HasPart bytes 0 (family_body written same kind family) end =
          part-join bytes 0 from end _ _
          (part-join bytes 0 at from _ _ heads
          (subst (λ n. HasPart bytes at (leb n) from) (sym opened.0) counts))
          (subst (λ ps. HasPart bytes from (places written same finite.empty ps) end) parts.0
          lists) in
          parts.1 ∙ append-nil _ ∙ ap sha256 (sym (part-front bytes _ end whole))

    module _ (apart : (x y : V) (r s : List ℕ) → written x ++ r ≡ written y ++ s → x ≡ y)
        (decides : Decides same) (most : Option ℕ) where
      pub family-given : (r : Result (Family V) LoadError) (bytes : List ℕ)
          → IfOk r (λ found. bytes ≡ saved_family written same kind found)
          → OnErrWithin None most r (λ m. LacksFamily written same m kind bytes)
          → GivesBackFamily written same kind most r bytes
      family-given (Ok found) bytes read refused family is stands =
          families-of_one written same kind apart decides found family (sym read ∙ stands)
      family-given (Err e) bytes read refused family is stands =
          memory_alone e (λ other. refused other family
          (subst (λ m. IsFamilyOf m family) (sym (limit-none most e)) is) stands)

      pub family-given_within : (longest : Option ℕ) (r : Result (Family V) LoadError)
          (bytes : List ℕ) → IfOk r (λ found. bytes ≡ saved_family written same kind found)
          → OnErrWithin longest most r (λ m. LacksFamily written same m kind bytes)
          → GivesBackFamilyWithin written same kind longest most r bytes
      family-given_within longest (Ok found) bytes read refused family is stands =
          families-of_one written same kind apart decides found family (sym read ∙ stands)
      family-given_within longest (Err e) bytes read refused family is stands =
          refused-told longest most (λ m. IsFamilyOf m family) (HasVersionsWithin longest family) is
          (family-narrowed longest most family is) e
          (λ other narrow. refused other family narrow stands)

      pub family-given_io : (r : Result (Family V) LoadError) (bytes : List ℕ)
          → GivesBackFamily written same kind most r bytes
          → GivesBackFamilyUnlessIo written same kind most r bytes
      family-given_io (Ok found) bytes back family is stands = back family is stands
      family-given_io (Err e) bytes back family is stands = inl (back family is stands)
