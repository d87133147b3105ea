-- A version with many pairs put in.
use Rattle.std.proofs.Common.{◌≡◌, ◌≢◌, ℕ, List, [], ◌∷◌, ◌++◌, Option, Some, refl, sym, ap, ◌∙◌, arith}
use Rattle.std.specs.FinMap as finite
use Rattle.std.proofs.iter.Yields.{gives_Drains}
use Rattle.std.proofs.lemmas.List.{length-append, map-append}
use Rattle.std.proofs.lemmas.List.Elements.{All-head, All-tail}
use Rattle.rart_below.specs.Plain.{by_bytes, put_all}
use Rattle.rart_maps.specs.Versions.{Map, Version, value_at, with_key}
use Rattle.rart_maps.proofs.MapLemmas.{maps}
use Rattle.rart_maps.proofs.VersionLemmas.{value_at-with_key, value_at-with_other_key}
use Rattle.rart_versioned.specs.Extended.{with_pairs}
use Rattle.rart_versioned.specs.ExtendLaws.{LacksKey, LastPairStays, ListedPairsArePutIn, OtherKeysStay, PairsAreInsertions, PairsGoPartByPart, WorkedExtension}

module _ {V : Type 0} where
  put_all-append : (m : Map V) (front rest : List (List ℕ × V)) →
      put_all m (front ++ rest) ≡ put_all (put_all m front) rest
  put_all-append m [] rest = refl
  put_all-append m (pair ∷ front) rest =
      put_all-append (finite.insert m pair.0 pair.1) front rest

  abbrev version-of : Map V → ℕ → Version V
  version-of content number = record { content = content; number = number }

  same-version : (v w : Version V) → v.content ≡ w.content → v.number ≡ w.number → v ≡ w
  same-version v w content number =
      ap (λ m. version-of m v.number) content ∙ ap (version-of w.content) number

  with_pairs-nil : (v : Version V) → with_pairs v [] ≡ v
  with_pairs-nil v = same-version _ _ refl (omega arith)

  with_pairs-cons : (v : Version V) (pair : List ℕ × V) (pairs : List (List ℕ × V)) →
      with_pairs v (pair ∷ pairs) ≡ with_pairs (with_key v pair.0 pair.1 1) pairs
  with_pairs-cons v pair pairs = same-version _ _ refl (omega arith)

  pub with_pairs-append : (v : Version V) (front rest : List (List ℕ × V)) →
      with_pairs v (front ++ rest) ≡ with_pairs (with_pairs v front) rest
  with_pairs-append v front rest =
      let many = length-append front rest in
      same-version _ _ (put_all-append v.content front rest) (omega (arith, many))

  -- A further pair is one more insertion.
  pub with_pairs-last : {K : Type 0} (bytes : K → List ℕ) (v : Version V) (front : List (K × V))
      (pair : K × V) → with_pairs v (by_bytes bytes (front ++ pair ∷ []))
      ≡ with_key (with_pairs v (by_bytes bytes front)) (bytes pair.0) pair.1 1
  with_pairs-last bytes v front pair =
      ap (with_pairs v) (map-append (λ p. (bytes p.0, p.1)) front (pair ∷ []))
      ∙ with_pairs-append v (by_bytes bytes front) ((bytes pair.0, pair.1) ∷ [])

  pub others-stay : (v : Version V) (pairs : List (List ℕ × V)) (w : List ℕ) →
      LacksKey V w pairs → value_at (with_pairs v pairs) w ≡ value_at v w
  others-stay v [] w lacks = refl
  others-stay v (pair ∷ pairs) w lacks =
      let other = All-head (λ p. p.0 ≢ w) pair pairs lacks in
      ap (λ u. value_at u w) (with_pairs-cons v pair pairs)
      ∙ others-stay (with_key v pair.0 pair.1 1) pairs w
      (All-tail (λ p. p.0 ≢ w) pair pairs lacks)
      ∙ value_at-with_other_key v pair.0 pair.1 1 w (λ same. other (sym same))

  last-stays : (v : Version V) (front rest : List (List ℕ × V)) (w : List ℕ) (x : V) →
      LacksKey V w rest → value_at (with_pairs v (front ++ (w, x) ∷ rest)) w ≡ Some x
  last-stays v front rest w x lacks =
      let before = with_pairs v front in
      ap (λ u. value_at u w) (with_pairs-append v front ((w, x) ∷ rest)
      ∙ with_pairs-cons before (w, x) rest)
      ∙ others-stay (with_key before w x 1) rest w lacks
      ∙ value_at-with_key before w x 1

pub last_pair_stays : (V : Type 0) → LastPairStays V
last_pair_stays V = last-stays

pub other_keys_stay : (V : Type 0) → OtherKeysStay V
other_keys_stay V = others-stay

pub pairs_are_insertions : (V : Type 0) → PairsAreInsertions V
pairs_are_insertions V v pair pairs = (with_pairs-nil v, with_pairs-cons v pair pairs)

pub pairs_go_part_by_part : (V : Type 0) → PairsGoPartByPart V
pairs_go_part_by_part V = with_pairs-append

pub listed_pairs_are_put_in : {K V U T : Type 0} (bytes : K → List ℕ) (becomes : U → T → Type 0)
    (steps : T → Option (K × V) → T → Type 0) → ListedPairsArePutIn bytes becomes steps
listed_pairs_are_put_in bytes becomes steps pairs all lists before after puts =
    puts.is ∙ ap (with_pairs before) (gives_Drains steps (λ pair. (bytes pair.0, pair.1)) puts.all
    all puts.walk (lists puts.walk puts.begins) puts.drains)

pub worked_extension : WorkedExtension
worked_extension = (simp maps refl, refl)
