-- What two versions have in common and share, by their trees.
use Rattle.std.proofs.Common.{◌≡◌, ◌≤◌, ℕ, true, List, [], ◌∷◌, Option, Some, None, inl, inr, length, arith, sym, ap, subst, ◌∙◌}
use Rattle.std.specs.List.{filter_map, cons_option}
use Rattle.std.specs.Option.{option_map}
use Rattle.std.specs.FinMap as finite
use Rattle.rart_lockstep.specs.CommonPairs.{common_pairs}
use Rattle.rart_maps.specs.Pairs.{common, shared}
use Rattle.rart_maps.specs.Versions.{Version, has_no_key}
use Rattle.rart_maps.proofs.WorkedPairLemmas.{common_of_empty}
use Rattle.rart_node.specs.Shape.{Shape}
use Rattle.rart_node.specs.Trees.{found, pairs_of}
use Rattle.rart_walks.specs.Walks.{AreShort}
use Rattle.rart_versioned.specs.TreeWalks.{AreAdmitted}
use Rattle.rart_versioned.specs.Meets.{AreRoots, HaveNoCommon}
use Rattle.rart_versioned.specs.Roots.{map_of, IsSound}
use Rattle.rart_versioned.proofs.VersionCommonLemmas.{common-roots, shared-roots}
use Rattle.rart_versioned.proofs.VersionIterationLemmas.{root-sound}
use Rattle.rart_versioned.proofs.KeyLengthLemmas.{admitted-pairs, short-segments}
use Rattle.rart_versioned.proofs.VersionMapLemmas.{pairs-map}
use Rattle.rart_versioned.proofs.SoundLemmas.{no-key}

-- no more is given than there is
pub filtered-few : {A B : Type 0} (h : A → Option B) (xs : List A) →
    length (filter_map h xs) ≤ length xs
filtered-few h [] = omega arith
filtered-few {A} {B} h (x ∷ xs) =
    let rest = filtered-few h xs in
    elim (h x) as (λ o. length (cons_option o (filter_map h xs)) ≤ length (x ∷ xs)) [
      | None ↦ omega (arith, rest)
      | Some y ↦ omega (arith, rest)
    ]

module _ {V : Type 0} where
  admitted-short : (most : Option ℕ) (list : List (List ℕ × V)) → AreAdmitted most list →
      AreShort most list
  admitted-short None list admitted = tt
  admitted-short (Some most) list admitted = admitted

  -- a tree has no more keys in common with another than its version's number
  common_pairs-few : (most : Option ℕ) (count : ℕ) (left right : Shape V) →
      IsSound most count (Some left) → length (common_pairs left right) ≤ count
  common_pairs-few most count left right sound =
      let listed = filtered-few {B = List ℕ × V × V}
      (λ pair. option_map (λ x. (pair.0, pair.1, x)) (found right pair.0)) (pairs_of left) in
      let all = finite.len-entries (map_of (Some left))
      ∙ ap length (pairs-map (Some left) sound.0) in
      omega (arith, listed, all, sound.2)

-- ---- of a tree with this root, or the lack of one
module _ {A V : Type 0} (shape : A → Shape V) (count : ℕ) (inside : Option A) (v : Version V)
    (shows : record { content = map_of (option_map shape inside); number = count } ≡ v) where
  pub root-content : (root : A) → inside ≡ Some root → v.content ≡ map_of (Some (shape root))
  root-content root is =
      ap (λ (z : Version V). z.content) (sym shows)
      ∙ ap (λ root. map_of (option_map shape root)) is

  pub empty-content : inside ≡ None → v.content ≡ finite.empty
  empty-content is =
      ap (λ (z : Version V). z.content) (sym shows)
      ∙ ap (λ root. map_of (option_map shape root)) is

  empty-keyless : inside ≡ None → has_no_key v ≡ true
  empty-keyless is =
      sym (ap has_no_key shows)
      ∙ ap
      (λ root. has_no_key (record { content = map_of (option_map shape root); number = count }))
      is
      ∙ no-key V count

-- ---- of two trees with these roots, or the lack of them
module _ {A V : Type 0} (shape : A → Shape V) (count more : ℕ) (inside beside : Option A)
    (v w : Version V)
    (shows : record { content = map_of (option_map shape inside); number = count } ≡ v)
    (also : record { content = map_of (option_map shape beside); number = more } ≡ w) where
  pub left-lacks : inside ≡ None → HaveNoCommon v w
  left-lacks is = record {
    lacking = inl (empty-keyless shape count inside v shows is);
    none =
        ap (λ m. common m w.content) (empty-content shape count inside v shows is)
        ∙ (common_of_empty V w.content).0;
  }

  pub right-lacks : beside ≡ None → HaveNoCommon v w
  right-lacks is = record {
    lacking = inr (empty-keyless shape more beside w also is);
    none =
        ap (λ m. common v.content m) (empty-content shape more beside w also is)
        ∙ (common_of_empty V v.content).1;
  }

  pub both-roots : (most : Option ℕ) (left right : A) → inside ≡ Some left → beside ≡ Some right →
      IsSound most count (option_map shape inside) → IsSound most more (option_map shape beside) →
      AreRoots most (shape left) (shape right) v w
  both-roots most left right here there sound same =
      let one = root-sound shape most count inside v sound shows left here in
      let other = root-sound shape most more beside w same also right there in
      let contents = root-content shape count inside v shows left here in
      let others = root-content shape more beside w also right there in
      record {
        left_tree = one.0;
        right_tree = other.0;
        admitted =
            admitted-short most (pairs_of (shape left))
            (admitted-pairs most count (shape left) one);
        short = short-segments most count (shape left) one;
        common_pairs_are =
            sym (common-roots (shape left) (shape right) one.0 other.0)
            ∙ (λ i. common (sym contents i) (sym others i));
        shared_are =
            sym (shared-roots (shape left) (shape right) one.0 other.0)
            ∙ (λ i. shared (sym contents i) (sym others i));
        few =
            subst (λ n. length (common_pairs (shape left) (shape right)) ≤ n)
            (ap (λ (z : Version V). z.number) shows)
            (common_pairs-few most count (shape left) (shape right) one);
      }
