-- What stands under a prefix in a tree: where the way along it comes to, and what becomes of the
-- tree once that is gone.
use Rattle.std.proofs.Common.{◌≡◌, ℕ, zero, suc, ◌+◌, ◌-◌, ◌<◌, ◌≤◌, List, [], ◌∷◌, ◌++◌, Option, Some, None, IsSome, is_some, length, take, drop, length-drop, cond, Bool, true, false, ◌&&◌, refl, arith, sym, ap, subst, ◌∙◌, append_assoc}
use Rattle.std.specs.Prelude.{◌==◌, slice_index_or}
use Rattle.std.specs.Option.{option_and_then, option_map}
use Rattle.std.proofs.Math.Seq.{drop-append_seam, drop-cons}
use Rattle.std.proofs.lemmas.Bool.{eqb-true, eq-eqb, false≢true, and_parts}
use Rattle.std.proofs.lemmas.List.{length-append, take-append-drop}
use Rattle.std.proofs.lemmas.Option.{same_Some, none-some}
use Rattle.rart_below.specs.Bytes.{begins, common_length, IsAdmitted}
use Rattle.rart_below.specs.Children.{child_at}
use Rattle.rart_node.specs.Shape.{Shape, Forest, node, prefix_of, children_of, entries_of, height, with_prefix}
use Rattle.rart_node.specs.Counts.{Counts, CountsUpTo}
use Rattle.rart_node.specs.Trees.{strip_prefix, found, IsTree, path_bound}
use Rattle.rart_node.proofs.CountingLemmas.{path-one, path-most, path-step}
use Rattle.rart_node.proofs.PrefixRestLemmas.{strip_prefix-own, strip_prefix-is, strip_prefix-whole, split-whole, behind-append, begins-long, begins-first, common-within, eqb-sym}
use Rattle.rart_node.proofs.FindLemmas.{IsBranch, branch, ordered}
use Rattle.rart_node.proofs.InsertionLemmas.{inside}
use Rattle.rart_node.proofs.KeyLemmas.{tree-has-key}
use Rattle.rart_node.proofs.MatchLemmas.{found-left, found-deeper}
use Rattle.rart_maps.proofs.OrderLemmas.{begins-rest}
use Rattle.rart_node.proofs.AlongLemmas.{begins-along}
use Rattle.rart_ways.specs.Paths.{first_byte, child_along, step, path_end}
use Rattle.rart_ways.specs.Prefixes.{HasNoneUnder, HasSomeUnder, StandsUnder, IsUnderAlone}
use Rattle.rart_ways.specs.Removals.{AreAdmitted}
use Rattle.rart_ways.proofs.InsertionStepLemmas.{admitted-part}
use Rattle.rart_ways.proofs.LentPathLemmas.{IsStep, is-step, found-along, tree-along}
use Rattle.rart_ways.proofs.LookupPathLemmas.{step-along, back-is}
use Rattle.rart_ways.proofs.RemovalLemmas.{split-found}

-- ---- strings
-- A prefix that is left before its end, behind no whole string, is left by whatever goes on with
-- that.
pub strip-apart : (q rest w : List ℕ) → common_length q rest < length q
    → common_length q rest < length rest → strip_prefix q (rest ++ w) ≡ None
strip-apart [] rest w short also = absurd (omega (arith, short))
strip-apart (b ∷ q) [] w short also = absurd (omega (arith, also))
strip-apart (b ∷ q) (c ∷ rest) w short also =
    let P : Bool → Type 0 = λ t. cond t (suc (common_length q rest)) 0 < suc (length q)
    → cond t (suc (common_length q rest)) 0 < suc (length rest)
    → cond t (strip_prefix q (rest ++ w)) None ≡ None in
    let both : (t : Bool) → P t = elim [
      | true ↦ (λ lt below. strip-apart q rest w (omega (arith, lt)) (omega (arith, below)))
      | false ↦ (λ lt below. refl)
    ] in
    rw (eqb-sym c b) (both (b == c) short also)

-- What is in common with a prefix, whole, begins it.
pub common-begins : (q rest : List ℕ) → common_length q rest ≡ length rest
    → begins rest q ≡ true
common-begins q [] is = refl
common-begins [] (c ∷ rest) is = absurd (omega (arith, is))
common-begins (b ∷ q) (c ∷ rest) is =
    let P : Bool → Type 0 = λ t. cond t (suc (common_length q rest)) 0 ≡ suc (length rest)
    → (t && begins rest q) ≡ true in
    let both : (t : Bool) → P t = elim [
      | true ↦ (λ same. common-begins q rest (omega (arith, same)))
      | false ↦ (λ same. absurd (omega (arith, same)))
    ] in
    rw (eqb-sym c b) (both (b == c) is)

pub strip-longer : (p key rest w : List ℕ) → strip_prefix p key ≡ Some rest
    → strip_prefix p (key ++ w) ≡ Some (rest ++ w)
strip-longer p key rest w is =
    ap (λ z. strip_prefix p (z ++ w)) (strip_prefix-is p key rest is)
    ∙ ap (strip_prefix p) (append_assoc p rest w) ∙ strip_prefix-own p (rest ++ w)

-- A string begins another where it has something behind it.
pub strip-begins : (p q : List ℕ) → begins p q ≡ is_some (strip_prefix p q)
strip-begins [] q = refl
strip-begins (b ∷ p) [] = refl
strip-begins (b ∷ p) (c ∷ q) =
    rw (eqb-sym c b) (elim (b == c) as (λ t. (t && begins p q)
    ≡ is_some (cond t (strip_prefix p q) None)) [ true ↦ strip-begins p q | false ↦ refl ])

-- the same behind a rest that the string begins with
begins-shorter : (rest prefix q : List ℕ) → begins rest prefix ≡ true
    → IsSome (strip_prefix prefix q) → begins rest q ≡ true
begins-shorter [] prefix q begun there = refl
begins-shorter (b ∷ rest) [] q begun there = absurd (false≢true begun)
begins-shorter (b ∷ rest) (c ∷ prefix) [] begun there = absurd (false≢true there)
begins-shorter (b ∷ rest) (c ∷ prefix) (d ∷ q) begun there =
    let first = and_parts (b == c) (begins rest prefix) begun in
    let P : Bool → Type 0 = λ t. (d == c) ≡ t → IsSome (cond t (strip_prefix prefix q) None)
    → (b == d && begins rest q) ≡ true in
    let both : (t : Bool) → P t = elim [
      | true ↦ (λ same some.
          let is : b ≡ d = eqb-true b c first.0 ∙ sym (eqb-true d c same) in
          rw (eq-eqb b d is) (begins-shorter rest prefix q first.1 some))
      | false ↦ (λ differs none. absurd (false≢true none))
    ] in
    both (d == c) refl there

-- what stands above the end of a way
pub record IsAbove (key rest : List ℕ) : Type 0 where
  pub front : List ℕ
  pub is : key ≡ front ++ rest

module _ {V : Type 0} where
  -- ---- the way along a prefix
  child_along-longer : (forest : Forest V) (rest w : List ℕ) (below : Shape V × List ℕ)
      → child_along forest rest ≡ Some below
      → child_along forest (rest ++ w) ≡ Some (below.0, below.1 ++ w)
  child_along-longer forest [] w below is = absurd (none-some below is)
  child_along-longer forest (b ∷ rest) w below is =
      let P : Option (Shape V) → Type 0 =
      λ o. option_map (λ child. (child, b ∷ rest)) o ≡ Some below
      → ◌≡◌ {A = Option (Shape V × List ℕ)}
      (option_map (λ child. (child, b ∷ (rest ++ w))) o) (Some (below.0, below.1 ++ w)) in
      let both : (o : Option (Shape V)) → P o = elim [
        | None ↦ (λ none. absurd (none-some below none))
        | Some child ↦ (λ same.
            let e : ◌≡◌ {A = Shape V × List ℕ} (child, b ∷ rest) below =
            same_Some (child, b ∷ rest) below same in
            λ i. Some ((e i).0, (e i).1 ++ w))
      ] in
      both (child_at b (entries_of forest)) is

  along-longer : (forest : Forest V) (o : Option (List ℕ)) (w : List ℕ) (prefix key : List ℕ)
      (below : Shape V × List ℕ) → strip_prefix prefix key ≡ o
      → option_and_then (child_along forest) o ≡ Some below
      → option_and_then (child_along forest) (strip_prefix prefix (key ++ w))
      ≡ Some (below.0, below.1 ++ w)
  along-longer forest None w prefix key below is there = absurd (none-some below there)
  along-longer forest (Some rest) w prefix key below is there =
      ap (option_and_then (child_along forest)) (strip-longer prefix key rest w is)
      ∙ child_along-longer forest rest w below there

  step-longer : (s : Shape V) (key w : List ℕ) (below : Shape V × List ℕ)
      → step key s ≡ Some below → step (key ++ w) s ≡ Some (below.0, below.1 ++ w)
  step-longer (node prefix value width forest) key w below is =
      along-longer forest (strip_prefix prefix key) w prefix key below refl is

  -- A longer string goes the same way.
  pub path_end-longer : (a : ℕ) (key w : List ℕ) (s : Shape V) (end : Shape V × List ℕ)
      → path_end a key s ≡ Some end → path_end a (key ++ w) s ≡ Some (end.0, end.1 ++ w)
  path_end-longer zero key w s end is =
      let e = same_Some (s, key) end is in λ i. Some ((e i).0, (e i).1 ++ w)
  path_end-longer (suc a) key w s end is =
      elim (step key s) as (λ o. step key s ≡ o
      → option_and_then (λ below. path_end a below.1 below.0) o ≡ Some end
      → path_end (suc a) (key ++ w) s ≡ Some (end.0, end.1 ++ w)) [
        | None ↦ λ goes none. absurd (none-some end none)
        | Some below ↦ λ goes there.
            ap (option_and_then (λ z. path_end a z.1 z.0)) (step-longer s key w below goes)
            ∙ path_end-longer a below.1 w below.0 end there
      ] refl is

  -- ... and has there what it has from the root on.
  pub found-longer : (a : ℕ) (key w : List ℕ) (s : Shape V) (end : Shape V × List ℕ)
      → path_end a key s ≡ Some end → found s (key ++ w) ≡ found end.0 (end.1 ++ w)
  found-longer a key w s end is =
      found-along a (key ++ w) s (end.0, end.1 ++ w) (path_end-longer a key w s end is)

  pub step-above : (s : Shape V) (key : List ℕ) (below : Shape V × List ℕ) → step key s ≡ Some below
      → key ≡ prefix_of s ++ below.1
  step-above s key below goes =
      let down = is-step s key below goes in
      split-whole (prefix_of s) key down.whole
      ∙ ap (λ rest. prefix_of s ++ rest) (sym down.rest)

  pub path-above : (a : ℕ) (key : List ℕ) (s : Shape V) (end : Shape V × List ℕ)
      → path_end a key s ≡ Some end → IsAbove key end.1
  path-above zero key s end is =
      record { front = []; is = ap (λ z. z.1) (same_Some (s, key) end is) }
  path-above (suc a) key s end is =
      elim (step key s) as (λ o. step key s ≡ o
      → option_and_then (λ below. path_end a below.1 below.0) o ≡ Some end
      → IsAbove key end.1) [
        | None ↦ λ goes none. absurd (none-some end none)
        | Some below ↦ λ goes there.
            let above = path-above a below.1 below.0 end there in
            record {
              front = prefix_of s ++ above.front;
              is = step-above s key below goes ∙ ap (λ z. prefix_of s ++ z) above.is
                  ∙ sym (append_assoc (prefix_of s) above.front end.1);
            }
      ] refl is

  pub path-fits : (a : ℕ) (key : List ℕ) (s : Shape V) (end : Shape V × List ℕ)
      → path_end a key s ≡ Some end → length end.1 ≤ length key
  path-fits a key s end is =
      let above = path-above a key s end is in
      let long = ap length above.is ∙ length-append above.front end.1 in
      omega (arith, long)

  pub path-rest : (a : ℕ) (key : List ℕ) (s : Shape V) (end : Shape V × List ℕ) (count : ℕ)
      → path_end a key s ≡ Some end → count + length end.1 ≡ length key
      → drop count key ≡ end.1
  path-rest a key s end count is counts =
      let above = path-above a key s end is in
      let long = ap length above.is ∙ length-append above.front end.1 in
      let same : count ≡ length above.front = omega (arith, long, counts) in
      (λ i. drop (same i) (above.is i)) ∙ drop-append_seam above.front end.1

  -- ---- where the way ends
  -- Nothing there: nothing is under the prefix.
  pub none-under : (a : ℕ) (key : List ℕ) (s : Shape V) (end : Shape V × List ℕ)
      → path_end a key s ≡ Some end → HasNoneUnder end.1 end.0 → HasNoneUnder key s
  none-under a key s end is none w = found-longer a key w s end is ∙ none w

  pub some-under : (a : ℕ) (key : List ℕ) (s : Shape V) (end : Shape V × List ℕ)
      → path_end a key s ≡ Some end → HasSomeUnder end.1 end.0 → HasSomeUnder key s
  some-under a key s end is some =
      (some.0, subst IsSome (sym (found-longer a key some.0 s end is)) some.1)

  -- what a node has under a string that its prefix begins with
  pub some-begun : (s : Shape V) (rest : List ℕ) → IsTree s → begins rest (prefix_of s) ≡ true
      → HasSomeUnder rest s
  some-begun s rest tree begun =
      let key = tree-has-key s tree in
      let split = (split-found s key.key key.there).0 in
      let more = begins-rest rest (prefix_of s) begun in (
        more.0 ++ drop (length (prefix_of s)) key.key,
        subst (λ z. IsSome (found s z)) (split
            ∙ ap (λ z. z ++ drop (length (prefix_of s)) key.key) more.1
            ∙ append_assoc rest more.0 (drop (length (prefix_of s)) key.key)) key.there,
      )

  pub not-begun : (s : Shape V) (rest q : List ℕ) → begins rest (prefix_of s) ≡ true
      → begins rest q ≡ false → found s q ≡ None
  not-begun (node prefix value width forest) rest q begun apart =
      elim (strip_prefix prefix q) as (λ o. strip_prefix prefix q ≡ o
      → option_and_then (inside value forest) o ≡ None) [
        | None ↦ λ _. refl
        | Some left ↦ λ is. absurd (false≢true (sym apart
            ∙ begins-shorter rest prefix q begun (ap is_some is)))
      ] refl

  pub stands-some : (p : List ℕ) (root : Shape V) (steps above : ℕ) (end : Shape V) → IsTree root
      → StandsUnder p root steps above end → HasSomeUnder p root
  stands-some p root steps above end tree stands =
      some-under steps p root (end, drop above p) stands.reached
      (some-begun end (drop above p)
      (tree-along steps p root (end, drop above p) tree stands.reached) stands.begun)

  -- Where it is the root, nothing else is there.
  pub stands-whole : (p : List ℕ) (root : Shape V) (steps above : ℕ) (end : Shape V) → steps ≡ 0
      → StandsUnder p root steps above end → (q : List ℕ) → begins p q ≡ false
      → found root q ≡ None
  stands-whole p root steps above end none stands q apart =
      let here : ◌≡◌ {A = Shape V × List ℕ} (root, p) (end, drop above p) =
      same_Some (root, p) (end, drop above p)
      (subst (λ n. path_end n p root ≡ Some (end, drop above p)) none stands.reached) in
      not-begun root p q
      (subst (λ (z : Shape V × List ℕ). begins z.1 (prefix_of z.0) ≡ true) (sym here) stands.begun)
      apart

  -- ---- the node alone, with what stands above it before its prefix
  pub lifted-found : (s : Shape V) (above q : List ℕ)
      → found (with_prefix (above ++ prefix_of s) s) q
      ≡ option_and_then (found s) (strip_prefix above q)
  lifted-found (node prefix value width forest) above q =
      ap (option_and_then (inside value forest)) (behind-append above prefix q)
      ∙ elim (strip_prefix above q) as (λ o. option_and_then (inside value forest)
      (option_and_then (strip_prefix prefix) o)
      ≡ option_and_then (found (node prefix value width forest)) o)
      [ None ↦ refl | Some rest ↦ refl ]

  lifted-tree : (s : Shape V) (prefix : List ℕ) → IsTree s → IsTree (with_prefix prefix s)
  lifted-tree (node old value width forest) prefix tree = tree

  chosen : (root end : Shape V) (front rest q : List ℕ) → begins rest (prefix_of end) ≡ true
      → ((w : List ℕ) → found root ((front ++ rest) ++ w) ≡ found end (rest ++ w))
      → (o : Option (List ℕ)) → strip_prefix front q ≡ o
      → option_and_then (found end) o ≡ cond (begins (front ++ rest) q) (found root q) None
  chosen root end front rest q begun goes None is =
      let no : begins (front ++ rest) q ≡ false =
      strip-begins (front ++ rest) q ∙ ap is_some (behind-append front rest q
      ∙ ap (option_and_then (strip_prefix rest)) is) in
      ap (λ t. cond t (found root q) None) (sym no)
  chosen root end front rest q begun goes (Some left) is =
      let whole = strip_prefix-is front q left is in
      let same : begins (front ++ rest) q ≡ begins rest left =
      ap (begins (front ++ rest)) whole ∙ begins-along front rest left in
      elim (begins rest left) as (λ t. begins rest left ≡ t
      → found end left ≡ cond (begins (front ++ rest) q) (found root q) None) [
        | true ↦ λ begun-left.
            let more = begins-rest rest left begun-left in
            ap (found end) more.1 ∙ sym (goes more.0)
            ∙ ap (found root) (append_assoc front rest more.0
            ∙ ap (λ z. front ++ z) (sym more.1) ∙ sym whole)
            ∙ ap (λ t. cond t (found root q) None) (sym (same ∙ begun-left))
        | false ↦ λ apart. not-begun end rest left begun apart
            ∙ ap (λ t. cond t (found root q) None) (sym (same ∙ apart))
      ] refl

  -- The node that has all under a prefix, lifted to the root, has that alone.
  pub lifted-alone : (root end : Shape V) (p : List ℕ) (steps above : ℕ) → IsTree root
      → StandsUnder p root steps above end
      → IsUnderAlone p root (Some (with_prefix (take above p ++ prefix_of end) end))
  lifted-alone root end p steps above tree stands =
      let whole : take above p ++ drop above p ≡ p = take-append-drop above p in
      let goes : (w : List ℕ) → found root ((take above p ++ drop above p) ++ w)
      ≡ found end (drop above p ++ w) =
      λ w. ap (λ z. found root (z ++ w)) whole
      ∙ found-longer steps p w root (end, drop above p) stands.reached in (
        lifted-tree end (take above p ++ prefix_of end)
            (tree-along steps p root (end, drop above p) tree stands.reached),
        λ q. lifted-found end (take above p) q
            ∙ chosen root end (take above p) (drop above p) q stands.begun goes
            (strip_prefix (take above p) q) refl
            ∙ ap (λ z. cond (begins z q) (found root q) None) whole,
      )

  -- ---- the search for the end of a prefix
  -- It has come to the node s, `steps` nodes down, with this rest of the prefix.
  pub record IsPrefixSearch (root : Shape V) (key : List ℕ) (start : Counts) (steps : ℕ)
      (s : Shape V) (rest : List ℕ) (now : Counts) : Type 0 where
    pub tree : IsTree s
    pub reached : path_end steps key root ≡ Some (s, rest)
    pub few : steps + path_bound s rest ≤ path_bound root key
    pub entered : now.entered ≡ start.entered + steps
    pub made : now.made ≡ start.made

  pub search-begins : (root : Shape V) (key : List ℕ) (start : Counts) → IsTree root
      → IsPrefixSearch root key start 0 root key start
  search-begins root key start tree =
      record {
        tree = tree;
        reached = refl;
        few = omega arith;
        entered = omega arith;
        made = refl;
      }

  module _ (root : Shape V) (key : List ℕ) (start : Counts) (steps : ℕ) (s : Shape V)
      (rest : List ℕ) (now : Counts) (at : IsPrefixSearch root key start steps s rest now) where
    pub search-few : steps + 1 ≤ path_bound root key
    search-few = let one = path-one s rest in let few = at.few in omega (arith, one, few)

    pub search-fits : length rest ≤ length key
    search-fits = path-fits steps key root (s, rest) at.reached

    pub search-stands : (above : ℕ) → above ≡ length key - length rest
        → begins rest (prefix_of s) ≡ true → StandsUnder key root steps above s
    search-stands above is begun =
        let fits = search-fits in
        let left : drop above key ≡ rest =
        path-rest steps key root (s, rest) above at.reached (omega (arith, is, fits)) in
        record {
          within = omega (arith, is);
          reached = at.reached ∙ ap (λ z. Some (s, z)) (sym left);
          begun = ap (λ z. begins z (prefix_of s)) left ∙ begun;
        }

    pub search-none : HasNoneUnder rest s → HasNoneUnder key root
    search-none none = none-under steps key root (s, rest) at.reached none

    module _ (after : Counts) (opens : after ≡ record now { entered = now.entered + 1 }) where
      pub search-counts : CountsUpTo (path_bound root key) 0 start after
      search-counts =
          let few = search-few in
          let entered = at.entered in
          let made = at.made in
          let one = ap (λ z. z.entered) opens in
          let same = ap (λ z. z.made) opens in
          record {
            entered_grows = omega (arith, entered, one);
            entered_at_most = omega (arith, entered, one, few);
            made_grows = omega (arith, made, same);
            made_at_most = omega (arith, made, same);
          }

      pub search-enters : start.entered < after.entered
      search-enters = let entered = at.entered in let one = ap (λ z. z.entered) opens in
          omega (arith, entered, one)

      module _ (child : Shape V) (left : List ℕ) (goes : step rest s ≡ Some (child, left)) where
        down : IsStep rest s (child, left)
        down = is-step s rest (child, left) goes

        known : IsBranch (first_byte left) child s
        known = branch s (first_byte left) child (ordered s at.tree) down.child

        pub search-lower : height child < height s
        search-lower = known.lower

        shorter : 1 + path_bound child left ≤ path_bound s rest
        shorter =
            let matched = common_length (prefix_of s) rest in
            let within = (common-within (prefix_of s) rest).1 in
            let long = ap length down.rest ∙ length-drop matched rest in
            path-step s child rest left (first_byte left) matched known.begins down.whole
            (omega (arith, long, within))
            (begins-long (first_byte left) left (begins-first (first_byte left) left down.next))

        pub search-steps-fit : steps < length key
        search-steps-fit = let one = path-one child left in let few = at.few in
            let most = path-most root key in omega (arith, one, few, most, shorter)

        pub search-goes : IsPrefixSearch root key start (steps + 1) child left after
        search-goes =
            let few = at.few in
            let entered = at.entered in
            let one = ap (λ z. z.entered) opens in
            record {
              tree = known.tree;
              reached = back-is steps 1 (steps + 1) key root (s, rest) refl at.reached
                  ∙ ap (option_and_then (λ below. Some (below.0, below.1))) goes;
              few = omega (arith, few, shorter);
              entered = omega (arith, entered, one);
              made = ap (λ z. z.made) opens ∙ at.made;
            }

  -- ---- one turn
  pub turn-apart : (s : Shape V) (rest : List ℕ) (common : ℕ)
      → common ≡ common_length (prefix_of s) rest → (common ≡ length rest → ⊥)
      → common < length (prefix_of s) → HasNoneUnder rest s
  turn-apart s rest common is other short w =
      let within = (common-within (prefix_of s) rest).1 in
      found-left s (rest ++ w)
      (strip-apart (prefix_of s) rest w (omega (arith, short, is))
      (omega (arith, is, within, other)))

  module _ (s : Shape V) (rest : List ℕ) (common byte : ℕ)
      (is : common ≡ common_length (prefix_of s) rest) (other : common ≡ length rest → ⊥)
      (whole : length (prefix_of s) ≤ common) (reads : byte ≡ slice_index_or rest common 0) where
    pub turn-below : common < length rest
    turn-below = let within = (common-within (prefix_of s) rest).1 in
        omega (arith, is, within, other)

    left-is : drop common rest ≡ byte ∷ drop (suc common) rest
    left-is = drop-cons rest common 0 turn-below
        ∙ ap (λ b. b ∷ drop (suc common) rest) (sym reads)

    strips : strip_prefix (prefix_of s) rest ≡ Some (byte ∷ drop (suc common) rest)
    strips = strip_prefix-whole (prefix_of s) rest (omega (arith, whole, is))
        ∙ ap (λ n. Some (drop n rest)) (sym is) ∙ ap Some left-is

    pub turn-missing : child_at byte (children_of s) ≡ None → HasNoneUnder rest s
    turn-missing missing w =
        found-deeper s (rest ++ w) (byte ∷ (drop (suc common) rest ++ w)) byte
        (strip-longer (prefix_of s) rest (byte ∷ drop (suc common) rest) w strips) refl
        ∙ ap (option_and_then (λ child. found child (byte ∷ (drop (suc common) rest ++ w)))) missing

    pub turn-down : (child : Shape V) → child_at byte (children_of s) ≡ Some child
        → step rest s ≡ Some (child, drop common rest)
    turn-down child here =
        step-along s child rest (byte ∷ drop (suc common) rest) (sym strips) (sym here)
        ∙ ap (λ z. Some (child, z)) (sym left-is)

  -- ---- a root of its own
  -- What stands above it and its prefix are within some key.
  pub stands-admitted : (most : Option ℕ) (root end : Shape V) (p : List ℕ) (steps above : ℕ)
      → IsTree root → StandsUnder p root steps above end → AreAdmitted most root
      → IsAdmitted most (above + length (prefix_of end))
  stands-admitted most root end p steps above tree stands admitted =
      let left = drop above p in
      let key = tree-has-key end (tree-along steps p root (end, left) tree stands.reached) in
      let split = split-found end key.key key.there in
      let behind = drop (length (prefix_of end)) key.key in
      let more = begins-rest left (prefix_of end) stands.begun in
      let rest = more.0 ++ behind in
      let whole : key.key ≡ left ++ rest =
      split.0 ∙ ap (λ z. z ++ behind) more.1 ∙ append_assoc left more.0 behind in
      let there = subst IsSome (sym (found-longer steps p rest root (end, left) stands.reached
      ∙ ap (found end) (sym whole))) key.there in
      let long = length-append p rest in
      let parts = ap length whole ∙ length-append left rest in
      let fewer = length-drop above p in
      let within = stands.within in
      let fits = split.1 in
      admitted-part most (above + length (prefix_of end)) (length (p ++ rest))
      (omega (arith, long, parts, fewer, within, fits)) (admitted (p ++ rest) there)
