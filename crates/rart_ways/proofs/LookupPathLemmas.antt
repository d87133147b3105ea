-- The way that a key takes down a tree, a node at a time, and a search that counts its steps.
use Rattle.std.proofs.Common.{◌≡◌, ℕ, zero, suc, ◌+◌, ◌<◌, ◌≤◌, List, [], ◌∷◌, Option, Some, None, length, refl, arith, sym, ap, ◌∙◌}
use Rattle.std.specs.Option.{option_and_then, option_map}
use Rattle.std.proofs.lemmas.Option.{none-some}
use Rattle.rart_node.specs.Counts.{Counts}
use Rattle.rart_node.specs.Shape.{Shape, node, prefix_of}
use Rattle.rart_ways.specs.Paths.{step, path_end}
use Rattle.rart_ways.specs.Steps.{child_under}
use Rattle.rart_ways.proofs.StepLemmas.{under}
use Rattle.rart_node.specs.Trees.{strip_prefix, path_bound}
use Rattle.rart_node.proofs.CountingLemmas.{path-one, path-most}
use Rattle.rart_node.proofs.FindLemmas.{branch, ordered}
use Rattle.rart_node.proofs.MatchLemmas.{path-deeper}
use Rattle.rart_node.proofs.SearchLemmas.{IsSearchAt}

module _ {V : Type 0} where
  -- one node down, by what the prefix leaves of the key
  pub step-along : (s child : Shape V) (key left : List ℕ) → Some left ≡ strip_prefix (prefix_of s) key
      → Some child ≡ child_under left s → step key s ≡ Some (child, left)
  step-along (node prefix value width forest) child key [] is here =
      absurd (none-some child (sym here))
  step-along (node prefix value width forest) child key (byte ∷ left) is here =
      rw (sym is) (ap (option_map (λ c. (c, byte ∷ left))) (sym here))

  pub path_end-add : (a b : ℕ) (key : List ℕ) (s : Shape V)
      → path_end (a + b) key s ≡ option_and_then (λ end. path_end b end.1 end.0) (path_end a key s)
  path_end-add zero b key s = let e : zero + b ≡ b = omega arith in rw e refl
  path_end-add (suc a) b key s =
      let e : suc a + b ≡ suc (a + b) = omega arith in
      let P : Option (Shape V × List ℕ) → Type 0 =
      λ o. option_and_then (λ below. path_end (a + b) below.1 below.0) o
      ≡ option_and_then (λ end. path_end b end.1 end.0)
      (option_and_then (λ below. path_end a below.1 below.0) o) in
      let both : (o : Option (Shape V × List ℕ)) → P o =
      elim [ None ↦ refl | Some below ↦ path_end-add a b below.1 below.0 ] in
      rw e (both (step key s))

  pub back-is : (a b steps : ℕ) (key : List ℕ) (s : Shape V) (middle : Shape V × List ℕ)
      → steps ≡ a + b → path_end a key s ≡ Some middle
      → path_end steps key s ≡ path_end b middle.1 middle.0
  back-is a b steps key s middle is there = ap (λ n. path_end n key s) is ∙ path_end-add a b key s
      ∙ ap (option_and_then (λ end. path_end b end.1 end.0)) there

  -- The search for a key below the root is `steps` nodes down.
  pub record IsSearchDown (root : Shape V) (key : List ℕ) (start : Counts) (steps : ℕ) (s : Shape V)
      (rest : List ℕ) (now : Counts) : Type 0 where
    pub at : IsSearchAt root key start s rest now
    pub reached : path_end steps key root ≡ Some (s, rest)
    pub few : steps + path_bound s rest ≤ path_bound root key

  module _ (root : Shape V) (key : List ℕ) (start : Counts) (steps : ℕ) (s : Shape V)
      (rest : List ℕ) (now : Counts) (down : IsSearchDown root key start steps s rest now) where
    module _ (left : List ℕ) (strips : Some left ≡ strip_prefix (prefix_of s) rest) where
      module _ (child : Shape V) (here : Some child ≡ child_under left s) where
        shorter : 1 + path_bound child left ≤ path_bound s rest
        shorter = let at-byte = under left s child here in
            path-deeper s child rest left at-byte.byte (sym strips) (sym at-byte.next)
            (branch s at-byte.byte child (ordered s down.at.tree) (sym at-byte.here))

        pub steps-fit : steps < length key
        steps-fit = let one = path-one child left in let few = down.few in
            let most = path-most root key in omega (arith, one, few, most, shorter)

        pub search-down : (after : Counts) → IsSearchAt root key start child left after
            → IsSearchDown root key start (steps + 1) child left after
        search-down after at =
            record {
              at = at;
              reached =
                  back-is steps 1 (steps + 1) key root (s, rest) refl down.reached
                  ∙ ap (option_and_then (λ below. Some (below.0, below.1)))
                  (step-along s child rest left strips here);
              few = let few = down.few in omega (arith, few, shorter);
            }
