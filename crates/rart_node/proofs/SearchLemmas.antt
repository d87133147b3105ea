-- A search for a key that goes down from a root, one node at a time: what is known where it has
-- come to.
use Rattle.std.proofs.Common.{◌≡◌, ◌+◌, ◌<◌, ◌≤◌, ℕ, List, Option, Some, None, slice_get, refl, arith, sym, ap, ◌∙◌}
use Rattle.std.specs.Option.{option_and_then}
use Rattle.rart_below.specs.Children.{child_at}
use Rattle.rart_node.specs.Counts.{Counts, CountsUpTo}
use Rattle.rart_node.specs.Shape.{Shape, height, prefix_of, value_of, children_of}
use Rattle.rart_node.specs.Trees.{strip_prefix, found, IsTree, path_bound}
use Rattle.rart_node.proofs.CountingLemmas.{path-one}
use Rattle.rart_node.proofs.FindLemmas.{branch, ordered}
use Rattle.rart_node.proofs.MatchLemmas.{found-left, found-here, found-deeper, path-deeper}

module _ {V : Type 0} where
  -- The search for a key below the root has come to the node s with this rest of the key.
  pub record IsSearchAt (root : Shape V) (key : List ℕ) (start : Counts) (s : Shape V)
      (rest : List ℕ) (now : Counts) : Type 0 where
    pub tree : IsTree s
    pub same : found root key ≡ found s rest
    pub entered_grows : start.entered ≤ now.entered
    pub entered_at_most : now.entered + path_bound s rest ≤ start.entered + path_bound root key
    pub made : now.made ≡ start.made

  module _ (root : Shape V) (key : List ℕ) (start : Counts) where
    pub search-start : IsTree root → IsSearchAt root key start root key start
    search-start tree =
        record {
          tree = tree;
          same = refl;
          entered_grows = omega arith;
          entered_at_most = omega arith;
          made = refl;
        }

    module _ (s opened : Shape V) (rest : List ℕ) (now after : Counts)
        (at : IsSearchAt root key start s rest now)
        (opens : after ≡ record now { entered = now.entered + 1 }) (same : opened ≡ s) where
      entered-is : after.entered ≡ now.entered + 1
      entered-is = ap (λ z. z.entered) opens

      made-is : after.made ≡ now.made
      made-is = ap (λ z. z.made) opens

      pub search-counted : CountsUpTo (path_bound root key) 0 start after
      search-counted =
          let one = path-one s rest in
          let grows = at.entered_grows in
          let most = at.entered_at_most in
          let made = at.made in
          record {
            entered_grows = omega (arith, grows, entered-is);
            entered_at_most = omega (arith, most, one, entered-is);
            made_grows = omega (arith, made, made-is);
            made_at_most = omega (arith, made, made-is);
          }

      pub search-entered : start.entered < after.entered
      search-entered = let grows = at.entered_grows in omega (arith, grows, entered-is)

      module _ (prefix : List ℕ) (is : prefix ≡ prefix_of opened) where
        pub stripped : (left : Option (List ℕ)) → left ≡ strip_prefix prefix rest
            → strip_prefix (prefix_of s) rest ≡ left
        stripped left strips = sym (strips ∙ ap (λ p. strip_prefix p rest) (is ∙ ap prefix_of same))

        pub search-left : None ≡ strip_prefix prefix rest → found root key ≡ None
        search-left strips = at.same ∙ found-left s rest (stripped None strips)

        module _ (left : List ℕ) (strips : Some left ≡ strip_prefix prefix rest) where
          pub search-here : None ≡ slice_get left 0 → found root key ≡ value_of opened
          search-here end = at.same ∙ found-here s rest left (stripped (Some left) strips) (sym end)
              ∙ ap value_of (sym same)

          module _ (byte : ℕ) (next : Some byte ≡ slice_get left 0) where
            pub deeper : (o : Option (Shape V)) → o ≡ child_at byte (children_of opened)
                → child_at byte (children_of s) ≡ o
            deeper o here = sym (here ∙ ap (λ z. child_at byte (children_of z)) same)

            pub search-missing : None ≡ child_at byte (children_of opened) → found root key ≡ None
            search-missing missing =
                at.same ∙ found-deeper s rest left byte (stripped (Some left) strips) (sym next)
                ∙ ap (option_and_then (λ child. found child left)) (deeper None missing)

            pub search-lower : (child : Shape V) → Some child ≡ child_at byte (children_of opened)
                → height child < height s
            search-lower child here =
                (branch s byte child (ordered s at.tree) (deeper (Some child) here)).lower

            pub search-child : (child : Shape V) → Some child ≡ child_at byte (children_of opened)
                → IsSearchAt root key start child left after
            search-child child here =
                let known = branch s byte child (ordered s at.tree) (deeper (Some child) here) in
                let shorter =
                path-deeper s child rest left byte (stripped (Some left) strips)
                (sym next) known in
                let grows = at.entered_grows in
                let most = at.entered_at_most in
                record {
                  tree = known.tree;
                  same =
                      at.same ∙ found-deeper s rest left byte (stripped (Some left) strips)
                      (sym next) ∙ ap (option_and_then (λ z. found z left))
                      (deeper (Some child) here);
                  entered_grows = omega (arith, grows, entered-is);
                  entered_at_most = omega (arith, most, shorter, entered-is);
                  made = made-is ∙ at.made;
                }
