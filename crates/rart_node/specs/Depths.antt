-- A node is as deep as the deepest of the pointers that it holds says.
use Rattle.std.specs.Prelude.{ℕ, ◌≤◌, List, [], ◌∷◌, Option, None, Some}
use Rattle.std.specs.Global.{Box}
use Rattle.std.proofs.Common.{arith}
use Rattle.rart_below.specs.declared.partial.Partial.{Ghosts as Prefixes}
use Rattle.rart_below.specs.declared.mapping.sorted.SortedKeyedMapping.{SortedKeyedMapping}
use Rattle.rart_below.specs.declared.mapping.indexed.IndexedMapping.{IndexedMapping}
use Rattle.rart_below.specs.declared.mapping.direct.DirectMapping.{DirectMapping}
use Rattle.rart_node.specs.declared.node.VersionedNode.TheInside.{Inside}
use Rattle.rart_node.specs.declared.node.VersionedNode.TheDeep.{deep-VersionedNode}
use Rattle.rart_node.specs.declared.content.Layout.TheVariants.{Leaf, Node4, Node16, Node48, Node256}
use Rattle.rart_node.specs.declared.wide_box.WideBox.{WideBox}
use Rattle.rart_node.specs.Seen.{Seen}
use Rattle.rart_node.specs.Contents.{Content}
use Rattle.rart_node.specs.NodeShapes.{depth_of_content, depth_of_slots}

module _ {P V : Type 0} (prefixes : Prefixes P) (held : Inside P V) where
  -- the node with this content, as Rattle measures it
  abbrev depth_with : Content (Seen V) → ℕ
  depth_with content = deep-VersionedNode P V prefixes (record held { content = content })

  -- with this mapping, its slots replaced
  abbrev depth_4 : ℕ → Box (SortedKeyedMapping (Seen V) 4) → List (Option (Seen V)) → ℕ
  depth_4 upper mapping slots =
      depth_with (Node4 upper (record mapping {
        value = record mapping.value { children = record { slots = slots } };
      }))

  abbrev depth_16 : ℕ → WideBox (SortedKeyedMapping (Seen V) 16) (Seen V)
      → List (Option (Seen V)) → ℕ
  depth_16 upper mapping slots =
      depth_with (Node16 upper (record mapping {
        boxed = record mapping.boxed {
          value = record mapping.boxed.value { children = record { slots = slots } };
        };
      }))

  abbrev depth_48 : ℕ → WideBox (IndexedMapping (Seen V)) (Seen V) → List (Option (Seen V)) → ℕ
  depth_48 upper mapping slots =
      depth_with (Node48 upper (record mapping {
        boxed = record mapping.boxed {
          value = record mapping.boxed.value { children = record { slots = slots } };
        };
      }))

  abbrev depth_256 : ℕ → WideBox (DirectMapping (Seen V)) (Seen V) → List (Option (Seen V)) → ℕ
  depth_256 upper mapping slots =
      depth_with (Node256 upper (record mapping {
        boxed = record mapping.boxed {
          value = record mapping.boxed.value { children = record { slots = slots } };
        };
      }))

  deepest_4 : (upper : ℕ) (mapping : Box (SortedKeyedMapping (Seen V) 4))
      (slots : List (Option (Seen V))) → depth_4 upper mapping slots ≤ depth_of_slots slots
  deepest_4 upper mapping [] = omega arith
  deepest_4 upper mapping (None ∷ slots) = omega (arith, deepest_4 upper mapping slots)
  deepest_4 upper mapping (Some child ∷ slots) = omega (arith, deepest_4 upper mapping slots)

  deepest_16 : (upper : ℕ) (mapping : WideBox (SortedKeyedMapping (Seen V) 16) (Seen V))
      (slots : List (Option (Seen V))) → depth_16 upper mapping slots ≤ depth_of_slots slots
  deepest_16 upper mapping [] = omega arith
  deepest_16 upper mapping (None ∷ slots) = omega (arith, deepest_16 upper mapping slots)
  deepest_16 upper mapping (Some child ∷ slots) = omega (arith, deepest_16 upper mapping slots)

  deepest_48 : (upper : ℕ) (mapping : WideBox (IndexedMapping (Seen V)) (Seen V))
      (slots : List (Option (Seen V))) → depth_48 upper mapping slots ≤ depth_of_slots slots
  deepest_48 upper mapping [] = omega arith
  deepest_48 upper mapping (None ∷ slots) = omega (arith, deepest_48 upper mapping slots)
  deepest_48 upper mapping (Some child ∷ slots) = omega (arith, deepest_48 upper mapping slots)

  deepest_256 : (upper : ℕ) (mapping : WideBox (DirectMapping (Seen V)) (Seen V))
      (slots : List (Option (Seen V))) → depth_256 upper mapping slots ≤ depth_of_slots slots
  deepest_256 upper mapping [] = omega arith
  deepest_256 upper mapping (None ∷ slots) = omega (arith, deepest_256 upper mapping slots)
  deepest_256 upper mapping (Some child ∷ slots) = omega (arith, deepest_256 upper mapping slots)

  deepest_at : (content : Content (Seen V)) → depth_with content ≤ depth_of_content content
  deepest_at (Leaf upper) = omega arith
  deepest_at (Node4 upper mapping) = deepest_4 upper mapping mapping.value.children.slots
  deepest_at (Node16 upper mapping) = deepest_16 upper mapping mapping.boxed.value.children.slots
  deepest_at (Node48 upper mapping) = deepest_48 upper mapping mapping.boxed.value.children.slots
  deepest_at (Node256 upper mapping) = deepest_256 upper mapping mapping.boxed.value.children.slots

  pub deepest : deep-VersionedNode P V prefixes held ≤ depth_of_content held.content
  deepest = deepest_at held.content
