-- What a plan and its parts ask of a tree and make of it: inside only.
use Rattle.std.specs.Prelude.{◌≡◌, ℕ, zero, suc, ◌+◌, List, [], Option, Some, None, IsSome, Result, Ok, Err, ⊤, slice_get}
use Rattle.std.specs.Option.{option_and_then}
use Rattle.rart_below.specs.Children.{child_at}
use Rattle.rart_node.specs.Shape.{Shape, prefix_of, value_of, children_of, with_value, with_deleted}
use Rattle.rart_ways.specs.declared.removal.edit.Edit.{Edit}
use Rattle.rart_ways.specs.declared.removal.edit.Edit.TheVariants.{Take, Prune, Replace}
use Rattle.rart_ways.specs.declared.removal.plan.Plan.{Plan}
use Rattle.rart_ways.specs.declared.removal.plan.Plan.TheVariants.{Absent, Leaf, At}
use Rattle.rart_node.specs.Trees.{strip_prefix, found, IsTaken}
use Rattle.rart_ways.specs.Paths.{path_end}

module _ {V : Type 0} where
  -- the value of the child under the byte
  abbrev pub value_under : ℕ → Shape V → Option V
  value_under byte s = option_and_then value_of (child_at byte (children_of s))

  -- A node with a value and no child, at which the key ends.
  abbrev pub IsLeafAt : List ℕ → Shape V → Type 0
  IsLeafAt key s = (children_of s ≡ []) × IsSome (value_of s)
      × (strip_prefix (prefix_of s) key ≡ Some [])

  -- Behind the prefix the key goes on with the byte, to this child with this rest.
  pub record GoesOn (key : List ℕ) (s : Shape V) (byte : ℕ) (child : Shape V) (rest : List ℕ)
      : Type 0 where
    pub strips : strip_prefix (prefix_of s) key ≡ Some rest
    pub next : slice_get rest 0 ≡ Some byte
    pub here : child_at byte (children_of s) ≡ Some child

  -- One node above the one that is so many nodes down the way of a key, at which this is left of
  -- it, stands this node, and the way goes on under the byte.
  pub record IsAbove (key : List ℕ) (root : Shape V) (steps : ℕ) (s : Shape V) (byte : ℕ)
      (child : Shape V) (rest : List ℕ) : Type 0 where
    pub before : ℕ
    pub one_more : steps ≡ before + 1
    pub left : List ℕ
    pub reached : path_end before key root ≡ Some (s, left)
    pub goes : GoesOn left s byte child rest

  -- Under the byte the key goes on to a leaf that it ends at.
  abbrev pub LeadsToLeaf : ℕ → List ℕ → Shape V → Type 0
  LeadsToLeaf byte key s = (leaf : Shape V) × (rest : List ℕ) × GoesOn key s byte leaf rest
      × IsLeafAt rest leaf

-- how many nodes an edit enters, and makes
abbrev pub edit_cost : {P V : Type 0} → Edit P V → ℕ
edit_cost Take = 1
edit_cost (Prune byte) = 2
edit_cost (Replace node value) = 0

-- how many more are entered, and made, until the plan is carried out
abbrev pub plan_cost : {P V : Type 0} → Plan P V → ℕ
plan_cost Absent = 0
plan_cost Leaf = 1
plan_cost (At depth edit) = depth + edit_cost edit

abbrev pub cost_of : {P V E : Type 0} → Result (Plan P V) E → ℕ
cost_of (Ok plan) = plan_cost plan
cost_of (Err refused) = 0

abbrev pub edit_cost_of : {P V E : Type 0} → Result (Edit P V) E → ℕ
edit_cost_of (Ok edit) = edit_cost edit
edit_cost_of (Err refused) = 0

module _ {P V : Type 0} where
  -- what an edit makes of a node, and the value that goes
  abbrev pub edited : Edit P V → Shape V → Shape V
  edited Take s = with_value None s
  edited (Prune byte) s = with_deleted byte s
  edited (Replace node value) s = node.shape

  abbrev pub gone : Edit P V → Shape V → Option V
  gone Take s = value_of s
  gone (Prune byte) s = value_under byte s
  gone (Replace node value) s = value

  -- A child that is to be taken out is there.
  abbrev pub Fits : Edit P V → Shape V → Type 0
  Fits Take s = ⊤
  Fits (Prune byte) s = IsSome (child_at byte (children_of s))
  Fits (Replace node value) s = ⊤

  -- The edit takes the key out of the tree at this node.
  pub record Removes (edit : Edit P V) (key : List ℕ) (s : Shape V) : Type 0 where
    pub fits : Fits edit s
    pub taken : IsTaken key s (edited edit s)
    pub value : gone edit s ≡ found s key

  -- It does so this many nodes down the way of the key.
  abbrev pub RemovesBelow : ℕ → Edit P V → List ℕ → Shape V → Type 0
  RemovesBelow zero edit key s = Removes edit key s
  RemovesBelow (suc depth) edit key s = (byte : ℕ) × (child : Shape V) × (rest : List ℕ)
      × GoesOn key s byte child rest × RemovesBelow depth edit rest child

  -- The plan takes the key out of the tree.
  abbrev pub IsPlan : Plan P V → List ℕ → Shape V → Type 0
  IsPlan Absent key s = found s key ≡ None
  IsPlan Leaf key s = IsLeafAt key s
  IsPlan (At depth edit) key s = RemovesBelow depth edit key s × IsSome (found s key)
