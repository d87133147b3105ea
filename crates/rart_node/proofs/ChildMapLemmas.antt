-- What maps children commutes with what is done to one under its byte.
use Rattle.std.proofs.Common.{◌≡◌, ℕ, List, [], ◌∷◌, true, false, not, Option, Some, None, cond, drop, take, length, refl, ap, ◌∙◌}
use Rattle.std.specs.Prelude.{◌==◌, nat_le, nat_lt, is_some}
use Rattle.std.specs.Option.{option_map}
use Rattle.std.proofs.lemmas.List.{drop-map, take-map, length-map, map-append}
use Rattle.std.specs.Ordering.{nat_cmp, eq_by_cmp}
use Rattle.std.specs.FinMap.Entries.{find, put, by_order}
use Rattle.std.specs.declared.cmp.Ordering.TheVariants.{Less, Equal, Greater}
use Rattle.rart_below.specs.Children.{child_at, with_child, without_child, children_below, children_from, first_of, map_children, IsLastOf, TakesEntry, TakesFirst, TakesLast}
use Rattle.rart_below.proofs.MoveLemmas.{children_from-zero}
use Rattle.rart_node.specs.Contents.{before_at, left_at}

-- at its beginning a walk has all
pub left_at-zero : {X : Type 0} (width : ℕ) (es : List (ℕ × X)) → left_at width 0 es ≡ es
left_at-zero width es =
    elim (nat_lt width 17) as (λ t. cond t (drop 0 es) (children_from 0 es) ≡ es) [
      | true ↦ refl
      | false ↦ children_from-zero es
    ]

module _ {X Y : Type 0} (f : X → Y) where
  pub length-map_children : (children : List (ℕ × X))
      → length (map_children f children) ≡ length children
  length-map_children children = length-map children (λ child. (child.0, f child.1))

  pub child_at-map_children : (b : ℕ) (es : List (ℕ × X))
      → child_at b (map_children f es) ≡ option_map f (child_at b es)
  child_at-map_children b [] = refl
  child_at-map_children b (e ∷ es) =
      elim (eq_by_cmp nat_cmp b e.0)
      as (λ t. cond t (Some (f e.1)) (find nat_cmp b (map_children f es))
      ≡ option_map f (cond t (Some e.1) (find nat_cmp b es)))
      [ true ↦ refl | false ↦ child_at-map_children b es ]

  pub with_child-map_children : (b : ℕ) (x : X) (es : List (ℕ × X))
      → map_children f (with_child b x es) ≡ with_child b (f x) (map_children f es)
  with_child-map_children b x [] = refl
  with_child-map_children b x (e ∷ es) =
      elim (nat_cmp b e.0) as (λ o. map_children f
      (by_order o ((b, x) ∷ e ∷ es) ((e.0, x) ∷ es) (e ∷ put nat_cmp b x es))
      ≡ by_order o ((b, f x) ∷ map_children f (e ∷ es)) ((e.0, f x) ∷ map_children f es)
      ((e.0, f e.1) ∷ put nat_cmp b (f x) (map_children f es))) [
        | Less ↦ refl
        | Equal ↦ refl
        | Greater ↦ ap (λ (rest : List (ℕ × Y)). (e.0, f e.1) ∷ rest)
            (with_child-map_children b x es)
      ]

  pub without_child-map_children : (b : ℕ) (es : List (ℕ × X))
      → map_children f (without_child b es) ≡ without_child b (map_children f es)
  without_child-map_children b [] = refl
  without_child-map_children b (e ∷ es) =
      elim (not (e.0 == b)) as (λ t.
      map_children f (cond t (e ∷ without_child b es) (without_child b es))
      ≡ cond t ((e.0, f e.1) ∷ without_child b (map_children f es))
      (without_child b (map_children f es))) [
        | true ↦ ap (λ rest. (e.0, f e.1) ∷ rest) (without_child-map_children b es)
        | false ↦ without_child-map_children b es
      ]

  pub children_from-map_children : (n : ℕ) (es : List (ℕ × X))
      → children_from n (map_children f es) ≡ map_children f (children_from n es)
  children_from-map_children n [] = refl
  children_from-map_children n (e ∷ es) =
      elim (nat_le n e.0) as (λ t. cond t ((e.0, f e.1) ∷ children_from n (map_children f es))
      (children_from n (map_children f es))
      ≡ map_children f (cond t (e ∷ children_from n es) (children_from n es))) [
        | true ↦ ap (λ rest. (e.0, f e.1) ∷ rest) (children_from-map_children n es)
        | false ↦ children_from-map_children n es
      ]

  pub children_below-map_children : (n : ℕ) (es : List (ℕ × X))
      → children_below n (map_children f es) ≡ map_children f (children_below n es)
  children_below-map_children n [] = refl
  children_below-map_children n (e ∷ es) =
      elim (nat_lt e.0 n) as (λ t. cond t ((e.0, f e.1) ∷ children_below n (map_children f es))
      (children_below n (map_children f es))
      ≡ map_children f (cond t (e ∷ children_below n es) (children_below n es))) [
        | true ↦ ap (λ rest. (e.0, f e.1) ∷ rest) (children_below-map_children n es)
        | false ↦ children_below-map_children n es
      ]

  -- the last that is taken is the last
  pub last-map_children : (before : List (ℕ × X)) (o : Option X) (after : List (ℕ × X))
      → TakesLast before o after → IsLastOf (map_children f before) (option_map f o)
  last-map_children before None after takes = ap (map_children f) takes.0
  last-map_children before (Some x) after takes = (
    map_children f after,
    takes.0,
    ap (map_children f) takes.1 ∙ map-append (λ e. (e.0, f e.1)) after ((takes.0, x) ∷ []),
  )

  -- the others are left then
  pub takes_last-map_children : (before : List (ℕ × X)) (o : Option X) (after : List (ℕ × X))
      → TakesLast before o after
      → TakesLast (map_children f before) (option_map f o) (map_children f after)
  takes_last-map_children before None after takes =
      (ap (map_children f) takes.0, ap (map_children f) takes.1)
  takes_last-map_children before (Some x) after takes = (
    takes.0,
    ap (map_children f) takes.1 ∙ map-append (λ e. (e.0, f e.1)) after ((takes.0, x) ∷ []),
  )

  pub before_at-map_children : (width end : ℕ) (es : List (ℕ × X))
      → before_at width end (map_children f es) ≡ map_children f (before_at width end es)
  before_at-map_children width end es =
      elim (nat_lt width 17) as (λ t.
      cond t (take end (map_children f es)) (children_below end (map_children f es))
      ≡ map_children f (cond t (take end es) (children_below end es))) [
        | true ↦ take-map (λ e. (e.0, f e.1)) end es
        | false ↦ children_below-map_children end es
      ]

  pub left_at-map_children : (width from : ℕ) (es : List (ℕ × X))
      → left_at width from (map_children f es) ≡ map_children f (left_at width from es)
  left_at-map_children width from es =
      elim (nat_lt width 17) as (λ t.
      cond t (drop from (map_children f es)) (children_from from (map_children f es))
      ≡ map_children f (cond t (drop from es) (children_from from es))) [
        | true ↦ drop-map (λ e. (e.0, f e.1)) from es
        | false ↦ children_from-map_children from es
      ]

  pub takes_entry-map_children : (before : List (ℕ × X)) (o : Option (ℕ × X)) (after : List (ℕ × X))
      → TakesEntry before o after
      → TakesEntry (map_children f before) (option_map (λ e. (e.0, f e.1)) o)
      (map_children f after)
  takes_entry-map_children before None after takes =
      (ap (map_children f) takes.0, ap (map_children f) takes.1)
  takes_entry-map_children before (Some entry) after takes = ap (map_children f) takes

  pub takes-map_children : (before : List (ℕ × X)) (o : Option X) (after : List (ℕ × X))
      → TakesFirst before o after
      → TakesFirst (map_children f before) (option_map f o) (map_children f after)
  takes-map_children before None after takes =
      (ap (map_children f) takes.0, ap (map_children f) takes.1)
  takes-map_children before (Some x) after takes = (takes.0, ap (map_children f) takes.1)

  pub first_of-map_children : (es : List (ℕ × X))
      → first_of (map_children f es) ≡ option_map (λ e. (e.0, f e.1)) (first_of es)
  first_of-map_children [] = refl
  first_of-map_children (e ∷ es) = refl

  pub is_some-mapped : (o : Option X) → is_some o ≡ is_some (option_map f o)
  is_some-mapped None = refl
  is_some-mapped (Some x) = refl
