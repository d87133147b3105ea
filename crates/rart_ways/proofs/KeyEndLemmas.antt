-- The way down to the node that a key ends at, and what follows from where it has come to.
use Rattle.std.proofs.Common.{◌≡◌, ℕ, zero, suc, ◌+◌, ◌++◌, List, [], ◌∷◌, Option, Some, None, slice_get, refl, sym, ap, subst, ◌∙◌, append-nil}
use Rattle.std.specs.Option.{IfSome, option_and_then}
use Rattle.std.proofs.lemmas.Option.{none-some, same_Some}
use Rattle.rart_below.specs.Children.{child_at}
use Rattle.rart_node.specs.Shape.{Shape, prefix_of, value_of, children_of}
use Rattle.rart_node.specs.Trees.{strip_prefix, found}
use Rattle.rart_node.proofs.PrefixRestLemmas.{no-first, strip_prefix-is, strip_prefix-whole}
use Rattle.rart_ways.specs.Paths.{first_byte, step, path_end}
use Rattle.rart_ways.specs.Plans.{GoesOn, IsAbove, IsLeafAt, Removes, RemovesBelow}
use Rattle.rart_ways.specs.Steps.{child_under}
use Rattle.rart_ways.specs.declared.removal.edit.Edit.{Edit}
use Rattle.rart_ways.proofs.LentPathLemmas.{is-step, found-along}
use Rattle.rart_ways.proofs.PlanLemmas.{here-found}

pub if-some : {A : Type 0} (P : A → Type 0) (o : Option A) (x : A) → o ≡ Some x → IfSome o P → P x
if-some P None x is says = absurd (none-some x is)
if-some P (Some y) x is says = subst P (same_Some y x is) says

module _ {V : Type 0} where
  -- nothing is left behind the prefix
  pub whole-rest : (s : Shape V) (rest left : List ℕ)
      → Some left ≡ strip_prefix (prefix_of s) rest → None ≡ slice_get left 0
      → rest ≡ prefix_of s
  whole-rest s rest left strips end =
      strip_prefix-is (prefix_of s) rest left (sym strips)
      ∙ ap (λ z. prefix_of s ++ z) (no-first left (sym end)) ∙ append-nil (prefix_of s)

  pub under-first : (left : List ℕ) (byte : ℕ) (s : Shape V) → Some byte ≡ slice_get left 0
      → child_under left s ≡ child_at byte (children_of s)
  under-first [] byte s next = absurd (none-some byte (sym next))
  under-first (b ∷ left) byte s next =
      ap (λ z. child_at z (children_of s)) (sym (same_Some byte b next))

  module _ (key : List ℕ) (root s opened : Shape V) (rest : List ℕ) (steps : ℕ)
      (reached : path_end steps key root ≡ Some (s, rest)) (same : opened ≡ s) where
    pub above-child : (left : List ℕ) (byte : ℕ) (child : Shape V)
        → Some left ≡ strip_prefix (prefix_of s) rest → Some byte ≡ slice_get left 0
        → Some child ≡ child_at byte (children_of opened)
        → IsAbove key root (steps + 1) opened byte child left
    above-child left byte child strips next here =
        record {
          before = steps;
          one_more = refl;
          left = rest;
          reached = reached ∙ ap (λ z. Some (z, rest)) (sym same);
          goes = record {
            strips = sym (strips ∙ ap (λ z. strip_prefix (prefix_of z) rest) (sym same));
            next = sym next;
            here = sym here;
          };
        }

  goes-step : (s : Shape V) (key : List ℕ) (below : Shape V × List ℕ) → step key s ≡ Some below
      → GoesOn key s (first_byte below.1) below.0 below.1
  goes-step s key below is =
      let down = is-step s key below is in
      record {
        strips = strip_prefix-whole (prefix_of s) key down.whole ∙ ap Some (sym down.rest);
        next = down.next;
        here = down.child;
      }

  module _ {P : Type 0} (edit : Edit P V) where
    removes-along : (a : ℕ) (key : List ℕ) (s : Shape V) (end : Shape V × List ℕ)
        → path_end a key s ≡ Some end → Removes edit end.1 end.0 → RemovesBelow a edit key s
    removes-along zero key s end is removes =
        subst (λ z. Removes edit z.1 z.0) (sym (same_Some (s, key) end is)) removes
    removes-along (suc a) key s end is removes =
        elim (step key s) as (λ o. step key s ≡ o
        → option_and_then (λ below. path_end a below.1 below.0) o ≡ Some end
        → RemovesBelow (suc a) edit key s) [
          | None ↦ λ goes none. absurd (none-some end none)
          | Some below ↦ λ goes there. (
            first_byte below.1,
            below.0,
            below.1,
            goes-step s key below goes,
            removes-along a below.1 below.0 end there removes,
          )
        ] refl is

    -- what takes the key out at the end of so many steps
    pub removes-at : (steps a : ℕ) (key left : List ℕ) (s end : Shape V)
        → path_end a key s ≡ Some (end, left) → a ≡ steps → Removes edit left end
        → RemovesBelow steps edit key s
    removes-at steps a key left s end is same removes =
        subst (λ n. RemovesBelow n edit key s) same (removes-along a key s (end, left) is removes)

  module _ (root end : Shape V) (key : List ℕ) (steps : ℕ)
      (ends : path_end steps key root ≡ Some (end, prefix_of end)) where
    pub end-found : found root key ≡ value_of end
    end-found = found-along steps key root (end, prefix_of end) ends ∙ here-found end

    pub end-root : steps ≡ 0 → IsLeafAt (prefix_of end) end → IsLeafAt key root
    end-root none leaf =
        let same = same_Some (root, key) (end, prefix_of end)
        (sym (ap (λ n. path_end n key root) none) ∙ ends) in
        subst (λ z. IsLeafAt z.1 z.0) (sym same) leaf
