-- A node that is cut inside its prefix, and what is put into a node as far as its prefix is
-- matched.
use Rattle.std.proofs.Common.{◌≡◌, ℕ, ◌<◌, List, ◌++◌, Some, None, slice_get, length, take, drop, cond, false, refl, arith, sym, ap, subst, ◌∙◌}
use Rattle.std.specs.Prelude.{◌==◌, slice_index_or}
use Rattle.std.specs.Option.{option_and_then}
use Rattle.std.specs.Cmp.{unsigned_tied}
use Rattle.std.specs.Str.{bytes_eq}
use Rattle.std.proofs.lemmas.List.{take-append-drop}
use Rattle.rart_below.specs.Bytes.{common_length}
use Rattle.rart_below.specs.Children.{child_at}
use Rattle.rart_node.specs.Shape.{Shape, node, prefix_of, children_of}
use Rattle.rart_node.specs.Trees.{strip_prefix, BeginsWith, found, IsTree, IsOrdered, IsPut, cut_at}
use Rattle.rart_node.proofs.PrefixRestLemmas.{behind-append, split-common, differs-strip_prefix, begins-drop, begins-common}
use Rattle.rart_node.proofs.OnlyChildLemmas.{along}
use Rattle.rart_node.proofs.InsertionLemmas.{inside}

module _ {V : Type 0} where
  pub cut-ordered : (s : Shape V) (at : ℕ) → IsTree s → at < length (prefix_of s)
      → IsOrdered (cut_at at s)
  cut-ordered (node prefix value width forest) at tree lt =
      (refl, (begins-drop prefix at lt, tree, tt))

  pub cut-child : (s : Shape V) (at : ℕ) → 0 < length (children_of (cut_at at s))
  cut-child (node prefix value width forest) at = omega arith

  pub cut-found : (s : Shape V) (at : ℕ) (q : List ℕ) → at < length (prefix_of s)
      → found (cut_at at s) q ≡ found s q
  cut-found (node prefix value width forest) at q lt =
      along (strip_prefix (take at prefix) q) (drop at prefix) value width
      (slice_index_or prefix at 0) forest (begins-drop prefix at lt)
      ∙ ap (option_and_then (inside value forest))
      (sym (behind-append (take at prefix) (drop at prefix) q))
      ∙ ap (λ z. option_and_then (inside value forest) (strip_prefix z q))
      (take-append-drop at prefix)

  -- Under the next byte of a string that leaves the prefix, the node that was cut there has no
  -- child.
  pub cut-absent : (s : Shape V) (at : ℕ) (key : List ℕ) (byte : ℕ)
      → at ≡ common_length (prefix_of s) key → at < length (prefix_of s)
      → slice_get (drop at key) 0 ≡ Some byte → child_at byte (children_of (cut_at at s)) ≡ None
  cut-absent (node prefix value width forest) at key byte is lt next =
      let Differs : ℕ → Type 0 = λ z. z < length prefix → slice_get (drop z key) 0 ≡ Some byte
      → (byte == slice_index_or prefix z 0) ≡ false in
      rw (
        unsigned_tied byte (slice_index_or prefix at 0),
        subst Differs (sym is) (differs-strip_prefix prefix key byte) lt next,
      ) refl

  -- what is put into the node that was cut where the key leaves its prefix
  pub put-cut : (s after : Shape V) (at : ℕ) (key : List ℕ) (value : V)
      → at ≡ common_length (prefix_of s) key → at < length (prefix_of s)
      → IsPut (prefix_of (cut_at at s) ++ drop at key) value (cut_at at s) after
      → IsPut key value s after
  put-cut (node prefix old width forest) after at key value is lt puts =
      let s = node prefix old width forest in
      let whole : take at prefix ++ drop at key ≡ key =
      subst (λ z. take z prefix ++ drop z key ≡ key) (sym is) (sym (split-common prefix key)) in
      let same = subst (λ z. IsPut z value (cut_at at s) after) whole puts in (
        same.0,
        (λ q. same.1 q ∙ ap (cond (bytes_eq q key) (Some value)) (cut-found s at q lt)),
        λ byte begins also. same.2 byte
            (subst (λ z. BeginsWith byte (take z prefix)) (sym is)
            (begins-common prefix key byte begins also)) also,
      )
