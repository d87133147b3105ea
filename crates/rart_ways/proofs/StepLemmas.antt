-- A step along a key: what is found, which keys begin it, and what is counted, by what the key
-- finds at a node.
use Rattle.std.proofs.Common.{◌≡◌, ◌+◌, ◌<◌, ◌≤◌, ◌==◌, true, IfSome, ℕ, suc, List, [], ◌∷◌, ◌++◌, Option, Some, None, slice_get, length, take, refl, arith, sym, ap, ◌∙◌, append_assoc, append-nil}
use Rattle.std.specs.List.{last_or}
use Rattle.std.proofs.lemmas.List.{length-append, nil_from_length}
use Rattle.std.proofs.lemmas.Bool.{eqb-true}
use Rattle.std.proofs.lemmas.Option.{none-some}
use Rattle.rart_below.specs.Children.{child_at}
use Rattle.rart_node.specs.Counts.{Counts, CountsUpTo}
use Rattle.rart_node.specs.Shape.{Shape, height, prefix_of, value_of, children_of}
use Rattle.rart_ways.specs.Searches.{EntersEach}
use Rattle.rart_ways.specs.Steps.{child_under}
use Rattle.rart_node.specs.Trees.{strip_prefix, found, IsTree, own_pair, path_bound}
use Rattle.rart_node.proofs.PrefixRestLemmas.{strip_prefix-is}
use Rattle.rart_node.proofs.SearchLemmas.{IsSearchAt, search-counted, search-entered, search-left, search-here, search-missing, search-lower, search-child}
use Rattle.rart_node.specs.PairsBehind.{behind_path, pending_pair}
use Rattle.rart_node.proofs.PrefixMatchLemmas.{matches_of, matches_at, matches_of-left, matches_of-end, matches_of-deeper}
use Rattle.rart_node.proofs.BehindLemmas.{behind-behind, behind-append, behind-none}

-- ---- what a `?` on nothing tells, and a rest without a byte
pub nothing-if : {A : Type 0} (P : A → Type 0) (o : Option A) → o ≡ None → IfSome o P
nothing-if P None none = tt
nothing-if P (Some a) none = absurd (none-some a (sym none))

pub rest-empty : (rest : List ℕ) → true ≡ (length rest == 0) → rest ≡ []
rest-empty rest end = nil_from_length rest (eqb-true (length rest) 0 (sym end))

module _ {V : Type 0} where
  -- the byte under which a child stands
  pub record IsUnder (rest : List ℕ) (s child : Shape V) : Type 0 where
    pub byte : ℕ
    pub next : Some byte ≡ slice_get rest 0
    pub here : Some child ≡ child_at byte (children_of s)

  pub under : (rest : List ℕ) (s child : Shape V) → Some child ≡ child_under rest s
      → IsUnder rest s child
  under [] s child is = absurd (none-some child (sym is))
  under (b ∷ rest) s child is = record { byte = b; next = refl; here = is }

  -- ---- the search for a key below a root, at the node s, which was entered
  module _ (root : Shape V) (key : List ℕ) (start : Counts) (s : Shape V) (rest : List ℕ)
      (now after : Counts) (at : IsSearchAt root key start s rest now)
      (opens : after ≡ record now { entered = now.entered + 1 }) where
    pub step-counted : CountsUpTo (path_bound root key) 0 start after
    step-counted = search-counted root key start s s rest now after at opens refl

    pub step-entered : start.entered < after.entered
    step-entered = search-entered root key start s s rest now after at opens refl

    pub step-left : None ≡ strip_prefix (prefix_of s) rest → found root key ≡ None
    step-left strips = search-left root key start s s rest now after at opens refl _ refl strips

    module _ (left : List ℕ) (strips : Some left ≡ strip_prefix (prefix_of s) rest) where
      pub step-here : left ≡ [] → found root key ≡ value_of s
      step-here end =
          search-here root key start s s rest now after at opens refl _ refl left strips
          (sym (ap (λ z. slice_get z 0) end))

      pub step-missing : (left ≡ [] → ⊥) → None ≡ child_under left s → found root key ≡ None
      step-missing =
          let each : (z : List ℕ) → Some z ≡ strip_prefix (prefix_of s) rest → (z ≡ [] → ⊥)
          → None ≡ child_under z s → found root key ≡ None = elim [
            | [] ↦ (λ is more. absurd (more refl))
            | b ∷ z ↦ (λ is more missing.
                search-missing root key start s s rest now after at opens refl _ refl (b ∷ z) is
                b refl missing)
          ] in
          each left strips

      module _ (child : Shape V) (is : Some child ≡ child_under left s) where
        pub step-lower : height child < height s
        step-lower = let at-byte = under left s child is in
            search-lower root key start s s rest now after at opens refl _ refl left strips
            at-byte.byte at-byte.next child at-byte.here

        pub step-child : IsSearchAt root key start child left after
        step-child = let at-byte = under left s child is in
            search-child root key start s s rest now after at opens refl _ refl left strips
            at-byte.byte at-byte.next child at-byte.here

-- ---- the pairs whose key begins a probe
pub last_or-append : {A : Type 0} (o : Option A) (xs ys : List A) →
    last_or o (xs ++ ys) ≡ last_or (last_or o xs) ys
last_or-append o [] ys = refl
last_or-append o (x ∷ xs) ys = last_or-append (Some x) xs ys

pub take-front : (front rest : List ℕ) → take (length front) (front ++ rest) ≡ front
take-front [] rest = refl
take-front (b ∷ front) rest = ap (λ more. b ∷ more) (take-front front rest)

module _ {V : Type 0} where
  own-pending : (key : List ℕ) (value : Option V) →
      behind_path key (own_pair value) ≡ pending_pair key value
  own-pending key None = refl
  own-pending key (Some value) = λ i. (append-nil key i, value) ∷ []

  -- The node's own pair comes first.
  pub own-first : (above : List ℕ) (s : Shape V) (rest left : List ℕ) → IsTree s →
      strip_prefix (prefix_of s) rest ≡ Some left →
      behind_path above (matches_of rest s)
      ≡ pending_pair (above ++ prefix_of s) (value_of s)
      ++ behind_path (above ++ prefix_of s) (matches_at left (child_under left s))
  own-first above s rest [] tree is =
      let key = above ++ prefix_of s in
      ap (behind_path above) (matches_of-end s rest [] tree is refl)
      ∙ behind-behind above (prefix_of s) (own_pair (value_of s))
      ∙ own-pending key (value_of s)
      ∙ sym (append-nil (pending_pair key (value_of s)))
  own-first above s rest (byte ∷ left) tree is =
      let key = above ++ prefix_of s in
      let own = own_pair (value_of s) in
      let below = matches_at (byte ∷ left) (child_at byte (children_of s)) in
      ap (behind_path above) (matches_of-deeper s rest (byte ∷ left) byte tree is refl)
      ∙ behind-behind above (prefix_of s) (own ++ below)
      ∙ behind-append key own below
      ∙ ap (λ first. first ++ behind_path key below) (own-pending key (value_of s))

  -- The way along a probe has come to a node with this rest of it, and has passed these pairs,
  -- whose keys begin the probe.
  pub record IsMatchAt (root : Shape V) (probe : List ℕ) (passed : List (List ℕ × V)) (s : Shape V)
      (rest : List ℕ) : Type 0 where
    pub above : List ℕ
    pub is : probe ≡ above ++ rest
    pub matches : matches_of probe root ≡ passed ++ behind_path above (matches_of rest s)

  module _ (root : Shape V) (probe : List ℕ) (passed : List (List ℕ × V)) (s : Shape V)
      (rest : List ℕ) (at : IsMatchAt root probe passed s rest) where
    pub match-left : None ≡ strip_prefix (prefix_of s) rest → matches_of probe root ≡ passed
    match-left strips =
        at.matches
        ∙ ap (λ z. passed ++ behind_path at.above z) (matches_of-left s rest (sym strips))
        ∙ append-nil passed

    module _ (left : List ℕ) (strips : Some left ≡ strip_prefix (prefix_of s) rest) where
      -- the key of the node
      abbrev pub key : List ℕ
      key = at.above ++ prefix_of s

      probe-is : probe ≡ key ++ left
      probe-is =
          at.is
          ∙ ap (λ z. at.above ++ z) (strip_prefix-is (prefix_of s) rest left (sym strips))
          ∙ sym (append_assoc at.above (prefix_of s) left)

      pub match-fits : length left ≤ length probe
      match-fits = let whole = ap length probe-is ∙ length-append key left in omega (arith, whole)

      -- the node's own pair, whose key is so much of the probe
      module _ (tree : IsTree s) (end : ℕ) (long : end + length left ≡ length probe)
          (value : Option V) (value-is : value ≡ value_of s) where
        own-is : pending_pair key (value_of s) ≡ pending_pair (take end probe) value
        own-is =
            let whole = ap length probe-is ∙ length-append key left in
            let count : end ≡ length key = omega (arith, whole, long) in
            let key-is : take end probe ≡ key =
            (λ i. take (count i) (probe-is i)) ∙ take-front key left in
            sym (λ i. pending_pair (key-is i) (value-is i))

        pub match-own : matches_of probe root
            ≡ (passed ++ pending_pair (take end probe) value)
            ++ behind_path key (matches_at left (child_under left s))
        match-own =
            at.matches
            ∙ ap (λ z. passed ++ z) (own-first at.above s rest left tree (sym strips)
            ∙ ap (λ own. own ++ behind_path key (matches_at left (child_under left s))) own-is)
            ∙ sym (append_assoc passed (pending_pair (take end probe) value) _)

        pub match-last : None ≡ child_under left s
            → matches_of probe root ≡ passed ++ pending_pair (take end probe) value
        match-last none =
            match-own
            ∙ ap (λ o. (passed ++ pending_pair (take end probe) value)
            ++ behind_path key (matches_at left o)) (sym none)
            ∙ append-nil (passed ++ pending_pair (take end probe) value)

        pub match-next : (child : Shape V) → Some child ≡ child_under left s
            → IsMatchAt root probe (passed ++ pending_pair (take end probe) value) child left
        match-next child is =
            record {
              above = key;
              is = probe-is;
              matches =
                  match-own
                  ∙ ap (λ o. (passed ++ pending_pair (take end probe) value)
                  ++ behind_path key (matches_at left o)) (sym is);
            }

  -- ---- each key that begins a probe ends at a node of its own on the way
  one-pending : (key : List ℕ) (value : Option V) → length (pending_pair key value) ≤ 1
  one-pending key None = omega arith
  one-pending key (Some value) = omega arith

  behind-length : (path : List ℕ) (list : List (List ℕ × V))
      → length (behind_path path list) ≡ length list
  behind-length path [] = refl
  behind-length path (pair ∷ list) = ap suc (behind-length path list)

  -- The way along a probe has come to a node with this rest of it, and has entered one for each key
  -- that begins the probe and does not end below.
  pub record EntersAbove (root : Shape V) (probe : List ℕ) (start : Counts) (s : Shape V)
      (rest : List ℕ) (now : Counts) : Type 0 where
    pub enough : start.entered + length (matches_of probe root)
        ≤ now.entered + length (matches_of rest s)

  pub above-start : (root : Shape V) (probe : List ℕ) (start : Counts)
      → EntersAbove root probe start root probe start
  above-start root probe start = record { enough = omega arith }

  module _ (root : Shape V) (probe : List ℕ) (start : Counts) (s : Shape V) (rest : List ℕ)
      (now after : Counts) (above : EntersAbove root probe start s rest now)
      (opens : after ≡ record now { entered = now.entered + 1 }) where
    pub each-left : None ≡ strip_prefix (prefix_of s) rest
        → EntersEach (matches_of probe root) start after
    each-left strips =
        let none = ap length (matches_of-left s rest (sym strips)) in
        let one = ap (λ z. z.entered) opens in
        let enough = above.enough in
        omega (arith, none, one, enough)

    module _ (tree : IsTree s) (left : List ℕ)
        (strips : Some left ≡ strip_prefix (prefix_of s) rest) where
      few : length (matches_of rest s) ≤ 1 + length (matches_at left (child_under left s))
      few =
          let own = pending_pair (prefix_of s) (value_of s) in
          let below = matches_at left (child_under left s) in
          let parts = ap length (own-first [] s rest left tree (sym strips))
          ∙ length-append own (behind_path (prefix_of s) below) in
          omega (
            arith,
            parts,
            behind-length [] (matches_of rest s),
            behind-length (prefix_of s) below,
            one-pending (prefix_of s) (value_of s),
          )

      pub each-last : None ≡ child_under left s → EntersEach (matches_of probe root) start after
      each-last none =
          let last = ap (λ o. length (matches_at left o)) none in
          let one = ap (λ z. z.entered) opens in
          let enough = above.enough in
          omega (arith, few, last, one, enough)

      pub each-child : (child : Shape V) → Some child ≡ child_under left s
          → EntersAbove root probe start child left after
      each-child child is =
          let next = ap (λ o. length (matches_at left o)) is in
          let one = ap (λ z. z.entered) opens in
          let enough = above.enough in
          record { enough = omega (arith, few, next, one, enough) }

  pub match-start : (root : Shape V) (probe : List ℕ) → IsMatchAt root probe [] root probe
  match-start root probe =
      record { above = []; is = refl; matches = sym (behind-none (matches_of probe root)) }
