-- A step of the way down two trees, as its calls know it.
use Rattle.std.proofs.Common.{◌≡◌, ◌≢◌, ◌<◌, ◌≤◌, ◌⊎◌, ℕ, suc, Bool, true, false, cond, inl, inr, ⊎_elim, List, [], ◌∷◌, ◌++◌, Option, Some, None, length, take, drop, refl, sym, ap, subst, ◌∙◌, arith}
use Rattle.std.specs.Prelude.{◌==◌}
use Rattle.std.specs.List.{cons_option}
use Rattle.std.specs.Option.{option_map}
use Rattle.std.proofs.lemmas.Bool.{eqb-false}
use Rattle.std.proofs.lemmas.List.{append-nil, take-append-drop, drop_all}
use Rattle.rart_below.specs.Bytes.{common_length}
use Rattle.rart_below.specs.Children.{child_at}
use Rattle.rart_node.specs.Shape.{Shape, node, prefix_of, entries_of, height, with_prefix}
use Rattle.rart_node.specs.Trees.{BeginsWith, IsTree}
use Rattle.rart_node.proofs.PrefixRestLemmas.{split-common, common-within}
use Rattle.rart_lockstep.specs.Children.{common_children}
use Rattle.rart_lockstep.specs.CommonPairs.{common_pairs}
use Rattle.rart_lockstep.specs.Entries.{own_entry, entry_here, behind_key}
use Rattle.rart_lockstep.specs.PairCursors.{CommonBytes}
use Rattle.rart_lockstep.specs.TreeCursors.{behind_bytes, value_here, next_children}
use Rattle.rart_lockstep.proofs.ChildLemmas.{common-none, common-first}
use Rattle.rart_lockstep.proofs.CommonLemmas.{common_in, common_of_all, common_pairs-both_end, common_pairs-left_ends, common_pairs-right_ends, common_pairs-mismatch, common_pairs-matched, key-append, key-key}

-- Where two strings go on behind their common prefix, they go on with different bytes.
record GoApart (u w : List ℕ) : Type 0 where
  one : ℕ
  other : ℕ
  one_begins : BeginsWith one u
  other_begins : BeginsWith other w
  differ : one ≢ other

go-apart : (p q : List ℕ) → common_length p q < length p → common_length p q < length q
    → GoApart (drop (common_length p q) p) (drop (common_length p q) q)
go-apart [] q some also = absurd (omega (arith, some))
go-apart (b ∷ p) [] some also = absurd (omega (arith, also))
go-apart (b ∷ p) (c ∷ q) some also =
    let P : Bool → Type 0 = λ t. (b == c) ≡ t
    → cond t (suc (common_length p q)) 0 < suc (length p)
    → cond t (suc (common_length p q)) 0 < suc (length q)
    → GoApart (drop (cond t (suc (common_length p q)) 0) (b ∷ p))
    (drop (cond t (suc (common_length p q)) 0) (c ∷ q)) in
    let both : (t : Bool) → P t = elim [
      | true ↦ (λ same here there.
          go-apart p q (omega (arith, here)) (omega (arith, there)))
      | false ↦ (λ other here there. record {
        one = b;
        other = c;
        one_begins = refl;
        other_begins = refl;
        differ = λ is. eqb-false b c other is;
      })
    ] in
    both (b == c) refl some also

module _ {V : Type 0} where
  -- ---- a node behind bytes of its prefix
  pub prefix-with : (s : Shape V) (p : List ℕ) → prefix_of (with_prefix p s) ≡ p
  prefix-with (node prefix value width forest) p = refl

  pub tree-with : (s : Shape V) (p : List ℕ) → IsTree s → IsTree (with_prefix p s)
  tree-with (node prefix value width forest) p tree = tree

  pub height-with : (s : Shape V) (p : List ℕ) → height (with_prefix p s) ≡ height s
  height-with (node prefix value width forest) p = refl

  -- ---- what is in common
  pub own-none : (path : List ℕ) (value : Option V) → own_entry path value None ≡ []
  own-none path None = refl
  own-none path (Some value) = refl

  all-one : (byte : ℕ) (t : Shape V) (o : Option (Shape V))
      → common_of_all (cons_option (option_map (λ one. (byte, (one, t))) o) [])
      ≡ common_in o (Some t)
  all-one byte t None = refl
  all-one byte t (Some one) = append-nil (common_pairs one t)

  all-other : (byte : ℕ) (s : Shape V) (o : Option (Shape V))
      → common_of_all (cons_option (option_map (λ other. (byte, (s, other))) o) [])
      ≡ common_in (Some s) o
  all-other byte s None = refl
  all-other byte s (Some other) = append-nil (common_pairs s other)

  -- Of two nodes of which one has ended: the entry here, and what is in common further down.
  pub common_pairs-next_children : (s t : Shape V) → IsTree s → (prefix_of s ≡ [])
      ⊎ (prefix_of t ≡ [])
      → common_pairs s t ≡ own_entry [] (value_here s) (value_here t)
      ++ common_of_all (common_children (next_children s) (next_children t))
  common_pairs-next_children (node [] value width forest) (node [] other w below) tree ends =
      common_pairs-both_end (node [] value width forest) (node [] other w below) tree refl refl
  common_pairs-next_children (node [] value width forest) (node (b ∷ q) other w below) tree ends =
      let t : Shape V = node (b ∷ q) other w below in
      let children = entries_of forest in
      common_pairs-left_ends (node [] value width forest) t b tree refl refl
      ∙ sym (all-one b t (child_at b children))
      ∙ ap (λ pairs. common_of_all (cons_option
      (option_map (λ one. (b, (one, t))) (child_at b children)) pairs))
      (sym (common-none children))
      ∙ ap common_of_all (sym (common-first children b t [] tree.0 refl))
      ∙ ap (λ own. own ++ common_of_all (common_children children ((b, t) ∷ [])))
      (sym (own-none [] value))
  common_pairs-next_children (node (b ∷ p) value width forest) (node [] other w below) tree ends =
      let s : Shape V = node (b ∷ p) value width forest in
      common_pairs-right_ends s (node [] other w below) b refl refl
      ∙ sym (all-other b s (child_at b (entries_of below)))
  common_pairs-next_children (node (b ∷ p) value width forest) (node (c ∷ q) other w below)
      tree ends =
      ⊎_elim (λ is. absurd (cons-nil b p is)) (λ is. absurd (cons-nil c q is)) ends
    where
      cons-nil : (b : ℕ) (w : List ℕ) → b ∷ w ≡ [] → ⊥
      cons-nil b w is = cc

  key-own : (path : List ℕ) (one other : Option V)
      → behind_key path (own_entry [] one other) ≡ own_entry path one other
  key-own path None other = refl
  key-own path (Some one) None = refl
  key-own path (Some one) (Some other) = ap (λ key. (key, one, other) ∷ []) (append-nil path)

  -- `count` bytes are what both prefixes have in common.
  module _ (s t : Shape V) (count : ℕ)
      (is : count ≡ common_length (prefix_of s) (prefix_of t)) where
    pub left-split : prefix_of s ≡ take count (prefix_of s) ++ drop count (prefix_of s)
    left-split = sym (take-append-drop count (prefix_of s))

    pub right-split : prefix_of t ≡ take count (prefix_of s) ++ drop count (prefix_of t)
    right-split =
        subst (λ n. prefix_of t ≡ take n (prefix_of s) ++ drop n (prefix_of t)) (sym is)
        (split-common (prefix_of s) (prefix_of t))

    pub common_pairs-step : common_pairs s t ≡ behind_key (take count (prefix_of s))
        (common_pairs (behind_bytes count s) (behind_bytes count t))
    common_pairs-step =
        common_pairs-matched s t (take count (prefix_of s)) (drop count (prefix_of s))
        (drop count (prefix_of t)) left-split right-split

  -- Neither prefix ends behind what both have in common: nothing is.
  pub common_pairs-apart : (s t : Shape V) → CommonBytes s t None → common_pairs s t ≡ []
  common_pairs-apart s t apart =
      let count = common_length (prefix_of s) (prefix_of t) in
      let bytes = go-apart (prefix_of s) (prefix_of t) apart.0 apart.1 in
      common_pairs-step s t count refl
      ∙ ap (behind_key (take count (prefix_of s)))
      (common_pairs-mismatch (behind_bytes count s) (behind_bytes count t) bytes.one bytes.other
      (subst (BeginsWith bytes.one) (sym (prefix-with s (drop count (prefix_of s))))
      bytes.one_begins)
      (subst (BeginsWith bytes.other) (sym (prefix-with t (drop count (prefix_of t))))
      bytes.other_begins) bytes.differ)

  module _ (s t : Shape V) (count : ℕ) (common : CommonBytes s t (Some count)) where
    pub count-left : count ≤ length (prefix_of s)
    count-left = let is = common.0 in
        let within = (common-within (prefix_of s) (prefix_of t)).0 in omega (arith, is, within)

    pub count-right : count ≤ length (prefix_of t)
    count-right = let is = common.0 in
        let within = (common-within (prefix_of s) (prefix_of t)).1 in omega (arith, is, within)

    -- One of the prefixes ends.
    pub one-ends : (prefix_of (behind_bytes count s) ≡ [])
        ⊎ (prefix_of (behind_bytes count t) ≡ [])
    one-ends =
        ⊎_elim
        (λ left. inl (prefix-with s (drop count (prefix_of s))
        ∙ drop_all count (prefix_of s) (omega (arith, left))))
        (λ right. inr (prefix-with t (drop count (prefix_of t))
        ∙ drop_all count (prefix_of t) (omega (arith, right))))
        common.1

    -- What is in common is the entry here, and what is in common further down.
    pub common_pairs-here : (path : List ℕ) → IsTree s
        → behind_key path (common_pairs s t)
        ≡ entry_here (path ++ take count (prefix_of s)) (behind_bytes count s)
        (behind_bytes count t)
        ++ behind_key (path ++ take count (prefix_of s))
        (common_of_all (common_children (next_children (behind_bytes count s))
        (next_children (behind_bytes count t))))
    common_pairs-here path tree =
        let start = take count (prefix_of s) in
        let x = behind_bytes count s in
        let y = behind_bytes count t in
        let own = own_entry [] (value_here x) (value_here y) in
        let below = common_of_all (common_children (next_children x) (next_children y)) in
        ap (behind_key path) (common_pairs-step s t count common.0 ∙ ap (behind_key start)
        (common_pairs-next_children x y (tree-with s (drop count (prefix_of s)) tree) one-ends))
        ∙ key-key path start (own ++ below)
        ∙ key-append (path ++ start) own below
        ∙ ap (λ first. first ++ behind_key (path ++ start) below)
        (key-own (path ++ start) (value_here x) (value_here y))

  -- the first pair that is left apart from the others
  pub common_pairs-next : (path : List ℕ) (byte : ℕ) (s t : Shape V)
      (pairs : List (ℕ × (Shape V × Shape V)))
      → behind_key path (common_of_all ((byte, (s, t)) ∷ pairs))
      ≡ behind_key path (common_pairs s t) ++ behind_key path (common_of_all pairs)
  common_pairs-next path byte s t pairs = key-append path (common_pairs s t) (common_of_all pairs)
