-- What two trees have in common.
use Rattle.std.proofs.Common.{◌≡◌, ◌≤◌, ◌+◌, ◌⊎◌, inl, inr, ⊎_elim, ℕ, Bool, false, not, ◌&&◌, cond, List, [], ◌∷◌, ◌++◌, Option, Some, None, IsSome, is_some, refl, sym, ap, subst, ◌∙◌}
use Rattle.std.proofs.lemmas.Bool.{false≢true}
use Rattle.rart_below.specs.ByteSets.{has_byte, AreBytesOfBoth}
use Rattle.rart_below.specs.Children.{child_at}
use Rattle.rart_below.specs.declared.byte_set.ByteSet.{ByteSet}
use Rattle.rart_maps.proofs.OrderLemmas.{begins-append}
use Rattle.rart_lockstep.specs.TreeCursors.{next_children, value_here}
use Rattle.rart_node.specs.Counts.{Counts, CountsUpTo}
use Rattle.rart_node.specs.Shape.{Shape, node, bare, prefix_of, value_of, children_of, entries_of}
use Rattle.rart_node.specs.Trees.{strip_prefix, found, found_below, IsOrdered}
use Rattle.rart_node.proofs.FindLemmas.{found-below}
use Rattle.rart_node.proofs.InsertionLemmas.{nothing-left}
use Rattle.rart_algebra.specs.Ahead.{BeginsCommon}
use Rattle.rart_algebra.specs.Among.{KeepsAmong}
use Rattle.rart_algebra.specs.Parts.{losing, merges, packs}
use Rattle.rart_algebra.specs.Picks.{both}
use Rattle.rart_algebra.proofs.AmongLemmas.{at-kept, bytes-apart, keeps-ordered}
use Rattle.rart_algebra.proofs.PaidLemmas.{last-left}
use Rattle.rart_algebra.proofs.PickLemmas.{IsPickedUpTo, node-picked, ordered-losing, picked-all, picked-start, prefix-losing}
use Rattle.rart_algebra.proofs.ReachLemmas.{look, found-here, found-next}

module _ {V : Type 0} where
  pub both-none : (other : Option V) → both None other ≡ None
  both-none None = refl
  both-none (Some other) = refl

  both-some : (one other : Option V) → IsSome (both one other) → IsSome one × IsSome other
  both-some one None some = absurd (false≢true some)
  both-some None (Some other) some = absurd (false≢true some)
  both-some (Some one) (Some other) some = (refl, refl)

  -- ---- the value where both prefixes end
  value-both : (one other : Option V)
      → cond (is_some one && not (is_some other)) None one ≡ both one other
  value-both None None = refl
  value-both None (Some other) = refl
  value-both (Some one) None = refl
  value-both (Some one) (Some other) = refl

  pub own-both : (s t : Shape V) (goes : Bool)
      → goes ≡ (is_some (value_of s) && not (is_some (value_here t)))
      → cond goes None (value_of s) ≡ both (value_of s) (found t [])
  own-both s t goes are =
      ap (λ b. cond b None (value_of s)) are ∙ value-both (value_of s) (value_here t)
      ∙ ap (both (value_of s)) (sym (found-here t))

  -- ---- the children
  -- Where the way begins, those are left that both have.
  pub both-start : (s t now : Shape V) (bytes : ByteSet) → IsOrdered s
      → AreBytesOfBoth bytes (children_of s) (next_children t) → KeepsAmong bytes s now
      → IsPickedUpTo both s t (value_of s) bytes now
  both-start s t now bytes order are keeps =
      let left = λ (byte : ℕ) (b : Bool). cond b (child_at byte (children_of s)) None in
      picked-start both both-none s t now bytes (keeps-ordered bytes s now order keeps) keeps.prefix
      keeps.value
      (λ byte has. at-kept bytes s now keeps byte ∙ ap (left byte) has)
      (λ byte gone q. ap (look (byte ∷ q)) (at-kept bytes s now keeps byte ∙ ap (left byte) gone))
      (bytes-apart bytes (children_of s) (next_children t) are)

  -- Where no byte leads on in both, nor both have a value there, they have nothing in common.
  pub nothing-common : (s right t : Shape V) (bytes : ByteSet)
      → ((q : List ℕ) → found right (prefix_of s ++ q) ≡ found t q)
      → AreBytesOfBoth bytes (children_of s) (next_children t)
      → ((byte : ℕ) → has_byte bytes byte ≡ false)
      → (is_some (value_of s) && is_some (value_here t)) ≡ false
      → (q : List ℕ) → both (found s q) (found right q) ≡ None
  nothing-common (node prefix value width forest) right t bytes leads are none apart q =
      sym (node-picked both prefix value None width 0 forest bare right t leads
      (not-both value (value_here t) apart ∙ ap (both value) (sym (found-here t)))
      (λ byte q. sym (⊎_elim
      (λ left. ap (λ x. both x (found t (byte ∷ q)))
      (found-below forest byte q ∙ ap (look (byte ∷ q)) left) ∙ both-none (found t (byte ∷ q)))
      (λ other. ap (both (found_below forest (byte ∷ q)))
      (found-next t byte q ∙ ap (look (byte ∷ q)) other))
      (bytes-apart bytes (entries_of forest) (next_children t) are byte (none byte))))
      (λ q _. both-none (found right q)) q)
      ∙ nothing-left (strip_prefix prefix q)
    where
      not-both : (one other : Option V) → (is_some one && is_some other) ≡ false
          → None ≡ both one other
      not-both one None is = refl
      not-both None (Some other) is = refl
      not-both (Some one) (Some other) is = absurd (false≢true (sym is))

  -- ---- the last node that is made
  -- What is left is in common: the prefix begins a common key where a node is made.
  pub last-both : (s t right now : Shape V) (ahead : ByteSet) (goes : Bool)
      → IsPickedUpTo both s t (value_of s) ahead now → ((byte : ℕ) → has_byte ahead byte ≡ false)
      → ((q : List ℕ) → found right (prefix_of s ++ q) ≡ found t q)
      → cond goes None (value_of s) ≡ both (value_of s) (found t [])
      → (looked after : Counts)
      → CountsUpTo (merges (losing goes now)) (packs (losing goes now)) looked after
      → (after.made ≡ looked.made)
      ⊎ ((after.made ≤ looked.made + 1) × BeginsCommon s right (prefix_of s))
  last-both s t right now ahead goes so_far all leads own looked after one =
      let left = losing goes now in
      ⊎_elim (λ none. inl none)
      (λ some.
      let key = some.1.0 in
      let there = subst (λ z. IsSome (found left (z ++ key)))
      (prefix-losing both s t right now (value_of s) ahead goes so_far all leads own
      (λ q _. both-none (found right q))) some.1.1 in
      inr (
        some.0,
        record {
          key = prefix_of s ++ key;
          common = both-some (found s (prefix_of s ++ key)) (found right (prefix_of s ++ key))
              (subst IsSome (picked-all both s t right now (value_of s) ahead goes so_far all leads
              own
              (λ q _. both-none (found right q))
              (prefix_of s ++ key)) there);
          begun = begins-append (prefix_of s) key;
        },
      ))
      (last-left left looked after
      (ordered-losing both s t right now (value_of s) ahead goes so_far all leads own
      (λ q _. both-none (found right q))) one)
