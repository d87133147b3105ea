-- The order of two strings is told by their prefixes, where these differ.
use Rattle.std.proofs.Common.{◌≡◌, ℕ, true, false, List, [], ◌∷◌, ◌++◌, refl, sym, ap, ◌∙◌}
use Rattle.std.specs.FinMap as finite
use Rattle.std.specs.declared.cmp.Ordering.TheVariants.{Less, Equal, Greater}
use Rattle.std.specs.Ordering.{ordering_then, nat_cmp, is_le, is_lt}
use Rattle.rart_below.specs.Bytes.{byte_order}
use Rattle.rart_node.proofs.AlongLemmas.{order-along}
use Rattle.rart_ways.specs.Besides.{is_to}
use Rattle.rart_ways.specs.declared.seeking.Edge.{Edge}
use Rattle.rart_ways.specs.declared.seeking.Edge.TheVariants.{Included, Excluded}

pub order-same : (u w : List ℕ) → byte_order u w ≡ Equal → u ≡ w
order-same = finite.slice_cmp-IsAntisymmetric finite.nat_cmp-IsAntisymmetric

-- Of a string that does not begin another, whatever goes on with it.
pub order-goes : (u w more : List ℕ) → ((rest : List ℕ) → w ≡ u ++ rest → ⊥)
    → byte_order (u ++ more) w ≡ byte_order u w
order-goes [] w more differs = absurd (differs w refl)
order-goes (b ∷ u) [] more differs = refl
order-goes (b ∷ u) (c ∷ w) more differs =
    elim (nat_cmp b c) as (λ o. nat_cmp b c ≡ o
    → ordering_then o (byte_order (u ++ more) w) ≡ ordering_then o (byte_order u w)) [
      | Less ↦ λ _. refl
      | Equal ↦ λ same. order-goes u w more (λ rest is. differs rest
          ((λ i. sym (finite.nat_cmp-IsAntisymmetric b c same) i ∷ w) ∙ ap (λ z. b ∷ z) is))
      | Greater ↦ λ _. refl
    ] refl

-- The order of a key beside an upper bound, both behind a path.
pub is_to-along : (edge : Edge) (p high key : List ℕ)
    → is_to edge (p ++ high) (p ++ key) ≡ is_to edge high key
is_to-along Included p high key = ap is_le (order-along p key high)
is_to-along Excluded p high key = ap is_lt (order-along p key high)

pub is_to-before : (edge : Edge) (high key : List ℕ) → byte_order key high ≡ Less
    → is_to edge high key ≡ true
is_to-before Included high key is = ap is_le is
is_to-before Excluded high key is = ap is_lt is

pub is_to-behind : (edge : Edge) (high key : List ℕ) → byte_order key high ≡ Greater
    → is_to edge high key ≡ false
is_to-behind Included high key is = ap is_le is
is_to-behind Excluded high key is = ap is_lt is
