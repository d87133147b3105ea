-- Which of two ascending lists of pairs has the first key, and what is left behind it.
use Rattle.std.proofs.Common.{◌≡◌, ℕ, true, List, [], ◌∷◌, ◌++◌, Option, Some, None, refl, sym, subst, ◌∙◌, ⊎_elim, inl, inr, arith}
use Rattle.std.specs.Prelude.{IsSome}
use Rattle.std.specs.Borrow.{Bor}
use Rattle.std.specs.Option.{is_some, option_copied}
use Rattle.std.specs.declared.cmp.Ordering.{Ordering}
use Rattle.std.specs.declared.cmp.Ordering.TheVariants.{Less, Equal, Greater}
use Rattle.std.proofs.lemmas.Bool.{false≢true}
use Rattle.rart_below.specs.Bytes.{byte_order}
use Rattle.rart_maps.specs.FoundLaws.{KeysAscend}
use Rattle.rart_maps.specs.Order.{IsBefore}
use Rattle.rart_maps.proofs.ElementLemmas.{Contains-cases, All-from_contains, AllPairs-first, AllPairs-rest}
use Rattle.rart_maps.proofs.OrderLemmas.{order_is_of_first_difference}
use Rattle.rart_walks.specs.Walks.{pending_pair}
use Rattle.rart_walks.specs.WalkFields.{cursor}
use Rattle.rart_walks.specs.declared.diff.side.Side.{Side}
use Rattle.rart_walks.specs.Diffs.{AreBehind, Leads}
use Rattle.rart_walks.specs.SideFields.{IsSide, ComesFirst, key_at}

-- Of three strings in order the first stands before the last.
pub before-before : (u v w : List ℕ) → IsBefore u v → IsBefore v w → IsBefore u w
before-before u v [] one two = two
before-before u [] (d ∷ w) one two = absurd one
before-before [] (c ∷ v) (d ∷ w) one two = tt
before-before (b ∷ u) (c ∷ v) (d ∷ w) one two =
    ⊎_elim
    (λ less. ⊎_elim (λ more. inl (omega (arith, less, more)))
    (λ same. inl (omega (arith, less, same.0))) two)
    (λ same. ⊎_elim (λ more. inl (omega (arith, same.0, more)))
    (λ also. inr (same.0 ∙ also.0, before-before u v w same.1 also.1)) two)
    one

module _ {V : Type 0} where
  -- The first of pairs in order leads the others.
  pub first-leads : (key : List ℕ) (x : V) (rest : List (List ℕ × V))
      → KeysAscend (λ pair. pair.0) ((key, x) ∷ rest)
      → Leads key (Some x) ((key, x) ∷ rest) rest
  first-leads key x rest ascends =
      record {
        pairs = refl;
        behind = All-from_contains (λ pair. IsBefore key pair.0) rest
            (λ pair there. AllPairs-first (λ a b. IsBefore a.0 b.0) (key, x) rest ascends pair
            there);
      }

  -- A key before the first of pairs in order is before all of them.
  pub before-first : (key : List ℕ) (pair : List ℕ × V) (rest : List (List ℕ × V))
      → KeysAscend (λ p. p.0) (pair ∷ rest) → IsBefore key pair.0 → AreBehind key (pair ∷ rest)
  before-first key pair rest ascends before =
      All-from_contains (λ p. IsBefore key p.0) (pair ∷ rest)
      (λ p there. ⊎_elim
      (λ is. subst (λ (q : List ℕ × V). IsBefore key q.0) is before)
      (λ later. before-before key pair.0 p.0 before
      (AllPairs-first (λ a b. IsBefore a.0 b.0) pair rest ascends p later))
      (Contains-cases pair rest p there))

  held-leads : (key : List ℕ) (held : Option (Bor V)) (rest : List (List ℕ × V))
      → KeysAscend (λ pair. pair.0) (pending_pair key (option_copied held) ++ rest) → IsSome held
      → Leads key (option_copied held) (pending_pair key (option_copied held) ++ rest) rest
  held-leads key None rest ascends some = absurd (false≢true some)
  held-leads key (Some value) rest ascends some = first-leads key value.now rest ascends

  -- So does a value that is taken, where none is left then.
  pub taken-leads : (key : List ℕ) (held taken left : Option (Bor V)) (rest : List (List ℕ × V))
      → taken ≡ held → left ≡ None
      → KeysAscend (λ pair. pair.0) (pending_pair key (option_copied held) ++ rest)
      → IsSome taken
      → Leads key (option_copied taken) (pending_pair key (option_copied held) ++ rest)
      (pending_pair key (option_copied left) ++ rest)
  taken-leads key held taken left rest is none ascends some =
      subst (λ (l : Option (Bor V)). Leads key (option_copied taken)
      (pending_pair key (option_copied held) ++ rest) (pending_pair key (option_copied l) ++ rest))
      (sym none)
      (subst (λ (t : Option (Bor V)). IsSome t → Leads key (option_copied t)
      (pending_pair key (option_copied held) ++ rest) rest) (sym is)
      (held-leads key held rest ascends) some)

  held-behind : (key other : List ℕ) (held : Option (Bor V)) (rest : List (List ℕ × V))
      → KeysAscend (λ pair. pair.0) (pending_pair other (option_copied held) ++ rest)
      → is_some held ≡ true → IsBefore key other
      → AreBehind key (pending_pair other (option_copied held) ++ rest)
  held-behind key other None rest ascends some before = absurd (false≢true some)
  held-behind key other (Some value) rest ascends some before =
      before-first key (other, value.now) rest ascends before

  -- What is left ascends too.
  pub rest-ascends : (key : List ℕ) (value : Option V) (rest : List (List ℕ × V))
      → KeysAscend (λ pair. pair.0) (pending_pair key value ++ rest)
      → KeysAscend (λ pair. pair.0) rest
  rest-ascends key None rest ascends = ascends
  rest-ascends key (Some x) rest ascends =
      AllPairs-rest (λ a b. IsBefore a.0 b.0) (key, x) rest ascends

module _ {P V : Type 0} {partial : _} where
  -- Of two keys the order tells which is the first.
  pub both-first : (before after : Side P V partial) → IsSide before → IsSide after
      → is_some before.value ≡ true → is_some after.value ≡ true → (r : Ordering)
      → r ≡ byte_order (key_at before) (key_at after)
      → ComesFirst before after (Some r)
  both-first before after one two some also Less is = (
    some,
    held-behind (key_at before) (key_at after) after.value
        (cursor after.walk).pairs two.ascends also
        ((order_is_of_first_difference (key_at before) (key_at after)).0.0 (sym is)),
  )
  both-first before after one two some also Equal is = (
    some,
    also,
    (order_is_of_first_difference (key_at before) (key_at after)).1.0 (sym is),
  )
  both-first before after one two some also Greater is = (
    also,
    held-behind (key_at after) (key_at before) before.value
        (cursor before.walk).pairs one.ascends some
        ((order_is_of_first_difference (key_at before) (key_at after)).2.0 (sym is)),
  )
