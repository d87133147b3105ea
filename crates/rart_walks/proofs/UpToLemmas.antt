-- A visit up to a bound, node by node: it ends at the first node past that, and has entered no more
-- nodes than meet the bound, and one.
use Rattle.std.proofs.Common.{◌≡◌, ◌+◌, ◌≤◌, ⊎_elim, inr, ℕ, Bool, true, false, cond, List, [], ◌∷◌, ◌++◌, Option, length, arith, refl, ap, subst, ◌∙◌}
use Rattle.std.specs.Prelude.{count_by}
use Rattle.std.specs.List.{concat}
use Rattle.std.specs.Borrow.{Bor}
use Rattle.std.specs.declared.ops.Bound.{Bound}
use Rattle.std.proofs.lemmas.List.{append-nil}
use Rattle.std.proofs.lemmas.List.Sums.{sum_by-cons}
use Rattle.rart_maps.specs.FoundLaws.{KeysAscend}
use Rattle.rart_maps.specs.Order.{IsBefore}
use Rattle.rart_maps.proofs.RangeLemmas.{up_to, is_below, up_to-past, past-behind}
use Rattle.rart_node.specs.Counts.{Counts, CountsUpTo}
use Rattle.rart_node.proofs.CountingLemmas.{made-none, counts-none_made}
use Rattle.rart_walks.specs.Walks.{Cursor, ComesTo, GoesOnFirst}

-- ---- paths past the bound
longer-behind : (u : List ℕ) (c : ℕ) (more : List ℕ) → IsBefore u (u ++ (c ∷ more))
longer-behind [] c more = tt
longer-behind (b ∷ u) c more = inr (refl, longer-behind u c more)

-- What goes on from a string past an upper bound is past it too.
pub past-further : (high : Bound (List ℕ)) (u more : List ℕ) → is_below high u ≡ false
    → is_below high (u ++ more) ≡ false
past-further high u [] past = ap (is_below high) (append-nil u) ∙ past
past-further high u (c ∷ more) past =
    past-behind high u (u ++ (c ∷ more)) (longer-behind u c more) past

module _ (high : Bound (List ℕ)) where
  -- Behind a node past the bound no key meets it.
  pub none-past : {V : Type 0} (path : List ℕ) (pairs : List (List ℕ × V)) → GoesOnFirst path pairs
      → KeysAscend (λ pair. pair.0) pairs → is_below high path ≡ false → up_to high pairs ≡ []
  none-past path pairs first ascend past =
      ap (up_to high) first.3
      ∙ up_to-past high (path ++ first.0, first.1) first.2
      (subst (KeysAscend (λ pair. pair.0)) first.3 ascend) (past-further high path first.0 past)

-- ---- counts, of the paths that pass a test
module _ (test : List ℕ → Bool) where
  -- Of the paths at the start no more that pass were entered than are no longer left.
  pub record IsFew (paths : List (List ℕ)) (start : Counts) (left : List (List ℕ))
      (now : Counts) : Type 0 where
    pub within : now.entered + count_by test left
        ≤ start.entered + count_by test paths
    pub grows : start.entered ≤ now.entered
    pub made : now.made ≡ start.made

  -- The walk goes on to a node that passes.
  pub few-next : {V : Type 0} {before after : Cursor V} {value : Option (Bor V)}
      {paths : List (List ℕ)} {start now later : Counts}
      → ComesTo before value after → test (concat after.segments) ≡ true
      → IsFew paths start before.paths now
      → later.entered + length after.paths ≡ now.entered + length before.paths
      → CountsUpTo 1 0 now later → IsFew paths start after.paths later
  few-next {V} {before} {after} comes meets few entered counted =
      let within = few.within in
      let grows = few.grows in
      let more = counted.entered_grows in
      record {
        within =
            ⊎_elim
            (λ next.
            let one = ap (count_by test) next
            ∙ sum_by-cons (λ path. cond (test path) 1 0) (concat after.segments)
            after.paths
            ∙ ap (λ t. cond t 1 0 + count_by test after.paths) meets in
            let long = ap length next in
            omega (arith, within, entered, one, long))
            (λ stays.
            let same = ap (count_by test) stays.0 in
            let long = ap length stays.0 in
            omega (arith, within, entered, same, long))
            comes.place;
        grows = omega (arith, grows, more);
        made = made-none counted ∙ few.made;
      }

  -- The last step may have been refused, or have come to one that does not.
  pub few-end : {paths left : List (List ℕ)} {start now after : Counts}
      → IsFew paths start left now → CountsUpTo 1 0 now after
      → CountsUpTo (count_by test paths + 1) 0 start after
  few-end few counted =
      let within = few.within in
      let grows = few.grows in
      let more = counted.entered_grows in
      let most = counted.entered_at_most in
      counts-none_made (omega (arith, grows, more)) (omega (arith, within, most))
      (made-none counted ∙ few.made)
