-- Which nodes are entered on the way from key to key of two trees.
use Rattle.std.proofs.Common.{◌≡◌, ◌⊎◌, ◌+◌, ⊎_elim, inl, inr, ℕ, Bool, true, false, cond, List, [], ◌∷◌, ◌++◌, Option, Some, None, length, refl, sym, ap, subst, ◌∙◌, arith}
use Rattle.std.specs.Prelude.{Contains, IsSome, count_by}
use Rattle.std.specs.Borrow.{Bor}
use Rattle.std.specs.List.{concat}
use Rattle.std.specs.Option.{is_some, option_copied}
use Rattle.std.specs.Ordering.{is_le}
use Rattle.std.specs.declared.ops.Bound.TheVariants.{Included}
use Rattle.std.proofs.lemmas.Bool.{false≢true}
use Rattle.std.proofs.lemmas.List.{length-append}
use Rattle.std.proofs.lemmas.List.Elements.{All-contains}
use Rattle.std.proofs.lemmas.List.Sums.{sum_by-cons}
use Rattle.rart_below.specs.Bytes.{begins, byte_order}
use Rattle.rart_maps.specs.FoundLaws.{KeysAscend}
use Rattle.rart_maps.specs.Order.{IsBefore, IsAtMost}
use Rattle.rart_maps.proofs.ElementLemmas.{Contains-here, Contains-later, AllPairs-first, AllPairs-rest}
use Rattle.rart_maps.proofs.OrderLemmas.{begins-rest, high-meets, IsBefore-itself, IsBefore-back}
use Rattle.rart_walks.specs.Walks.{Cursor, Gives, PassesTo, pending_pair}
use Rattle.rart_walks.specs.Diffs.{Leads}
use Rattle.rart_walks.specs.DiffEnds.{pairs_from, is_up_to_first}
use Rattle.rart_walks.specs.ChangeFields.{IsChangeWalk, GoesFurther, ComesTo}
use Rattle.rart_walks.specs.Passes.{PassesToFirst, GoesTo, GoesOnTo}
use Rattle.rart_walks.specs.SideFields.{pairs_to_give, paths_left}
use Rattle.rart_walks.specs.declared.diff.changes.ChangeWalk.{ChangeWalk}
use Rattle.rart_walks.proofs.SideLemmas.{before-before}

-- ---- order
begins-at_most : (u w : List ℕ) → begins u w ≡ true → IsAtMost u w
begins-at_most u w is =
    let rest = begins-rest u w is in
    subst (IsAtMost u) (sym rest.1) (longer u rest.0)
  where
    longer : (u more : List ℕ) → IsAtMost u (u ++ more)
    longer [] [] = inl refl
    longer [] (c ∷ more) = inr tt
    longer (b ∷ u) more =
        ⊎_elim (λ same. inl (ap (λ w. b ∷ w) same)) (λ before. inr (inr (refl, before)))
        (longer u more)

at_most-before : (u v w : List ℕ) → IsAtMost u v → IsBefore v w → IsAtMost u w
at_most-before u v w most before =
    ⊎_elim
    (λ same. inr (subst (λ u. IsBefore u w) (sym same) before))
    (λ less. inr (before-before u v w less before))
    most

-- From a later key on the earlier one is not.
not-from : (key earlier : List ℕ) → IsBefore earlier key → is_le (byte_order key earlier) ≡ false
not-from key earlier before =
    elim (is_le (byte_order key earlier))
    as (λ b. is_le (byte_order key earlier) ≡ b → b ≡ false) [
      | true ↦ λ is. absurd (⊎_elim
          (λ same. IsBefore-itself earlier (subst (IsBefore earlier) same before))
          (λ back. IsBefore-back earlier key before back)
          ((high-meets (Included earlier) key).0 is))
      | false ↦ λ _. refl
    ] refl

-- ---- counts
count-step : {A : Type 0} (p : A → Bool) (x : A) (xs : List A) →
    count_by p (x ∷ xs) ≡ cond (p x) 1 0 + count_by p xs
count-step p x xs = sum_by-cons (λ y. cond (p y) 1 0) x xs

module _ {A : Type 0} (p : A → Bool) where
  count-front : (front back : List A) → ((x : A) → Contains front x → p x ≡ true)
      → count_by p (front ++ back) ≡ length front + count_by p back
  count-front [] back passes = omega arith
  count-front (x ∷ front) back passes =
      let here = ap {B = ℕ} (λ b. cond b 1 0) (passes x (Contains-here x front)) in
      let later = count-front front back (λ y there. passes y (Contains-later x front y there)) in
      let step = count-step p x (front ++ back) in
      omega (arith, here, later, step)

  count-all : (list : List A) → ((x : A) → p x ≡ true) → count_by p list ≡ length list
  count-all [] passes = omega arith
  count-all (x ∷ list) passes =
      let here = ap {B = ℕ} (λ b. cond b 1 0) (passes x) in
      let later = count-all list passes in
      let step = count-step p x list in
      omega (arith, here, later, step)

module _ {V : Type 0} where
  -- ---- one tree
  pub goes-still : (pairs : List (List ℕ × V)) (paths : List (List ℕ)) → GoesTo pairs paths paths
  goes-still pairs paths = record { passing = λ test passes. omega arith }

  pub goes-through : {pairs : List (List ℕ × V)} {before between after : List (List ℕ)}
      → GoesTo pairs before between → GoesTo pairs between after → GoesTo pairs before after
  goes-through first second =
      record {
        passing = λ test passes.
            let one = first.passing test passes in
            let other = second.passing test passes in
            omega (arith, one, other);
      }

  -- to an earlier key, if such tests pass later strings too
  pub goes-weaker : {pairs later : List (List ℕ × V)} {before after : List (List ℕ)}
      → ((test : List ℕ → Bool) → PassesToFirst test later → PassesToFirst test pairs)
      → GoesTo pairs before after → GoesTo later before after
  goes-weaker weaker goes =
      record { passing = λ test passes. goes.passing test (weaker test passes) }

  -- The walk gave the first pair,
  pub goes-gives : (pairs : List (List ℕ × V)) (key : List ℕ) (x : V) (rest : List (List ℕ × V))
      {before after : List (List ℕ)} → pairs ≡ (key, x) ∷ rest → PassesTo key before after
      → GoesTo pairs before after
  goes-gives pairs key x rest {before} {after} is passes =
      subst (λ pairs. GoesTo pairs before after) (sym is) (record {
        passing = λ test first.
            let counted = ap (count_by test) passes.is
            ∙ count-front test passes.passed after (λ path there.
            first path (begins-at_most path key
            (All-contains (λ path. begins path key ≡ true) passes.passed path passes.begin there)))
            in
            let long = ap length passes.is ∙ length-append passes.passed after in
            omega (arith, counted, long);
      })

  -- or had none left.
  pub goes-over : (pairs : List (List ℕ × V)) (before after : List (List ℕ)) → pairs ≡ []
      → after ≡ [] → GoesTo pairs before after
  goes-over pairs before after none left =
      let over : GoesTo {V = V} [] before [] = record {
        passing = λ test all. let counted = count-all test before all in omega (arith, counted);
      } in
      subst (λ pairs. GoesTo pairs before after) (sym none)
      (subst (λ after. GoesTo {V = V} [] before after) (sym left) over)

  -- So it is by what the walk gives.
  pub goes-value : (before after : Cursor V) (value : Option (Bor V)) → Gives before value after
      → (IsSome value → PassesTo (concat after.segments) before.paths after.paths)
      → GoesTo before.pairs before.paths after.paths
  goes-value before after None gives passes =
      goes-over before.pairs before.paths after.paths gives.0 (ap (λ at. at.paths) gives.1)
  goes-value before after (Some value) gives passes =
      goes-gives before.pairs (concat after.segments) value.now after.pairs gives (passes refl)

  none-is : (o : Option (Bor V)) → is_some o ≡ false → o ≡ None
  none-is None is = refl
  none-is (Some value) is = absurd (false≢true (sym is))

  -- Where no value was held,
  pub goes-next : (key : List ℕ) (held : Option (Bor V)) (before after : Cursor V)
      → is_some held ≡ false → GoesTo before.pairs before.paths after.paths
      → GoesTo (pending_pair key (option_copied held) ++ before.pairs) before.paths after.paths
  goes-next key held before after none goes =
      subst (λ (held : Option (Bor V)).
      GoesTo (pending_pair key (option_copied held) ++ before.pairs) before.paths after.paths)
      (sym (none-is held none)) goes

  pub some-copied : (o : Option (Bor V)) → IsSome o → IsSome (option_copied o)
  some-copied None some = some
  some-copied (Some value) some = refl

  -- ---- what comes first
  later-first : (test : List ℕ → Bool) (x : List ℕ × V) (rest : List (List ℕ × V))
      → KeysAscend (λ pair. pair.0) (x ∷ rest) → PassesToFirst test rest
      → PassesToFirst test (x ∷ rest)
  later-first test x [] ascends passes = λ string most. passes string
  later-first test x (y ∷ rest) ascends passes = λ string most. passes string
      (at_most-before string x.0 y.0 most
      (AllPairs-first (λ a b. IsBefore a.0 b.0) x (y ∷ rest) ascends y (Contains-here y rest)))

  from-first : (test : List ℕ → Bool) (key : List ℕ) (pairs : List (List ℕ × V))
      → KeysAscend (λ pair. pair.0) pairs → PassesToFirst test (pairs_from key pairs)
      → PassesToFirst test pairs
  from-first test key [] ascends passes = passes
  from-first test key (x ∷ pairs) ascends passes =
      elim (is_le (byte_order key x.0))
      as (λ b. PassesToFirst test (cond b (x ∷ pairs_from key pairs) (pairs_from key pairs))
      → PassesToFirst test (x ∷ pairs)) [
        | true ↦ λ first. first
        | false ↦ λ first. later-first test x pairs ascends
            (from-first test key pairs (AllPairs-rest (λ a b. IsBefore a.0 b.0) x pairs ascends)
            first)
      ] passes

  pub goes-from : (key : List ℕ) {pairs : List (List ℕ × V)} {before after : List (List ℕ)}
      → KeysAscend (λ pair. pair.0) pairs → GoesTo pairs before after
      → GoesTo (pairs_from key pairs) before after
  goes-from key {pairs} ascends goes =
      goes-weaker (λ test passes. from-first test key pairs ascends passes) goes

  -- The test passes what is not behind the first key.
  pub up_to_first-passes : (pairs : List (List ℕ × V)) → PassesToFirst (is_up_to_first pairs) pairs
  up_to_first-passes [] = λ string. refl
  up_to_first-passes (first ∷ pairs) =
      λ string most. (high-meets (Included first.0) string).1 most

  -- ---- a key that leads what is left
  module _ {key : List ℕ} {value : Option V} {pairs left : List (List ℕ × V)}
      (leads : Leads key value pairs left) (ascends : KeysAscend (λ pair. pair.0) pairs) where
    leads-later : (test : List ℕ → Bool) → PassesToFirst test left → PassesToFirst test pairs
    leads-later test passes =
        subst (PassesToFirst test) (sym leads.pairs)
        (at value (subst (KeysAscend (λ pair. pair.0)) leads.pairs ascends))
      where
        at : (value : Option V) → KeysAscend (λ pair. pair.0) (pending_pair key value ++ left)
            → PassesToFirst test (pending_pair key value ++ left)
        at None order = passes
        at (Some x) order = later-first test (key, x) left order passes

    leads-goes : {before after : List (List ℕ)} → GoesTo pairs before after
        → GoesOnTo pairs before left after
    leads-goes goes = record { goes = goes-weaker leads-later goes; later = leads-later }

    leads-from : (later : List ℕ) → IsBefore key later
        → pairs_from later pairs ≡ pairs_from later left
    leads-from later before = ap (pairs_from later) leads.pairs ∙ at value
      where
        at : (value : Option V)
            → pairs_from later (pending_pair key value ++ left) ≡ pairs_from later left
        at None = refl
        at (Some x) =
            ap (λ b. cond b ((key, x) ∷ pairs_from later left) (pairs_from later left))
            (not-from later key before)

    leads-there : (pair : List ℕ × V) → Contains left pair → Contains pairs pair
    leads-there pair there =
        subst (λ list. Contains list pair) (sym leads.pairs) (at value)
      where
        at : (value : Option V) → Contains (pending_pair key value ++ left) pair
        at None = there
        at (Some x) = Contains-later (key, x) left pair there

    leads-behind : (later : List ℕ) (x : V) → Contains left (later, x) → IsBefore key later
    leads-behind later x there =
        All-contains (λ pair. IsBefore key pair.0) left (later, x) leads.behind there

  leads-here : {key : List ℕ} (value : Option V) {pairs left : List (List ℕ × V)}
      → Leads key value pairs left → IsSome value → (x : V) × Contains pairs (key, x)
  leads-here None leads some = absurd (false≢true some)
  leads-here {key} (Some x) {pairs} {left} leads some =
      (x, subst (λ list. Contains list (key, x)) (sym leads.pairs) (Contains-here (key, x) left))

  on-still : (pairs : List (List ℕ × V)) (paths : List (List ℕ)) → GoesOnTo pairs paths pairs paths
  on-still pairs paths = record { goes = goes-still pairs paths; later = λ test passes. passes }

  goes_on-through : {pairs left more : List (List ℕ × V)} {before between after : List (List ℕ)}
      → GoesOnTo pairs before left between → GoesOnTo left between more after
      → GoesOnTo pairs before more after
  goes_on-through first second =
      record {
        goes = goes-through (goes-weaker second.later first.goes) second.goes;
        later = λ test passes. first.later test (second.later test passes);
      }

-- ---- two trees
module _ {P V : Type 0} {partial : _} where
  pub gone-still : (walk : ChangeWalk P V partial) → GoesFurther walk walk
  gone-still walk =
      record {
        before = on-still (pairs_to_give walk.before) (paths_left walk.before);
        after = on-still (pairs_to_give walk.after) (paths_left walk.after);
        still = λ key left. (left, refl, refl);
      }

  pub gone-through : {old walk new : ChangeWalk P V partial} → GoesFurther old walk
      → GoesFurther walk new → GoesFurther old new
  gone-through first second =
      record {
        before = goes_on-through first.before second.before;
        after = goes_on-through first.after second.after;
        still = λ key left.
            let later = second.still key left in
            let earlier = first.still key later.0 in
            (earlier.0, earlier.1 ∙ later.1, earlier.2 ∙ later.2);
      }

  -- The next key of either was taken.
  module _ (old new : ChangeWalk P V partial) {key : List ℕ} {value other : Option V}
      (first : Leads key value (pairs_to_give old.before) (pairs_to_give new.before))
      (second : Leads key other (pairs_to_give old.after) (pairs_to_give new.after))
      (walk : IsChangeWalk old)
      (goes : GoesTo (pairs_to_give old.before) (paths_left old.before) (paths_left new.before))
      (also : GoesTo (pairs_to_give old.after) (paths_left old.after) (paths_left new.after)) where
    pub gone-next : GoesFurther old new
    gone-next =
        let one = walk.before.ascends in
        let two = walk.after.ascends in
        record {
          before = leads-goes first one goes;
          after = leads-goes second two also;
          still = λ later left.
              let behind : IsBefore key later =
              ⊎_elim (λ there. leads-behind first one later there.0 there.1)
              (λ there. leads-behind second two later there.0 there.1) left in (
                ⊎_elim
                    (λ there. inl (there.0, leads-there first one (later, there.0) there.1))
                    (λ there. inr (there.0, leads-there second two (later, there.0) there.1))
                    left,
                leads-from first one later behind,
                leads-from second two later behind,
              );
        }

    pub come-next : (IsSome value) ⊎ (IsSome other) → ComesTo key old new
    come-next some =
        record {
          left = ⊎_elim (λ here. inl (leads-here value first here))
              (λ here. inr (leads-here other second here)) some;
          before = goes-from key walk.before.ascends goes;
          after = goes-from key walk.after.ascends also;
        }

  -- Both have gone on, and then come to a key.
  pub come-through : {key : List ℕ} {old walk new : ChangeWalk P V partial} → IsChangeWalk walk
      → GoesFurther old walk → ComesTo key walk new → ComesTo key old new
  come-through {key} {old} {walk} {new} is gone come =
      let still = gone.still key come.left in
      record {
        left = still.0;
        before =
            subst (λ pairs. GoesTo pairs (paths_left old.before) (paths_left new.before))
            (sym still.1)
            (goes-through (goes-from key is.before.ascends gone.before.goes) come.before);
        after =
            subst (λ pairs. GoesTo pairs (paths_left old.after) (paths_left new.after))
            (sym still.2)
            (goes-through (goes-from key is.after.ascends gone.after.goes) come.after);
      }
