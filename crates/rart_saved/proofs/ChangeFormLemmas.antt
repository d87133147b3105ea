-- The values of a change as bytes, and lists of changes as pairs.
use Rattle.std.proofs.Common.{◌≡◌, ◌+◌, ◌%◌, ◌<◌, ◌≤◌, ℕ, Bool, false, List, [], ◌∷◌, ◌++◌, length, map, take, drop, get_or, Option, Some, None, Result, Ok, Err, refl, sym, ap, subst, ◌∙◌, append_assoc, append-nil, inl, inr, arith}
use Rattle.std.specs.Prelude.{All, is_some, nat_le, ◌==◌}
use Rattle.std.specs.Result.{IfOk}
use Rattle.std.proofs.lemmas.Bool.{eqb-false, eqb-true, false≢true, leb-false, leb-true}
use Rattle.std.proofs.lemmas.List.{append_cancel_left, length-map, map-append, take_all, take_more}
use Rattle.std.proofs.lemmas.List.Elements.{All-cons}
use Rattle.std.proofs.lemmas.List.Kept.{AllPairs-cons}
use Rattle.sha2.specs.Sha256.{sha256}
use Rattle.rart_changes.specs.Shown.{shown_change}
use Rattle.rart_changes.specs.declared.tracked.plain.listing.KeyChange.{KeyChange}
use Rattle.rart_maps.specs.ChangeLists.{Change}
use Rattle.rart_maps.specs.FoundLaws.{KeysAscend}
use Rattle.rart_maps.specs.Order.{IsBefore}
use Rattle.rart_maps.proofs.ElementLemmas.{AllPairs-first, AllPairs-rest, Contains-here}
use Rattle.rart_maps.proofs.FoundLemmas.{KeysAscend-sorted}
use Rattle.rart_maps.proofs.PointLemmas.{map-contains}
use Rattle.rart_versioned.specs.Keys.{IsKeyLength}
use Rattle.rart_saved.specs.ChangeFormLaws.{ChangeFormsAreOfOne, ChangeFormsStandApart, ChangesAreNoVersion}
use Rattle.rart_saved.specs.ChangeForms.{IsChangeList, as_pair, both_written, changes_body, changes_head, deed, if_there, saved_changes}
use Rattle.rart_saved.specs.ChangeLoads.{GivesBackChanges, LacksChanges, LacksEntries, LacksOne, shown_pairs}
use Rattle.rart_saved.specs.Forms.{entries, head}
use Rattle.rart_saved.specs.Laws.{same_first, same_rest}
use Rattle.rart_saved.specs.Numbers.{leb}
use Rattle.rart_saved.specs.Parts.{HasPart}
use Rattle.rart_saved.specs.Refusals.{OnOtherErr}
use Rattle.rart_saved.specs.declared.error.LoadError.{LoadError}
use Rattle.rart_saved.specs.Values.{LacksValue}
use Rattle.rart_saved.proofs.EntryLemmas.{IsChain, IsListed, before-trans, behind, chain-sorted}
use Rattle.rart_saved.proofs.ListedLemmas.{closed, closed-apart, closed-then, listed_body}
use Rattle.rart_saved.proofs.BytePartLemmas.{part-join}
use Rattle.rart_saved.proofs.SavedLemmas.{memory_alone, saved-then}

-- ---- which values there are

module _ {V : Type 0} where
  -- by the number of what a change does
  deed-before : (a b : Option V) → nat_le 2 (deed a b) ≡ is_some a
  unfolding deed
  deed-before None None = refl
  deed-before None (Some y) = refl
  deed-before (Some x) None = refl
  deed-before (Some x) (Some y) = refl

  deed-after : (a b : Option V) → (deed a b % 2 == 1) ≡ is_some b
  unfolding deed
  deed-after None None = refl
  deed-after None (Some y) = refl
  deed-after (Some x) None = refl
  deed-after (Some x) (Some y) = refl

  pub deed-is : (n : ℕ) (a b : Option V) → n ≤ 3 → is_some a ≡ nat_le 2 n
      → is_some b ≡ (n % 2 == 1) → n ≡ deed a b
  unfolding deed
  deed-is n None None small one other =
      omega (arith, small, leb-false 2 n (sym one), eqb-false (n % 2) 1 (sym other))
  deed-is n None (Some y) small one other =
      omega (arith, small, leb-false 2 n (sym one), eqb-true (n % 2) 1 (sym other))
  deed-is n (Some x) None small one other =
      omega (arith, small, leb-true 2 n (sym one), eqb-false (n % 2) 1 (sym other))
  deed-is n (Some x) (Some y) small one other =
      omega (arith, small, leb-true 2 n (sym one), eqb-true (n % 2) 1 (sym other))

  deed-small : (a b : Option V) → deed a b ≤ 3
  unfolding deed
  deed-small None None = omega arith
  deed-small None (Some y) = omega arith
  deed-small (Some x) None = omega arith
  deed-small (Some x) (Some y) = omega arith

module _ {V : Type 0} (written : V → List ℕ) where
  -- No value has its form where one has to.
  there-lacks : (value : Option V) (bytes rest : List ℕ) (is_there : Bool)
      → LacksOne written is_there bytes → is_some value ≡ is_there
      → bytes ≡ if_there written value ++ rest → ⊥
  unfolding if_there
  there-lacks None bytes rest is_there lacks same stands =
      false≢true (same ∙ lacks.0)
  there-lacks (Some x) bytes rest is_there lacks same stands = lacks.1 x rest stands

  module _ (bytes : List ℕ) (at n : ℕ) (first : drop at bytes ≡ n ∷ drop (at + 1) bytes) where
    pub values-read : (before after : Option V) (from end : ℕ) → n ≡ deed before after
        → HasPart bytes (at + 1) (if_there written before) from
        → HasPart bytes from (if_there written after) end
        → HasPart bytes at (both_written written (before, after)) end
    unfolding both_written
    values-read before after from end is one other =
        let both = part-join bytes (at + 1) from end _ _ one other in
        record {
          within = both.within;
          stands = first ∙ (λ i. is i ∷ both.stands i);
        }

    -- what stands at a place where both values have their form
    values-opened : (values : Option V × Option V) (rest : List ℕ)
        → drop at bytes ≡ both_written written values ++ rest
        → (n ≡ deed values.0 values.1)
        × (drop (at + 1) bytes ≡ if_there written values.0
        ++ (if_there written values.1 ++ rest))
    unfolding both_written
    values-opened values rest stands =
        let same = sym first ∙ stands in (
          same_first same,
          same_rest same
              ∙ append_assoc (if_there written values.0) (if_there written values.1) rest,
        )

    -- No values have their form where the number says nothing,
    pub lacks-deed : 3 < n → LacksValue (both_written written) (drop at bytes)
    lacks-deed great values rest stands =
        omega (
          arith,
          great,
          (values-opened values rest stands).0,
          deed-small values.0 values.1,
        )

    -- nor where there is no first one,
    pub lacks-before : (is_there : Bool) → is_there ≡ nat_le 2 n
        → LacksOne written is_there (drop (at + 1) bytes)
        → LacksValue (both_written written) (drop at bytes)
    lacks-before is_there is lacks values rest stands =
        let opened = values-opened values rest stands in
        there-lacks values.0 (drop (at + 1) bytes) _ is_there lacks
        (sym (deed-before values.0 values.1) ∙ ap (nat_le 2) (sym opened.0) ∙ sym is)
        opened.1

  there-apart : ((x y : V) (r s : List ℕ) → written x ++ r ≡ written y ++ s → x ≡ y)
      → (one other : Option V) (r s : List ℕ) → is_some one ≡ is_some other
      → if_there written one ++ r ≡ if_there written other ++ s → (one ≡ other) × (r ≡ s)
  unfolding if_there
  there-apart apart None None r s same stands = (refl, stands)
  there-apart apart None (Some y) r s same stands = absurd (false≢true same)
  there-apart apart (Some x) None r s same stands = absurd (false≢true (sym same))
  there-apart apart (Some x) (Some y) r s same stands =
      let is = apart x y r s stands in (
        ap Some is,
        append_cancel_left (written y) r s (ap (λ v. written v ++ r) (sym is) ∙ stands),
      )

  module _ (apart : (x y : V) (r s : List ℕ) → written x ++ r ≡ written y ++ s → x ≡ y) where
    pub both-apart : (one other : Option V × Option V) (r s : List ℕ)
        → both_written written one ++ r ≡ both_written written other ++ s → one ≡ other
    unfolding both_written
    both-apart one other r s same =
        let deeds = same_first same in
        let firsts =
        there-apart apart one.0 other.0 (if_there written one.1 ++ r)
        (if_there written other.1 ++ s)
        (sym (deed-before one.0 one.1) ∙ ap (nat_le 2) deeds ∙ deed-before other.0 other.1)
        (sym (append_assoc (if_there written one.0) (if_there written one.1) r)
        ∙ same_rest same
        ∙ append_assoc (if_there written other.0) (if_there written other.1) s) in
        let seconds =
        there-apart apart one.1 other.1 r s
        (sym (deed-after one.0 one.1) ∙ ap (λ n. n % 2 == 1) deeds
        ∙ deed-after other.0 other.1) firsts.1 in
        λ i. (firsts.0 i, seconds.0 i)

    -- nor where there is no second one.
    pub lacks-after : (bytes : List ℕ) (at from n : ℕ)
        (first : drop at bytes ≡ n ∷ drop (at + 1) bytes) (before : Option V) (is_there : Bool)
        → HasPart bytes (at + 1) (if_there written before) from
        → is_some before ≡ nat_le 2 n → is_there ≡ (n % 2 == 1)
        → LacksOne written is_there (drop from bytes)
        → LacksValue (both_written written) (drop at bytes)
    lacks-after bytes at from n first before is_there part same is lacks values rest stands =
        let opened = values-opened bytes at n first values rest stands in
        let parts =
        there-apart apart before values.0 (drop from bytes) _
        (same ∙ ap (nat_le 2) opened.0 ∙ deed-before values.0 values.1)
        (sym part.stands ∙ opened.1) in
        there-lacks values.1 (drop from bytes) rest is_there lacks
        (sym (deed-after values.0 values.1) ∙ ap (λ k. k % 2 == 1) (sym opened.0) ∙ sym is)
        parts.1

  -- or where there is no byte.
  pub lacks-no_byte : (bytes : List ℕ) → bytes ≡ [] → LacksValue (both_written written) bytes
  unfolding both_written
  lacks-no_byte bytes none values rest stands = omega (arith, ap length (sym none ∙ stands))

-- ---- in order

module _ {V : Type 0} where
  -- A chain behind a key is one behind what stands before it.
  chain-behind : (u before : List ℕ) (pairs : List (List ℕ × V)) → IsBefore u before
      → IsChain false before pairs → IsChain false u pairs
  unfolding IsChain
  chain-behind u before [] less chain = tt
  chain-behind u before (pair ∷ later) less chain =
      (inr (before-trans u before pair.0 less (behind before pair.0 chain.0)), chain.1)

module _ {A V : Type 0} (f : A → List ℕ × V) where
  chain-all : (before : List ℕ) (xs : List A) → IsChain false before (map f xs)
      → All (λ x. IsBefore before (f x).0) xs
  unfolding IsChain
  chain-all before [] chain = λ k d below. absurd (omega (arith, below))
  chain-all before (x ∷ xs) chain =
      let next = behind before (f x).0 chain.0 in
      All-cons (λ y. IsBefore before (f y).0) x xs next
      (chain-all before xs (chain-behind before (f x).0 (map f xs) next chain.1))

  -- Of what is a chain the keys ascend, and the other way.
  pub chain-ascends : (is_first : Bool) (before : List ℕ) (xs : List A)
      → IsChain is_first before (map f xs) → KeysAscend (λ x. (f x).0) xs
  unfolding IsChain
  chain-ascends is_first before [] chain = λ i j d less below. absurd (omega (arith, below))
  chain-ascends is_first before (x ∷ xs) chain =
      AllPairs-cons (λ a b. IsBefore (f a).0 (f b).0) x xs (chain-all (f x).0 xs chain.1)
      (chain-ascends false (f x).0 xs chain.1)

  chain-mapped : (x : A) (xs : List A) → KeysAscend (λ x. (f x).0) (x ∷ xs)
      → IsChain false (f x).0 (map f xs)
  unfolding IsChain
  chain-mapped x [] ascends = tt
  chain-mapped x (y ∷ ys) ascends = (
    inr (AllPairs-first (λ a b. IsBefore (f a).0 (f b).0) x (y ∷ ys) ascends y
        (Contains-here y ys)),
    chain-mapped y ys (AllPairs-rest (λ a b. IsBefore (f a).0 (f b).0) x (y ∷ ys) ascends),
  )

  pub ascends-mapped : (xs : List A) → KeysAscend (λ x. (f x).0) xs
      → KeysAscend (λ pair. pair.0) (map f xs)
  unfolding IsChain
  ascends-mapped [] ascends = λ i j d less below. absurd (omega (arith, below))
  ascends-mapped (x ∷ xs) ascends =
      KeysAscend-sorted (map f (x ∷ xs))
      (chain-sorted (map f (x ∷ xs)) (inl refl, chain-mapped x xs ascends))

-- ---- lists of changes

module _ {V : Type 0} where
  as_change : List ℕ × (Option V × Option V) → Change V
  as_change pair = (pair.0, pair.1.0, pair.1.1)

  changes-back : (list : List (Change V)) → map as_change (map as_pair list) ≡ list
  unfolding as_change
  changes-back [] = refl
  changes-back (change ∷ list) = ap (λ l. change ∷ l) (changes-back list)

  changes-one : (one other : List (Change V)) → map as_pair one ≡ map as_pair other → one ≡ other
  changes-one one other same =
      sym (changes-back one) ∙ ap (map as_change) same ∙ changes-back other

module _ {V : Type 0} (written : V → List ℕ) (kind : ℕ) where
  pub changes-closed : (list : List (Change V)) → saved_changes written kind list
      ≡ closed (both_written written) (changes_head kind) (map as_pair list)
  unfolding saved_changes changes_body
  changes-closed list =
      let all = entries (both_written written) [] (map as_pair list) in
      ap (λ n. (changes_head kind ++ leb n ++ all) ++ sha256 (changes_head kind ++ leb n ++ all))
      (sym (length-map list as_pair))

  pub changes-apart : ((x y : V) (r s : List ℕ) → written x ++ r ≡ written y ++ s → x ≡ y)
      → ChangeFormsStandApart written kind
  changes-apart apart one other r s same =
      let parts =
      closed-apart (both_written written) (both-apart written apart) (changes_head kind)
      (map as_pair one) (map as_pair other) r s
      (ap (λ g. g ++ r) (sym (changes-closed one)) ∙ same
      ∙ ap (λ g. g ++ s) (changes-closed other)) in
      (changes-one one other parts.0, parts.1)

  pub changes-of_one : ((x y : V) (r s : List ℕ) → written x ++ r ≡ written y ++ s → x ≡ y)
      → ChangeFormsAreOfOne written kind
  changes-of_one apart one other same =
      (changes-apart apart one other [] [] (ap (λ g. g ++ []) same)).0

  head-other : (r s : List ℕ) → head kind ++ r ≡ changes_head kind ++ s → ⊥
  unfolding head changes_head
  head-other r s same = omega (arith, same_first (same_rest same))

  pub changes-begin : (list : List (Change V)) → saved_changes written kind list
      ≡ changes_head kind ++ (leb (length (map as_pair list)) ++ (entries (both_written written) []
      (map as_pair list) ++ (sha256 (listed_body (both_written written) (changes_head kind)
      (map as_pair list)) ++ [])))
  changes-begin list =
      changes-closed list ∙ sym (append-nil _)
      ∙ closed-then (both_written written) (changes_head kind) (map as_pair list) []

  pub changes-no_version : ChangesAreNoVersion written kind
  changes-no_version v list r s same =
      head-other _ _
      (sym (append_assoc (head kind) _ r) ∙ ap (λ g. g ++ r) (sym (saved-then written kind v))
      ∙ same ∙ ap (λ g. g ++ s) (changes-begin list) ∙ append_assoc (changes_head kind) _ s)

module _ {V : Type 0} (written : V → List ℕ) where
  -- Both values written, one part behind the other.
  pub values-written : (out one two three : List ℕ) (n : ℕ) (before after : Option V)
      → n ≡ deed before after → one ≡ out ++ n ∷ [] → two ≡ one ++ if_there written before
      → three ≡ two ++ if_there written after
      → three ≡ out ++ both_written written (before, after)
  unfolding both_written
  values-written out one two three n before after is first second third =
      third ∙ ap (λ g. g ++ if_there written after)
      (second ∙ ap (λ g. g ++ if_there written before) (first ∙ ap (λ k. out ++ k ∷ []) is)
      ∙ append_assoc out (deed before after ∷ []) (if_there written before))
      ∙ append_assoc out (deed before after ∷ if_there written before) (if_there written after)

-- ---- read and given back

module _ {V : Type 0} (written : V → List ℕ) (kind : ℕ) (most : Option ℕ) where
  -- Where no list of so many pairs has its form, no changes that are so many have theirs.
  pub lacks-listed : (list : List (Change V)) (count : ℕ) (bytes rest : List ℕ)
      → LacksEntries (both_written written) most count bytes → IsChangeList most list
      → count ≡ length list
      → bytes ≡ entries (both_written written) [] (map as_pair list) ++ rest → ⊥
  lacks-listed list count bytes rest lacks is counted stands =
      lacks (map as_pair list) rest (length-map list as_pair ∙ sym counted)
      (ascends-mapped as_pair list is.ascends)
      (λ pair there.
      let found = map-contains as_pair list pair there in
      subst (λ p. IsKeyLength most (length p.0)) found.2 (is.lengths found.0 found.1))
      stands

  pub changes-given : {T : Type 0} (r : Result T LoadError) (shown : T → List (Change V))
      (bytes : List ℕ)
      → ((x y : V) (r s : List ℕ) → written x ++ r ≡ written y ++ s → x ≡ y)
      → IfOk r (λ found. bytes ≡ saved_changes written kind (shown found))
      → OnOtherErr r (LacksChanges written kind most bytes)
      → GivesBackChanges written kind most r shown bytes
  changes-given (Ok found) shown bytes apart read refused list is stands =
      changes-of_one written kind apart (shown found) list (sym read ∙ stands)
  changes-given (Err e) shown bytes apart read refused list is stands =
      memory_alone e (λ other. refused other list is stands)

-- ---- lists that grow

module _ {K V : Type 0} (bytes_of : K → List ℕ) where
  -- one change more
  pub shown-next : (list : List (KeyChange K V)) (change : KeyChange K V)
      → shown_pairs bytes_of (list ++ change ∷ [])
      ≡ shown_pairs bytes_of list ++ as_pair (shown_change bytes_of change) ∷ []
  shown-next list change =
      ap (map as_pair) (map-append (shown_change bytes_of) list (change ∷ []))
      ∙ map-append as_pair (map (shown_change bytes_of) list) (shown_change bytes_of change ∷ [])

  -- one taken more
  pub taken-next : (list : List (KeyChange K V)) (i : ℕ) (d : KeyChange K V) → i < length list
      → shown_pairs bytes_of (take (i + 1) list) ≡ shown_pairs bytes_of (take i list)
      ++ as_pair (shown_change bytes_of (get_or list i d)) ∷ []
  taken-next list i d below =
      ap (shown_pairs bytes_of) (take_more list i d below)
      ∙ shown-next (take i list) (get_or list i d)

  -- The parts of a list's form, of which the changes were written one by one.
  pub changes-written : (written : V → List ℕ) (kind i : ℕ) (list : List (KeyChange K V))
      (bytes before all : List ℕ) (count : ℕ)
      → IsListed (both_written written) (changes_head kind ++ leb (length list)) bytes before count
      (shown_pairs bytes_of (take i list)) → length list ≤ i → all ≡ bytes ++ sha256 bytes
      → all ≡ saved_changes written kind (map (shown_change bytes_of) list)
  unfolding saved_changes changes_body
  changes-written written kind i list bytes before all count is past whole =
      let long : length list ≡ length (map (shown_change bytes_of) list) =
      sym (length-map list (shown_change bytes_of)) in
      whole ∙ ap (λ b. b ++ sha256 b) (is.listed ∙ (λ j. (changes_head kind ++ leb (long j))
      ++ entries (both_written written) [] (shown_pairs bytes_of (take_all i list past j))))
