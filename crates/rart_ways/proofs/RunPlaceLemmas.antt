-- Pairs of a list by their places, and the runs that they stand in.
use Rattle.std.proofs.Common.{◌≡◌, ◌<◌, ◌≤◌, ℕ, zero, suc, ◌+◌, List, [], ◌∷◌, ◌++◌, get_or, length, map, take, drop, refl, sym, ap, subst, ◌∙◌, arith}
use Rattle.std.specs.Prelude.{slice_index_or}
use Rattle.std.proofs.lemmas.List.{drop_all, drop_more, get_or-take, length-drop, length-map, length-take, length-take-le}
use Rattle.rart_below.specs.Bytes.{common_length}
use Rattle.rart_node.specs.Trees.{BeginsWith}
use Rattle.rart_node.proofs.PrefixRestLemmas.{begins-drop}
use Rattle.rart_ways.specs.Runs.{AllBegin, AllLong, EndsBesides, last_key, run_from, runs, shared}
use Rattle.rart_ways.proofs.AscendingRunLemmas.{AllSome, run-split, runs-split}

two-first : (b c : ℕ) (w : List ℕ) → BeginsWith b w → BeginsWith c w → b ≡ c
two-first b c [] first second = absurd first
two-first b c (d ∷ w) first second = sym first ∙ second

not-begins : (byte at : ℕ) (p : List ℕ) → at < length p → ¬ (slice_index_or p at 0 ≡ byte)
    → ¬ BeginsWith byte (drop at p)
not-begins byte at p lt other begins =
    other (two-first (slice_index_or p at 0) byte (drop at p) (begins-drop p at lt) begins)

module _ {V : Type 0} where
  ends-last : (byte : ℕ) (l : List (List ℕ × V)) (p : List ℕ × V) → ¬ BeginsWith byte p.0
      → EndsBesides byte (l ++ (p ∷ []))
  ends-last byte [] p other = other
  ends-last byte (q ∷ []) p other = other
  ends-last byte (q ∷ r ∷ l) p other = ends-last byte (r ∷ l) p other

  runs-most : (l : List (List ℕ × V)) → runs l ≤ length l
  runs-most [] = omega arith
  runs-most (p ∷ []) = omega arith
  runs-most (p ∷ q ∷ l) = let later = runs-most (q ∷ l) in grind (arith, later)

module _ {K V : Type 0} (bytes : K → List ℕ) where
  pub long-at : (depth from i : ℕ) (items : List (K × V)) (x : K × V)
      → AllLong bytes depth (drop from items) → from ≤ i → i < length items
      → x ≡ get_or items i x → depth ≤ length (bytes x.0)
  long-at depth from i [] x long le lt is = absurd (omega (arith, lt))
  long-at depth zero zero (y ∷ items) x long le lt is =
      subst (λ z. depth ≤ length (bytes z.0)) (sym is) long.0
  long-at depth zero (suc i) (y ∷ items) x long le lt is =
      long-at depth zero i items x long.1 (omega arith) (omega (arith, lt)) is
  long-at depth (suc from) zero (y ∷ items) x long le lt is = absurd (omega (arith, le))
  long-at depth (suc from) (suc i) (y ∷ items) x long le lt is =
      long-at depth from i items x long (omega (arith, le)) (omega (arith, lt)) is

  pub run-at : (at i : ℕ) (items : List (K × V)) (x : K × V) → i < length items
      → x ≡ get_or items i x
      → run_from bytes i at items ≡ (drop at (bytes x.0), x.1) ∷ run_from bytes (i + 1) at items
  run-at at i items x lt is =
      ap (map (λ (pair : K × V). (drop at (bytes pair.0), pair.1)))
      (drop_more items i x lt ∙ ap (λ y. y ∷ drop (i + 1) items) (sym is))

  pub run-none : (from at : ℕ) (items : List (K × V)) → length items ≤ from
      → run_from bytes from at items ≡ []
  run-none from at items le =
      ap (map (λ (pair : K × V). (drop at (bytes pair.0), pair.1))) (drop_all from items le)

  -- ---- the last run
  pub alike-last : (at last byte : ℕ) (items : List (K × V)) (x : K × V)
      → last + 1 ≡ length items → x ≡ get_or items last x → at < length (bytes x.0)
      → byte ≡ slice_index_or (bytes x.0) at 0 → AllBegin byte (run_from bytes last at items)
  alike-last at last byte items x end is lt read =
      subst (AllBegin byte)
      (sym (run-at at last items x (omega (arith, end)) is
      ∙ ap (λ l. (drop at (bytes x.0), x.1) ∷ l)
      (run-none (last + 1) at items (omega (arith, end)))))
      (subst (λ b. BeginsWith b (drop at (bytes x.0))) (sym read) (begins-drop (bytes x.0) at lt), tt)

  pub alike-more : (at start next byte : ℕ) (items : List (K × V)) (x : K × V)
      → next + 1 ≡ start → start ≤ length items → x ≡ get_or items next x
      → at < length (bytes x.0) → slice_index_or (bytes x.0) at 0 ≡ byte
      → AllBegin byte (run_from bytes start at items)
      → AllBegin byte (run_from bytes next at items)
  alike-more at start next byte items x below within is lt read all =
      subst (AllBegin byte) (sym (run-at at next items x (omega (arith, below, within)) is)) (
        subst (λ b. BeginsWith b (drop at (bytes x.0))) read (begins-drop (bytes x.0) at lt),
        subst (λ n. AllBegin byte (run_from bytes n at items)) (sym below) all,
      )

  pub apart-none : (first at byte : ℕ) (items : List (K × V))
      → EndsBesides byte (run_from bytes first at (take first items))
  apart-none first at byte items =
      subst (EndsBesides byte) (sym (run-none first at (take first items)
      (let long = length-take first items in omega (arith, long)))) tt

  pub apart-before : (first at start next byte : ℕ) (items : List (K × V)) (x : K × V)
      → first ≤ next → next + 1 ≡ start → start ≤ length items → x ≡ get_or items next x
      → at < length (bytes x.0) → ¬ (slice_index_or (bytes x.0) at 0 ≡ byte)
      → EndsBesides byte (run_from bytes first at (take start items))
  apart-before first at start next byte items x from below within is lt other =
      let front = take start items in
      let long : length front ≡ start = length-take-le start items within in
      let read : x ≡ get_or front next x =
      is ∙ sym (get_or-take start items next x (omega (arith, below))) in
      subst (EndsBesides byte)
      (sym (run-split bytes first next at front from
      ∙ ap (λ l. run_from bytes first at (take next front) ++ l)
      (run-at at next front x (omega (arith, below, long)) read
      ∙ ap (λ l. (drop at (bytes x.0), x.1) ∷ l)
      (run-none (next + 1) at front (omega (arith, below, long))))))
      (ends-last byte (run_from bytes first at (take next front)) (drop at (bytes x.0), x.1)
      (not-begins byte at (bytes x.0) lt other))

  -- ---- how many runs
  pub some-of : (at : ℕ) (items : List (K × V)) → AllLong bytes (at + 1) items
      → AllSome (map (λ (pair : K × V). (drop at (bytes pair.0), pair.1)) items)
  some-of at [] long = tt
  some-of at (pair ∷ items) long =
      let here = long.0 in
      let rest = length-drop at (bytes pair.0) in
      (omega (arith, here, rest), some-of at items long.1)

  long-none : (depth from : ℕ) (items : List (K × V)) → length items ≡ 0
      → AllLong bytes depth (drop from items)
  long-none depth zero [] none = tt
  long-none depth (suc from) [] none = tt
  long-none depth from (x ∷ items) none = absurd (omega (arith, none))

  long-take : (depth from end : ℕ) (items : List (K × V)) → AllLong bytes depth (drop from items)
      → AllLong bytes depth (drop from (take end items))
  long-take depth from zero items long = long-none depth from [] refl
  long-take depth zero (suc end) [] long = tt
  long-take depth (suc from) (suc end) [] long = tt
  long-take depth zero (suc end) (y ∷ items) long =
      (long.0, long-take depth zero end items long.1)
  long-take depth (suc from) (suc end) (y ∷ items) long = long-take depth from end items long

  pub long-before : (depth from end : ℕ) (items : List (K × V))
      → AllLong bytes depth (drop from items) → AllLong bytes depth (drop from (take end items))
  long-before = long-take

  pub cons-at : (from at : ℕ) (items : List (K × V)) → from < length items
      → (p : List ℕ × V) × (l : List (List ℕ × V)) × (run_from bytes from at items ≡ p ∷ l)
  cons-at from at [] lt = absurd (omega (arith, lt))
  cons-at zero at (x ∷ items) lt =
      ((drop at (bytes x.0), x.1), run_from bytes 0 at items, refl)
  cons-at (suc from) at (x ∷ items) lt = cons-at from at items (omega (arith, lt))

  -- The last run counts one.
  pub run-counted : (first start at byte : ℕ) (items : List (K × V))
      → AllLong bytes (at + 1) (drop first items) → first ≤ start → start < length items
      → AllBegin byte (run_from bytes start at items)
      → EndsBesides byte (run_from bytes first at (take start items))
      → runs (run_from bytes first at items) ≡ runs (run_from bytes first at (take start items)) + 1
  run-counted first start at byte items long from within all apart =
      let cons = cons-at start at items within in
      ap runs (run-split bytes first start at items from
      ∙ ap (λ l. run_from bytes first at (take start items) ++ l) cons.2)
      ∙ runs-split byte (run_from bytes first at (take start items)) cons.0 cons.1
      (some-of at (drop first (take start items))
      (long-take (at + 1) first start items long)) (subst (AllBegin byte) cons.2 all) apart

  pub run-places : (first at : ℕ) (items : List (K × V))
      → runs (run_from bytes first at items) ≤ length items
  run-places first at items =
      let most = runs-most (run_from bytes first at items) in
      let same = length-map {B = List ℕ × V} (drop first items)
      (λ (pair : K × V). (drop at (bytes pair.0), pair.1)) in
      let less = length-drop first items in
      omega (arith, most, same, less)

  -- ---- what the first and the last share
  last-is : (depth : ℕ) (x : K × V) (items : List (K × V)) (l : K × V)
      → l ≡ get_or (x ∷ items) (length items) l
      → last_key (drop depth (bytes x.0))
      (map (λ (pair : K × V). (drop depth (bytes pair.0), pair.1)) items)
      ≡ drop depth (bytes l.0)
  last-is depth x [] l is = ap (λ z. drop depth (bytes z.0)) (sym is)
  last-is depth x (y ∷ items) l is = last-is depth y items l is

  pub shared-is : (from depth n : ℕ) (items : List (K × V)) (f l : K × V) → f ≡ get_or items from f
      → l ≡ get_or items n l → n + 1 ≡ length items → from < length items
      → shared (run_from bytes from depth items)
      ≡ take (common_length (drop depth (bytes f.0)) (drop depth (bytes l.0)))
      (drop depth (bytes f.0))
  shared-is from depth n [] f l first last end lt = absurd (omega (arith, lt))
  shared-is zero depth n (x ∷ items) f l first last end lt =
      let at_end : n ≡ length items = omega (arith, end) in
      let key = last-is depth x items l (last ∙ ap (λ i. get_or (x ∷ items) i l) at_end) in
      ap (λ k. take (common_length (drop depth (bytes x.0)) k) (drop depth (bytes x.0))) key
      ∙ ap (λ z. take (common_length (drop depth (bytes z.0)) (drop depth (bytes l.0)))
      (drop depth (bytes z.0))) (sym first)
  shared-is (suc from) depth zero (x ∷ items) f l first last end lt =
      absurd (omega (arith, end, lt))
  shared-is (suc from) depth (suc n) (x ∷ items) f l first last end lt =
      shared-is from depth n items f l first last (omega (arith, end)) (omega (arith, lt))

  pub prefix-is : (from depth n : ℕ) (items : List (K × V)) (f l : K × V) (u w : List ℕ)
      (common : ℕ) → f ≡ get_or items from f → l ≡ get_or items n l → n + 1 ≡ length items
      → from < length items → u ≡ drop depth (bytes (get_or items from f).0)
      → w ≡ drop depth (bytes (get_or items n l).0) → common ≡ common_length u w
      → take common u ≡ shared (run_from bytes from depth items)
  prefix-is from depth n items f l u w common first last end lt u_is w_is is =
      let left = u_is ∙ ap (λ (pair : K × V). drop depth (bytes pair.0)) (sym first) in
      let right = w_is ∙ ap (λ (pair : K × V). drop depth (bytes pair.0)) (sym last) in
      ap (λ n. take n u) is ∙ (λ i. take (common_length (left i) (right i)) (left i))
      ∙ sym (shared-is from depth n items f l first last end lt)

pub common-short : (u w : List ℕ) → common_length u w ≤ length u
common-short [] w = omega arith
common-short (b ∷ u) [] = omega arith
common-short (b ∷ u) (c ∷ w) = let later = common-short u w in grind (arith, later)

pub take-whole : (n : ℕ) (u : List ℕ) → length u ≤ n → take n u ≡ u
take-whole zero [] le = refl
take-whole (suc n) [] le = refl
take-whole zero (b ∷ u) le = absurd (omega (arith, le))
take-whole (suc n) (b ∷ u) le = ap (λ rest. b ∷ rest) (take-whole n u (omega (arith, le)))

pub common-right : (u w : List ℕ) → common_length u w ≤ length w
common-right [] w = omega arith
common-right (b ∷ u) [] = omega arith
common-right (b ∷ u) (c ∷ w) = let later = common-right u w in grind (arith, later)
