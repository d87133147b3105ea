-- A version as bytes: its parts, and what they fix.
use Rattle.std.proofs.Common.{◌≡◌, ℕ, List, [], ◌∷◌, ◌++◌, length, take, drop, Option, refl, sym, ap, subst, ◌∙◌, append_assoc, append-nil, arith, ◌≢◌, Bool, true, false, Result, Ok, Err, inl}
use Rattle.std.proofs.lemmas.List.{append_cancel_left, length-append}
use Rattle.std.proofs.lemmas.Bool.{false≢true}
use Rattle.std.specs.Result.{IfOk}
use Rattle.std.specs.FinMap as finite
use Rattle.sha2.specs.Sha256.{sha256}
use Rattle.rart_maps.specs.Pairs.{pairs}
use Rattle.rart_maps.specs.Versions.{Version}
use Rattle.rart_saved.specs.Forms.{head, entries, body, saved}
use Rattle.rart_saved.specs.declared.error.LoadError.{LoadError}
use Rattle.rart_saved.specs.declared.error.LoadError.TheVariants.{Io, Memory, Truncated, Malformed, TooLong, Checksum, Unsupported}
use Rattle.rart_saved.specs.Loads.{GivesBack, GivesBackUnlessIo, LacksVersion}
use Rattle.rart_saved.specs.Refusals.{OnOtherErr}
use Rattle.rart_saved.specs.Laws.{leb-apart}
use Rattle.rart_saved.specs.Numbers.{leb}
use Rattle.rart_saved.specs.Parts.{HasPart}
use Rattle.rart_saved.specs.SavedLaws.{FormsAreOfOne, FormsStandApart}
use Rattle.rart_saved.proofs.EntryLemmas.{last_key, entries-front}
use Rattle.rart_saved.proofs.BytePartLemmas.{part-front, part-join}

no_pair : {X : Type 0} → (xs : List X) → length xs ≡ 0 → xs ≡ []
no_pair [] is = refl
no_pair (x ∷ xs) is = absurd (omega (arith, is))

module _ {V : Type 0} (written : V → List ℕ) where
  -- The parts of a version's form, written one behind the other.
  pub saved-made : (kind count number : ℕ) (v : Version V) (front : List ℕ)
      → front ≡ head kind ++ leb number ++ leb count → number ≡ v.number
      → count ≡ finite.len v.content
      → (front ++ entries written [] (pairs v.content))
      ++ sha256 (front ++ entries written [] (pairs v.content)) ≡ saved written kind v
  unfolding saved body
  saved-made kind count number v front fronts numbers counts =
      ap (λ s. (s ++ entries written [] (pairs v.content))
      ++ sha256 (s ++ entries written [] (pairs v.content)))
      (fronts ∙ (λ i. head kind ++ leb (numbers i) ++ leb (counts i)))

  -- all but the sum, and what stands behind it
  body-then : (kind : ℕ) (v : Version V) (rest : List ℕ) → body written kind v ++ rest
      ≡ head kind ++ (leb v.number ++ (leb (finite.len v.content)
      ++ (entries written [] (pairs v.content) ++ rest)))
  unfolding body
  body-then kind v rest =
      append_assoc (head kind ++ leb v.number ++ leb (finite.len v.content))
      (entries written [] (pairs v.content)) rest
      ∙ append_assoc (head kind ++ leb v.number) (leb (finite.len v.content))
      (entries written [] (pairs v.content) ++ rest)
      ∙ append_assoc (head kind) (leb v.number)
      (leb (finite.len v.content) ++ (entries written [] (pairs v.content) ++ rest))

  -- a version's form from its head on
  pub saved-then : (kind : ℕ) (v : Version V) → saved written kind v
      ≡ head kind ++ (leb v.number ++ (leb (finite.len v.content)
      ++ (entries written [] (pairs v.content) ++ sha256 (body written kind v))))
  unfolding saved
  saved-then kind v = body-then kind v (sha256 (body written kind v))

  -- ---- no form begins another

  -- Where as many pairs stand, they are the same.
  same-pairs : ((x y : V) (r s : List ℕ) → written x ++ r ≡ written y ++ s → x ≡ y)
      → (v w : Version V) (r s : List ℕ) → finite.len v.content ≡ finite.len w.content
      → entries written [] (pairs v.content) ++ r ≡ entries written [] (pairs w.content) ++ s
      → v.content ≡ w.content
  same-pairs apart v w r s long same =
      let same_length : length (pairs v.content) ≡ length (pairs w.content) =
      sym (finite.len-entries v.content) ∙ long ∙ finite.len-entries w.content in
      let front =
      entries-front written apart [] (pairs v.content) (pairs w.content) r s same
      (omega (arith, same_length)) in
      let nothing : front.0 ≡ [] =
      no_pair front.0 (omega (
        arith,
        same_length,
        ap length front.1,
        length-append (pairs v.content) front.0,
      )) in
      finite.same_entries_map v.content w.content
      (sym (append-nil (pairs v.content)) ∙ (λ i. pairs v.content ++ sym nothing i)
      ∙ sym front.1)

  same-version : ((x y : V) (r s : List ℕ) → written x ++ r ≡ written y ++ s → x ≡ y)
      → (kind : ℕ) (v w : Version V) (r s : List ℕ)
      → body written kind v ++ r ≡ body written kind w ++ s → v ≡ w
  same-version apart kind v w r s same =
      let whole =
      append_cancel_left (head kind) _ _
      (sym (body-then kind v r) ∙ same ∙ body-then kind w s) in
      let numbers = leb-apart v.number w.number _ _ whole in
      let counts = leb-apart (finite.len v.content) (finite.len w.content) _ _ numbers.1 in
      let contents = same-pairs apart v w r s counts.0 counts.1 in
      λ i. record { content = contents i; number = numbers.0 i }

  pub forms-apart : ((x y : V) (r s : List ℕ) → written x ++ r ≡ written y ++ s → x ≡ y)
      → (kind : ℕ) → FormsStandApart written kind
  unfolding saved
  forms-apart apart kind v w r s same =
      let is =
      same-version apart kind v w (sha256 (body written kind v) ++ r)
      (sha256 (body written kind w) ++ s)
      (sym (append_assoc (body written kind v) _ r) ∙ same
      ∙ append_assoc (body written kind w) _ s) in (
        is,
        append_cancel_left (saved written kind w) r s
            (ap (λ u. saved written kind u ++ r) (sym is) ∙ same),
      )

  pub forms-of_one : ((x y : V) (r s : List ℕ) → written x ++ r ≡ written y ++ s → x ≡ y)
      → (kind : ℕ) → FormsAreOfOne written kind
  forms-of_one apart kind v w same =
      (forms-apart apart kind v w [] [] (ap (λ g. g ++ []) same)).0

  -- ---- read

  -- The parts that were read, one behind the other, are the form of a version.
  pub saved-read : (kind number count at behind from end : ℕ) (bytes : List ℕ) (v : Version V)
      → HasPart bytes 0 (head kind) at → HasPart bytes at (leb number) behind
      → HasPart bytes behind (leb count) from
      → HasPart bytes from (entries written [] (pairs v.content)) end
      → v.number ≡ number → finite.len v.content ≡ count
      → drop end bytes ≡ sha256 (take end bytes) → bytes ≡ saved written kind v
  unfolding saved body
  saved-read kind number count at behind from end bytes v heads numbers counts lists n c sums =
      let whole : HasPart bytes 0 (body written kind v) end =
      part-join bytes 0 from end _ _
      (part-join bytes 0 behind from _ _
      (part-join bytes 0 at behind _ _ heads
      (subst (λ m. HasPart bytes at (leb m) behind) (sym n) numbers))
      (subst (λ m. HasPart bytes behind (leb m) from) (sym c) counts)) lists in
      whole.stands
      ∙ ap (λ g. body written kind v ++ g) (sums ∙ ap sha256 (part-front bytes _ end whole))

  -- the bytes before the sum
  body-front : (kind at behind from end : ℕ) (bytes : List ℕ) (v : Version V)
      → HasPart bytes 0 (head kind) at → HasPart bytes at (leb v.number) behind
      → HasPart bytes behind (leb (finite.len v.content)) from
      → HasPart bytes from (entries written [] (pairs v.content)) end
      → take end bytes ≡ body written kind v
  unfolding body
  body-front kind at behind from end bytes v heads numbers counts lists =
      part-front bytes _ end (part-join bytes 0 from end _ _
      (part-join bytes 0 behind from _ _ (part-join bytes 0 at behind _ _ heads numbers) counts)
      lists)

  -- ---- refused

  module _ (kind : ℕ) (bytes : List ℕ) (v : Version V) (stands : bytes ≡ saved written kind v) where
    -- what stands behind the head
    pub opened-head : (at : ℕ) → HasPart bytes 0 (head kind) at
        → drop at bytes ≡ leb v.number ++ (leb (finite.len v.content)
        ++ (entries written [] (pairs v.content) ++ sha256 (body written kind v)))
    opened-head at heads =
        append_cancel_left (head kind) (drop at bytes) _
        (sym heads.stands ∙ stands ∙ saved-then kind v)

    -- what stands behind the number
    pub opened-number : (at behind number : ℕ) → HasPart bytes 0 (head kind) at
        → HasPart bytes at (leb number) behind
        → (number ≡ v.number) × (drop behind bytes ≡ leb (finite.len v.content)
        ++ (entries written [] (pairs v.content) ++ sha256 (body written kind v)))
    opened-number at behind number heads numbers =
        leb-apart number v.number (drop behind bytes) _
        (sym numbers.stands ∙ opened-head at heads)

    -- what stands behind the count
    pub opened-count : (at behind from number count : ℕ) → HasPart bytes 0 (head kind) at
        → HasPart bytes at (leb number) behind → HasPart bytes behind (leb count) from
        → (count ≡ finite.len v.content) × (drop from bytes
        ≡ entries written [] (pairs v.content) ++ sha256 (body written kind v))
    opened-count at behind from number count heads numbers counts =
        leb-apart count (finite.len v.content) (drop from bytes) _
        (sym counts.stands ∙ (opened-number at behind number heads numbers).1)

    -- Where all its parts were read, only its sum stands behind them.
    pub opened-all : ((x y : V) (r s : List ℕ) → written x ++ r ≡ written y ++ s → x ≡ y)
        → (at behind from end number count : ℕ) (m : Version V)
        → HasPart bytes 0 (head kind) at → HasPart bytes at (leb number) behind
        → HasPart bytes behind (leb count) from
        → HasPart bytes from (entries written [] (pairs m.content)) end
        → finite.len m.content ≡ count
        → drop end bytes ≡ sha256 (take end bytes)
    unfolding entries
    opened-all apart at behind from end number count m heads numbers counts lists long =
        let opened = opened-count at behind from number count heads numbers counts in
        let number_is = (opened-number at behind number heads numbers).0 in
        let same_length : length (pairs m.content) ≡ length (pairs v.content) =
        sym (finite.len-entries m.content) ∙ long ∙ opened.0 ∙ finite.len-entries v.content in
        let front =
        entries-front written apart [] (pairs m.content) (pairs v.content) (drop end bytes) _
        (sym lists.stands ∙ opened.1) (omega (arith, same_length)) in
        let nothing : front.0 ≡ [] =
        no_pair front.0 (omega (
          arith,
          same_length,
          ap length front.1,
          length-append (pairs m.content) front.0,
        )) in
        let rest : drop end bytes ≡ sha256 (body written kind v) =
        front.2 ∙ ap (λ ps. entries written (last_key [] (pairs m.content)) ps
        ++ sha256 (body written kind v)) nothing in
        let lists_v : HasPart bytes from (entries written [] (pairs v.content)) end =
        subst (λ ps. HasPart bytes from (entries written [] ps) end)
        (sym (append-nil (pairs m.content)) ∙ (λ i. pairs m.content ++ sym nothing i)
        ∙ sym front.1) lists in
        rest ∙ ap sha256 (sym (body-front kind at behind from end bytes v heads
        (subst (λ n. HasPart bytes at (leb n) behind) number_is numbers)
        (subst (λ n. HasPart bytes behind (leb n) from) opened.0 counts) lists_v))

-- ---- given back

is_memory : LoadError → Bool
is_memory Memory = true
is_memory Io = false
is_memory Truncated = false
is_memory (Malformed at) = false
is_memory (TooLong at) = false
is_memory Checksum = false
is_memory (Unsupported format) = false

-- An error that can be no other is want of memory.
pub memory_alone : (e : LoadError) → ((e ≢ Memory) → ⊥) → e ≡ Memory
unfolding is_memory
memory_alone Memory never = refl
memory_alone Io never = absurd (never (λ is. false≢true (ap is_memory is)))
memory_alone Truncated never = absurd (never (λ is. false≢true (ap is_memory is)))
memory_alone (Malformed at) never = absurd (never (λ is. false≢true (ap is_memory is)))
memory_alone (TooLong at) never = absurd (never (λ is. false≢true (ap is_memory is)))
memory_alone Checksum never = absurd (never (λ is. false≢true (ap is_memory is)))
memory_alone (Unsupported format) never = absurd (never (λ is. false≢true (ap is_memory is)))

pub too_long-other : (at : ℕ) → TooLong at ≢ Memory
unfolding is_memory
too_long-other at is = false≢true (ap is_memory is)

module _ {V : Type 0} (written : V → List ℕ)
    (apart : (x y : V) (r s : List ℕ) → written x ++ r ≡ written y ++ s → x ≡ y)
    (kind : ℕ) (most : Option ℕ) where
  pub given-back : (r : Result (Version V) LoadError) (bytes : List ℕ)
      → IfOk r (λ tree. bytes ≡ saved written kind tree)
      → OnOtherErr r (LacksVersion written kind most bytes) → GivesBack written kind most r bytes
  given-back (Ok tree) bytes read refused v is stands =
      forms-of_one written apart kind tree v (sym read ∙ stands)
  given-back (Err e) bytes read refused v is stands =
      memory_alone e (λ other. refused other v is stands)

  pub given-io : (r : Result (Version V) LoadError) (bytes : List ℕ)
      → GivesBack written kind most r bytes → GivesBackUnlessIo written kind most r bytes
  given-io (Ok tree) bytes back v is stands = back v is stands
  given-io (Err e) bytes back v is stands = inl (back v is stands)
