-- A version of which a closure tells which pairs stay.
use Rattle.std.proofs.Common.{◌≡◌, ◌+◌, ℕ, Bool, true, false, cond, not, List, [], ◌∷◌, ◌++◌, length, map, refl, sym, ap, subst, ◌∙◌, append_assoc, append-nil, arith}
use Rattle.std.specs.Fn.{Mut}
use Rattle.std.specs.FinMap as finite
use Rattle.std.specs.Prelude.{filter}
use Rattle.std.proofs.lemmas.List.{length-append, length-map, map-append}
use Rattle.std.proofs.lemmas.List.Elements.{filter-append}
use Rattle.std.proofs.lemmas.List.Sums.{count_by-le-length, sum_by_push}
use Rattle.rart_maps.specs.Changes.{after_removal}
use Rattle.rart_maps.specs.Pairs.{pairs}
use Rattle.rart_maps.specs.Versions.{HasRoom, Version, without_key}
use Rattle.rart_maps.specs.Visits.{CalledOn}
use Rattle.rart_versioned.specs.Replies.{IsAskedUpTo, Replies}
use Rattle.rart_versioned.specs.Retained.{Retains, after_reply, count_dropped, kept_pairs}
use Rattle.rart_versioned.proofs.WithoutLemmas.{key-there, pairs-without}

module _ {F A R X : Type 0} (g : Mut F A R) (Shows : A → X → Type 0) where
  replies-push : (replies : List (X × R)) (x : X) (answer : R) (f j f' : F)
      → Replies g Shows f replies j → CalledOn g Shows j x answer f'
      → Replies g Shows f (replies ++ (x, answer) ∷ []) f'
  replies-push [] x answer f j f' calls last =
      (f', subst (λ state. CalledOn g Shows state x answer f') (sym calls) last, refl)
  replies-push (reply ∷ replies) x answer f j f' calls last =
      (calls.0, calls.1, replies-push replies x answer calls.0 j f' calls.2 last)

  asked-push : (members : List X) (replies : List (X × R)) (x : X) (answer : R) (rest : List X)
      → members ≡ map (λ reply. reply.0) replies ++ x ∷ rest
      → members ≡ map (λ reply. reply.0) (replies ++ (x, answer) ∷ []) ++ rest
  asked-push members replies x answer rest are =
      are ∙ sym (ap (λ list. list ++ rest)
      (map-append (λ reply. reply.0) replies ((x, answer) ∷ []))
      ∙ append_assoc (map (λ reply. reply.0) replies) (x ∷ []) rest)

module _ {V : Type 0} where
  kept-push : (replies : List ((List ℕ × V) × Bool)) (reply : (List ℕ × V) × Bool)
      → kept_pairs (replies ++ reply ∷ []) ≡ kept_pairs replies ++ kept_pairs (reply ∷ [])
  kept-push replies reply =
      ap (map (λ r. r.0)) (filter-append (λ r. r.1) replies (reply ∷ []))
      ∙ map-append (λ r. r.0) (filter (λ r. r.1) replies) (filter (λ r. r.1) (reply ∷ []))

  dropped-push : (replies : List ((List ℕ × V) × Bool)) (reply : (List ℕ × V) × Bool)
      → count_dropped (replies ++ reply ∷ []) ≡ count_dropped replies + cond (not reply.1) 1 0
  dropped-push replies reply = sum_by_push (λ r. cond (not r.1) 1 0) replies reply

module _ {F A V : Type 0} (g : Mut F A Bool) (Shows : A → List ℕ × V → Type 0) (start : Version V)
    (first : F) where
  -- The closure was asked about the pairs before these, and the version is without those that it
  -- did not keep.
  pub record IsRetainedUpTo (left : List (List ℕ × V)) (next : Version V) (f : F) : Type 0 where
    pub replies : List ((List ℕ × V) × Bool)
    pub asked : pairs start.content ≡ map (λ reply. reply.0) replies ++ left
    pub calls : Replies g Shows first replies f
    pub kept : pairs next.content ≡ kept_pairs replies ++ left
    pub number : next.number ≡ start.number + count_dropped replies

  pub retained-start : (left : List (List ℕ × V)) (next : Version V)
      → left ≡ pairs start.content → next ≡ start → IsRetainedUpTo left next first
  retained-start left next all same =
      record {
        replies = [];
        asked = sym all;
        calls = refl;
        kept = ap (λ v. pairs v.content) same ∙ sym all;
        number =
            let number = ap (λ v. v.number) same in
            omega (arith, number);
      }

  -- The cursor stands at the first pair that is left, and lends the bytes of its key.
  pub retained-at : (left rest : List (List ℕ × V)) (key bytes : List ℕ) (x : V) (next : Version V)
      (f : F) → left ≡ (key, x) ∷ rest → bytes ≡ key → IsRetainedUpTo left next f
      → IsRetainedUpTo ((bytes, x) ∷ rest) next f
  retained-at left rest key bytes x next f goes is before =
      subst (λ list. IsRetainedUpTo list next f)
      (goes ∙ ap (λ k. (k, x) ∷ rest) (sym is)) before

  pub retained-asked_once_more : (pair : List ℕ × V) (left : List (List ℕ × V)) (next : Version V)
      (f : F) (answer : Bool) (f' : F) → IsRetainedUpTo (pair ∷ left) next f
      → CalledOn g Shows f pair answer f' → IsAskedUpTo g Shows first (pairs start.content) f'
  retained-asked_once_more pair left next f answer f' before called = (
    before.replies ++ (pair, answer) ∷ [],
    left,
    record {
      asked = asked-push g Shows _ before.replies pair answer left before.asked;
      calls = replies-push g Shows before.replies pair answer first f f' before.calls called;
    },
  )

  retained-kept : (pair : List ℕ × V) (left : List (List ℕ × V)) (next next' : Version V)
      (f f' : F) → IsRetainedUpTo (pair ∷ left) next f → CalledOn g Shows f pair true f'
      → next' ≡ next → IsRetainedUpTo left next' f'
  retained-kept pair left next next' f f' before called same =
      let replies = before.replies in
      record {
        replies = replies ++ (pair, true) ∷ [];
        asked = asked-push g Shows _ replies pair true left before.asked;
        calls = replies-push g Shows replies pair true first f f' before.calls called;
        kept = ap (λ v. pairs v.content) same ∙ before.kept
            ∙ sym (append_assoc (kept_pairs replies) (pair ∷ []) left)
            ∙ ap (λ list. list ++ left) (sym (kept-push replies (pair, true)));
        number =
            let more = dropped-push replies (pair, true) in
            let number = before.number in
            let stays = ap (λ v. v.number) same in
            omega (arith, more, number, stays);
      }

  retained-dropped : (pair : List ℕ × V) (left : List (List ℕ × V)) (next next' : Version V)
      (f f' : F) → IsRetainedUpTo (pair ∷ left) next f → CalledOn g Shows f pair false f'
      → next' ≡ after_removal next pair.0 → IsRetainedUpTo left next' f'
  retained-dropped pair left next next' f f' before called removed =
      let replies = before.replies in
      let is : next' ≡ without_key next pair.0 1 =
      removed ∙ ap (λ t. cond t (without_key next pair.0 1) next)
      (key-there next (kept_pairs replies) pair.0 pair.1 left before.kept) in
      record {
        replies = replies ++ (pair, false) ∷ [];
        asked = asked-push g Shows _ replies pair false left before.asked;
        calls = replies-push g Shows replies pair false first f f' before.calls called;
        kept = ap (λ v. pairs v.content) is
            ∙ pairs-without next.content (kept_pairs replies) pair.0 pair.1 left before.kept
            ∙ ap (λ list. list ++ left)
            (sym (kept-push replies (pair, false) ∙ append-nil (kept_pairs replies)));
        number =
            let more = dropped-push replies (pair, false) in
            let number = before.number in
            let one = ap (λ v. v.number) is in
            omega (arith, more, number, one);
      }

  -- One pair further.
  pub retained-next : (pair : List ℕ × V) (left : List (List ℕ × V)) (next next' : Version V)
      (f f' : F) (kept : Bool) → IsRetainedUpTo (pair ∷ left) next f
      → CalledOn g Shows f pair kept f' → next' ≡ after_reply next pair kept
      → IsRetainedUpTo left next' f'
  retained-next pair left next next' f f' true before called same =
      retained-kept pair left next next' f f' before called same
  retained-next pair left next next' f f' false before called removed =
      retained-dropped pair left next next' f f' before called removed

  pub retained-room : (pair : List ℕ × V) (left : List (List ℕ × V)) (next : Version V) (f : F)
      → HasRoom start (finite.len start.content) → IsRetainedUpTo (pair ∷ left) next f
      → HasRoom next 1
  retained-room pair left next f room before =
      let replies = before.replies in
      let few = count_by-le-length (λ reply. not reply.1) replies in
      let all = finite.len-entries start.content ∙ ap length before.asked
      ∙ length-append (map (λ reply. reply.0) replies) (pair ∷ left) in
      let many = length-map replies (λ reply. reply.0) in
      let number = before.number in
      omega (arith, room, few, all, many, number)

  pub retained-end : (left : List (List ℕ × V)) (next : Version V) (f : F) → left ≡ []
      → IsRetainedUpTo left next f → Retains g Shows first start f next
  retained-end left next f none before =
      let asked = map (λ reply. reply.0) before.replies in
      let kept = kept_pairs before.replies in
      record {
        replies = before.replies;
        asked = sym (before.asked ∙ ap (λ list. asked ++ list) none ∙ append-nil asked);
        calls = before.calls;
        kept = before.kept ∙ ap (λ list. kept ++ list) none ∙ append-nil kept;
        number = before.number;
      }
