-- A merge, one key that theirs changed after the other.
use Rattle.std.proofs.Common.{◌≡◌, ◌+◌, ◌≤◌, ℕ, Bool, true, false, cond, List, [], ◌∷◌, ◌++◌, map, Option, Some, None, Result, Ok, Err, is_some, length, refl, sym, ap, subst, ◌∙◌, append_assoc, append-nil, arith}
use Rattle.std.specs.Prelude.{Contains, ◌||◌}
use Rattle.std.specs.Borrow.{Bor}
use Rattle.std.specs.Fn.{Called, Mut}
use Rattle.std.specs.FinMap as finite
use Rattle.std.specs.List.{cons_option}
use Rattle.std.specs.Option.{option_copied}
use Rattle.std.specs.Result.{IsErr, IsOk}
use Rattle.std.specs.declared.alloc.AllocError.{AllocError}
use Rattle.std.proofs.lemmas.Bool.{false≢true}
use Rattle.std.proofs.lemmas.List.{map-append}
use Rattle.std.proofs.lemmas.List.Elements.{Contains-append_left, filter_map-append}
use Rattle.std.proofs.lemmas.List.Sums.{count_by-le-length, sum_by-cons, sum_by_push}
use Rattle.rart_maps.specs.FoundLaws.{KeysAscend}
use Rattle.rart_maps.specs.Lookups.{with_value}
use Rattle.rart_maps.specs.Versions.{HasRoom, Map, Version}
use Rattle.rart_maps.specs.Visits.{AnswersUpTo, CalledOn, Visit}
use Rattle.rart_maps.proofs.ElementLemmas.{Contains-filter_map, Contains-here, Contains-later, Contains-map}
use Rattle.rart_maps.proofs.PointLemmas.{map-contains}
use Rattle.rart_maps.specs.ChangeLists.{Change, changes, patched}
use Rattle.rart_maps.specs.ChangeVisits.{ByKeyChange}
use Rattle.rart_maps.specs.Merges.{Conflict, conflicts, in_conflict}
use Rattle.rart_maps.proofs.ChangeLemmas.{changes-ascend, patched-elsewhere}
use Rattle.rart_changes.specs.Merging.{MergesTo, Reply, change_for, held_in_either}
use Rattle.rart_versioned.specs.Replies.{Answerable, IsAskedUpTo, Replies}
use Rattle.rart_changes.specs.Setting.{IsSetTo}
use Rattle.rart_changes.specs.Settling.{Askable, AskableIn, Settles, SettlesIn}
use Rattle.rart_changes.proofs.CallLemmas.{holds-of_all, holds-up_to}
use Rattle.rart_changes.proofs.MergedVersionLemmas.{at_conflict, conflict_at, conflict_at-is, conflicts-of_theirs, conflicts_in, three_at}
use Rattle.rart_changes.proofs.PatchLemmas.{room-next}
use Rattle.rart_changes.proofs.SetKeyLemmas.{apart-before, get-with_value-itself, get-with_value-other, patched-append, patched-with_value, with_value-again}

-- Of keys whose values stay, as many are there.
held-same : {V : Type 0} (start now after : Map V) (cs : List (Change V))
    → ((c : Change V) → Contains cs c → finite.get after c.0 ≡ finite.get now c.0)
    → held_in_either start after cs ≡ held_in_either start now cs
held-same start now after [] same = refl
held-same start now after (c ∷ cs) same =
    let here = same c (Contains-here c cs) in
    let later = held-same start now after cs (λ d there. same d (Contains-later c cs d there)) in
    sum_by-cons
    (λ d. cond (finite.contains_key after d.0 || finite.contains_key start d.0) 1 0) c cs
    ∙ (λ i. cond (is_some (here i) || finite.contains_key start c.0) 1 0 + later i)
    ∙ sym (sum_by-cons
    (λ d. cond (finite.contains_key now d.0 || finite.contains_key start d.0) 1 0) c cs)

module _ {F A V : Type 0} (g : Mut F A (Option V)) (Shows : A → Conflict V → Type 0) where
  replies-push : (replies : List (Reply V)) (reply : Reply V) (f j f' : F)
      → Replies g Shows f replies j → Replies g Shows j (reply ∷ []) f'
      → Replies g Shows f (replies ++ reply ∷ []) f'
  replies-push [] reply f j f' calls last =
      subst (λ state. Replies g Shows state (reply ∷ []) f') (sym calls) last
  replies-push (x ∷ xs) reply f j f' calls last =
      (calls.0, calls.1, replies-push xs reply calls.0 j f' calls.2 last)

  module _ (same : V → V → Bool) (start : Version V) (first : F) where
    abbrev ours : Map V
    ours = start.content

    -- What a draft is once these changes of theirs were gone over, and what the closure has replied
    -- so far: to each conflict among them, where no memory was refused, and else to a prefix.
    pub record IsSettled (front : List (Change V)) (made : Result (Unit {0}) AllocError)
        (now : Version V) (f : F) : Type 0 where
      pub replies : List (Reply V)
      pub rest : List (Conflict V)
      pub asked : conflicts_in same start.content front ≡ map (λ reply. reply.0) replies ++ rest
      pub calls : Replies g Shows first replies f
      pub all : IsOk made → rest ≡ []
      pub content : IsOk made
          → now.content ≡ patched (patched start.content front) (map change_for replies)
      pub number : IsOk made
          → now.number ≡ start.number + held_in_either start.content now.content front

    pub settled-start : (made : Result (Unit {0}) AllocError) (now : Version V) → now ≡ start
        → IsSettled [] made now first
    settled-start made now is =
        record {
          replies = [];
          rest = [];
          asked = refl;
          calls = refl;
          all = λ _. refl;
          content = λ _. ap (λ v. v.content) is;
          number = λ _. let number = ap (λ v. v.number) is in omega (arith, number);
        }

    module _ (front : List (Change V)) (c : Change V)
        (apart : (d : Change V) → Contains front d → c.0 ≡ d.0 → ⊥) where
      -- The key of no reply so far is this one.
      apart-replies : (replies : List (Reply V)) (rest : List (Conflict V))
          → conflicts_in same ours front ≡ map (λ reply. reply.0) replies ++ rest
          → (d : Change V) → Contains (map change_for replies) d → c.0 ≡ d.0 → ⊥
      apart-replies replies rest asked d there is =
          let reply = map-contains change_for replies d there in
          let conflict = subst (λ ks. Contains ks reply.0.0) (sym asked)
          (Contains-append_left (map (λ r. r.0) replies) rest reply.0.0
          (Contains-map (λ r. r.0) replies reply.0 reply.1)) in
          let change = (Contains-filter_map (conflict_at same ours) front reply.0.0).0 conflict in
          apart change.0 change.1
          (is ∙ sym (ap (λ e. e.0) reply.2)
          ∙ ap (λ k. k.0) (conflict_at-is same ours change.0 reply.0.0 change.2).0)

      kept-there : (now : Map V) (replies : List (Change V))
          → now ≡ patched (patched ours front) replies
          → ((d : Change V) → Contains replies d → c.0 ≡ d.0 → ⊥)
          → finite.get now c.0 ≡ finite.get ours c.0
      kept-there now replies is others =
          ap (λ m. finite.get m c.0) is
          ∙ patched-elsewhere replies (patched ours front) c.0 others
          ∙ patched-elsewhere front ours c.0 apart

      -- the number with this key set too
      number-next : (now after : Version V) (answer : Option V) → IsSetTo now c.0 answer after
          → finite.get now.content c.0 ≡ finite.get ours c.0
          → now.number ≡ start.number + held_in_either ours now.content front
          → after.number ≡ start.number + held_in_either ours after.content (front ++ c ∷ [])
      number-next now after answer set kept was =
          let number = set.number in
          let before = ap {B = ℕ} (λ o. cond (is_some answer || is_some o) 1 0) kept in
          let there = ap (λ m. finite.get m c.0) set.content
          ∙ get-with_value-itself now.content c.0 answer in
          let here = ap {B = ℕ} (λ o. cond (is_some o || finite.contains_key ours c.0) 1 0) there in
          let others = held-same ours now.content after.content front (λ d among.
          ap (λ m. finite.get m d.0) set.content
          ∙ get-with_value-other now.content c.0 answer d.0 (apart d among)) in
          let more = sum_by_push (λ d. cond (finite.contains_key after.content d.0
          || finite.contains_key ours d.0) 1 0) front c in
          omega (arith, number, before, here, others, more, was)

      -- Whether there is a conflict or not: what it is settled to, where no memory was refused
      -- before.
      settled-by : (t : Bool) → at_conflict same ours c ≡ t
          → (made made' : Result (Unit {0}) AllocError) (now after : Version V) (f f' : F)
          → IsOk made → IsSettled front made now f
          → (answer : Option V) → Settles g Shows t f (three_at same ours c) answer f'
          → (IsOk made' → IsSetTo now c.0 answer after)
          → IsSettled (front ++ c ∷ []) made' after f'
      settled-by true is made made' now after f f' ok before answer settles sets =
          let three = three_at same ours c in
          let reply : Reply V = (three, answer) in
          let front_asked = before.asked
          ∙ ap (λ rest. map (λ reply. reply.0) before.replies ++ rest) (before.all ok)
          ∙ append-nil (map (λ reply. reply.0) before.replies) in
          let others = apart-replies before.replies before.rest before.asked in
          let kept = kept-there now.content (map change_for before.replies) (before.content ok)
          others in
          record {
            replies = before.replies ++ reply ∷ [];
            rest = [];
            asked = filter_map-append (conflict_at same ours) front (c ∷ [])
                ∙ (λ i. front_asked i ++ cons_option (cond (is i) (Some three) None) [])
                ∙ sym (map-append (λ r. r.0) before.replies (reply ∷ []))
                ∙ sym (append-nil (map (λ r. r.0) (before.replies ++ reply ∷ [])));
            calls = replies-push before.replies reply first f f' before.calls
                (f', settles, refl);
            all = λ _. refl;
            content = λ made.
                let set = sets made in
                set.content
                ∙ ap (λ m. with_value m c.0 answer) (before.content ok)
                ∙ sym (with_value-again
                (patched (patched ours front) (map change_for before.replies)) c.0 c.2 answer)
                ∙ ap (λ m. with_value m c.0 answer)
                (sym (patched-with_value (map change_for before.replies) (patched ours front) c.0
                c.2 others))
                ∙ sym (patched-append (with_value (patched ours front) c.0 c.2)
                (map change_for before.replies) (change_for reply ∷ []))
                ∙ (λ i. patched (sym (patched-append ours front (c ∷ [])) i)
                (sym (map-append change_for before.replies (reply ∷ [])) i));
            number = λ made. number-next now after answer (sets made) kept (before.number ok);
          }
      settled-by false is made made' now after f f' ok before answer settles sets =
          let front_asked = before.asked
          ∙ ap (λ rest. map (λ reply. reply.0) before.replies ++ rest) (before.all ok) in
          let others = apart-replies before.replies before.rest before.asked in
          let kept = kept-there now.content (map change_for before.replies) (before.content ok)
          others in
          record {
            replies = before.replies;
            rest = [];
            asked = filter_map-append (conflict_at same ours) front (c ∷ [])
                ∙ (λ i. front_asked i ++ cons_option
                (cond (is i) (Some (three_at same ours c)) None) [])
                ∙ append-nil (map (λ r. r.0) before.replies ++ []);
            calls = subst (Replies g Shows first before.replies) (sym settles.1) before.calls;
            all = λ _. refl;
            content = λ made.
                let set = sets made in
                set.content
                ∙ (λ i. with_value (before.content ok i) c.0 (settles.0 i))
                ∙ sym (patched-with_value (map change_for before.replies) (patched ours front) c.0
                c.2 others)
                ∙ ap (λ m. patched m (map change_for before.replies))
                (sym (patched-append ours front (c ∷ [])));
            number = λ made. number-next now after answer (sets made) kept (before.number ok);
          }

      err-not-ok : (made : Result (Unit {0}) AllocError) → IsErr made → IsOk made → ⊥
      err-not-ok (Ok done) err ok = false≢true err
      err-not-ok (Err refused) err ok = false≢true ok

      pub settled-next : (made made' : Result (Unit {0}) AllocError) (now after : Version V)
          (f f' : F) → IsSettled front made now f
          → SettlesIn g Shows same made now f (three_at same ours c) made' after f'
          → IsSettled (front ++ c ∷ []) made' after f'
      settled-next (Ok done) made' now after f f' before settles =
          settled-by (at_conflict same ours c) refl (Ok done) made' now after f f' refl before
          settles.0 settles.1 settles.2
      settled-next (Err refused) made' now after f f' before settles =
          record {
            replies = before.replies;
            rest = before.rest ++ conflicts_in same ours (c ∷ []);
            asked = filter_map-append (conflict_at same ours) front (c ∷ [])
                ∙ ap (λ ks. ks ++ conflicts_in same ours (c ∷ [])) before.asked
                ∙ append_assoc (map (λ r. r.0) before.replies) before.rest
                (conflicts_in same ours (c ∷ []));
            calls = subst (Replies g Shows first before.replies) (sym settles.1) before.calls;
            all = λ ok. absurd (err-not-ok made' settles.0 ok);
            content = λ ok. absurd (err-not-ok made' settles.0 ok);
            number = λ ok. absurd (err-not-ok made' settles.0 ok);
          }

    -- The closure may be called where the next change is at a conflict.
    pub askable-next : (base theirs : Map V)
        → Answerable g Shows first (conflicts same base ours theirs)
        → (front : List (Change V)) (c : Change V) (rest : List (Change V))
        → changes same base theirs ≡ front ++ c ∷ rest
        → (made : Result (Unit {0}) AllocError) (now : Version V) (f : F)
        → IsSettled front made now f → IsOk made
        → (t : Bool) → at_conflict same ours c ≡ t
        → Askable g Shows t f (three_at same ours c)
    askable-next base theirs answerable front c rest parts made now f settled ok true is =
        answerable.at settled.replies (three_at same ours c) (conflicts_in same ours rest) f
        (record {
          asked = conflicts-of_theirs same ours base theirs
              ∙ ap (conflicts_in same ours) parts
              ∙ filter_map-append (conflict_at same ours) front (c ∷ rest)
              ∙ (λ i. (settled.asked
              ∙ ap (λ rest. map (λ reply. reply.0) settled.replies ++ rest) (settled.all ok)
              ∙ append-nil (map (λ reply. reply.0) settled.replies)) i
              ++ cons_option (cond (is i) (Some (three_at same ours c)) None)
              (conflicts_in same ours rest));
          calls = settled.calls;
        })
    askable-next base theirs answerable front c rest parts made now f settled ok false is = tt

    pub few-settled : (front : List (Change V)) (made : Result (Unit {0}) AllocError)
        (now : Version V) (f : F) → IsSettled front made now f → IsOk made
        → now.number ≤ start.number + length front
    few-settled front made now f settled ok =
        let most = count_by-le-length (λ c. finite.contains_key now.content c.0
        || finite.contains_key ours c.0) front in
        let number = settled.number ok in
        omega (arith, most, number)

    -- Once all changes were gone over, it is the merge,
    pub settled-merges : (base theirs : Map V) (made : Result (Unit {0}) AllocError)
        (now : Version V) (f : F) → IsSettled (changes same base theirs) made now f → IsOk made
        → MergesTo g Shows same first base ours theirs f now.content
    settled-merges base theirs made now f settled ok =
        record {
          replies = settled.replies;
          asked = sym (conflicts-of_theirs same ours base theirs ∙ settled.asked
              ∙ ap (λ rest. map (λ reply. reply.0) settled.replies ++ rest) (settled.all ok)
              ∙ append-nil (map (λ reply. reply.0) settled.replies));
          calls = settled.calls;
          content = settled.content ok;
        }

    -- and refused on the way, the closure was asked at a prefix of the conflicts.
    pub settled-asks : (base theirs : Map V) (front rest : List (Change V))
        → changes same base theirs ≡ front ++ rest → (made : Result (Unit {0}) AllocError)
        → (now : Version V) (f : F) → IsSettled front made now f
        → IsAskedUpTo g Shows first (conflicts same base ours theirs) f
    settled-asks base theirs front rest parts made now f settled = (
      settled.replies,
      settled.rest ++ conflicts_in same ours rest,
      record {
        asked = conflicts-of_theirs same ours base theirs
            ∙ ap (conflicts_in same ours) parts
            ∙ filter_map-append (conflict_at same ours) front rest
            ∙ ap (λ ks. ks ++ conflicts_in same ours rest) settled.asked
            ∙ append_assoc (map (λ reply. reply.0) settled.replies) settled.rest
            (conflicts_in same ours rest);
        calls = settled.calls;
      },
    )

-- What a closure makes of a draft that settles the key of each change of theirs that it is shown.
module _ {S K F A V : Type 0}
    (closure : Mut S (K × (Option (Bor V) × (Option (Bor V) × Unit {0}))) (Unit {0}))
    (bytes : K → List ℕ) (g : Mut F A (Option V)) (Shows : A → Conflict V → Type 0)
    (same : V → V → Bool) (made : S → Result (Unit {0}) AllocError) (now : S → Version V)
    (state : S → F) (side : S → Map V)
    (settles : (s : S) (a : K × (Option (Bor V) × (Option (Bor V) × Unit {0}))) (s' : S)
    → Called closure s a tt s' → SettlesIn g Shows same (made s) (now s) (state s)
    (bytes a.0, option_copied a.1.0, finite.get (side s) (bytes a.0), option_copied a.1.1.0)
    (made s') (now s') (state s'))
    (keeps : (s : S) (a : K × (Option (Bor V) × (Option (Bor V) × Unit {0}))) (s' : S)
    → Called closure s a tt s' → side s' ≡ side s)
    (base theirs : Map V) (ours : Version V) where
  abbrev all : List (Change V)
  all = changes same base theirs

  module _ (first : S) where
    -- These changes were settled so far, of the side that it began with.
    pub record IsUnderWay (front : List (Change V)) (s : S) : Type 0 where
      pub settled : IsSettled g Shows same ours (state first) front (made s) (now s) (state s)
      pub kept : side s ≡ ours.content

    begun : now first ≡ ours → side first ≡ ours.content → IsUnderWay [] first
    begun begins sided =
        record {
          settled = settled-start g Shows same ours (state first) (made first) (now first) begins;
          kept = sided;
        }

    step : (front : List (Change V)) (c : Change V) (rest : List (Change V)) (s s' : S)
        → all ≡ front ++ c ∷ rest → IsUnderWay front s
        → CalledOn closure (ByKeyChange bytes) s c tt s' → IsUnderWay (front ++ c ∷ []) s'
    step front c rest s s' parts before called =
        let shown = called.2 in
        let ascends = changes-ascend same base theirs in
        record {
          settled = settled-next g Shows same ours (state first) front c
              (apart-before (λ d. d.0) front c rest (subst (KeysAscend (λ d. d.0)) parts ascends))
              (made s) (made s') (now s) (now s') (state s) (state s') before.settled
              (subst (λ three. SettlesIn g Shows same (made s) (now s) (state s) three (made s')
              (now s') (state s'))
              (λ i. (shown.0 i, shown.1.0 i, finite.get (before.kept i) (shown.0 i), shown.1.1 i))
              (settles s called.0 s' called.1));
          kept = keeps s called.0 s' called.1 ∙ before.kept;
        }

    up_to : (rest : List (Change V)) (s : S)
        → (calls : AnswersUpTo closure (ByKeyChange bytes) tt first all rest s)
        → now first ≡ ours → side first ≡ ours.content → IsUnderWay calls.0 s
    up_to rest s calls begins sided =
        holds-up_to closure (ByKeyChange bytes) tt all IsUnderWay step rest first s
        (begun begins sided) calls

    of_all : (s : S) → Visit closure (ByKeyChange bytes) first all s
        → now first ≡ ours → side first ≡ ours.content → IsUnderWay all s
    of_all s visit begins sided =
        holds-of_all closure (ByKeyChange bytes) tt all IsUnderWay step first s
        (begun begins sided) visit

  -- What the closure asks of a call,
  pub merge-room : (first : S) (c : Change V) (rest : List (Change V)) (s : S)
      → AnswersUpTo closure (ByKeyChange bytes) tt first all (c ∷ rest) s
      → now first ≡ ours → side first ≡ ours.content
      → HasRoom ours (length all) → IsOk (made s) → HasRoom (now s) 1
  merge-room first c rest s calls begins sided room ok =
      room-next ours all calls.0 c rest (now s) calls.1 room
      (few-settled g Shows same ours (state first) calls.0 (made s) (now s) (state s)
      (up_to first (c ∷ rest) s calls begins sided).settled ok)

  pub merge-askable : (first : S) (c : Change V) (rest : List (Change V)) (s : S)
      → AnswersUpTo closure (ByKeyChange bytes) tt first all (c ∷ rest) s
      → now first ≡ ours → side first ≡ ours.content
      → Answerable g Shows (state first) (conflicts same base ours.content theirs)
      → (a : K × (Option (Bor V) × (Option (Bor V) × Unit {0}))) → ByKeyChange bytes a c
      → AskableIn g Shows same (made s) (state s)
      (bytes a.0, option_copied a.1.0, finite.get (side s) (bytes a.0), option_copied a.1.1.0)
  merge-askable first c rest s calls begins sided answerable a shown ok =
      let way = up_to first (c ∷ rest) s calls begins sided in
      subst (λ (three : Conflict V). Askable g Shows (in_conflict same three.1 three.2 three.3)
      (state s) three)
      (sym (λ i. (shown.0 i, shown.1.0 i, finite.get (way.kept i) (shown.0 i), shown.1.1 i)))
      (askable-next g Shows same ours (state first) base theirs answerable calls.0 c rest calls.1
      (made s) (now s) (state s) way.settled ok (at_conflict same ours.content c) refl)

  -- and what it leaves: a merge, or what was asked of a prefix.
  pub merge-visit : (first : S) (s : S) → Visit closure (ByKeyChange bytes) first all s
      → now first ≡ ours → side first ≡ ours.content → IsOk (made s)
      → MergesTo g Shows same (state first) base ours.content theirs (state s) (now s).content
      × ((now s).number ≡ ours.number + held_in_either ours.content (now s).content all)
  merge-visit first s visit begins sided ok =
      let settled = (of_all first s visit begins sided).settled in (
        settled-merges g Shows same ours (state first) base theirs (made s) (now s) (state s)
            settled ok,
        settled.number ok,
      )

  pub merge-front : (first : S) (rest : List (Change V)) (s : S)
      → AnswersUpTo closure (ByKeyChange bytes) tt first all rest s
      → now first ≡ ours → side first ≡ ours.content
      → IsAskedUpTo g Shows (state first) (conflicts same base ours.content theirs) (state s)
  merge-front first rest s calls begins sided =
      settled-asks g Shows same ours (state first) base theirs calls.0 rest calls.1 (made s)
      (now s) (state s) (up_to first rest s calls begins sided).settled

  pub merge-asked : (first : S) (s : S) → Visit closure (ByKeyChange bytes) first all s
      → now first ≡ ours → side first ≡ ours.content
      → IsAskedUpTo g Shows (state first) (conflicts same base ours.content theirs) (state s)
  merge-asked first s visit begins sided =
      settled-asks g Shows same ours (state first) base theirs all [] (sym (append-nil all))
      (made s) (now s) (state s) (of_all first s visit begins sided).settled
