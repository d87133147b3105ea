-- What a closure was asked by its replies, and when it may be asked.
use Rattle.std.proofs.Common.{◌≡◌, List, [], ◌∷◌, ◌++◌, map, append_assoc, append-nil, refl, sym, ap, subst, ◌∙◌}
use Rattle.std.specs.Fn.{Mut}
use Rattle.rart_maps.specs.Visits.{CallableOn, CalledOn}
use Rattle.rart_versioned.specs.Replies.{Answerable, AnswerableStepByStep, AsksFirstMembers, KeepsAsked, Replies, RepliesUpTo}

abbrev head-or : {A : Type 0} → A → List A → A
head-or x [] = x
head-or x (y ∷ ys) = y

abbrev tail-of : {A : Type 0} → List A → List A
tail-of [] = []
tail-of (x ∷ xs) = xs

module _ {F A R X : Type 0} (g : Mut F A R) (Shows : A → X → Type 0) where
  pub replies-asked : (asked : F → List X) → KeepsAsked g Shows asked
      → (replies : List (X × R)) (f f' : F) → Replies g Shows f replies f'
      → asked f' ≡ asked f ++ map (λ reply. reply.0) replies
  replies-asked asked keeps [] f f' calls = ap asked (sym calls) ∙ sym (append-nil (asked f))
  replies-asked asked keeps (reply ∷ replies) f f' calls =
      replies-asked asked keeps replies calls.0 f' calls.2
      ∙ ap (λ list. list ++ map (λ r. r.0) replies) (keeps f reply.0 reply.1 calls.0 calls.1)
      ∙ append_assoc (asked f) (reply.0 ∷ []) (map (λ r. r.0) replies)

  -- Refused, it was asked about a prefix.
  pub asks_first_members : AsksFirstMembers g Shows
  asks_first_members asked keeps f f' all up_to = (
    up_to.1,
    ap (λ list. asked f ++ list) up_to.2.asked
        ∙ sym (append_assoc (asked f) (map (λ reply. reply.0) up_to.0) up_to.1)
        ∙ ap (λ list. list ++ up_to.1)
        (sym (replies-asked asked keeps up_to.0 f f' up_to.2.calls)),
  )

  callable-first : (f : F) (x y : X) (rest left : List X) (f' : F) → x ∷ rest ≡ y ∷ left
      → f ≡ f' → CallableOn g Shows f x → CallableOn g Shows f' y
  callable-first f x y rest left f' asked same callable =
      subst (λ state. CallableOn g Shows state y) same
      (subst (CallableOn g Shows f) (ap (head-or x) asked) callable)

  callable-at : (f : F) (x : X) (rest : List X) → CallableOn g Shows f x
      → ((reply : R) (j : F) → CalledOn g Shows f x reply j → Answerable g Shows j rest)
      → (replies : List (X × R)) (y : X) (left : List X) (f' : F)
      → RepliesUpTo g Shows f (x ∷ rest) replies (y ∷ left) f' → CallableOn g Shows f' y
  callable-at f x rest callable later [] y left f' up_to =
      callable-first f x y rest left f' up_to.asked up_to.calls callable
  callable-at f x rest callable later (reply ∷ replies) y left f' up_to =
      let calls = up_to.calls in
      (later reply.1 calls.0
      (subst (λ k. CalledOn g Shows f k reply.1 calls.0)
      (sym (ap (head-or x) up_to.asked)) calls.1)).at
      replies y left f' (record { asked = ap tail-of up_to.asked; calls = calls.2 })

  pub answerable_step_by_step : AnswerableStepByStep g Shows
  answerable_step_by_step f x rest = (
    λ answerable. (
      answerable.at [] x rest f (record { asked = refl; calls = refl }),
      λ reply f' called. record {
        at = λ replies y left last up_to.
            answerable.at ((x, reply) ∷ replies) y left last (record {
              asked = ap (λ list. x ∷ list) up_to.asked;
              calls = (f', called, up_to.calls);
            });
      },
    ),
    λ both. record { at = callable-at f x rest both.0 both.1 },
  )
