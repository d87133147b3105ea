-- Pairs that are written one by one into a sink.
use Rattle.std.proofs.Common.{◌≡◌, ℕ, List, [], ◌∷◌, ◌++◌, sym, ap, subst, ◌∙◌, append_assoc, append-nil}
use Rattle.rart_saved.specs.Forms.{entries, entry}
use Rattle.rart_saved.proofs.EntryLemmas.{last_key, entries-next}

module _ {V S : Type 0} (written : V → List ℕ) (holds : S → List ℕ → S → Type 0) where
  -- These pairs were written behind what a sink had.
  abbrev pub ArePut : S → List (List ℕ × V) → S → Type 0
  ArePut was taken sink = (start : S) (done : List ℕ) → holds start done was
      → holds start (done ++ entries written [] taken) sink

  pub put-none : (sink : S) → ArePut sink [] sink
  unfolding entries
  put-none sink start done is = subst (λ d. holds start d sink) (sym (append-nil done)) is

  pub put-next : (was sink after : S) (form key : List ℕ) (taken : List (List ℕ × V))
      (pair : List ℕ × V) → ArePut was taken sink → key ≡ last_key [] taken
      → form ≡ entry written key pair
      → ((start : S) (done : List ℕ) → holds start done sink → holds start (done ++ form) after)
      → ArePut was (taken ++ pair ∷ []) after
  put-next was sink after form key taken pair are last form_is more start done is =
      subst (λ d. holds start d after)
      (append_assoc done (entries written [] taken) form
      ∙ ap (λ e. done ++ e) (ap (λ f. entries written [] taken ++ f)
      (form_is ∙ ap (λ k. entry written k pair) last)
      ∙ sym (entries-next written [] taken pair)))
      (more start (done ++ entries written [] taken) (are start done is))
