-- The laws of iterations.
use Rattle.std.proofs.Common.{◌≡◌, ◌⊎◌, ℕ, zero, suc, List, [], ◌∷◌, ◌++◌, drop, length, take, Option, Some, None, Result, Ok, Err, refl, sym, ap, subst, ◌∙◌, inl, inr, ⊎_elim, append-nil}
use Rattle.std.specs.List.{AllZip}
use Rattle.std.proofs.Math.Seq.{take-append_seam, drop-append_seam}
use Rattle.std.proofs.lemmas.Bool.{false≢true}
use Rattle.std.proofs.lemmas.List.{take-append-drop}
use Rattle.std.proofs.lemmas.Option.{same_Some, none-some}
use Rattle.std.specs.declared.alloc.AllocError.{AllocError}
use Rattle.rart_maps.specs.Iterations.{IsOver}
use Rattle.rart_maps.specs.IterationLaws.{Gives, TakenAreFirst, items_given, nothing_given, GivesFirst, GivesAll, GivesUntilRefused, MembersAreGiven, NothingIsGivenBehind}

module _ {A X : Type 0} (Shows : A → X → Type 0) where
  abbrev Answer : Type 0
  Answer = Option (Result A AllocError)

  abbrev Left : Type 0
  Left = Option (List X)

  gives-then : (before between after : Left) (front back : List Answer)
      → Gives Shows before front between → Gives Shows between back after
      → Gives Shows before (front ++ back) after
  gives-then before between after [] back first later =
      subst (λ left. Gives Shows left back after) (sym first) later
  gives-then before between after (answer ∷ front) back first later =
      (first.0, first.1, gives-then first.0 between after front back first.2 later)

  -- ---- behind the end
  behind-nothing : (answers : List Answer) (after : Left) → Gives Shows None answers after
      → (times : ℕ) × (answers ≡ nothing_given Shows times) × (after ≡ None)
  behind-nothing [] after given = (0, refl, sym given)
  behind-nothing (None ∷ answers) after given =
      let later = subst (λ left. Gives Shows left answers after) given.1.1 given.2 in
      let more = behind-nothing answers after later in
      (suc more.0, ap (λ rest. None ∷ rest) more.1, more.2)
  behind-nothing (Some (Ok item) ∷ answers) after given =
      absurd (none-some (given.1.0 ∷ given.1.1) given.1.2)
  behind-nothing (Some (Err refused) ∷ answers) after given = absurd (false≢true given.1.0)

  nothing-behind : (times : ℕ) → Gives Shows None (nothing_given Shows times) None
  nothing-behind zero = refl
  nothing-behind (suc times) = (None, (inl refl, refl), nothing-behind times)

  pub nothing_is_given_behind : NothingIsGivenBehind Shows
  nothing_is_given_behind answers after = (
    behind-nothing answers after,
    λ found. subst (λ left. Gives Shows None answers left) (sym found.2)
        (subst (λ list. Gives Shows None list None) (sym found.1) (nothing-behind found.0)),
  )

  -- ---- members
  abbrev OneOf : List X → List Answer → Left → Type 0
  OneOf members answers after = GivesFirst Shows members answers after
      ⊎ GivesAll Shows members answers after ⊎ GivesUntilRefused Shows members answers after

  over-none : (members : List X) → IsOver (Some members) → members ≡ []
  over-none members over =
      ⊎_elim (λ none. absurd (none-some members (sym none))) (λ is. same_Some members [] is) over

  -- one item more, at the front
  one-more : (item : A) (x : X) (members others : List X) (answers : List Answer) (after : Left)
      → members ≡ x ∷ others → Shows item x → OneOf others answers after
      → OneOf members (Some (Ok item) ∷ answers) after
  one-more item x members others answers after is shows (inl found) = inl (
    item ∷ found.0,
    x ∷ found.1,
    found.2,
    is ∙ ap (λ rest. x ∷ rest) found.3,
    (shows, found.4),
    ap (λ rest. Some (Ok item) ∷ rest) found.5,
    found.6,
  )
  one-more item x members others answers after is shows (inr (inl found)) = inr (inl (
    item ∷ found.0,
    found.1,
    subst (λ list. AllZip Shows (item ∷ found.0) list) (sym is) (shows, found.2),
    ap (λ rest. Some (Ok item) ∷ rest) found.3,
    found.4,
  ))
  one-more item x members others answers after is shows (inr (inr found)) = inr (inr (
    item ∷ found.0,
    x ∷ found.1,
    found.2,
    found.3,
    found.4,
    is ∙ ap (λ rest. x ∷ rest) found.5,
    (shows, found.6),
    ap (λ rest. Some (Ok item) ∷ rest) found.7,
    found.8,
  ))

  given-one_of : (answers : List Answer) (members : List X) (after : Left)
      → Gives Shows (Some members) answers after → OneOf members answers after
  given-one_of [] members after given =
      inl ([], [], members, refl, tt, refl, sym given)
  given-one_of (None ∷ answers) members after given =
      let later = subst (λ left. Gives Shows left answers after) given.1.1 given.2 in
      let more = behind-nothing answers after later in
      let none = over-none members given.1.0 in
      inr (inl (
        [],
        more.0,
        subst (λ list. AllZip Shows [] list) (sym none) tt,
        ap (λ rest. None ∷ rest) more.1,
        more.2,
      ))
  given-one_of (Some (Ok item) ∷ answers) members after given =
      let gave = given.1 in
      let later = subst (λ left. Gives Shows left answers after) gave.4 given.2 in
      one-more item gave.0 members gave.1 answers after
      (same_Some members (gave.0 ∷ gave.1) gave.2) gave.3
      (given-one_of answers gave.1 after later)
  given-one_of (Some (Err refused) ∷ answers) members after given =
      let later = subst (λ left. Gives Shows left answers after) given.1.1 given.2 in
      let more = behind-nothing answers after later in
      inr (inr (
        [],
        [],
        members,
        refused,
        more.0,
        refl,
        tt,
        ap (λ rest. Some (Err refused) ∷ rest) more.1,
        more.2,
      ))

  gives-items : (items : List A) (front rest : List X) → AllZip Shows items front
      → Gives Shows (Some (front ++ rest)) (items_given Shows items) (Some rest)
  gives-items [] [] rest zip = refl
  gives-items [] (x ∷ front) rest zip = absurd zip
  gives-items (item ∷ items) [] rest zip = absurd zip
  gives-items (item ∷ items) (x ∷ front) rest zip = (
    Some (front ++ rest),
    (x, front ++ rest, refl, zip.0, refl),
    gives-items items front rest zip.1,
  )

  gives-as : (members members' : List X) (answers answers' : List Answer) (after after' : Left)
      → members ≡ members' → answers ≡ answers' → after ≡ after'
      → Gives Shows (Some members') answers' after' → Gives Shows (Some members) answers after
  gives-as members members' answers answers' after after' same_members same_answers same_after
      given =
      subst (λ list. Gives Shows (Some list) answers after) (sym same_members)
      (subst (λ list. Gives Shows (Some members') list after) (sym same_answers)
      (subst (λ left. Gives Shows (Some members') answers' left) (sym same_after) given))

  one_of-given : (members : List X) (answers : List Answer) (after : Left)
      → OneOf members answers after → Gives Shows (Some members) answers after
  one_of-given members answers after (inl found) =
      gives-as members (found.1 ++ found.2) answers (items_given Shows found.0) after
      (Some found.2) found.3 found.5 found.6 (gives-items found.0 found.1 found.2 found.4)
  one_of-given members answers after (inr (inl found)) =
      let first = gives-items found.0 members [] found.2 in
      let end : Gives Shows (Some []) (None ∷ nothing_given Shows found.1) None =
      (None, (inr refl, refl), nothing-behind found.1) in
      gives-as members (members ++ []) answers
      (items_given Shows found.0 ++ None ∷ nothing_given Shows found.1) after None
      (sym (append-nil members)) found.3 found.4
      (gives-then (Some (members ++ [])) (Some []) None (items_given Shows found.0)
      (None ∷ nothing_given Shows found.1) first end)
  one_of-given members answers after (inr (inr found)) =
      let refused = found.3 in
      let first = gives-items found.0 found.1 found.2 found.6 in
      let end : Gives Shows (Some found.2)
      (Some (Err refused) ∷ nothing_given Shows found.4) None =
      (None, (refl, refl), nothing-behind found.4) in
      gives-as members (found.1 ++ found.2) answers
      (items_given Shows found.0 ++ Some (Err refused) ∷ nothing_given Shows found.4) after None
      found.5 found.7 found.8
      (gives-then (Some (found.1 ++ found.2)) (Some found.2) None (items_given Shows found.0)
      (Some (Err refused) ∷ nothing_given Shows found.4) first end)

  pub members_are_given : MembersAreGiven Shows
  members_are_given members answers after =
      (given-one_of answers members after, one_of-given members answers after)

pub taken_are_first : (X : Type 0) → TakenAreFirst X
taken_are_first X members taken left = (
  λ from. (
    ap (take (length taken)) (sym from.2) ∙ take-append_seam taken from.0,
    from.1 ∙ ap (λ rest. Some rest) (sym (drop-append_seam taken from.0)
        ∙ ap (drop (length taken)) from.2),
  ),
  λ parts. (
    drop (length taken) members,
    parts.1,
    ap (λ front. front ++ drop (length taken) members) (sym parts.0)
        ∙ take-append-drop (length taken) members,
  ),
)
