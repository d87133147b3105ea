-- No words are two commands, and each are one or none.
use Rattle.std.proofs.Common.{inl, inr, ◌≡◌, ℕ, zero, suc, List, [], ◌∷◌, refl, sym, ◌∙◌, ap, Bool, true, false, eqb}
use Rattle.std.proofs.lemmas.Bool.{eqb-true, eq-eqb}
use Rattle.std.proofs.lemmas.Slice.Eq.{bytes_eq-Decides}
use Rattle.std.specs.Prelude.{◌⊎◌, ◌&&◌, codes, Option, Some, None, if◌then◌else◌, map}
use Rattle.std.specs.Str.{bytes_eq}
use Rattle.std.specs.declared.ops.Bound.{Bound}
use Rattle.std.specs.declared.ops.Bound.TheVariants as bound
use Rattle.rart_versioned.specs.SlotUpdate.{SlotUpdate}
use Rattle.rart_versioned.specs.SlotUpdate.TheVariants as slot
use Rattle.rart_family.specs.declared.family.command.Command.TheVariants.{New, NewAt, Snapshot, Duplicate, Discard, Version, IsEmpty, Get, GetMut, Insert, Replace, Remove, Delete, Update, TryUpdate, Iter, Values, Range, Prefix, Matches, MatchesEach, Views, PrefixViews, RangeViews, PrefixValues, Until, Intersect, IntersectViews, IntersectValues, IntersectCount, Flatten, Longest}
use Rattle.vtree_lines.specs.Lines.{words}
use Rattle.vtree_lines.specs.Grammar.{Said, Word, Number, Key, Included, Excluded, Text, Bytes, bound_form, write_form, word_of, form_of, IsLineOf, IsBad}

pub and_left : (a b : Bool) → (a && b) ≡ true → a ≡ true
and_left true b e = refl
and_left false b e = absurd (cc)

pub and_right : (a b : Bool) → (a && b) ≡ true → b ≡ true
and_right true b e = e
and_right false b e = absurd (cc)

-- ---- the command of words

abbrev text : Word → List ℕ
text (Text t) = t
text word = []

abbrev number : Word → ℕ
number (Number n) = n
number word = 0

abbrev key : Word → List ℕ
key (Key k) = k
key word = []

abbrev limit : Word → Bound (List ℕ)
limit (Included k) = bound.Included k
limit (Excluded k) = bound.Excluded k
limit word = bound.Unbounded

abbrev write : Word → Option ℕ
write (Number n) = Some n
write word = None

abbrev answer : Word → Word → Option (SlotUpdate ℕ)
answer word behind =
    if bytes_eq (text word) (codes "keep") then Some slot.Keep
    else if bytes_eq (text word) (codes "remove") then Some slot.Remove
    else if bytes_eq (text word) (codes "insert") then Some (slot.Insert (number behind)) else None

abbrev given : Option (SlotUpdate ℕ) → SlotUpdate ℕ
given None = slot.Keep
given (Some answer) = answer

abbrev word_at : List Word → ℕ → Word
word_at [] n = Bytes
word_at (word ∷ words) zero = word
word_at (word ∷ words) (suc n) = word_at words n

-- the command that a name and the words behind it can be, one row a name
abbrev rows : Word → Word → Word → Word → Word → List (List ℕ × Said)
rows a b c d e =
    (codes "new", New)
    ∷ (codes "new-at", NewAt (number a))
    ∷ (codes "snapshot", Snapshot (number a))
    ∷ (codes "clone", Duplicate (number a))
    ∷ (codes "discard", Discard (number a))
    ∷ (codes "version", Version (number a))
    ∷ (codes "empty", IsEmpty (number a))
    ∷ (codes "get", Get (number a) (key b))
    ∷ (codes "get-mut", GetMut (number a) (key b) (number c))
    ∷ (codes "insert", Insert (number a) (key b) (number c))
    ∷ (codes "replace", Replace (number a) (key b) (number c))
    ∷ (codes "remove", Remove (number a) (key b))
    ∷ (codes "delete", Delete (number a) (key b))
    ∷ (codes "update", Update (number a) (key b) (write c) (given (answer d e)))
    ∷ (codes "try-update", TryUpdate (number a) (key b) (write c) (answer d e))
    ∷ (codes "iter", Iter (number a))
    ∷ (codes "values", Values (number a))
    ∷ (codes "views", Views (number a))
    ∷ (codes "range", Range (number a) (limit b) (limit c))
    ∷ (codes "range-views", RangeViews (number a) (limit b) (limit c))
    ∷ (codes "prefix", Prefix (number a) (key b))
    ∷ (codes "prefix-views", PrefixViews (number a) (key b))
    ∷ (codes "prefix-values", PrefixValues (number a) (key b))
    ∷ (codes "matches", Matches (number a) (key b))
    ∷ (codes "matches-each", MatchesEach (number a) (key b))
    ∷ (codes "until", Until (number a) (key b) (number c) (bytes_eq (text d) (codes "fail")))
    ∷ (codes "intersect", Intersect (number a) (number b))
    ∷ (codes "intersect-views", IntersectViews (number a) (number b))
    ∷ (codes "intersect-values", IntersectValues (number a) (number b))
    ∷ (codes "intersect-count", IntersectCount (number a) (number b))
    ∷ (codes "flatten", Flatten (number a))
    ∷ (codes "longest", Longest (number a) (key b))
    ∷ []

abbrev named : List ℕ → List (List ℕ × Said) → Option Said
named name [] = None
named name (row ∷ more) = if bytes_eq name row.0 then Some row.1 else named name more

abbrev pub command_of : List Word → Option Said
command_of form =
    named (text (word_at form 0))
    (rows (word_at form 1) (word_at form 2) (word_at form 3) (word_at form 4) (word_at form 5))

limit_is : (limits : Bound (List ℕ)) → limit (bound_form limits) ≡ limits
limit_is (bound.Included k) = refl
limit_is (bound.Excluded k) = refl
limit_is bound.Unbounded = refl

write_is : (w : Option ℕ) → write (write_form w) ≡ w
write_is None = refl
write_is (Some n) = refl

-- A command's own words are it.
pub own_command : (c : Said) → command_of (form_of c) ≡ Some c
own_command New = refl
own_command (Range place lo hi) = rw (limit_is lo, limit_is hi) refl
own_command (RangeViews place lo hi) = rw (limit_is lo, limit_is hi) refl
own_command (Update place k w slot.Keep) = rw (write_is w) refl
own_command (Update place k w slot.Remove) = rw (write_is w) refl
own_command (Update place k w (slot.Insert n)) = rw (write_is w) refl
own_command (TryUpdate place k w None) = rw (write_is w) refl
own_command (TryUpdate place k w (Some slot.Keep)) = rw (write_is w) refl
own_command (TryUpdate place k w (Some slot.Remove)) = rw (write_is w) refl
own_command (TryUpdate place k w (Some (slot.Insert n))) = rw (write_is w) refl
own_command (Until place k visits true) = refl
own_command (Until place k visits false) = refl
own_command c = refl

some_same : {X : Type 0} (x y : X) → Some x ≡ Some y → x ≡ y
some_same x y e = cc

-- Words are one command.
pub same_command : (one other : Said) → form_of one ≡ form_of other → one ≡ other
same_command one other e =
    some_same one other (sym (own_command one) ∙ ap command_of e ∙ own_command other)

-- ---- whether words are a command, by computation

abbrev same_word : Word → Word → Bool
same_word (Number a) (Number b) = eqb a b
same_word (Key a) (Key b) = bytes_eq a b
same_word (Included a) (Included b) = bytes_eq a b
same_word (Excluded a) (Excluded b) = bytes_eq a b
same_word (Text a) (Text b) = bytes_eq a b
same_word Bytes Bytes = true
same_word a b = false

abbrev same_form : List Word → List Word → Bool
same_form [] [] = true
same_form (a ∷ one) (b ∷ other) = same_word a b && same_form one other
same_form one other = false

same_text : (a b : List ℕ) → bytes_eq a b ≡ true → a ≡ b
same_text a b e = (bytes_eq-Decides a b).0 e

text_same : (a : List ℕ) → bytes_eq a a ≡ true
text_same a = (bytes_eq-Decides a a).1 refl

word_same : (a : Word) → same_word a a ≡ true
word_same (Number n) = eq-eqb n n refl
word_same (Key k) = text_same k
word_same (Included k) = text_same k
word_same (Excluded k) = text_same k
word_same (Text t) = text_same t
word_same Bytes = refl

is_same_word : (a b : Word) → same_word a b ≡ true → a ≡ b
is_same_word (Number a) (Number b) e = ap Number (eqb-true a b e)
is_same_word (Key a) (Key b) e = ap Key (same_text a b e)
is_same_word (Included a) (Included b) e = ap Included (same_text a b e)
is_same_word (Excluded a) (Excluded b) e = ap Excluded (same_text a b e)
is_same_word (Text a) (Text b) e = ap Text (same_text a b e)
is_same_word Bytes Bytes e = refl
is_same_word a b e = absurd (cc)

form_same : (form : List Word) → same_form form form ≡ true
form_same [] = refl
form_same (word ∷ form) = rw (word_same word, form_same form) refl

is_same_form : (one other : List Word) → same_form one other ≡ true → one ≡ other
is_same_form [] [] e = refl
is_same_form (a ∷ one) (b ∷ other) e =
    let first : a ≡ b = is_same_word a b (and_left _ _ e) in
    let rest : one ≡ other = is_same_form one other (and_right (same_word a b) _ e) in cc
is_same_form one other e = absurd (cc)

abbrev is_form_of : List Word → Option Said → Bool
is_form_of form None = false
is_form_of form (Some c) = same_form form (form_of c)

-- whether they are
abbrev pub is_command : List Word → Bool
is_command form = is_form_of form (command_of form)

form_is_command : (form : List Word) (c : Said) → form ≡ form_of c → is_command form ≡ true
form_is_command form c e =
    rw (e, own_command c) (form_same (form_of c))

found_at : (form : List Word) (answer : Option Said) → is_form_of form answer ≡ true →
    (c : Said) × (form ≡ form_of c)
found_at form None e = absurd (cc)
found_at form (Some c) e = (c, is_same_form form (form_of c) e)

-- one is found, or none is so
abbrev pub Finds : (X : Type 0) → (X → Type 0) → Type 0
Finds X Is = ((x : X) × Is x) ⊎ ((x : X) → Is x → ⊥)

-- Words are a command, or no command.
pub form_found : (form : List Word) → Finds Said (λ c. form ≡ form_of c)
form_found form = elim (is_command form) as (λ t. is_command form ≡ t →
    Finds Said (λ c. form ≡ form_of c)) [
      | true ↦ λ is. inl (found_at form (command_of form) is)
      | false ↦ λ none. inr (λ c e.
          let clash : false ≡ true = sym none ∙ form_is_command form c e in absurd (cc))
    ] refl

-- A line whose words are no command is a bad one.
pub bad_by : (line : List ℕ) → is_command (map word_of (words line)) ≡ false → IsBad line
bad_by line none command is =
    let clash : false ≡ true = sym none ∙ form_is_command _ command is.1 in absurd (cc)

pub line_is_one_command : (line : List ℕ) (one other : Said) → IsLineOf line one →
    IsLineOf line other → one ≡ other
line_is_one_command line one other h k = same_command one other (sym h.1 ∙ k.1)
