-- A limit on the length of keys that was given, and what an error then tells.
use Rattle.std.proofs.Common.{◌≡◌, ◌≢◌, ◌⊎◌, ℕ, List, ◌++◌, length, Option, None, Result, Ok, Err, inl, inr, refl, sym, subst, ◌∙◌, ⊎_elim}
use Rattle.std.specs.Prelude.{IfSome}
use Rattle.std.specs.Result.{IfOk, IsErrAnd}
use Rattle.rart_below.specs.Bytes.{IsAdmitted}
use Rattle.rart_maps.proofs.ElementLemmas.{Contains-cases, Contains-here, Contains-later, Contains-nil}
use Rattle.rart_maps.specs.Versions.{Version}
use Rattle.rart_versioned.specs.Keys.{IsKeyLength}
use Rattle.rart_saved.specs.declared.error.LoadError.{LoadError}
use Rattle.rart_saved.specs.declared.error.LoadError.TheVariants.{Io, Memory, Truncated, Malformed, TooLong, Checksum, Unsupported}
use Rattle.rart_saved.specs.FamilyFormLaws.{LimitsAreOfEachVersion}
use Rattle.rart_saved.specs.Forms.{IsVersionOf, saved}
use Rattle.rart_saved.specs.Keys.{narrowed}
use Rattle.rart_saved.specs.Loads.{GivesBackWithin, HasKeysWithin, LacksVersion}
use Rattle.rart_saved.specs.Refusals.{IsTooLong, OnErrWithin, limit_of}
use Rattle.rart_saved.proofs.SharedKeyLemmas.{both-narrowed}
use Rattle.rart_saved.proofs.SavedLemmas.{forms-of_one, memory_alone, too_long-other}

-- What is so of the one of the keys' type and of the lesser is so of it, whatever the error.
limit-each : (longest most : Option ℕ) (P : Option ℕ → Type 0) → P most
    → P (narrowed longest most) → (e : LoadError) → P (limit_of longest most e)
limit-each longest most P one other Io = one
limit-each longest most P one other Memory = one
limit-each longest most P one other Truncated = one
limit-each longest most P one other (Malformed at) = one
limit-each longest most P one other (TooLong at) = other
limit-each longest most P one other Checksum = one
limit-each longest most P one other (Unsupported format) = one

-- Where none was given, it is that of the keys' type.
pub limit-none : (most : Option ℕ) (e : LoadError) → limit_of None most e ≡ most
limit-none most = limit-each None most (λ m. m ≡ most) refl refl

-- What is within both is within it.
pub limit-least : (longest most : Option ℕ) (e : LoadError) (n : ℕ) → IsAdmitted longest n
    → IsKeyLength most n → IsKeyLength (limit_of longest most e) n
limit-least longest most e n short is =
    limit-each longest most (λ m. IsKeyLength m n) is
    (both-narrowed longest most n short is.0, is.1) e

-- An error is passed on.
pub within_passed : {T : Type 0} (longest most : Option ℕ) (r : Result T LoadError)
    (e : LoadError) (P : Option ℕ → Type 0) → IsErrAnd r (λ y. y ≡ e)
    → (e ≢ Memory → P (limit_of longest most e)) → OnErrWithin longest most r P
within_passed longest most (Ok x) e P is on = tt
within_passed longest most (Err y) e P is on = λ other.
    subst (λ f. P (limit_of longest most f)) (sym is) (on (λ memory. other (is ∙ memory)))

-- Nothing is told of want of memory.
pub within_memory : {T : Type 0} (longest most : Option ℕ) (r : Result T LoadError)
    (P : Option ℕ → Type 0) → IsErrAnd r (λ y. y ≡ Memory) → OnErrWithin longest most r P
within_memory longest most (Ok x) P is = tt
within_memory longest most (Err y) P is = λ other. absurd (other is)

-- What is so of any limit is so with each error.
pub within_each : {T : Type 0} (longest most : Option ℕ) (r : Result T LoadError)
    (P : Option ℕ → Type 0) → ((m : Option ℕ) → P m) → OnErrWithin longest most r P
within_each longest most (Ok x) P all = tt
within_each longest most (Err e) P all = λ _. all (limit_of longest most e)

-- A version whose keys are within the limit too.
pub version-narrowed : {V : Type 0} (longest most : Option ℕ) (v : Version V) → IsVersionOf most v
    → HasKeysWithin longest v → IsVersionOf (narrowed longest most) v
version-narrowed longest most v is within = record {
  few = is.few;
  fits = is.fits;
  lengths = λ key there.
      let long = is.lengths key there in
      (both-narrowed longest most (length key) (within key there) long.0, long.1);
}

-- What is of keys of a type, and of shorter ones where it is within the limit.
module _ (longest most : Option ℕ) (IsOf : Option ℕ → Type 0) (Within : Type 0) (is : IsOf most)
    (narrowed_is : Within → IsOf (narrowed longest most)) where
  -- Where it can't be refused otherwise, memory was, or a key is longer.
  pub refused-told : (e : LoadError) → (e ≢ Memory → IsOf (limit_of longest most e) → ⊥)
      → (e ≡ Memory) ⊎ (IsTooLong e × ¬ Within)
  refused-told Memory never = inl refl
  refused-told Io never = inl (memory_alone Io (λ other. never other is))
  refused-told Truncated never = inl (memory_alone Truncated (λ other. never other is))
  refused-told (Malformed at) never =
      inl (memory_alone (Malformed at) (λ other. never other is))
  refused-told (TooLong at) never =
      inr ((at, refl), λ within. never (too_long-other at) (narrowed_is within))
  refused-told Checksum never = inl (memory_alone Checksum (λ other. never other is))
  refused-told (Unsupported format) never =
      inl (memory_alone (Unsupported format) (λ other. never other is))

module _ {V : Type 0} (written : V → List ℕ)
    (apart : (x y : V) (r s : List ℕ) → written x ++ r ≡ written y ++ s → x ≡ y)
    (kind : ℕ) (longest most : Option ℕ) (bytes : List ℕ) where
  pub given-within : (r : Result (Version V × ℕ) LoadError)
      → IfOk r (λ found. bytes ≡ saved written kind found.0)
      → OnErrWithin longest most r (λ m. LacksVersion written kind m bytes)
      → GivesBackWithin written kind longest most r bytes
  given-within (Ok found) read refused v is stands =
      forms-of_one written apart kind found.0 v (sym read ∙ stands)
  given-within (Err e) read refused v is stands =
      refused-told longest most (λ m. IsVersionOf m v) (HasKeysWithin longest v) is
      (version-narrowed longest most v is) e (λ other narrow. refused other v narrow stands)

pub limits_are_of_each_version : {V : Type 0} → LimitsAreOfEachVersion V
limits_are_of_each_version longest = (
  λ one there. absurd (Contains-nil one there),
  λ one rest. (
    λ within. (
      within one (Contains-here one rest),
      λ other there. within other (Contains-later one rest other there),
    ),
    λ both other there. ⊎_elim
        (λ is. subst (λ place. IfSome place (HasKeysWithin longest)) is both.0)
        (λ later. both.1 other later)
        (Contains-cases one rest other there),
  ),
)
