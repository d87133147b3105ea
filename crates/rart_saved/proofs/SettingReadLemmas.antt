-- Changes that are read one by one, and made.
use Rattle.std.proofs.Common.{◌≡◌, ◌+◌, ◌<◌, ◌≤◌, ℕ, Bool, true, List, [], ◌∷◌, ◌++◌, length, map, drop, Option, Some, None, refl, sym, ap, subst, ◌∙◌, ⊎_elim}
use Rattle.std.specs.Prelude.{Contains, IsTrue, is_some}
use Rattle.std.proofs.lemmas.Bool.{false≢true}
use Rattle.std.proofs.lemmas.List.{length-map}
use Rattle.std.specs.FinMap as finite
use Rattle.rart_maps.specs.ChangeLaws.{IsReflexive}
use Rattle.rart_maps.specs.ChangeLists.{changes, differ}
use Rattle.rart_maps.specs.Lookups.{with_value}
use Rattle.rart_maps.specs.Versions.{Map}
use Rattle.rart_maps.proofs.ChangeLemmas.{changes-ascend, changes-from}
use Rattle.rart_maps.proofs.ElementLemmas.{Contains-cases, Contains-here, Contains-later, Contains-nil}
use Rattle.rart_maps.proofs.FoundLemmas.{KeysAscend-sorted}
use Rattle.rart_maps.proofs.PointLemmas.{map-contains}
use Rattle.rart_versioned.specs.Keys.{IsKeyLength}
use Rattle.rart_saved.specs.FamilyForms.{as_setting, optional}
use Rattle.rart_saved.specs.FamilyLoads.{LacksSetting, LacksSettings}
use Rattle.rart_saved.specs.Forms.{entries, entry}
use Rattle.rart_saved.specs.Keys.{IsNext}
use Rattle.rart_saved.specs.Parts.{HasPart}
use Rattle.rart_saved.proofs.ChangeFormLemmas.{ascends-mapped}
use Rattle.rart_saved.proofs.EntryLemmas.{chain-sorted}
use Rattle.rart_saved.proofs.ListedLemmas.{IsRead, lacks-admitted, read-next, read-none}
use Rattle.rart_saved.proofs.OptionalLemmas.{optional-apart}
use Rattle.rart_saved.proofs.SettingLemmas.{AreChanges, settings-settled, settled, settled-next, settled-none}

pub contains-last : {A : Type 0} (done : List A) (x y : A) → Contains (done ++ x ∷ []) y
    → (P : A → Type 0) → ((z : A) → Contains done z → P z) → P x → P y
contains-last [] x y there P all last =
    ⊎_elim (λ is. subst P is last) (λ none. absurd (Contains-nil y none)) (Contains-cases x [] y there)
contains-last (one ∷ done) x y there P all last =
    ⊎_elim
    (λ is. all y (contains-first is))
    (λ later. contains-last done x y later P (λ z there. all z (Contains-later one done z there)) last)
    (Contains-cases one (done ++ x ∷ []) y there)
  where
    contains-first : one ≡ y → Contains (one ∷ done) y
    contains-first is = subst (Contains (one ∷ done)) is (Contains-here one done)

module _ {V : Type 0} (written : V → List ℕ) (same : V → V → Bool) (old : Map V) where
  -- So many changes were read from one place to another, in order, the last of this key, and made
  -- of the old map; and as many keys are there now.
  pub record IsMade (bytes : List ℕ) (at end i : ℕ) (key : List ℕ) (now : Map V) (keys : ℕ)
      (list : List (List ℕ × Option V)) : Type 0 where
    pub read : IsRead (optional written) bytes at end i key list
    pub made : now ≡ settled old list
    pub changed : AreChanges same old list
    pub counted : keys ≡ finite.len now
    pub room : keys ≤ end

  pub made-none : (bytes : List ℕ) (at : ℕ) (now : Map V) (keys : ℕ) → at ≤ length bytes
      → now ≡ old → keys ≡ finite.len now → keys ≤ at → IsMade bytes at at 0 [] now keys []
  made-none bytes at now keys within begins counted room = record {
    read = read-none (optional written) bytes at within;
    made = begins ∙ sym (settled-none old);
    changed = λ pair there. absurd (Contains-nil pair there);
    counted = counted;
    room = room;
  }

  pub made-next : (bytes : List ℕ) (at end end' i : ℕ) (key key' : List ℕ) (x : Option V)
      (now now' : Map V) (keys keys' : ℕ) (list : List (List ℕ × Option V)) (f : Bool)
      → IsMade bytes at end i key now keys list
      → HasPart bytes end (entry (optional written) key (key', x)) end' → IsNext f key key'
      → (f ≡ true → list ≡ []) → differ same (finite.get old key') x ≡ true
      → now' ≡ with_value now key' x → keys' ≡ finite.len now' → keys' ≤ end'
      → IsMade bytes at end' (i + 1) key' now' keys' (list ++ (key', x) ∷ [])
  made-next bytes at end end' i key key' x now now' keys keys' list f is part next first other set
      counted room =
      record {
        read = read-next (optional written) bytes at end end' i key (key', x) list f is.read part
            next first;
        made = set ∙ ap (λ m. with_value m key' x) is.made
            ∙ sym (settled-next list (key', x) old);
        changed = λ pair there. contains-last list (key', x) pair there
            (λ p. differ same (finite.get old p.0) p.1 ≡ true) is.changed other;
        counted = counted;
        room = room;
      }

  -- They are what changed, and so many.
  settings-made : IsReflexive same → (bytes : List ℕ) (at end i : ℕ) (key : List ℕ)
      (now : Map V) (keys : ℕ) (list : List (List ℕ × Option V))
      → IsMade bytes at end i key now keys list → map as_setting (changes same old now) ≡ list
  settings-made reflexive bytes at end i key now keys list is =
      ap (λ m. map as_setting (changes same old m)) is.made
      ∙ settings-settled same old reflexive list
      (KeysAscend-sorted list (chain-sorted list is.read.chain)) is.changed

  pub made-read : IsReflexive same → (bytes : List ℕ) (at end i : ℕ) (key : List ℕ)
      (now : Map V) (keys : ℕ) (list : List (List ℕ × Option V))
      → IsMade bytes at end i key now keys list
      → HasPart bytes at
      (entries (optional written) [] (map as_setting (changes same old now))) end
  made-read reflexive bytes at end i key now keys list is =
      subst (λ all. HasPart bytes at (entries (optional written) [] all) end)
      (sym (settings-made reflexive bytes at end i key now keys list is)) is.read.part

  pub made-count : IsReflexive same → (bytes : List ℕ) (at end i : ℕ) (key : List ℕ)
      (now : Map V) (keys : ℕ) (list : List (List ℕ × Option V))
      → IsMade bytes at end i key now keys list → length (changes same old now) ≡ i
  made-count reflexive bytes at end i key now keys list is =
      sym (length-map (changes same old now) as_setting)
      ∙ ap length (settings-made reflexive bytes at end i key now keys list is)
      ∙ is.read.count

  -- ---- refused

  -- A key that changed is one of either map.
  of-either : (a b : Option V) → differ same a b ≡ true → (P : Type 0)
      → (is_some a ≡ true → P) → (is_some b ≡ true → P) → P
  of-either None None d P one other = absurd (false≢true d)
  of-either None (Some y) d P one other = other refl
  of-either (Some x) b d P one other = one refl

  -- Where no next change has its form, more lead to no map.
  pub lacks-settings : ((x y : V) (r s : List ℕ) → written x ++ r ≡ written y ++ s → x ≡ y)
      → (most : Option ℕ)
      → ((key : List ℕ) → IsTrue (finite.contains_key old key) → IsKeyLength most (length key))
      → (bytes : List ℕ) (at end i count : ℕ) (key : List ℕ) (now : Map V) (keys : ℕ)
      (list : List (List ℕ × Option V)) (f : Bool) → IsMade bytes at end i key now keys list
      → i < count → (list ≡ [] → f ≡ true)
      → LacksSetting written same most old f key (drop end bytes)
      → LacksSettings written same most old count (drop at bytes)
  lacks-settings apart most olds bytes at end i count key now keys list f is less first lacks new
      rest long news stands =
      lacks-admitted (optional written) (optional-apart written apart)
      (λ pair. IsKeyLength most (length pair.0)
      × (differ same (finite.get old pair.0) pair.1 ≡ true)) bytes at end i count key list f is.read
      less first (λ pair more next admits. lacks pair.0 pair.1 more next admits.0 admits.1)
      (map as_setting (changes same old new)) rest
      (length-map (changes same old new) as_setting ∙ long)
      (ascends-mapped as_setting (changes same old new) (changes-ascend same old new)) admitted
      stands
    where
      admitted : (pair : List ℕ × Option V)
          → Contains (map as_setting (changes same old new)) pair
          → IsKeyLength most (length pair.0) × (differ same (finite.get old pair.0) pair.1 ≡ true)
      admitted pair there =
          let found = map-contains as_setting (changes same old new) pair there in
          let c = found.0 in
          let is = changes-from same old new c found.1 in
          subst (λ (p : List ℕ × Option V). IsKeyLength most (length p.0)
          × (differ same (finite.get old p.0) p.1 ≡ true)) found.2 (
            of-either c.1 c.2 is.2 (IsKeyLength most (length c.0))
                (λ here. olds c.0 (ap is_some is.0 ∙ here))
                (λ here. news c.0 (ap is_some is.1 ∙ here)),
            ap (λ o. differ same o c.2) is.0 ∙ is.2,
          )
