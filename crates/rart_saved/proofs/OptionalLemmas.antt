-- Values, or that there are none, as bytes.
use Rattle.std.proofs.Common.{◌≡◌, ◌≢◌, ◌+◌, ◌<◌, ◌≤◌, ℕ, zero, suc, Bool, true, false, List, [], ◌∷◌, ◌++◌, length, drop, Option, Some, None, refl, sym, ap, subst, ◌∙◌, append_assoc, arith}
use Rattle.std.specs.Int.{from_bool}
use Rattle.std.specs.Prelude.{◌==◌, IfSome}
use Rattle.rart_saved.specs.FamilyForms.{optional}
use Rattle.rart_saved.specs.FamilyLoads.{LacksMark}
use Rattle.rart_saved.specs.Laws.{same_first, same_rest}
use Rattle.rart_saved.specs.Parts.{HasPart}
use Rattle.rart_saved.specs.Values.{LacksValue}
use Rattle.rart_saved.proofs.BytePartLemmas.{part-join}

module _ {V : Type 0} (written : V → List ℕ) where
  pub none-written : (one two : List ℕ) → two ≡ one ++ 0 ∷ [] → two ≡ one ++ optional written None
  unfolding optional
  none-written one two is = is

  pub some-written : (one two three : List ℕ) (x : V) → two ≡ one ++ 1 ∷ []
      → three ≡ two ++ written x → three ≡ one ++ optional written (Some x)
  unfolding optional
  some-written one two three x first second =
      second ∙ ap (λ g. g ++ written x) first ∙ append_assoc one (1 ∷ []) (written x)

  pub optional-apart : ((x y : V) (r s : List ℕ) → written x ++ r ≡ written y ++ s → x ≡ y)
      → (one other : Option V) (r s : List ℕ)
      → optional written one ++ r ≡ optional written other ++ s → one ≡ other
  unfolding optional
  optional-apart apart None None r s same = refl
  optional-apart apart None (Some y) r s same = absurd (omega (arith, same_first same))
  optional-apart apart (Some x) None r s same = absurd (omega (arith, same_first same))
  optional-apart apart (Some x) (Some y) r s same = ap Some (apart x y r s (same_rest same))

  pub optional-long : (value : Option V) → 1 ≤ length (optional written value)
  unfolding optional
  optional-long None = omega arith
  optional-long (Some x) = omega arith

  -- No value, or none, has its form where neither byte is.
  pub lacks-marked : (bytes : List ℕ) → LacksMark bytes → LacksValue (optional written) bytes
  unfolding optional
  lacks-marked bytes lacks None rest stands = lacks false rest stands
  lacks-marked bytes lacks (Some x) rest stands = lacks true (written x ++ rest) stands

  module _ (bytes : List ℕ) (at : ℕ) (is_there : Bool)
      (marked : HasPart bytes at (from_bool is_there ∷ []) (at + 1)) where
    pub none-read : is_there ≡ false → HasPart bytes at (optional written None) (at + 1)
    unfolding optional
    none-read is = subst (λ b. HasPart bytes at (from_bool b ∷ []) (at + 1)) is marked

    pub some-read : (x : V) (end : ℕ) → is_there ≡ true → HasPart bytes (at + 1) (written x) end
        → HasPart bytes at (optional written (Some x)) end
    unfolding optional
    some-read x end is part =
        part-join bytes at (at + 1) end (1 ∷ []) (written x)
        (subst (λ b. HasPart bytes at (from_bool b ∷ []) (at + 1)) is marked) part

    -- Where the byte tells of a value, and no admitted one is behind it, there is none of these.
    pub lacks-some : (Admits : V → Type 0) → is_there ≡ true
        → ((x : V) (rest : List ℕ) → Admits x → drop (at + 1) bytes ≢ written x ++ rest)
        → (value : Option V) (rest : List ℕ) → IfSome value Admits
        → drop at bytes ≢ optional written value ++ rest
    unfolding optional
    lacks-some Admits is lacks None rest admits stands =
        let one : from_bool is_there ≡ 1 = ap from_bool is in
        omega (arith, one, same_first (sym marked.stands ∙ stands))
    lacks-some Admits is lacks (Some x) rest admits stands =
        lacks x rest admits (same_rest (sym marked.stands ∙ stands))

    pub lacks-value : is_there ≡ true → LacksValue written (drop (at + 1) bytes)
        → LacksValue (optional written) (drop at bytes)
    unfolding optional
    lacks-value is lacks None rest stands =
        let one : from_bool is_there ≡ 1 = ap from_bool is in
        omega (arith, one, same_first (sym marked.stands ∙ stands))
    lacks-value is lacks (Some x) rest stands =
        lacks x rest (same_rest (sym marked.stands ∙ stands))

-- ---- the byte that tells which it is

mark-small : (b : Bool) → from_bool b ≤ 1
mark-small true = omega arith
mark-small false = omega arith

mark-is : (n : ℕ) → n ≤ 1 → n ≡ from_bool (n == 1)
mark-is zero small = refl
mark-is (suc zero) small = refl
mark-is (suc (suc n)) small = absurd (omega (arith, small))

module _ (bytes : List ℕ) (at n : ℕ) (first : drop at bytes ≡ n ∷ drop (at + 1) bytes) where
  pub mark-read : at < length bytes → n ≤ 1 → HasPart bytes at (from_bool (n == 1) ∷ []) (at + 1)
  mark-read inside small = record {
    within = omega (arith, inside);
    stands = first ∙ ap (λ k. k ∷ drop (at + 1) bytes) (mark-is n small);
  }

  pub lacks-mark : 1 < n → LacksMark (drop at bytes)
  lacks-mark great b rest stands =
      omega (arith, great, mark-small b, same_first (sym first ∙ stands))
