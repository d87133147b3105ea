-- What a lender ends as, read off from whether something was lent.
use Rattle.std.proofs.Common.{◌≡◌, ℕ, ◌+◌, ◌≤◌, Result, Ok, Err, OnOk, OnErr, refl, ap, inl, inr, arith}
use Rattle.std.specs.Result.{IsOk}
use Rattle.std.specs.Borrow.{GName, name_if_ok}
use Rattle.std.proofs.lemmas.Bool.{false≢true}
use mathlib.Core.Path.{fun_ext}
use borrow.Follows.Closed.{read_of}

-- Two lenders end as the same where they do so for each value left behind, and where nothing was
-- lent.
pub same-ends : {A B D X : Type 0} (name : A → GName) (result : Result A X) (ends other : B → D)
    (stays remains : D) → (IsOk result → (left : B) → ends left ≡ other left)
    → OnErr result (stays ≡ remains)
    → read_of (name_if_ok name result) ends stays ≡ read_of (name_if_ok name result) other remains
same-ends name (Ok lent) ends other stays remains same kept =
    ap (λ f. inl (name lent, f)) (fun_ext (same refl))
same-ends name (Err error) ends other stays remains same kept = ap inr kept

module _ {A X : Type 0} where
  pub at-ok : {P : Type 0} (result : Result A X) → IsOk result → OnOk result P → P
  at-ok (Ok lent) ok says = says
  at-ok (Err error) ok says = absurd (false≢true ok)

  pub both-at-err : {P Q R : Type 0} (result : Result A X) → OnErr result P → OnErr result Q
      → (P → Q → R) → OnErr result R
  both-at-err (Ok lent) p q then = tt
  both-at-err (Err error) p q then = then p q

  -- A number that is raised where something was lent has not fallen.
  pub not-fallen : (result : Result A X) (before after : ℕ) → OnOk result (after ≡ before + 1)
      → OnErr result (after ≡ before) → before ≤ after
  not-fallen (Ok lent) before after raised kept = omega (arith, raised)
  not-fallen (Err error) before after raised kept = omega (arith, kept)
