-- As many paths pass a test from either end of a tree.
use Rattle.std.proofs.Common.{◌≡◌, ◌≤◌, ⊎_elim, ℕ, Bool, cond, List, [], ◌∷◌, ◌++◌, refl, arith, ap, ◌∙◌}
use Rattle.std.specs.Prelude.{count_by}
use Rattle.std.proofs.lemmas.List.Sums.{sum_by-append, sum_by-cons}
use Rattle.rart_node.specs.Shape.{Shape, Forest, node, bare, grown}
use Rattle.rart_walks.specs.BackFrames.{back_paths_of, back_paths_below, back_paths_of_all}
use Rattle.rart_walks.specs.Frames.{paths_of_all, under_path}
use Rattle.rart_walks.specs.Walks.{IsEndOf, paths_of, paths_below}

pub count-behind : (test : List ℕ → Bool) (prefix : List ℕ) (paths : List (List ℕ))
    → count_by test (under_path prefix paths) ≡ count_by (λ path. test (prefix ++ path)) paths
count-behind test prefix [] = refl
count-behind test prefix (path ∷ paths) =
    let rest = count-behind test prefix paths in
    let left = sum_by-cons (λ p. cond (test p) 1 0) (prefix ++ path) (under_path prefix paths) in
    let right = sum_by-cons (λ p. cond (test (prefix ++ p)) 1 0) path paths in
    omega (arith, rest, left, right)

module _ {V : Type 0} where
  mutual
    pub back-counts : (test : List ℕ → Bool) (s : Shape V)
        → count_by test (back_paths_of s) ≡ count_by test (paths_of s)
    back-counts test (node prefix value width forest) =
        let inner = λ (path : List ℕ). test (prefix ++ path) in
        let one = λ (path : List ℕ). cond (inner path) 1 0 in
        let back = count-behind test prefix ([] ∷ back_paths_below forest) in
        let on = count-behind test prefix ([] ∷ paths_below forest) in
        let back_own = sum_by-cons one [] (back_paths_below forest) in
        let own = sum_by-cons one [] (paths_below forest) in
        let below = back-counts_below inner forest in
        omega (arith, back, on, back_own, own, below)

    back-counts_below : (test : List ℕ → Bool) (forest : Forest V)
        → count_by test (back_paths_below forest) ≡ count_by test (paths_below forest)
    back-counts_below test bare = refl
    back-counts_below test (grown byte child forest) =
        let one = λ (path : List ℕ). cond (test path) 1 0 in
        let first = back-counts test child in
        let rest = back-counts_below test forest in
        let back = sum_by-append one (back_paths_below forest) (back_paths_of child) in
        let on = sum_by-append one (paths_of child) (paths_below forest) in
        omega (arith, first, rest, back, on)

  pub back-counts_all : (test : List ℕ → Bool) (children : List (ℕ × Shape V))
      → count_by test (back_paths_of_all children) ≡ count_by test (paths_of_all children)
  back-counts_all test [] = refl
  back-counts_all test (child ∷ children) =
      let one = λ (path : List ℕ). cond (test path) 1 0 in
      let first = back-counts test child.1 in
      let rest = back-counts_all test children in
      let back = sum_by-append one (back_paths_of_all children) (back_paths_of child.1) in
      let on = sum_by-append one (paths_of child.1) (paths_of_all children) in
      omega (arith, first, rest, back, on)

-- What passes a test at the end of a list is no more than what does in the list.
pub end-counts : {A : Type 0} (test : A → Bool) {end whole : List A} → IsEndOf end whole
    → count_by test end ≤ count_by test whole
end-counts test {end} either =
    ⊎_elim
    (λ all. let same = ap (count_by test) all in omega (arith, same))
    (λ behind.
    let more = ap (count_by test) behind.1
    ∙ sum_by-cons (λ x. cond (test x) 1 0) behind.0 end in
    omega (arith, more))
    either
