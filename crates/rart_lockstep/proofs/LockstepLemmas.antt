-- The way down two trees: what was visited where it has come to, among the branches of one place.
use Rattle.std.proofs.Common.{◌≡◌, ◌<◌, ◌+◌, ℕ, List, [], ◌∷◌, ◌++◌, Option, Some, None, Ok, Err, length, take, drop, refl, sym, ap, subst, ◌∙◌, arith}
use Rattle.std.specs.Fn.{Mut}
use Rattle.std.specs.List.{concat}
use Rattle.std.proofs.lemmas.List.{take-append-drop}
use Rattle.rart_below.specs.Bytes.{IsAdmitted}
use Rattle.rart_maps.specs.Visits.{Answers, AnswersUpTo, CallableInTurn}
use Rattle.rart_maps.proofs.VisitLemmas.{up_to-start, up_to-part, up_to-over, callable-part}
use Rattle.rart_lockstep.proofs.EndingLemmas.{leaves-within}
use Rattle.rart_node.specs.Counts.{Counts, CountsUpTo}
use Rattle.rart_node.specs.Shape.{Shape, IsAscending, prefix_of, height}
use Rattle.rart_node.specs.Trees.{IsTree, pairs_of}
use Rattle.rart_node.proofs.FindLemmas.{ascending, ordered}
use Rattle.rart_node.specs.PairsBehind.{behind_path}
use Rattle.rart_node.specs.PairsBehind.{AreShort}
use Rattle.rart_node.proofs.KeyPathLemmas.{concat-push}
use Rattle.rart_lockstep.specs.Children.{common_children}
use Rattle.rart_lockstep.specs.CommonPairs.{common_pairs}
use Rattle.rart_lockstep.specs.Endings.{LeavesBy}
use Rattle.rart_lockstep.specs.Entries.{entry_here, behind_key}
use Rattle.rart_lockstep.specs.PairCursors.{CommonBytes}
use Rattle.rart_lockstep.specs.Intersections.{CanIntersect, HasIntersected}
use Rattle.rart_lockstep.specs.TreeCursors.{behind_bytes, next_children}
use Rattle.rart_lockstep.proofs.NextChildLemmas.{IsArm, ArePairs, pairs-next_children, pair-lower, short-within, short-matched, short-admits}
use Rattle.rart_lockstep.proofs.CommonLemmas.{common_of_all}
use Rattle.rart_lockstep.proofs.EnterLemmas.{EntersUpTo}
use Rattle.rart_lockstep.proofs.PairStepLemmas.{tree-with, height-with, one-ends, common_pairs-apart, common_pairs-here, common_pairs-next, left-split}

module _ {T V F A R : Type 0} (g : Mut F A R) (Shows : A → List ℕ × V × V → Type 0) (goes : R)
    (holds : T → List (List ℕ) → Type 0) (s t : Shape V) (count : ℕ) where
  -- On the way to the branches that are left, the key path keeps what was matched behind what it
  -- kept at the start, and the closure was called on all before these branches.
  pub record IsIntersection (key_path : T) (f : F) (left : List (ℕ × (Shape V × Shape V)))
      (key_path' : T)
      (f' : F) : Type 0 where
    pub held : (segments : List (List ℕ)) → holds key_path segments
        → holds key_path' (segments ++ take count (prefix_of s) ∷ [])
    pub calls : (segments : List (List ℕ)) → holds key_path segments
        → AnswersUpTo g Shows goes f (behind_key (concat segments) (common_pairs s t))
        (behind_key (concat (segments ++ take count (prefix_of s) ∷ [])) (common_of_all left)) f'
    pub pairs : ArePairs (behind_bytes count s) (behind_bytes count t) left

  module _ (common : CommonBytes s t (Some count)) (left_tree : IsTree s) (right_tree : IsTree t)
    where
      -- what is in common, behind what the key path keeps then
      whole-here : (segments : List (List ℕ)) → behind_key (concat segments) (common_pairs s t)
          ≡ entry_here (concat (segments ++ take count (prefix_of s) ∷ [])) (behind_bytes count s)
          (behind_bytes count t)
          ++ behind_key (concat (segments ++ take count (prefix_of s) ∷ []))
          (common_of_all (common_children (next_children (behind_bytes count s))
          (next_children (behind_bytes count t))))
      whole-here segments =
          common_pairs-here s t count common (concat segments) left_tree
          ∙ ap (λ path. entry_here path (behind_bytes count s) (behind_bytes count t)
          ++ behind_key path (common_of_all (common_children (next_children (behind_bytes count s))
          (next_children (behind_bytes count t)))))
          (sym (concat-push segments (take count (prefix_of s))))

      -- the entry here comes first
      pub here-visitable : (segments : List (List ℕ)) (f : F)
          → CallableInTurn g Shows goes f (behind_key (concat segments) (common_pairs s t))
          → CallableInTurn g Shows goes f (entry_here (concat (segments ++ take count (prefix_of s) ∷ []))
          (behind_bytes count s) (behind_bytes count t))
      here-visitable segments f visitable =
          callable-part g Shows goes _ _ (whole-here segments) visitable
          (up_to-start g Shows goes f (behind_key (concat segments) (common_pairs s t)))

      pub here-ended : (by : Option R) (segments : List (List ℕ)) (f f' : F)
          → LeavesBy g Shows goes by f
          (entry_here (concat (segments ++ take count (prefix_of s) ∷ [])) (behind_bytes count s)
          (behind_bytes count t)) f'
          → LeavesBy g Shows goes by f (behind_key (concat segments) (common_pairs s t)) f'
      here-ended by segments f f' ends =
          leaves-within g Shows goes by f' _ _ (whole-here segments)
          (up_to-start g Shows goes f (behind_key (concat segments) (common_pairs s t))) ends

      pub on_common_key-start : (key_path key_path' : T) (f f' : F)
          → ((segments : List (List ℕ)) → holds key_path segments
          → holds key_path' (segments ++ take count (prefix_of s) ∷ []))
          → ((segments : List (List ℕ)) → holds key_path segments → Answers g Shows goes f
          (entry_here (concat (segments ++ take count (prefix_of s) ∷ [])) (behind_bytes count s)
          (behind_bytes count t)) f')
          → IsIntersection key_path f (common_children (next_children (behind_bytes count s))
          (next_children (behind_bytes count t))) key_path' f'
      on_common_key-start key_path key_path' f f' held visits =
          record {
            held = held;
            calls = λ segments holds. up_to-part g Shows goes _ _ (whole-here segments)
                (up_to-start g Shows goes f (behind_key (concat segments) (common_pairs s t)))
                (visits segments holds);
            pairs = pairs-next_children (behind_bytes count s) (behind_bytes count t)
                (tree-with s (drop count (prefix_of s)) left_tree)
                (tree-with t (drop count (prefix_of t)) right_tree);
          }

      -- The next branch may be met.
      pub next-may : (greatest : Option ℕ) (key_path key_path' : T) (f f' : F) (byte : ℕ)
          (x y : Shape V)
          (rest : List (ℕ × (Shape V × Shape V)))
          → CanIntersect g Shows goes holds greatest key_path f s t
          → IsIntersection key_path f ((byte, (x, y)) ∷ rest) key_path' f'
          → CanIntersect g Shows goes holds greatest key_path' f' x y
      next-may greatest key_path key_path' f f' byte x y rest may on_common_key =
          let segments = may.0 in
          let start = take count (prefix_of s) in
          let path = concat (segments ++ start ∷ []) in
          let matched = short-matched greatest (concat segments) s may.2 start
          (drop count (prefix_of s)) (left-split s t count common.0) in
          let here = subst (λ path. AreShort greatest (behind_path path
          (pairs_of (behind_bytes count s)))) (sym (concat-push segments start)) matched in (
            segments ++ start ∷ [],
            on_common_key.held segments may.1,
            short-within greatest path x (behind_bytes count s) on_common_key.pairs.0.0.within here,
            callable-part g Shows goes _ _ (common_pairs-next path byte x y rest) may.3
                (on_common_key.calls segments may.1),
          )

      pub on_common_key-next : {E : Type 0} (told : E → Option R)
          (key_path key_path' key_path'' : T) (f f' f'' : F) (byte : ℕ)
          (x y : Shape V)
          (rest : List (ℕ × (Shape V × Shape V)))
          → IsIntersection key_path f ((byte, (x, y)) ∷ rest) key_path' f'
          → HasIntersected g Shows goes holds told key_path' f' (Ok tt) x y key_path'' f''
          → IsIntersection key_path f rest key_path'' f''
      on_common_key-next told key_path key_path' key_path'' f f' f'' byte x y rest on_common_key met =
          record {
            held = λ segments holds. (met (segments ++ take count (prefix_of s) ∷ [])
                (on_common_key.held segments holds)).1;
            calls = λ segments holds.
                let path = concat (segments ++ take count (prefix_of s) ∷ []) in
                up_to-part g Shows goes _ _ (common_pairs-next path byte x y rest)
                (on_common_key.calls segments holds)
                (met (segments ++ take count (prefix_of s) ∷ [])
                (on_common_key.held segments holds)).0;
            pairs = on_common_key.pairs.1;
          }

      pub on_common_key-ended : {E : Type 0} (told : E → Option R) (e : E)
          (key_path key_path' key_path'' : T) (f f' f'' : F) (byte : ℕ) (x y : Shape V)
          (rest : List (ℕ × (Shape V × Shape V)))
          → IsIntersection key_path f ((byte, (x, y)) ∷ rest) key_path' f'
          → HasIntersected g Shows goes holds told key_path' f' (Err e) x y key_path'' f''
          → (segments : List (List ℕ)) → holds key_path segments
          → LeavesBy g Shows goes (told e) f (behind_key (concat segments) (common_pairs s t)) f''
      on_common_key-ended told e key_path key_path' key_path'' f f' f'' byte x y rest
          on_common_key met segments held =
          let path = concat (segments ++ take count (prefix_of s) ∷ []) in
          leaves-within g Shows goes (told e) f'' _ _ (common_pairs-next path byte x y rest)
          (on_common_key.calls segments held)
          (met (segments ++ take count (prefix_of s) ∷ []) (on_common_key.held segments held)).0

      pub on_common_key-over : (key_path key_path' : T) (f f' : F)
          (left : List (ℕ × (Shape V × Shape V)))
          → left ≡ [] → IsIntersection key_path f left key_path' f'
          → (segments : List (List ℕ)) → holds key_path segments
          → Answers g Shows goes f (behind_key (concat segments) (common_pairs s t)) f'
      on_common_key-over key_path key_path' f f' left none on_common_key segments holds =
          up_to-over g Shows goes
          (ap (λ left. behind_key (concat (segments ++ take count (prefix_of s) ∷ []))
          (common_of_all left)) none) (on_common_key.calls segments holds)

module _ {V F A R : Type 0} (g : Mut F A R) (Shows : A → List ℕ × V × V → Type 0) (goes : R)
    (s t : Shape V) where
  -- Where nothing is in common, nothing is visited.
  pub visits-apart : (path : List ℕ) (f : F) → CommonBytes s t None
      → Answers g Shows goes f (behind_key path (common_pairs s t)) f
  visits-apart path f apart =
      subst (λ entries. Answers g Shows goes f (behind_key path entries) f)
      (sym (common_pairs-apart s t apart)) refl

-- What was matched is not too long, behind what the key path keeps.
pub push-admits : {V : Type 0} (greatest : Option ℕ) (segments : List (List ℕ)) (s : Shape V)
    (count : ℕ) → IsTree s → AreShort greatest (behind_path (concat segments) (pairs_of s))
    → IsAdmitted greatest (length (concat (segments ++ take count (prefix_of s) ∷ [])))
push-admits greatest segments s count tree short =
    let start = take count (prefix_of s) in
    subst (λ path. IsAdmitted greatest (length path)) (sym (concat-push segments start))
    (short-admits greatest (concat segments) s short start (drop count (prefix_of s))
    (sym (take-append-drop count (prefix_of s))) tree)

-- A step down falls.
pub step-lower : {V : Type 0} (s t : Shape V) (count : ℕ) (byte : ℕ) (x y : Shape V)
    → CommonBytes s t (Some count) → IsArm (behind_bytes count s) byte x
    → IsArm (behind_bytes count t) byte y → height x + height y < height s + height t
step-lower s t count byte x y common left right =
    let lower = pair-lower (behind_bytes count s) (behind_bytes count t) byte x y
    (one-ends s t count common) left right in
    let one = height-with s (drop count (prefix_of s)) in
    let other = height-with t (drop count (prefix_of t)) in
    omega (arith, lower, one, other)

-- A look at the next pair that finds none enters none.
pub enters-still : {V : Type 0} (s t : Shape V) (all rest : List (ℕ × (Shape V × Shape V)))
    (before now after : Counts) → EntersUpTo s t all rest before now → CountsUpTo 0 0 now after
    → EntersUpTo s t all rest before after
enters-still s t all rest before now after so_far none =
    let a = so_far.grows in
    let b = so_far.made in
    let c = none.entered_grows in
    let d = none.entered_at_most in
    let e = none.made_grows in
    let f = none.made_at_most in
    record {
      grows = omega (arith, a, c);
      made = omega (arith, b, e, f);
      most = λ strings above has.
          let most = so_far.most strings above has in omega (arith, most, d);
    }

pub tree-ascending : {V : Type 0} (s : Shape V) → IsTree s → IsAscending s
tree-ascending s tree = ascending s (ordered s tree)
