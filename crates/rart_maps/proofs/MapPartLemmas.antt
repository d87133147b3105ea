-- What look-ups answer in the parts that another map cuts a map into, and the laws of these.
use Rattle.std.proofs.Common.{◌≡◌, ◌&&◌, ◌||◌, ℕ, Bool, true, false, cond, not, List, refl, sym, ap, ◌∙◌}
use Rattle.std.specs.Prelude.{Option, Some, None, is_some}
use Rattle.std.specs.FinMap as finite
use Rattle.rart_below.specs.Bytes.{byte_order}
use Rattle.rart_maps.specs.ChangeLists.{joined}
use Rattle.rart_maps.specs.MapParts.{apart, common_part, without}
use Rattle.rart_maps.specs.MapPartLaws.{CommonPartAnswers, OtherPartAnswers, CommonPartHasThesePairs, OtherPartHasThesePairs, PartsAreTheMap, NoKeyCutsNothing, CuttingTwiceIsCuttingOnce, CommonKeysAreOfBoth, CommonIsLeftWithoutTheRest, NothingIsLeftWithoutItself, KeysGoOneAfterTheOther, JoinedAnswers, JoinedKeysAreOfEither, JoinedWithItself, ApartAnswers, ApartEitherWay, ApartIsJoinedWithoutCommon}
use Rattle.rart_maps.specs.Versions.{Map}
use Rattle.rart_maps.proofs.ChangeLemmas.{or_else, get-joined}
use Rattle.rart_maps.proofs.OrderLemmas.{byte_order-IsAntisymmetric}
use Rattle.rart_maps.proofs.PrefixLawLemmas.{kept-pairs}
use Rattle.rart_maps.proofs.PrefixLemmas.{same_map}

turned : {V : Type 0} (t : Bool) (x : Option V) → cond (not t) x None ≡ cond t None x
turned true x = refl
turned false x = refl

module _ {V W : Type 0} where
  pub get-common_part : (m : Map V) (other : Map W) (q : List ℕ)
      → finite.get (common_part m other) q
      ≡ cond (finite.contains_key other q) (finite.get m q) None
  get-common_part m other q =
      finite.get-retain_keys m (finite.contains_key other) q
      (λ x tied. ap (finite.contains_key other) (sym (byte_order-IsAntisymmetric q x tied)))

  kept-without : (m : Map V) (other : Map W) (q : List ℕ)
      → finite.get (without m other) q
      ≡ cond (not (finite.contains_key other q)) (finite.get m q) None
  kept-without m other q =
      finite.get-retain_keys m (λ key. not (finite.contains_key other key)) q
      (λ x tied. ap (λ key. not (finite.contains_key other key))
      (sym (byte_order-IsAntisymmetric q x tied)))

  pub get-without : (m : Map V) (other : Map W) (q : List ℕ)
      → finite.get (without m other) q
      ≡ cond (finite.contains_key other q) None (finite.get m q)
  get-without m other q =
      kept-without m other q ∙ turned (finite.contains_key other q) (finite.get m q)

both-parts : {V : Type 0} (t : Bool) (x : Option V) → or_else (cond t x None) (cond t None x) ≡ x
both-parts true None = refl
both-parts true (Some x) = refl
both-parts false x = refl

cut-twice : {V : Type 0} (t : Bool) (x : Option V) → cond t None (cond t None x) ≡ cond t None x
cut-twice true x = refl
cut-twice false x = refl

cut-both : {V : Type 0} (t : Bool) (x : Option V) → cond t (cond t None x) None ≡ None
cut-both true x = refl
cut-both false x = refl

own-cut : {V : Type 0} (x : Option V) → cond (is_some x) None x ≡ None
own-cut None = refl
own-cut (Some x) = refl

own-kept : {V : Type 0} (x : Option V) → cond (is_some x) x None ≡ x
own-kept None = refl
own-kept (Some x) = refl

both-kept : {V : Type 0} (t : Bool) (x : Option V) → is_some (cond t x None) ≡ (is_some x && t)
both-kept true None = refl
both-kept true (Some x) = refl
both-kept false None = refl
both-kept false (Some x) = refl

cut-rest : {V : Type 0} (t : Bool) (x : Option V)
    → cond (is_some (cond t None x)) None x ≡ cond t x None
cut-rest true x = refl
cut-rest false x = own-cut x

one-then-other : {V : Type 0} (x one other : Option V)
    → cond (is_some other) None (cond (is_some one) None x)
    ≡ cond (is_some (or_else one other)) None x
one-then-other x None None = refl
one-then-other x None (Some other) = refl
one-then-other x (Some one) None = refl
one-then-other x (Some one) (Some other) = refl

or-cond : {V : Type 0} (x y : Option V) → or_else x y ≡ cond (is_some x) x y
or-cond None y = refl
or-cond (Some x) y = refl

or-some : {V : Type 0} (x y : Option V) → is_some (or_else x y) ≡ (is_some x || is_some y)
or-some None y = refl
or-some (Some x) y = refl

or-own : {V : Type 0} (x : Option V) → or_else x x ≡ x
or-own None = refl
or-own (Some x) = refl

or-none : {V : Type 0} (x : Option V) → or_else x None ≡ x
or-none None = refl
or-none (Some x) = refl

one-alone : {V : Type 0} (x y : Option V)
    → or_else (cond (is_some y) None x) (cond (is_some x) None y)
    ≡ cond (is_some y) (cond (is_some x) None y) x
one-alone None None = refl
one-alone None (Some y) = refl
one-alone (Some x) None = refl
one-alone (Some x) (Some y) = refl

alone-turned : {V : Type 0} (x y : Option V)
    → or_else (cond (is_some y) None x) (cond (is_some x) None y)
    ≡ or_else (cond (is_some x) None y) (cond (is_some y) None x)
alone-turned None None = refl
alone-turned None (Some y) = refl
alone-turned (Some x) None = refl
alone-turned (Some x) (Some y) = refl

alone-cut : {V : Type 0} (x y : Option V)
    → or_else (cond (is_some y) None x) (cond (is_some x) None y)
    ≡ cond (is_some (cond (is_some y) x None)) None (or_else x y)
alone-cut None None = refl
alone-cut None (Some y) = refl
alone-cut (Some x) None = refl
alone-cut (Some x) (Some y) = refl

module _ (V W : Type 0) where
  pub common_part_answers : CommonPartAnswers V W
  common_part_answers m other key = get-common_part m other key

  pub other_part_answers : OtherPartAnswers V W
  other_part_answers m other key = get-without m other key

  pub common_part_has_these_pairs : CommonPartHasThesePairs V W
  common_part_has_these_pairs m other =
      kept-pairs V (finite.contains_key other) m (common_part m other) (get-common_part m other)

  pub other_part_has_these_pairs : OtherPartHasThesePairs V W
  other_part_has_these_pairs m other =
      kept-pairs V (λ key. not (finite.contains_key other key)) m (without m other)
      (kept-without m other)

  pub parts_are_the_map : PartsAreTheMap V W
  parts_are_the_map m other =
      same_map (joined (common_part m other) (without m other)) m (λ q.
      get-joined (common_part m other) (without m other) q
      ∙ (λ i. or_else (get-common_part m other q i) (get-without m other q i))
      ∙ both-parts (finite.contains_key other q) (finite.get m q))

  no-key : (q : List ℕ) → finite.contains_key (finite.empty {X = W} {R = byte_order}) q ≡ false
  no-key q = ap is_some (finite.get-empty byte_order q)

  pub no_key_cuts_nothing : NoKeyCutsNothing V W
  no_key_cuts_nothing m = (
    same_map _ _ (λ q. get-without m finite.empty q
        ∙ ap (λ t. cond t None (finite.get m q)) (no-key q)),
    same_map _ _ (λ q. get-common_part m finite.empty q
        ∙ ap (λ t. cond t (finite.get m q) None) (no-key q) ∙ sym (finite.get-empty byte_order q)),
  )

  pub cutting_twice_is_cutting_once : CuttingTwiceIsCuttingOnce V W
  cutting_twice_is_cutting_once m other = (
    same_map _ _ (λ q. get-without (without m other) other q
        ∙ ap (cond (finite.contains_key other q) None) (get-without m other q)
        ∙ cut-twice (finite.contains_key other q) (finite.get m q)
        ∙ sym (get-without m other q)),
    same_map _ _ (λ q. get-common_part (without m other) other q
        ∙ ap (λ x. cond (finite.contains_key other q) x None) (get-without m other q)
        ∙ cut-both (finite.contains_key other q) (finite.get m q)
        ∙ sym (finite.get-empty byte_order q)),
  )

  pub common_keys_are_of_both : CommonKeysAreOfBoth V W
  common_keys_are_of_both m other key =
      ap is_some (get-common_part m other key)
      ∙ both-kept (finite.contains_key other key) (finite.get m key)

  pub common_is_left_without_the_rest : CommonIsLeftWithoutTheRest V W
  common_is_left_without_the_rest m other =
      same_map _ _ (λ q. get-without m (without m other) q
      ∙ ap (λ x. cond (is_some x) None (finite.get m q)) (get-without m other q)
      ∙ cut-rest (finite.contains_key other q) (finite.get m q)
      ∙ sym (get-common_part m other q))

module _ (V : Type 0) where
  pub nothing_is_left_without_itself : NothingIsLeftWithoutItself V
  nothing_is_left_without_itself m = (
    same_map _ _ (λ q. get-without m m q ∙ own-cut (finite.get m q)
        ∙ sym (finite.get-empty byte_order q)),
    same_map _ _ (λ q. get-common_part m m q ∙ own-kept (finite.get m q)),
  )

  pub keys_go_one_after_the_other : KeysGoOneAfterTheOther V
  keys_go_one_after_the_other m one other =
      same_map _ _ (λ q. get-without (without m one) other q
      ∙ ap (cond (finite.contains_key other q) None) (get-without m one q)
      ∙ one-then-other (finite.get m q) (finite.get one q) (finite.get other q)
      ∙ sym (get-without m (joined one other) q
      ∙ ap (λ x. cond (is_some x) None (finite.get m q)) (get-joined one other q)))

  -- ---- two maps together
  pub joined_answers : JoinedAnswers V
  joined_answers one other q =
      get-joined one other q ∙ or-cond (finite.get one q) (finite.get other q)

  pub joined_keys_are_of_either : JoinedKeysAreOfEither V
  joined_keys_are_of_either one other q =
      ap is_some (get-joined one other q) ∙ or-some (finite.get one q) (finite.get other q)

  pub joined_with_itself : JoinedWithItself V
  joined_with_itself m = (
    same_map _ _ (λ q. get-joined m m q ∙ or-own (finite.get m q)),
    same_map _ _ (λ q. get-joined m finite.empty q
        ∙ ap (or_else (finite.get m q)) (finite.get-empty byte_order q)
        ∙ or-none (finite.get m q)),
    same_map _ _ (λ q. get-joined finite.empty m q
        ∙ ap (λ x. or_else x (finite.get m q)) (finite.get-empty byte_order q)),
  )

  -- what one has alone, or the other
  pub get-apart : (one other : Map V) (q : List ℕ) → finite.get (apart one other) q
      ≡ or_else (cond (finite.contains_key other q) None (finite.get one q))
      (cond (finite.contains_key one q) None (finite.get other q))
  get-apart one other q =
      get-joined (without one other) (without other one) q
      ∙ (λ i. or_else (get-without one other q i) (get-without other one q i))

  pub apart_answers : ApartAnswers V
  apart_answers one other q =
      get-apart one other q ∙ one-alone (finite.get one q) (finite.get other q)

  pub apart_either_way : ApartEitherWay V
  apart_either_way one other = (
    same_map _ _ (λ q. get-apart one other q
        ∙ alone-turned (finite.get one q) (finite.get other q) ∙ sym (get-apart other one q)),
    same_map _ _ (λ q. get-apart one one q
        ∙ (λ i. or_else (own-cut (finite.get one q) i) (own-cut (finite.get one q) i))
        ∙ sym (finite.get-empty byte_order q)),
    same_map _ _ (λ q. get-apart one finite.empty q
        ∙ ap (λ x. or_else (cond (is_some x) None (finite.get one q))
        (cond (finite.contains_key one q) None x)) (finite.get-empty byte_order q)
        ∙ ap (or_else (finite.get one q)) (none-either (finite.contains_key one q))
        ∙ or-none (finite.get one q)),
  )
    where
      none-either : (t : Bool) → ◌≡◌ {A = Option V} (cond t None None) None
      none-either true = refl
      none-either false = refl

  pub apart_is_joined_without_common : ApartIsJoinedWithoutCommon V
  apart_is_joined_without_common one other =
      same_map _ _ (λ q. get-apart one other q
      ∙ alone-cut (finite.get one q) (finite.get other q)
      ∙ sym (get-without (joined one other) (common_part one other) q
      ∙ (λ i. cond (is_some (get-common_part one other q i)) None (get-joined one other q i))))
