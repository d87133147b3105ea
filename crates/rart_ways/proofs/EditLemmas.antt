-- The steps of an edit down the way of a key, in the words of its code.
use Rattle.std.proofs.Common.{◌≡◌, ℕ, suc, ◌-◌, ◌<◌, ◌≤◌, List, Option, Some, None, Result, Ok, Err, is_some, slice_get, length, drop, refl, arith, sym, ap, subst, ◌∙◌}
use Rattle.std.specs.Option.{option_and_then, OnSome}
use Rattle.std.specs.Result.{IsOk, IsErr, IfOk, OnOk, OnErr}
use Rattle.std.proofs.lemmas.Bool.{false≢true}
use Rattle.std.proofs.lemmas.Option.{none-some, same_Some}
use Rattle.rart_below.specs.Children.{child_at}
use Rattle.rart_node.specs.Shape.{Shape, prefix_of, value_of, children_of, with_deleted, with_replaced, IsAscending}
use Rattle.rart_ways.specs.Plans.{GoesOn, Removes, RemovesBelow, value_under}
use Rattle.rart_ways.specs.declared.removal.edit.Edit.{Edit}
use Rattle.rart_node.specs.Trees.{strip_prefix, found, IsTree, IsTaken}
use Rattle.rart_node.proofs.PrefixRestLemmas.{strip_prefix-is, strip_prefix-own}
use Rattle.rart_node.proofs.MatchLemmas.{found-deeper}
use Rattle.rart_node.proofs.FindLemmas.{IsBranch, branch, ordered}
use Rattle.rart_node.proofs.InsertionLemmas.{replaced-same}
use Rattle.rart_ways.proofs.RemovalLemmas.{split-strip_prefix, taken-below, deleted-replaced, ascending-replaced}

pub when-ok : {A E B : Type 0} (result : Result A E) (x : A) → result ≡ Ok x → (IsOk result → B) → B
when-ok (Ok y) x is says = says refl
when-ok (Err e) x is says = cc

pub when-some : {A B : Type 0} (result : Option A) (x : A) → result ≡ Some x → OnSome result B → B
when-some None x is says = absurd (none-some x is)
when-some (Some y) x is says = says

pub on-ok : {A E P Q : Type 0} (result : Result A E) → (P → Q) → OnOk result P → OnOk result Q
on-ok (Ok x) goes holds = goes holds
on-ok (Err e) goes holds = tt

pub on-err : {A E P Q : Type 0} (result : Result A E) → (P → Q) → OnErr result P → OnErr result Q
on-err (Ok x) goes holds = tt
on-err (Err e) goes holds = goes holds

pub on-any : {A E P : Type 0} (result : Result A E) → P → OnErr result P
on-any (Ok x) says = tt
on-any (Err e) says = says

pub if-ok : {A E : Type 0} {P Q : A → Type 0} (result : Result A E) → ((a : A) → P a → Q a)
    → IfOk result P → IfOk result Q
if-ok (Ok a) goes holds = goes a holds
if-ok (Err e) goes holds = tt

-- what is told of an answer, where there is none
pub refused-ok : {A E : Type 0} (P : Type 0) (result : Result A E) → IsErr result → OnOk result P
refused-ok P (Ok x) err = absurd (false≢true err)
refused-ok P (Err e) err = tt

pub refused-if : {A E : Type 0} (P : A → Type 0) (result : Result A E) → IsErr result
    → IfOk result P
refused-if P (Ok x) err = absurd (false≢true err)
refused-if P (Err e) err = tt

-- what is left of a string behind a prefix that it begins with
pub drop-stripped : (prefix key rest : List ℕ) → strip_prefix prefix key ≡ Some rest
    → drop (length prefix) key ≡ rest
drop-stripped prefix key rest strips =
    let whole = (split-strip_prefix prefix key (ap is_some strips)).0 in
    same_Some (drop (length prefix) key) rest
    (sym (ap (strip_prefix prefix) whole
    ∙ strip_prefix-own prefix (drop (length prefix) key)) ∙ strips)

module _ {V : Type 0} where
  -- ---- at a node that was opened for writing
  pub pruned-is : (s opened leaf after replaced deleted : Shape V) (byte : ℕ) → opened ≡ s
      → IsTree s → replaced ≡ with_replaced byte leaf opened
      → deleted ≡ with_deleted byte replaced → after ≡ deleted → after ≡ with_deleted byte s
  pruned-is s opened leaf after replaced deleted byte same tree is was shows =
      shows ∙ was ∙ ap (with_deleted byte) (is ∙ ap (with_replaced byte leaf) same)
      ∙ deleted-replaced s byte leaf (ordered s tree)

  pub replaced-ascending : (s opened leaf replaced : Shape V) (byte : ℕ) → opened ≡ s → IsTree s
      → replaced ≡ with_replaced byte leaf opened → IsAscending replaced
  replaced-ascending s opened leaf replaced byte same tree is =
      subst IsAscending (sym (is ∙ ap (with_replaced byte leaf) same))
      (ascending-replaced s byte leaf (ordered s tree))

  pub child-is : (s opened child : Shape V) (byte : ℕ) → opened ≡ s
      → Some child ≡ child_at byte (children_of opened) → child_at byte (children_of s) ≡ Some child
  child-is s opened child byte same here =
      sym (here ∙ ap (λ z. child_at byte (children_of z)) same)

  pub pruned-value : (s opened child : Shape V) (value : Option V) (byte : ℕ) → opened ≡ s
      → Some child ≡ child_at byte (children_of opened) → value ≡ value_of child
      → value ≡ value_under byte s
  pruned-value s opened child value byte same here is =
      is ∙ sym (ap (option_and_then value_of) (child-is s opened child byte same here))

  pub kept-is : (s opened child left after replaced : Shape V) (byte : ℕ) → opened ≡ s → IsTree s
      → Some child ≡ child_at byte (children_of opened)
      → replaced ≡ with_replaced byte left opened → after ≡ replaced → left ≡ child → after ≡ s
  kept-is s opened child left after replaced byte same tree here is shows kept =
      shows ∙ is ∙ (λ i. with_replaced byte (kept i) (same i))
      ∙ replaced-same s byte child (ordered s tree) (child-is s opened child byte same here)

  -- ---- one node down
  module _ {key : List ℕ} {s : Shape V} {byte : ℕ} {child : Shape V} {rest : List ℕ}
      (tree : IsTree s)
      (goes : GoesOn key s byte child rest) where
    pub branch-is : IsBranch byte child s
    branch-is = branch s byte child (ordered s tree) goes.here

    pub found-below-is : found s key ≡ found child rest
    found-below-is = found-deeper s key rest byte goes.strips goes.next
        ∙ ap (option_and_then (λ z. found z rest)) goes.here

    pub taken-deeper : (opened left replaced after : Shape V) → opened ≡ s
        → replaced ≡ with_replaced byte left opened → after ≡ replaced → IsTaken rest child left
        → IsTaken key s after
    taken-deeper opened left replaced after same is shows taken =
        subst (IsTaken key s) (sym (shows ∙ is ∙ ap (with_replaced byte left) same))
        (taken-below s child left key rest byte tree
        (strip_prefix-is (prefix_of s) key rest goes.strips) goes.next goes.here taken)

module _ {P V : Type 0} (edit : Edit P V) where
  pub removes-here : (depth : ℕ) (key : List ℕ) (s : Shape V) → depth ≡ 0
      → RemovesBelow depth edit key s → Removes edit key s
  removes-here depth key s is planned = subst (λ n. RemovesBelow n edit key s) is planned

  -- the next step of the way, and what is planned below
  pub record StepsDown (depth : ℕ) (key : List ℕ) (s : Shape V) (rest : List ℕ) : Type 0 where
    pub byte : ℕ
    pub child : Shape V
    pub goes : GoesOn key s byte child rest
    pub removes : RemovesBelow depth edit rest child

  module _ (depth : ℕ) (s opened : Shape V) (key prefix : List ℕ) (len : ℕ) (some : 0 < depth)
      (planned : RemovesBelow depth edit key s) (same : opened ≡ s)
      (is : prefix ≡ prefix_of opened) (long : len ≡ length prefix) where
    deeper : RemovesBelow (suc (depth - 1)) edit key s
    deeper = let same : depth ≡ suc (depth - 1) = omega (arith, some) in
        subst (λ n. RemovesBelow n edit key s) same planned

    pub steps-within : len ≤ length key
    steps-within =
        rw (long, is, same)
        (split-strip_prefix (prefix_of s) key (ap is_some deeper.3.strips)).1

    pub steps-down : (rest : List ℕ) → rest ≡ drop len key → StepsDown (depth - 1) key s rest
    steps-down rest left =
        let same : deeper.2 ≡ rest =
        sym (left ∙ ap (λ n. drop n key) (long ∙ ap length (is ∙ ap prefix_of same))
        ∙ drop-stripped (prefix_of s) key deeper.2 deeper.3.strips) in
        record {
          byte = deeper.0;
          child = deeper.1;
          goes = subst (GoesOn key s deeper.0 deeper.1) same deeper.3;
          removes = subst (λ z. RemovesBelow (depth - 1) edit z deeper.1) same deeper.4;
        }

  module _ {depth : ℕ} {key : List ℕ} {s : Shape V} {rest : List ℕ}
      (down : StepsDown depth key s rest) where
    pub no-end : None ≡ slice_get rest 0 → ⊥
    no-end none = none-some down.byte (none ∙ down.goes.next)

    module _ (opened : Shape V) (byte : ℕ) (same : opened ≡ s) (next : Some byte ≡ slice_get rest 0)
      where
        byte-is : down.byte ≡ byte
        byte-is = same_Some down.byte byte (sym (next ∙ down.goes.next))

        here-is : child_at byte (children_of opened) ≡ Some down.child
        here-is =
            (λ i. child_at (sym byte-is i) (children_of (same i))) ∙ down.goes.here

        pub no-gap : None ≡ child_at byte (children_of opened) → ⊥
        no-gap none = none-some down.child (none ∙ here-is)

        module _ (child : Shape V) (here : Some child ≡ child_at byte (children_of opened)) where
          same-child : down.child ≡ child
          same-child = same_Some down.child child (sym (here ∙ here-is))

          pub down-goes : GoesOn key s byte child rest
          down-goes =
              record {
                strips = down.goes.strips;
                next = sym next;
                here = child-is s opened child byte same here;
              }

          pub down-removes : RemovesBelow depth edit rest child
          down-removes = subst (λ z. RemovesBelow depth edit rest z) same-child down.removes
