use Rattle.std.proofs.Common.{inl, inr, ⊎_elim, map, length, ◌+◌, ◌∷◌, [], sym, ap, refl, subst, ◌∙◌, arith, rules}
use Rattle.std.specs.Prelude.{Contains}
use Rattle.std.specs.Vec.Iter.{into_iter_items}
use Rattle.rart_maps.specs.FoundLaws.{KeysAscend}
use Rattle.rart_maps.specs.Order.{IsBefore}
use Rattle.rart_maps.proofs.ElementLemmas.{AllPairs-first, AllPairs-rest, Contains-here, Contains-later}
use Rattle.rart_maps.proofs.PointLemmas.{map-contains}
use Rattle.rart_maps.specs.ChangeLists.{effects, patched}
use Rattle.rart_changes.specs.ChangeVisits.{changes_at}
use Rattle.rart_changes.proofs.RebaseLemmas.{effects-next, effects-one, patched-append}
use Rattle.rart_changes.proofs.ShowLemmas.{changes_at-cons, nothing-left}
use Rattle.rart_changes.proofs.tracked.TrackedTree.replay.Goals as goal

pub loop-key-init : goal.loop-key-init
loop-key-init g c =
    let bytes = g.K.KeyTrait.bytes in
    let at = changes_at g.V.PartialEq.eq c.args.old.now.content c.args.new.now.content in
    let gives = c.into_iter-key-iterator.ensures.into_iter_gives in
    let same = ap (map bytes) gives.0 in
    record {
      count = search rules;
      room = rw gives.0 c.requires.room;
      base = refl;
      current = ap (λ keys. patched c.args.self.now.current.content (at keys)) same;
      among = λ q there. subst (λ keys. Contains keys q) same there;
      ascending = subst (KeysAscend bytes) (sym gives.0) c.requires.ascending;
      number = ap (λ keys. c.args.self.now.current.number
          + effects c.args.self.now.current.content (at keys)) same;
      touched = λ q there. inr there;
    }

pub replay_one-requires : goal.replay_one-requires
replay_one-requires g c =
    let more = ap length c.in-Some.ensures.steps.0 in
    let room = c.loop-key.invariant.room in
    record { clones = c.requires.clones; room = omega (arith, more, room) }

pub loop-key-preserved : goal.loop-key-preserved
loop-key-preserved g c =
    let bytes = g.K.KeyTrait.bytes in
    let same = g.V.PartialEq.eq in
    let old = c.args.old.now.content in
    let new = c.args.new.now.content in
    let at = changes_at same old new in
    let rest = map bytes (into_iter_items c.next.new.self) in
    let w = bytes c.in-Some.key in
    let before = c.loop-key.invariant in
    let steps = c.in-Some.ensures.steps in
    let keys = ap (map bytes) steps.0 in
    let more = ap length steps.0 in
    let count = steps.1 in
    let counts = before.count in
    let room = before.room in
    let made = c.in_ok-replay_one.ensures in
    let number = made.number in
    let content = c.loop-key.self.current.content in
    let one = effects-one same old new content w in
    let ascend = subst (KeysAscend bytes) steps.0 before.ascending in
    let next = effects-next same old new content w rest (λ v there.
    let found = map-contains bytes (into_iter_items c.next.new.self) v there in
    subst (IsBefore w) found.2 (AllPairs-first (λ x y. IsBefore (bytes x) (bytes y)) c.in-Some.key
    (into_iter_items c.next.new.self) ascend found.0 found.1)) in
    let later = ap (λ m. effects m (at rest)) made.current in
    let whole = ap (λ keys. effects content (at keys)) keys in
    let was = before.number in
    record {
      count = omega (arith, more, count, counts);
      room = omega (arith, more, room, number, one);
      ascending = AllPairs-rest (λ x y. IsBefore (bytes x) (bytes y)) c.in-Some.key
          (into_iter_items c.next.new.self) ascend;
      number = omega (arith, number, next, later, whole, was);
      base = made.base ∙ before.base;
      current = ap (λ m. patched m (at rest)) made.current
          ∙ sym (patched-append c.loop-key.self.current.content (at (w ∷ [])) (at rest))
          ∙ ap (patched c.loop-key.self.current.content)
          (sym (ap at keys ∙ changes_at-cons same old new w rest))
          ∙ before.current;
      among = λ q there. before.among q
          (subst (λ ws. Contains ws q) (sym keys) (Contains-later w rest q there));
      touched = λ q there. ⊎_elim
          (λ is. inl (before.among q (subst (λ ws. Contains ws q) (sym keys)
          (subst (Contains (w ∷ rest)) (sym is) (Contains-here w rest)))))
          (λ was. before.touched q was)
          (made.touched q there);
    }

pub returns : goal.returns
returns g c =
    let bytes = g.K.KeyTrait.bytes in
    let at = changes_at g.V.PartialEq.eq c.args.old.now.content c.args.new.now.content in
    let before = c.loop-key.invariant in
    let none = nothing-left _ (sym before.count ∙ c.in-None.ensures.steps.0) in
    let over = ap (λ items. effects c.loop-key.self.current.content (at (map bytes items))) none in
    let was = before.number in
    record {
      base = before.base;
      current = sym (ap (λ items. patched c.loop-key.self.current.content (at (map bytes items)))
          none) ∙ before.current;
      number = omega (arith, over, was);
      touched = before.touched;
    }
