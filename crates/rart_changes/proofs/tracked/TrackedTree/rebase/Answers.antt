use Rattle.std.proofs.Common.{◌+◌, sym, ap, subst, ◌∙◌, ⊎_elim, arith}
use Rattle.std.specs.Prelude.{Contains}
use Rattle.std.specs.FinMap as finite
use Rattle.rart_maps.specs.FoundLaws.{KeysAscend}
use Rattle.rart_maps.specs.ChangeLists.{changes, effects, patched}
use Rattle.rart_changes.specs.ChangeVisits.{changes_at}
use Rattle.rart_changes.specs.Tracking.{is_in}
use Rattle.rart_changes.proofs.ChangesAtLemmas.{changes-at-touched}
use Rattle.rart_changes.proofs.RebaseLemmas.{KeysAscend-of, keys-counted, listed-ascends}
use Rattle.rart_changes.proofs.TrackingLemmas.{listed-in, nothing-in}
use Rattle.rart_changes.proofs.tracked.TrackedTree.rebase.Goals as goal

pub replay-requires : goal.replay-requires
replay-requires g c =
    let number = ap (λ t. t.current.number) c.in_ok-next.ensures in
    let count = keys-counted g.K.KeyTrait.bytes c.in_ok-keys.keys.items
    c.self.inside.touched.content c.in_ok-keys.ensures.keys in
    let few = ap (λ t. finite.len t.touched) c.self.view_is in
    let room = c.requires.room in
    record {
      clones = c.requires.clones;
      room = omega (arith, number, count, few, room);
      ascending = KeysAscend-of g.K.KeyTrait.bytes c.in_ok-keys.keys.items
          (subst (KeysAscend (λ w. w)) (sym c.in_ok-keys.ensures.keys)
          (listed-ascends c.self.inside.touched.content));
    }

pub returns : goal.returns
returns g c =
    let same = g.V.PartialEq.eq in
    let inside = c.self.inside in
    let all = ap (changes_at same inside.base.content inside.current.content)
    c.in_ok-keys.ensures.keys
    ∙ changes-at-touched same g.met.V.Eq.laws.refl inside.base.content inside.current.content
    inside.touched.content c.self.invariant.tracked
    ∙ ap (λ t. changes same t.base.content t.current.content) c.self.view_is in
    record {
      base = ap (λ t. t.base) c.drop.view_is ∙ c.in_ok-replay.ensures.base
          ∙ ap (λ t. t.base) c.in_ok-next.ensures;
      current = ap (λ t. t.current.content) c.drop.view_is
          ∙ c.in_ok-replay.ensures.current
          ∙ (λ i. patched (c.in_ok-next.ensures i).current.content (all i));
      number = ap (λ t. t.current.number) c.drop.view_is
          ∙ c.in_ok-replay.ensures.number
          ∙ (λ i. (c.in_ok-next.ensures i).current.number
          + effects (c.in_ok-next.ensures i).current.content (all i));
      touched = λ q there. ⊎_elim
          (λ listed. ap (λ t. is_in t.touched q) (sym c.self.view_is)
          ∙ listed-in inside.touched.content q
          (subst (λ ws. Contains ws q) c.in_ok-keys.ensures.keys listed))
          (λ was. absurd (nothing-in q (ap (λ t. is_in t.touched q) (sym c.in_ok-next.ensures)
          ∙ was)))
          (c.in_ok-replay.ensures.touched q
          (ap (λ t. is_in t.touched q) (sym c.drop.view_is) ∙ there));
      refused = tt;
    }
