use Rattle.std.proofs.Common.{refl, None, Some}
use Rattle.rart_below.proofs.CloneLemmas.{slots_tied, keyed-order}
use Rattle.rart_below.proofs.mapping.sorted.SortedKeyedMappingClone.clone.Goals as goal

pub returns : goal.returns
returns g c =
    let Tied = g.C.Clone.is_clone in
    let slots =
    slots_tied Tied _ (elim [
      | None ↦ elim [ None ↦ λ h. refl | Some copy ↦ λ h. absurd h ]
      | Some child ↦ elim [ None ↦ λ h. absurd h | Some copy ↦ λ h. (copy, refl, h) ]
    ])
    c.args.self.now.children.slots c.in_ok-slots.slots
    (c.in_ok-slots.ensures {u = tt}).cases.whole in
    record { cases = keyed-order Tied g.row.WIDTH _ _ _ _ c.copy.ensures slots }
