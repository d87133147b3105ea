use Rattle.std.proofs.Common.{refl, None, Some}
use Rattle.rart_below.proofs.CloneLemmas.{slots_tied, indexed-order}
use Rattle.rart_below.proofs.mapping.indexed.IndexedMappingClone.clone.Goals as goal

pub returns : goal.returns
returns g c =
    let Tied = g.C.Clone.is_clone in
    let slots =
    slots_tied Tied _ (elim [
      | None ↦ elim [ None ↦ λ h. refl | Some copy ↦ λ h. absurd h ]
      | Some child ↦ elim [ None ↦ λ h. absurd h | Some copy ↦ λ h. (copy, refl, h) ]
    ])
    c.args.self.now.children.slots c.in_ok-clone.field-0
    (c.in_ok-clone.ensures {u = tt}).cases.whole in
    record {
      cases = indexed-order Tied c.args.self.now.index _ _ c.args.self.now.used _ _ c.copy.ensures.same
          slots;
    }
