use Rattle.std.proofs.Common.{Some, sym, subst}
use Rattle.std.specs.Option.{option_map}
use Rattle.rart_node.specs.Seen.{shape_of}
use Rattle.rart_versioned.specs.Roots.{IsSound}
use Rattle.rart_versioned.proofs.VersionKeyLemmas.{some-key}
use Rattle.rart_versioned.proofs.SoundLemmas.{no-key}
use Rattle.rart_versioned.proofs.counted.tree.VersionedAdaptiveRadixTree.is_empty.Goals as goal

pub returns-in-None : goal.returns-in-None
returns-in-None g c =
    rw (← c.self.view_is, c.in-None.is) (sym (no-key g.row.V.Denot c.self.inside.version))

pub returns-in-Some : goal.returns-in-Some
returns-in-Some g c =
    let most = g.K.KeyTrait.MAXIMUM_SIZE in
    let sound : IsSound most c.self.inside.version (Some c.in-Some.field-0.shape) =
    subst (λ z. IsSound most c.self.inside.version (option_map shape_of z)) c.in-Some.is
    c.self.invariant in
    rw (← c.self.view_is, c.in-Some.is)
    (sym (some-key c.in-Some.field-0.shape c.self.inside.version sound.0))
