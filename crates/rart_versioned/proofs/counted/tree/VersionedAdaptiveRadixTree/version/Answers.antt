use Rattle.std.proofs.Common.{ap}
use Rattle.std.specs.Option.{option_map}
use Rattle.rart_node.specs.Seen.{shape_of}
use Rattle.rart_maps.specs.Versions.{Version}
use Rattle.rart_versioned.proofs.SoundLemmas.{few-in, lengths-in, bytes-in}
use Rattle.rart_versioned.proofs.counted.tree.VersionedAdaptiveRadixTree.version.Goals as goal

pub returns : goal.returns
returns g c =
    let most = g.K.KeyTrait.MAXIMUM_SIZE in
    let number = c.self.inside.version in
    let root = option_map shape_of c.self.inside.root in
    record {
      number = ap (λ (v : Version g.row.V.Denot). v.number) c.self.view_is;
      few = few-in most number root c.args.self.now c.self.invariant c.self.view_is;
      lengths = lengths-in most number root c.args.self.now c.self.invariant c.self.view_is;
      bytes = bytes-in most number root c.args.self.now c.self.invariant c.self.view_is;
    }
