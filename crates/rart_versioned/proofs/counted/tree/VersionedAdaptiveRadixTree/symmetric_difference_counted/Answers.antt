use Rattle.std.proofs.Common.{◌+◌, Some, length, arith, sym, ap, subst, ◌∙◌}
use Rattle.std.specs.Option.{option_map}
use Rattle.rart_maps.specs.Bounds.{apart_makes, difference_bound}
use Rattle.rart_maps.specs.MapParts.{apart, version_apart}
use Rattle.rart_maps.specs.Pairs.{common}
use Rattle.rart_maps.specs.Versions.{Version}
use Rattle.rart_maps.proofs.WorkedPairLemmas.{common_of_empty}
use Rattle.rart_node.specs.Counts.{CountsUpTo}
use Rattle.rart_node.specs.Seen.{shape_of}
use Rattle.rart_node.proofs.NodeMergeLemmas.{if-ok}
use Rattle.rart_algebra.specs.Picks as picks
use Rattle.rart_algebra.proofs.CommonCountLemmas.{whatever}
use Rattle.rart_versioned.specs.Roots.{map_of}
use Rattle.rart_versioned.proofs.MeetLemmas.{empty-content, root-content}
use Rattle.rart_versioned.proofs.SoundLemmas.{tree-in}
use Rattle.rart_versioned.proofs.VersionCommonLemmas.{common-roots}
use Rattle.rart_versioned.proofs.VersionIterationLemmas.{root-sound}
use Rattle.rart_versioned.proofs.VersionPartLemmas.{IsPickedIn, join-apart, picked-in, apart-none, none-apart, map-picked, sound-joined, apart-maps}
use Rattle.rart_versioned.proofs.VersionVisitLemmas.{none-keyed}
use Rattle.rart_versioned.proofs.counted.tree.VersionedAdaptiveRadixTree.symmetric_difference_counted.Goals as goal

pub returns-in_default-clause-apart : goal.returns-in_default-clause-apart
returns-in_default-clause-apart g c =
    let others = c.args.other.now.content in
    let empty = empty-content shape_of c.self.inside.version c.self.inside.root c.args.self.now
    c.self.view_is c.in_default.is in
    if-ok c.with_version.result
    (λ it same. same ∙ (λ i. record {
      content = (none-apart others ∙ ap (λ m. apart m others) (sym empty)) i;
      number = ap (λ (v : Version g.row.V.Denot). v.number) c.self.view_is i
          + ap (λ (v : Version g.row.V.Denot). v.number) c.other.view_is i;
    })) c.with_version.ensures

pub returns-in_default-root-clause-apart : goal.returns-in_default-root-clause-apart
returns-in_default-root-clause-apart g c =
    let mine = c.args.self.now.content in
    let empty = empty-content shape_of c.other.inside.version c.other.inside.root c.args.other.now
    c.other.view_is c.in_default-root.is in
    if-ok c.with_version-in_default-root.result
    (λ it same. same ∙ (λ i. record {
      content = (apart-none mine ∙ ap (apart mine) (sym empty)) i;
      number = ap (λ (v : Version g.row.V.Denot). v.number) c.self.view_is i
          + ap (λ (v : Version g.row.V.Denot). v.number) c.other.view_is i;
    })) c.with_version-in_default-root.ensures

pub returns-in_err-root-clause-counted : goal.returns-in_err-root-clause-counted
returns-in_err-root-clause-counted g c =
    let most = g.K.KeyTrait.MAXIMUM_SIZE in
    let left = c.in-Some.left.shape in
    let right = c.in-Some-root.right.shape in
    let one = root-sound shape_of most c.self.inside.version c.self.inside.root c.args.self.now
    c.self.invariant c.self.view_is c.in-Some.left c.in-Some.is in
    let other = root-sound shape_of most c.other.inside.version c.other.inside.root c.args.other.now
    c.other.invariant c.other.view_is c.in-Some-root.right c.in-Some-root.is in
    let content = root-content shape_of c.self.inside.version c.self.inside.root c.args.self.now
    c.self.view_is c.in-Some.left c.in-Some.is in
    let others = root-content shape_of c.other.inside.version c.other.inside.root c.args.other.now
    c.other.view_is c.in-Some-root.right c.in-Some-root.is in
    subst (λ m. CountsUpTo (difference_bound m c.args.other.now.content)
    (apart_makes m c.args.other.now.content) c.args.work.now c.symmetric_difference_below.new.work)
    (sym content)
    (subst (λ m. CountsUpTo (difference_bound (map_of (Some left)) m)
    (apart_makes (map_of (Some left)) m) c.args.work.now c.symmetric_difference_below.new.work)
    (sym others)
    (apart-maps left right one.0 other.0 c.args.work.now c.symmetric_difference_below.new.work
    c.symmetric_difference_below.ensures.counted))

pub returns-clause-counted : goal.returns-clause-counted
returns-clause-counted g c =
    let most = g.K.KeyTrait.MAXIMUM_SIZE in
    let left = c.in-Some.left.shape in
    let right = c.in-Some-root.right.shape in
    let one = root-sound shape_of most c.self.inside.version c.self.inside.root c.args.self.now
    c.self.invariant c.self.view_is c.in-Some.left c.in-Some.is in
    let other = root-sound shape_of most c.other.inside.version c.other.inside.root c.args.other.now
    c.other.invariant c.other.view_is c.in-Some-root.right c.in-Some-root.is in
    let content = root-content shape_of c.self.inside.version c.self.inside.root c.args.self.now
    c.self.view_is c.in-Some.left c.in-Some.is in
    let others = root-content shape_of c.other.inside.version c.other.inside.root c.args.other.now
    c.other.view_is c.in-Some-root.right c.in-Some-root.is in
    subst (λ m. CountsUpTo (difference_bound m c.args.other.now.content)
    (apart_makes m c.args.other.now.content) c.args.work.now c.symmetric_difference_below.new.work)
    (sym content)
    (subst (λ m. CountsUpTo (difference_bound (map_of (Some left)) m)
    (apart_makes (map_of (Some left)) m) c.args.work.now c.symmetric_difference_below.new.work)
    (sym others)
    (apart-maps left right one.0 other.0 c.args.work.now c.symmetric_difference_below.new.work
    c.symmetric_difference_below.ensures.counted))

pub invariant_of-result : goal.invariant_of-result
invariant_of-result g c =
    let most = g.K.KeyTrait.MAXIMUM_SIZE in
    let before = option_map shape_of c.self.inside.root in
    let beside = option_map shape_of c.other.inside.root in
    let after = option_map shape_of c.in_ok-root.root in
    let part : IsPickedIn picks.apart before beside after =
    subst (λ o. IsPickedIn picks.apart (option_map shape_of o) beside after) (sym c.in-Some.is)
    (subst (λ o. IsPickedIn picks.apart (Some c.in-Some.left.shape) (option_map shape_of o) after)
    (sym c.in-Some-root.is)
    (picked-in picks.apart c.in-Some.left.shape c.in-Some-root.right.shape after
    c.in_ok-root.ensures.picked)) in
    sound-joined picks.apart apart join-apart most c.self.inside.version c.other.inside.version
    before
    beside after c.self.invariant c.other.invariant part

pub returns-clause-apart : goal.returns-clause-apart
returns-clause-apart g c =
    let most = g.K.KeyTrait.MAXIMUM_SIZE in
    let before = option_map shape_of c.self.inside.root in
    let beside = option_map shape_of c.other.inside.root in
    let after = option_map shape_of c.in_ok-root.root in
    let part : IsPickedIn picks.apart before beside after =
    subst (λ o. IsPickedIn picks.apart (option_map shape_of o) beside after) (sym c.in-Some.is)
    (subst (λ o. IsPickedIn picks.apart (Some c.in-Some.left.shape) (option_map shape_of o) after)
    (sym c.in-Some-root.is)
    (picked-in picks.apart c.in-Some.left.shape c.in-Some-root.right.shape after
    c.in_ok-root.ensures.picked)) in
    ap (λ m. record { content = m; number = c.self.inside.version + c.other.inside.version })
    (map-picked picks.apart apart join-apart.answers before beside after
    (tree-in most c.self.inside.version before c.self.invariant)
    (tree-in most c.other.inside.version beside c.other.invariant) part)
    ∙ (λ i. version_apart (c.self.view_is i) (c.other.view_is i))

pub returns-in_default-clause-entered : goal.returns-in_default-clause-entered
returns-in_default-clause-entered g c keyed =
    absurd (none-keyed shape_of g.K.KeyTrait.MAXIMUM_SIZE c.self.inside.version
    c.self.inside.root c.args.self.now c.self.invariant c.self.view_is c.in_default.is keyed)

pub returns-in_default-root-clause-entered : goal.returns-in_default-root-clause-entered
returns-in_default-root-clause-entered g c keyed also =
    absurd (none-keyed shape_of g.K.KeyTrait.MAXIMUM_SIZE c.other.inside.version
    c.other.inside.root c.args.other.now c.other.invariant c.other.view_is c.in_default-root.is
    also)

pub returns-in_default-clause-each : goal.returns-in_default-clause-each
returns-in_default-clause-each g c =
    let others = c.args.other.now.content in
    let none = ap (λ m. length (common m others))
    (empty-content shape_of c.self.inside.version c.self.inside.root c.args.self.now c.self.view_is
    c.in_default.is)
    ∙ ap length (common_of_empty g.row.V.Denot others).0 in
    whatever c.with_version.result (omega (arith, none))

pub returns-in_default-root-clause-each : goal.returns-in_default-root-clause-each
returns-in_default-root-clause-each g c =
    let mine = c.args.self.now.content in
    let none = ap (λ m. length (common mine m))
    (empty-content shape_of c.other.inside.version c.other.inside.root c.args.other.now
    c.other.view_is c.in_default-root.is)
    ∙ ap length (common_of_empty g.row.V.Denot mine).1 in
    whatever c.with_version-in_default-root.result (omega (arith, none))

pub returns-clause-each : goal.returns-clause-each
returns-clause-each g c =
    let most = g.K.KeyTrait.MAXIMUM_SIZE in
    let left = c.in-Some.left.shape in
    let right = c.in-Some-root.right.shape in
    let one = root-sound shape_of most c.self.inside.version c.self.inside.root c.args.self.now
    c.self.invariant c.self.view_is c.in-Some.left c.in-Some.is in
    let other = root-sound shape_of most c.other.inside.version c.other.inside.root c.args.other.now
    c.other.invariant c.other.view_is c.in-Some-root.right c.in-Some-root.is in
    let content = root-content shape_of c.self.inside.version c.self.inside.root c.args.self.now
    c.self.view_is c.in-Some.left c.in-Some.is in
    let others = root-content shape_of c.other.inside.version c.other.inside.root c.args.other.now
    c.other.view_is c.in-Some-root.right c.in-Some-root.is in
    let same = (λ i. length (common (content i) (others i)))
    ∙ ap length (common-roots left right one.0 other.0) in
    let least = c.in_ok-root.ensures.least in
    omega (arith, same, least)
