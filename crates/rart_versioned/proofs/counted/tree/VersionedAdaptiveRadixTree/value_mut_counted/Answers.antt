use Rattle.std.proofs.Common.{◌≡◌, ◌≤◌, length, refl, sym, ap, subst, ◌∙◌, arith}
use Rattle.std.specs.Option.{option_map}
use Rattle.std.specs.FinMap as finite
use Rattle.std.proofs.lemmas.Result.{IfOk-weaker, IfErr-weaker}
use Rattle.rart_node.specs.Seen.{shape_of}
use Rattle.rart_versioned.specs.Roots.{map_of, found_in}
use Rattle.rart_maps.specs.Versions.{Version, HasRoom, value_at}
use Rattle.rart_versioned.specs.Missing.{Explains}
use Rattle.rart_node.proofs.CountingLemmas.{counts-most}
use Rattle.rart_versioned.proofs.LendingLemmas.{same-ends, at-ok, both-at-err, not-fallen}
use Rattle.rart_versioned.proofs.SoundLemmas.{map-below, sound-later, tree-in, value-in, has-root}
use Rattle.rart_versioned.proofs.counted.tree.VersionedAdaptiveRadixTree.value_mut_counted.Goals as goal

pub lend_in-requires : goal.lend_in-requires
lend_in-requires g c = record {
  clones = c.requires.clones;
  room = subst (λ (v : Version g.row.V.Denot). HasRoom v 1) (sym c.self.view_is) c.requires.room;
  tree = tree-in g.K.KeyTrait.MAXIMUM_SIZE c.self.inside.version
      (option_map shape_of c.self.inside.root)
      c.self.invariant;
}

pub invariant_of-self-lent : goal.invariant_of-self-lent
invariant_of-self-lent g c =
    let most = g.K.KeyTrait.MAXIMUM_SIZE in
    let n = c.self.inside.version in
    let later = c.lend_in.new.number in
    let grown : n ≤ later =
    not-fallen c.lend_in.result n later c.lend_in.ensures.raised c.lend_in.ensures.kept in
    λ result. (
      (λ value. sound-later most n later (option_map shape_of (c.lend_in.follows.lender value))
          ((c.lend_in.follows.holds value).1 most n c.self.invariant) grown),
      sound-later most n later (option_map shape_of c.lend_in.follows.lender-at-none)
          (c.lend_in.follows.holds-at-none.1 most n c.self.invariant) grown,
    )

pub returns : goal.returns
returns g c =
    let most = g.K.KeyTrait.MAXIMUM_SIZE in
    let w = g.K.KeyTrait.bytes c.args.key.now in
    let key = c.as_ref.result.now in
    let same : key ≡ w = c.as_ref.ensures in
    let long : length key ≡ length w = ap length same in
    let n = c.self.inside.version in
    let before = option_map shape_of c.self.inside.root in
    let here : value_at c.args.self.now w ≡ found_in before key =
    rw (← c.self.view_is) (value-in most n before n w c.self.invariant
    ∙ ap (found_in before) (sym same)) in (
      same-ends _ c.lend_in.result _ _ _ _
          (λ ok value.
          let after = option_map shape_of (c.lend_in.follows.lender value) in
          let holds = c.lend_in.follows.holds value in
          let content : map_of after ≡ finite.insert (map_of before) w value =
          map-below before after key value (tree-in most n before c.self.invariant)
          (tree-in most n after (holds.1 most n c.self.invariant)) (holds.0 ok)
          ∙ ap (λ z. finite.insert (map_of before) z value) same in
          rw (← c.self.view_is, content, at-ok c.lend_in.result ok c.lend_in.ensures.raised) refl)
          (both-at-err c.lend_in.result c.lend_in.follows.holds-at-none.0 c.lend_in.ensures.kept
          (λ same kept. rw (← c.self.view_is, same, kept) refl)),
      record {
        writes_back = tt;
        value = IfOk-weaker c.lend_in.result _ _ (λ value is. here ∙ is) c.lend_in.ensures.value;
        missing =
            IfErr-weaker c.lend_in.result _ _
            (λ missing explains. subst (Explains missing) (sym here) explains)
            c.lend_in.ensures.missing;
        counted = record {
          at_most =
              counts-most c.lend_in.ensures.counted (omega (arith, long)) (omega (arith, long));
          at_least =
              λ keyed. c.lend_in.ensures.entered
              (has-root shape_of c.self.inside.root n c.args.self.now c.self.view_is keyed);
        };
        absent_makes_none = λ absent. c.lend_in.ensures.absent_makes_none (sym here ∙ absent);
      },
    )
