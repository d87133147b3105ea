use Rattle.std.proofs.Common.{◌+◌, None, Some, length, sym, ap, subst, ◌∙◌, arith}
use Rattle.std.specs.Option.{option_map}
use Rattle.rart_below.specs.Bytes.{IsAdmitted}
use Rattle.rart_node.specs.Seen.{shape_of}
use Rattle.rart_node.proofs.CountingLemmas.{counts-most, path-most}
use Rattle.rart_versioned.specs.Roots.{IsSound}
use Rattle.rart_versioned.proofs.VersionMapLemmas.{get-found}
use Rattle.rart_versioned.proofs.SoundLemmas.{IsPutIn, leaf-put, root-put, sound-put, map-put, all-bytes}
use Rattle.rart_versioned.proofs.VersionIterationLemmas.{root-sound, root-value}
use Rattle.rart_versioned.proofs.VersionVisitLemmas.{none-keyed}
use Rattle.rart_versioned.proofs.counted.tree.VersionedAdaptiveRadixTree.put_in.Goals as goal

pub leaf_of-requires : goal.leaf_of-requires
leaf_of-requires g c =
    subst (λ most. IsAdmitted most (length c.args.key.now))
    (sym g.met.K.KeyTrait.maximum_of_partial)
    c.requires.admitted

pub insert_below-requires : goal.insert_below-requires
insert_below-requires g c =
    let most = g.K.KeyTrait.MAXIMUM_SIZE in
    let sound : IsSound most c.self.inside.version (Some c.in-Some.root.shape) =
    subst (λ z. IsSound g.K.KeyTrait.MAXIMUM_SIZE c.self.inside.version (option_map shape_of z))
    c.in-Some.is c.self.invariant in
    record {
      clones = c.requires.clones;
      admitted =
          subst (λ most. IsAdmitted most (length c.args.key.now))
          (sym g.met.K.KeyTrait.maximum_of_partial) c.requires.admitted;
      tree = sound.0;
    }

pub invariant_of-self-in-None : goal.invariant_of-self-in-None
invariant_of-self-in-None g c =
    let w = c.args.key.now in
    let n = c.self.inside.version in
    let raised = c.requires.raised in
    sound-put g.K.KeyTrait.MAXIMUM_SIZE n (n + c.args.more) None
    c.in_ok-leaf-in-None.leaf.shape w c.args.value tt (omega (arith, raised)) (
      (c.requires.admitted, omega arith),
      all-bytes c.args.key.now c.type_inv.key,
    )
    (subst (IsPutIn w c.args.value None) (sym c.in_ok-leaf-in-None.ensures.leaf)
    (leaf-put w c.args.value))

pub invariant_of-self-in-Some : goal.invariant_of-self-in-Some
invariant_of-self-in-Some g c =
    let w = c.args.key.now in
    let n = c.self.inside.version in
    let raised = c.requires.raised in
    let sound : IsSound g.K.KeyTrait.MAXIMUM_SIZE n (Some c.in-Some.root.shape) =
    subst (λ z. IsSound g.K.KeyTrait.MAXIMUM_SIZE n (option_map shape_of z)) c.in-Some.is
    c.self.invariant in
    sound-put g.K.KeyTrait.MAXIMUM_SIZE n (n + c.args.more) (Some c.in-Some.root.shape)
    c.insert_below.new.at.shape w c.args.value sound (omega (arith, raised)) (
      (c.requires.admitted, omega arith),
      all-bytes c.args.key.now c.type_inv.key,
    )
    (root-put w c.args.value c.in-Some.root.shape
    c.insert_below.new.at.shape c.in_ok-old-in-Some.ensures.puts.0)

pub returns-in_ok-leaf-in-None-clause-answer : goal.returns-in_ok-leaf-in-None-clause-answer
returns-in_ok-leaf-in-None-clause-answer g c =
    rw (← c.self.view_is, c.in-None.is) (sym (get-found None c.args.key.now tt))

pub returns-in_ok-leaf-in-None-clause-entered : goal.returns-in_ok-leaf-in-None-clause-entered
returns-in_ok-leaf-in-None-clause-entered g c keyed =
    absurd (none-keyed shape_of g.K.KeyTrait.MAXIMUM_SIZE c.self.inside.version
    c.self.inside.root c.args.self.now c.self.invariant c.self.view_is c.in-None.is keyed)

pub returns-in_ok-leaf-in-None-clause-made : goal.returns-in_ok-leaf-in-None-clause-made
returns-in_ok-leaf-in-None-clause-made g c =
    let made = c.in_ok-leaf-in-None.ensures.made in
    omega (arith, made)

pub returns-in_err-leaf-in-None-clause-entered : goal.returns-in_err-leaf-in-None-clause-entered
returns-in_err-leaf-in-None-clause-entered g c keyed =
    absurd (none-keyed shape_of g.K.KeyTrait.MAXIMUM_SIZE c.self.inside.version
    c.self.inside.root c.args.self.now c.self.invariant c.self.view_is c.in-None.is keyed)

pub returns-in_err-old-in-Some-clause-counted : goal.returns-in_err-old-in-Some-clause-counted
returns-in_err-old-in-Some-clause-counted g c =
    counts-most c.insert_below.ensures.counted
    (path-most c.in-Some.root.shape c.args.key.now) (omega arith)

pub returns-in_ok-old-in-Some-clause-answer : goal.returns-in_ok-old-in-Some-clause-answer
returns-in_ok-old-in-Some-clause-answer g c =
    c.in_ok-old-in-Some.ensures.puts.1
    ∙ root-value shape_of g.K.KeyTrait.MAXIMUM_SIZE c.self.inside.version c.self.inside.root
    c.args.self.now c.self.invariant c.self.view_is c.in-Some.root c.in-Some.is c.args.key.now

pub returns-in_ok-old-in-Some-clause-set : goal.returns-in_ok-old-in-Some-clause-set
returns-in_ok-old-in-Some-clause-set g c =
    let w = c.args.key.now in
    let n = c.self.inside.version in
    let sound = root-sound shape_of g.K.KeyTrait.MAXIMUM_SIZE n c.self.inside.root c.args.self.now
    c.self.invariant c.self.view_is c.in-Some.root c.in-Some.is in
    rw (← c.self.view_is, c.in-Some.is)
    (ap (λ m. record { content = m; number = n + c.args.more })
    (map-put (Some c.in-Some.root.shape) c.insert_below.new.at.shape w c.args.value sound.0
    (root-put w c.args.value c.in-Some.root.shape
    c.insert_below.new.at.shape c.in_ok-old-in-Some.ensures.puts.0)))

pub returns-in_ok-old-in-Some-clause-counted : goal.returns-in_ok-old-in-Some-clause-counted
returns-in_ok-old-in-Some-clause-counted g c =
    counts-most c.insert_below.ensures.counted
    (path-most c.in-Some.root.shape c.args.key.now) (omega arith)
