use Rattle.std.proofs.Common.{◌≡◌, None, Some, IsSome, is_some, cond, refl, sym, ap, subst, ◌∙◌, arith}
use Rattle.std.specs.Option.{option_map}
use Rattle.std.specs.Result.{is_ok, OnErr}
use Rattle.std.specs.Str.{bytes_eq}
use Rattle.std.proofs.lemmas.Bool.{false≢true}
use Rattle.rart_node.specs.Seen.{shape_of}
use Rattle.rart_node.specs.Trees.{found, IsPut}
use Rattle.rart_versioned.specs.Roots.{found_in, IsSound}
use Rattle.rart_node.proofs.CountingLemmas.{counts-then, counts-most, made-none, entered-then, path-most}
use Rattle.rart_versioned.proofs.SoundLemmas.{sound-again}
use Rattle.rart_ways.proofs.LentPathLemmas.{there-arrived}
use Rattle.rart_versioned.proofs.counted.get_mut.lend_in.Goals as goal

pub returns-in-None-path_length : goal.returns-in-None-path_length
returns-in-None-path_length g c =
    let w = c.args.key.now in
    let s = c.in-Some.at.now.shape in
    let root-is : Some s ≡ option_map shape_of c.args.root.now =
    ap (option_map shape_of) c.in-Some.ensures.value in
    let few = path-most s w in (
      (
        refl,
        (λ value. ((λ no. absurd (false≢true no)), (λ most count sound. sound))),
        (root-is, (λ most count sound. subst (IsSound most count) (sym root-is) sound)),
      ),
      record {
        writes_back = tt;
        value = tt;
        missing =
            subst (λ o. found_in o w ≡ None) root-is (c.in-None-path_length.ensures.absent);
        raised = tt;
        kept = refl;
        counted =
            counts-most c.in-None-path_length.ensures.counted (omega (arith, few)) (omega arith);
        entered = λ rooted. c.in-None-path_length.ensures.entered;
        absent_makes_none = λ absent. made-none c.in-None-path_length.ensures.counted;
      },
    )

pub returns-in-Ok : goal.returns-in-Ok
returns-in-Ok g c =
    let w = c.args.key.now in
    let s = c.in-Some.at.now.shape in
    let root-is : Some s ≡ option_map shape_of c.args.root.now =
    ap (option_map shape_of) c.in-Some.ensures.value in
    let there : IsSome (found s w) = subst IsSome (sym c.in-Ok.ensures.value) refl in
    let put : (value : g.row.V.Denot)
    → IsPut w value s (shape_of (c.lend_below.follows.lender value)) =
    λ value. c.lend_below.follows.holds value (ap is_ok c.in-Ok.is) in
    let most-path = path-most s w in
    let few = c.in-Some-path_length.ensures.few in (
      (
        refl,
        (λ value. (
          (λ ok q. subst (λ o. found (shape_of (c.lend_below.follows.lender value)) q
              ≡ cond (bytes_eq q w) (Some value) (found_in o q)) root-is ((put value).1 q)),
          (λ most count sound. sound-again most count s
              (shape_of (c.lend_below.follows.lender value)) w value there (put value)
              (subst (IsSound most count) (sym root-is) sound)),
        )),
        (tt, (λ most count sound. sound)),
      ),
      record {
        writes_back = tt;
        value = subst (λ o. found_in o w ≡ Some c.in-Ok.value.now) root-is c.in-Ok.ensures.value;
        missing = tt;
        raised = refl;
        kept = tt;
        counted =
            counts-then c.in-Some-path_length.ensures.counted c.in-Ok.ensures.counted
            (omega (arith, most-path, few)) (omega (arith, most-path, few));
        entered =
            λ rooted. entered-then c.args.work.now c.in-Some-path_length.ensures.entered
            c.in-Ok.ensures.counted;
        absent_makes_none =
            λ absent. absurd (false≢true (ap is_some (sym absent)
            ∙ subst (λ o. IsSome (found_in o w)) root-is there));
      },
    )

pub returns-in-Err : goal.returns-in-Err
returns-in-Err g c =
    let w = c.args.key.now in
    let s = c.in-Some.at.now.shape in
    let after = c.lend_below.follows.lender-at-none.shape in
    let root-is : Some s ≡ option_map shape_of c.args.root.now =
    ap (option_map shape_of) c.in-Some.ensures.value in
    let kept : after ≡ s =
    subst (λ r. OnErr r (after ≡ s)) c.in-Err.is c.lend_below.follows.holds-at-none in
    let same : Some after ≡ option_map shape_of c.args.root.now = ap Some kept ∙ root-is in
    let there =
    there-arrived c.in-Some-path_length.steps w s c.in-Some-path_length.ensures.arrives in
    let most-path = path-most s w in
    let few = c.in-Some-path_length.ensures.few in (
      (
        refl,
        (λ value. ((λ no. absurd (false≢true no)), (λ most count sound. sound))),
        (same, (λ most count sound. subst (IsSound most count) (sym same) sound)),
      ),
      record {
        writes_back = tt;
        value = tt;
        missing = subst (λ o. IsSome (found_in o w)) root-is there;
        raised = tt;
        kept = refl;
        counted =
            counts-then c.in-Some-path_length.ensures.counted c.in-Err.ensures.counted
            (omega (arith, most-path, few)) (omega (arith, most-path, few));
        entered =
            λ rooted. entered-then c.args.work.now c.in-Some-path_length.ensures.entered
            c.in-Err.ensures.counted;
        absent_makes_none =
            λ absent. absurd (false≢true (ap is_some (sym absent)
            ∙ subst (λ o. IsSome (found_in o w)) root-is there));
      },
    )
