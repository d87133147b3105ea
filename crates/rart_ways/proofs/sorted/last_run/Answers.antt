use Rattle.std.proofs.Common.{◌+◌, ◌-◌, ◌<◌, length, slice_index_or, arith, sym, ap, subst, ◌∙◌}
use Rattle.rart_ways.proofs.RunPlaceLemmas.{alike-last, alike-more, apart-before, long-at}
use Rattle.rart_ways.proofs.sorted.last_run.Goals as goal

pub at-byte-requires : goal.at-byte-requires
at-byte-requires g c =
    let items = c.args.pairs.now in
    let some = c.requires.some in
    let long =
    long-at g.K.KeyTrait.bytes (c.args.at + 1) c.args.first (length items - 1) items
    c.index-pairs-last.result c.requires.long (omega (arith, some)) (omega (arith, some))
    c.index-pairs-last.is in
    subst (λ pair. c.args.at < length (g.K.KeyTrait.bytes pair.0)) c.index-pairs-last.is
    (omega (arith, long))

pub going_back-init : goal.going_back-init
going_back-init g c =
    let items = c.args.pairs.now in
    let some = c.requires.some in
    let long =
    long-at g.K.KeyTrait.bytes (c.args.at + 1) c.args.first (length items - 1) items
    c.index-pairs-last.result c.requires.long (omega (arith, some)) (omega (arith, some))
    c.index-pairs-last.is in
    record {
      from = omega (arith, some);
      within = omega (arith, some);
      alike = alike-last g.K.KeyTrait.bytes c.args.at (length items - 1) c.at-byte.result items
          c.index-pairs-last.result (omega (arith, some)) c.index-pairs-last.is
          (omega (arith, long))
          (c.at-byte.ensures
          ∙ ap (λ pair. slice_index_or (g.K.KeyTrait.bytes pair.0) c.args.at 0)
          (sym c.index-pairs-last.is));
    }

pub at-requires : goal.at-requires
at-requires g c =
    let items = c.args.pairs.now in
    let start = c.going_back.start in
    let less = c.going_back-test.true in
    let within = c.going_back.invariant.within in
    let long =
    long-at g.K.KeyTrait.bytes (c.args.at + 1) c.args.first (start - 1) items
    c.index-pairs-start.result c.requires.long (omega (arith, less)) (omega (arith, less, within))
    c.index-pairs-start.is in
    subst (λ pair. c.args.at < length (g.K.KeyTrait.bytes pair.0)) c.index-pairs-start.is
    (omega (arith, long))

pub returns-then-at-byte-clause-apart : goal.returns-then-at-byte-clause-apart
returns-then-at-byte-clause-apart g c =
    let items = c.args.pairs.now in
    let start = c.going_back.start in
    let less = c.going_back-test.true in
    let within = c.going_back.invariant.within in
    let long =
    long-at g.K.KeyTrait.bytes (c.args.at + 1) c.args.first (start - 1) items
    c.index-pairs-start.result c.requires.long (omega (arith, less)) (omega (arith, less, within))
    c.index-pairs-start.is in
    apart-before g.K.KeyTrait.bytes c.args.first c.args.at start (start - 1) c.at-byte.result items
    c.index-pairs-start.result (omega (arith, less)) (omega (arith, less))
    (omega (arith, less, within)) c.index-pairs-start.is (omega (arith, long))
    (λ same. c.if-at-byte.true (c.at.ensures
    ∙ ap (λ pair. slice_index_or (g.K.KeyTrait.bytes pair.0) c.args.at 0)
    (sym c.index-pairs-start.is) ∙ same))

pub going_back-preserved : goal.going_back-preserved
going_back-preserved g c =
    let items = c.args.pairs.now in
    let start = c.going_back.start in
    let less = c.going_back-test.true in
    let within = c.going_back.invariant.within in
    let long =
    long-at g.K.KeyTrait.bytes (c.args.at + 1) c.args.first (start - 1) items
    c.index-pairs-start.result c.requires.long (omega (arith, less)) (omega (arith, less, within))
    c.index-pairs-start.is in
    record {
      from = omega (arith, less);
      within = omega (arith, less, within);
      alike = alike-more g.K.KeyTrait.bytes c.args.at start (start - 1) c.at-byte.result items
          c.index-pairs-start.result (omega (arith, less)) (omega (arith, within))
          c.index-pairs-start.is (omega (arith, long))
          (sym (c.at.ensures
          ∙ ap (λ pair. slice_index_or (g.K.KeyTrait.bytes pair.0) c.args.at 0)
          (sym c.index-pairs-start.is)) ∙ c.if-at-byte.false)
          c.going_back.invariant.alike;
    }
