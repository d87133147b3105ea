use Rattle.std.proofs.Common.{◌+◌, drop, sym, subst}
use Rattle.rart_saved.specs.FamilyLoads.{HasVersionsWithin, LacksPlaces}
use Rattle.rart_saved.specs.Refusals.{limit_of}
use Rattle.rart_saved.proofs.LimitLemmas.{within_memory, within_passed}
use Rattle.rart_saved.proofs.LoadLemmas.{within-none}
use Rattle.rart_saved.proofs.FamilyReadLemmas.{IsPlaced, lacks-places, placed-next, placed-none, versions-next, versions-none}
use Rattle.rart_saved.proofs.families.loading.take_places.Goals as goal

pub placing-init : goal.placing-init
placing-init g c = record {
  placed = subst (λ list. IsPlaced g.V.SavedValue.written g.V.PartialEq.eq c.args.bytes.now
      c.args.at c.args.at 0 list c.new-latest.result.tree.content c.new-latest.result.keys)
      (sym c.new-versions.ensures.items)
      (placed-none g.V.SavedValue.written g.V.PartialEq.eq c.args.bytes.now c.args.at
      c.new-latest.result.tree.content c.new-latest.result.keys c.requires.inside
      c.new-latest.ensures.empty c.new-latest.ensures.counted);
  latest = within-none c.args.longest c.new-latest.result.tree c.new-latest.ensures.empty;
  versions = subst (HasVersionsWithin c.args.longest) (sym c.new-versions.ensures.items)
      (versions-none c.args.longest);
}

pub take_place-requires-clause-inside : goal.take_place-requires-clause-inside
take_place-requires-clause-inside g c = c.placing.invariant.placed.part.within

pub take_place-requires-clause-counted : goal.take_place-requires-clause-counted
take_place-requires-clause-counted g c = c.placing.invariant.placed.counted

pub take_place-requires-clause-room : goal.take_place-requires-clause-room
take_place-requires-clause-room g c = c.placing.invariant.placed.room

pub returns-in_err-version-clause-refused : goal.returns-in_err-version-clause-refused
returns-in_err-version-clause-refused g c =
    let error = c.in_err-version.field-0.0 in
    within_passed c.args.longest g.K.KeyTrait.MAXIMUM_SIZE _ error
    (λ most. LacksPlaces g.V.SavedValue.written g.V.PartialEq.eq most c.args.count
    (drop c.args.at c.args.bytes.now))
    c.from_residual.ensures.1
    (λ other. lacks-places g.V.SavedValue.written g.V.PartialEq.eq g.met.V.SavedValue.apart
    c.requires.decides (limit_of c.args.longest g.K.KeyTrait.MAXIMUM_SIZE error)
    c.args.bytes.now c.args.at c.placing.end c.placing._done c.args.count
    c.placing.versions.items c.placing.latest.tree.content c.placing.latest.keys
    c.placing.invariant.placed c.placing-test.true (c.in_err-version.ensures.refused other))

pub returns-in_err-push_one-clause-refused : goal.returns-in_err-push_one-clause-refused
returns-in_err-push_one-clause-refused g c =
    within_memory c.args.longest g.K.KeyTrait.MAXIMUM_SIZE _
    (λ most. LacksPlaces g.V.SavedValue.written g.V.PartialEq.eq most c.args.count
    (drop c.args.at c.args.bytes.now))
    c.from_residual-in_err-push_one.ensures.1

pub placing-preserved : goal.placing-preserved
placing-preserved g c = record {
  placed = subst (λ list. IsPlaced g.V.SavedValue.written g.V.PartialEq.eq c.args.bytes.now
      c.args.at c.in_ok-version.behind (c.placing._done + 1) list
      c.take_place.new.latest.tree.content c.take_place.new.latest.keys)
      (sym c.in_ok-push_one.ensures)
      (placed-next g.V.SavedValue.written g.V.PartialEq.eq c.args.bytes.now c.args.at
      c.placing.end c.in_ok-version.behind c.placing._done c.placing.versions.items
      c.placing.latest.tree.content c.take_place.new.latest.tree.content c.placing.latest.keys
      c.take_place.new.latest.keys c.in_ok-version.version c.placing.invariant.placed
      c.in_ok-version.ensures.read c.in_ok-version.ensures.latest
      c.in_ok-version.ensures.counted c.in_ok-version.ensures.room);
  latest = c.in_ok-version.ensures.within;
  versions = subst (HasVersionsWithin c.args.longest) (sym c.in_ok-push_one.ensures)
      (versions-next c.args.longest c.placing.versions.items c.in_ok-version.version
      c.placing.invariant.versions c.in_ok-version.ensures.short);
}
