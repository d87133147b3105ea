use Rattle.std.proofs.Common.{ℕ, List, sym, ap, subst, ◌∙◌}
use Rattle.std.specs.declared.ops.Bound.{Bound}
use Rattle.std.specs.Range.Bound.{bound_map}
use Rattle.rart_maps.specs.Pairs.{within}
use Rattle.rart_maps.specs.Visits.{ByView, Visitable}
use Rattle.rart_versioned.proofs.counted.tree.VersionedAdaptiveRadixTree.for_each_range_view_counted.Goals as goal

pub visit_range-requires : goal.visit_range-requires
visit_range-requires g c =
    let m = c.args.self.now.content in
    let high = bound_map g.K.KeyTrait.bytes c.args.range.1 in
    let same = ap (λ (low : Bound (List ℕ)). within m low high) (sym c.bytes_of.ensures)
    ∙ ap (within m (bound_map (λ bytes. bytes.now) c.bytes_of.result)) (sym c.bytes_of-2.ensures) in
    record { visitable = subst (Visitable g.F.FnMut ByView c.args.f.now) same c.requires.visitable }

pub returns-clause-visits : goal.returns-clause-visits
returns-clause-visits g c =
    rw (c.bytes_of.ensures, c.bytes_of-2.ensures) at c.visit_range.ensures.visits

pub returns-clause-counted : goal.returns-clause-counted
returns-clause-counted g c =
    rw (c.bytes_of.ensures, c.bytes_of-2.ensures) at c.visit_range.ensures.counted

pub returns-clause-each : goal.returns-clause-each
returns-clause-each g c =
    rw (c.bytes_of.ensures, c.bytes_of-2.ensures) at c.visit_range.ensures.each
