use Rattle.std.proofs.Common.{Bool, refl, sym, ap, subst, ◌∙◌}
use Rattle.std.specs.Prelude.{OnOk, Option}
use Rattle.std.specs.Option.{option_copied}
use Rattle.rart_maps.specs.Versions.{value_at}
use Rattle.rart_maps.specs.Merges.{in_conflict}
use Rattle.rart_changes.specs.Merging.{ByLentConflict}
use Rattle.rart_changes.specs.Setting.{IsSetTo}
use Rattle.rart_changes.specs.Settling.{Settles}
use Rattle.rart_changes.proofs.merging.merges.settle_in.Goals as goal

pub returns-then-are_in_conflict : goal.returns-then-are_in_conflict
returns-then-are_in_conflict g c =
    let Shows = ByLentConflict {V = g.row.V.Denot} g.K.KeyTrait.bytes in
    let w = g.K.KeyTrait.bytes c.args.key in
    let before = option_copied c.args.before in
    let our = value_at c.args.ours.now w in
    let their = option_copied c.args.their in
    let looked_up = option_copied c.get_k-our.result in
    let there = ap (λ x. in_conflict g.V.PartialEq.eq before x their)
    (sym {b = our} c.get_k-our.ensures)
    ∙ sym {b = in_conflict g.V.PartialEq.eq before looked_up their} c.if-are_in_conflict.ensures in
    subst (λ (t : Bool). (answer : Option g.row.V.Denot)
    × Settles g.F.FnMut Shows t c.args.f.now (w, before, our, their) answer c.f-answer.new.self
    × OnOk c.put.result (IsSetTo c.args.next.now w answer c.put.new.tree)) (sym there)
    (_, (_, c.f-answer.ensures, (refl, refl, c.get_k-our.ensures, refl)), c.put.ensures)
