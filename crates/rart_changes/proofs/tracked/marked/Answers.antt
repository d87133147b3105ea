use Rattle.std.proofs.Common.{sym, ap, ◌∙◌, rules, is_some}
use Rattle.std.specs.FinMap as finite
use Rattle.rart_maps.specs.Versions.{Version, value_at}
use Rattle.rart_changes.proofs.TrackingLemmas.{copied-some, one-more, with-again}
use Rattle.rart_changes.proofs.tracked.marked.Goals as goal
use Rattle.rart_changes.proofs.tracked.marked.Goals.{then-is_none+in_ok-insert_and_replace_bytes_counted, else-is_none}

pub returns-clause-marked : goal.returns-clause-marked
returns-clause-marked g c =
    let w = c.args.key.now in
    let counted = ap (λ (v : Version (Unit {0})). v.number) c.in_ok-marked.ensures
    ∙ c.requires.markable.counted
    ∙ ap (λ (v : Version (Unit {0})). finite.len v.content) (sym c.in_ok-marked.ensures) in
    record {
      keys = elim c.if-is_none.branch [
        | then-is_none+in_ok-insert_and_replace_bytes_counted branch ↦ search rules
        | else-is_none branch ↦
            ap (λ (v : Version (Unit {0})). v.content) (branch.marked-is ∙ c.in_ok-marked.ensures)
            ∙ sym (with-again c.args.touched.now.content w
            (ap (λ (v : Version (Unit {0})). is_some (value_at v w)) (sym c.in_ok-marked.ensures)
            ∙ sym (ap is_some c.get_bytes_counted.ensures.value)
            ∙ sym (copied-some c.get_bytes_counted.result)
            ∙ branch.if-is_none.ensures))
      ];
      counted = elim c.if-is_none.branch [
        | then-is_none+in_ok-insert_and_replace_bytes_counted branch ↦
            one-more c.in_ok-marked.marked c.if-is_none.marked w counted
            (sym (ap is_some c.get_bytes_counted.ensures.value)
            ∙ sym (copied-some c.get_bytes_counted.result)
            ∙ branch.if-is_none.ensures)
            (branch.marked-is ∙ branch.in_ok-insert_and_replace_bytes_counted.ensures.set)
        | else-is_none branch ↦
            ap (λ (v : Version (Unit {0})). v.number) branch.marked-is ∙ counted
            ∙ ap (λ (v : Version (Unit {0})). finite.len v.content) (sym branch.marked-is)
      ];
    }
