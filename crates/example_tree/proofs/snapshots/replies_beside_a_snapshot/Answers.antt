use Rattle.std.proofs.Common.{◌≡◌, refl, sym, ◌∙◌, []}
use Rattle.std.specs.Prelude.{map}
use Rattle.std.proofs.lemmas.Result.{IfOk-weaker}
use Rattle.std.proofs.lemmas.List.{length-map}
use Rattle.rart_family.specs.Replies.{reply_value}
use Rattle.rart_family.proofs.CallerLemmas.{one_each}
use Rattle.example_tree.proofs.SnapshotLemmas.{commands, run_of, snapshot_replies}
use Rattle.example_tree.proofs.snapshots.replies_beside_a_snapshot.Goals as goal

pub returns : goal.returns
returns g c =
    let bytes = g.K.KeyTrait.bytes in
    let see = reply_value {V = g.row.V.Denot} bytes in
    let a = c.in_ok-copy_of.field-0 in
    let b = c.in_ok-copy_of-2.field-0 in
    let d = c.in_ok-copy_of-3.field-0 in
    let told = commands bytes a b d c.args.first c.args.second in
    let given : c.deref.result.now ≡ told =
    rw (
      c.deref.ensures.value,
      c.in_ok-push-5.ensures.items,
      c.in_ok-push-4.ensures.items,
      c.in_ok-push-3.ensures.items,
      c.in_ok-push-2.ensures.items,
      c.in_ok-push.ensures.items,
      c.new-commands.ensures.items,
    ) refl in
    let same : bytes d ≡ bytes a = c.in_ok-copy_of-3.ensures ∙ sym c.in_ok-copy_of.ensures in
    record {
      one_each = IfOk-weaker c.run.result _ _
          (λ replies run. sym (length-map replies.items see)
          ∙ one_each g.row.K.Denot g.row.V.Denot bytes [] c.run.new.self told
          (map see replies.items)
          (run_of bytes _ _ _ told (map see replies.items) c.new-family.ensures given run))
          c.run.ensures.run;
      snapshot_keeps_value = IfOk-weaker c.run.result _ _
          (λ replies run. snapshot_replies bytes a b d c.args.first c.args.second same
          (map see replies.items) c.run.new.self
          (run_of bytes _ _ _ told (map see replies.items) c.new-family.ensures given run))
          c.run.ensures.run;
    }
