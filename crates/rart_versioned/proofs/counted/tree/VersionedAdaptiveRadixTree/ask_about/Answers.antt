use Rattle.std.proofs.Common.{◌≡◌, OnOk, false, refl, rules, true}
use Rattle.rart_versioned.specs.Retained.{after_reply}
use Rattle.rart_versioned.proofs.counted.tree.VersionedAdaptiveRadixTree.ask_about.Goals as goal

pub returns-in_err-remove_bytes : goal.returns-in_err-remove_bytes
returns-in_err-remove_bytes g c =
    let refused : OnOk c.from_residual.result (c.remove_bytes.new.self
    ≡ after_reply c.args.self.now (c.args.key.now, c.args.value.now) false) = search rules in
    (false, ((c.args.key, (c.args.value, tt)), c.if-not-keep.ensures, (refl, refl)), refused)

pub returns-in_ok-remove_bytes : goal.returns-in_ok-remove_bytes
returns-in_ok-remove_bytes g c = (
  false,
  ((c.args.key, (c.args.value, tt)), c.if-not-keep.ensures, (refl, refl)),
  c.in_ok-remove_bytes.ensures.removed,
)

pub returns-else-not-keep : goal.returns-else-not-keep
returns-else-not-keep g c =
    (true, ((c.args.key, (c.args.value, tt)), c.if-not-keep.ensures, (refl, refl)), refl)
