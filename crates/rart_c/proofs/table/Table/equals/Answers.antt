use Rattle.std.proofs.Common.{◌≡◌, ◌↔◌, IsTrue, subst}
use Rattle.std.specs.Prelude.{IfOk}
use Rattle.rart_c.proofs.EqualityLemmas.{same-if-told}
use Rattle.rart_c.proofs.table.Table.equals.Goals as goal

pub returns : goal.returns
returns g c =
    subst (λ one. IfOk c.equals.result (λ equal. IsTrue equal
    ↔ (one.version.content ≡ c.args.other.now.version.content))) c.self.view_is
    (subst (λ other. IfOk c.equals.result (λ equal. IsTrue equal
    ↔ (c.self.inside.tree.content ≡ other.version.content))) c.other.view_is
    (same-if-told _ c.requires c.self.inside.tree.content c.other.inside.tree.content
    c.equals.result c.equals.ensures))
