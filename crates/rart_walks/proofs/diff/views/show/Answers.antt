use Rattle.std.proofs.Common.{refl, ◌∙◌, append-nil}
use Rattle.rart_walks.proofs.diff.views.show.Goals as goal

pub returns : goal.returns
returns g c = (_, c.f.ensures, (c.new.ensures ∙ append-nil c.args.key.now, (refl, refl)))
