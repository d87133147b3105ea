use Rattle.std.proofs.Common.{sym, subst}
use Rattle.rart_walks.specs.BackFields.{open_back}
use Rattle.rart_walks.specs.BackFrames.{IsSpent, KeepsBack}
use Rattle.rart_walks.proofs.BackLemmas.{keeps-left}
use Rattle.rart_walks.proofs.walk_back.take_next.Goals as goal

pub leaving-preserved : goal.leaving-preserved
leaving-preserved g c =
    let takes = rw c.in-None.is at c.in-Some.ensures.takes in
    record {
      holds = c.leave.ensures.holds;
      keeps =
          keeps-left
          (subst (KeepsBack (open_back c.args.frames.now.items)) (sym takes.0)
          c.leaving.invariant.keeps)
          (subst IsSpent (sym takes.0) takes.1) c.leave.ensures.left;
    }
