use Rattle.std.proofs.Common.{◌∷◌, [], arith, length-append}
use Rattle.vtree_lines.proofs.SessionLemmas.{take_grown}
use Rattle.vtree_lines.proofs.session.Session.push.Goals as goal

pub returns-clause-reading : goal.returns-clause-reading
returns-clause-reading c = λ front h. record {
  kept = take_grown c.try_push.result 200 front _ c.args.self.now.line c.try_push.new.self
      (λ v. v.items) h.kept c.try_push.ensures.variant.0 c.try_push.ensures.ok
      c.try_push.ensures.err c.try_push.ensures.full;
  counted = omega (
    arith,
    h.counted,
    c.saturating_add-self.ensures,
    length-append front (c.args.byte ∷ []),
  );
}
