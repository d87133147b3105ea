use Rattle.std.proofs.Common.{◌≡◌, Option, Some, None, is_some, refl, ap, ◌∙◌}
use Rattle.std.specs.Borrow.{Bor}
use Rattle.std.specs.Option.{option_copied}
use Rattle.tuple_index.proofs.IndexLemmas.{there-shown}
use Rattle.tuple_index.proofs.index.TupleIndex.has.Goals as goal

copied-some : {A : Type 0} (o : Option (Bor A)) → is_some o ≡ is_some (option_copied o)
copied-some None = refl
copied-some (Some x) = refl

pub returns : goal.returns
returns c = record {
  answered = refl;
  there = c.is_some.ensures
      ∙ copied-some c.get.result
      ∙ ap is_some c.get.ensures
      ∙ there-shown c.self.inside.tree c.self.invariant c.args.self.now c.self.view_is _
      c.args.tuple c.key.ensures.narrow (c.in_ok-key.ensures.bytes ∙ c.key.ensures.bytes);
}
