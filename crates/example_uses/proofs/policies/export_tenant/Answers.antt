use Rattle.std.proofs.Common.{◌≡◌, ◌∙◌, ℕ, List, Result, Ok, Err, None, ap, cond}
use Rattle.std.specs.Prelude.{IfOk}
use Rattle.rart_below.specs.Bytes.{begins}
use Rattle.rart_maps.proofs.CallerLemmas.{value_at-under_prefix}
use Rattle.rart_maps.specs.Prefixes.{under_prefix}
use Rattle.rart_maps.specs.Versions.{Version, value_at}
use Rattle.example_uses.proofs.policies.export_tenant.Goals as goal

-- what each rule has in a part
of-part : {E : Type 0} (v : Version ℕ) (p : List ℕ) (told : Result (Version ℕ) E)
    → IfOk told (λ part. part ≡ under_prefix v p 1)
    → IfOk told (λ part. (rule : List ℕ)
    → value_at part rule ≡ cond (begins p rule) (value_at v rule) None)
of-part v p (Ok part) kept =
    λ rule. ap (λ w. value_at w rule) kept ∙ value_at-under_prefix v p 1 rule
of-part v p (Err refused) kept = tt

pub returns : goal.returns
returns c = record {
  rules = of-part c.args.policies.now c.args.tenant.now c.prefix_snapshot.result
      c.prefix_snapshot.ensures.kept;
}
