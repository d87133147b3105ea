use Rattle.std.proofs.Common.{◌≡◌, ◌+◌, length, refl, ap, ◌∙◌, arith}
use Rattle.rart_node.specs.Shape.{prefix_of}
use Rattle.rart_ways.proofs.LentPathLemmas.{step-first, step-long, step-next}
use Rattle.rart_ways.proofs.lending.path.next_byte.Goals as goal

pub overflow_add-passed : goal.overflow_add-passed
overflow_add-passed g c =
    let s = c.args.node.now.shape in
    let long = step-long s c.args.key.now c.args.passed.now c.requires.within c.requires.there in
    let of_prefix : c.len.result ≡ length (prefix_of s) =
    c.len.ensures ∙ ap length c.prefix.ensures in
    omega (arith, long, of_prefix)

pub bounds-key-passed : goal.bounds-key-passed
bounds-key-passed g c =
    let s = c.args.node.now.shape in
    let long = step-long s c.args.key.now c.args.passed.now c.requires.within c.requires.there in
    let of_prefix : c.len.result ≡ length (prefix_of s) =
    c.len.ensures ∙ ap length c.prefix.ensures in
    omega (arith, long, of_prefix)

pub returns : goal.returns
returns g c =
    let s = c.args.node.now.shape in
    let long = step-long s c.args.key.now c.args.passed.now c.requires.within c.requires.there in
    let of_prefix : c.len.result ≡ length (prefix_of s) =
    c.len.ensures ∙ ap length c.prefix.ensures in
    let end = ap (λ n. c.args.passed.now + n) of_prefix in
    record {
      next = step-next s c.args.key.now c.args.passed.now c.requires.within c.requires.there _ _
          end refl;
      first = step-first s c.args.key.now c.args.passed.now c.requires.within c.requires.there _ _
          end refl;
      within = omega (arith, long, of_prefix);
    }
