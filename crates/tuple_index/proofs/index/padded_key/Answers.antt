use Rattle.std.proofs.Common.{◌*◌, ◌<◌, ◌^◌, take, length, ap, subst, ◌∙◌}
use Rattle.std.specs.Prelude.{All}
use Rattle.std.proofs.lemmas.List.Elements.{All-take}
use Rattle.tuple_index.specs.Tuples.{bytes_of, columns_of}
use Rattle.tuple_index.proofs.IndexLemmas.{first-columns}
use Rattle.tuple_index.proofs.TupleKeyLemmas.{narrow-columns}
use Rattle.tuple_index.proofs.index.padded_key.Goals as goal

pub returns : goal.returns
returns c =
    let columns = c.args.columns.now in
    let t = c.with_columns.result in
    record {
      bytes = ap (take (4 * length columns)) c.key.ensures.bytes
          ∙ first-columns t (length columns) c.requires
          ∙ ap bytes_of c.with_columns.ensures;
      narrow = subst (All (λ n. n < 2 ^ 32)) c.with_columns.ensures
          (All-take (λ n. n < 2 ^ 32) (length columns) (columns_of t)
          (narrow-columns t c.key.ensures.narrow));
    }
