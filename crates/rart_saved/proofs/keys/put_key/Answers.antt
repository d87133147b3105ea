use Rattle.std.proofs.Common.{◌++◌, ap, ◌∙◌, drop, arith}
use Rattle.std.proofs.lemmas.List.{length-drop, take_all}
use Rattle.rart_saved.proofs.SharedKeyLemmas.{key-written}
use Rattle.rart_saved.proofs.keys.put_key.Goals as goal

pub returns : goal.returns
returns c =
    key-written c.args.before.now c.args.key.now c.args.out.now.items _ c.put_number-2.new.out.items
    _ c.prefix_length-shared.result c.prefix_length-shared.ensures.common
    c.in_ok-put_number.ensures c.in_ok-put_number-2.ensures
    (c.in_ok-extend_from_slice.ensures.items
    ∙ ap (λ g. c.put_number-2.new.out.items ++ g)
    (take_all _ (drop c.prefix_length-shared.result c.args.key.now)
    (omega (arith, length-drop c.prefix_length-shared.result c.args.key.now))))
