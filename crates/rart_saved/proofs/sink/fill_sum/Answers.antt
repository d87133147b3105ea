use Rattle.std.proofs.Common.{◌≡◌, length, rules}
use Rattle.rart_saved.proofs.FillLemmas.{summed-if_ok}
use Rattle.rart_saved.proofs.sink.fill_sum.Goals as goal

pub returns : goal.returns
returns c =
    let long : length c.sum_before-sum.result ≡ 32 = search rules in
    summed-if_ok c.fill.result c.sum_before-sum.result c.args.room.now c.fill.new.room c.args.at
    long c.sum_before-sum.ensures c.fill.ensures
