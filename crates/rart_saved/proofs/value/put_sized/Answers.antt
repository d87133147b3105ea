use Rattle.rart_saved.proofs.ValueLemmas.{sized-written}
use Rattle.rart_saved.proofs.value.put_sized.Goals as goal

pub returns : goal.returns
returns c =
    sized-written c.args.out.now.items c.put_number.new.out.items c.extend_from_slice.new.self.items
    c.args.string.now c.in_ok-put_number.ensures c.in_ok-extend_from_slice.ensures.items
