use Rattle.std.proofs.lemmas.List.Folds.{flat_map-map}
use Rattle.vtree_lines.proofs.reply.put_reply.Goals as goal

pub returns-in-Entries : goal.returns-in-Entries
returns-in-Entries g c =
    let put = rw c.deref.ensures.value at c.put_list.ensures in
    rw c.in-Entries.is (rw flat_map-map put)

pub returns-in-Pairs : goal.returns-in-Pairs
returns-in-Pairs g c =
    let put = rw c.deref-in-Pairs.ensures.value at c.put_list-in-Pairs.ensures in
    rw c.in-Pairs.is (rw flat_map-map put)

pub returns-in-ValuePairs : goal.returns-in-ValuePairs
returns-in-ValuePairs g c =
    let put = rw c.deref-in-ValuePairs.ensures.value at c.put_list-in-ValuePairs.ensures in
    rw c.in-ValuePairs.is put

pub returns-in-NoVersion : goal.returns-in-NoVersion
returns-in-NoVersion g c = rw c.in-NoVersion.is c.put-in-NoVersion.ensures
