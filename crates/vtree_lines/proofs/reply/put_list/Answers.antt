use Rattle.vtree_lines.proofs.PutLemmas.{list_end, later_failed, begins_list}
use Rattle.vtree_lines.proofs.reply.put_list.Goals as goal

pub returns-in_err-put-2 : goal.returns-in_err-put-2
returns-in_err-put-2 g c =
    let failed = c.in_err-put-2.ensures in search (later_failed, begins_list)

pub returns : goal.returns
returns g c = search list_end
