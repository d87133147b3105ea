use Rattle.std.proofs.Common.{◌++◌, take}
use Rattle.std.specs.List.{flat_map}
use Rattle.vtree_lines.specs.Writing.{Follows}
use Rattle.vtree_lines.proofs.reply.put_list.Given as goal

abbrev pub invariant-loop-member : goal.invariant-loop-member
invariant-loop-member g l =
    Follows (g.W.Write.contents l.fn.writer) (g.W.Write.contents l.writer)
    l.fn.page.bytes.items l.page.bytes.items
    (l.word ++ flat_map g.L.ReplyList.text (take l.member-index l.members))
