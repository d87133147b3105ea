use Rattle.std.proofs.Common.{◌≡◌, ◌≤◌, map, take, length, vec_len}
use Rattle.std.specs.Vec.{vec_capacity}
use Rattle.rart_family.specs.Replies.{reply_value}
use Rattle.rart_family.specs.Runs.{Run}
use Rattle.rart_family.specs.Costs.{read_cost, read_least, change_cost, change_least, enter_least, ReadsBetween, ChangesBetween}
use Rattle.rart_family.proofs.family.Family.run.Given as goal

abbrev pub invariant-loop-command : goal.invariant-loop-command
invariant-loop-command g l =
    let bytes = g.K.KeyTrait.bytes in
    let old = l.fn.self in
    let done = take l.command-index l.commands in
    let replies = map (reply_value bytes) l.replies.items in
    record {
      run : Run bytes old done replies l.self;
      reads : ReadsBetween (read_least bytes old done replies)
          (read_cost bytes old done replies) l.fn.reads l.reads;
      changes : ChangesBetween (change_least bytes old done replies)
          (change_cost bytes old done replies)
          (enter_least bytes old done replies) l.fn.changes l.changes;
      count : vec_len l.replies ≡ l.command-index;
      room : length l.commands ≤ vec_capacity l.replies;
    }
