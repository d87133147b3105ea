use Rattle.std.proofs.Common.{◌≡◌, ◌+◌, take, map, ◌∷◌, [], ◌++◌, arith, sym, ap, ◌∙◌, rules}
use Rattle.std.proofs.lemmas.List.{take_more, map-append}
use Rattle.rart_family.specs.Replies.{reply_value}
use Rattle.rart_family.specs.Costs.{read_cost_of, read_least_of, change_cost_of, change_least_of, enter_least_of}
use Rattle.rart_family.proofs.RunLemmas.{run_more, along_more}
use Rattle.rart_family.proofs.family.Family.run.Goals as goal

pub loop-command-preserved : goal.loop-command-preserved
loop-command-preserved g c =
    let bytes = g.K.KeyTrait.bytes in
    let see = reply_value {V = g.row.V.Denot} bytes in
    let items = c.args.commands.now in
    let i = c.loop-command.command-index in
    let item = c.command-item.result in
    let old = c.args.self.now in
    let mid = c.loop-command.self in
    let done = take i items in
    let so_far = map see c.loop-command.replies.items in
    let reply = see c.reply-reply.result in
    let before = c.loop-command.invariant in
    let commands : take (i + 1) items ≡ done ++ item ∷ [] =
    take_more items i item c.loop-command-test.true
    ∙ ap (λ x. done ++ x ∷ []) (sym c.command-item.is) in
    let replies : map see c.push_reserved.new.self.items ≡ so_far ++ reply ∷ [] =
    ap (map see) {y = c.loop-command.replies.items ++ c.reply-reply.result ∷ []}
    c.push_reserved.ensures.items ∙ map-append see c.loop-command.replies.items
    (c.reply-reply.result ∷ []) in
    let more = λ (cost : _). along_more bytes cost old mid done so_far item reply before.run in
    let read_most = more (read_cost_of bytes) in
    let read_few = more (read_least_of bytes) in
    let change_most = more (change_cost_of bytes) in
    let change_few = more (change_least_of bytes) in
    let touch_few = more (enter_least_of bytes) in
    record {
      run =
          rw (commands, replies) (run_more bytes old mid _ done so_far item reply before.run
          c.reply-reply.ensures.step);
      reads = rw (commands, replies) (record {
        entered_at_least =
            rw read_few (omega (
              arith,
              before.reads.entered_at_least,
              c.reply-reply.ensures.reads.entered_at_least,
            ));
        entered_at_most =
            rw read_most (omega (
              arith,
              before.reads.entered_at_most,
              c.reply-reply.ensures.reads.entered_at_most,
            ));
        made_as_before = c.reply-reply.ensures.reads.made_as_before ∙ before.reads.made_as_before;
      });
      changes = rw (commands, replies) (record {
        made_at_least =
            rw change_few (omega (
              arith,
              before.changes.made_at_least,
              c.reply-reply.ensures.changes.made_at_least,
            ));
        made_at_most =
            rw change_most (omega (
              arith,
              before.changes.made_at_most,
              c.reply-reply.ensures.changes.made_at_most,
            ));
        entered_at_least =
            rw touch_few (omega (
              arith,
              before.changes.entered_at_least,
              c.reply-reply.ensures.changes.entered_at_least,
            ));
        entered_at_most =
            rw change_most (omega (
              arith,
              before.changes.entered_at_most,
              c.reply-reply.ensures.changes.entered_at_most,
            ));
      });
      count = search rules;
      room = search rules;
    }
