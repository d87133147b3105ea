use Rattle.std.proofs.Common.{◌≡◌, length, rules}
use Rattle.rart_saved.proofs.HeadLemmas.{head-read, head-lacks}
use Rattle.rart_saved.proofs.head.take_head.Goals as goal

pub returns-then-shared-eq9-clause-read : goal.returns-then-shared-eq9-clause-read
returns-then-shared-eq9-clause-read c =
    let long : length c.args.head.now ≡ 9 = search rules in
    head-read c.args.head.now c.args.bytes.now c.prefix_length-shared.result long
    c.prefix_length-shared.ensures.common c.if-shared-eq9.true

pub returns-then-shared-bytes-clause-refused : goal.returns-then-shared-bytes-clause-refused
returns-then-shared-bytes-clause-refused c rest =
    let long : length c.args.head.now ≡ 9 = search rules in
    head-lacks c.args.head.now c.args.bytes.now rest c.prefix_length-shared.result long
    c.prefix_length-shared.ensures.common c.if-shared-eq9.false

pub returns-then-shared-eq7-clause-refused : goal.returns-then-shared-eq7-clause-refused
returns-then-shared-eq7-clause-refused c rest =
    let long : length c.args.head.now ≡ 9 = search rules in
    head-lacks c.args.head.now c.args.bytes.now rest c.prefix_length-shared.result long
    c.prefix_length-shared.ensures.common c.if-shared-eq9.false

pub returns-clause-refused : goal.returns-clause-refused
returns-clause-refused c rest =
    let long : length c.args.head.now ≡ 9 = search rules in
    head-lacks c.args.head.now c.args.bytes.now rest c.prefix_length-shared.result long
    c.prefix_length-shared.ensures.common c.if-shared-eq9.false
