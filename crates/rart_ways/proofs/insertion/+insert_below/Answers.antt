use Rattle.std.proofs.Common.{length, sym, subst, ◌∙◌, arith, rules}
use Rattle.rart_below.specs.Bytes.{IsAdmitted}
use Rattle.rart_node.proofs.FindLemmas.{branch, ordered, ascending}
use Rattle.rart_ways.proofs.InsertionStepLemmas.{matched, child-here, child-replaced, common-fits, rest-admitted, is-whole, inserts-split, inserts-here, inserts-down}
use Rattle.rart_ways.proofs.insertion.+insert_below.Goals as goal

-- ---- the key leaves the prefix

pub returns-then-common-len : goal.returns-then-common-len
returns-then-common-len g t c =
    let same = c.in_ok-node.ensures.shown in
    let is = matched c.args.key.now same c.prefix.ensures c.prefix_length_slice-common.ensures in
    let done = inserts-split c.args.at.now.shape c.args.key.now _ is
    c.split.result c.args.value c.in_ok-node.ensures.work same
    (c.open_mut.follows.holds c.split.new.node (search rules)) c.split.ensures.puts
    c.split.ensures.counted in record {
      puts = done.puts;
      counted = done.counted;
      entered = done.entered;
      made = done.made;
      made_below = done.made_below;
    }

-- ---- the whole prefix is matched

pub rest_of-rest-requires : goal.rest_of-rest-requires
rest_of-rest-requires g t c =
    common-fits c.args.at.now.shape c.args.key.now _
    (matched c.args.key.now c.in_ok-node.ensures.shown c.prefix.ensures
    c.prefix_length_slice-common.ensures)

pub seek_child_mut-requires : goal.seek_child_mut-requires
seek_child_mut-requires g t c =
    rw c.in_ok-node.ensures.shown (ascending _ (ordered _ c.requires.tree))

pub returns-in-None : goal.returns-in-None
returns-in-None g t c =
    let same = c.in_ok-node.ensures.shown in
    let s = c.args.at.now.shape in
    let key = c.args.key.now in
    let is = matched key same c.prefix.ensures c.prefix_length_slice-common.ensures in
    let done = inserts-here s key _ is c.finish.result c.args.value c.in_ok-node.ensures.work
    c.rest_of-rest.result.now c.rest_of-rest.ensures
    (is-whole s key _ is same c.prefix-2.ensures c.len.ensures c.if-common-len.false) same
    (c.open_mut.follows.holds c.finish.new.node (search rules)) c.finish.ensures.puts
    c.finish.ensures.counted in record {
      puts = done.puts;
      counted = done.counted;
      entered = done.entered;
      made = done.made;
      made_below = done.made_below;
    }

pub returns-in-None-seek_child_mut : goal.returns-in-None-seek_child_mut
returns-in-None-seek_child_mut g t c =
    let same = c.in_ok-node.ensures.shown in
    let s = c.args.at.now.shape in
    let key = c.args.key.now in
    let is = matched key same c.prefix.ensures c.prefix_length_slice-common.ensures in
    let done = inserts-here s key _ is c.finish-in-None-seek_child_mut.result c.args.value
    c.in_ok-node.ensures.work c.rest_of-rest.result.now c.rest_of-rest.ensures
    (is-whole s key _ is same c.prefix-2.ensures c.len.ensures c.if-common-len.false)
    (c.seek_child_mut.follows.holds-at-none ∙ same)
    (c.open_mut.follows.holds c.finish-in-None-seek_child_mut.new.node (search rules))
    c.finish-in-None-seek_child_mut.ensures.puts
    c.finish-in-None-seek_child_mut.ensures.counted in record {
      puts = done.puts;
      counted = done.counted;
      entered = done.entered;
      made = done.made;
      made_below = done.made_below;
    }

-- ---- the key goes on below a child

pub insert_below-requires : goal.insert_below-requires
insert_below-requires g t c κs within =
    let s = c.args.at.now.shape in
    let key = c.args.key.now in
    let same = c.in_ok-node.ensures.shown in
    let is = matched key same c.prefix.ensures c.prefix_length_slice-common.ensures in
    let below = branch s c.in-Some.byte _ (ordered s c.requires.tree)
    (child-here c.in-Some.byte same c.in-Some-seek_child_mut.ensures.value) in
    let lower = below.lower in (
      omega (arith, lower, c.decreases),
      (
        within.0,
        (
          within.1,
          (
            c.requires.clones,
            (
              subst (λ rest. IsAdmitted g.P.Partial.MAXIMUM_SIZE (length rest))
                  (sym c.rest_of-rest.ensures) (rest-admitted s key _ is _ c.requires.admitted),
              below.tree,
            ),
          ),
        ),
      ),
    )

pub returns-in-Some-seek_child_mut : goal.returns-in-Some-seek_child_mut
returns-in-Some-seek_child_mut g t c =
    let same = c.in_ok-node.ensures.shown in
    let s = c.args.at.now.shape in
    let key = c.args.key.now in
    let is = matched key same c.prefix.ensures c.prefix_length_slice-common.ensures in
    let inner = c.seek_child_mut.follows.lender c.insert_below.new.at in
    let done = inserts-down s key _ is c.insert_below.result c.args.value c.in_ok-node.ensures.work
    c.in-Some.byte _ _ _ c.rest_of-rest.result.now c.rest_of-rest.ensures c.requires.tree
    (is-whole s key _ is same c.prefix-2.ensures c.len.ensures c.if-common-len.false)
    (sym c.first.ensures.value ∙ sym c.in-Some.ensures)
    (child-here c.in-Some.byte same c.in-Some-seek_child_mut.ensures.value)
    (c.open_mut.follows.holds inner (search rules)
    ∙ child-replaced c.in-Some.byte
    c.insert_below.new.at.shape same
    c.in-Some-seek_child_mut.is
    (c.seek_child_mut.follows.holds c.insert_below.new.at))
    record {
      puts = c.insert_below.ensures.puts;
      counted = c.insert_below.ensures.counted;
      entered = c.insert_below.ensures.entered;
      made = c.insert_below.ensures.made;
      made_below = c.insert_below.ensures.made_below;
    } in record {
      puts = done.puts;
      counted = done.counted;
      entered = done.entered;
      made = done.made;
      made_below = done.made_below;
    }
