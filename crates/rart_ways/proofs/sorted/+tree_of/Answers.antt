use Rattle.std.proofs.Common.{◌≡◌, ℕ, ◌+◌, ◌≤◌, ◌<◌, length, drop, take, None, arith, refl, sym, ap, subst, ◌∙◌}
use Rattle.std.specs.Prelude.{slice_get}
use Rattle.std.proofs.Math.Nat.{le_refl}
use Rattle.std.proofs.lemmas.Result.{IfOk-weaker}
use Rattle.rart_below.specs.Children.{child_at}
use Rattle.rart_below.proofs.AscendingLemmas.{child_at-below}
use Rattle.rart_node.specs.Shape.{bare, children_of, entries_of, node, prefix_of, width_for}
use Rattle.rart_node.specs.Trees.{BeginsWith, IsTree, pairs_of}
use Rattle.rart_ways.specs.Runs.{AllBegin, AllLong, EndsBesides, run_from, runs, shared}
use Rattle.rart_ways.proofs.AscendingRunLemmas.{long-under, under-none}
use Rattle.rart_ways.proofs.BuildingLemmas.{Building, building-more, run-sorted, taken-run}
use Rattle.rart_ways.proofs.NodeRunLemmas.{begun, building-none, done-none, done-some, falls, first-most, front-at, long-child, pair-at, run-first}
use Rattle.rart_ways.proofs.sorted.+tree_of.Goals as goal

pub count_runs-count-requires-clause-within : goal.count_runs-count-requires-clause-within
count_runs-count-requires-clause-within g t c =
    let bytes = g.K.KeyTrait.bytes in
    let whole = c.args.pairs.now.items in
    let first = c.first_below-first.result in
    let p = pair-at bytes c.args.from whole c.requires.some in
    let s =
    begun bytes c.args.from c.args.depth c.in_ok-prefix.at first whole p.0 c.requires.some
    c.requires.long c.requires.ascending
    (c.in_ok-prefix.ensures.at
    ∙ ap (λ xs. c.args.depth + length (shared (run_from bytes c.args.from c.args.depth xs)))
    c.as_slice.ensures.value) p.2
    (c.first_below-first.ensures p.0
    (ap (λ xs. slice_get xs c.args.from) c.as_slice-2.ensures.value ∙ p.1)) in
    subst (λ xs. first ≤ length xs) (sym c.as_slice-3.ensures.value) s.within

pub count_runs-count-requires-clause-long : goal.count_runs-count-requires-clause-long
count_runs-count-requires-clause-long g t c =
    let bytes = g.K.KeyTrait.bytes in
    let whole = c.args.pairs.now.items in
    let at = c.in_ok-prefix.at in
    let first = c.first_below-first.result in
    let p = pair-at bytes c.args.from whole c.requires.some in
    let s =
    begun bytes c.args.from c.args.depth at first whole p.0 c.requires.some
    c.requires.long c.requires.ascending
    (c.in_ok-prefix.ensures.at
    ∙ ap (λ xs. c.args.depth + length (shared (run_from bytes c.args.from c.args.depth xs)))
    c.as_slice.ensures.value) p.2
    (c.first_below-first.ensures p.0
    (ap (λ xs. slice_get xs c.args.from) c.as_slice-2.ensures.value ∙ p.1)) in
    subst (λ xs. AllLong bytes (at + 1) (drop first xs)) (sym c.as_slice-3.ensures.value)
    (long-under bytes bare first at whole (under-none (run_from bytes first at whole) s.some))

pub building-init : goal.building-init
building-init g t c =
    let bytes = g.K.KeyTrait.bytes in
    let whole = c.args.pairs.now.items in
    let at = c.in_ok-prefix.at in
    let first = c.first_below-first.result in
    let count = c.count_runs-count.result in
    let p = pair-at bytes c.args.from whole c.requires.some in
    let s =
    begun bytes c.args.from c.args.depth at first whole p.0 c.requires.some
    c.requires.long c.requires.ascending
    (c.in_ok-prefix.ensures.at
    ∙ ap (λ xs. c.args.depth + length (shared (run_from bytes c.args.from c.args.depth xs)))
    c.as_slice.ensures.value) p.2
    (c.first_below-first.ensures p.0
    (ap (λ xs. slice_get xs c.args.from) c.as_slice-2.ensures.value ∙ p.1)) in (
      building-none bytes c.args.from c.args.depth at first count whole p.0
          (shared (run_from bytes c.args.from c.args.depth whole)) c.args.work.now.made
          c.in_ok-node.node.shape s
          (c.count_runs-count.ensures
          ∙ ap (λ xs. runs (run_from bytes first at xs)) c.as_slice-3.ensures.value)
          (c.in_ok-node.ensures
          ∙ ap (λ q. node q None (width_for count) bare)
          (c.in_ok-prefix.ensures.prefix
          ∙ ap (λ xs. shared (run_from bytes c.args.from c.args.depth xs)) c.as_slice.ensures.value)),
      refl,
    )

pub last_run-start-requires-clause-long : goal.last_run-start-requires-clause-long
last_run-start-requires-clause-long g t c =
    let bytes = g.K.KeyTrait.bytes in
    let at = c.in_ok-prefix.at in
    let first = c.first_below-first.result in
    subst (λ xs. AllLong bytes (at + 1) (drop first xs)) (sym c.as_slice-in-building.ensures.value)
    (long-under bytes c.building.invariant.0.forest first at c.building.pairs.items
    c.building.invariant.0.under)

pub tree_of-requires : goal.tree_of-requires
tree_of-requires g t c κs within =
    let bytes = g.K.KeyTrait.bytes in
    let whole = c.args.pairs.now.items in
    let items = c.building.pairs.items in
    let at = c.in_ok-prefix.at in
    let first = c.first_below-first.result in
    let start = c.last_run-start.result.0 in
    let byte = c.last_run-start.result.1 in
    let here = c.as_slice-in-building.ensures.value in
    let p = pair-at bytes c.args.from whole c.requires.some in
    let s =
    begun bytes c.args.from c.args.depth at first whole p.0 c.requires.some
    c.requires.long c.requires.ascending
    (c.in_ok-prefix.ensures.at
    ∙ ap (λ xs. c.args.depth + length (shared (run_from bytes c.args.from c.args.depth xs)))
    c.as_slice.ensures.value) p.2
    (c.first_below-first.ensures p.0
    (ap (λ xs. slice_get xs c.args.from) c.as_slice-2.ensures.value ∙ p.1)) in
    let inside = subst (λ xs. start < length xs) here c.last_run-start.ensures.within in
    let less =
    falls bytes c.args.from c.args.depth at first c.count_runs-count.result whole items p.0
    (shared (run_from bytes c.args.from c.args.depth whole)) c.args.work.now.made
    c.building.work.made c.building.node.shape s c.building.invariant.0 start byte
    c.last_run-start.ensures.from inside
    (subst (λ xs. AllBegin byte (run_from bytes start at xs)) here
    c.last_run-start.ensures.alike) in (
      omega (arith, less, c.decreases),
      (
        within.0,
        (
          within.1.0,
          (
            within.1.1,
            (
              inside,
              (
                long-child bytes first start at c.building.invariant.0.forest items
                    c.last_run-start.ensures.from c.building.invariant.0.under,
                run-sorted bytes first start at items c.last_run-start.ensures.from
                    c.building.invariant.0.sorted,
              ),
            ),
          ),
        ),
      ),
    )

pub add_child-requires-clause-absent : goal.add_child-requires-clause-absent
add_child-requires-clause-absent g t c =
    let bytes = g.K.KeyTrait.bytes in
    let items = c.building.pairs.items in
    let at = c.in_ok-prefix.at in
    let first = c.first_below-first.result in
    let start = c.last_run-start.result.0 in
    let byte = c.last_run-start.result.1 in
    let here = c.as_slice-in-building.ensures.value in
    let taken =
    taken-run bytes first at c.count_runs-count.result c.args.pairs.now.items
    (shared (run_from bytes c.args.from c.args.depth c.args.pairs.now.items))
    c.args.work.now.made items c.building.node.shape c.building.work.made c.building.invariant.0
    start byte c.last_run-start.ensures.from
    (subst (λ xs. start < length xs) here c.last_run-start.ensures.within)
    (subst (λ xs. AllBegin byte (run_from bytes start at xs)) here
    c.last_run-start.ensures.alike)
    (subst (λ xs. EndsBesides byte (run_from bytes first at (take start xs))) here
    c.last_run-start.ensures.apart) in
    ap (λ shape. child_at byte (children_of shape)) c.building.invariant.0.is
    ∙ child_at-below byte byte (entries_of c.building.invariant.0.forest) (le_refl byte) taken.below

pub building-preserved : goal.building-preserved
building-preserved g t c =
    let bytes = g.K.KeyTrait.bytes in
    let whole = c.args.pairs.now.items in
    let items = c.building.pairs.items in
    let at = c.in_ok-prefix.at in
    let first = c.first_below-first.result in
    let count = c.count_runs-count.result in
    let q = shared (run_from bytes c.args.from c.args.depth whole) in
    let begun = c.args.work.now.made in
    let start = c.last_run-start.result.0 in
    let byte = c.last_run-start.result.1 in
    let here = c.as_slice-in-building.ensures.value in
    let inside = subst (λ xs. start < length xs) here c.last_run-start.ensures.within in
    let alike =
    subst (λ xs. AllBegin byte (run_from bytes start at xs)) here
    c.last_run-start.ensures.alike in
    let taken =
    taken-run bytes first at count whole q begun items c.building.node.shape
    c.building.work.made c.building.invariant.0 start byte c.last_run-start.ensures.from inside alike
    (subst (λ xs. EndsBesides byte (run_from bytes first at (take start xs))) here
    c.last_run-start.ensures.apart) in (
      subst (λ xs. Building bytes first at count whole q begun xs c.add_child.new.self.shape
          c.add_child.new.work.made) (sym c.in_ok-child.ensures.left)
          (building-more bytes first at count whole q begun items c.building.node.shape
          c.building.work.made c.building.invariant.0 start byte c.last_run-start.ensures.from inside taken
          c.in_ok-child.child.shape c.add_child.new.self.shape c.in_ok-child.ensures.tree
          c.in_ok-child.ensures.pairs (c.in_ok-child.ensures.first byte alike)
          c.in_ok-add_child.ensures.ok c.tree_of.new.work.made c.add_child.new.work.made
          c.in_ok-child.ensures.made c.in_ok-add_child.ensures.made),
      c.add_child.ensures.entered ∙ c.tree_of.ensures.entered ∙ c.building.invariant.1,
    )

pub take_own-requires-clause-within : goal.take_own-requires-clause-within
take_own-requires-clause-within g t c =
    let bytes = g.K.KeyTrait.bytes in
    let whole = c.args.pairs.now.items in
    let items = c.building.pairs.items in
    let at = c.in_ok-prefix.at in
    let first = c.first_below-first.result in
    let p = pair-at bytes c.args.from whole c.requires.some in
    let at_is =
    c.in_ok-prefix.ensures.at
    ∙ ap (λ xs. c.args.depth + length (shared (run_from bytes c.args.from c.args.depth xs)))
    c.as_slice.ensures.value in
    let s =
    begun bytes c.args.from c.args.depth at first whole p.0 c.requires.some
    c.requires.long c.requires.ascending at_is p.2
    (c.first_below-first.ensures p.0
    (ap (λ xs. slice_get xs c.args.from) c.as_slice-2.ensures.value ∙ p.1)) in
    let test = c.building-test.false in
    let long = c.len.ensures in
    let from_le = s.from_le in
    let within = c.building.invariant.0.within in
    omega (arith, from_le, within)

pub take_own-requires-clause-last : goal.take_own-requires-clause-last
take_own-requires-clause-last g t c =
    let bytes = g.K.KeyTrait.bytes in
    let whole = c.args.pairs.now.items in
    let items = c.building.pairs.items in
    let at = c.in_ok-prefix.at in
    let first = c.first_below-first.result in
    let p = pair-at bytes c.args.from whole c.requires.some in
    let at_is =
    c.in_ok-prefix.ensures.at
    ∙ ap (λ xs. c.args.depth + length (shared (run_from bytes c.args.from c.args.depth xs)))
    c.as_slice.ensures.value in
    let s =
    begun bytes c.args.from c.args.depth at first whole p.0 c.requires.some
    c.requires.long c.requires.ascending at_is p.2
    (c.first_below-first.ensures p.0
    (ap (λ xs. slice_get xs c.args.from) c.as_slice-2.ensures.value ∙ p.1)) in
    let test = c.building-test.false in
    let long = c.len.ensures in
    let most = first-most bytes c.args.from c.args.depth at first whole p.0 s in
    omega (arith, most, test, long)

pub returns-in-None-clause-tree : goal.returns-in-None-clause-tree
returns-in-None-clause-tree g t c =
    let bytes = g.K.KeyTrait.bytes in
    let whole = c.args.pairs.now.items in
    let items = c.building.pairs.items in
    let at = c.in_ok-prefix.at in
    let first = c.first_below-first.result in
    let p = pair-at bytes c.args.from whole c.requires.some in
    let at_is =
    c.in_ok-prefix.ensures.at
    ∙ ap (λ xs. c.args.depth + length (shared (run_from bytes c.args.from c.args.depth xs)))
    c.as_slice.ensures.value in
    let s =
    begun bytes c.args.from c.args.depth at first whole p.0 c.requires.some
    c.requires.long c.requires.ascending at_is p.2
    (c.first_below-first.ensures p.0
    (ap (λ xs. slice_get xs c.args.from) c.as_slice-2.ensures.value ∙ p.1)) in
    let test = c.building-test.false in
    let long = c.len.ensures in
    let done =
    done-none bytes c.args.from c.args.depth at first c.count_runs-count.result whole items p.0
    c.args.work.now.made c.building.work.made c.building.node.shape s c.building.invariant.0
    (omega (arith, test, long))
    (c.count_runs-count.ensures
    ∙ ap (λ xs. runs (run_from bytes first at xs)) c.as_slice-3.ensures.value)
    c.in-None.ensures.none c.requires.some in
    IfOk-weaker c.new.result (λ root. root.shape ≡ c.building.node.shape) (λ root. IsTree root.shape)
    (λ root is. subst IsTree (sym is) done.tree) c.new.ensures.shown

pub returns-in-None-clause-pairs : goal.returns-in-None-clause-pairs
returns-in-None-clause-pairs g t c =
    let bytes = g.K.KeyTrait.bytes in
    let whole = c.args.pairs.now.items in
    let items = c.building.pairs.items in
    let at = c.in_ok-prefix.at in
    let first = c.first_below-first.result in
    let p = pair-at bytes c.args.from whole c.requires.some in
    let at_is =
    c.in_ok-prefix.ensures.at
    ∙ ap (λ xs. c.args.depth + length (shared (run_from bytes c.args.from c.args.depth xs)))
    c.as_slice.ensures.value in
    let s =
    begun bytes c.args.from c.args.depth at first whole p.0 c.requires.some
    c.requires.long c.requires.ascending at_is p.2
    (c.first_below-first.ensures p.0
    (ap (λ xs. slice_get xs c.args.from) c.as_slice-2.ensures.value ∙ p.1)) in
    let test = c.building-test.false in
    let long = c.len.ensures in
    let done =
    done-none bytes c.args.from c.args.depth at first c.count_runs-count.result whole items p.0
    c.args.work.now.made c.building.work.made c.building.node.shape s c.building.invariant.0
    (omega (arith, test, long))
    (c.count_runs-count.ensures
    ∙ ap (λ xs. runs (run_from bytes first at xs)) c.as_slice-3.ensures.value)
    c.in-None.ensures.none c.requires.some in
    IfOk-weaker c.new.result (λ root. root.shape ≡ c.building.node.shape)
    (λ root. pairs_of root.shape ≡ run_from bytes c.args.from c.args.depth whole)
    (λ root is. ap pairs_of is ∙ done.pairs) c.new.ensures.shown

pub returns-in-None-clause-first : goal.returns-in-None-clause-first
returns-in-None-clause-first g t c =
    let bytes = g.K.KeyTrait.bytes in
    let whole = c.args.pairs.now.items in
    let items = c.building.pairs.items in
    let at = c.in_ok-prefix.at in
    let first = c.first_below-first.result in
    let p = pair-at bytes c.args.from whole c.requires.some in
    let at_is =
    c.in_ok-prefix.ensures.at
    ∙ ap (λ xs. c.args.depth + length (shared (run_from bytes c.args.from c.args.depth xs)))
    c.as_slice.ensures.value in
    let s =
    begun bytes c.args.from c.args.depth at first whole p.0 c.requires.some
    c.requires.long c.requires.ascending at_is p.2
    (c.first_below-first.ensures p.0
    (ap (λ xs. slice_get xs c.args.from) c.as_slice-2.ensures.value ∙ p.1)) in
    let test = c.building-test.false in
    let long = c.len.ensures in
    let done =
    done-none bytes c.args.from c.args.depth at first c.count_runs-count.result whole items p.0
    c.args.work.now.made c.building.work.made c.building.node.shape s c.building.invariant.0
    (omega (arith, test, long))
    (c.count_runs-count.ensures
    ∙ ap (λ xs. runs (run_from bytes first at xs)) c.as_slice-3.ensures.value)
    c.in-None.ensures.none c.requires.some in
    let run = run_from bytes c.args.from c.args.depth whole in
    IfOk-weaker c.new.result (λ root. root.shape ≡ c.building.node.shape)
    (λ root. (byte : ℕ) → AllBegin byte run → BeginsWith byte (prefix_of root.shape))
    (λ root is byte all. subst (λ shape. BeginsWith byte (prefix_of shape)) (sym is)
    (subst (BeginsWith byte) (sym done.prefix)
    (run-first bytes c.args.from c.args.depth at first whole p.0 c.requires.some c.requires.long
    c.requires.ascending at_is p.2 byte all)))
    c.new.ensures.shown

pub returns-in-Some-clause-pairs : goal.returns-in-Some-clause-pairs
returns-in-Some-clause-pairs g t c =
    let bytes = g.K.KeyTrait.bytes in
    let whole = c.args.pairs.now.items in
    let items = c.building.pairs.items in
    let at = c.in_ok-prefix.at in
    let first = c.first_below-first.result in
    let p = pair-at bytes c.args.from whole c.requires.some in
    let at_is =
    c.in_ok-prefix.ensures.at
    ∙ ap (λ xs. c.args.depth + length (shared (run_from bytes c.args.from c.args.depth xs)))
    c.as_slice.ensures.value in
    let s =
    begun bytes c.args.from c.args.depth at first whole p.0 c.requires.some
    c.requires.long c.requires.ascending at_is p.2
    (c.first_below-first.ensures p.0
    (ap (λ xs. slice_get xs c.args.from) c.as_slice-2.ensures.value ∙ p.1)) in
    let test = c.building-test.false in
    let long = c.len.ensures in
    let done =
    done-some bytes c.args.from c.args.depth at first c.count_runs-count.result whole items p.0
    c.args.work.now.made c.building.work.made c.building.node.shape s c.building.invariant.0
    (omega (arith, test, long))
    (c.count_runs-count.ensures
    ∙ ap (λ xs. runs (run_from bytes first at xs)) c.as_slice-3.ensures.value)
    c.in-Some.ensures.value.0 c.in-Some.value c.set_value.new.self.shape
    (c.in-Some.ensures.value.1 p.0 (ap (λ xs. slice_get xs c.args.from) c.building.invariant.0.taken
    ∙ front-at bytes (length items) c.args.from whole (let one = c.in-Some.ensures.value.0 in
    omega (arith, one)) ∙ p.1)) c.set_value.ensures.new in
    IfOk-weaker c.new-in-Some.result (λ root. root.shape ≡ c.set_value.new.self.shape)
    (λ root. pairs_of root.shape ≡ run_from bytes c.args.from c.args.depth whole)
    (λ root is. ap pairs_of is ∙ done.pairs) c.new-in-Some.ensures.shown

pub returns-in-Some-clause-first : goal.returns-in-Some-clause-first
returns-in-Some-clause-first g t c =
    let bytes = g.K.KeyTrait.bytes in
    let whole = c.args.pairs.now.items in
    let items = c.building.pairs.items in
    let at = c.in_ok-prefix.at in
    let first = c.first_below-first.result in
    let p = pair-at bytes c.args.from whole c.requires.some in
    let at_is =
    c.in_ok-prefix.ensures.at
    ∙ ap (λ xs. c.args.depth + length (shared (run_from bytes c.args.from c.args.depth xs)))
    c.as_slice.ensures.value in
    let s =
    begun bytes c.args.from c.args.depth at first whole p.0 c.requires.some
    c.requires.long c.requires.ascending at_is p.2
    (c.first_below-first.ensures p.0
    (ap (λ xs. slice_get xs c.args.from) c.as_slice-2.ensures.value ∙ p.1)) in
    let test = c.building-test.false in
    let long = c.len.ensures in
    let done =
    done-some bytes c.args.from c.args.depth at first c.count_runs-count.result whole items p.0
    c.args.work.now.made c.building.work.made c.building.node.shape s c.building.invariant.0
    (omega (arith, test, long))
    (c.count_runs-count.ensures
    ∙ ap (λ xs. runs (run_from bytes first at xs)) c.as_slice-3.ensures.value)
    c.in-Some.ensures.value.0 c.in-Some.value c.set_value.new.self.shape
    (c.in-Some.ensures.value.1 p.0 (ap (λ xs. slice_get xs c.args.from) c.building.invariant.0.taken
    ∙ front-at bytes (length items) c.args.from whole (let one = c.in-Some.ensures.value.0 in
    omega (arith, one)) ∙ p.1)) c.set_value.ensures.new in
    let run = run_from bytes c.args.from c.args.depth whole in
    IfOk-weaker c.new-in-Some.result (λ root. root.shape ≡ c.set_value.new.self.shape)
    (λ root. (byte : ℕ) → AllBegin byte run → BeginsWith byte (prefix_of root.shape))
    (λ root is byte all. subst (λ shape. BeginsWith byte (prefix_of shape)) (sym is)
    (subst (BeginsWith byte) (sym done.prefix)
    (run-first bytes c.args.from c.args.depth at first whole p.0 c.requires.some c.requires.long
    c.requires.ascending at_is p.2 byte all)))
    c.new-in-Some.ensures.shown
