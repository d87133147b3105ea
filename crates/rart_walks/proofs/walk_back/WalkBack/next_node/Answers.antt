use Rattle.std.proofs.Common.{◌≡◌, ◌++◌, ◌∷◌, [], None, length, reverse, inl, inr, refl, arith, ap, ◌∙◌}
use Rattle.std.specs.Option.{option_copied}
use Rattle.rart_node.specs.Shape.{prefix_of, children_of, value_of}
use Rattle.rart_node.proofs.FindLemmas.{ascending, ordered}
use Rattle.rart_walks.specs.BackFields.{open_back, nodes_back}
use Rattle.rart_walks.specs.BackFrames.{SplitsOwn}
use Rattle.rart_walks.proofs.BackLemmas.{keeps-on}
use Rattle.rart_walks.proofs.BackEnterLemmas.{leaf-left, own-given, own-first, own-short, child-tree, child-fits, inner-pairs, inner-paths, inner-first, inner-trees, inner-short, inner-each}
use Rattle.rart_node.proofs.CountingLemmas.{counts-none_made}
use Rattle.rart_node.proofs.BehindLemmas.{short-none}
use Rattle.rart_walks.proofs.walk_back.WalkBack.next_node.Goals as goal

pub returns-in_default : goal.returns-in_default
returns-in_default g c =
    let takes = rw c.leave_leaf.ensures.frames at c.in_default.ensures.takes in
    let keeps =
    keeps-on (leaf-left (open_back c.args.self.now.frames.items)
    (option_copied c.args.self.now.leaf)) takes.0 in
    let none = ap reverse keeps.pairs in
    record {
      walk = record {
        holds_way = rw c.leave_leaf.ensures.leaf c.take_next.ensures.holds;
        trees = rw (c.leave_leaf.ensures.leaf, takes.1) tt;
        short = rw (c.leave_leaf.ensures.leaf, takes.1) (short-none _ g.T.KeyPath.greatest);
      };
      steps = rw (c.leave_leaf.ensures.leaf, takes.1) (none, keeps.paths, refl);
      refused = tt;
      entered =
          let left = ap length keeps.paths in
          rw (c.leave_leaf.ensures.leaf, takes.1) (omega (arith, left));
      counted = counts-none_made (omega arith) (omega arith) refl;
      one = counts-none_made (omega arith) (omega arith) refl;
      each =
          let left = ap length none in
          rw (c.leave_leaf.ensures.leaf, takes.1) (omega (arith, left));
    }

pub returns-in-Own : goal.returns-in-Own
returns-in-Own g c =
    let takes = rw (c.leave_leaf.ensures.frames, c.in-Own.is) at c.in-Some.ensures.takes in
    let keeps =
    leaf-left (open_back c.args.self.now.frames.items) (option_copied c.args.self.now.leaf) in
    let walk = c.requires.walk in
    let given = own-given _ _ _ keeps _ takes in
    record {
      walk = record {
        holds_way = rw c.leave_leaf.ensures.leaf c.take_next.ensures.holds;
        trees = rw c.leave_leaf.ensures.leaf (takes.trees (keeps.trees walk.trees));
        short = rw c.leave_leaf.ensures.leaf
            (own-short _ _ _ keeps _ takes g.T.KeyPath.greatest walk.short);
      };
      steps = rw c.leave_leaf.ensures.leaf (record {
        pairs = given;
        first = own-first _ _ _ keeps _ takes;
        place = inr (keeps.paths ∙ takes.paths, refl);
      });
      refused = tt;
      entered =
          let left = ap length (keeps.paths ∙ takes.paths) in
          rw c.leave_leaf.ensures.leaf (omega (arith, left));
      counted = counts-none_made (omega arith) (omega arith) refl;
      one = counts-none_made (omega arith) (omega arith) refl;
      each =
          let long = ap length given in
          let owns = keeps.owns ∙ takes.owns in
          rw c.leave_leaf.ensures.leaf (omega (arith, long, owns));
    }

pub enter_next-requires : goal.enter_next-requires
enter_next-requires g c =
    let s = c.in-Child.child.now.shape in
    let same : c.open.result.now.shape ≡ s = c.open.ensures.shown in
    let takes = rw (c.leave_leaf.ensures.frames, c.in-Child.is) at c.in-Some.ensures.takes in
    let keeps =
    leaf-left (open_back c.args.self.now.frames.items) (option_copied c.args.self.now.leaf) in
    let walk = c.requires.walk in
    λ _. (
      (refl, tt),
      (
        c.leave_leaf.ensures.leaf,
        (
          rw same (ascending s (ordered s (child-tree _ _ _ keeps s takes walk.trees))),
          (
            c.take_next.ensures.holds,
            rw same (child-fits _ _ _ keeps s takes g.T.KeyPath.greatest walk.trees walk.short),
          ),
        ),
      ),
    )

pub returns-in-Ok : goal.returns-in-Ok
returns-in-Ok g c =
    let s = c.in-Child.child.now.shape in
    let same : c.open.result.now.shape ≡ s = c.open.ensures.shown in
    let takes = rw (c.leave_leaf.ensures.frames, c.in-Child.is) at c.in-Some.ensures.takes in
    let keeps =
    leaf-left (open_back c.args.self.now.frames.items) (option_copied c.args.self.now.leaf) in
    let walk = c.requires.walk in
    let enters = c.in-Ok.ensures in
    let given = option_copied c.in-Ok.value in
    let kept = enters.opened.0 in
    let inner = nodes_back c.enter_next.new.self in
    let splits : SplitsOwn s given kept = rw same at enters.opened.1 in
    let opened = enters.opened.2
    ∙ ap (λ z. open_back c.take_next.new.frames.items ++ (prefix_of z, kept, children_of z) ∷ [])
    same in
    let pairs = inner-pairs _ _ _ keeps s takes inner given kept splits opened in
    let places = inner-paths _ _ _ keeps s takes inner given kept splits opened in
    let fall = ap length places in
    let one = ap (λ z. z.entered) c.open.ensures.work in
    let made = ap (λ z. z.made) c.open.ensures.work in
    record {
      walk = record {
        holds_way = enters.holds;
        trees = inner-trees _ _ _ keeps s takes inner given kept splits opened walk.trees;
        short = inner-short _ _ _ keeps s takes inner given kept splits opened
            g.T.KeyPath.greatest walk.short;
      };
      steps = record {
        pairs = pairs;
        first = inner-first _ _ _ keeps s takes inner given kept splits opened walk.trees;
        place = inl places;
      };
      refused = tt;
      entered = omega (arith, fall, one);
      counted = counts-none_made (omega (arith, one)) (omega (arith, one, fall)) made;
      one = counts-none_made (omega (arith, one)) (omega (arith, one)) made;
      each =
          let each = inner-each _ _ _ keeps s takes inner given kept splits opened in
          omega (arith, each, one);
    }

pub returns-in-Err : goal.returns-in-Err
returns-in-Err g c =
    let s = c.in-Child.child.now.shape in
    let takes = rw (c.leave_leaf.ensures.frames, c.in-Child.is) at c.in-Some.ensures.takes in
    let keeps =
    leaf-left (open_back c.args.self.now.frames.items) (option_copied c.args.self.now.leaf) in
    let walk = c.requires.walk in
    let none = c.in-Err.ensures.refused.1 in
    let left = c.leave_all.ensures.left in
    let fall =
    ap length (inner-paths _ _ _ keeps s takes _ None (value_of s) (inl (refl, refl)) refl) in
    let one = ap (λ z. z.entered) c.open.ensures.work in
    let made = ap (λ z. z.made) c.open.ensures.work in
    record {
      walk = record {
        holds_way = rw (none, left) c.leave_all.ensures.holds;
        trees = rw (none, left) tt;
        short = rw (none, left) (short-none _ g.T.KeyPath.greatest);
      };
      steps = tt;
      refused = rw (none, left) refl;
      entered = tt;
      counted = counts-none_made (omega (arith, one)) (omega (arith, one, fall)) made;
      one = counts-none_made (omega (arith, one)) (omega (arith, one)) made;
      each = tt;
    }
