use Rattle.std.proofs.Common.{◌≡◌, ◌++◌, ◌∷◌, [], inr, length, reverse, arith, refl, sym, ap, subst, ◌∙◌}
use Rattle.rart_node.specs.Shape.{prefix_of, value_of, children_of}
use Rattle.rart_node.specs.Trees.{pairs_of}
use Rattle.rart_walks.specs.BackFields.{open_back}
use Rattle.rart_walks.specs.Walks.{AreShort}
use Rattle.rart_walks.proofs.BackEnterLemmas.{nodes-back_paths, root-owns, root-pairs, root-paths, root-trees}
use Rattle.rart_node.proofs.BehindLemmas.{behind-none}
use Rattle.rart_walks.proofs.WalkLemmas.{path-fits}
use Rattle.rart_walks.proofs.walk_back.WalkBack.whole.Goals as goal

pub enter_part-requires : goal.enter_part-requires
enter_part-requires g c =
    let s = c.args.root.now.shape in
    λ _. (
      (refl, tt),
      (
        rw c.new-walk.ensures.leaf at c.new-walk.ensures.walk.holds_way,
        rw (
          c.new-walk.ensures.frames,
          c.as_ref.ensures,
          c.prefix.ensures,
          c.open-node.ensures.shown,
        )
            (path-fits [] s g.T.KeyPath.greatest c.requires.tree
            (subst (AreShort g.T.KeyPath.greatest) (sym (behind-none (pairs_of s))) c.requires.short)),
      ),
    )

pub returns : goal.returns
returns g c =
    let s = c.args.root.now.shape in
    let same : c.open-node.result.now.shape ≡ s = c.open-node.ensures.shown in
    let enters = c.in_ok-enter_part.ensures in
    let none = enters.leaf ∙ c.new-walk.ensures.leaf in
    let segment = c.as_ref.ensures ∙ c.prefix.ensures ∙ ap prefix_of same in
    let own = c.value.ensures ∙ ap value_of same in
    let children = c.iter_rev.ensures.children ∙ ap children_of same in
    let is : open_back c.enter_part.new.self.frames.items
    ≡ (prefix_of s, value_of s, children_of s) ∷ [] = enters.frames
    ∙ (λ i. c.new-walk.ensures.frames i ++ (segment i, own i, children i) ∷ []) in
    record {
      walk = record {
        holds_way = rw none enters.holds;
        trees = rw (none, is) (root-trees s c.requires.tree);
        short =
            rw (none, is)
            (subst (AreShort g.T.KeyPath.greatest) (sym (root-pairs s)) c.requires.short);
      };
      pairs = rw (none, is) (ap reverse (root-pairs s));
      nodes =
          let long = ap length (root-paths s) in
          let nodes = nodes-back_paths s in
          rw (none, is) (omega (arith, long, nodes));
      paths = rw (none, is) (inr (_, root-paths s));
      work = c.open-node.ensures.work;
      at_hand = rw (none, is) (root-owns s);
    }
