use Rattle.std.proofs.Common.{◌≡◌, ◌<◌, ⊎_elim, inl, inr, ◌++◌, ◌∙◌, ℕ, List, [], length, refl, arith, ap, subst, sym}
use Rattle.std.proofs.lemmas.List.{append_assoc, append-nil, length-append}
use Rattle.std.specs.declared.cmp.Ordering.TheVariants.{Less, Greater}
use Rattle.rart_below.specs.Bytes.{byte_order}
use Rattle.rart_node.specs.Shape.{prefix_of}
use Rattle.rart_ways.specs.Besides.{is_to}
use Rattle.rart_ways.specs.Starts.{IsStart}
use Rattle.rart_ways.specs.declared.seeking.Edge.{Edge}
use Rattle.rart_node.specs.Trees.{pairs_of}
use Rattle.rart_node.specs.PairsBehind.{behind_path}
use Rattle.rart_node.proofs.CountingLemmas.{counts-none_made}
use Rattle.rart_ways.proofs.BesideLemmas.{is_to-along, is_to-before, is_to-behind}
use Rattle.rart_ways.proofs.LeastLemmas.{start-whole, first-goes, first-ends, first-below, first-lower, first-deep, none-some}
use Rattle.rart_ways.proofs.seeking.within.least_meets.Goals as goal

pub returns-in-Before-clause-meets : goal.returns-in-Before-clause-meets
returns-in-Before-clause-meets g c pair others is =
    let s = c.args.start.now.shape in
    let path = c.args.path.now in
    let high = c.args.high.now in
    let goes = first-goes _ path s (start-whole path s c.requires.tree c.requires.short) pair others
    is in
    sym (ap (is_to c.args.edge high) goes.1
    ∙ is_to-before c.args.edge high (path ++ (prefix_of s ++ goes.0))
    (c.in-Before.ensures (prefix_of s ++ goes.0)))

pub returns-in-Behind-clause-meets : goal.returns-in-Behind-clause-meets
returns-in-Behind-clause-meets g c pair others is =
    let s = c.args.start.now.shape in
    let path = c.args.path.now in
    let high = c.args.high.now in
    let goes = first-goes _ path s (start-whole path s c.requires.tree c.requires.short) pair others
    is in
    sym (ap (is_to c.args.edge high) goes.1
    ∙ is_to-behind c.args.edge high (path ++ (prefix_of s ++ goes.0))
    (c.in-Behind.ensures (prefix_of s ++ goes.0)))

pub down-init : goal.down-init
down-init g c = record {
  above = c.args.path.now;
  at = start-whole c.args.path.now c.args.start.now.shape c.requires.tree
      c.requires.short;
  stands = c.in-Along.ensures;
  grows = omega arith;
  most = let long = ap length c.in-Along.ensures ∙ length-append c.args.path.now
      c.in-Along.rest.now in omega (arith, long);
  deep = inl refl;
  made = refl;
}

-- Of the first pair, by what stands in front of it and the bound.
module _ (edge : Edge) (high above rest : List ℕ) (stands : high ≡ above ++ rest)
    (key more prefix : List ℕ) (goes : key ≡ above ++ (prefix ++ more)) where
  beside : is_to edge high key ≡ is_to edge rest (prefix ++ more)
  beside = (λ i. is_to edge (stands i) (goes i)) ∙ is_to-along edge above rest (prefix ++ more)

pub returns-in-Before-along-clause-meets : goal.returns-in-Before-along-clause-meets
returns-in-Before-along-clause-meets g c pair others is =
    let s = c.down.node.now.shape in
    let rest = c.down.rest.now in
    let goes = first-goes _ c.down.invariant.above s c.down.invariant.at pair others is in
    let segment = c.as_ref.ensures ∙ c.prefix.ensures in
    sym (beside c.args.edge c.args.high.now c.down.invariant.above rest
    c.down.invariant.stands pair.0 goes.0 (prefix_of s) goes.1
    ∙ is_to-before c.args.edge rest (prefix_of s ++ goes.0)
    (subst (λ p. byte_order (p ++ goes.0) rest ≡ Less) segment
    (c.in-Before-along.ensures goes.0)))

pub returns-in-Before-along-clause-counted : goal.returns-in-Before-along-clause-counted
returns-in-Before-along-clause-counted g c =
    let most = c.down.invariant.most in
    counts-none_made c.down.invariant.grows (omega (arith, most)) c.down.invariant.made

pub returns-in-Behind-along-clause-meets : goal.returns-in-Behind-along-clause-meets
returns-in-Behind-along-clause-meets g c pair others is =
    let s = c.down.node.now.shape in
    let rest = c.down.rest.now in
    let goes = first-goes _ c.down.invariant.above s c.down.invariant.at pair others is in
    let segment = c.as_ref.ensures ∙ c.prefix.ensures in
    sym (beside c.args.edge c.args.high.now c.down.invariant.above rest
    c.down.invariant.stands pair.0 goes.0 (prefix_of s) goes.1
    ∙ is_to-behind c.args.edge rest (prefix_of s ++ goes.0)
    (subst (λ p. byte_order (p ++ goes.0) rest ≡ Greater) segment
    (c.in-Behind-along.ensures goes.0)))

pub returns-in-Behind-along-clause-counted : goal.returns-in-Behind-along-clause-counted
returns-in-Behind-along-clause-counted g c =
    let most = c.down.invariant.most in
    counts-none_made c.down.invariant.grows (omega (arith, most)) c.down.invariant.made

pub returns-in-Some-clause-meets : goal.returns-in-Some-clause-meets
returns-in-Some-clause-meets g c pair others is =
    let s = c.down.node.now.shape in
    let prefix = prefix_of s in
    let above = c.down.invariant.above in
    let ends = first-ends _ above s c.down.invariant.at pair others is c.in-Some._value.now
    (sym c.in-Some.ensures) ∙ ap (λ z. above ++ z) (sym (append-nil prefix)) in
    let goes = c.in-Along-along.ensures ∙ ap (λ z. z ++ c.in-Along-along.rest.now)
    (c.as_ref.ensures ∙ c.prefix.ensures) in
    c.ends_before.ensures
    ∙ sym (beside c.args.edge c.args.high.now above c.down.rest.now
    c.down.invariant.stands pair.0 [] prefix ends
    ∙ ap (λ z. is_to c.args.edge z (prefix ++ [])) goes
    ∙ is_to-along c.args.edge prefix c.in-Along-along.rest.now [])

pub returns-in-Some-clause-counted : goal.returns-in-Some-clause-counted
returns-in-Some-clause-counted g c =
    let most = c.down.invariant.most in
    counts-none_made c.down.invariant.grows (omega (arith, most)) c.down.invariant.made

pub down-smaller : goal.down-smaller
down-smaller g c =
    let s = c.down.node.now.shape in
    let taken = c.in-Some-next_child.ensures in
    rw c.open-node.ensures.shown
    (first-lower _ c.down.invariant.above s c.down.invariant.at (sym c.in_default.ensures)
    taken.0 _ _ (sym c.iter.ensures.children ∙ taken.1))

pub down-preserved : goal.down-preserved
down-preserved g c =
    let s = c.down.node.now.shape in
    let prefix = prefix_of s in
    let above = c.down.invariant.above in
    let at = c.down.invariant.at in
    let whole = behind_path c.args.path.now
    (pairs_of c.args.start.now.shape) in
    let none = sym c.in_default.ensures in
    let taken = c.in-Some-next_child.ensures in
    let is = sym c.iter.ensures.children ∙ taken.1 in
    let child = c.in-Some-next_child.child.now.shape in
    let deep = first-deep whole above s at none taken.0 child _ is in
    let left = c.in-Along-along.rest.now in
    let goes = c.in-Along-along.ensures
    ∙ ap (λ z. z ++ left) (c.as_ref.ensures ∙ c.prefix.ensures) in
    let long = ap length goes ∙ length-append prefix left in
    let all = ap length c.down.invariant.stands ∙ length-append above c.down.rest.now in
    let shown = c.open-node.ensures.shown in
    let work = ap (λ z. z.entered) c.open-node.ensures.work in
    let grows = c.down.invariant.grows in
    let most = c.down.invariant.most in
    record {
      above = above ++ prefix;
      at = subst (λ z. IsStart whole (above ++ prefix) z) (sym shown)
          (first-below whole above s at none taken.0 child _ is);
      stands =
          c.down.invariant.stands ∙ ap (λ z. above ++ z) goes
          ∙ sym (append_assoc above prefix left);
      grows = omega (arith, grows, work);
      most = ⊎_elim
          (λ first. omega (arith, first, work, long, all))
          (λ later. omega (arith, later, work, long, most))
          c.down.invariant.deep;
      deep = inr (subst (λ z. 0 < length (prefix_of z)) (sym shown) deep);
      made = ap (λ z. z.made) c.open-node.ensures.work ∙ c.down.invariant.made;
    }

pub unreachable-requires : goal.unreachable-requires
unreachable-requires g c =
    let s = c.down.node.now.shape in
    none-some s c.down.invariant.at.tree (sym c.in_default.ensures)
    (sym c.iter.ensures.children ∙ c.in-None.ensures.0)
