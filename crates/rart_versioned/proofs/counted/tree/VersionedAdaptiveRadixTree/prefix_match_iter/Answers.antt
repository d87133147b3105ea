use Rattle.std.proofs.Common.{◌≡◌, Option, Some, None, ℕ, List, refl, sym, ap, ◌∙◌}
use Rattle.std.specs.Prelude.{filter}
use Rattle.std.specs.Borrow.{Bor}
use Rattle.std.specs.Option.{option_map, option_copied}
use Rattle.rart_below.specs.Bytes.{begins}
use Rattle.rart_node.specs.Seen.{shape_of}
use Rattle.rart_versioned.specs.Iterators.{matches_below}
use Rattle.rart_versioned.proofs.VersionIterationLemmas.{content-pairs}
use Rattle.rart_versioned.proofs.ProbeLemmas.{matches-all}
use Rattle.rart_versioned.proofs.counted.tree.VersionedAdaptiveRadixTree.prefix_match_iter.Goals as goal

-- what is seen through a reference, if there is one
seen-through : {A B : Type 0} (f : A → B) (o : Option (Bor A)) →
    option_map (λ at. f at.now) o ≡ option_map f (option_copied o)
seen-through f None = refl
seen-through f (Some at) = refl

pub returns-clause-pairs : goal.returns-clause-pairs
returns-clause-pairs g c =
    let probe = g.K.KeyTrait.bytes c.args.probe in
    let test = λ (pair : List ℕ × g.row.V.Denot). begins pair.0 probe in
    let root = seen-through shape_of c.as_ref-at.result
    ∙ ap (option_map shape_of) c.as_ref-at.ensures.value in
    let most = g.K.KeyTrait.MAXIMUM_SIZE in
    let list = content-pairs shape_of most c.self.inside.version c.self.inside.root
    c.args.self.now c.self.invariant c.self.view_is in
    ap (λ (pairs : List (List ℕ × g.row.V.Denot)). Some pairs)
    (ap (matches_below probe 0) root
    ∙ matches-all probe (option_map shape_of c.self.inside.root)
    ∙ ap (filter test) (sym list))
