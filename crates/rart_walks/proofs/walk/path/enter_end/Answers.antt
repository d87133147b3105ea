use Rattle.rart_walks.proofs.walk.path.enter_end.Goals as goal

pub returns-then-is_passed : goal.returns-then-is_passed
returns-then-is_passed g c =
    let enters = c.in_ok-enter_whole.ensures in
    record {
      walk = record {
        holds_way = enters.walk.holds_way;
        framed = record { marked = enters.walk.framed.marked; innermost = enters.walk.framed.innermost };
        trees = enters.walk.trees;
        short = enters.walk.short;
      };
      pairs = rw c.if-is_passed.true enters.inside;
      paths = enters.paths;
    }
