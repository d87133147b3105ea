use Rattle.std.proofs.Common.{◌≡◌, ◌≤◌, ◌++◌, ◌-◌, ℕ, List, take, drop, length}
use Rattle.std.specs.Option.{ForSome}
use Rattle.rart_c.specs.Pages.{IsAt, bound_behind, entries_from, keys_of, pairs_from, start_of}
use Rattle.rart_c.proofs.paging.write_page.Given as goal

abbrev pub invariant-loop-count : goal.invariant-loop-count
invariant-loop-count l = record {
  page : List (List ℕ × ℕ);
  left : List (List ℕ × ℕ);
  range_is : pairs_from l.fn.page (start_of l.fn.page) ≡ page ++ left;
  many : l.count ≡ length page;
  end_is : l.end ≡ length (keys_of page);
  keys : take l.end l.bytes ≡ keys_of page;
  entries : l.entries ≡ entries_from 0 page ++ drop l.count l.fn.entries;
  fits : l.end ≤ length l.bytes;
  most : l.count ≤ length l.entries;
  last : ForSome l.last (λ last. (last.0 ≤ last.1) × (last.1 ≤ l.end));
  behind : pairs_from l.page (bound_behind l.last (start_of l.page) (take l.end l.bytes)) ≡ left;
  cursor : IsAt l.page (bound_behind l.last (start_of l.page) (take l.end l.bytes));
}

abbrev pub decreases-loop-count : goal.decreases-loop-count
decreases-loop-count l = length l.entries - l.count
