-- What a key is that is lent in segments.
use Rattle.std.specs.Prelude.{ℕ, List, map}
use Rattle.std.specs.Borrow.{Bor}
use Rattle.std.specs.List.{concat}

-- the bytes of the segments, one segment after the other
abbrev pub joined_bytes : List (Bor (List ℕ)) → List ℕ
joined_bytes segments = concat (map (λ segment. segment.now) segments)
