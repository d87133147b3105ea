-- What a visit has kept of the keys that it was called on.
use Rattle.std.specs.Prelude.{◌≡◌, ℕ, List, ◌++◌, map, Result, Ok, Err, ⊤}
use Rattle.std.specs.Global.{Vec}
use Rattle.std.specs.declared.alloc.AllocError.{AllocError}

-- These keys were put behind those before; or memory was refused, then or before.
abbrev pub Kept : {K : Type 0} → (K → List ℕ) → Result (Vec K) AllocError → List (List ℕ)
    → Result (Vec K) AllocError → Type 0
Kept bytes before keys (Err refused) = ⊤
Kept bytes (Ok before) keys (Ok after) = map bytes after.items ≡ map bytes before.items ++ keys
Kept bytes (Err refused) keys (Ok after) = ⊥
