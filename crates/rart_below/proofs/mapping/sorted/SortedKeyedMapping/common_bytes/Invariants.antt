use Rattle.std.proofs.Common.{◌≡◌, ℕ, take}
use Rattle.std.specs.Prelude.{◌&&◌, is_some}
use Rattle.rart_below.specs.ByteSets.{has_byte}
use Rattle.rart_below.specs.Children.{child_at}
use Rattle.rart_below.proofs.ByteSetLemmas.{holds_key}
use Rattle.rart_below.proofs.mapping.sorted.SortedKeyedMapping.common_bytes.Given as goal

abbrev pub invariant-loop-key : goal.invariant-loop-key
invariant-loop-key g l =
    (byte : ℕ) → has_byte l.bytes byte ≡ (holds_key byte (take l.key-index l.key-items)
    && is_some (child_at byte (g.M.NodeMapping.children l.other)))
