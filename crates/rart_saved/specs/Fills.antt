-- What is written over the caller's bytes.
use Rattle.std.specs.Prelude.{◌≡◌, ◌≤◌, ◌++◌, ℕ, List, drop, length}

-- These bytes end at this place, and stand over the first of a room, where it has as many; what it
-- has behind them stays. Where it has fewer, only its length is told.
pub record Fills (before bytes after : List ℕ) (end : ℕ) : Type 0 where
  pub ends : end ≡ length bytes
  pub long : length after ≡ length before
  pub front : length bytes ≤ length before → after ≡ bytes ++ drop (length bytes) before
