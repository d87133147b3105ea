-- How many nodes were entered and how many were made.
use Rattle.std.specs.Prelude.{ℕ, ◌+◌, ◌≤◌}

pub record Counts : Type 0 where
  pub entered : ℕ
  pub made : ℕ

-- From the counts before to those after, at most `entered` nodes were entered and `made` made.
pub record CountsUpTo (entered made : ℕ) (before after : Counts) : Type 0 where
  pub entered_grows : before.entered ≤ after.entered
  pub entered_at_most : after.entered ≤ before.entered + entered
  pub made_grows : before.made ≤ after.made
  pub made_at_most : after.made ≤ before.made + made
