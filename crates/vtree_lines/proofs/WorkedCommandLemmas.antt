-- The worked good lines, by computation.
use Rattle.std.proofs.Common.{refl, arith}
use Rattle.vtree_lines.specs.WorkedCommandLines.{WorkedChangeLines, WorkedReadLines, WorkedWalkLines, WorkedIntersectionLines}

pub worked_change_lines : WorkedChangeLines
worked_change_lines = (
  (omega arith, refl),
  (omega arith, refl),
  (omega arith, refl),
  (omega arith, refl),
  (omega arith, refl),
  (omega arith, refl),
  (omega arith, refl),
  (omega arith, refl),
  (omega arith, refl),
  (omega arith, refl),
  (omega arith, refl),
  (omega arith, refl),
  (omega arith, refl),
  (omega arith, refl),
  (omega arith, refl),
  (omega arith, refl),
  (omega arith, refl),
)

pub worked_read_lines : WorkedReadLines
worked_read_lines = (
  (omega arith, refl),
  (omega arith, refl),
  (omega arith, refl),
  (omega arith, refl),
  (omega arith, refl),
  (omega arith, refl),
  (omega arith, refl),
)

pub worked_walk_lines : WorkedWalkLines
worked_walk_lines = (
  (omega arith, refl),
  (omega arith, refl),
  (omega arith, refl),
  (omega arith, refl),
  (omega arith, refl),
  (omega arith, refl),
  (omega arith, refl),
  (omega arith, refl),
  (omega arith, refl),
  (omega arith, refl),
  (omega arith, refl),
  (omega arith, refl),
  (omega arith, refl),
  (omega arith, refl),
  (omega arith, refl),
  (omega arith, refl),
  (omega arith, refl),
  (omega arith, refl),
)

pub worked_intersection_lines : WorkedIntersectionLines
worked_intersection_lines = (
  (omega arith, refl),
  (omega arith, refl),
  (omega arith, refl),
  (omega arith, refl),
)

-- worked lines of each command
pub ruleset worked_commands = (
  worked_change_lines,
  worked_read_lines,
  worked_walk_lines,
  worked_intersection_lines,
)
