use Rattle.std.proofs.Common.{length}
use Rattle.rart_versioned.proofs.plain.debug.VersionedAdaptiveRadixTreeDebug.fmt.Given as goal

abbrev pub decreases-writing : goal.decreases-writing
decreases-writing g l = length l.cursor.left
