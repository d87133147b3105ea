use Rattle.vtree_lines.proofs.ServingLawLemmas.{whole_lines_are_written, failed_reads_leave_a_prefix, failed_writes_leave_a_prefix}
use Rattle.vtree_lines.proofs.laws.early_ends_leave_a_prefix.Goals as goal

pub returns-clause-whole : goal.returns-clause-whole
returns-clause-whole c = whole_lines_are_written

pub returns-clause-reads : goal.returns-clause-reads
returns-clause-reads c = failed_reads_leave_a_prefix

pub returns-clause-writes : goal.returns-clause-writes
returns-clause-writes c = failed_writes_leave_a_prefix
