use Rattle.example_store.proofs.CheckpointLemmas.{empty_logs_are_of_no_line, checkpoints_lose_nothing, logs_are_of_one_checkpoint}
use Rattle.example_store.proofs.laws.checkpoints_lose_nothing.Goals as goal

pub returns-clause-empty : goal.returns-clause-empty
returns-clause-empty c = empty_logs_are_of_no_line

pub returns-clause-more : goal.returns-clause-more
returns-clause-more c = checkpoints_lose_nothing

pub returns-clause-logs : goal.returns-clause-logs
returns-clause-logs c = logs_are_of_one_checkpoint
