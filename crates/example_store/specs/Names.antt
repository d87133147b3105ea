-- What the names of a store's files say.
use Rattle.std.specs.Prelude.{◌<◌, ℕ, ⊤}
use Rattle.example_store.specs.declared.names.Name.{Name}
use Rattle.example_store.specs.declared.names.Name.TheVariants.{Checkpoint, Log, Lock, Unfinished}

-- the number of a checkpoint, where the file is one
abbrev pub checkpoint_number : Name → ℕ
checkpoint_number (Checkpoint number) = number
checkpoint_number (Log number) = 0
checkpoint_number Lock = 0
checkpoint_number Unfinished = 0

-- the number of a log, where the file is one
abbrev pub log_number : Name → ℕ
log_number (Checkpoint number) = 0
log_number (Log number) = number
log_number Lock = 0
log_number Unfinished = 0

-- A file is of no use behind the checkpoint of a number: a checkpoint or a log before it, and a
-- checkpoint that is not whole.
abbrev pub IsOlder : Name → ℕ → Type 0
IsOlder (Checkpoint own) number = own < number
IsOlder (Log own) number = own < number
IsOlder Lock number = ⊥
IsOlder Unfinished number = ⊤
