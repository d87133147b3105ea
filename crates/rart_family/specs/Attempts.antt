-- What one command's own method gives, before a refusal is made a reply.
use Rattle.std.specs.Prelude.{◌≡◌, ℕ, List, Result, Ok, Err, IsTrue}
use Rattle.rart_family.specs.declared.family.command.Command.{Command}
use Rattle.rart_family.specs.declared.family.refused.Refused.{Refused}
use Rattle.rart_family.specs.declared.family.refused.Refused.TheVariants as refused
use Rattle.rart_family.specs.declared.family.reply.Reply as program
use Rattle.rart_family.specs.Replies.{Reply, NoVersion, NoRoom, NoMemory, reply_value}
use Rattle.rart_family.specs.Families.{Family, Outcome, outcome, reply_to}
use Rattle.rart_family.specs.Runs.{may_want_memory}

-- how a refusal is replied
abbrev pub refusal : {V : Type 0} → Refused → Reply V
refusal refused.NoVersion = NoVersion
refusal refused.NoRoom = NoRoom
refusal refused.NoMemory = NoMemory

module _ {K V : Type 0} (bytes : K → List ℕ) where
  -- what is then replied
  abbrev pub replied : Result (program.Reply K V) Refused → Reply V
  replied (Ok reply) = reply_value bytes reply
  replied (Err error) = refusal error

  -- what a call whose outcome is known is replied, and leaves
  abbrev pub Gives : Outcome V → Result (program.Reply K V) Refused → Family V → Type 0
  Gives outcome result new = (replied result ≡ outcome.0) × (new ≡ outcome.1)

  -- The reply or refusal that is the command's own, and what it leaves; or out of memory where it
  -- may be replied, which leaves the family.
  abbrev pub Tries : Family V → Command K V → Result (program.Reply K V) Refused → Family V
      → Type 0
  Tries old c (Err refused.NoMemory) new =
      (new ≡ old) × IsTrue (may_want_memory c (reply_to bytes old c))
  Tries old c result new = Gives (outcome bytes old c) result new
