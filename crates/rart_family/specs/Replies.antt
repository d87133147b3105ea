-- What a command is replied, its keys by their bytes and its lists without their place in memory.
use Rattle.std.specs.Prelude.{ℕ, Bool, List, Option, map}
use Rattle.rart_family.specs.declared.family.reply.Reply as program
use Rattle.rart_family.specs.declared.family.reply.Reply.TheVariants as program_variants

pub data Reply (V : Type 0) : Type 0 where
  Place : ℕ → Reply V
  Discarded : Reply V
  Number : ℕ → Reply V
  Flag : Bool → Reply V
  Value : Option V → Reply V
  Entries : List (List ℕ × V) → Reply V
  Values : List V → Reply V
  Stopped : List V → Bool → Reply V
  Pairs : List (List ℕ × V × V) → Reply V
  ValuePairs : List (V × V) → Reply V
  Count : ℕ → Reply V
  Failed : Reply V
  NoVersion : Reply V
  NoRoom : Reply V
  NoMemory : Reply V

-- how the program's reply is seen
abbrev pub reply_value : {K V : Type 0} → (K → List ℕ) → program.Reply K V → Reply V
reply_value bytes (program_variants.Place p) = Place p
reply_value bytes program_variants.Discarded = Discarded
reply_value bytes (program_variants.Number n) = Number n
reply_value bytes (program_variants.Flag b) = Flag b
reply_value bytes (program_variants.Value v) = Value v
reply_value bytes (program_variants.Entries es) = Entries (map (λ e. (bytes e.0, e.1)) es.items)
reply_value bytes (program_variants.Values vs) = Values vs.items
reply_value bytes (program_variants.Stopped vs failed) = Stopped vs.items failed
reply_value bytes (program_variants.Pairs es) =
    Pairs (map (λ e. (bytes e.0, e.1, e.2)) es.items)
reply_value bytes (program_variants.ValuePairs ps) = ValuePairs ps.items
reply_value bytes (program_variants.Count n) = Count n
reply_value bytes program_variants.Failed = Failed
reply_value bytes program_variants.NoVersion = NoVersion
reply_value bytes program_variants.NoRoom = NoRoom
reply_value bytes program_variants.NoMemory = NoMemory
