use Rattle.std.proofs.Common.{◌++◌, length, take}
use Rattle.rart_saved.specs.FamilyForms.{family_head}
use Rattle.rart_saved.specs.Numbers.{leb}
use Rattle.rart_saved.proofs.FamilyReadLemmas.{IsWritten}
use Rattle.rart_saved.proofs.families.saving.save_family_slice.Given as goal

abbrev pub invariant-placing : goal.invariant-placing
invariant-placing g l =
    IsWritten g.V.SavedValue.written g.V.PartialEq.eq
    (family_head g.V.SavedValue.KIND ++ leb (length l.family)) l.bytes.items
    (take l.place l.family) l.before.content
