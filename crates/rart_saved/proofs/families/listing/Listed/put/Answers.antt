use Rattle.std.proofs.Common.{◌≡◌, ◌++◌, ap, ◌∙◌, rules}
use Rattle.std.specs.Option.{option_copied}
use Rattle.rart_saved.specs.FamilyForms.{optional}
use Rattle.rart_saved.specs.Forms.{entry}
use Rattle.rart_saved.proofs.EntryLemmas.{entry-shown}
use Rattle.rart_saved.proofs.families.listing.Listed.put.Goals as goal

pub returns-clause-bytes : goal.returns-clause-bytes
returns-clause-bytes g c =
    let written = optional g.V.SavedValue.written in
    let before = c.args.self.now.before.items in
    let key : c.as_slice.result.now ≡ c.args.key.now = search rules in
    c.in_ok-put_entry.ensures.written
    ∙ ap (λ form. c.args.self.now.bytes.items ++ form)
    (entry-shown option_copied written before c.as_slice.result.now c.args.value
    ∙ ap (λ key. entry written before (key, option_copied c.args.value)) key)
