use Rattle.std.proofs.Common.{◌++◌, [], refl, sym, ap, ◌∙◌}
use Rattle.std.specs.FinMap as finite
use Rattle.sha2.specs.Sha256.{sha256}
use Rattle.rart_saved.specs.Forms.{head}
use Rattle.rart_saved.specs.Numbers.{leb}
use Rattle.rart_saved.proofs.SavedLemmas.{saved-made}
use Rattle.rart_saved.proofs.saving.save_slice.Goals as goal

pub returns : goal.returns
returns g c =
    let front = c.in_ok-bytes.bytes.items in
    let lists = c.in_ok-count.ensures.listed c.new-listed.result [] c.new-listed.ensures.items in
    let grown = c.in_ok-put.ensures c.in_ok-bytes.bytes front refl in
    c.in_ok-put_sum.ensures c.put.new.self c.put.new.self.items refl
    ∙ ap (λ bytes. bytes ++ sha256 bytes)
    (grown ∙ ap (λ listed. front ++ listed) (c.as_slice.ensures.value ∙ lists))
    ∙ saved-made g.V.SavedValue.written g.V.SavedValue.KIND c.in_ok-count.count c.version.result
    c.args.tree.now front
    (c.in_ok-bytes.ensures
    ∙ (λ i. head (c.KIND.ensures i) ++ leb c.version.result ++ leb c.in_ok-count.count))
    c.version.ensures.number
    (c.in_ok-count.ensures.count ∙ sym (finite.len-entries c.args.tree.now.content))
