use Rattle.std.proofs.Common.{◌++◌, ◌∷◌, [], List, ℕ, length, refl, ap, append_assoc, append-nil, sym, subst, ◌∙◌, arith}
use Rattle.std.specs.FinMap as finite
use Rattle.std.proofs.lemmas.List.{length-append}
use Rattle.rart_saved.specs.Forms.{entries, entry}
use Rattle.rart_saved.proofs.EntryLemmas.{entry-shown, last_key, last_key-next}
use Rattle.rart_saved.proofs.SinkLemmas.{put-next, put-none}
use Rattle.rart_versioned.proofs.EndPairLemmas.{within-none}
use Rattle.rart_versioned.specs.Cursors.{GoesOn}
use Rattle.rart_saved.proofs.saving.put_pairs.Goals as goal

pub listing-init : goal.listing-init
unfolding last_key
listing-init g c = record {
  taken = [];
  all = sym (c.in_ok-cursor.ensures ∙ within-none c.args.tree.now.content);
  last = c.new-before.ensures.items;
  counted = refl;
  listed = put-none g.V.SavedValue.written g.S.Sink.holds c.args.sink.now;
}

pub listing-preserved : goal.listing-preserved
listing-preserved g c =
    let written = g.V.SavedValue.written in
    let before = c.listing.invariant in
    let cursor = c.next_value.new.self in
    let goes = subst (λ value. GoesOn c.listing.cursor value cursor) c.in-Some.is
    c.in_ok-value.ensures.gives in
    let pair : List ℕ × g.row.V.Denot = (cursor.key, c.in-Some.value.now) in
    record {
      taken = before.taken ++ pair ∷ [];
      all = before.all ∙ ap (λ left. before.taken ++ left) goes
          ∙ sym (append_assoc before.taken (pair ∷ []) cursor.left);
      last = c.in_ok-put_entry.ensures.before ∙ c.key.ensures
          ∙ sym (last_key-next [] before.taken pair);
      counted = omega (arith, before.counted, length-append before.taken (pair ∷ []));
      listed = put-next written g.S.Sink.holds c.args.sink.now c.listing.sink c.put.new.self
          c.as_slice.result.now c.listing.before.items before.taken pair before.listed before.last
          (c.as_slice.ensures.value ∙ c.in_ok-put_entry.ensures.written
          ∙ (λ i. c.clear.ensures.items i
          ++ entry (λ v. written v.now) c.listing.before.items (c.key.ensures i, c.in-Some.value))
          ∙ entry-shown (λ v. v.now) written c.listing.before.items cursor.key c.in-Some.value)
          c.in_ok-put.ensures;
    }

pub overflow_add-count : goal.overflow_add-count
overflow_add-count g c =
    let before = c.listing.invariant in
    let goes = subst (λ value. GoesOn c.listing.cursor value c.next_value.new.self) c.in-Some.is
    c.in_ok-value.ensures.gives in
    omega (
      arith,
      before.counted,
      ap length before.all,
      length-append before.taken c.listing.cursor.left,
      ap length goes,
      finite.len-entries c.args.tree.now.content,
      c.know_keys_for_proof.ensures.few,
      c.know_keys_for_proof.ensures.fits,
    )

pub returns-clause-listed : goal.returns-clause-listed
returns-clause-listed g c start done is =
    let none = subst (λ value. GoesOn c.listing.cursor value c.next_value.new.self)
    c.in_default.is c.in_ok-value.ensures.gives in
    subst (λ taken. g.S.Sink.holds start (done ++ entries g.V.SavedValue.written [] taken)
    c.listing.sink)
    (sym (append-nil c.listing.invariant.taken)
    ∙ ap (λ left. c.listing.invariant.taken ++ left) (sym none.0)
    ∙ sym c.listing.invariant.all)
    (c.listing.invariant.listed start done is)

pub returns-clause-count : goal.returns-clause-count
returns-clause-count g c =
    let none = subst (λ value. GoesOn c.listing.cursor value c.next_value.new.self)
    c.in_default.is c.in_ok-value.ensures.gives in
    c.listing.invariant.counted
    ∙ ap length (sym (append-nil c.listing.invariant.taken)
    ∙ ap (λ left. c.listing.invariant.taken ++ left) (sym none.0)
    ∙ sym c.listing.invariant.all)
