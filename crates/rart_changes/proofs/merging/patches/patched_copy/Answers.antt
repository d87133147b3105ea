use Rattle.std.proofs.Common.{◌≡◌, refl, ap, rules, of_calls}
use Rattle.rart_maps.proofs.VisitLemmas.{answers-keep}
use Rattle.rart_changes.proofs.PatchLemmas.{patch-room, patched-visit}
use Rattle.rart_changes.proofs.merging.patches.patched_copy.Goals as goal

pub diff_with-requires : goal.diff_with-requires
diff_with-requires g c =
    let bytes = g.K.KeyTrait.bytes in
    let old = c.args.old.now.content in
    let new = c.args.new.now.content in
    let begins = c.in_ok-draft.ensures.next in
    record {
      visitable = record {
        at = λ change rest s calls a shown.
            let room = patch-room _ bytes (λ s. s.0.now.made) (λ s. s.0.now.next)
            (λ s. s.1.now.content) (λ s a s' called ok. search (rules, of_calls))
            (λ s a s' called. let new : s'.1.now ≡ s.1.now = search (rules, of_calls) in
            ap (λ v. v.content) new) g.V.PartialEq.eq old new c.args.tree.now _ change rest s calls
            begins refl c.requires.room in
            let clones = c.requires.clones in
            search rules;
      };
    }

pub returns : goal.returns
returns g c =
    let bytes = g.K.KeyTrait.bytes in
    let old = c.args.old.now.content in
    let new = c.args.new.now.content in
    let begins = c.in_ok-draft.ensures.next in
    let visit = c.in_ok-diff_with.ensures.visits in
    let patches = patched-visit _ bytes (λ s. s.0.now.made) (λ s. s.0.now.next)
    (λ s. s.1.now.content) (λ s a s' called ok. search (rules, of_calls))
    (λ s a s' called. let new : s'.1.now ≡ s.1.now = search (rules, of_calls) in
    ap (λ v. v.content) new) g.V.PartialEq.eq old new c.args.tree.now _ _ visit begins refl in
    let draft = answers-keep _ _ _ (λ s s'. s'.0.ghost_name ≡ s.0.ghost_name) (λ s. refl)
    (λ s change s' last called later. search (rules, of_calls)) _ _ _ visit in
    search rules
