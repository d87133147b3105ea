use Rattle.std.proofs.Common.{◌≡◌, refl, ap, rules, of_calls}
use Rattle.rart_maps.proofs.VisitLemmas.{answers-keep}
use Rattle.rart_changes.specs.Merging.{ByLentConflict}
use Rattle.rart_changes.proofs.SettlingLemmas.{merge-askable, merge-asked, merge-front, merge-room, merge-visit}
use Rattle.rart_changes.proofs.merging.merges.merged_copy.Goals as goal

pub diff_with-requires : goal.diff_with-requires
diff_with-requires g c =
    let bytes = g.K.KeyTrait.bytes in
    let Shows = ByLentConflict {V = g.row.V.Denot} bytes in
    let base = c.args.base.now.content in
    let theirs = c.args.theirs.now.content in
    let begins = c.in_ok-draft.ensures.next in
    record {
      visitable = record {
        at = λ change rest s calls a shown.
            let room = merge-room _ bytes g.F.FnMut Shows g.V.PartialEq.eq (λ s. s.0.now.made)
            (λ s. s.0.now.next) (λ s. s.2.now) (λ s. s.1.now.content)
            (λ s a s' called. search (rules, of_calls))
            (λ s a s' called. let ours : s'.1.now ≡ s.1.now = search (rules, of_calls) in
            ap (λ v. v.content) ours) base theirs c.args.ours.now _ change rest s
            calls begins refl c.requires.room in
            let askable = merge-askable _ bytes g.F.FnMut Shows g.V.PartialEq.eq (λ s. s.0.now.made)
            (λ s. s.0.now.next) (λ s. s.2.now) (λ s. s.1.now.content)
            (λ s a s' called. search (rules, of_calls))
            (λ s a s' called. let ours : s'.1.now ≡ s.1.now = search (rules, of_calls) in
            ap (λ v. v.content) ours) base theirs c.args.ours.now _ change rest s
            calls begins refl c.requires.answerable a shown in
            let clones = c.requires.clones in
            search rules;
      };
    }

pub returns-in_err-diff_with-clause-refused : goal.returns-in_err-diff_with-clause-refused
returns-in_err-diff_with-clause-refused g c =
    let bytes = g.K.KeyTrait.bytes in
    let Shows = ByLentConflict {V = g.row.V.Denot} bytes in
    let base = c.args.base.now.content in
    let theirs = c.args.theirs.now.content in
    let begins = c.in_ok-draft.ensures.next in
    let front = c.in_err-diff_with.ensures.visits in
    let asked = merge-front _ bytes g.F.FnMut Shows g.V.PartialEq.eq (λ s. s.0.now.made)
    (λ s. s.0.now.next) (λ s. s.2.now) (λ s. s.1.now.content)
    (λ s a s' called. search (rules, of_calls))
    (λ s a s' called. let ours : s'.1.now ≡ s.1.now = search (rules, of_calls) in
    ap (λ v. v.content) ours) base theirs c.args.ours.now _ front.0 _ front.1
    begins refl in
    let draft = answers-keep _ _ _ (λ s s'. s'.0.ghost_name ≡ s.0.ghost_name) (λ s. refl)
    (λ s change s' last called later. search (rules, of_calls)) _ _ _ front.1.2 in
    let f = answers-keep _ _ _ (λ s s'. s'.2.ghost_name ≡ s.2.ghost_name) (λ s. refl)
    (λ s change s' last called later. search (rules, of_calls)) _ _ _ front.1.2 in
    search rules

pub returns-in_err-draft-2-clause-refused : goal.returns-in_err-draft-2-clause-refused
returns-in_err-draft-2-clause-refused g c =
    let bytes = g.K.KeyTrait.bytes in
    let Shows = ByLentConflict {V = g.row.V.Denot} bytes in
    let base = c.args.base.now.content in
    let theirs = c.args.theirs.now.content in
    let begins = c.in_ok-draft.ensures.next in
    let visit = c.in_ok-diff_with.ensures.visits in
    let asked = merge-asked _ bytes g.F.FnMut Shows g.V.PartialEq.eq (λ s. s.0.now.made)
    (λ s. s.0.now.next) (λ s. s.2.now) (λ s. s.1.now.content)
    (λ s a s' called. search (rules, of_calls))
    (λ s a s' called. let ours : s'.1.now ≡ s.1.now = search (rules, of_calls) in
    ap (λ v. v.content) ours) base theirs c.args.ours.now _ _ visit begins refl in
    let draft = answers-keep _ _ _ (λ s s'. s'.0.ghost_name ≡ s.0.ghost_name) (λ s. refl)
    (λ s change s' last called later. search (rules, of_calls)) _ _ _ visit in
    let f = answers-keep _ _ _ (λ s s'. s'.2.ghost_name ≡ s.2.ghost_name) (λ s. refl)
    (λ s change s' last called later. search (rules, of_calls)) _ _ _ visit in
    search rules

pub returns-clause-merges : goal.returns-clause-merges
returns-clause-merges g c =
    let bytes = g.K.KeyTrait.bytes in
    let Shows = ByLentConflict {V = g.row.V.Denot} bytes in
    let base = c.args.base.now.content in
    let theirs = c.args.theirs.now.content in
    let begins = c.in_ok-draft.ensures.next in
    let visit = c.in_ok-diff_with.ensures.visits in
    let merges = merge-visit _ bytes g.F.FnMut Shows g.V.PartialEq.eq (λ s. s.0.now.made)
    (λ s. s.0.now.next) (λ s. s.2.now) (λ s. s.1.now.content)
    (λ s a s' called. search (rules, of_calls))
    (λ s a s' called. let ours : s'.1.now ≡ s.1.now = search (rules, of_calls) in
    ap (λ v. v.content) ours) base theirs c.args.ours.now _ _ visit begins refl in
    let draft = answers-keep _ _ _ (λ s s'. s'.0.ghost_name ≡ s.0.ghost_name) (λ s. refl)
    (λ s change s' last called later. search (rules, of_calls)) _ _ _ visit in
    let f = answers-keep _ _ _ (λ s s'. s'.2.ghost_name ≡ s.2.ghost_name) (λ s. refl)
    (λ s change s' last called later. search (rules, of_calls)) _ _ _ visit in
    search rules

pub returns-clause-number : goal.returns-clause-number
returns-clause-number g c =
    let bytes = g.K.KeyTrait.bytes in
    let Shows = ByLentConflict {V = g.row.V.Denot} bytes in
    let base = c.args.base.now.content in
    let theirs = c.args.theirs.now.content in
    let begins = c.in_ok-draft.ensures.next in
    let visit = c.in_ok-diff_with.ensures.visits in
    let merges = merge-visit _ bytes g.F.FnMut Shows g.V.PartialEq.eq (λ s. s.0.now.made)
    (λ s. s.0.now.next) (λ s. s.2.now) (λ s. s.1.now.content)
    (λ s a s' called. search (rules, of_calls))
    (λ s a s' called. let ours : s'.1.now ≡ s.1.now = search (rules, of_calls) in
    ap (λ v. v.content) ours) base theirs c.args.ours.now _ _ visit begins refl in
    let draft = answers-keep _ _ _ (λ s s'. s'.0.ghost_name ≡ s.0.ghost_name) (λ s. refl)
    (λ s change s' last called later. search (rules, of_calls)) _ _ _ visit in
    let f = answers-keep _ _ _ (λ s s'. s'.2.ghost_name ≡ s.2.ghost_name) (λ s. refl)
    (λ s change s' last called later. search (rules, of_calls)) _ _ _ visit in
    search rules
