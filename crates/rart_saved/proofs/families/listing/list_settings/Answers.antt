use Rattle.std.proofs.Common.{◌≡◌, sym, refl, rules, of_calls}
use Rattle.rart_maps.proofs.VisitLemmas.{answers-keep}
use Rattle.rart_saved.proofs.SettingListLemmas.{settings-callable, settings-listed}
use Rattle.rart_saved.proofs.WholeVisitLemmas.{visit-whole}
use Rattle.rart_saved.proofs.families.listing.list_settings.Goals as goal

pub try_diff_lending_with-requires : goal.try_diff_lending_with-requires
try_diff_lending_with-requires g c =
    let begins = c.new-listed.ensures in
    record {
      visitable = settings-callable _ _ _ g.V.SavedValue.written (λ s. s.0.now.bytes.items)
          (λ s. s.0.now.before.items) (λ s. s.0.now.count)
          (λ s change s' called. let shows = called.2 in search (rules, of_calls)) _ _
          begins.bytes begins.before begins.count (λ s change a room shows. search rules);
    }

pub returns-clause-bytes : goal.returns-clause-bytes
returns-clause-bytes g c =
    let begins = c.new-listed.ensures in
    let visit = visit-whole _ _ (λ s change s' called. search (rules, of_calls)) _ _ _ _
    (sym c.in_ok-map_err.ensures.variant) c.try_diff_lending_with.ensures.visits in
    let lists = settings-listed _ _ _ g.V.SavedValue.written (λ s. s.0.now.bytes.items)
    (λ s. s.0.now.before.items) (λ s. s.0.now.count)
    (λ s change s' called. let shows = called.2 in search (rules, of_calls)) _ _
    begins.bytes begins.before begins.count _ visit in
    let name = answers-keep _ _ _ (λ s s'. s'.0.ghost_name ≡ s.0.ghost_name) (λ s. refl)
    (λ s change s' last called later. search (rules, of_calls)) _ _ _ visit in
    search rules

pub returns-clause-count : goal.returns-clause-count
returns-clause-count g c =
    let begins = c.new-listed.ensures in
    let visit = visit-whole _ _ (λ s change s' called. search (rules, of_calls)) _ _ _ _
    (sym c.in_ok-map_err.ensures.variant) c.try_diff_lending_with.ensures.visits in
    let lists = settings-listed _ _ _ g.V.SavedValue.written (λ s. s.0.now.bytes.items)
    (λ s. s.0.now.before.items) (λ s. s.0.now.count)
    (λ s change s' called. let shows = called.2 in search (rules, of_calls)) _ _
    begins.bytes begins.before begins.count _ visit in
    let name = answers-keep _ _ _ (λ s s'. s'.0.ghost_name ≡ s.0.ghost_name) (λ s. refl)
    (λ s change s' last called later. search (rules, of_calls)) _ _ _ visit in
    search rules
