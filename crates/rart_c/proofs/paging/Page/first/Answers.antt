use Rattle.std.proofs.Common.{◌≡◌, ◌∙◌, ap, sym, arith}
use Rattle.std.specs.Range.Bound.{bound_map}
use Rattle.rart_c.proofs.PageOrderLemmas.{range-meets, range-none, range-past, range-told}
use Rattle.rart_c.proofs.paging.Page.first.Goals as goal
use Rattle.rart_c.proofs.paging.Page.first.Goals.{then-len-room, else-len-room}
use Rattle.rart_c.specs.Pages.{is_before_end}
use Rattle.rart_c.specs.Shown.{shown}

pub returns-in_default : goal.returns-in_default
returns-in_default g c =
    range-none c.args.self.now.order (shown c.args.self.now.table).version.content
    (bound_map (λ from. from.now) c.args.from) (bound_map (λ to. to.now) c.args.self.now.to)
    c.in_default.ensures.0

pub returns-then-is_within : goal.returns-then-is_within
returns-then-is_within g c =
    let content = (shown c.args.self.now.table).version.content in
    let order = c.args.self.now.order in
    let from = bound_map (λ from. from.now) c.args.from in
    let to = bound_map (λ to. to.now) c.args.self.now.to in
    let first = c.in-Some.ensures in
    let told : is_before_end order to first.key ≡ c.if-len-room.is_within =
    elim c.if-len-room.branch [
      | then-len-room w ↦
          let long = c.first_of_all.auto.room in
          let fits = w.if-len-room.true in
          ap (is_before_end order to) (sym (first.written (omega (arith, long, fits))))
          ∙ sym w.meets-is_within.ensures ∙ sym w.is_within-is
      | else-len-room w ↦
          range-told order content from to _ _ _ _ first c.if-len-room.is_within
          (w.is_within-is ∙ w.has_any-is_within.ensures)
    ] in
    range-meets order content from to _ _ _ _ first (told ∙ c.if-is_within.true)

pub returns-else-is_within : goal.returns-else-is_within
returns-else-is_within g c =
    let content = (shown c.args.self.now.table).version.content in
    let order = c.args.self.now.order in
    let from = bound_map (λ from. from.now) c.args.from in
    let to = bound_map (λ to. to.now) c.args.self.now.to in
    let first = c.in-Some.ensures in
    let told : is_before_end order to first.key ≡ c.if-len-room.is_within =
    elim c.if-len-room.branch [
      | then-len-room w ↦
          let long = c.first_of_all.auto.room in
          let fits = w.if-len-room.true in
          ap (is_before_end order to) (sym (first.written (omega (arith, long, fits))))
          ∙ sym w.meets-is_within.ensures ∙ sym w.is_within-is
      | else-len-room w ↦
          range-told order content from to _ _ _ _ first c.if-len-room.is_within
          (w.is_within-is ∙ w.has_any-is_within.ensures)
    ] in
    range-past content from to (first.key, _) first.others order first.first
    (told ∙ c.if-is_within.false)
