use Rattle.std.proofs.Common.{subst, take}
use Rattle.std.proofs.lemmas.List.{drop_at}
use Rattle.std.proofs.lemmas.Option.{same_Some}
use Rattle.std.specs.declared.ops.Bound.TheVariants.{Excluded}
use Rattle.rart_c.specs.Pages.{IsCursorFor, bound_behind, start_of}
use Rattle.rart_c.specs.Shown.{shown}
use Rattle.rart_c.proofs.paging.Page.next.Goals as goal

pub returns-in-Ok-clause-first : goal.returns-in-Ok-clause-first
returns-in-Ok-clause-first g c =
    let page = c.args.self.now in
    let from = bound_behind c.args.last (start_of page) (take c.args.end c.args.bytes.now) in
    let has = c.requires.cursor c.in-Some.open c.in-Some.is in
    let parts = c.split_at_mut-written.ensures in
    rw (
      ← parts.back,
      drop_at c.split_at_mut-written.result.0.now c.next_of.new.room c.args.end parts.front_len,
    ) (c.in-Ok.ensures.first (shown page.table).version.content from has)

pub returns-in-Ok-clause-cursor : goal.returns-in-Ok-clause-cursor
returns-in-Ok-clause-cursor g c key value others is x now =
    let page = c.args.self.now in
    let content = (shown page.table).version.content in
    let from = bound_behind c.args.last (start_of page) (take c.args.end c.args.bytes.now) in
    let has = c.requires.cursor c.in-Some.open c.in-Some.is in
    subst (IsCursorFor page.order content (Excluded key)) (same_Some _ x now)
    (c.in-Ok.ensures.left content from has key value others is)
