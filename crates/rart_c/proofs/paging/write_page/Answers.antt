use Rattle.std.proofs.Common.{◌+◌, ◌∙◌, ◌++◌, ◌∷◌, ◌≤◌, ℕ, [], drop, take, length, refl, arith, ap, subst, sym}
use Rattle.std.proofs.Math.ListN.{set}
use Rattle.std.proofs.lemmas.List.{append_assoc, length-append, length-drop, length-set}
use Rattle.std.proofs.lemmas.Option.{same_Some}
use Rattle.std.specs.Range.Bound.{bound_map}
use Rattle.std.specs.declared.ops.Bound.TheVariants.{Excluded}
use Rattle.rart_c.specs.Pages.{IsAt, bound_behind, entry_of, key_of, keys_of, pairs_from, range_in, start_of}
use Rattle.rart_c.proofs.PageLemmas.{entries-set, key-within, more-written, written-more}
use Rattle.rart_c.proofs.PageOrderLemmas.{range-behind}
use Rattle.rart_c.specs.Shown.{shown}
use Rattle.rart_c.proofs.paging.write_page.Goals as goal

pub loop-count-init : goal.loop-count-init
loop-count-init c = record {
  page = [];
  left = pairs_from c.args.page (start_of c.args.page);
  range_is = refl;
  many = refl;
  end_is = refl;
  keys = refl;
  entries = refl;
  fits = omega arith;
  most = omega arith;
  last = λ x is. cc;
  behind = refl;
  cursor = c.requires;
}

pub loop-count-preserved : goal.loop-count-preserved
loop-count-preserved c =
    let asked = c.loop-count.page in
    let content = (shown asked.table).version.content in
    let to = bound_map (λ to. to.now) asked.to in
    let order = asked.order in
    let moved = c.next.new.self in
    let i = c.loop-count.invariant in
    let first = c.in-Some.ensures.first in
    let kept = c.in-Some.ensures.kept in
    let key = first.key in
    let end = c.loop-count.end in
    let len = c.in-Some.len in
    let value = c.in-Some.value.now in
    let long = first.long in
    let room = c.if-bytes-end.false in
    let more = c.if-count-entries-2.false in
    let fits = i.fits in
    let ends = i.end_is in
    let same = c.next.auto.bytes in
    let size = length-drop end c.loop-count.bytes in
    let written = first.written (omega (arith, size, room, same, fits)) in
    let as-many = c.loop-count.auto.entries in
    let most = i.most in
    record {
      page = i.page ++ (key, value) ∷ [];
      left = first.others;
      range_is =
          i.range_is ∙ ap (λ z. i.page ++ z) (sym i.behind ∙ first.first)
          ∙ sym (append_assoc i.page ((key, value) ∷ []) first.others);
      many = let n = length-append i.page ((key, value) ∷ []) in let m = i.many in
          omega (arith, n, m);
      end_is = let n = ap length (written-more key_of entry_of i.page (key, value))
          ∙ length-append (keys_of i.page) key in
          omega (arith, n, ends, long);
      keys = more-written key_of entry_of i.page (key, value) end len c.loop-count.bytes
          c.next.new.bytes i.keys kept written;
      entries = ap (λ n. set c.loop-count.entries c.loop-count.count
          (record { end = end + n; value = value })) long
          ∙ entries-set key_of entry_of i.page (key, value) c.loop-count.count end
          c.args.entries.now c.loop-count.entries i.entries i.many
          (omega (arith, more, most, as-many)) ends;
      fits = omega (arith, room, fits, same);
      most = let n = length-set c.loop-count.entries c.loop-count.count
          (record { end = end + len; value = value }) in
          omega (arith, n, more, most);
      last = λ x is. subst (λ (last : ℕ × ℕ). (last.0 ≤ last.1) × (last.1 ≤ end + len))
          (same_Some (end, end + len) x is) (omega arith, omega arith);
      behind = c.in-Some.ensures.same
          (Excluded (drop end (take (end + len) (take (end + len) c.next.new.bytes))))
          ∙ ap (λ k. range_in order content (Excluded k) to)
          (key-within end len (end + len) c.next.new.bytes key (omega arith) written)
          ∙ range-behind order content
          (bound_behind c.loop-count.last (start_of asked) (take end c.loop-count.bytes)) to
          (key, value) first.others first.first;
      cursor = subst (λ k. IsAt moved (Excluded k))
          (sym (key-within end len (end + len) c.next.new.bytes key (omega arith) written))
          (c.in-Some.ensures.cursor key value first.others first.first);
    }
