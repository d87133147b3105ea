use Rattle.std.proofs.Common.{◌≡◌, ◌+◌, ◌-◌, ◌<◌, ◌∙◌, ◌++◌, ◌∷◌, ◌≤◌, ◌⊎◌, ⊎_elim, inl, inr, ℕ, [], Some, false, true, take, drop, length, refl, arith, ap, subst, sym}
use Rattle.std.proofs.Math.ListN.{set}
use Rattle.std.proofs.lemmas.List.{append_assoc, length-append, length-drop, length-set}
use Rattle.std.proofs.lemmas.Option.{same_Some}
use Rattle.std.specs.Range.Bound.{bound_map}
use Rattle.std.specs.declared.ops.Bound.TheVariants.{Excluded}
use Rattle.rart_c.specs.Pages.{IsAt, bound_behind, pairs_from, range_in, start_of, string_entry_of, strings_of, written_of}
use Rattle.rart_c.proofs.PageLemmas.{entries-set, kept-through, key-string, key-within, more-written, same-within, written-more}
use Rattle.rart_c.proofs.PageOrderLemmas.{range-behind}
use Rattle.rart_c.specs.Shown.{shown}
use Rattle.rart_c.proofs.bytes.paging.write_page.Goals as goal

pub loop-count-init : goal.loop-count-init
loop-count-init c = record {
  page = [];
  left = pairs_from c.args.page (start_of c.args.page);
  range_is = refl;
  many = refl;
  end_is = refl;
  keys = refl;
  entries = refl;
  fits = omega arith;
  most = omega arith;
  last = λ x is. cc;
  behind = refl;
  cursor = c.requires;
}

pub loop-count-preserved : goal.loop-count-preserved
loop-count-preserved c =
    let asked = c.loop-count.page in
    let content = (shown asked.table).version.content in
    let to = bound_map (λ to. to.now) asked.to in
    let order = asked.order in
    let moved = c.next.new.self in
    let i = c.loop-count.invariant in
    let first = c.in-Some.ensures.first in
    let key = first.key in
    let end = c.loop-count.end in
    let len = c.in-Some.len in
    let value = c.in-Some.value.now in
    let string = c.as_slice-string.result.now in
    let long = first.long in
    let as-long : length string ≡ length value = ap length c.as_slice-string.ensures in
    let between = c.next.new.bytes in
    let after = c.put.new.bytes in
    let full : ¬ (length between - end < len + length string) =
    λ less. let wrong : false ≡ true = sym c.if-has_no_room.false ∙ c.has_no_room.ensures.1 less in
    cc in
    let more = c.if-count-entries-2.false in
    let fits = i.fits in
    let ends = i.end_is in
    let same = c.next.auto.bytes in
    let same-after = c.put.auto.bytes in
    let size = length-drop end c.loop-count.bytes in
    let written = first.written (omega (arith, size, full, same, fits)) in
    let as-many = c.loop-count.auto.entries in
    let most = i.most in
    let later = c.put.ensures.kept in
    let key-is : take len (drop end after) ≡ key =
    same-within end len between after later ∙ written in
    let string-is : take (len + length string) (drop end after) ≡ key ++ value =
    key-string end len (length string) after key value key-is
    (c.put.ensures.value ∙ c.as_slice-string.ensures) in
    let place : end + len + length string ≡ end + (len + length string) = omega arith in
    record {
      page = i.page ++ (key, value) ∷ [];
      left = first.others;
      range_is =
          i.range_is ∙ ap (λ z. i.page ++ z) (sym i.behind ∙ first.first)
          ∙ sym (append_assoc i.page ((key, value) ∷ []) first.others);
      many = let n = length-append i.page ((key, value) ∷ []) in let m = i.many in
          omega (arith, n, m);
      end_is = let n = ap length (written-more strings_of string_entry_of i.page (key, value))
          ∙ length-append (written_of strings_of string_entry_of i.page) (key ++ value) in
          let m = length-append key value in
          omega (arith, n, m, ends, long, as-long);
      keys = ap (λ n. take n after) place
          ∙ more-written strings_of string_entry_of i.page (key, value) end (len + length string)
          c.loop-count.bytes after i.keys
          (kept-through end len c.loop-count.bytes between after c.in-Some.ensures.kept later)
          string-is;
      entries = (λ j. set c.loop-count.entries c.loop-count.count
          (record { key_end = end + long j; end = end + long j + as-long j }))
          ∙ entries-set strings_of string_entry_of i.page (key, value) c.loop-count.count end
          c.args.entries.now c.loop-count.entries i.entries i.many
          (omega (arith, more, most, as-many)) ends;
      fits = omega (arith, full, fits, same, same-after);
      most = let n = length-set c.loop-count.entries c.loop-count.count
          (record { key_end = end + len; end = end + len + length string }) in
          omega (arith, n, more, most);
      last = λ x is. subst (λ (last : ℕ × ℕ). (last.0 ≤ last.1)
          × (last.1 ≤ end + len + length string))
          (same_Some (end, end + len) x is) (omega arith, omega arith);
      behind = c.in-Some.ensures.same
          (Excluded (drop end (take (end + len) (take (end + len + length string) after))))
          ∙ ap (λ k. range_in order content (Excluded k) to)
          (key-within end len (end + len + length string) after key (omega arith) key-is)
          ∙ range-behind order content
          (bound_behind c.loop-count.last (start_of asked) (take end c.loop-count.bytes)) to
          (key, value) first.others first.first;
      cursor = subst (λ k. IsAt moved (Excluded k))
          (sym (key-within end len (end + len + length string) after key (omega arith) key-is))
          (c.in-Some.ensures.cursor key value first.others first.first);
    }

pub returns-then-has_no_room : goal.returns-then-has_no_room
returns-then-has_no_room c =
    let i = c.loop-count.invariant in
    let first = c.in-Some.ensures.first in
    let bytes = c.next.new.bytes in
    let value = c.in-Some.value.now in
    let as-long : length c.as_slice-string.result.now ≡ length value =
    ap length c.as_slice-string.ensures in
    let long = first.long in
    let ends = i.end_is in
    let both = length-append first.key value in
    let full : (c.loop-count.count ≡ length c.loop-count.entries)
    ⊎ (length bytes < length (written_of strings_of string_entry_of i.page)
    + length (first.key ++ value)) = ⊎_elim
    (λ more. inr (let less = c.has_no_room.ensures.0 more in
    omega (arith, less, as-long, long, ends, both)))
    (λ none. inl none.1)
    c.then-has_no_room.either in (
      (first.key, value) ∷ first.others,
      record {
        page = i.page;
        range_is = i.range_is ∙ ap (λ z. i.page ++ z) (sym i.behind ∙ first.first);
        many = i.many;
        keys = ap (λ n. take n bytes) (sym ends) ∙ c.in-Some.ensures.kept ∙ i.keys;
        entries = i.entries;
        full = full;
      },
      λ none j. Some (long j, as-long j),
    )
