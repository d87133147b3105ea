use Rattle.std.proofs.Common.{◌≡◌, [], ◌∷◌, ◌++◌, drop, length, refl, sym, ap, subst, ◌∙◌, rules}
use Rattle.std.specs.Prelude.{◌==◌}
use Rattle.rart_saved.specs.FamilyLoads.{LacksSettings}
use Rattle.rart_saved.specs.Refusals.{limit_of}
use Rattle.rart_saved.proofs.EntryLemmas.{last_key}
use Rattle.rart_saved.proofs.LimitLemmas.{limit-least, within_passed}
use Rattle.rart_saved.proofs.ListedLemmas.{first-read, read-first}
use Rattle.rart_saved.proofs.LoadLemmas.{within-same, within-set}
use Rattle.rart_saved.proofs.SettingReadLemmas.{IsMade, lacks-settings, made-count, made-next, made-none, made-read}
use Rattle.rart_saved.proofs.families.changing.take_settings.Goals as goal

pub taking-init : goal.taking-init
taking-init g c = (
  [],
  subst (λ key. IsMade g.V.SavedValue.written g.V.PartialEq.eq c.args.before.now.content
      c.args.bytes.now c.args.at c.args.at 0 key c.args.latest.now.tree.content
      c.args.latest.now.keys []) (sym c.new-key.ensures.items)
      (made-none g.V.SavedValue.written g.V.PartialEq.eq c.args.before.now.content
      c.args.bytes.now c.args.at c.args.latest.now.tree.content c.args.latest.now.keys
      c.requires.inside c.requires.begins c.requires.counted c.requires.room),
  within-same c.args.longest c.args.before.now c.args.latest.now.tree (sym c.requires.begins)
      c.requires.short,
)

pub take_setting-requires-clause-first : goal.take_setting-requires-clause-first
unfolding last_key
take_setting-requires-clause-first g c none =
    let made = c.taking.invariant in
    made.1.read.last
    ∙ ap (last_key []) (read-first made.0 c.taking.done made.1.read.count none)

pub take_setting-requires-clause-counted : goal.take_setting-requires-clause-counted
take_setting-requires-clause-counted g c = c.taking.invariant.1.counted

pub take_setting-requires-clause-room : goal.take_setting-requires-clause-room
take_setting-requires-clause-room g c = c.taking.invariant.1.room

pub returns-in_err-end-clause-refused : goal.returns-in_err-end-clause-refused
returns-in_err-end-clause-refused g c =
    let made = c.taking.invariant in
    let error = c.in_err-end.field-0.0 in
    within_passed c.args.longest g.K.KeyTrait.MAXIMUM_SIZE _ error
    (λ most. LacksSettings g.V.SavedValue.written g.V.PartialEq.eq most
    c.args.before.now.content c.args.count (drop c.args.at c.args.bytes.now))
    c.from_residual.ensures.1
    (λ other. lacks-settings g.V.SavedValue.written g.V.PartialEq.eq c.args.before.now.content
    g.met.V.SavedValue.apart (limit_of c.args.longest g.K.KeyTrait.MAXIMUM_SIZE error)
    (λ key there. limit-least c.args.longest g.K.KeyTrait.MAXIMUM_SIZE error (length key)
    (c.requires.short key there) (c.know_keys_for_proof.ensures.lengths key there))
    c.args.bytes.now c.args.at c.taking.end c.taking.done c.args.count c.taking.key.items
    c.taking.latest.tree.content c.taking.latest.keys made.0 (c.taking.done == 0) made.1
    c.taking-test.true (first-read made.0 c.taking.done made.1.read.count)
    (c.in_err-end.ensures.refused other))

pub taking-preserved : goal.taking-preserved
taking-preserved g c =
    let made = c.taking.invariant in
    let read = c.in_ok-end.ensures.read in (
      made.0 ++ (c.take_setting.new.key.items, read.0) ∷ [],
      made-next g.V.SavedValue.written g.V.PartialEq.eq c.args.before.now.content
          c.args.bytes.now c.args.at c.taking.end c.in_ok-end.end c.taking.done
          c.taking.key.items c.take_setting.new.key.items read.0 c.taking.latest.tree.content
          c.take_setting.new.latest.tree.content c.taking.latest.keys
          c.take_setting.new.latest.keys made.0 (c.taking.done == 0) made.1 read.1
          c.in_ok-end.ensures.next (read-first made.0 c.taking.done made.1.read.count) read.2
          read.3 c.in_ok-end.ensures.counted c.in_ok-end.ensures.room,
      within-set c.args.longest c.taking.latest.tree c.take_setting.new.latest.tree
          c.take_setting.new.key.items read.0 made.2 read.3 c.in_ok-end.ensures.short,
    )

pub returns-clause-read : goal.returns-clause-read
returns-clause-read g c =
    let made = c.taking.invariant in
    made-read g.V.SavedValue.written g.V.PartialEq.eq c.args.before.now.content
    (λ x. (c.requires.decides x x).1 refl) c.args.bytes.now c.args.at c.taking.end c.taking.done
    c.taking.key.items c.taking.latest.tree.content c.taking.latest.keys made.0 made.1

pub returns-clause-count : goal.returns-clause-count
returns-clause-count g c =
    let made = c.taking.invariant in
    let count =
    made-count g.V.SavedValue.written g.V.PartialEq.eq c.args.before.now.content
    (λ x. (c.requires.decides x x).1 refl) c.args.bytes.now c.args.at c.taking.end c.taking.done
    c.taking.key.items c.taking.latest.tree.content c.taking.latest.keys made.0 made.1 in
    let all : c.taking.done ≡ c.args.count = search rules in
    count ∙ all

pub returns-clause-counted : goal.returns-clause-counted
returns-clause-counted g c = c.taking.invariant.1.counted

pub returns-clause-room : goal.returns-clause-room
returns-clause-room g c = c.taking.invariant.1.room
