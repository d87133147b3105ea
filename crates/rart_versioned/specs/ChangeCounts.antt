-- How the counted changes raise the counts.
use Rattle.std.specs.Prelude.{◌≡◌, ◌<◌, ℕ, Bool, false, List, Result, Ok, Err, ⊤}
use Rattle.rart_below.specs.declared.slot.Refusal.{Refusal}
use Rattle.rart_below.specs.declared.slot.Refusal.TheVariants.{Callback, Memory}
use Rattle.rart_maps.specs.Bounds.{change_bound}
use Rattle.rart_maps.specs.Versions.{Version, has_no_key}
use Rattle.rart_node.specs.Counts.{Counts, CountsUpTo}

module _ {V : Type 0} where
  -- A change at w makes at most `change_bound w` nodes. It enters at most `entered`, and one
  -- at least where the version has a key.
  pub record CountsChange (entered : ℕ) (v : Version V) (w : List ℕ) (before after : Counts)
      : Type 0 where
    pub at_most : CountsUpTo entered (change_bound w) before after
    pub at_least : has_no_key v ≡ false → before.entered < after.entered

-- An update by a callback that may fail makes no node, unless the answer is that the key is there
-- now: not for the callback's error either. Where memory was refused nothing is said.
abbrev pub MakesToTryInsert : {E : Type 0} → Result Bool (Refusal E) → Counts → Counts → Type 0
MakesToTryInsert (Ok is_there) before after = is_there ≡ false → after.made ≡ before.made
MakesToTryInsert (Err (Callback e)) before after = after.made ≡ before.made
MakesToTryInsert (Err (Memory refusal)) before after = ⊤
