-- What is left of a version where a closure tells which pairs stay.
use Rattle.std.specs.Prelude.{◌≡◌, ℕ, ◌+◌, List, Bool, filter, map, not, if◌then◌else◌}
use Rattle.std.specs.Fn.{Mut}
use Rattle.std.specs.List.{count_by}
use Rattle.rart_maps.specs.Changes.{after_removal}
use Rattle.rart_maps.specs.Pairs.{pairs}
use Rattle.rart_maps.specs.Versions.{Version}
use Rattle.rart_versioned.specs.Replies.{Replies}

module _ {V : Type 0} where
  -- the pairs that are kept, by replies, and how many are not
  abbrev pub kept_pairs : List ((List ℕ × V) × Bool) → List (List ℕ × V)
  kept_pairs replies = map (λ reply. reply.0) (filter (λ reply. reply.1) replies)

  abbrev pub count_dropped : List ((List ℕ × V) × Bool) → ℕ
  count_dropped replies = count_by (λ reply. not reply.1) replies

  -- the version without the pair's key, where it is not kept
  abbrev pub after_reply : Version V → List ℕ × V → Bool → Version V
  after_reply v pair kept = if kept then v else after_removal v pair.0

module _ {F A V : Type 0} (g : Mut F A Bool) (Shows : A → List ℕ × V → Type 0) where
  -- f is asked about each pair, and those stay that it keeps. The number is one greater for each
  -- of the others.
  pub record Retains (f : F) (before : Version V) (f' : F) (after : Version V) : Type 0 where
    pub replies : List ((List ℕ × V) × Bool)
    pub asked : map (λ reply. reply.0) replies ≡ pairs before.content
    pub calls : Replies g Shows f replies f'
    pub kept : pairs after.content ≡ kept_pairs replies
    pub number : after.number ≡ before.number + count_dropped replies
