-- How known bytes grow by one text after another.
use Rattle.std.proofs.Common.{◌≡◌, ℕ, ◌+◌, ◌≤◌, List, [], ◌++◌, take, drop, length, length-drop, ◌-◌, subst, sym, ◌∙◌, ap, append_assoc, arith}
use Rattle.std.proofs.lemmas.List.{append-nil, take-append-drop, take_all}
use Rattle.std.proofs.Math.Seq.{take-add}
use Rattle.std.specs.declared.option.Option.{Option}
use Rattle.std.specs.declared.option.Option.TheVariants.{Some, None}
use Rattle.std.specs.Io.KnownBytes.{Appends, Keeps}
use Rattle.vtree_lines.specs.Writing.{AppendsPart}

-- nothing is appended
pub appends_nil : (old : Option (List ℕ)) → Appends old old []
appends_nil None = tt
appends_nil (Some xs) = sym (append-nil xs)

-- one text after another
pub appends_twice : (a b c : Option (List ℕ)) (x y : List ℕ) → Appends a b x → Appends b c y →
    Appends a c (x ++ y)
appends_twice None b c x y h k = tt
appends_twice (Some xs) None c x y h k = absurd h
appends_twice (Some xs) (Some ys) None x y h k = absurd k
appends_twice (Some xs) (Some ys) (Some zs) x y h k = k ∙ ap (λ s. s ++ y) h ∙ append_assoc xs x y

pub appends_kept : (a b c : Option (List ℕ)) (x : List ℕ) → Appends a b x → Keeps b c →
    Appends a c x
appends_kept None b c x h k = tt
appends_kept (Some xs) None c x h k = absurd h
appends_kept (Some xs) (Some ys) None x h k = absurd k
appends_kept (Some xs) (Some ys) (Some zs) x h k = k ∙ h

-- the same, where the second is a part
pub appends_part : (a b c : Option (List ℕ)) (x y : List ℕ) → Appends a b x → AppendsPart b c y →
    AppendsPart a c (x ++ y)
appends_part a b c x y h k = record {
  part = x ++ k.part;
  rest = k.rest;
  whole = ap (λ s. x ++ s) k.whole ∙ sym (append_assoc x k.part k.rest);
  appended = appends_twice a b c x k.part h k.appended;
}

-- a part is one of a longer text
pub part_longer : (a b : Option (List ℕ)) (x y : List ℕ) → AppendsPart a b x →
    AppendsPart a b (x ++ y)
part_longer a b x y h = record {
  part = h.part;
  rest = h.rest ++ y;
  whole = ap (λ s. s ++ y) h.whole ∙ append_assoc h.part h.rest y;
  appended = h.appended;
}

pub part_of_take : (a b : Option (List ℕ)) (n : ℕ) (x : List ℕ) → Appends a b (take n x) →
    AppendsPart a b x
part_of_take a b n x h = record {
  part = take n x;
  rest = drop n x;
  whole = sym (take-append-drop n x);
  appended = h;
}

pub part_same : (a b : Option (List ℕ)) (x y : List ℕ) → x ≡ y → AppendsPart a b x →
    AppendsPart a b y
part_same a b x y e h = subst (λ (s : List ℕ). AppendsPart a b s) e h

pub appends_same : (a b : Option (List ℕ)) (x y : List ℕ) → x ≡ y → Appends a b x → Appends a b y
appends_same a b x y e h = subst (λ (s : List ℕ). Appends a b s) e h

-- the next bytes of a text, as a slice from m has them
pub appends_more : (a b c : Option (List ℕ)) (m n : ℕ) (x : List ℕ) → Appends a b (take m x) →
    Appends b c (take n (take (length x - m) (drop m x))) → Appends a c (take (m + n) x)
appends_more a b c m n x h k =
    let all : take (length x - m) (drop m x) ≡ drop m x =
    take_all (length x - m) (drop m x) (omega (arith, length-drop m x)) in
    let rest = subst (λ (s : List ℕ). Appends b c (take n s)) all k in
    rw take-add (appends_twice a b c (take m x) (take n (drop m x)) h rest)

-- nothing of a text, and all of it
pub appends_begin : (a : Option (List ℕ)) (x : List ℕ) → Appends a a (take 0 x)
appends_begin a x = appends_nil a

pub appends_whole : (a b : Option (List ℕ)) (n : ℕ) (x : List ℕ) → length x ≤ n →
    Appends a b (take n x) → Appends a b x
appends_whole a b n x l h = appends_same a b (take n x) x (take_all n x l) h

-- an interrupted or refused write
pub part_of_kept : (a b c : Option (List ℕ)) (n : ℕ) (x : List ℕ) → Appends a b (take n x) →
    Keeps b c → AppendsPart a c x
part_of_kept a b c n x h k = part_of_take a c n x (appends_kept a b c (take n x) h k)

-- a write that took nothing
pub part_of_none : (a b c : Option (List ℕ)) (m n : ℕ) (x : List ℕ) → Appends a b (take m x) →
    Appends b c (take n (take (length x - m) (drop m x))) → AppendsPart a c x
part_of_none a b c m n x h k = part_of_take a c (m + n) x (appends_more a b c m n x h k)

-- what a loop of writes asks
pub ruleset bytes = (
  appends_begin,
  appends_whole,
  appends_more,
  appends_kept,
  part_of_take,
  part_of_kept,
  part_of_none,
)
