-- How texts are put on a page one after another.
use Rattle.std.proofs.Common.{◌≡◌, ℕ, ◌+◌, suc, ◌≤◌, List, [], ◌∷◌, ◌++◌, take, drop, length, ◌<◌, get_or, drop-cons, subst, sym, ◌∙◌, ap, refl, append_assoc}
use Rattle.std.proofs.lemmas.List.{append-nil, take-append-drop, take_all, take_more}
use Rattle.std.specs.Prelude.{IsErr}
use Rattle.std.specs.List.{flat_map}
use Rattle.std.proofs.lemmas.List.Concat.{flat_map-append}
use Rattle.std.specs.declared.option.Option.{Option}
use Rattle.std.specs.declared.result.Result.{Result}
use Rattle.std.specs.declared.result.Result.TheVariants.{Ok, Err}
use Rattle.std.specs.Io.KnownBytes.{Appends}
use Rattle.vtree_lines.specs.Writing.{AppendsPart, Writes, Follows, Puts}
use Rattle.vtree_lines.proofs.KnownLemmas.{appends_nil, appends_twice, appends_same, appends_part, part_longer, part_same}

-- a text begins another
pub record Begins (x whole : List ℕ) : Type 0 where
  pub rest : List ℕ
  pub is : x ++ rest ≡ whole

pub begins_nil : (y : List ℕ) → Begins [] y
begins_nil y = record { rest = y; is = refl }

pub begins_front : (x y : List ℕ) → Begins x (x ++ y)
begins_front x y = record { rest = y; is = refl }

pub begins_cons : (n : ℕ) (x y : List ℕ) → Begins x y → Begins (n ∷ x) (n ∷ y)
begins_cons n x y h = record { rest = h.rest; is = ap (λ s. n ∷ s) h.is }

pub begins_append : (x y z : List ℕ) → Begins y z → Begins (x ++ y) (x ++ z)
begins_append x y z h = record {
  rest = h.rest;
  is = append_assoc x y h.rest ∙ ap (λ s. x ++ s) h.is;
}

-- some members of a list, and the next one
pub begins_list : {X : Type 0} (f : X → List ℕ) (front back : List ℕ) (xs : List X) (i : ℕ)
    (item : X) (text : List ℕ) → i < length xs → item ≡ get_or xs i item → text ≡ f item →
    Begins ((front ++ flat_map f (take i xs)) ++ text) (front ++ (flat_map f xs ++ back))
begins_list f front back xs i item text l is e =
    let parted : flat_map f (take i xs) ++ flat_map f (drop i xs) ≡ flat_map f xs =
    sym (flat_map-append f (take i xs) (drop i xs))
    ∙ ap (flat_map f) (take-append-drop i xs) in
    let next : text ++ flat_map f (drop (suc i) xs) ≡ flat_map f (drop i xs) =
    ap (λ s. s ++ flat_map f (drop (suc i) xs)) (e ∙ ap f is)
    ∙ sym (ap (flat_map f) (drop-cons xs i item l)) in
    record {
      rest = flat_map f (drop (suc i) xs) ++ back;
      is = rw (← parted, ← next) (simp append_assoc);
    }

-- another spelling of the text
pub puts_same : {T E : Type 0} (r : Result T E) (a b : Option (List ℕ)) (held kept x y : List ℕ) →
    x ≡ y → Puts r a b held kept x → Puts r a b held kept y
puts_same r a b held kept x y e h = subst (λ (s : List ℕ). Puts r a b held kept s) e h

-- one text is put after another
pub follows_twice : (a b c : Option (List ℕ)) (held mid kept x y : List ℕ) →
    Follows a b held mid x → Follows b c mid kept y → Follows a c held kept (x ++ y)
follows_twice a b c held mid kept x y h k = record {
  sent = h.sent ++ k.sent;
  appended = appends_twice a b c h.sent k.sent h.appended k.appended;
  all =
      sym (append_assoc held x y)
      ∙ ap (λ s. s ++ y) h.all
      ∙ append_assoc h.sent mid y
      ∙ ap (λ s. h.sent ++ s) k.all
      ∙ sym (append_assoc h.sent k.sent kept);
}

-- the second of two fails
pub follows_part : (a b c : Option (List ℕ)) (held mid x y : List ℕ) → Follows a b held mid x →
    AppendsPart b c (mid ++ y) → AppendsPart a c (held ++ (x ++ y))
follows_part a b c held mid x y h k =
    part_same a c (h.sent ++ (mid ++ y)) (held ++ (x ++ y))
    (sym (append_assoc h.sent mid y) ∙ ap (λ s. s ++ y) (sym h.all) ∙ append_assoc held x y)
    (appends_part a b c h.sent (mid ++ y) h.appended k)

-- a call that puts on, and returns what it returned
puts_after : {T E : Type 0} (r : Result T E) (a b c : Option (List ℕ))
    (held mid kept x y : List ℕ) → Follows a b held mid x → Puts r b c mid kept y →
    Puts r a c held kept (x ++ y)
puts_after (Ok u) a b c held mid kept x y h k = follows_twice a b c held mid kept x y h k
puts_after (Err e) a b c held mid kept x y h k = follows_part a b c held mid x y h k

-- a call that returns early, as a call in it failed
puts_early : {T E : Type 0} (r : Result T E) (a b : Option (List ℕ)) (held kept x : List ℕ) →
    IsErr r → AppendsPart a b (held ++ x) → Puts r a b held kept x
puts_early (Ok u) a b held kept x h k = absurd (cc)
puts_early (Err e) a b held kept x h k = k

-- the first call failed
pub first_failed : {T E : Type 0} (r : Result T E) (a b : Option (List ℕ))
    (held kept x whole : List ℕ) → IsErr r → AppendsPart a b (held ++ x) → Begins x whole →
    Puts r a b held kept whole
first_failed r a b held kept x whole i h e =
    let longer = part_longer a b (held ++ x) e.rest h in
    let spelled = append_assoc held x e.rest ∙ ap (λ s. held ++ s) e.is in
    puts_early r a b held kept whole i (part_same a b _ _ spelled longer)

-- a later call failed
pub later_failed : {T E : Type 0} (r : Result T E) (a b c : Option (List ℕ))
    (held mid kept x y whole : List ℕ) → IsErr r → Follows a b held mid x →
    AppendsPart b c (mid ++ y) → Begins (x ++ y) whole → Puts r a c held kept whole
later_failed r a b c held mid kept x y whole i h k e =
    first_failed r a c held kept (x ++ y) whole i (follows_part a b c held mid x y h k) e

-- the last call
pub last_put : {T E : Type 0} (r : Result T E) (a b c : Option (List ℕ))
    (held mid kept x y whole : List ℕ) → Follows a b held mid x → Puts r b c mid kept y →
    x ++ y ≡ whole → Puts r a c held kept whole
last_put r a b c held mid kept x y whole h k e =
    puts_same r a c held kept (x ++ y) whole e (puts_after r a b c held mid kept x y h k)

-- the last call of three
pub third_put : {T E : Type 0} (r : Result T E) (a b c d : Option (List ℕ))
    (held mid later kept x y z whole : List ℕ) → Follows a b held mid x → Follows b c mid later y →
    Puts r c d later kept z → x ++ (y ++ z) ≡ whole → Puts r a d held kept whole
third_put r a b c d held mid later kept x y z whole h k m e =
    let both = follows_twice a b c held mid later x y h k in
    last_put r a c d held later kept (x ++ y) z whole both m (append_assoc x y z ∙ e)

-- before the first of a list
pub list_start : {X : Type 0} (f : X → List ℕ) (a b : Option (List ℕ)) (held mid front : List ℕ)
    (xs : List X) → Follows a b held mid front →
    Follows a b held mid (front ++ flat_map f (take 0 xs))
list_start f a b held mid front xs h =
    subst (λ (s : List ℕ). Follows a b held mid s) (sym (append-nil front)) h

-- the next of a list is put
pub list_next : {X : Type 0} (f : X → List ℕ) (a b c : Option (List ℕ))
    (held mid kept front : List ℕ) (xs : List X) (i : ℕ) (item : X) (text : List ℕ) →
    i < length xs → item ≡ get_or xs i item →
    Follows a b held mid (front ++ flat_map f (take i xs)) → Follows b c mid kept text →
    text ≡ f item → Follows a c held kept (front ++ flat_map f (take (i + 1) xs))
list_next f a b c held mid kept front xs i item text l is h k e =
    let more : flat_map f (take (i + 1) xs) ≡ flat_map f (take i xs) ++ text =
    ap (flat_map f) (take_more xs i item l)
    ∙ flat_map-append f (take i xs) (get_or xs i item ∷ [])
    ∙ ap (λ s. flat_map f (take i xs) ++ s) (append-nil _ ∙ sym (e ∙ ap f is)) in
    let spelled :
    (front ++ flat_map f (take i xs)) ++ text ≡ front ++ flat_map f (take (i + 1) xs) =
    append_assoc front (flat_map f (take i xs)) text ∙ ap (λ s. front ++ s) (sym more) in
    subst (λ (s : List ℕ). Follows a c held kept s) spelled
    (follows_twice a b c held mid kept (front ++ flat_map f (take i xs)) text h k)

-- all of a list and the end
pub list_end : {X T E : Type 0} (f : X → List ℕ) (r : Result T E) (a b c : Option (List ℕ))
    (held mid kept front back : List ℕ) (xs : List X) (i : ℕ) → length xs ≤ i →
    Follows a b held mid (front ++ flat_map f (take i xs)) → Puts r b c mid kept back →
    Puts r a c held kept (front ++ (flat_map f xs ++ back))
list_end f r a b c held mid kept front back xs i l h k =
    let spelled : (front ++ flat_map f (take i xs)) ++ back ≡ front ++ (flat_map f xs ++ back) =
    ap (λ s. (front ++ flat_map f s) ++ back) (take_all i xs l)
    ∙ append_assoc front (flat_map f xs) back in
    last_put r a b c held mid kept (front ++ flat_map f (take i xs)) back _ h k spelled

-- a text that is kept behind what was held
pub kept_behind : (a : Option (List ℕ)) (held kept x : List ℕ) → kept ≡ held ++ x →
    Follows a a held kept x
kept_behind a held kept x e = record { sent = []; appended = appends_nil a; all = sym e }

-- what is held is sent, and then a text is kept
pub sent_and_kept : (a b : Option (List ℕ)) (held kept x : List ℕ) → Appends a b held → kept ≡ x →
    Follows a b held kept x
sent_and_kept a b held kept x h e =
    record { sent = held; appended = h; all = ap (λ s. held ++ s) (sym e) }

-- what is held is sent, and then a text is written
pub sent_and_written : {T E : Type 0} (r : Result T E) (a b c : Option (List ℕ))
    (held kept x : List ℕ) → Appends a b held → kept ≡ [] → Writes r b c x → Puts r a c held kept x
sent_and_written (Ok u) a b c held kept x h e k = record {
  sent = held ++ x;
  appended = appends_twice a b c held x h k;
  all = sym (append-nil (held ++ x)) ∙ ap (λ s. (held ++ x) ++ s) (sym e);
}
sent_and_written (Err u) a b c held kept x h e k = appends_part a b c held x h k

-- sending failed
pub not_sent : {T E : Type 0} (r : Result T E) (a b : Option (List ℕ)) (held kept x : List ℕ) →
    IsErr r → AppendsPart a b held → Puts r a b held kept x
not_sent r a b held kept x i h = puts_early r a b held kept x i (part_longer a b held x h)

-- what was put on an empty page is written when it is sent
pub page_sent : {E : Type 0} (r : Result (Unit {0}) E) (a b c : Option (List ℕ)) (kept x : List ℕ) →
    Follows a b [] kept x → Writes r b c kept → Writes r a c x
page_sent (Ok u) a b c kept x h k =
    appends_same a c (h.sent ++ kept) x (sym h.all)
    (appends_twice a b c h.sent kept h.appended k)
page_sent (Err e) a b c kept x h k =
    part_same a c (h.sent ++ kept) x (sym h.all)
    (appends_part a b c h.sent kept h.appended k)

-- what a page asks
pub ruleset page = (kept_behind, sent_and_kept, sent_and_written, not_sent)

-- one text after another
pub ruleset texts = (
  last_put,
  third_put,
  first_failed,
  later_failed,
  begins_nil,
  begins_front,
  begins_cons,
  begins_append,
)

-- and the texts of a list
pub ruleset puts = (texts, list_start, list_next, page_sent)
