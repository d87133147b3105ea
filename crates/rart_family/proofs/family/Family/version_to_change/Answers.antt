use Rattle.std.proofs.Common.{refl, sym, ◌∙◌, arith}
use Rattle.rart_family.proofs.PlaceLemmas.{left-at, read-at, same-at}
use Rattle.rart_family.proofs.family.Family.version_to_change.Goals as goal

pub returns-in_default-as_mut : goal.returns-in_default-as_mut
returns-in_default-as_mut g c =
    let f = c.self.inside.versions.items in
    let is = read-at f c.args.place c.in-Some.slot c.in-Some.ensures.item in
    rw (← c.self.view_is) (
      (refl, (λ left never. absurd (cc)), same-at f c.args.place _ is),
      record {
        writes_back = tt;
        found = tt;
        room = tt;
        refused = rw (is ∙ sym c.in_default-as_mut.ensures.value) refl;
      },
    )

pub returns-then-version-rise : goal.returns-then-version-rise
returns-then-version-rise g c =
    let f = c.self.inside.versions.items in
    let at =
    read-at f c.args.place c.in-Some.slot c.in-Some.ensures.item ∙ sym
    c.in-Some-as_mut.ensures.value in
    let full = c.if-version-rise.true in
    let number = c.version.ensures.number in
    rw (← c.self.view_is) (
      (refl, (λ left never. absurd (cc)), same-at f c.args.place _ at),
      record {
        writes_back = tt;
        found = tt;
        room = tt;
        refused = rw at (refl, λ few. absurd (omega (arith, full, number, few)));
      },
    )

pub returns : goal.returns
returns g c =
    let f = c.self.inside.versions.items in
    let at =
    read-at f c.args.place c.in-Some.slot c.in-Some.ensures.item ∙ sym
    c.in-Some-as_mut.ensures.value in
    let fits = c.if-version-rise.false in
    let number = c.version.ensures.number in
    rw (← c.self.view_is) (
      (refl, (λ left ok. left-at f c.args.place left), tt),
      record {
        writes_back = tt;
        found = at;
        room = omega (arith, fits, number);
        refused = tt;
      },
    )
