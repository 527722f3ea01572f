-- The next pair, broken or not. Assumes nothing.
use Rattle.std.proofs.Common.{ℕ, ◌+◌, ◌<◌, sym, ap, ◌∙◌, subst, inl, inr}
use Rattle.std.proofs.lemmas.Option.{slice_get_within}
use Rattle.compare.specs.declared.area.Area.{Area}
use Rattle.compare.specs.Listing.{entries_of}
use Rattle.compare.specs.Schemas.{StatePair}
use Rattle.compare.specs.View.{View, view}
use Rattle.compare.proofs.Views.{entries_fit}
use Rattle.compare.proofs.area.Area.examine.Goals as goal
use Rattle.compare.proofs.area.Area.examine.Goals.{in-Some-broken, in_default-broken}

-- the area with another count of examined pairs
abbrev counted : ℕ → View → View
counted n w = record { number = w.number; serial = w.serial; phase = w.phase; symbols = w.symbols; firsts = w.firsts; seconds = w.seconds; pairs = w.pairs; examined = n }

pub returns : goal.returns
returns g c = λ noted mask.
    let area = c.args.self.now in
    let pair = c.in-Some.pair in
    let at = sym c.entry.ensures.answer ∙ c.in-Some.is in
    let left = slice_get_within (entries_of area.pairs) area.examined pair at in
    let fit = entries_fit area.pairs area.examined pair at in
    let inside : StatePair c.args.compared.now pair.first pair.second = (subst (λ (n : ℕ). pair.first < n) noted.firsts fit.first_inside, subst (λ (n : ℕ). pair.second < n) noted.seconds fit.second_inside) in
    inr (record {
      pair = pair;
      at = at;
      outcome = elim c.match-broken.branch [
        | in-Some-broken w ↦ inl (w.in-Some-broken.kind, w.in-Some-broken.ensures.answer inside mask, ap (λ (x : Area). counted (area.examined + 1) (view x)) w.self-is)
        | in_default-broken w ↦
            let on = w.go_on.ensures noted mask inside left in
            inr (w.in_default-broken.ensures.answer inside mask, (on.live, on.exact, ap (λ (x : Area). counted (area.examined + 1) (view x)) w.self-is ∙ ap (counted (area.examined + 1)) on.after))
      ];
    })
