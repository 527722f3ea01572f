-- Every word has at most ten letters: one test that antt computes over the whole table. Assumes
-- nothing.
use Rattle.std.proofs.Common.{ℕ, ◌≤◌, Bool, true, ◌&&◌, leb, List, [], ◌∷◌, length, sym, refl, subst, ⊎_elim, lit≤}
use Rattle.std.specs.List.{AllByRecursion}
use Rattle.std.proofs.ByRecursion.{All-get_or, Decides-by_and}
use Rattle.std.proofs.lemmas.List.{get_or_past}
use Rattle.std.proofs.lemmas.Bool.{leb-true, le-leb, cases_lt}
use Rattle.refusal.specs.Words.{words, Short}

-- no word of the list has more than ten letters
abbrev all_short : List (List ℕ) → Bool
all_short [] = true
all_short (w ∷ ws) = leb (length w) 10 && all_short ws

short_ones : AllByRecursion (λ w. length w ≤ 10) words
short_ones = (Decides-by_and (λ w. leb (length w) 10) (λ w. length w ≤ 10) all_short (λ w. (leb-true (length w) 10, le-leb (length w) 10)) refl (λ _ _. refl) words).0 refl

pub short : Short
short n = ⊎_elim (λ h. All-get_or (λ w. length w ≤ 10) words n [] h short_ones) (λ h. subst (λ (w : List ℕ). length w ≤ 10) (sym (get_or_past words n [] h)) (lit≤ tt)) (cases_lt n 22)
