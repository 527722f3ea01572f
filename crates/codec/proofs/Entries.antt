-- Entries of a list by their place. Assumes nothing.
use Rattle.std.proofs.Common.{◌≡◌, ℕ, zero, suc, ◌+◌, ◌<◌, List, [], ◌∷◌, ◌++◌, length, get_or, take, drop, Some, None, Option, sym, refl, ap, ◌∙◌, ⊎_elim, get_or-drop, length-drop, arith, Bor}
use Rattle.std.specs.Option.{option_map, unwrap_or}
use Rattle.std.specs.Slice.{IsGetResult, IsGetRangeResult}
use Rattle.std.specs.List.{slice_get, slice_range}
use Rattle.std.proofs.Math.ListN.{drop_of_length-le}
use Rattle.std.proofs.Math.Seq.{drop-length}
use Rattle.std.proofs.lemmas.List.{append-nil, drop_more}
use Rattle.std.proofs.lemmas.List.Folds.{drop_split}
use Rattle.std.proofs.lemmas.Option.{slice_get-get_or, slice_get_past, slice_get_within, get_or_from_slice_get}

-- what `get` finds, as a value
pub nth_from_get : {X : Type 0} (xs : List X) (i : ℕ) (r : Option (Bor X)) → IsGetResult xs i i r → option_map (λ x. x.now) r ≡ slice_get xs i
nth_from_get xs i (Some x) found = ap Some found.1 ∙ sym (slice_get-get_or xs i x.now found.3.0)
nth_from_get xs i None found = sym (slice_get_past xs i found.3)

-- what `get` and then `copied` give
pub nth_from_copied : {X : Type 0} (xs : List X) (i : ℕ) (r : Option (Bor X)) (s : Option X) → IsGetResult xs i i r → s ≡ option_map (λ x. x.now) r → slice_get xs i ≡ s
nth_from_copied xs i r s found copied = sym (nth_from_get xs i r found) ∙ sym copied

-- the first n entries are those below n
pub nth_take : {X : Type 0} (n : ℕ) (xs : List X) (i : ℕ) → i < n → slice_get (take n xs) i ≡ slice_get xs i
nth_take zero xs i h = absurd (omega arith)
nth_take (suc n) [] i h = refl
nth_take (suc n) (x ∷ xs) zero h = refl
nth_take (suc n) (x ∷ xs) (suc i) h = nth_take n xs i (omega arith)

-- what is left of a list from an entry on
pub drop_some : {X : Type 0} (xs : List X) (i : ℕ) (x : X) → slice_get xs i ≡ Some x → drop i xs ≡ x ∷ drop (i + 1) xs
drop_some xs i x e = drop_more xs i x (slice_get_within xs i x e) ∙ ap (λ y. y ∷ drop (i + 1) xs) (get_or_from_slice_get xs i x x e)

pub drop_none : {X : Type 0} (xs : List X) (i : ℕ) → slice_get xs i ≡ None → drop i xs ≡ []
drop_none [] zero e = refl
drop_none [] (suc i) e = refl
drop_none (y ∷ xs) zero e = absurd (let z : ◌≡◌ {A = ℕ} 0 1 = cc in omega arith)
drop_none (y ∷ xs) (suc i) e = drop_none xs i e

-- what is left of a list from a place on, nothing past its end
pub rest_from_get : {X : Type 0} (xs : List X) (p : ℕ) (r : Option (Bor (List X))) (none : Bor (List X)) → none.now ≡ [] → IsGetRangeResult xs p (length xs) r → (unwrap_or r none).now ≡ drop p xs
rest_from_get xs p (Some x) none e found =
    found.0.2 ∙ sym (drop_split xs p (length xs) found.0.0 ∙ ap (λ l. slice_range xs p (length xs) ++ l) (drop-length xs) ∙ append-nil (slice_range xs p (length xs)))
rest_from_get xs p None none e found =
    e ∙ sym (drop_of_length-le xs (⊎_elim (λ h. omega arith) (λ h. absurd (omega (arith, h))) found.0))

-- an entry of what is left of a list, as one of the list
pub entry_of_rest : (xs rest : List ℕ) (p i : ℕ) → rest ≡ drop p xs → i < length rest → slice_get xs (p + i) ≡ Some (get_or rest i 0)
entry_of_rest xs rest p i is inside =
    slice_get-get_or xs (p + i) 0 (omega (arith, ap length is, length-drop p xs, inside))
    ∙ ap Some (sym (ap (λ (l : List ℕ). get_or l i 0) is ∙ get_or-drop p xs i 0))
