-- Breadth-first order, with one entry more. Assumes nothing.
use Rattle.std.proofs.Common.{◌≡◌, ℕ, suc, ◌<◌, List, [], ◌∷◌, ◌++◌, Some, subst, inl, inr, ⊎_elim, arith}
use Rattle.std.specs.List.{slice_get}
use Rattle.std.proofs.lemmas.List.{length_push}
use Rattle.std.proofs.lemmas.Option.{slice_get_within}
use Rattle.search.specs.Paths.{Links, Sooner, BreadthFirst}
use Rattle.search.proofs.Places.{nth_cases}

module _ {E : Type 0} (L : Links E) where
  -- every entry but the first was found before symbol a was tried at entry i
  abbrev pub Upto : List E → ℕ → ℕ → Type 0
  Upto es i a = (k : ℕ) (e : E) → 0 < k → slice_get es k ≡ Some e → Sooner (L.parent e) (L.symbol e) i a

  module _ (es : List E) (i a : ℕ) (upto : Upto es i a) where
    -- and so before the next symbol
    pub upto_more : Upto es i (suc a)
    upto_more k e above at = ⊎_elim (λ low. inl low) (λ here. inr (here.0, omega (arith, here.1))) (upto k e above at)

    -- one that symbol a leads to from entry i
    module _ (x : E) (parent : L.parent x ≡ i) (symbol : L.symbol x ≡ a) where
      pub upto_pushed : Upto (es ++ x ∷ []) i (suc a)
      upto_pushed k e above at =
          ⊎_elim
          (λ old. upto_more k e above old)
          (λ new. subst (λ (y : E). Sooner (L.parent y) (L.symbol y) i (suc a)) new.1 (inr (parent, omega (arith, symbol))))
          (nth_cases x es k e at)

      -- stands behind the others in breadth-first order
      pub order_pushed : BreadthFirst L es → BreadthFirst L (es ++ x ∷ [])
      order_pushed ordered j k e f above up at at' =
          ⊎_elim
          (λ old.
          ⊎_elim
          (λ old'. ordered j k e f above up old old')
          (λ new'. subst (λ (y : E). Sooner (L.parent e) (L.symbol e) (L.parent y) (L.symbol y)) new'.1 (before (upto j e above old)))
          (nth_cases x es k f at'))
          (λ new. absurd (omega (arith, new.0, slice_get_within (es ++ x ∷ []) k f at', length_push es x)))
          (nth_cases x es j e at)
        where
          before : Sooner (L.parent e) (L.symbol e) i a → Sooner (L.parent e) (L.symbol e) (L.parent x) (L.symbol x)
          before s = ⊎_elim (λ low. inl (omega (arith, low, parent))) (λ here. inr (omega (arith, here.0, parent), omega (arith, here.1, symbol))) s
