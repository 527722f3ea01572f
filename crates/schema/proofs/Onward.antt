-- Live symbols and where they lead: to live states, one after the other. Assumes nothing.
use Rattle.std.proofs.Common.{◌≡◌, ℕ, List, [], ◌∷◌, ◌++◌, Some, sym, refl, ap, ◌∙◌, subst, append_assoc}
use Rattle.std.specs.List.{AllByRecursion}
use Rattle.std.proofs.lemmas.Option.{same_Some}
use Rattle.schema.specs.Automata.{Automaton}
use Rattle.schema.specs.Live.{Live, LiveSequence, LiveSymbol, LivePath}

module _ (A : Automaton) where
  -- the symbol leads to a live state
  abbrev pub Leads : ℕ → ℕ → Type 0
  Leads q a = (s : ℕ) × (A.next q a ≡ Some s) × Live A s

  -- each symbol of a live sequence is live
  pub live_symbols : (q : ℕ) (w : List ℕ) → LiveSequence A q w → AllByRecursion (LiveSymbol A q) w
  live_symbols q w live = onwards [] w live
    where
      onwards : (u v : List ℕ) → LiveSequence A q (u ++ v) → AllByRecursion (LiveSymbol A q) v
      onwards u [] live = tt
      onwards u (a ∷ v) live = ((u, v, live), onwards (u ++ a ∷ []) v (subst (λ (w : List ℕ). LiveSequence A q w) (sym (append_assoc u (a ∷ []) v)) live))

  -- a live symbol leads to a live state
  pub live_leads : (q a : ℕ) → LiveSymbol A q a → Leads q a
  live_leads q a (u, v, live) = at_symbol u live.1
    where
      at_symbol : (u : List ℕ) → AllByRecursion (Leads q) (u ++ a ∷ v) → Leads q a
      at_symbol [] all = all.0
      at_symbol (b ∷ u) all = at_symbol u all.1

  pub live_next : (q a s : ℕ) → LiveSymbol A q a → A.next q a ≡ Some s → Live A s
  live_next q a s live is = let there = live_leads q a live in subst (λ (k : ℕ). Live A k) (same_Some _ _ (sym there.1 ∙ is)) there.2

  -- one live symbol more
  pub path_push : (w : List ℕ) (p q a s : ℕ) → LivePath A p w q → LiveSymbol A q a → A.next q a ≡ Some s → LivePath A p (w ++ a ∷ []) s
  path_push [] p q a s e live is = (subst (λ (k : ℕ). LiveSymbol A k a) (sym e) live, (s, ap (λ (k : ℕ). A.next k a) e ∙ is, refl))
  path_push (b ∷ w) p q a s path live is = (path.0, (path.1.0, path.1.1, path_push w path.1.0 q a s path.1.2 live is))
