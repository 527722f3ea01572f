-- The set of a domain by its number. Assumes nothing.
use Rattle.std.proofs.Common.{◌≡◌, ℕ, ◌^◌, ◌<◌, Bool, false, ◌&&◌, ltb, List, map, get_or, Some, None, Option, sym, ap, ◌∙◌, arith, Bor}
use Rattle.std.specs.Option.{MatchOption}
use Rattle.std.specs.Slice.{IsGetResult}
use Rattle.std.proofs.lemmas.List.{get_or-map, get_or_past, length-map}
use Rattle.std.proofs.lemmas.Bool.{and_right, lt-ltb}
use Rattle.domain.specs.Sets.{Empty}
use Rattle.schema.specs.declared.tables.Schema.{Schema}
use Rattle.schema.specs.Tables.{tables, sets, domain_number, automaton_of}

module _ {D : Type 0} (holds : D → ℕ → Bool) (domains : List D) (i v : ℕ) where
  pub has_listed : (x : Bor D) → v < 2 ^ 32 → IsGetResult domains i i (Some x) → holds x.now v ≡ (ltb v 4294967296 && get_or (map holds domains) i (λ _. false) v)
  has_listed x fits found =
      ap (λ d. holds d v) found.1 ∙ ap (λ (set : ℕ → Bool). set v) (sym (get_or-map holds domains i x.now (λ _. false) found.3.0))
      ∙ ap (λ (b : Bool). b && get_or (map holds domains) i (λ _. false) v) (sym (lt-ltb v 4294967296 fits))

  pub has_unlisted : IsGetResult domains i i None → false ≡ (ltb v 4294967296 && get_or (map holds domains) i (λ _. false) v)
  has_unlisted past =
      sym (and_right (ltb v 4294967296) _ (ap (λ (set : ℕ → Bool). set v) (get_or_past (map holds domains) i (λ _. false) (omega (arith, length-map domains holds, past.3)))))

-- the state has the values of what was found, and none where nothing was
pub values_found : {D : Type 0} (holds : D → ℕ → Bool) (s : Schema D) (q i : ℕ) (r : Option (Bor D)) → i ≡ domain_number (tables s) q → IsGetResult s.domains.now i i r
    → MatchOption r (Empty ((automaton_of holds s).has q)) (λ d. (v : ℕ) → v < 2 ^ 32 → holds d.now v ≡ (automaton_of holds s).has q v)
values_found holds s q i (Some x) number found = λ v fits. has_listed holds s.domains.now i v x fits found ∙ ap (λ (n : ℕ). ltb v 4294967296 && get_or (sets holds s) n (λ _. false) v) number
values_found holds s q i None number past = λ v fits. sym (has_unlisted holds s.domains.now i v past ∙ ap (λ (n : ℕ). ltb v 4294967296 && get_or (sets holds s) n (λ _. false) v) number)
