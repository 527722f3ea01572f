-- The law of trimming. Assumes nothing.
use Rattle.std.proofs.Common.{◌≡◌, ℕ, ◌<◌, Bool, true, ◌&&◌, List, [], ◌∷◌, is_some, Some, None, Decides, refl, ap, ◌∙◌, subst}
use Rattle.std.proofs.lemmas.Bool.{and_from}
use Rattle.std.proofs.lemmas.Bool.Decides.{same_from_decides}
use Rattle.codec.specs.Trees.{Tree, node, Children, none, child}
use Rattle.schema.specs.Automata.{Automaton, accepts}
use Rattle.schema.specs.Bindings.{Occurs}
use Rattle.schema.specs.Faults.{table_fault}
use Rattle.schema.specs.Live.{LiveSymbol, LivePath}
use Rattle.schema.specs.Permitted.{permit, over, over_all}
use Rattle.schema.specs.Tables.{Tables, automaton}
use Rattle.schema.proofs.Permits.{permit_inside}
use Rattle.schema.proofs.Sizes.{sized, sound_size}
use Rattle.trim.specs.Kept.{Kept, Used}
use Rattle.trim.specs.Law.{Trims, TrimmingLaw, TrimLaws}
use Rattle.trim.specs.Trimmed.{new_number, trimmed}
use Rattle.trim.proofs.Numbers.{numbered}
use Rattle.trim.proofs.Paths.{kept_on, kept_used, used_kept}
use Rattle.trim.proofs.Permits.{accepts_permitted, bound_permitted}
use Rattle.trim.proofs.Simulates.{renumber, root_renumber, occurs_renumber, bound_new, accepts_new, accepts_old}
use Rattle.trim.proofs.Small.{small_trims}
use Rattle.trim.proofs.Sound.{trimmed_sound}
use Rattle.trim.proofs.Unique.{one_trimming}

-- where every symbol is permitted, every tree is over permitted symbols
mutual
  over_any : (t : Tree) → over (λ _. true) t ≡ true
  over_any (node v cs) = over_all_any cs

  over_all_any : (cs : Children) → over_all (λ _. true) cs ≡ true
  over_all_any none = refl
  over_all_any (child a t cs) = and_from _ _ (over_any t) (over_all_any cs)

-- paths of tables without a fault stay among the states
kept_inside : (T : Tables) (domains : List (ℕ → Bool)) (permitted : ℕ → Bool) → table_fault T ≡ None → (q : ℕ) → Kept (automaton T domains) permitted q → q < T.states
kept_inside T domains permitted fault q kept = along kept.1.0 0 (sized T (sound_size T fault)).states.from kept.1.1
  where
    along : (w : List ℕ) (p : ℕ) → p < T.states → LivePath (permit permitted (automaton T domains)) p w q → q < T.states
    along [] p low e = subst (λ (n : ℕ). n < T.states) e low
    along (a ∷ w) p low path = along w path.1.0 (permit_inside permitted T domains (ap is_some fault) p a path.1.0 low path.1.1) path.1.2

module _ (T : Tables) (domains : List (ℕ → Bool)) (permitted kept : ℕ → Bool) (fault : table_fault T ≡ None) (decides : (q : ℕ) → Decides (kept q) (Kept (automaton T domains) permitted q)) (first : kept 0 ≡ true) where
  -- the automaton, the same over the permitted symbols, the trimmed one, and a state's new number
  abbrev whole : Automaton
  whole = automaton T domains

  abbrev A : Automaton
  A = permit permitted (automaton T domains)

  abbrev B : Automaton
  B = automaton (trimmed T permitted kept) domains

  abbrev number : ℕ → ℕ
  number = new_number T permitted kept

  inside : (q : ℕ) → kept q ≡ true → q < T.states
  inside q there = kept_inside T domains permitted fault q ((decides q).0 there)

  -- live symbols lead from kept states to kept states
  passed_on : (q a s : ℕ) → kept q ≡ true → LiveSymbol A q a → A.next q a ≡ Some s → kept s ≡ true
  passed_on q a s there live is = (decides s).1 (kept_on whole permitted q a s ((decides q).0 there) live is)

  useful : (q : ℕ) → q < number T.states → Used B (λ _. true) q
  useful m low =
      let old = numbered kept T.states m low in
      let used = kept_used whole permitted old.state ((decides old.state).0 old.there) in
      let bound = bound_permitted permitted whole used.tree used.states used.bound used.within in
      record {
        tree = used.tree;
        states = renumber number used.states;
        start = root_renumber number used.states ∙ ap number used.start;
        bound = bound_new T domains permitted kept fault inside passed_on used.tree used.states bound (ap kept used.start ∙ first);
        within = over_any used.tree;
        there = subst (λ (n : ℕ). Occurs n (renumber number used.states)) old.is (occurs_renumber number old.state used.states used.there);
      }

  trees : (t : Tree) → accepts B 0 t ≡ (accepts whole 0 t && over permitted t)
  trees t =
      same_from_decides {P = accepts A 0 t ≡ true} _ _ (
        accepts_old T domains permitted kept fault inside passed_on 0 t first,
        accepts_new T domains permitted kept fault inside passed_on 0 t first,
      )
      (λ h. h, λ h. h)
      ∙ accepts_permitted permitted whole 0 t

  trims : Trims T domains permitted kept
  trims =
      record {
        sound = trimmed_sound T permitted kept fault inside first;
        trees = trees;
        used = λ q. (λ h. kept_used whole permitted q ((decides q).0 h), λ u. (decides q).1 (used_kept whole permitted q u));
        useful = useful;
      }

trimming_law : TrimmingLaw
trimming_law = record { reading = λ A permitted q t. accepts_permitted permitted A q t; trims = trims }

-- what holds of `trim`
pub trim_laws : TrimLaws
trim_laws = record { one = one_trimming; trimming = trimming_law; examples = small_trims }
