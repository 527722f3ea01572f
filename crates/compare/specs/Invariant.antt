-- How far a comparison of two automata has come: which pairs it reached, what holds of those that
-- it examined, and what its verdict says. Assumes nothing.
use Rattle.std.specs.Prelude.{◌≡◌, ℕ, ◌-◌, ◌<◌, Bool, true, ◌⊎◌, List, [], ◌∷◌, length, Some, Ok}
use Rattle.std.specs.List.{slice_get}
use Rattle.codec.specs.Trees.{Tree}
use Rattle.schema.specs.Automata.{Automaton, accepts}
use Rattle.schema.specs.Live.{Live, LiveSymbol, LivePath}
use Rattle.schema.specs.Tables.{Tables, automaton}
use Rattle.search.specs.Paths.{BreadthFirst, Met}
use Rattle.compare.specs.declared.area.Area.{Area}
use Rattle.compare.specs.declared.claim.Apart.{Apart}
use Rattle.compare.specs.declared.claim.Comparing.{Comparing}
use Rattle.compare.specs.declared.claim.Lease.{Lease}
use Rattle.compare.specs.declared.claim.Numbers.{Numbers}
use Rattle.compare.specs.declared.conclude.Concluded.TheVariants as concluded
use Rattle.compare.specs.declared.event.Event.{Event}
use Rattle.compare.specs.declared.pairs.Listed.{Listed}
use Rattle.compare.specs.declared.phase.Kind.{Kind}
use Rattle.compare.specs.declared.phase.Phase.{Phase}
use Rattle.compare.specs.declared.phase.Phase.TheVariants as phase
use Rattle.compare.specs.declared.phase.Verdict.TheVariants as verdict
use Rattle.compare.specs.Beginning.{Beginning}
use Rattle.compare.specs.Breaking.{Broken, Unbroken, ToldApart}
use Rattle.compare.specs.Concluding.{Conclusion}
use Rattle.compare.specs.Pairs.{start}
use Rattle.compare.specs.Listing.{pair_links, pair_of}
use Rattle.compare.specs.Stepping.{Stepping}
use Rattle.compare.specs.Trailing.{Trail}
use Rattle.compare.specs.View.{View, view}

-- the symbols lead from one state to another
abbrev pub StatePath : Automaton → ℕ → List ℕ → ℕ → Type 0
StatePath B p [] q = p ≡ q
StatePath B p (a ∷ w) q = (s : ℕ) × (B.next p a ≡ Some s) × StatePath B s w q

-- two automata say the same at every point
pub record SameAutomata (A B : Automaton) : Type 0 where
  pub next : (q a : ℕ) → A.next q a ≡ B.next q a
  pub step : (q r a : ℕ) → A.step q r a ≡ B.step q r a
  pub ends : (q r : ℕ) → A.ends q r ≡ B.ends q r
  pub has : (q v : ℕ) → A.has q v ≡ B.has q v

-- how many pairs are settled: every examined one, but where the verdict is apart the last one broke
abbrev pub settled : Phase → ℕ → ℕ
settled (phase.Ready (verdict.Apart k)) n = n - 1
settled (phase.Apart k) n = n - 1
settled p n = n

module _ (A B : Automaton) where
  -- the trail of every listed pair leads the first automaton along live symbols, and the second
  -- too, from state 0 to the pair's states
  abbrev pub Reached : List Listed → Type 0
  Reached es =
      (i : ℕ) (e : Listed) → slice_get es i ≡ Some e
      → (w : List ℕ) × Trail es i w × LivePath A 0 w e.first × StatePath B 0 w e.second

  -- (0, 0) is listed first; or state 0 of the first automaton is not live, and nothing is listed
  abbrev pub Rooted : List Listed → Type 0
  Rooted es = (Live A 0 × (slice_get es 0 ≡ Some start)) ⊎ ((Live A 0 → ⊥) × (es ≡ []))

  -- the pair at place i is unbroken, and the pair of next states under each symbol live at its
  -- first state is listed: it was met when the symbol was tried at place i, or before
  pub record Passed (es : List Listed) (i : ℕ) (e : Listed) : Type 0 where
    pub unbroken : Unbroken A B e.first e.second
    pub onward : (a s : ℕ) → LiveSymbol A e.first a → A.next e.first a ≡ Some s
        → (u : ℕ) × (B.next e.second a ≡ Some u) × Met pair_links es pair_of i a (s, u)

  -- the pair that was examined last is broken in that way
  pub record LastBroken (w : View) (k : Kind) : Type 0 where
    pub some : 0 < w.examined
    pub pair : Listed
    pub at : slice_get w.pairs (w.examined - 1) ≡ Some pair
    pub broken : Broken A B k pair.first pair.second

  -- what the phase says of a comparison: a pair is left to examine, none is, or the last one broke
  abbrev pub Stands : View → Phase → Type 0
  Stands w phase.Free = ⊥
  Stands w phase.Running = w.examined < length w.pairs
  Stands w (phase.Ready verdict.Included) = w.examined ≡ length w.pairs
  Stands w (phase.Ready (verdict.Apart k)) = LastBroken w k
  Stands w (phase.Apart k) = LastBroken w k

  -- what holds of an area at every moment of a comparison of the two automata
  pub record Invariant (w : View) : Type 0 where
    pub rooted : Rooted w.pairs
    pub reached : Reached w.pairs
    pub examined : (i : ℕ) (e : Listed) → i < settled w.phase w.examined → slice_get w.pairs i ≡ Some e
        → Passed w.pairs i e
    pub stands : Stands w w.phase
    -- breadth first: the pairs stand in the order of those that led to them, and of their symbols
    -- there
    pub ordered : BreadthFirst pair_links w.pairs
    -- an examined pair led to each but the first
    pub led : (i : ℕ) (e : Listed) → 0 < i → slice_get w.pairs i ≡ Some e → e.parent < w.examined

-- it holds as a comparison begins
unfoldable pub InvariantBegins : Type 0
InvariantBegins =
    (e : Event) (T U : Tables) (sets others : List (ℕ → Bool))
    (a : Area) (claim : Lease Comparing) (a' : Area)
    → Beginning e T U sets a (Ok claim) a' → Invariant (automaton T sets) (automaton U others) (view a')

-- an accepted step of the same schemas keeps it
unfoldable pub InvariantSteps : Type 0
InvariantSteps =
    (T U : Tables) (sets others : List (ℕ → Bool)) (claim : Numbers) (n slots : ℕ)
    (a : Area) (answer : ℕ × ℕ) (a' : Area)
    → Stepping T U sets others claim n slots a (Ok answer) a'
    → Invariant (automaton T sets) (automaton U others) (view a)
    → Invariant (automaton T sets) (automaton U others) (view a')

-- a conclusion apart keeps it
unfoldable pub InvariantConcludes : Type 0
InvariantConcludes =
    (A B : Automaton) (a : Area) (claim : Lease Comparing)
    (k : Kind) (n : ℕ) (apart : Lease Apart) (a' : Area)
    → Conclusion a claim (Ok (concluded.Apart k n apart)) a'
    → Invariant A B (view a) → Invariant A B (view a')

-- it depends on no more than what the automata say
unfoldable pub InvariantSame : Type 0
InvariantSame =
    (A B C D : Automaton) (w : View) → SameAutomata A C → SameAutomata B D
    → Invariant A B w → Invariant C D w

-- included: every tree that the first automaton accepts is accepted by the second
unfoldable pub IncludedCarries : Type 0
IncludedCarries =
    (A B : Automaton) (w : View) → Invariant A B w → w.phase ≡ phase.Ready verdict.Included → (t : Tree)
    → accepts A 0 t ≡ true → accepts B 0 t ≡ true

-- apart: some tree is accepted by the first automaton and refused by the second
unfoldable pub ApartTells : Type 0
ApartTells =
    (A B : Automaton) (w : View) (k : Kind) → Invariant A B w
    → (w.phase ≡ phase.Ready (verdict.Apart k)) ⊎ (w.phase ≡ phase.Apart k) → ToldApart A B 0 0
