-- The law over every history of an area: what holds whatever calls were made on it, in whatever
-- order, accepted or refused. Assumes nothing.
use Rattle.std.specs.Prelude.{◌≡◌, ℕ, Bool, true, false, not, List, Some, Ok, Err, Decides, length}
use Rattle.std.specs.List.{AllByRecursion, slice_get}
use Rattle.refusal.specs.declared.fault.Fault.TheVariants.{Ousted, Room}
use Rattle.refusal.specs.declared.fault.Refusal.{Refusal}
use Rattle.codec.specs.Encoding.{tree_bytes}
use Rattle.codec.specs.Numbers.{overwritten}
use Rattle.codec.specs.Trees.{Tree}
use Rattle.schema.specs.Automata.{Automaton, accepts}
use Rattle.schema.specs.Live.{LivePath}
use Rattle.search.specs.Paths.{Path, word_of}
use Rattle.compare.specs.declared.area.Area.{Area}
use Rattle.compare.specs.declared.claim.Numbers.{Numbers}
use Rattle.compare.specs.declared.conclude.Concluded.{Concluded}
use Rattle.compare.specs.declared.conclude.Concluded.TheVariants.{Included, Apart}
use Rattle.compare.specs.declared.pairs.Listed.{Listed}
use Rattle.compare.specs.declared.phase.Kind.{Kind}
use Rattle.compare.specs.declared.phase.Phase.TheVariants as phase
use Rattle.compare.specs.Breaking.{Broken, ToldApart}
use Rattle.compare.specs.Invariant.{StatePath}
use Rattle.compare.specs.Trailing.{broken_index}
use Rattle.compare.specs.Listing.{pair_links}
use Rattle.compare.specs.Pairs.{start}
use Rattle.compare.specs.View.{view, held_by}
use Rattle.document.specs.Documents.{DocumentOf}
use Rattle.history.specs.Calls.{Handed, first_automaton, second_automaton, Same, Call, take_up, oust, step, conclude, trail, document, give_up, same_numbers, is_inclusion, is_writing, told}
use Rattle.history.specs.Comparisons.{Comparison, own_call, StepsOverItsOwn, GrantedAllPairs, IsHolder, NeitherOustedNorGivenUp, ApartAndHolder, HasVerdict, ConcludesNow, DocumentRefused, AnotherBegan, OwnNow}

-- every tree that the first automaton accepts is accepted by the second
abbrev pub Inclusion : Automaton → Automaton → Type 0
Inclusion A B = (t : Tree) → accepts A 0 t ≡ true → accepts B 0 t ≡ true

-- the conclusion is included
abbrev pub is_included : Concluded → Bool
is_included (Included n) = true
is_included (Apart k n claim) = false

-- the count of pairs that a conclusion tells
abbrev pub count_of : Concluded → ℕ
count_of (Included n) = n
count_of (Apart k n claim) = n

-- a sequence of symbols, live in the first automaton, leads both to a pair of states that is broken
-- in the kind
pub record ReachedBroken (A B : Automaton) (k : Kind) : Type 0 where
  pub word : List ℕ
  pub first : ℕ
  pub second : ℕ
  pub live : LivePath A 0 word first
  pub beside : StatePath B 0 word second
  pub broken : Broken A B k first second

-- a broken pair is reached of the kind that an apart tells; nothing is said of included
abbrev pub ReachesBroken : Automaton → Automaton → Concluded → Type 0
ReachesBroken A B (Apart k n claim) = ReachedBroken A B k
ReachesBroken A B (Included n) = Unit {0}

-- the conclusion is right
pub record Right (A B : Automaton) (v : Concluded) : Type 0 where
  -- it is included exactly where there is inclusion
  pub included : Decides (is_included v) (Inclusion A B)
  -- it is apart exactly where the first automaton alone accepts some tree
  pub apart : Decides (not (is_included v)) (ToldApart A B 0 0)
  -- and the kind is that of a broken pair that both reach
  pub kind : ReachesBroken A B v

-- the word of the path stands at the output's front, and so many were answered
pub record WordWritten (path : List Listed) (o : List ℕ) (size : ℕ) (o' : List ℕ) : Type 0 where
  pub answer : size ≡ length path
  pub bytes : o' ≡ overwritten o 0 (word_of pair_links path)

-- a list of pairs in which one is broken, and the path to that one
pub record BrokenInList (g : Handed) : Type 0 where
  -- the list, with (0, 0) first
  pub pairs : List Listed
  pub starts : slice_get pairs 0 ≡ Some start
  -- the pair at this place is broken, in this kind
  pub index : ℕ
  pub entry : Listed
  pub at : slice_get pairs index ≡ Some entry
  pub kind : Kind
  pub broken : Broken (first_automaton g) (second_automaton g) kind entry.first entry.second
  -- this path leads to it from (0, 0) along the links of the list
  pub path : List Listed
  pub leads : Path pair_links pairs index path
  -- by symbols that are live in the first automaton
  pub live : LivePath (first_automaton g) 0 (word_of pair_links path) entry.first
  -- and lead in the second too
  pub beside : StatePath (second_automaton g) 0 (word_of pair_links path) entry.second

module _ (g : Handed) (b : BrokenInList g) where
  -- the bytes of a tree stand at the output's front, and so many were answered: it is built along
  -- the path to the broken pair, and accepted by the first automaton alone
  pub record DocumentWritten (o : List ℕ) (size : ℕ) (o' : List ℕ) : Type 0 where
    pub tree : Tree
    pub document : DocumentOf (first_automaton g) (second_automaton g) b.kind b.pairs b.index b.path tree
    pub first : accepts (first_automaton g) 0 tree ≡ true
    pub second : accepts (second_automaton g) 0 tree ≡ false
    pub answer : size ≡ length (tree_bytes tree)
    pub bytes : o' ≡ overwritten o 0 (tree_bytes tree)

-- an accepted trail call with these numbers wrote the word of the path; nothing is said of other
-- calls
abbrev pub WritesTrail : Numbers → List Listed → Call → Type 0
WritesTrail n path (trail m o (Ok size) o') = same_numbers n m ≡ true → WordWritten path o size o'
WritesTrail n path d = Unit {0}

-- an accepted document call with these numbers and schemas wrote the tree along the path; nothing
-- is said of other calls
abbrev pub WritesDocument : Numbers → (g : Handed) → BrokenInList g → Call → Type 0
WritesDocument n g b (document m h slots levels o (Ok size) o') =
    same_numbers n m ≡ true → Same g h → DocumentWritten g b o size o'
WritesDocument n g b d = Unit {0}

-- what the comparison of these schemas and numbers has written by a list of calls, which leave the
-- area so
pub record WroteBy (g : Handed) (n : Numbers) (calls : List Call) (now : Area) : Type 0 where
  -- it listed pairs, and came to one that is broken
  pub found : BrokenInList g
  -- each accepted trail call of it wrote the word of the path to that pair
  pub trails : AllByRecursion (WritesTrail n found.path) calls
  -- each accepted document call of it that was handed its schemas wrote the tree along that path
  pub documents : AllByRecursion (WritesDocument n g found) calls
  -- while its claim is the holder, the area is apart by that kind
  pub apart : held_by (view now) n.serial ≡ true → (view now).phase ≡ phase.Apart found.kind
  -- and has these pairs
  pub listed : held_by (view now) n.serial ≡ true → (view now).pairs ≡ found.pairs
  -- and this broken one
  pub breaks : held_by (view now) n.serial ≡ true → broken_index (view now) ≡ found.index

-- what a comparison has written
abbrev pub Wrote : {a : Area} → Comparison a → Type 0
Wrote c = WroteBy c.schemas c.claim c.since c.now

-- what a call comes to whose claim or numbers are not the holder's: giving up answers 0, any other
-- is refused, conclude and trail with `ousted`, and an output stays as found; nothing is said of
-- take and oust
abbrev pub TurnedAway : Call → Type 0
TurnedAway (take_up h r) = Unit {0}
TurnedAway (oust h r) = Unit {0}
TurnedAway (step m h steps slots (Ok answer)) = ⊥
TurnedAway (step m h steps slots (Err e)) = Unit {0}
TurnedAway (conclude c (Ok v)) = ⊥
TurnedAway (conclude c (Err e)) = e.0.fault ≡ Ousted
TurnedAway (trail m o (Ok size) o') = ⊥
TurnedAway (trail m o (Err e) o') = (e.fault ≡ Ousted) × (o' ≡ o)
TurnedAway (document m h slots levels o (Ok size) o') = ⊥
TurnedAway (document m h slots levels o (Err e) o') = o' ≡ o
TurnedAway (give_up m (Ok n)) = n ≡ 0
TurnedAway (give_up m (Err e)) = ⊥

-- what holds of every comparison on an area, whatever calls were made before it, beside it and
-- after it
pub record EveryHistory (a : Area) : Type 0 where
  -- where its own steps were handed its schemas, its conclusion is right
  pub concluded :
      (c : Comparison a) → StepsOverItsOwn c → (v : Concluded) → ConcludesNow c v →
      Right (first_automaton c.schemas) (second_automaton c.schemas) v
  -- the conclusion counts as many pairs as its own accepted steps have told, added up
  pub counted : (c : Comparison a) → (v : Concluded) → ConcludesNow c v → count_of v ≡ told c.claim c.since
  -- where its own steps were handed its schemas, what it has written is built along one path, and
  -- tells them apart
  pub written : (c : Comparison a) → StepsOverItsOwn c → own_call c is_writing ≡ true → Wrote c
  -- concluded apart, and as long as its claim is the holder, the area is apart
  pub apart : (c : Comparison a) → ApartAndHolder c → (k : Kind) × ((view c.now).phase ≡ phase.Apart k)
  -- and where its own steps were handed its schemas, a document of them is refused for want of room
  -- alone
  pub documented :
      (c : Comparison a) → StepsOverItsOwn c → ApartAndHolder c →
      (e : Refusal) → DocumentRefused c e → e.fault ≡ Room
  -- neither ousted nor given up, it has its verdict once it was granted a step for each pair of
  -- states
  pub in_time : (c : Comparison a) → NeitherOustedNorGivenUp c → GrantedAllPairs c → HasVerdict c
  -- until it is given up, concluded included or ousted, its claim is the holder
  pub holds : (c : Comparison a) → NeitherOustedNorGivenUp c → own_call c is_inclusion ≡ false → IsHolder c
  -- once another comparison has begun, a call with its claim or numbers is turned away
  pub ousted : (c : Comparison a) → AnotherBegan c → (d : Call) (a' : Area) → OwnNow c d a' → TurnedAway d
  -- and the area stays as it was
  pub unchanged : (c : Comparison a) → AnotherBegan c → (d : Call) (a' : Area) → OwnNow c d a' → a' ≡ c.now
