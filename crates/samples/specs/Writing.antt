-- Samples written with a pile of levels: of each node the value and the child count, and then its
-- children one by one. Assumes nothing.
use Rattle.std.specs.Prelude.{◌≡◌, ℕ, ◌+◌, ◌*◌, ◌<◌, List, [], ◌∷◌, ◌++◌, length, Some, None, Option}
use Rattle.codec.specs.declared.item.Level.{Level}
use Rattle.codec.specs.Numbers.{number_bytes}
use Rattle.codec.specs.Piles.{Stack}
use Rattle.codec.specs.Trees.{node, Children, none, child, word, many}
use Rattle.schema.specs.Automata.{Automaton}
use Rattle.samples.specs.declared.node.NodeKey.{NodeKey}
use Rattle.samples.specs.declared.node.NodeKey.TheVariants.{State}
use Rattle.samples.specs.declared.output.Output.{Output}
use Rattle.samples.specs.Samples.{SampleSequence, Samples}
use Rattle.samples.specs.Outputs.{room_left, Appended}

-- the bytes that a node begins with: its value and its child count
abbrev pub head_bytes : ℕ → Children → List ℕ
head_bytes v cs = number_bytes v ++ number_bytes (many cs)

-- the level of a node of state q with these children left to write
abbrev pub level_of : ℕ → Children → Level NodeKey
level_of q cs = record { left = many cs; at = State q }

-- these children are the last ones of a sample of q
pub record LastOf (A : Automaton) (q : ℕ) (cs : Children) : Type 0 where
  pub before : List ℕ
  pub sequence : SampleSequence A q (before ++ word cs)
  pub samples : Samples A q cs

-- the bytes are added, and then the levels are these; or none: they have no room_left
abbrev pub Leaves :
    List ℕ → List (Level NodeKey) → Output → Option (Unit {0}) → Stack (Level NodeKey) → Output → Type 0
Leaves bytes entries before (Some u) levels after = Appended bytes before after × (levels.entries ≡ entries)
Leaves bytes entries before None levels after = length before.bytes.now < before.place + length bytes

-- the node on top has no children left and ends; or the next one's symbol is added, and that child
-- begins
abbrev pub WritesNext :
    Automaton → List (Level NodeKey) → ℕ → Children → Output → Option (Unit {0})
    → Stack (Level NodeKey) → Output → Type 0
WritesNext A below q none before r levels after = (r ≡ Some tt) × (levels.entries ≡ below) × (after ≡ before)
WritesNext A below q (child a (node v ds) cs) before r levels after =
    (p : ℕ) × (A.next q a ≡ Some p)
    × Leaves (number_bytes a ++ head_bytes v ds) (below ++ level_of q cs ∷ level_of p ds ∷ [])
    before r levels after

-- how far writing is from its end: each turn takes bytes of the room_left, or a level
abbrev pub ahead : Stack (Level NodeKey) → Output → ℕ
ahead levels s = 2 * room_left s + length levels.entries
