-- Samples written by levels: how a node begins, and one turn. Assumes nothing.
use Rattle.std.proofs.Common.{◌≡◌, ℕ, ◌+◌, ◌-◌, ◌<◌, Bool, true, List, [], ◌∷◌, ◌++◌, length, take, Some, None, Option, sym, refl, ap, ◌∙◌, subst, append_assoc, arith}
use Rattle.std.proofs.lemmas.Bool.{lt-ltb, cond-true}
use Rattle.std.proofs.lemmas.List.{length_push, take_at}
use Rattle.std.proofs.lemmas.Option.{same_Some}
use Rattle.std.specs.Bool.{then_some}
use Rattle.std.specs.List.{AllByRecursion}
use Rattle.codec.specs.declared.item.Level.{Level}
use Rattle.codec.specs.Encoding.{tree_bytes, children_bytes}
use Rattle.codec.specs.Numbers.{number_bytes}
use Rattle.codec.specs.Piles.{Stack, Pushed, Popped}
use Rattle.codec.specs.Trees.{Tree, node, Children, none, child, word, many}
use Rattle.schema.specs.Automata.{Automaton}
use Rattle.schema.specs.Live.{Live}
use Rattle.search.proofs.Orders.{one_first}
use Rattle.samples.specs.declared.node.NodeKey.{NodeKey}
use Rattle.samples.specs.declared.node.NodeKey.TheVariants.{State}
use Rattle.samples.specs.declared.output.Output.{Output}
use Rattle.samples.specs.Samples.{LowerSequence, SampleSequence, Sample}
use Rattle.samples.specs.Writing.{head_bytes, level_of, LastOf, Leaves, WritesNext}
use Rattle.samples.specs.Kept.{Root, RootOf}
use Rattle.samples.specs.Outputs.{Appended}
use Rattle.samples.proofs.Outputs.{added_more, crowded_more}
use Rattle.samples.proofs.Lengths.{many_symbols}
use Rattle.samples.proofs.Unique.{one_smallest}

module _ (A : Automaton) (q : ℕ) (r : Option Root) (root : Root) (found : (s : Root) × (r ≡ Some s) × RootOf A q s) (was : r ≡ Some root) where
  root_of : RootOf A q root
  root_of = let same : found.0 ≡ root = same_Some _ _ (sym found.1 ∙ was) in subst (RootOf A q) same found.2

  -- a root that was found for a state has the sequence of its sample
  pub root_word : (w : List ℕ) → SampleSequence A q w → root.word ≡ w
  root_word w s = one_first (LowerSequence A q) root.word w root_of.1 s

  -- and the value of its sample, and as many symbols as the sample has children
  pub root_head : (v : ℕ) (cs : Children) → Sample A q (node v cs) → (root.value ≡ v) × (length root.word ≡ many cs)
  root_head v cs s = (one_smallest (A.has q) root.value v root_of.0 s.0, ap length (root_word (word cs) s.1) ∙ sym (many_symbols cs))

-- what is so at each symbol of a sequence is so at one of them
all_at : (P : ℕ → Type 0) (before : List ℕ) (a : ℕ) (after : List ℕ) → AllByRecursion P (before ++ a ∷ after) → P a
all_at P [] a after all = all.0
all_at P (b ∷ before) a after all = all_at P before a after all.1

-- a state is live where its sample has a child
pub last_live : (A : Automaton) (q a : ℕ) (t : Tree) (cs : Children) → LastOf A q (child a t cs) → Live A q
last_live A q a t cs last = let rank = (all_at _ last.before a (word cs) last.sequence.passes.1).2.3 in (rank.0.0, rank.0.1)

module _ (v value count : ℕ) (cs : Children) (same : value ≡ v) (counted : count ≡ many cs) where
  heads : number_bytes value ++ number_bytes count ≡ head_bytes v cs
  heads = λ i. number_bytes (same i) ++ number_bytes (counted i)

  module _ (before : Output) where
    -- a node begins: its value, its child count, and its level
    pub begins : (after : Output) (q : ℕ) (levels levels' : Stack (Level NodeKey)) (r : Bool) → Appended (number_bytes value ++ number_bytes count) before after → Pushed levels (record { left = count; at = State q }) r levels' → 0 < length levels.free → Leaves (head_bytes v cs) (levels.entries ++ level_of q cs ∷ []) before (then_some r tt) levels' after
    begins after q levels levels' r written pushed space =
        let room : r ≡ true = pushed.room ∙ lt-ltb 0 (length levels.free) space in
        subst (λ (b : Bool). Leaves (head_bytes v cs) (levels.entries ++ level_of q cs ∷ []) before (then_some b tt) levels' after) (sym room) (
          subst (λ (l : List ℕ). Appended l before after) heads written,
          pushed.entries ∙ cond-true r _ _ room ∙ (λ i. levels.entries ++ (record { left = counted i; at = State q }) ∷ []),
        )

    -- or its value and child count have no room
    pub crowded_head : length before.bytes.now < before.place + length (number_bytes value ++ number_bytes count) → length before.bytes.now < before.place + length (head_bytes v cs)
    crowded_head short = subst (λ (l : List ℕ). length before.bytes.now < before.place + length l) heads short

-- a tree is a node
pub record AsNode (t : Tree) : Type 0 where
  pub value : ℕ
  pub children : Children
  pub is : t ≡ node value children

pub as_node : (t : Tree) → AsNode t
as_node (node v cs) = record { value = v; children = cs; is = refl }

-- its value's, its count's and its children's bytes are its own
pub node_whole : (v : ℕ) (cs : Children) → head_bytes v cs ++ children_bytes cs ≡ tree_bytes (node v cs)
node_whole v cs = append_assoc (number_bytes v) (number_bytes (many cs)) (children_bytes cs)

-- children that are more than none begin with one
pub record FirstChild (cs : Children) : Type 0 where
  pub symbol : ℕ
  pub value : ℕ
  pub below : Children
  pub others : Children
  pub split : cs ≡ child symbol (node value below) others

pub first_child : (cs : Children) → (many cs ≡ 0 → ⊥) → FirstChild cs
first_child none some = absurd (some refl)
first_child (child a (node v ds) cs) some = record { symbol = a; value = v; below = ds; others = cs; split = refl }

-- bytes added before others, and the levels that the others leave
pub leaves_more : (some more : List ℕ) (entries : List (Level NodeKey)) (before middle after : Output) (r : Option (Unit {0})) (levels : Stack (Level NodeKey)) → Appended some before middle → Leaves more entries middle r levels after → Leaves (some ++ more) entries before r levels after
leaves_more some more entries before middle after (Some u) levels w x = (added_more some more before middle w after x.0, x.1)
leaves_more some more entries before middle after None levels w short = crowded_more some more before middle w short

module _ (A : Automaton) (below : List (Level NodeKey)) (q : ℕ) (cs : Children) (before : Output) where
  -- a node without children left ends
  pub ends : (levels : Stack (Level NodeKey)) → many cs ≡ 0 → levels.entries ≡ below → WritesNext A below q cs before (Some tt) levels before
  ends levels done popped = by cs done
    where
      by : (ds : Children) → many ds ≡ 0 → WritesNext A below q ds before (Some tt) levels before
      by none done = (refl, popped, refl)
      by (child a t ds) done = absurd (omega (arith, done))

  module _ (f : FirstChild cs) (p : ℕ) (to : A.next q f.symbol ≡ Some p) (after : Output) (levels : Stack (Level NodeKey)) (r : Option (Unit {0})) where
    -- a node with some goes on with the first
    pub goes_on : Leaves (number_bytes f.symbol ++ head_bytes f.value f.below) (below ++ level_of q f.others ∷ level_of p f.below ∷ []) before r levels after → WritesNext A below q cs before r levels after
    goes_on leaves = subst (λ (ds : Children). WritesNext A below q ds before r levels after) (sym f.split) (p, to, leaves)

-- the level on top with one child less left
pub fewer_left : (q : ℕ) (cs : Children) (f : FirstChild cs) (l : Level NodeKey) → l ≡ level_of q cs → record { left = l.left - 1; at = l.at } ≡ level_of q f.others
fewer_left q cs f l is =
    let whole : l ≡ level_of q (child f.symbol (node f.value f.below) f.others) = is ∙ ap (level_of q) f.split in
    let left : l.left - 1 ≡ many f.others = omega (arith, ap (λ (m : Level NodeKey). m.left) whole) in
    let at : l.at ≡ State q = ap (λ (m : Level NodeKey). m.at) whole in
    λ i. record { left = left i; at = at i }

-- two levels on top
pub two_on_top : (entries below : List (Level NodeKey)) (x y : Level NodeKey) → entries ≡ below ++ x ∷ [] → entries ++ y ∷ [] ≡ below ++ x ∷ y ∷ []
two_on_top entries below x y is = ap (λ (l : List (Level NodeKey)). l ++ y ∷ []) is ∙ append_assoc below (x ∷ []) (y ∷ [])

-- what is left when one on top is taken off
pub popped_below : (before : Stack (Level NodeKey)) (below : List (Level NodeKey)) (x : Level NodeKey) (r : Option (Level NodeKey)) (after : Stack (Level NodeKey)) → before.entries ≡ below ++ x ∷ [] → Popped before r after → after.entries ≡ below
popped_below before below x r after is popped =
    let n = length before.entries - 1 in
    let long : length below ≡ n = omega (arith, ap length is ∙ length_push below x) in
    popped.entries ∙ ap (take n) is ∙ take_at below (x ∷ []) n long
