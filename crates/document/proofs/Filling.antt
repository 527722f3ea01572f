-- The tree of a context with the part that goes on, and a tree that splits into the two. Assumes nothing.
use Rattle.std.proofs.Common.{◌≡◌, ℕ, List}
use Rattle.codec.specs.Trees.{Tree, node, Children, none, child}
use Rattle.schema.specs.Automata.{Automaton}
use Rattle.compare.specs.declared.pairs.Listed.{Listed}
use Rattle.compare.specs.declared.phase.Kind.{Kind}
use Rattle.document.specs.Contexts.{Context}
use Rattle.document.specs.Documents.{Built}

-- children, and others after them
abbrev pub followed_by : Children → Children → Children
followed_by none ds = ds
followed_by (child a t cs) ds = child a t (followed_by cs ds)

module _ (A B : Automaton) where
  -- the tree of a context with the part that goes on
  abbrev pub filled : {p q : ℕ} {e : Listed} → Context A B p q e → Tree → Tree
  filled {e} f part = node f.value (followed_by f.before (child e.symbol part f.after))

  -- a tree built along a path that goes on to the listed pair splits into a context and the part
  -- built from there on
  pub record Split (k : Kind) (p q : ℕ) (e : Listed) (path : List Listed) (t : Tree) : Type 0 where
    pub context : Context A B p q e
    pub part : Tree
    pub built : Built A B k e.first e.second path part
    pub whole : t ≡ filled context part
