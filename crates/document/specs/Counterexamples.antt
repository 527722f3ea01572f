-- What is found of a counterexample, in the words of its two automata and its list of pairs. Assumes nothing.
use Rattle.std.specs.Prelude.{ℕ, Bool, List, Option}
use Rattle.codec.specs.declared.item.Level.{Level}
use Rattle.codec.specs.Trees.{Children}
use Rattle.schema.specs.Meaning.{meaning}
use Rattle.samples.specs.declared.node.NodeKey.{NodeKey}
use Rattle.samples.specs.Samples.{Samples}
use Rattle.compare.specs.Listing.{entries_of}
use Rattle.document.specs.declared.counterexample.Counterexample.{Counterexample}
use Rattle.document.specs.declared.trace.Step.{Step}
use Rattle.document.specs.Steps.{EndBytes, PathStep, StepsBack, Traced, TracesBack}

module _ {D : Type 0} (holds : D → ℕ → Bool) (c : Counterexample D) where
  -- a step of a path in the list
  abbrev pub StepIn : Type 0
  StepIn =
      PathStep (meaning holds c.compared.first.now) (meaning holds c.compared.second.now) (entries_of c.pairs.now)

  -- the children are samples of the first schema
  abbrev pub SamplesIn : ℕ → Children → Type 0
  SamplesIn = Samples (meaning holds c.compared.first.now)

  -- the step back from the pair at a place
  abbrev pub StepsBackIn : ℕ → Option Step → Type 0
  StepsBackIn =
      StepsBack (meaning holds c.compared.first.now) (meaning holds c.compared.second.now)
      (entries_of c.pairs.now)

  -- the bytes of the tree at the end, for the pair at a place
  abbrev pub EndBytesIn : ℕ → Option ℕ → Type 0
  EndBytesIn =
      EndBytes (meaning holds c.compared.first.now) (meaning holds c.compared.second.now)
      (entries_of c.pairs.now) c.kind

  -- the document for the pair at a place, its bytes, and the levels of the path to it
  abbrev pub TracedIn : ℕ → ℕ → List (Level NodeKey) → Type 0
  TracedIn =
      Traced (meaning holds c.compared.first.now) (meaning holds c.compared.second.now)
      (entries_of c.pairs.now) c.kind

  -- or there is none
  abbrev pub TracesBackIn : ℕ → Option ℕ → List (Level NodeKey) → Type 0
  TracesBackIn =
      TracesBack (meaning holds c.compared.first.now) (meaning holds c.compared.second.now)
      (entries_of c.pairs.now) c.kind
