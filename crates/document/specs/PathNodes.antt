-- A node that a document's path passes through. Assumes nothing.
use Rattle.std.specs.Prelude.{List, ◌∷◌, ◌++◌}
use Rattle.codec.specs.Trees.{word}
use Rattle.schema.specs.Automata.{Automaton}
use Rattle.compare.specs.declared.pairs.Listed.{Listed}
use Rattle.document.specs.declared.write.PathNode.{PathNode}
use Rattle.document.specs.Steps.{PathStep}

-- of a step: the first state that it leaves, the symbol by which it goes on, its value and its
-- children's symbols
abbrev pub path_node_of : {A B : Automaton} {es : List Listed} → PathStep A B es → PathNode
path_node_of s = record {
  state = s.from.first;
  symbol = s.pair.symbol;
  node = record {
    value = s.context.value;
    word = word s.context.before ++ s.pair.symbol ∷ word s.context.after;
  };
}
