-- The small schemas of the page on schemas, and what the definitions say of them. Assumes nothing.
use Rattle.std.specs.Prelude.{◌≡◌, ℕ, Bool, true, false, List, [], ◌∷◌, Some, None, nat_eq}
use Rattle.refusal.specs.declared.fault.Fault.TheVariants as fault
use Rattle.codec.specs.Trees.{Tree, node, none, child}
use Rattle.schema.specs.Automata.{Automaton, accepts}
use Rattle.schema.specs.Faults.{table_fault, either_fault, SchemaLimits}
use Rattle.schema.specs.Live.{Live, LiveSymbol, Rank}
use Rattle.schema.specs.Tables.{Tables, automaton}

-- two symbols and one state, which may have no child
abbrev pub no_child : Tables
no_child = record {
  symbols = 2;
  states = 1;
  rows = 1;
  domains = 1;
  transitions = 255 ∷ 255 ∷ [];
  state_table = 0 ∷ 1 ∷ 0 ∷ 0 ∷ [];
  row_table = 1 ∷ 255 ∷ 255 ∷ [];
}

-- two symbols and one state, which may have any number of children under symbol 0, back to itself
abbrev pub any_of_first : Tables
any_of_first = record {
  symbols = 2;
  states = 1;
  rows = 1;
  domains = 1;
  transitions = 0 ∷ 255 ∷ [];
  state_table = 0 ∷ 1 ∷ 0 ∷ 0 ∷ [];
  row_table = 1 ∷ 0 ∷ 255 ∷ [];
}

-- two symbols and one state, which demands exactly one child, under symbol 0 or 1, back to itself
abbrev pub one_of_two : Tables
one_of_two = record {
  symbols = 2;
  states = 1;
  rows = 2;
  domains = 1;
  transitions = 0 ∷ 0 ∷ [];
  state_table = 0 ∷ 2 ∷ 0 ∷ 0 ∷ [];
  row_table = 0 ∷ 1 ∷ 1 ∷ 1 ∷ 255 ∷ 255 ∷ [];
}

-- a book, state 0, of at least one page, state 1; its one symbol is the page
abbrev pub book : Tables
book = record {
  symbols = 1;
  states = 2;
  rows = 3;
  domains = 2;
  transitions = 1 ∷ 255 ∷ [];
  state_table = 0 ∷ 2 ∷ 0 ∷ 0 ∷ 1 ∷ 1 ∷ 2 ∷ 0 ∷ [];
  row_table = 0 ∷ 1 ∷ 1 ∷ 1 ∷ 1 ∷ 255 ∷ [];
}

-- the book with a transition to a state that there is not, at its page
abbrev pub astray : Tables
astray = record {
  symbols = 1;
  states = 2;
  rows = 3;
  domains = 2;
  transitions = 1 ∷ 2 ∷ [];
  state_table = 0 ∷ 2 ∷ 0 ∷ 0 ∷ 1 ∷ 1 ∷ 2 ∷ 0 ∷ [];
  row_table = 0 ∷ 1 ∷ 1 ∷ 1 ∷ 1 ∷ 255 ∷ [];
}

-- the book without its last row, so that the page's row lies past the row table
abbrev pub too_few_rows : Tables
too_few_rows = record {
  symbols = 1;
  states = 2;
  rows = 2;
  domains = 2;
  transitions = 1 ∷ 255 ∷ [];
  state_table = 0 ∷ 2 ∷ 0 ∷ 0 ∷ 1 ∷ 1 ∷ 2 ∷ 0 ∷ [];
  row_table = 0 ∷ 1 ∷ 1 ∷ 1 ∷ [];
}

-- the value 0 single_node, and that twice
abbrev pub just_zero : List (ℕ → Bool)
just_zero = (λ v. nat_eq v 0) ∷ []

abbrev pub zero_and_zero : List (ℕ → Bool)
zero_and_zero = (λ v. nat_eq v 0) ∷ (λ v. nat_eq v 0) ∷ []

-- a node of value 0 without children, and one with such a child under symbol 0
abbrev pub single_node : Tree
single_node = node 0 none

abbrev pub node_with_child : Tree
node_with_child = node 0 (child 0 single_node none)

-- a state that may have no empty sequence and leads only to itself is not live; so the example's
-- state is not
pub record LeadsBackDead : Type 0 where
  pub general :
      (A : Automaton) (q : ℕ) → A.ends q 0 ≡ false
      → ((a s : ℕ) → A.next q a ≡ Some s → s ≡ q) → Live A q → ⊥
  pub example : Live (automaton one_of_two just_zero) 0 → ⊥

-- which of the two trees each of the schemas accepts
pub record SmallAccepts : Type 0 where
  pub no_child_alone : accepts (automaton no_child just_zero) 0 single_node ≡ true
  pub no_child_above : accepts (automaton no_child just_zero) 0 node_with_child ≡ false
  pub first_alone : accepts (automaton any_of_first just_zero) 0 single_node ≡ true
  pub first_above : accepts (automaton any_of_first just_zero) 0 node_with_child ≡ true
  pub two_alone : accepts (automaton one_of_two just_zero) 0 single_node ≡ false
  pub two_above : accepts (automaton one_of_two just_zero) 0 node_with_child ≡ false
  pub book_alone : accepts (automaton book zero_and_zero) 0 single_node ≡ false
  pub book_above : accepts (automaton book zero_and_zero) 0 node_with_child ≡ true

-- which tables pass the test, and at which place the others are refused; of two faults the lower
-- number, of one number the first schema's
pub record SmallFaults : Type 0 where
  pub no_child_sound : table_fault no_child ≡ None
  pub first_sound : table_fault any_of_first ≡ None
  pub two_sound : table_fault one_of_two ≡ None
  pub book_sound : table_fault book ≡ None
  pub astray_page : table_fault astray ≡ Some (record { fault = fault.State; place = 1 })
  pub rows_of_page : table_fault too_few_rows ≡ Some (record { fault = fault.Row; place = 1 })
  pub state_of_second : either_fault too_few_rows astray ≡ Some (record { fault = fault.State; place = 1 })
  pub row_of_first : either_fault too_few_rows book ≡ Some (record { fault = fault.Row; place = 1 })

-- the ranks of the book and its page, and that the page's symbol is live at the book single_node
pub record BookRanks : Type 0 where
  pub of_book : Rank (automaton book zero_and_zero) 0 1
  pub of_page : Rank (automaton book zero_and_zero) 1 0
  pub symbol : LiveSymbol (automaton book zero_and_zero) 0 0
  pub no_symbol : LiveSymbol (automaton book zero_and_zero) 1 0 → ⊥

-- all that is said here
pub record SmallSchemas : Type 0 where
  pub accepting : SmallAccepts
  pub faults : SmallFaults
  pub ranks : BookRanks
  pub dead : LeadsBackDead
  pub limits : SchemaLimits
