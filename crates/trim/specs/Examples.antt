-- Trimming, tried on small schemas. Assumes nothing.
use Rattle.std.specs.Prelude.{◌≡◌, true, false, [], ◌∷◌, ◌==◌, ◌||◌}
use Rattle.refusal.specs.declared.fault.Fault.TheVariants.{Nothing}
use Rattle.schema.specs.Examples.{no_child, any_of_first, book, zero_and_zero}
use Rattle.schema.specs.Tables.{Tables}
use Rattle.trim.specs.Outcome.{NothingLeft}
use Rattle.trim.specs.Trimmed.{trimmed}

-- a state with any number of children, under symbol 0 at state 1 and under symbol 1 at state 2;
-- those two have no child and share a row
abbrev pub two_leaves : Tables
two_leaves = record {
  symbols = 2;
  states = 3;
  rows = 2;
  domains = 1;
  transitions = 1 ∷ 2 ∷ 255 ∷ 255 ∷ 255 ∷ 255 ∷ [];
  state_table = 0 ∷ 1 ∷ 0 ∷ 0 ∷ 0 ∷ 1 ∷ 1 ∷ 0 ∷ 0 ∷ 1 ∷ 1 ∷ 0 ∷ [];
  row_table = 1 ∷ 0 ∷ 0 ∷ 1 ∷ 255 ∷ 255 ∷ [];
}

-- the same over symbol 1 alone: state 2 is state 1 now
abbrev pub one_leaf : Tables
one_leaf = record {
  symbols = 2;
  states = 2;
  rows = 2;
  domains = 1;
  transitions = 255 ∷ 1 ∷ 255 ∷ 255 ∷ [];
  state_table = 0 ∷ 1 ∷ 0 ∷ 0 ∷ 0 ∷ 1 ∷ 1 ∷ 0 ∷ [];
  row_table = 1 ∷ 255 ∷ 0 ∷ 1 ∷ 255 ∷ 255 ∷ [];
}

-- the same over both symbols: the row that two states shared stands there for each of them
abbrev pub unshared : Tables
unshared = record {
  symbols = 2;
  states = 3;
  rows = 3;
  domains = 1;
  transitions = 1 ∷ 2 ∷ 255 ∷ 255 ∷ 255 ∷ 255 ∷ [];
  state_table = 0 ∷ 1 ∷ 0 ∷ 0 ∷ 0 ∷ 1 ∷ 1 ∷ 0 ∷ 0 ∷ 1 ∷ 2 ∷ 0 ∷ [];
  row_table = 1 ∷ 0 ∷ 0 ∷ 1 ∷ 255 ∷ 255 ∷ 1 ∷ 255 ∷ 255 ∷ [];
}

-- no child is allowed, although symbol 0 leads back
abbrev pub idle : Tables
idle = record {
  symbols = 2;
  states = 1;
  rows = 1;
  domains = 1;
  transitions = 0 ∷ 255 ∷ [];
  state_table = 0 ∷ 1 ∷ 0 ∷ 0 ∷ [];
  row_table = 1 ∷ 255 ∷ 255 ∷ [];
}

-- what is left of small schemas, where the kept states are given; a permitted transition to a kept
-- state stays where its symbol is not live
pub record SmallTrims : Type 0 where
  pub no_symbol : trimmed any_of_first (λ a. false) (λ q. (q == 0)) ≡ no_child
  pub all_of_book : trimmed book (λ a. true) (λ q. (q == 0) || (q == 1)) ≡ book
  pub second_symbol : trimmed two_leaves (λ a. (a == 1)) (λ q. (q == 0) || (q == 2)) ≡ one_leaf
  pub both_symbols : trimmed two_leaves (λ a. true) (λ q. (q == 0) || (q == 1) || (q == 2)) ≡ unshared
  pub idle_stays : trimmed idle (λ a. true) (λ q. (q == 0)) ≡ idle
  pub book_without_pages :
      NothingLeft book zero_and_zero (λ a. false) (record { fault = Nothing; place = 0 })
