-- The small schemas, tried. Assumes nothing.
use Rattle.std.proofs.Common.{◌≡◌, ℕ, ◌+◌, ◌≤◌, true, ◌&&◌, List, [], ◌∷◌, ◌++◌, refl, arith}
use Rattle.std.proofs.lemmas.Bool.{and_parts, false≢true}
use Rattle.std.proofs.Math.Nat.{le-max_left}
use Rattle.codec.specs.Trees.{Tree, node, none, child, height, heights}
use Rattle.schema.specs.Automata.{present, row_runs, has_next, allowed, accepts, accepts_all}
use Rattle.schema.specs.Examples.{book, zero_and_zero, single_node, node_with_child, SmallSchemas}
use Rattle.schema.specs.Tables.{automaton}
use Rattle.schema.proofs.Dead.{leads_back_dead}

-- a tree that the book accepts has a page
book_high : (t : Tree) → accepts (automaton book zero_and_zero) 0 t ≡ true → 1 ≤ height t
book_high (node v none) h =
    let A = automaton book zero_and_zero in
    let content = and_parts (A.has 0 v) (allowed A 0 [] && accepts_all A 0 none) h in
    let parts = and_parts (allowed A 0 []) (accepts_all A 0 none) content.1 in
    absurd (false≢true (and_parts (row_runs A 0 0 []) (has_next A 0 []) parts.0).0)
book_high (node v (child a t cs)) h = omega (arith, le-max_left (height t + 1) (heights cs))

-- no sequence that holds the page's symbol has a next state at the page
no_page_below : (u v : List ℕ) → has_next (automaton book zero_and_zero) 1 (u ++ 0 ∷ v) ≡ true → ⊥
no_page_below [] v h = let A = automaton book zero_and_zero in false≢true (and_parts (present (A.next 1 0)) (has_next A 1 v) h).0
no_page_below (a ∷ u) v h = let A = automaton book zero_and_zero in no_page_below u v (and_parts (present (A.next 1 a)) (has_next A 1 (u ++ 0 ∷ v)) h).1

pub small_schemas : SmallSchemas
small_schemas =
    record {
      accepting = record {
        no_child_alone = refl;
        no_child_above = refl;
        first_alone = refl;
        first_above = refl;
        two_alone = refl;
        two_above = refl;
        book_alone = refl;
        book_above = refl;
      };
      faults = record {
        no_child_sound = refl;
        first_sound = refl;
        two_sound = refl;
        book_sound = refl;
        astray_page = refl;
        rows_of_page = refl;
        state_of_second = refl;
        row_of_first = refl;
      };
      ranks = record {
        of_book = ((node_with_child, refl, refl), book_high);
        of_page = ((single_node, refl, refl), λ t h. omega arith);
        symbol = ([], [], (refl, ((1, refl, (single_node, refl)), tt)));
        no_symbol = λ l.
            let A = automaton book zero_and_zero in
            let w = l.0 ++ 0 ∷ l.1 in
            no_page_below l.0 l.1 (and_parts (row_runs A 1 0 w) (has_next A 1 w) l.2.0).1;
      };
      dead = leads_back_dead;
      limits = record { symbols = refl; states = refl; rows = refl; domains = refl; rows_of_a_state = refl; bytes_of_a_state = refl; none = refl };
    }
