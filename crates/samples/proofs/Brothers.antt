-- Children that are samples, in the midst of being written one after the other. Assumes nothing.
use Rattle.std.proofs.Common.{◌≡◌, ℕ, ◌+◌, ◌<◌, ◌≤◌, List, [], ◌∷◌, ◌++◌, length, get_or, drop, Some, sym, refl, ap, ◌∙◌, subst, append_assoc, arith}
use Rattle.std.proofs.lemmas.List.{append-nil, drop_more}
use Rattle.std.proofs.Math.ListN.{drop_of_length-le}
use Rattle.codec.specs.Encoding.{tree_bytes, children_bytes}
use Rattle.codec.specs.Numbers.{number_bytes}
use Rattle.codec.specs.Trees.{Tree, Children, none, child, word, height, heights}
use Rattle.schema.specs.Automata.{Automaton}
use Rattle.samples.specs.declared.output.Output.{Output}
use Rattle.samples.specs.Samples.{Sample, Samples}
use Rattle.samples.specs.Outputs.{Within, Appended}
use Rattle.samples.proofs.Outputs.{added_none, added_more, crowded_more, crowded_front}

-- the first child under some symbols, of which there are more than none
record First (A : Automaton) (q a : ℕ) (w : List ℕ) (cs : Children) : Type 0 where
  pub tree : Tree
  pub others : Children
  pub is : cs ≡ child a tree others
  pub symbols : word others ≡ w

first : (A : Automaton) (q a : ℕ) (w : List ℕ) (cs : Children) → word cs ≡ a ∷ w → First A q a w cs
first A q a w none is = absurd (cc)
first A q a w (child b t cs) is =
    let head : b ≡ a = cc in
    let tail : word cs ≡ w = cc in
    record { tree = t; others = cs; is = ap (λ (c : ℕ). child c t cs) head; symbols = tail }

module _ (A : Automaton) (q : ℕ) (w : List ℕ) (free : ℕ) (before : Output) (bytes : List ℕ) where
  -- the children under the first i symbols are written, and those under the others are left
  pub record Partly (i : ℕ) (output : Output) : Type 0 where
    pub done : List ℕ
    pub left : Children
    pub whole : bytes ≡ done ++ children_bytes left
    pub symbols : word left ≡ drop i w
    pub samples : Samples A q left
    pub fits : heights left ≤ free
    pub added : Appended done before output

  -- at the start all are left
  pub unwritten : (cs : Children) → Samples A q cs → word cs ≡ w → heights cs ≤ free → Within before → bytes ≡ children_bytes cs → Partly 0 before
  unwritten cs s symbols fits within is =
      record { done = []; left = cs; whole = is; symbols = symbols; samples = s; fits = fits; added = added_none before within }

  -- at the end none are
  pub all_written : (i : ℕ) (output : Output) → length w ≤ i → Partly i output → Appended bytes before output
  all_written i output past p =
      let over : word p.left ≡ [] = p.symbols ∙ drop_of_length-le w past in
      subst (λ (l : List ℕ). Appended l before output) (sym (p.whole ∙ ap (λ (cs : Children). p.done ++ children_bytes cs) (none_left p.left over) ∙ append-nil p.done)) p.added
    where
      none_left : (cs : Children) → word cs ≡ [] → cs ≡ none
      none_left none is = refl
      none_left (child a t cs) is = absurd (cc)

  -- the next child, under the symbol at i
  pub record Next (i : ℕ) (output : Output) (p : Partly i output) : Type 0 where
    pub tree : Tree
    pub others : Children
    pub split : p.left ≡ child (get_or w i 0) tree others
    pub symbols : word others ≡ drop (i + 1) w
    pub state : ℕ
    pub leads : A.next q (get_or w i 0) ≡ Some state
    pub sample : Sample A state tree
    pub after : Samples A q others
    pub fits : height tree < free
    pub others_fit : heights others ≤ free

  pub next : (i : ℕ) (output : Output) (p : Partly i output) → i < length w → Next i output p
  next i output p inside =
      let f = first A q (get_or w i 0) (drop (i + 1) w) p.left (p.symbols ∙ drop_more w i 0 inside) in
      let samples : Samples A q (child (get_or w i 0) f.tree f.others) = subst (Samples A q) f.is p.samples in
      let high = ap heights f.is in
      record {
        tree = f.tree;
        others = f.others;
        split = f.is;
        symbols = f.symbols;
        state = samples.0.0;
        leads = samples.0.1;
        sample = samples.0.2;
        after = samples.1;
        fits = omega (arith, high, p.fits);
        others_fit = omega (arith, high, p.fits);
      }

  module _ (i : ℕ) (output : Output) (p : Partly i output) (n : Next i output p) where
    abbrev symbol : List ℕ
    symbol = number_bytes (get_or w i 0)

    split : bytes ≡ ((p.done ++ symbol) ++ tree_bytes n.tree) ++ children_bytes n.others
    split = p.whole ∙ ap (λ (cs : Children). p.done ++ children_bytes cs) n.split ∙ regroup p.done symbol (tree_bytes n.tree) (children_bytes n.others)
      where
        regroup : (a b c d : List ℕ) → a ++ (b ++ (c ++ d)) ≡ ((a ++ b) ++ c) ++ d
        regroup a b c d = simp append_assoc

    -- its symbol has no room
    pub crowded_symbol : length output.bytes.now < output.place + length symbol → length before.bytes.now < before.place + length bytes
    crowded_symbol short =
        subst (λ (l : List ℕ). length before.bytes.now < before.place + length l) (sym (split ∙ append_assoc (p.done ++ symbol) (tree_bytes n.tree) (children_bytes n.others)))
        (crowded_front (p.done ++ symbol) (tree_bytes n.tree ++ children_bytes n.others) before (crowded_more p.done symbol before output p.added short))

    module _ (middle : Output) (written : Appended symbol output middle) where
      -- or its tree
      pub crowded_tree : length middle.bytes.now < middle.place + length (tree_bytes n.tree) → length before.bytes.now < before.place + length bytes
      crowded_tree short =
          subst (λ (l : List ℕ). length before.bytes.now < before.place + length l) (sym split)
          (crowded_front ((p.done ++ symbol) ++ tree_bytes n.tree) (children_bytes n.others) before (crowded_more (p.done ++ symbol) (tree_bytes n.tree) before middle (added_more p.done symbol before output p.added middle written) short))

      -- the child is written
      pub one_more : (after : Output) → Appended (tree_bytes n.tree) middle after → Partly (i + 1) after
      one_more after tree =
          record {
            done = (p.done ++ symbol) ++ tree_bytes n.tree;
            left = n.others;
            whole = split;
            symbols = n.symbols;
            samples = n.after;
            fits = n.others_fit;
            added = added_more (p.done ++ symbol) (tree_bytes n.tree) before middle (added_more p.done symbol before output p.added middle written) after tree;
          }
