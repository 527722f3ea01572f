-- A sample in the midst of being written: what is written, and what the levels say is left. Assumes nothing.
use Rattle.std.proofs.Common.{◌≡◌, ℕ, suc, ◌+◌, ◌<◌, ◌≤◌, List, [], ◌∷◌, ◌++◌, length, Some, None, sym, refl, ap, ◌∙◌, subst, append_assoc, arith}
use Rattle.std.proofs.lemmas.List.{append-nil, length_push}
use Rattle.std.proofs.lemmas.Option.{none-some, same_Some}
use Rattle.codec.specs.declared.item.Level.{Level}
use Rattle.codec.specs.Encoding.{tree_bytes, children_bytes}
use Rattle.codec.specs.Numbers.{number_bytes}
use Rattle.codec.specs.Piles.{Stack, slots}
use Rattle.codec.specs.Trees.{Tree, node, Children, none, child, word, many, heights}
use Rattle.schema.specs.Automata.{Automaton}
use Rattle.samples.specs.declared.node.NodeKey.{NodeKey}
use Rattle.samples.specs.declared.output.Output.{Output}
use Rattle.samples.specs.Samples.{SampleSequence, Sample}
use Rattle.samples.specs.Writing.{head_bytes, level_of, LastOf, WritesNext}
use Rattle.samples.specs.Outputs.{Appended}
use Rattle.samples.proofs.Growing.{Inside}
use Rattle.samples.proofs.Outputs.{added_more, crowded_more, crowded_front}

-- the children of a sample are its last ones
last_whole : (A : Automaton) (q v : ℕ) (cs : Children) → Sample A q (node v cs) → LastOf A q cs
last_whole A q v cs s = record { before = []; sequence = s.1; samples = s.2 }

-- and without the first of them the others are
last_others : (A : Automaton) (q a : ℕ) (t : Tree) (cs : Children) → LastOf A q (child a t cs) → LastOf A q cs
last_others A q a t cs last =
    record {
      before = last.before ++ a ∷ [];
      sequence = subst (SampleSequence A q) (sym (append_assoc last.before (a ∷ []) (word cs))) last.sequence;
      samples = last.samples.1;
    }

-- what is written of a node's next child, and what is left of it, of its brothers and of the others
regroup : (done a v m below brothers others : List ℕ) → done ++ ((a ++ ((v ++ (m ++ below)) ++ brothers)) ++ others) ≡ (done ++ (a ++ (v ++ m))) ++ (below ++ (brothers ++ others))
regroup done a v m below brothers others = simp append_assoc

module _ (A : Automaton) (n : ℕ) (base : List (Level NodeKey)) where
  -- the levels above some that were there before, with the bytes of the children left at each, the innermost node's first; so many levels
  -- are free, which is enough for each
  pub data Stacked : List (Level NodeKey) → ℕ → List ℕ → Type 0 where
    ground : (free : ℕ) → Stacked base free []
    above : (below : List (Level NodeKey)) (free : ℕ) (rest : List ℕ) (q : ℕ) (cs : Children) → q < n → LastOf A q cs → heights cs ≤ free → Stacked below (suc free) rest → Stacked (below ++ level_of q cs ∷ []) free (children_bytes cs ++ rest)

  on_base : (entries : List (Level NodeKey)) (free : ℕ) (rest : List ℕ) → Stacked entries free rest → length base ≤ length entries
  on_base entries free rest (ground f) = omega arith
  on_base entries free rest (above below f r q cs low last fits s) = omega (arith, length_push below (level_of q cs), on_base below (suc f) r s)

  -- down at those that were there before, nothing is left
  grounded : (entries : List (Level NodeKey)) (free : ℕ) (rest : List ℕ) → Stacked entries free rest → length entries ≤ length base → (entries ≡ base) × (rest ≡ [])
  grounded entries free rest (ground f) low = (refl, refl)
  grounded entries free rest (above below f r q cs inside last fits s) low = absurd (omega (arith, length_push below (level_of q cs), on_base below (suc f) r s, low))

  -- the level on top
  pub record Top (entries : List (Level NodeKey)) (free : ℕ) (rest : List ℕ) : Type 0 where
    pub below : List (Level NodeKey)
    pub state : ℕ
    pub children : Children
    pub others : List ℕ
    pub on : entries ≡ below ++ level_of state children ∷ []
    pub inside : state < n
    pub last : LastOf A state children
    pub fits : heights children ≤ free
    pub bytes : rest ≡ children_bytes children ++ others
    pub under : Stacked below (suc free) others

  topped : (entries : List (Level NodeKey)) (free : ℕ) (rest : List ℕ) → Stacked entries free rest → length base < length entries → Top entries free rest
  topped entries free rest (ground f) high = absurd (omega (arith, high))
  topped entries free rest (above below f r q cs inside last fits s) high =
      record { below = below; state = q; children = cs; others = r; on = refl; inside = inside; last = last; fits = fits; bytes = refl; under = s }

  -- some of the bytes are written on the output, and the levels have the rest
  pub record Underway (before : Output) (bytes : List ℕ) (levels : Stack (Level NodeKey)) (output : Output) : Type 0 where
    pub done : List ℕ
    pub rest : List ℕ
    pub whole : bytes ≡ done ++ rest
    pub added : Appended done before output
    pub stacked : Stacked levels.entries (length levels.free) rest

  -- a sample that has begun
  pub begun : (q v : ℕ) (cs : Children) → q < n → Sample A q (node v cs) → (before output : Output) (levels levels' : Stack (Level NodeKey)) → levels.entries ≡ base → heights cs < length levels.free → slots levels' ≡ slots levels → Appended (head_bytes v cs) before output → levels'.entries ≡ levels.entries ++ level_of q cs ∷ [] → Underway before (tree_bytes (node v cs)) levels' output
  begun q v cs low s before output levels levels' from fits same added on =
      let entries : levels'.entries ≡ base ++ level_of q cs ∷ [] = on ∙ ap (λ (l : List (Level NodeKey)). l ++ level_of q cs ∷ []) from in
      let free : length levels.free ≡ suc (length levels'.free) = omega (arith, same, ap length on, length_push levels.entries (level_of q cs)) in
      record {
        done = head_bytes v cs;
        rest = children_bytes cs ++ [];
        whole = sym (append_assoc (number_bytes v) (number_bytes (many cs)) (children_bytes cs)) ∙ ap (λ (l : List ℕ). head_bytes v cs ++ l) (sym (append-nil (children_bytes cs)));
        added = added;
        stacked = subst (λ (l : List (Level NodeKey)). Stacked l (length levels'.free) (children_bytes cs ++ [])) (sym entries)
            (above base (length levels'.free) [] q cs low (last_whole A q v cs s) (omega (arith, fits, free)) (ground (suc (length levels'.free))));
      }

  module _ (inside : Inside A n) (before : Output) (bytes : List ℕ) (levels : Stack (Level NodeKey)) (output : Output) (u : Underway before bytes levels output) where
    -- down at the levels that were there before, all is written
    pub finished : length levels.entries ≤ length base → Appended bytes before output × (levels.entries ≡ base)
    finished low =
        let g = grounded levels.entries (length levels.free) u.rest u.stacked low in (
          subst (λ (l : List ℕ). Appended l before output) (sym (u.whole ∙ ap (λ (l : List ℕ). u.done ++ l) g.1 ∙ append-nil u.done)) u.added,
          g.0,
        )

    -- above them, a node is on top
    pub going : length base < length levels.entries → Top levels.entries (length levels.free) u.rest
    going high = topped levels.entries (length levels.free) u.rest u.stacked high

    module _ (top : Top levels.entries (length levels.free) u.rest) where
      split : (cs : Children) → top.children ≡ cs → bytes ≡ u.done ++ (children_bytes cs ++ top.others)
      split cs is = u.whole ∙ ap (λ (l : List ℕ). u.done ++ l) (top.bytes ∙ ap (λ (ds : Children). children_bytes ds ++ top.others) is)

      module _ (levels' : Stack (Level NodeKey)) (output' : Output) where
        -- after a turn it is still so
        pub turned : slots levels' ≡ slots levels → WritesNext A top.below top.state top.children output (Some tt) levels' output' → Underway before bytes levels' output'
        turned same turns = by top.children refl turns
          where
            by : (cs : Children) → top.children ≡ cs → WritesNext A top.below top.state cs output (Some tt) levels' output' → Underway before bytes levels' output'
            by none is t =
                let free : suc (length levels.free) ≡ length levels'.free = omega (arith, same, ap length top.on, length_push top.below (level_of top.state top.children), ap length t.1) in
                record {
                  done = u.done;
                  rest = top.others;
                  whole = split none is;
                  added = subst (Appended u.done before) (sym t.2) u.added;
                  stacked = subst (λ (l : List (Level NodeKey)). Stacked l (length levels'.free) top.others) (sym t.1) (subst (λ (m : ℕ). Stacked top.below m top.others) free top.under);
                }
            by (child a (node v ds) cs) is t =
                let p = t.0 in
                let q = top.state in
                let last : LastOf A q (child a (node v ds) cs) = subst (LastOf A q) is top.last in
                let sample : Sample A p (node v ds) = subst (λ (s : ℕ). Sample A s (node v ds)) (same_Some _ _ (sym last.samples.0.1 ∙ t.1)) last.samples.0.2 in
                let m = length levels'.free in
                let two = length_push (top.below ++ level_of q cs ∷ []) (level_of p ds) in
                let entries : levels'.entries ≡ (top.below ++ level_of q cs ∷ []) ++ level_of p ds ∷ [] = t.2.1 ∙ sym (append_assoc top.below (level_of q cs ∷ []) (level_of p ds ∷ [])) in
                let free : length levels.free ≡ suc m = omega (arith, same, ap length top.on, length_push top.below (level_of q top.children), length_push top.below (level_of q cs), ap length entries, two) in
                let fits = ap heights is in
                let under : Stacked top.below (suc (suc m)) top.others = subst (λ (k : ℕ). Stacked top.below (suc k) top.others) free top.under in
                record {
                  done = u.done ++ (number_bytes a ++ head_bytes v ds);
                  rest = children_bytes ds ++ (children_bytes cs ++ top.others);
                  whole = split (child a (node v ds) cs) is ∙ regroup u.done (number_bytes a) (number_bytes v) (number_bytes (many ds)) (children_bytes ds) (children_bytes cs) top.others;
                  added = added_more u.done (number_bytes a ++ head_bytes v ds) before output u.added output' t.2.0;
                  stacked = subst (λ (l : List (Level NodeKey)). Stacked l m (children_bytes ds ++ (children_bytes cs ++ top.others))) (sym entries)
                      (above (top.below ++ level_of q cs ∷ []) m (children_bytes cs ++ top.others) p ds (inside q a p top.inside t.1) (last_whole A p v ds sample) (omega (arith, fits, top.fits, free))
                      (above top.below (suc m) top.others q cs top.inside (last_others A q a (node v ds) cs last) (omega (arith, fits, top.fits, free)) under));
                }

        -- where a turn's bytes have no room, all have none
        pub crowded : WritesNext A top.below top.state top.children output None levels' output' → length before.bytes.now < before.place + length bytes
        crowded turns = by top.children refl turns
          where
            by : (cs : Children) → top.children ≡ cs → WritesNext A top.below top.state cs output None levels' output' → length before.bytes.now < before.place + length bytes
            by none is t = absurd (none-some _ t.0)
            by (child a (node v ds) cs) is t =
                let some = u.done ++ (number_bytes a ++ head_bytes v ds) in
                let more = children_bytes ds ++ (children_bytes cs ++ top.others) in
                let whole : bytes ≡ some ++ more = split (child a (node v ds) cs) is ∙ regroup u.done (number_bytes a) (number_bytes v) (number_bytes (many ds)) (children_bytes ds) (children_bytes cs) top.others in
                subst (λ (l : List ℕ). length before.bytes.now < before.place + length l) (sym whole)
                (crowded_front some more before (crowded_more u.done (number_bytes a ++ head_bytes v ds) before output u.added t.2))
