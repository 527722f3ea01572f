-- What a comparison writes: once it is apart its list and its broken pair stay, so all is written
-- along one path. Assumes nothing.
use Rattle.std.proofs.Common.{◌≡◌, ℕ, ◌-◌, true, false, ◌&&◌, List, [], ◌∷◌, length, Ok, is_ok, sym, refl, ap, ◌∙◌, subst, inl, inr, ⊎_elim}
use Rattle.std.specs.List.{AllByRecursion, slice_get}
use Rattle.std.proofs.lemmas.Bool.{and_parts, both_ways, or_cases, false≢true}
use Rattle.std.proofs.lemmas.List.{length-map}
use Rattle.std.proofs.lemmas.Option.{none-some}
use Rattle.codec.specs.Numbers.{overwritten}
use Rattle.codec.specs.Trees.{Tree}
use Rattle.schema.specs.Automata.{Automaton}
use Rattle.schema.specs.Live.{LivePath}
use Rattle.schema.proofs.Sound.{first_none}
use Rattle.search.specs.Paths.{word_of}
use Rattle.search.proofs.Paths.{one_path}
use Rattle.compare.specs.declared.area.Area.{Area}
use Rattle.compare.specs.declared.claim.Numbers.{Numbers}
use Rattle.compare.specs.declared.event.Event.TheVariants.{Write}
use Rattle.compare.specs.declared.pairs.Listed.{Listed}
use Rattle.compare.specs.declared.phase.Kind.{Kind}
use Rattle.compare.specs.declared.phase.Phase.{Phase}
use Rattle.compare.specs.declared.phase.Phase.TheVariants as phase
use Rattle.compare.specs.Concluding.{claim_refusal}
use Rattle.compare.specs.Invariant.{StatePath, LastBroken, Stands}
use Rattle.compare.specs.Listing.{pair_links}
use Rattle.compare.specs.Trailing.{Trail, broken_index}
use Rattle.compare.specs.View.{View, view}
use Rattle.compare.proofs.Invariant.{last_index}
use Rattle.document.specs.Documents.{DocumentOf}
use Rattle.document.proofs.Accepting.{built_tells}
use Rattle.history.specs.Calls.{Handed, first_automaton, second_automaton, Same, Call, trail, document, Does, Runs, same_numbers, is_made_with, some_own, is_writing, StepsOver}
use Rattle.history.specs.Comparisons.{Comparison, own_call, StepsOverItsOwn}
use Rattle.history.specs.Law.{BrokenInList, WordWritten, DocumentWritten, WritesTrail, WritesDocument, WroteBy, Wrote}
use Rattle.history.proofs.Counting.{is_apart}
use Rattle.history.proofs.Effects.{Effect, Steps, Parts, effect, step_none}
use Rattle.history.proofs.Holders.{stands_by, Gone, not_holders, gone_on, Standing, stands_on}
use Rattle.history.proofs.Permits.{Held, claim_permitted, document_permitted, write_apart}
use Rattle.history.proofs.Transport.{same_first, same_second}
use Rattle.history.proofs.Verdicts.{InvariantFor, Known, known_on, begun_known}

-- who writes with an accepted trail or document: the holder of an area that is apart
record Writer (d : Call) (w : View) : Type 0 where
  numbers : Numbers
  holds : Held numbers w
  made : (n : Numbers) → is_made_with n d ≡ same_numbers n numbers
  apart : (k : Kind) × (w.phase ≡ phase.Apart k)

writer : (d : Call) (a a' : Area) → Does d a a' → is_writing d ≡ true → Writer d (view a)
writer (trail m o (Ok size) o') a a' does so =
    let may = claim_permitted (view a) m Write (first_none (claim_refusal (view a) m Write) _ does.0.2.0).0 in
    record { numbers = m; holds = may.0; made = λ n. refl; apart = write_apart (view a) may.1 }
writer (document m h slots levels o (Ok size) o') a a' does so =
    ⊎_elim
    (λ refused. absurd (false≢true (sym (ap is_ok refused.2))))
    (λ found.
    let may = document_permitted (view a) m h.first h.second slots levels found.0 in
    record { numbers = m; holds = may.0; made = λ n. refl; apart = write_apart (view a) may.1 })
    does.0
writer d a a' does so = absurd (false≢true so)

-- who writes has not ended
gone_unwritten :
    (n : Numbers) (d : Call) (a a' : Area) → Does d a a' → Gone n (view a) → is_made_with n d ≡ true →
    is_writing d ≡ true → ⊥
gone_unwritten n d a a' does gone its so =
    let w = writer d a a' does so in
    not_holders n (view a) w.numbers gone w.holds (sym (w.made n) ∙ its)

same_kind : (k j : Kind) → phase.Apart k ≡ phase.Apart j → k ≡ j
same_kind k j same = cc

module _ (g : Handed) (b : BrokenInList g) where
  -- the area is apart, with this list and this broken pair
  record Fixed (w : View) : Type 0 where
    apart : w.phase ≡ phase.Apart b.kind
    pairs : w.pairs ≡ b.pairs
    index : broken_index w ≡ b.index

  abbrev FixedIn : Area → Type 0
  FixedIn a = Fixed (view a)

  still_on : (n : Numbers) (d : Call) (a a' : Area) → Effect d a a' → Standing n FixedIn a → Standing n FixedIn a'
  still_on n d a a' e = stands_on n FixedIn FixedIn (λ k fixed. subst FixedIn (sym k.same) fixed) stepped parted e
    where
      stepped : (s : Steps d a a') → same_numbers n s.numbers ≡ true → FixedIn a → FixedIn a'
      stepped s its fixed =
          let still : a.phase ≡ phase.Running → ⊥ = λ runs. false≢true (ap is_apart (sym runs ∙ fixed.apart)) in
          subst Fixed (sym (step_none s still)) fixed

      parted : Parts d a a' → FixedIn a → FixedIn a'
      parted p fixed = absurd (false≢true (ap is_apart (sym p.does.1.0 ∙ fixed.apart)))

  -- the same document of the same schemas, list and pair
  moved :
      (h : Handed) (k : Kind) (w : View) (v : List Listed) (t : Tree) → Same g h → w.phase ≡ phase.Apart k → Fixed w →
      DocumentOf (first_automaton h) (second_automaton h) k w.pairs (broken_index w) v t →
      DocumentOf (first_automaton g) (second_automaton g) b.kind b.pairs b.index v t
  moved h k w v t same apart fixed d =
      subst (λ (X : Automaton). DocumentOf X (second_automaton g) b.kind b.pairs b.index v t) (sym (same_first g h same))
      (subst (λ (Y : Automaton). DocumentOf (first_automaton h) Y b.kind b.pairs b.index v t) (sym (same_second g h same))
      (subst (λ (j : Kind). DocumentOf (first_automaton h) (second_automaton h) j b.pairs b.index v t) (same_kind k b.kind (sym apart ∙ fixed.apart))
      (subst (λ (fs : List Listed). DocumentOf (first_automaton h) (second_automaton h) k fs b.index v t) fixed.pairs
      (subst (λ (j : ℕ). DocumentOf (first_automaton h) (second_automaton h) k w.pairs j v t) fixed.index d))))

  -- where the area is apart so, an accepted trail writes the word of the path
  fixed_trail :
      (m : Numbers) (o : List ℕ) (size : ℕ) (o' : List ℕ) (a a' : Area) → Does (trail m o (Ok size) o') a a' → FixedIn a →
      WordWritten b.path o size o'
  fixed_trail m o size o' a a' does fixed =
      let t = does.0 in
      let there : Trail b.pairs b.index t.0 = subst (λ (j : ℕ). Trail b.pairs j t.0) fixed.index (subst (λ (es : List Listed). Trail es (broken_index (view a)) t.0) fixed.pairs t.1) in
      let same : t.0 ≡ word_of pair_links b.path = sym there.2 ∙ ap (word_of pair_links) (one_path pair_links b.pairs b.index there.0 b.path there.1 b.leads) in
      record { answer = t.2.1 ∙ ap length same ∙ length-map b.path (λ (e : Listed). e.symbol); bytes = t.2.2 ∙ ap (overwritten o 0) same }

  -- and an accepted document the tree along it
  fixed_document :
      (m : Numbers) (h : Handed) (slots levels : ℕ) (o : List ℕ) (size : ℕ) (o' : List ℕ) (a a' : Area) →
      Does (document m h slots levels o (Ok size) o') a a' → Same g h → FixedIn a → DocumentWritten g b o size o'
  fixed_document m h slots levels o size o' a a' does same fixed =
      ⊎_elim
      (λ refused. absurd (false≢true (sym (ap is_ok refused.2))))
      (λ answer.
      let A = first_automaton g in
      let B = second_automaton g in
      let d = answer.1.0 in
      let its = moved h d.document.0 (view a) d.path d.tree same d.document.1 fixed d.document.2 in
      let here = one_path pair_links b.pairs b.index d.path b.path its.leads b.leads in
      let along : DocumentOf A B b.kind b.pairs b.index b.path d.tree = subst (λ (v : List Listed). DocumentOf A B b.kind b.pairs b.index v d.tree) here its in
      let told = built_tells A B b.kind 0 0 b.path d.tree along.built in
      record { tree = d.tree; document = along; first = told.0; second = told.1; answer = answer.1.1.0; bytes = answer.1.1.3 })
      does.0

module _ (g : Handed) (n : Numbers) (b : BrokenInList g) where
  -- what is said of a call
  record Writes (d : Call) : Type 0 where
    trail : WritesTrail n b.path d
    document : WritesDocument n g b d

  -- nothing of one that does not write
  unwritten : (d : Call) → (is_made_with n d ≡ true → is_writing d ≡ true → ⊥) → Writes d
  unwritten (trail m o (Ok size) o') not = record { trail = λ its. absurd (not its refl); document = tt }
  unwritten (document m h slots levels o (Ok size) o') not = record { trail = tt; document = λ its same. absurd (not its refl) }
  unwritten d not = record { trail = tt; document = tt }

  -- where the area is apart so, the two write along the path
  fixed_writes : (d : Call) (a a' : Area) → Does d a a' → FixedIn g b a → Writes d
  fixed_writes (trail m o (Ok size) o') a a' does fixed = record { trail = λ its. fixed_trail g b m o size o' a a' does fixed; document = tt }
  fixed_writes (document m h slots levels o (Ok size) o') a a' does fixed =
      record { trail = tt; document = λ its same. fixed_document g b m h slots levels o size o' a a' does same fixed }
  fixed_writes d a a' does fixed = record { trail = tt; document = tt }

  -- so does each call from there on
  one_writes : (d : Call) (a a' : Area) → Does d a a' → Standing n (FixedIn g b) a → Writes d
  one_writes d a a' does (inl now) = fixed_writes d a a' does now.1
  one_writes d a a' does (inr gone) = unwritten d (gone_unwritten n d a a' does gone)

  record Written (cs : List Call) (now : Area) : Type 0 where
    trails : AllByRecursion (WritesTrail n b.path) cs
    documents : AllByRecursion (WritesDocument n g b) cs
    still : Standing n (FixedIn g b) now

  all_written : (cs : List Call) (a now : Area) → Runs cs a now → Standing n (FixedIn g b) a → Written cs now
  all_written [] a now runs still = record { trails = tt; documents = tt; still = subst (Standing n (FixedIn g b)) (sym runs) still }
  all_written (d ∷ cs) a now runs still =
      let here = one_writes d a runs.0 runs.1 still in
      let rest = all_written cs runs.0 now runs.2 (still_on g b n d a runs.0 (effect d a runs.0 runs.1) still) in
      record { trails = (here.trail, rest.trails); documents = (here.document, rest.documents); still = rest.still }

  -- that is what it has written
  wrote_all : (cs : List Call) (a now : Area) → Runs cs a now → Held n (view a) → FixedIn g b a → WroteBy g n cs now
  wrote_all cs a now runs held fixed =
      let written = all_written cs a now runs (inl (held, fixed)) in
      record {
        found = b;
        trails = written.trails;
        documents = written.documents;
        apart = λ holds. (stands_by n (FixedIn g b) now written.still holds).apart;
        listed = λ holds. (stands_by n (FixedIn g b) now written.still holds).pairs;
        breaks = λ holds. (stands_by n (FixedIn g b) now written.still holds).index;
      }

-- the broken pair of an area that is apart, in a comparison of these schemas
broken_in : (g : Handed) (a : Area) (k : Kind) → InvariantFor g a → a.phase ≡ phase.Apart k → (b : BrokenInList g) × FixedIn g b a
broken_in g a k invariant apart = (
  record {
    pairs = w.pairs;
    starts = ⊎_elim (λ root. root.1) (λ none. absurd (none-some _ (sym (ap (λ (l : List Listed). slice_get l i) none.1) ∙ last.at))) invariant.rooted;
    index = i;
    entry = last.pair;
    at = last.at;
    kind = k;
    broken = last.broken;
    path = reached.1.0;
    leads = reached.1.1;
    live = subst (λ (v : List ℕ). LivePath (first_automaton g) 0 v last.pair.first) (sym reached.1.2) reached.2;
    beside = subst (λ (v : List ℕ). StatePath (second_automaton g) 0 v last.pair.second) (sym reached.1.2) reached.3;
  },
  record { apart = apart; pairs = refl; index = last_index (first_automaton g) (second_automaton g) w k last },
)
  where
    w : View
    w = view a

    i : ℕ
    i = w.examined - 1

    last : LastBroken (first_automaton g) (second_automaton g) w k
    last = subst (Stands (first_automaton g) (second_automaton g) w) apart invariant.stands

    reached : (v : List ℕ) × Trail w.pairs i v × LivePath (first_automaton g) 0 v last.pair.first × StatePath (second_automaton g) 0 v last.pair.second
    reached = invariant.reached i last.pair last.at

module _ (g : Handed) (n : Numbers) where
  -- one call more before them, which does not write
  wrote_later :
      (d : Call) (cs : List Call) (now : Area) → (is_made_with n d ≡ true → is_writing d ≡ true → ⊥) →
      WroteBy g n cs now → WroteBy g n (d ∷ cs) now
  wrote_later d cs now not w =
      let none = unwritten g n w.found d not in
      record { found = w.found; trails = (none.trail, w.trails); documents = (none.document, w.documents); apart = w.apart; listed = w.listed; breaks = w.breaks }

  -- from an area on that is apart
  wrote_from :
      (cs : List Call) (a now : Area) (k : Kind) → Runs cs a now → Held n (view a) → InvariantFor g a →
      a.phase ≡ phase.Apart k → WroteBy g n cs now
  wrote_from cs a now k runs held invariant apart =
      let found = broken_in g a k invariant apart in
      wrote_all g n found.0 cs a now runs held found.1

  -- where it has ended it writes no more
  gone_none :
      (cs : List Call) (a now : Area) → Runs cs a now → Gone n (view a) →
      some_own n is_writing cs ≡ true → ⊥
  gone_none [] a now runs gone so = false≢true so
  gone_none (d ∷ cs) a now runs gone so =
      ⊎_elim
      (λ here. let parts = and_parts (is_made_with n d) (is_writing d) here in gone_unwritten n d a runs.0 runs.1 gone parts.0 parts.1)
      (λ later. gone_none cs runs.0 now runs.2 (gone_on n (effect d a runs.0 runs.1) gone) later)
      (or_cases (is_made_with n d && is_writing d) (some_own n is_writing cs) so)

  -- before that it has written nothing
  wrote_before :
      (d : Call) (cs : List Call) (a m now : Area) → Does d a m → is_apart a.phase ≡ false →
      some_own n is_writing (d ∷ cs) ≡ true → (some_own n is_writing cs ≡ true → WroteBy g n cs now) →
      WroteBy g n (d ∷ cs) now
  wrote_before d cs a m now does not so rest =
      ⊎_elim
      (λ here. let parts = and_parts (is_made_with n d) (is_writing d) here in absurd (none parts.0 parts.1))
      (λ later. wrote_later d cs now none (rest later))
      (or_cases (is_made_with n d && is_writing d) (some_own n is_writing cs) so)
    where
      none : is_made_with n d ≡ true → is_writing d ≡ true → ⊥
      none its writes = both_ways (is_apart a.phase) not (ap is_apart (writer d a m does writes).apart.1)

  written_by :
      (cs : List Call) (a now : Area) → Runs cs a now → AllByRecursion (StepsOver n g) cs →
      Known g n a → some_own n is_writing cs ≡ true → WroteBy g n cs now
  written_by [] a now runs over known so = absurd (false≢true so)
  written_by (d ∷ cs) a now runs over (inr gone) so = absurd (gone_none (d ∷ cs) a now runs gone so)
  written_by (d ∷ cs) a now runs over (inl known) so =
      by a.phase refl (written_by cs runs.0 now runs.2 over.1 (known_on g n d a runs.0 over.0 (effect d a runs.0 runs.1) (inl known)))
    where
      by :
          (p : Phase) → a.phase ≡ p → (some_own n is_writing cs ≡ true → WroteBy g n cs now) →
          WroteBy g n (d ∷ cs) now
      by (phase.Apart k) is rest = wrote_from (d ∷ cs) a now k runs known.0 known.1 is
      by p is rest = wrote_before d cs a runs.0 now runs.1 (ap is_apart is) so rest

pub written : (a : Area) (c : Comparison a) → StepsOverItsOwn c → own_call c is_writing ≡ true → Wrote c
written a c over so = written_by c.schemas c.claim c.since c.begun c.now c.goes_on over (begun_known c) so
