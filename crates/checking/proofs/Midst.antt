-- A reader and an answer in the middle of a tree. Assumes nothing.
use Rattle.std.proofs.Common.{◌≡◌, ℕ, ◌+◌, ◌-◌, ◌*◌, ◌<◌, ◌≤◌, Bool, List, length, Some, Ok, Err, Option, Result, sym, ap, ◌∙◌, subst, ⊎_elim, arith, Bor}
use Rattle.std.specs.Option.{unwrap_or}
use Rattle.std.proofs.lemmas.List.{length-append, length_push}
use Rattle.refusal.specs.declared.fault.Fault.TheVariants as fault
use Rattle.refusal.specs.declared.fault.Refusal.{Refusal}
use Rattle.codec.specs.declared.item.Item.{Item}
use Rattle.codec.specs.declared.item.Item.TheVariants.{Value, Symbol, End}
use Rattle.codec.specs.declared.item.Level.{Level}
use Rattle.codec.specs.Items.{Progress, input, midway, Hands, Walks}
use Rattle.codec.specs.Piles.{slots, topmost}
use Rattle.codec.specs.Reading.{read_all}
use Rattle.codec.proofs.Slots.{topmost_of}
use Rattle.schema.specs.Automata.{Automaton}
use Rattle.checking.specs.declared.cursor.Cursor.{Cursor}
use Rattle.checking.specs.Checking.{verdict}
use Rattle.checking.specs.Steps.{answer_if, may_end, TakesSymbol}
use Rattle.checking.proofs.Stepping.{Unmoved, unmoved}
use Rattle.checking.proofs.Outcome.{outcome, on_value, on_end, on_strange, on_symbol, on_node_fault, on_symbol_fault}

module _ (A : Automaton) (s : ℕ) (tree : List ℕ) (room : ℕ) where
  abbrev pub the_verdict : Result Bool Refusal
  the_verdict = verdict A (read_all s room tree)

  -- the outcome of what is left is the verdict on the tree
  pub record Midst (p : Progress Cursor) (answer : Option ℕ) : Type 0 where
    pub is : the_verdict ≡ outcome A (length tree) s room p.fresh answer p.levels.entries p.left
    pub same_input : input p ≡ tree
    pub same_room : slots p.levels ≡ room

  module _ (p : Progress Cursor) (answer : Option ℕ) (midst : Midst p answer) where
    abbrev cursor : Cursor
    cursor = record { state = unwrap_or answer 0; row = 0 }

    module _ (r : Result (Option Item) Refusal) (p' : Progress Cursor) (w : Walks cursor p r p') where
      -- what was handed out, over the whole tree
      handed : Hands (length tree) room cursor (midway p) r (midway p')
      handed =
          subst (λ (n : ℕ). Hands n room cursor (midway p) r (midway p')) (ap length midst.same_input)
          (subst (λ (n : ℕ). Hands (length (input p)) n cursor (midway p) r (midway p')) midst.same_room w.hands)

      carried : (answer' : Option ℕ) → outcome A (length tree) s room p.fresh answer p.levels.entries p.left ≡ outcome A (length tree) s room p'.fresh answer' p'.levels.entries p'.left → Midst p' answer'
      carried answer' is = record { is = midst.is ∙ is; same_input = w.same_input ∙ midst.same_input; same_room = w.same_room ∙ midst.same_room }

    pub stops : (e : Refusal) (p' : Progress Cursor) → Walks cursor p (Err e) p' → the_verdict ≡ Err e
    stops e p' w =
        midst.is
        ∙ ⊎_elim (on_node_fault A (length tree) s room answer (midway p) e) (on_symbol_fault A (length tree) s room answer (midway p) e) (handed (Err e) p' w).0

    pub after_value : (v n : ℕ) (part : Bor (List ℕ)) (p' : Progress Cursor) → Walks cursor p (Ok (Some (Value v n part))) p' → Midst p' (answer_if answer (λ q. A.has q v))
    after_value v n part p' w = carried _ p' w _ (on_value A (length tree) s room answer (midway p) (midway p') v n part.now (handed _ p' w))

    pub after_end : (p' : Progress Cursor) → Walks cursor p (Ok (Some End)) p' → Midst p' (answer_if answer (λ _. may_end A (topmost p.levels.entries)))
    after_end p' w =
        let c = handed _ p' w in
        let top = ap topmost c.on ∙ topmost_of p'.levels.entries c.top in
        carried _ p' w _
        (on_end A (length tree) s room answer (midway p) (midway p') c (omega (arith, midst.same_room))
        ∙ ap (λ (o : Option (Level Cursor)). outcome A (length tree) s room p'.fresh (answer_if answer (λ _. may_end A o)) p'.levels.entries p'.left) (sym top))

    module _ (x : ℕ) (part : Bor (List ℕ)) (p' : Progress Cursor) (w : Walks cursor p (Ok (Some (Symbol x part))) p') where
      pub strange : s ≤ x → the_verdict ≡ Err (record { fault = fault.Symbol; place = length p.read })
      strange past =
          let here : length tree - length p.left ≡ length p.read = omega (arith, sym (ap length midst.same_input) ∙ length-append p.read p.left) in
          midst.is ∙ on_strange A (length tree) s room answer (midway p) (midway p') x part.now (handed _ p' w) past ∙ ap (λ (n : ℕ). Err (record { fault = fault.Symbol; place = n })) here

      module _ (answer' : Option ℕ) (p'' : Progress Cursor) (steps : TakesSymbol A x answer (topmost p'.levels.entries) p' answer' p'') where
        stood : Unmoved p' p''
        stood = unmoved A x answer (topmost p'.levels.entries) p' answer' p'' steps

        pub after_symbol : x < s → Midst p'' answer'
        after_symbol inside =
            record {
              is = midst.is ∙ on_symbol A (length tree) s room answer (midway p) p' x part.now (handed _ p' w) inside answer' p'' steps;
              same_input = stood.same_input ∙ w.same_input ∙ midst.same_input;
              same_room = stood.same_room ∙ w.same_room ∙ midst.same_room;
            }

        -- bytes were taken, and no level
        pub less_symbol : 2 * length p''.left + length p''.levels.entries < 2 * length p.left + length p.levels.entries
        less_symbol =
            let o = w.hands in
            omega (
              arith,
              ap length stood.same_left,
              stood.same_depth,
              o.some,
              ap length o.slice ∙ length-append part.now p'.left,
              ap length o.fewer ∙ length_push o.below _,
              ap length o.on ∙ length_push o.below _,
            )
