-- The answer is that of a tree exactly where the bytes are its encoding. Assumes nothing.
use Rattle.std.proofs.Common.{◌≡◌, ℕ, ◌^◌, ◌<◌, ◌≤◌, Bool, List, [], ◌∷◌, length, Some, None, Ok, Err, Option, Result, refl, ap, ◌∙◌, arith}
use Rattle.std.specs.List.{AllByRecursion}
use Rattle.refusal.specs.declared.fault.Refusal.{Refusal}
use Rattle.codec.specs.Encoding.{Encodes}
use Rattle.codec.specs.Numbers.{Got, got, stop}
use Rattle.codec.specs.Reading.{read_all, read_tree, whole}
use Rattle.codec.specs.Trees.{Tree}
use Rattle.codec.proofs.Codes.{reads_encodings}
use Rattle.schema.specs.Automata.{Automaton, accepts}
use Rattle.schema.specs.Faults.{table_fault}
use Rattle.schema.specs.Tables.{Tables, automaton}
use Rattle.schema.proofs.Sizes.{sized, sound_size}
use Rattle.checking.specs.Checking.{checked, unless, verdict, ChecksTrees}

not_err : {e : Refusal} {b : Bool} → ◌≡◌ {A = Result Bool Refusal} (Err e) (Ok b) → ⊥
not_err e = let z : ◌≡◌ {A = ℕ} 0 1 = cc in omega arith

ok_same : {a b : Bool} → ◌≡◌ {A = Result Bool Refusal} (Ok a) (Ok b) → a ≡ b
ok_same e = cc

module _ (A : Automaton) (end s : ℕ) where
  -- a verdict comes of one tree with nothing after it
  read : (g : Got Tree) (b : Bool) → verdict A (whole end s g) ≡ Ok b → (t : Tree) × (g ≡ got t []) × (accepts A 0 t ≡ b)
  read (got t []) b h = (t, refl, ok_same h)
  read (got t (x ∷ xs)) b h = absurd (not_err h)
  read (stop e) b h = absurd (not_err h)

module _ (T : Tables) (domains : List (ℕ → Bool)) (bytes : List ℕ) (levels : ℕ) where
  -- a fault of the tables is the answer, and without one the verdict
  pub checked_faulty : (e : Refusal) → table_fault T ≡ Some e → checked T domains bytes levels ≡ Err e
  checked_faulty e fault = ap (λ o. unless o (verdict (automaton T domains) (read_all T.symbols levels bytes))) fault

  pub checked_sound : table_fault T ≡ None → checked T domains bytes levels ≡ verdict (automaton T domains) (read_all T.symbols levels bytes)
  checked_sound sound = ap (λ o. unless o (verdict (automaton T domains) (read_all T.symbols levels bytes))) sound

  answered : (b : Bool) (fault : Option Refusal) → AllByRecursion (λ x. x < 256) bytes → unless fault (verdict (automaton T domains) (read_all T.symbols levels bytes)) ≡ Ok b → (t : Tree) × Encodes T.symbols levels t bytes [] × (accepts (automaton T domains) 0 t ≡ b)
  answered b (Some e) small h = absurd (not_err h)
  answered b None small h =
      let r = read (automaton T domains) (length bytes) T.symbols (read_tree (length bytes) T.symbols levels bytes) b h in
      (r.0, reads_encodings.only (length bytes) T.symbols levels r.0 bytes [] small r.1, r.2)

pub checks_trees : ChecksTrees
checks_trees =
    record {
      answered = λ T domains bytes levels b small h. answered T domains bytes levels b (table_fault T) small h;
      told = λ T domains bytes levels t sound e.
          let few : T.symbols ≤ 2 ^ 32 = omega (arith, (sized T (sound_size T sound)).symbols.to) in
          checked_sound T domains bytes levels sound
          ∙ ap (λ g. verdict (automaton T domains) (whole (length bytes) T.symbols g)) (reads_encodings.back (length bytes) T.symbols levels t bytes [] few e);
    }
