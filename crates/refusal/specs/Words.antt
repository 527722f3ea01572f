-- The words of the faults, by number. Assumes nothing.
use Rattle.std.specs.Prelude.{ℕ, ◌≤◌, List, [], ◌∷◌, ◌++◌, length, codes, decimal, slice_index_or}
use Rattle.refusal.specs.declared.fault.Layer.{Layer}
use Rattle.refusal.specs.declared.fault.Layer.TheVariants.{Tables, Area, Bytes}
use Rattle.refusal.specs.declared.fault.Refusal.{Refusal}
use Rattle.refusal.specs.Faults.{number, layer}

-- the words in the order of the numbers, from 0, which has no letters
abbrev pub words : List (List ℕ)
words =
    []
    ∷ codes "size" ∷ codes "state" ∷ codes "row" ∷ codes "domain" ∷ codes "range" ∷ codes "symbols"
    ∷ codes "busy" ∷ codes "worn" ∷ codes "foreign" ∷ codes "ousted" ∷ codes "schemas" ∷ codes "steps"
    ∷ codes "early" ∷ codes "scratch" ∷ codes "short" ∷ codes "number" ∷ codes "symbol" ∷ codes "deep"
    ∷ codes "rest" ∷ codes "room" ∷ codes "nothing" ∷ []

-- the letters for a number: none past the table's end
abbrev pub word_at : ℕ → List ℕ
word_at n = slice_index_or words n []

-- every word has at most ten letters
abbrev pub Short : Type 0
Short = (n : ℕ) → length (word_at n) ≤ 10

-- how a layer is printed
abbrev pub layer_word : Layer → List ℕ
layer_word Tables = codes "tables"
layer_word Area = codes "area"
layer_word Bytes = codes "bytes"

-- how a refusal is printed: number, word, layer and place, as in `5 range, tables, place 1`
abbrev pub printed : Refusal → List ℕ
printed e =
    decimal (number e.fault) ++ (codes " " ++ (word_at (number e.fault)
    ++ (codes ", " ++ (layer_word (layer e.fault) ++ (codes ", place " ++ decimal e.place)))))
