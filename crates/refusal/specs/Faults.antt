-- The faults: which number and which layer each has. Assumes nothing.
use Rattle.std.specs.Prelude.{◌≡◌, ℕ, ◌+◌, ◌-◌, ◌<◌, List, [], ◌∷◌, length, slice_index_or}
use Rattle.refusal.specs.declared.fault.Fault.{Fault}
use Rattle.refusal.specs.declared.fault.Fault.TheVariants.{Size, State, Row, Domain, Range, Symbols, Busy, Worn, Foreign, Ousted, Schemas, Steps, Early, Scratch, Short, Number, Symbol, Deep, Rest, Room, Nothing}
use Rattle.refusal.specs.declared.fault.Layer.{Layer}
use Rattle.refusal.specs.declared.fault.Layer.TheVariants.{Tables, Area, Bytes}

-- the number of each fault
abbrev pub number : Fault → ℕ
number Size = 1
number State = 2
number Row = 3
number Domain = 4
number Range = 5
number Symbols = 6
number Busy = 7
number Worn = 8
number Foreign = 9
number Ousted = 10
number Schemas = 11
number Steps = 12
number Early = 13
number Scratch = 14
number Short = 15
number Number = 16
number Symbol = 17
number Deep = 18
number Rest = 19
number Room = 20
number Nothing = 21

-- the faults in the order of their numbers
abbrev pub faults : List Fault
faults =
    Size ∷ State ∷ Row ∷ Domain ∷ Range ∷ Symbols ∷ Busy ∷ Worn ∷ Foreign ∷ Ousted ∷ Schemas
    ∷ Steps ∷ Early ∷ Scratch ∷ Short ∷ Number ∷ Symbol ∷ Deep ∷ Rest ∷ Room ∷ Nothing ∷ []

-- the numbers are 1 to 21, and each is the number of one fault
pub record Numbered : Type 0 where
  pub many : length faults ≡ 21
  pub own : (f : Fault) → slice_index_or faults (number f - 1) Size ≡ f
  pub used : (n : ℕ) → n < 21 → number (slice_index_or faults n Size) ≡ n + 1

-- the layer that each fault lies in
abbrev pub layer : Fault → Layer
layer Size = Tables
layer State = Tables
layer Row = Tables
layer Domain = Tables
layer Range = Tables
layer Symbols = Tables
layer Busy = Area
layer Worn = Area
layer Foreign = Area
layer Ousted = Area
layer Schemas = Area
layer Steps = Area
layer Early = Area
layer Scratch = Area
layer Short = Bytes
layer Number = Bytes
layer Symbol = Bytes
layer Deep = Bytes
layer Rest = Bytes
layer Room = Bytes
layer Nothing = Tables
