-- Checking, tried on the inputs of the page on the encoding. Assumes nothing.
use Rattle.std.specs.Prelude.{◌≡◌, ℕ, Bool, true, false, List, [], ◌∷◌, Ok, Err, Result}
use Rattle.refusal.specs.declared.fault.Fault.{Fault}
use Rattle.refusal.specs.declared.fault.Fault.TheVariants as fault
use Rattle.refusal.specs.declared.fault.Refusal.{Refusal}
use Rattle.schema.specs.Examples.{no_child, any_of_first, astray, just_zero, zero_and_zero}
use Rattle.checking.specs.Checking.{checked}

-- the bytes, with so many levels, against the schema whose one state has the value 0 and may have
-- no child
abbrev pub asked : List ℕ → ℕ → Result Bool Refusal
asked bytes levels = checked no_child just_zero bytes levels

-- a refusal for a fault at a place
abbrev pub refused_at : Fault → ℕ → Result Bool Refusal
refused_at f p = Err (record { fault = f; place = p })

pub record SmallChecks : Type 0 where
  pub yes : asked (0 ∷ 0 ∷ []) 1 ≡ Ok true
  pub a_child : asked (0 ∷ 1 ∷ 0 ∷ 0 ∷ 0 ∷ []) 2 ≡ Ok false
  pub another_value : asked (1 ∷ 0 ∷ []) 1 ≡ Ok false
  pub long_zero : asked (128 ∷ 0 ∷ []) 1 ≡ refused_at fault.Number 0
  pub no_byte : asked [] 1 ≡ refused_at fault.Short 0
  pub no_count : asked (0 ∷ []) 1 ≡ refused_at fault.Short 1
  pub long_count : asked (0 ∷ 128 ∷ 0 ∷ []) 1 ≡ refused_at fault.Number 1
  pub no_symbol : asked (0 ∷ 1 ∷ 2 ∷ 0 ∷ 0 ∷ []) 2 ≡ refused_at fault.Symbol 2
  pub no_level : asked (0 ∷ 1 ∷ 0 ∷ 0 ∷ 0 ∷ []) 1 ≡ refused_at fault.Deep 3
  pub no_level_at_end : asked (0 ∷ 1 ∷ 0 ∷ []) 1 ≡ refused_at fault.Deep 3
  pub no_child_left : asked (0 ∷ 1 ∷ 0 ∷ []) 2 ≡ refused_at fault.Short 3
  pub bytes_left : asked (0 ∷ 0 ∷ 7 ∷ []) 1 ≡ refused_at fault.Rest 2
  -- a fault of the bytes goes before a no, and one of the tables before both
  pub no_and_bytes_left : asked (1 ∷ 0 ∷ 7 ∷ []) 1 ≡ refused_at fault.Rest 2
  pub tables_first : checked astray zero_and_zero [] 0 ≡ refused_at fault.State 1
  -- where any number of children is allowed, two of them
  pub two_children : checked any_of_first just_zero (0 ∷ 2 ∷ 0 ∷ 0 ∷ 0 ∷ 0 ∷ 0 ∷ 0 ∷ []) 2 ≡ Ok true
