-- What a word says where a list is wanted. Assumes nothing.
use Rattle.std.specs.Prelude.{◌≡◌, ℕ, ◌+◌, ◌⊎◌, ◌≢◌, ◌==◌, List, [], codes, count_by, Some, None, Err, Result, IfOk, IfErr, Vec, vec_len}
use Rattle.std.specs.declared.alloc.Global.{Global}
use Rattle.notation.specs.Words.{Word}
use Rattle.notation.specs.declared.trouble.Trouble.{Trouble}
use Rattle.notation.specs.declared.trouble.Trouble.TheVariants.{Unreadable, Ended, Memory}

-- the text of an empty list
abbrev pub dash : List ℕ
dash = codes "-"

-- how many parts the commas make of a text
abbrev pub part_count : List ℕ → ℕ
part_count text = count_by (λ b. b == 44) text + 1

-- a list is wanted: `-` says an empty one, and any other word one of as many items as it has parts,
-- or it is unreadable
abbrev pub ListOf : {A : Type 0} → Word → Result (Vec A Global) Trouble → Type 0
ListOf (Some w) r =
    (w.now ≡ dash → IfOk r (λ v. v.items ≡ []))
    × (w.now ≢ dash → IfOk r (λ v. vec_len v ≡ part_count w.now))
    × IfErr r (λ e. (e ≡ Memory) ⊎ (e ≡ Unreadable w))
ListOf None r = r ≡ Err Ended
