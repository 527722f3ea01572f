-- Bytes written one after the other at a place of an output. Assumes nothing.
use Rattle.std.proofs.Common.{◌≡◌, ℕ, ◌+◌, ◌<◌, ◌≤◌, List, [], ◌∷◌, ◌++◌, length, get_or, take, drop, set, sym, ap, ◌∙◌, append_assoc, arith, take-append-drop}
use Rattle.std.proofs.lemmas.List.{length-append, length-drop, length-take-le, take_at, take_more, drop_at, drop-drop, drop_more, set_at}
use Rattle.codec.specs.Numbers.{overwritten}

-- the first i of the bytes stand in the output from p on, and nothing else has changed
abbrev pub Upto : List ℕ → ℕ → List ℕ → ℕ → List ℕ → Type 0
Upto before p bytes i out = out ≡ take p before ++ (take i bytes ++ drop (p + i) before)

pub upto_none : (before : List ℕ) (p : ℕ) (bytes : List ℕ) → Upto before p bytes 0 before
upto_none before p bytes = sym (take-append-drop p before) ∙ ap (λ (n : ℕ). take p before ++ drop n before) (omega arith)

-- one byte more
pub upto_more : (before : List ℕ) (p : ℕ) (bytes : List ℕ) (i : ℕ) (out : List ℕ) → i < length bytes → p + length bytes ≤ length before → Upto before p bytes i out → Upto before p bytes (i + 1) (set out (p + i) (get_or bytes i 0))
upto_more before p bytes i out more room upto =
    let front = take p before ++ take i bytes in
    let b = get_or bytes i 0 in
    let tail = drop (p + i + 1) before in
    let inside : p + i < length before = omega arith in
    let long : length front ≡ p + i = length-append (take p before) (take i bytes) ∙ omega (arith, length-take-le p before (omega arith), length-take-le i bytes (omega arith)) in
    let split : out ≡ front ++ get_or before (p + i) 0 ∷ tail =
    upto ∙ sym (append_assoc (take p before) (take i bytes) (drop (p + i) before)) ∙ ap (λ (l : List ℕ). front ++ l) (drop_more before (p + i) 0 inside) in
    let next : p + i + 1 ≡ p + (i + 1) = omega arith in
    ap (λ (l : List ℕ). set l (p + i) b) split ∙ set_at front _ tail b (p + i) long
    ∙ append_assoc (take p before) (take i bytes) (b ∷ tail)
    ∙ ap (λ (l : List ℕ). take p before ++ l) (sym (append_assoc (take i bytes) (b ∷ []) tail) ∙ ap (λ (l : List ℕ). l ++ tail) (sym (take_more bytes i 0 more)))
    ∙ ap (λ (n : ℕ). take p before ++ (take (i + 1) bytes ++ drop n before)) next

-- what was written, and what was there, as one list
over_front : (out : List ℕ) (p : ℕ) (bytes : List ℕ) → overwritten out p bytes ≡ (take p out ++ bytes) ++ drop (p + length bytes) out
over_front out p bytes = sym (append_assoc (take p out) bytes (drop (p + length bytes) out))

front_length : (out : List ℕ) (p : ℕ) (bytes : List ℕ) → p ≤ length out → length (take p out ++ bytes) ≡ p + length bytes
front_length out p bytes inside = length-append (take p out) bytes ∙ ap (λ (n : ℕ). n + length bytes) (length-take-le p out inside)

pub over_none : (out : List ℕ) (p : ℕ) → overwritten out p [] ≡ out
over_none out p = sym (upto_none out p [])

-- an output stays as long as it is
pub over_length : (out : List ℕ) (p : ℕ) (bytes : List ℕ) → p + length bytes ≤ length out → length (overwritten out p bytes) ≡ length out
over_length out p bytes room =
    ap length (over_front out p bytes) ∙ length-append (take p out ++ bytes) (drop (p + length bytes) out)
    ∙ omega (arith, front_length out p bytes (omega arith), length-drop (p + length bytes) out)

-- bytes written behind bytes
pub over_join : (out : List ℕ) (p : ℕ) (bytes more : List ℕ) → p + length bytes ≤ length out → overwritten (overwritten out p bytes) (p + length bytes) more ≡ overwritten out p (bytes ++ more)
over_join out p bytes more room =
    let front = take p out ++ bytes in
    let m = p + length bytes in
    let long = front_length out p bytes (omega arith) in
    let tail = drop (m + length more) out in
    let rest : drop (m + length more) (front ++ drop m out) ≡ tail =
    sym (drop-drop (length more) m (front ++ drop m out)) ∙ ap (drop (length more)) (drop_at front (drop m out) m long) ∙ drop-drop (length more) m out in
    let same : m + length more ≡ p + length (bytes ++ more) = omega (arith, length-append bytes more) in
    ap (λ (l : List ℕ). overwritten l m more) (over_front out p bytes)
    ∙ ap (λ (l : List ℕ). l ++ (more ++ drop (m + length more) (front ++ drop m out))) (take_at front (drop m out) m long)
    ∙ ap (λ (l : List ℕ). front ++ (more ++ l)) rest
    ∙ append_assoc (take p out) bytes (more ++ tail)
    ∙ ap (λ (l : List ℕ). take p out ++ l) (sym (append_assoc bytes more tail))
    ∙ ap (λ (n : ℕ). take p out ++ ((bytes ++ more) ++ drop n out)) same

-- one byte written behind bytes
pub over_set : (out : List ℕ) (p : ℕ) (bytes : List ℕ) (b : ℕ) → p + length bytes < length out → set (overwritten out p bytes) (p + length bytes) b ≡ overwritten out p (bytes ++ b ∷ [])
over_set out p bytes b room =
    let front = take p out ++ bytes in
    let m = p + length bytes in
    let tail = drop (m + 1) out in
    let same : m + 1 ≡ p + length (bytes ++ b ∷ []) = omega (arith, length-append bytes (b ∷ [])) in
    ap (λ (l : List ℕ). set l m b) (over_front out p bytes ∙ ap (λ (l : List ℕ). front ++ l) (drop_more out m 0 room))
    ∙ set_at front _ tail b m (front_length out p bytes (omega arith))
    ∙ append_assoc (take p out) bytes (b ∷ tail)
    ∙ ap (λ (l : List ℕ). take p out ++ l) (sym (append_assoc bytes (b ∷ []) tail))
    ∙ ap (λ (n : ℕ). take p out ++ ((bytes ++ b ∷ []) ++ drop n out)) same
