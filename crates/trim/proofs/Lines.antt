-- Parts written one after the other, behind what was written before them. Assumes nothing.
use Rattle.std.proofs.Common.{◌≡◌, ℕ, ◌+◌, ◌-◌, ◌<◌, ◌≤◌, List, [], ◌∷◌, ◌++◌, length, get_or, take, drop, set, sym, ap, ◌∙◌, append-nil, add-one, arith}
use Rattle.std.proofs.Math.ListN.{drop_of_length-le}
use Rattle.std.proofs.lemmas.List.{drop-drop}
use Rattle.std.proofs.lemmas.List.FromFn.{fill_by_all}
use borrow.Rule.Slice.PartMut.{put_mid}
use Rattle.codec.specs.Numbers.{overwritten}
use Rattle.codec.proofs.Writing.{over_join}
use Rattle.trim.specs.Trimmed.{concat_below}
use Rattle.trim.proofs.Joined.{length_singles, get_or_singles}

-- a list with a number for each index
pub filled : (f : ℕ → ℕ) (n : ℕ) (line : List ℕ) → length line ≡ n → ((k : ℕ) → k < n → get_or line k 0 ≡ f k) → line ≡ concat_below n (λ a. f a ∷ [])
filled f n line long each = fill_by_all f line n 0 long each ∙ sym (fill_by_all f (concat_below n (λ a. f a ∷ [])) n 0 (length_singles f n) (λ k low. get_or_singles f n k 0 low))

-- bytes that are as long as the output
pub over_all : (out bytes : List ℕ) → length bytes ≡ length out → overwritten out 0 bytes ≡ bytes
over_all out bytes long =
    let low : length out ≤ 0 + length bytes = omega arith in
    ap (λ (l : List ℕ). bytes ++ l) (drop_of_length-le out low) ∙ append-nil bytes

-- a byte, and as many behind it as there is room for
pub after_first : (line rest : List ℕ) (b : ℕ) → length line ≡ length rest + 1 → put_mid 1 (length (set line 0 b) - 1) (set line 0 b) rest ≡ b ∷ rest
after_first [] rest b long = absurd (omega arith)
after_first (x ∷ line) rest b long =
    let low : length line ≤ length (b ∷ line) - 1 = omega arith in
    ap (λ (l : List ℕ). b ∷ (rest ++ l)) (drop_of_length-le line low) ∙ ap (λ (l : List ℕ). b ∷ l) (append-nil rest)

-- what is written in a part is written at its place
pub put_over : (out bytes : List ℕ) (p k : ℕ) → length bytes ≡ k → put_mid p k out bytes ≡ overwritten out p bytes
put_over out bytes p k long = ap (λ (l : List ℕ). take p out ++ (bytes ++ l)) (drop-drop k p out) ∙ ap (λ (n : ℕ). take p out ++ (bytes ++ drop (p + n) out)) (sym long)

-- one part more
pub part_more : (out : List ℕ) (part : ℕ → List ℕ) (k i : ℕ) (now : List ℕ) → now ≡ overwritten out 0 (concat_below k part) → i ≡ length (concat_below k part) → i ≤ length out → overwritten now i (part k) ≡ overwritten out 0 (concat_below (k + 1) part)
part_more out part k i now so place inside =
    let there : i ≡ 0 + length (concat_below k part) = omega arith in
    ap (λ (l : List ℕ). overwritten l i (part k)) so ∙ ap (λ (n : ℕ). overwritten (overwritten out 0 (concat_below k part)) n (part k)) there
    ∙ over_join out 0 (concat_below k part) (part k) (omega arith) ∙ ap (λ (n : ℕ). overwritten out 0 (concat_below n part)) (sym (add-one k))
