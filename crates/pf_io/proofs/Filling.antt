-- A buffer that is filled one part after the other.
use Rattle.std.proofs.Common.{◌≡◌, ℕ, ◌+◌, ◌-◌, ◌≤◌, List, [], ◌++◌, length, take, drop, sym, ◌∙◌, ap, arith, length-append, length-drop}
use borrow.Rule.Slice.PartMut.{put_mid}
use Rattle.std.proofs.Math.Seq.{drop-append-add}
use Rattle.std.proofs.lemmas.List.{length-take-le, drop_all, append-nil, drop-drop}

-- a part from `filled` on was written up to n bytes, and kept behind them
pub kept_behind : (filled n : ℕ) (to part first : List ℕ) → filled ≤ length to → length part ≡ length (drop filled to) → n ≤ length part → drop n part ≡ drop n (drop filled to) → drop filled to ≡ drop filled first
    → drop (filled + n) (put_mid filled (length to - filled) to part) ≡ drop (filled + n) first
kept_behind filled n to part first le len fits same kept =
    let front : length (take filled to) ≡ filled = length-take-le filled to le in
    let behind : drop (length to - filled) (drop filled to) ≡ [] = drop_all (length to - filled) (drop filled to) (omega (arith, length-drop filled to)) in
    ap (λ (k : ℕ). drop (k + n) (take filled to ++ (part ++ drop (length to - filled) (drop filled to)))) (sym front)
    ∙ drop-append-add (take filled to) (part ++ drop (length to - filled) (drop filled to)) n
    ∙ ap (λ (l : List ℕ). drop n (part ++ l)) behind
    ∙ ap (λ (l : List ℕ). drop n l) (append-nil part)
    ∙ same
    ∙ ap (λ (l : List ℕ). drop n l) kept
    ∙ drop-drop n filled first
    ∙ ap (λ (k : ℕ). drop k first) (omega arith)

pub length_filled : (filled : ℕ) (to part : List ℕ) → filled ≤ length to → length part ≡ length (drop filled to) → length (put_mid filled (length to - filled) to part) ≡ length to
length_filled filled to part le len =
    omega (arith, length-append (take filled to) (part ++ drop (length to - filled) (drop filled to)), length-append part (drop (length to - filled) (drop filled to)), length-take-le filled to le, length-drop filled to, length-drop (length to - filled) (drop filled to))
