-- What a read gives and what it leaves, and what several reads do together.
use Rattle.std.proofs.Common.{◌≡◌, ℕ, ◌+◌, ◌-◌, ◌<◌, ◌≤◌, List, [], ◌++◌, min, length, take, drop, sym, ap, ◌∙◌, arith, drop-drop, length-take-le}
use Rattle.std.proofs.Math.Seq.{take-append_seam, take-append-add}
use Rattle.std.proofs.lemmas.List.{take-append-drop, take-append-le, drop_all}
use borrow.Rule.Slice.PartMut.{put_mid, post_of}

-- the octets read stand at the front of the buffer, and they and what is left are what was left before
pub read_and_left : (bytes copied rest : List ℕ) (at n : ℕ) → length copied ≡ n → copied ≡ take n (drop at bytes)
    → drop at bytes ≡ take n (copied ++ rest) ++ drop (at + n) bytes
read_and_left bytes copied rest at n long same =
    sym (take-append-drop n (drop at bytes))
    ∙ ap (λ front. front ++ drop n (drop at bytes)) (sym same ∙ sym (take-append_seam copied rest) ∙ ap (λ k. take k (copied ++ rest)) long)
    ∙ ap (λ back. take n (copied ++ rest) ++ back) (drop-drop n at bytes)

-- a read that may take something and takes nothing was made at the end
pub nothing_left : (bytes : List ℕ) (at n room piece : ℕ) → 0 < room → 0 < piece → n ≡ min (min room piece) (length bytes - at) → n ≡ 0
    → drop (at + n) bytes ≡ []
nothing_left bytes at n room piece some any is none = drop_all (at + n) bytes (omega arith)

-- count octets stood at the front of a slice, and n more were put behind them
pub front_grows : (xs part : List ℕ) (count k n : ℕ) → count ≤ length xs → n ≤ length part
    → take count xs ++ take n part ≡ take (count + n) (put_mid count k xs part)
front_grows xs part count k n within fits =
    let front = take count xs in
    let behind = post_of count k xs in
    sym
    (ap (λ m. take (m + n) (put_mid count k xs part)) (sym (length-take-le count xs within))
    ∙ take-append-add front (part ++ behind) n
    ∙ ap (λ ys. front ++ ys) (take-append-le n part behind fits))
