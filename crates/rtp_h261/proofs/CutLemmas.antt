-- The parts of a list of packets with one packet more.
use Rattle.std.proofs.Common.{◌≡◌, ◌⊎◌, ℕ, zero, suc, ◌<◌, ◌≤◌, Bool, true, false, if◌then◌else◌, List, [], ◌∷◌, ◌++◌, Option, None, Some, inl, inr, length, refl, sym, ap, ◌∙◌, arith, append-nil}
use Rattle.rtp_h261.specs.Units.{Piece, Part, Skipped, Run, is_starter, goes_on, run_behind, part_at, more, cut_parts, last_piece}
use Rattle.rtp_h261.specs.OneByOne.{last_part}

-- ---- the last part alone changes

abbrev pub grow : Part → Piece → List Part
grow (Skipped q) p = Skipped q ∷ part_at p [] ∷ []
grow (Run s ps) p = if goes_on s.stamp (last_piece s ps) p then Run s (ps ++ p ∷ []) ∷ [] else Run s ps ∷ part_at p [] ∷ []

abbrev pub extend : List Part → Piece → List Part
extend [] p = part_at p [] ∷ []
extend (x ∷ []) p = grow x p
extend (x ∷ y ∷ ys) p = x ∷ extend (y ∷ ys) p

extend_skipped : (q : Piece) (xs : List Part) (p : Piece) → extend (Skipped q ∷ xs) p ≡ Skipped q ∷ extend xs p
extend_skipped q [] p = refl
extend_skipped q (x ∷ xs) p = refl

extend_more : (x : Part) (xs : List Part) (p : Piece) → 0 < length xs → extend (x ∷ xs) p ≡ x ∷ extend xs p
extend_more x [] p some = absurd (omega (arith, some))
extend_more x (y ∷ ys) p some = refl

-- ---- the longest run

-- the run was all of the packets, and goes on or not; or it ended before, and stays
abbrev Ran : (r s ps tail : List Piece) → Type 0
Ran r s ps tail = ((r ≡ ps) × (s ≡ ps ++ tail)) ⊎ ((length r < length ps) × (s ≡ r))

ran_step : (b : Bool) (q : Piece) (r s ps tail : List Piece) → Ran r s ps tail → Ran (if b then q ∷ r else []) (if b then q ∷ s else []) (q ∷ ps) tail
ran_step true q r s ps tail (inl h) = inl (ap (λ (xs : List Piece). q ∷ xs) h.0, ap (λ (xs : List Piece). q ∷ xs) h.1)
ran_step true q r s ps tail (inr h) = inr (omega (arith, h.0), ap (λ (xs : List Piece). q ∷ xs) h.1)
ran_step false q r s ps tail h = inr (omega arith, refl)

abbrev tail : Bool → Piece → List Piece
tail b p = if b then p ∷ [] else []

run_more : (stamp : ℕ) (last : Piece) (ps : List Piece) (p : Piece)
    → Ran (run_behind stamp last ps) (run_behind stamp last (ps ++ p ∷ [])) ps (tail (goes_on stamp (last_piece last ps) p) p)
run_more stamp last [] p = inl (refl, refl)
run_more stamp last (q ∷ ps) p = ran_step (goes_on stamp last q) q _ _ ps _ (run_more stamp q ps p)

-- ---- cutting

cut_some : (k : ℕ) (ps : List Piece) → k < length ps → 0 < length (cut_parts k ps)
cut_some k [] some = absurd (omega (arith, some))
cut_some (suc k) (q ∷ ps) some = cut_some k ps (omega (arith, some))
cut_some zero (q ∷ ps) some = omega arith

cut_all : (ps : List Piece) → cut_parts (length ps) ps ≡ []
cut_all [] = refl
cut_all (p ∷ ps) = cut_all ps

pub cut_seam : (ps qs : List Piece) → cut_parts (length ps) (ps ++ qs) ≡ cut_parts 0 qs
cut_seam [] qs = refl
cut_seam (p ∷ ps) qs = cut_seam ps qs

-- a run that was all of the packets, and one packet more
whole_more : (b : Bool) (q : Piece) (ps : List Piece) (p : Piece)
    → Run q (ps ++ tail b p) ∷ cut_parts (length (ps ++ tail b p)) (ps ++ p ∷ [])
    ≡ (if b then Run q (ps ++ p ∷ []) ∷ [] else Run q ps ∷ part_at p [] ∷ [])
whole_more true q ps p = ap (λ (xs : List Part). Run q (ps ++ p ∷ []) ∷ xs) (cut_all (ps ++ p ∷ []))
whole_more false q ps p =
    ap (λ (xs : List Piece). Run q xs ∷ cut_parts (length xs) (ps ++ p ∷ [])) (append-nil ps)
    ∙ ap (λ (xs : List Part). Run q ps ∷ xs) (cut_seam ps (p ∷ []))

abbrev Extends : List Piece → Piece → ℕ → Type 0
Extends ps p k = cut_parts k (ps ++ p ∷ []) ≡ extend (cut_parts k ps) p

abbrev part_by : Bool → Piece → List Piece → Part
part_by b q r = if b then Run q r else Skipped q

head_more : (b : Bool) (q : Piece) (ps : List Piece) (p : Piece) (r s : List Piece) → ((k : ℕ) → k ≤ length ps → Extends ps p k)
    → Ran r s ps (tail (goes_on q.stamp (last_piece q ps) p) p)
    → part_by b q s ∷ cut_parts (more (part_by b q s)) (ps ++ p ∷ []) ≡ extend (part_by b q r ∷ cut_parts (more (part_by b q r)) ps) p
head_more false q ps p r s rec h = ap (λ (xs : List Part). Skipped q ∷ xs) (rec 0 (omega arith)) ∙ sym (extend_skipped q (cut_parts 0 ps) p)
head_more true q ps p r s rec (inl h) =
    ap (λ (xs : List Piece). Run q xs ∷ cut_parts (length xs) (ps ++ p ∷ [])) h.1
    ∙ whole_more (goes_on q.stamp (last_piece q ps) p) q ps p
    ∙ ap (λ (xs : List Part). extend (Run q ps ∷ xs) p) (sym (cut_all ps))
    ∙ ap (λ (xs : List Piece). extend (Run q xs ∷ cut_parts (length xs) ps) p) (sym h.0)
head_more true q ps p r s rec (inr h) =
    ap (λ (xs : List Piece). Run q xs ∷ cut_parts (length xs) (ps ++ p ∷ [])) h.1
    ∙ ap (λ (xs : List Part). Run q r ∷ xs) (rec (length r) (omega (arith, h.0)))
    ∙ sym (extend_more (Run q r) (cut_parts (length r) ps) p (cut_some (length r) ps h.0))

pub cut_more : (k : ℕ) (ps : List Piece) (p : Piece) → k ≤ length ps → Extends ps p k
cut_more zero [] p within = refl
cut_more (suc k) [] p within = absurd (omega (arith, within))
cut_more (suc k) (q ∷ ps) p within = cut_more k ps p (omega (arith, within))
cut_more zero (q ∷ ps) p within = head_more (is_starter q) q ps p _ _ (λ k h. cut_more k ps p h) (run_more q.stamp q ps p)

-- ---- the last part

abbrev pub part_after : Option Part → Piece → Part
part_after None p = part_at p []
part_after (Some (Skipped q)) p = part_at p []
part_after (Some (Run s ps)) p = if goes_on s.stamp (last_piece s ps) p then Run s (ps ++ p ∷ []) else part_at p []

grow_last : (b : Bool) (before : Option Part) (s : Piece) (ps : List Piece) (p : Piece)
    → last_part before (if b then Run s (ps ++ p ∷ []) ∷ [] else Run s ps ∷ part_at p [] ∷ []) ≡ Some (if b then Run s (ps ++ p ∷ []) else part_at p [])
grow_last true before s ps p = refl
grow_last false before s ps p = refl

last_more : (before : Option Part) (x : Part) (xs : List Part) (p : Piece) → last_part before (extend (x ∷ xs) p) ≡ Some (part_after (last_part (Some x) xs) p)
last_more before (Skipped q) [] p = refl
last_more before (Run s ps) [] p = grow_last (goes_on s.stamp (last_piece s ps) p) before s ps p
last_more before x (y ∷ ys) p = last_more (Some x) y ys p

pub last_of_more : (xs : List Part) (p : Piece) → last_part None (extend xs p) ≡ Some (part_after (last_part None xs) p)
last_of_more [] p = refl
last_of_more (x ∷ xs) p = last_more None x xs p
