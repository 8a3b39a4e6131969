-- Packets of pictures, one after the other: each picture is one run, and nothing is lost.
use Rattle.std.proofs.Common.{◌≡◌, ℕ, suc, ◌+◌, ◌-◌, ◌%◌, ◌==◌, nat_le, Bool, true, false, not, ◌&&◌, if◌then◌else◌, List, [], ◌∷◌, ◌++◌, length, map, replicate, Option, Some, None, refl, ◌∙◌, ap, ap₂, subst, arith}
use Rattle.std.proofs.lemmas.Bool.{eq-eqb}
use Rattle.rtp_h261.specs.Units.{Piece, Part, Skipped, Run, Given, gives_nothing, is_late, is_joined, later, members, present_pieces, is_starter, goes_on, run_behind, part_at, more, cut_parts, last_piece, is_complete, bits_of, loses, unit_of, run_gives, parts_give, spread, all_given}
use Rattle.rtp_h261.proofs.CutLemmas.{cut_seam}
use Rattle.bridge_replay.specs.ReadingBack.{unit_at_the_last}

-- numbers that follow one another from n on
abbrev pub Numbered : ℕ → List Piece → Type 0
Numbered n [] = Unit {0}
Numbered n (p ∷ ps) = (p.number ≡ n % 65536) × Numbered (suc n) ps

pub numbered-append : (n : ℕ) (ps qs : List Piece) → Numbered n ps → Numbered (n + length ps) qs → Numbered n (ps ++ qs)
numbered-append n [] qs a b =
    let same : n + 0 ≡ n = omega arith in
    subst (λ (k : ℕ). Numbered k qs) same b
numbered-append n (p ∷ ps) qs a b =
    let same : n + suc (length ps) ≡ suc n + length ps = omega arith in
    (a.0, numbered-append (suc n) ps qs a.1 (subst (λ (k : ℕ). Numbered k qs) same b))

-- the packets behind one with this timestamp have it too, and the marker is that of the last
abbrev pub ToMarker : ℕ → Piece → List Piece → Type 0
ToMarker stamp p [] = p.marker ≡ true
ToMarker stamp p (q ∷ qs) = (p.marker ≡ false) × (q.stamp ≡ stamp) × ToMarker stamp q qs

-- the packets of a picture with these bits, the first of which has number n
pub record IsRun (n : ℕ) (text : List Bool) (p : Piece) (qs : List Piece) : Type 0 where
  pub numbers : Numbered n (p ∷ qs)
  pub starts : is_starter p ≡ true
  pub marked : ToMarker p.stamp p qs
  pub whole : bits_of p qs ≡ text

-- ---- no packet is late

near : (n a b : ℕ) → a ≡ n % 65536 → b ≡ suc n % 65536 → (b + 65536 - (a + 1) % 65536) % 65536 ≡ 0
near n a b h k = omega (arith, h, k)

joins : (n : ℕ) (last p : Piece) → last.number ≡ n % 65536 → p.number ≡ suc n % 65536 → is_joined last p ≡ true
joins n last p a b = eq-eqb _ _ (near n last.number p.number a b)

not-late : (n : ℕ) (last p : Piece) → last.number ≡ n % 65536 → p.number ≡ suc n % 65536 → is_late last p ≡ false
not-late n last p a b = ap (λ k. nat_le 32768 k) (near n last.number p.number a b)

abbrev counted : Bool → Piece → Option Piece
counted late p = if late then None else Some p

-- all of them count
members-behind : (n : ℕ) (last : Piece) (ps : List Piece) → last.number ≡ n % 65536 → Numbered (suc n) ps → members (Some last) (map Some ps) ≡ map Some ps
members-behind n last [] a b = refl
members-behind n last (p ∷ ps) a b =
    ap (λ (x : Bool). counted x p ∷ members (later (Some last) (counted x p)) (map Some ps)) (not-late n last p a b.0)
    ∙ ap (λ (ms : List (Option Piece)). Some p ∷ ms) (members-behind (suc n) p ps b.0 b.1)

all-members : (n : ℕ) (ps : List Piece) → Numbered n ps → members None (map Some ps) ≡ map Some ps
all-members n [] a = refl
all-members n (p ∷ ps) a = ap (λ (ms : List (Option Piece)). Some p ∷ ms) (members-behind n p ps a.0 a.1)

all-present : (ps : List Piece) → present_pieces (map Some ps) ≡ ps
all-present [] = refl
all-present (p ∷ ps) = ap (λ (xs : List Piece). p ∷ xs) (all-present ps)

spread-all : (ps : List Piece) (gs : List Given) → length gs ≡ length ps → spread (map Some ps) gs ≡ gs
spread-all [] [] h = refl
spread-all [] (g ∷ gs) h = absurd (omega (arith, h))
spread-all (p ∷ ps) [] h = absurd (omega (arith, h))
spread-all (p ∷ ps) (g ∷ gs) h = ap (λ (xs : List Given). g ∷ xs) (spread-all ps gs (omega (arith, h)))

-- what numbered packets give
pub given-is : (n : ℕ) (ps : List Piece) (gs : List Given) → Numbered n ps → parts_give None (cut_parts 0 ps) ≡ gs → length gs ≡ length ps → all_given (map Some ps) ≡ gs
unfolding all_given
given-is n ps gs numbers given long =
    ap (λ (ms : List (Option Piece)). spread ms (parts_give None (cut_parts 0 (present_pieces ms)))) (all-members n ps numbers)
    ∙ ap (λ (xs : List Piece). spread (map Some ps) (parts_give None (cut_parts 0 xs))) (all-present ps)
    ∙ ap (spread (map Some ps)) given
    ∙ spread-all ps gs long

-- ---- a picture is a run

stays : (stamp n : ℕ) (p q : Piece) → p.number ≡ n % 65536 → q.number ≡ suc n % 65536 → p.marker ≡ false → q.stamp ≡ stamp → goes_on stamp p q ≡ true
stays stamp n p q a b m t =
    ap₂ (λ (x y : Bool). not x && y) m (ap₂ (λ (x y : Bool). x && y) (joins n p q a b) (eq-eqb _ _ t))

ends : (stamp : ℕ) (p : Piece) (rest : List Piece) → p.marker ≡ true → run_behind stamp p rest ≡ []
ends stamp p [] m = refl
ends stamp p (r ∷ rs) m =
    ap (λ (x : Bool). if not x && (is_joined p r && (r.stamp == stamp)) then r ∷ run_behind stamp r rs else []) m

run-is : (stamp n : ℕ) (p : Piece) (qs rest : List Piece) → Numbered n (p ∷ qs) → ToMarker stamp p qs → run_behind stamp p (qs ++ rest) ≡ qs
run-is stamp n p [] rest a m = ends stamp p rest m
run-is stamp n p (q ∷ qs) rest a m =
    ap (λ (x : Bool). if x then q ∷ run_behind stamp q (qs ++ rest) else []) (stays stamp n p q a.0 a.1.0 m.0 m.1)
    ∙ ap (λ (xs : List Piece). q ∷ xs) (run-is stamp (suc n) q qs rest a.1 m.2)

cut-run : (n : ℕ) (text : List Bool) (p : Piece) (qs rest : List Piece) → IsRun n text p qs → cut_parts 0 (p ∷ (qs ++ rest)) ≡ Run p qs ∷ cut_parts 0 rest
cut-run n text p qs rest r =
    let part : part_at p (qs ++ rest) ≡ Run p qs =
    ap (λ (x : Bool). if x then Run p (run_behind p.stamp p (qs ++ rest)) else Skipped p) r.starts
    ∙ ap (Run p) (run-is p.stamp n p qs rest r.numbers r.marked) in
    ap (λ (x : Part). x ∷ cut_parts (more x) (qs ++ rest)) part
    ∙ ap (λ (xs : List Part). Run p qs ∷ xs) (cut_seam qs rest)

complete : (stamp : ℕ) (p : Piece) (qs : List Piece) → ToMarker stamp p qs → is_complete p qs ≡ true
complete stamp p [] m = m
complete stamp p (q ∷ qs) m = complete stamp q qs m.2

run-gives : (unit : Option (List Bool)) (qs : List Piece) → run_gives false unit qs ≡ replicate (length qs) gives_nothing ++ record { lost = false; unit = unit } ∷ []
run-gives unit [] = refl
run-gives unit (q ∷ qs) = ap (λ (gs : List Given). gives_nothing ∷ gs) (run-gives unit qs)

-- what comes before the packet with number n: nothing, or a complete run up to it
abbrev pub Before : ℕ → Option Part → Type 0
Before n None = Unit {0}
Before n (Some (Skipped p)) = ⊥
Before n (Some (Run p qs)) = (is_complete p qs ≡ true) × ((last_piece p qs).number ≡ (n + 65535) % 65536)

follows : (n a b : ℕ) → a ≡ (n + 65535) % 65536 → b ≡ n % 65536 → (b + 65536 - (a + 1) % 65536) % 65536 ≡ 0
follows n a b h k = omega (arith, h, k)

loses-none : (n : ℕ) (text : List Bool) (before : Option Part) (p : Piece) (qs : List Piece) → Before n before → IsRun n text p qs → loses before p ≡ false
loses-none n text None p qs b r = refl
loses-none n text (Some (Skipped q)) p qs b r = absurd b
loses-none n text (Some (Run s ss)) p qs b r =
    let joined : is_joined (last_piece s ss) p ≡ true = eq-eqb _ _ (follows n (last_piece s ss).number p.number b.1 r.numbers.0) in
    ap₂ (λ (x y : Bool). not (x && (y && is_starter p))) b.0 joined
    ∙ ap not r.starts

last-number : (n : ℕ) (p : Piece) (qs : List Piece) → Numbered n (p ∷ qs) → (last_piece p qs).number ≡ (n + length qs) % 65536
last-number n p [] a = omega (arith, a.0)
last-number n p (q ∷ qs) a = omega (arith, last-number (suc n) q qs a.1)

pub behind-run : (n : ℕ) (text : List Bool) (p : Piece) (qs : List Piece) → IsRun n text p qs → Before (n + length (p ∷ qs)) (Some (Run p qs))
behind-run n text p qs r = (complete p.stamp p qs r.marked, omega (arith, last-number n p qs r.numbers))

-- a picture's packets give its text at the last
pub run-is-given : (n : ℕ) (text : List Bool) (before : Option Part) (p : Piece) (qs rest : List Piece) → Before n before → IsRun n text p qs
    → parts_give before (cut_parts 0 (p ∷ (qs ++ rest))) ≡ unit_at_the_last (length (p ∷ qs)) text ++ parts_give (Some (Run p qs)) (cut_parts 0 rest)
run-is-given n text before p qs rest b r =
    let after = parts_give (Some (Run p qs)) (cut_parts 0 rest) in
    let count : length qs ≡ suc (length qs) - 1 = omega arith in
    ap (parts_give before) (cut-run n text p qs rest r)
    ∙ ap (λ (x : Bool). run_gives x (unit_of p qs) qs ++ after) (loses-none n text before p qs b r)
    ∙ ap (λ (x : Bool). run_gives false (if x then Some (bits_of p qs) else None) qs ++ after) (complete p.stamp p qs r.marked)
    ∙ ap (λ (t : List Bool). run_gives false (Some t) qs ++ after) r.whole
    ∙ ap (λ (gs : List Given). gs ++ after) (run-gives (Some text) qs)
    ∙ ap (λ (k : ℕ). (replicate k gives_nothing ++ record { lost = false; unit = Some text } ∷ []) ++ after) count
