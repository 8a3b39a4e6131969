-- What packets give with one packet more.
use Rattle.std.proofs.Common.{◌≡◌, ℕ, zero, suc, ◌+◌, ◌≤◌, Bool, true, false, not, ◌&&◌, if◌then◌else◌, List, [], ◌∷◌, ◌++◌, Option, None, Some, length, slice_index_or, refl, sym, ap, ap₂, ◌∙◌, arith, length-append, append-nil, append_assoc}
use Rattle.rtp_h261.specs.Units.{Piece, Part, Skipped, Run, Given, gives_nothing, member, later, members, present_pieces, is_starter, goes_on, run_behind, part_at, more, cut_parts, last_piece, is_complete, bits_of, first_of, loses, unit_of, run_gives, part_gives, parts_give, spread, parts_of, all_given, fed}
use Rattle.rtp_h261.specs.OneByOne.{last_part, last_member}
use Rattle.rtp_h261.proofs.CutLemmas.{grow, extend, cut_more}

abbrev pub fresh : Bool → Piece → Given
fresh lost p = record { lost = lost; unit = if is_starter p then unit_of p [] else None }

-- what a packet gives behind this part
abbrev pub answer : Option Part → Piece → Given
answer None p = fresh false p
answer (Some (Skipped q)) p = fresh false p
answer (Some (Run s ps)) p = if goes_on s.stamp (last_piece s ps) p then record { lost = false; unit = unit_of s (ps ++ p ∷ []) } else fresh (loses (Some (Run s ps)) p) p

-- ---- the parts' answers

abbrev part_by : Bool → Piece → Part
part_by b p = if b then Run p [] else Skipped p

fresh_by : (b lost : Bool) (p : Piece) → part_gives lost (part_by b p) ≡ record { lost = lost; unit = if b then unit_of p [] else None } ∷ []
fresh_by true lost p = refl
fresh_by false lost p = refl

first_by : (b : Bool) (p : Piece) → first_of (part_by b p) ≡ p
first_by true p = refl
first_by false p = refl

-- a new part gives what is fresh
new_part : (before : Option Part) (p : Piece) → parts_give before (part_at p [] ∷ []) ≡ fresh (loses before p) p ∷ []
new_part before p =
    append-nil (part_gives (loses before (first_of (part_at p []))) (part_at p []))
    ∙ fresh_by (is_starter p) (loses before (first_of (part_at p []))) p
    ∙ ap (λ (q : Piece). fresh (loses before q) p ∷ []) (first_by (is_starter p) p)

run_gives_more : (lost : Bool) (unit : Option (List Bool)) (ps : List Piece) (p : Piece)
    → run_gives lost unit (ps ++ p ∷ []) ≡ run_gives lost None ps ++ record { lost = false; unit = unit } ∷ []
run_gives_more lost unit [] p = refl
run_gives_more lost unit (q ∷ ps) p = ap (λ (gs : List Given). record { lost = lost; unit = None } ∷ gs) (run_gives_more false unit ps p)

goes_gives : (before : Option Part) (s : Piece) (ps : List Piece) (p : Piece)
    → parts_give before (Run s (ps ++ p ∷ []) ∷ []) ≡ (run_gives (loses before s) None ps ++ []) ++ record { lost = false; unit = unit_of s (ps ++ p ∷ []) } ∷ []
goes_gives before s ps p =
    append-nil (run_gives (loses before s) (unit_of s (ps ++ p ∷ [])) (ps ++ p ∷ []))
    ∙ run_gives_more (loses before s) (unit_of s (ps ++ p ∷ [])) ps p
    ∙ ap (λ (gs : List Given). gs ++ record { lost = false; unit = unit_of s (ps ++ p ∷ []) } ∷ []) (sym (append-nil (run_gives (loses before s) None ps)))

stays_gives : (before : Option Part) (s : Piece) (ps : List Piece) (p : Piece) (unit : Option (List Bool))
    → run_gives (loses before s) unit ps ++ parts_give (Some (Run s ps)) (part_at p [] ∷ [])
    ≡ (run_gives (loses before s) unit ps ++ []) ++ fresh (loses (Some (Run s ps)) p) p ∷ []
stays_gives before s ps p unit =
    ap (λ (gs : List Given). run_gives (loses before s) unit ps ++ gs) (new_part (Some (Run s ps)) p)
    ∙ ap (λ (gs : List Given). gs ++ fresh (loses (Some (Run s ps)) p) p ∷ []) (sym (append-nil (run_gives (loses before s) unit ps)))

abbrev RunGives : (g : Bool) (before : Option Part) (s : Piece) (ps : List Piece) (p : Piece) → Type 0
RunGives g before s ps p =
    parts_give before (if g then Run s (ps ++ p ∷ []) ∷ [] else Run s ps ∷ part_at p [] ∷ [])
    ≡ (run_gives (loses before s) (unit_of s ps) ps ++ []) ++ (if g then record { lost = false; unit = unit_of s (ps ++ p ∷ []) } else fresh (loses (Some (Run s ps)) p) p) ∷ []

run_by : (g : Bool) (before : Option Part) (s : Piece) (ps : List Piece) (p : Piece) → (g ≡ true → unit_of s ps ≡ None) → RunGives g before s ps p
run_by true before s ps p unmarked =
    goes_gives before s ps p
    ∙ ap (λ (u : Option (List Bool)). (run_gives (loses before s) u ps ++ []) ++ record { lost = false; unit = unit_of s (ps ++ p ∷ []) } ∷ []) (sym (unmarked refl))
run_by false before s ps p unmarked = stays_gives before s ps p (unit_of s ps)

-- a packet goes on with a run that has no marker
unmarked_by : (m g : Bool) (bits : List Bool) → (not m && g) ≡ true → (if m then Some bits else None) ≡ None
unmarked_by true g bits h = absurd (grind (arith, h))
unmarked_by false g bits h = refl

grow_gives : (before : Option Part) (x : Part) (p : Piece) → parts_give before (grow x p) ≡ parts_give before (x ∷ []) ++ answer (Some x) p ∷ []
grow_gives before (Skipped q) p = ap (λ (gs : List Given). record { lost = loses before q; unit = None } ∷ gs) (new_part (Some (Skipped q)) p)
grow_gives before (Run s ps) p =
    run_by (goes_on s.stamp (last_piece s ps) p) before s ps p (unmarked_by (is_complete s ps) _ (bits_of s ps))

gives_more : (before : Option Part) (x : Part) (xs : List Part) (p : Piece)
    → parts_give before (extend (x ∷ xs) p) ≡ parts_give before (x ∷ xs) ++ answer (last_part (Some x) xs) p ∷ []
gives_more before x [] p = grow_gives before x p
gives_more before x (y ∷ ys) p =
    let front = part_gives (loses before (first_of x)) x in
    ap (λ (gs : List Given). front ++ gs) (gives_more (Some x) y ys p) ∙ sym (append_assoc front (parts_give (Some x) (y ∷ ys)) _)

gives_one_more : (xs : List Part) (p : Piece) → parts_give None (extend xs p) ≡ parts_give None xs ++ answer (last_part None xs) p ∷ []
gives_one_more [] p = new_part None p
gives_one_more (x ∷ xs) p = gives_more None x xs p

-- the answers of members with one more
pub given_more : (ps : List Piece) (p : Piece)
    → parts_give None (cut_parts 0 (ps ++ p ∷ [])) ≡ parts_give None (cut_parts 0 ps) ++ answer (last_part None (cut_parts 0 ps)) p ∷ []
given_more ps p = ap (parts_give None) (cut_more 0 ps p (omega arith)) ∙ gives_one_more (cut_parts 0 ps) p

-- ---- each member has its answer

run_behind_short : (b : Bool) (p : Piece) (r ps : List Piece) → length r ≤ length ps → length (if b then p ∷ r else []) ≤ length (p ∷ ps)
run_behind_short true p r ps h = omega (arith, h)
run_behind_short false p r ps h = omega arith

run_is_short : (stamp : ℕ) (last : Piece) (ps : List Piece) → length (run_behind stamp last ps) ≤ length ps
run_is_short stamp last [] = omega arith
run_is_short stamp last (p ∷ ps) = run_behind_short (goes_on stamp last p) p _ ps (run_is_short stamp p ps)

run_gives_length : (lost : Bool) (unit : Option (List Bool)) (ps : List Piece) → length (run_gives lost unit ps) ≡ suc (length ps)
run_gives_length lost unit [] = refl
run_gives_length lost unit (p ∷ ps) = ap suc (run_gives_length false unit ps)

part_gives_length : (lost : Bool) (x : Part) → length (part_gives lost x) ≡ suc (more x)
part_gives_length lost (Skipped p) = refl
part_gives_length lost (Run s ps) = run_gives_length lost (unit_of s ps) ps

more_is_short : (b : Bool) (p : Piece) (r ps : List Piece) → length r ≤ length ps → more (if b then Run p r else Skipped p) ≤ length ps
more_is_short true p r ps h = h
more_is_short false p r ps h = omega arith

gives_length : (before : Option Part) (k : ℕ) (ps : List Piece) → k ≤ length ps → length (parts_give before (cut_parts k ps)) + k ≡ length ps
gives_length before zero [] h = refl
gives_length before (suc k) [] h = absurd (omega (arith, h))
gives_length before (suc k) (p ∷ ps) h = omega (arith, gives_length before k ps (omega (arith, h)))
gives_length before zero (p ∷ ps) h =
    let x = part_at p ps in
    let front = part_gives (loses before (first_of x)) x in
    let short : more x ≤ length ps = more_is_short (is_starter p) p _ ps (run_is_short p.stamp p ps) in
    omega (arith, gives_length (Some x) (more x) ps short, length-append front (parts_give (Some x) (cut_parts (more x) ps)), part_gives_length (loses before (first_of x)) x)

-- ---- all packets, members or not

pub members_more : (last : Option Piece) (ps : List (Option Piece)) (p : Option Piece)
    → members last (ps ++ p ∷ []) ≡ members last ps ++ member (last_member last ps) p ∷ []
members_more last [] p = refl
members_more last (q ∷ ps) p = ap (λ (ms : List (Option Piece)). member last q ∷ ms) (members_more (later last (member last q)) ps p)

pub last_member_more : (last : Option Piece) (ps : List (Option Piece)) (p : Option Piece)
    → last_member last (ps ++ p ∷ []) ≡ later (last_member last ps) (member (last_member last ps) p)
last_member_more last [] p = refl
last_member_more last (q ∷ ps) p = last_member_more (later last (member last q)) ps p

pub present_some : (ms : List (Option Piece)) (p : Piece) → present_pieces (ms ++ Some p ∷ []) ≡ present_pieces ms ++ p ∷ []
present_some [] p = refl
present_some (None ∷ ms) p = present_some ms p
present_some (Some q ∷ ms) p = ap (λ (ps : List Piece). q ∷ ps) (present_some ms p)

pub present_none : (ms : List (Option Piece)) → present_pieces (ms ++ None ∷ []) ≡ present_pieces ms
present_none [] = refl
present_none (None ∷ ms) = present_none ms
present_none (Some q ∷ ms) = ap (λ (ps : List Piece). q ∷ ps) (present_none ms)

spread_none : (ms : List (Option Piece)) (gs : List Given) → spread (ms ++ None ∷ []) gs ≡ spread ms gs ++ gives_nothing ∷ []
spread_none [] gs = refl
spread_none (None ∷ ms) gs = ap (λ (xs : List Given). gives_nothing ∷ xs) (spread_none ms gs)
spread_none (Some q ∷ ms) [] = ap (λ (xs : List Given). gives_nothing ∷ xs) (spread_none ms [])
spread_none (Some q ∷ ms) (g ∷ gs) = ap (λ (xs : List Given). g ∷ xs) (spread_none ms gs)

spread_some : (ms : List (Option Piece)) (gs : List Given) (p : Piece) (g : Given) → length gs ≡ length (present_pieces ms)
    → spread (ms ++ Some p ∷ []) (gs ++ g ∷ []) ≡ spread ms gs ++ g ∷ []
spread_some [] [] p g h = refl
spread_some [] (x ∷ gs) p g h = absurd (omega (arith, h))
spread_some (None ∷ ms) gs p g h = ap (λ (xs : List Given). gives_nothing ∷ xs) (spread_some ms gs p g h)
spread_some (Some q ∷ ms) [] p g h = absurd (omega (arith, h))
spread_some (Some q ∷ ms) (x ∷ gs) p g h = ap (λ (xs : List Given). x ∷ xs) (spread_some ms gs p g (omega (arith, h)))

spread_length : (ms : List (Option Piece)) (gs : List Given) → length (spread ms gs) ≡ length ms
spread_length [] gs = refl
spread_length (None ∷ ms) gs = ap suc (spread_length ms gs)
spread_length (Some q ∷ ms) [] = ap suc (spread_length ms [])
spread_length (Some q ∷ ms) (g ∷ gs) = ap suc (spread_length ms gs)

members_length : (last : Option Piece) (ps : List (Option Piece)) → length (members last ps) ≡ length ps
members_length last [] = refl
members_length last (p ∷ ps) = ap suc (members_length (later last (member last p)) ps)

-- what a packet gives that is a member or not
abbrev pub answer_to : Option Part → Option Piece → Given
answer_to z None = gives_nothing
answer_to z (Some p) = answer z p

spread_more : (ms : List (Option Piece)) (m : Option Piece)
    → spread (ms ++ m ∷ []) (parts_give None (cut_parts 0 (present_pieces (ms ++ m ∷ []))))
    ≡ spread ms (parts_give None (cut_parts 0 (present_pieces ms))) ++ answer_to (last_part None (cut_parts 0 (present_pieces ms))) m ∷ []
spread_more ms None =
    ap (λ (ps : List Piece). spread (ms ++ None ∷ []) (parts_give None (cut_parts 0 ps))) (present_none ms)
    ∙ spread_none ms (parts_give None (cut_parts 0 (present_pieces ms)))
spread_more ms (Some p) =
    ap (λ (ps : List Piece). spread (ms ++ Some p ∷ []) (parts_give None (cut_parts 0 ps))) (present_some ms p)
    ∙ ap (spread (ms ++ Some p ∷ [])) (given_more (present_pieces ms) p)
    ∙ spread_some ms (parts_give None (cut_parts 0 (present_pieces ms))) p _ (omega (arith, gives_length None 0 (present_pieces ms) (omega arith)))

pub all_given_more : (packets : List (Option Piece)) (p : Option Piece)
    → all_given (packets ++ p ∷ []) ≡ all_given packets ++ answer_to (last_part None (parts_of packets)) (member (last_member None packets) p) ∷ []
unfolding all_given
all_given_more packets p =
    let ms = members None packets in
    let m = member (last_member None packets) p in
    ap (λ (xs : List (Option Piece)). spread xs (parts_give None (cut_parts 0 (present_pieces xs)))) (members_more None packets p) ∙ spread_more ms m

pub all_given_length : (packets : List (Option Piece)) → length (all_given packets) ≡ length packets
unfolding all_given
all_given_length packets = spread_length (members None packets) (parts_give None (parts_of packets)) ∙ members_length None packets

at_end : (gs : List Given) (g : Given) → slice_index_or (gs ++ g ∷ []) (length gs) gives_nothing ≡ g
at_end [] g = refl
at_end (x ∷ gs) g = at_end gs g

-- what the last packet gives
pub fed_last : (packets : List (Option Piece)) (p : Option Piece)
    → fed (packets ++ p ∷ []) (length packets) ≡ answer_to (last_part None (parts_of packets)) (member (last_member None packets) p)
fed_last packets p =
    let g = answer_to (last_part None (parts_of packets)) (member (last_member None packets) p) in
    ap₂ (λ (gs : List Given) (i : ℕ). slice_index_or gs i gives_nothing) (all_given_more packets p) (sym (all_given_length packets))
    ∙ at_end (all_given packets) g
