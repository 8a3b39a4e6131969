-- One step from what is held of some packets gives what the next packet gives in the whole list.
use Rattle.std.proofs.Common.{◌≡◌, ◌⊎◌, ℕ, zero, suc, ◌==◌, Bool, true, false, not, ◌&&◌, if◌then◌else◌, List, [], ◌∷◌, ◌++◌, Option, None, Some, option_map, inl, inr, take, refl, sym, ap, ap₂, ◌∙◌, arith, append_assoc}
use Rattle.rtp_h261.specs.Units.{Piece, Part, Skipped, Run, Given, gives_nothing, number_after, is_late, is_joined, member, later, members, present_pieces, is_starter, goes_on, part_at, cut_parts, last_piece, is_complete, bits_of, unit_of, parts_of, all_given}
use Rattle.rtp_h261.specs.OneByOne.{Mode, Seek, Idle, Collect, State, mode_behind, last_part, last_member, state_of, closed, starting, collected, turned, follows, moved, step, kept_given, LawOfSteps, LawOfFronts}
use Rattle.rtp_h261.proofs.CutLemmas.{part_after, cut_more, last_of_more}
use Rattle.rtp_h261.proofs.GivenLemmas.{fresh, answer, answer_to, members_more, last_member_more, present_some, present_none, all_given_more, fed_last}

-- ---- lists

pub last_of_append : (s : Piece) (ps : List Piece) (p : Piece) → last_piece s (ps ++ p ∷ []) ≡ p
last_of_append s [] p = refl
last_of_append s (q ∷ ps) p = last_of_append q ps p

bits_of_append : (s : Piece) (ps : List Piece) (p : Piece) → bits_of s (ps ++ p ∷ []) ≡ bits_of s ps ++ p.bits
bits_of_append s [] p = refl
bits_of_append s (q ∷ ps) p = ap (λ (xs : List Bool). s.bits ++ xs) (bits_of_append q ps p) ∙ sym (append_assoc s.bits (bits_of q ps) p.bits)

-- what is kept of bits is enough to keep as many of more bits
pub take_kept : (room : ℕ) (xs ys : List Bool) → take room (take room xs ++ ys) ≡ take room (xs ++ ys)
take_kept zero xs ys = refl
take_kept (suc room) [] ys = refl
take_kept (suc room) (x ∷ xs) ys = ap (λ (zs : List Bool). x ∷ zs) (take_kept room xs ys)

-- ---- a turn

abbrev Turns : ℕ → Mode × Given → Option Part → Given → Type 0
Turns room turn z g = turn ≡ (mode_behind room z, kept_given room g)

closed_by : (room : ℕ) (marker lost : Bool) (stamp : ℕ) (bits : List Bool)
    → closed lost stamp (take room bits) marker
    ≡ ((if marker then Idle else Collect stamp (take room bits)), kept_given room (record { lost = lost; unit = if marker then Some bits else None }))
closed_by room true lost stamp bits = refl
closed_by room false lost stamp bits = refl

abbrev start_by : ℕ → Bool → Bool → Piece → Mode × Given
start_by room starts lost p = if starts then closed lost p.stamp (take room p.bits) p.marker else (Seek, record { lost = lost; unit = None })

starting_by : (room : ℕ) (starts lost : Bool) (p : Piece)
    → Turns room (start_by room starts lost p) (Some (if starts then Run p [] else Skipped p)) (record { lost = lost; unit = if starts then unit_of p [] else None })
starting_by room true lost p = closed_by room p.marker lost p.stamp p.bits
starting_by room false lost p = refl

starting_is : (room : ℕ) (lost : Bool) (p : Piece) → Turns room (starting room lost p) (Some (part_at p [])) (fresh lost p)
starting_is room lost p = starting_by room (is_starter p) lost p

grown_is : (room : ℕ) (s : Piece) (ps : List Piece) (p : Piece)
    → Turns room (closed false s.stamp (take room (take room (bits_of s ps) ++ p.bits)) p.marker) (Some (Run s (ps ++ p ∷ []))) (record { lost = false; unit = unit_of s (ps ++ p ∷ []) })
grown_is room s ps p =
    ap (λ (xs : List Bool). closed false s.stamp xs p.marker) (take_kept room (bits_of s ps) p.bits)
    ∙ closed_by room p.marker false s.stamp (bits_of s ps ++ p.bits)
    ∙ ap₂ (λ (q : Piece) (xs : List Bool). ((if q.marker then Idle else Collect s.stamp (take room xs)), kept_given room (record { lost = false; unit = if q.marker then Some xs else None })))
    (sym (last_of_append s ps p)) (sym (bits_of_append s ps p))

abbrev RunTurns : ℕ → (complete joined same : Bool) → Piece → List Piece → Piece → Type 0
RunTurns room complete joined same s ps p =
    let goes = not complete && (joined && same) in
    Turns room (if complete then starting room (not (joined && is_starter p)) p else collected room (joined && same) s.stamp (take room (bits_of s ps)) p)
    (Some (if goes then Run s (ps ++ p ∷ []) else part_at p []))
    (if goes then record { lost = false; unit = unit_of s (ps ++ p ∷ []) } else fresh (not (complete && (joined && is_starter p))) p)

collected_by : (room : ℕ) (goes : Bool) (s : Piece) (ps : List Piece) (p : Piece)
    → Turns room (collected room goes s.stamp (take room (bits_of s ps)) p) (Some (if goes then Run s (ps ++ p ∷ []) else part_at p []))
    (if goes then record { lost = false; unit = unit_of s (ps ++ p ∷ []) } else fresh true p)
collected_by room true s ps p = grown_is room s ps p
collected_by room false s ps p = starting_is room true p

run_turns : (room : ℕ) (complete joined same : Bool) (s : Piece) (ps : List Piece) (p : Piece) → RunTurns room complete joined same s ps p
run_turns room true joined same s ps p = starting_is room (not (joined && is_starter p)) p
run_turns room false joined same s ps p = collected_by room (joined && same) s ps p

turned_by : (room : ℕ) (complete joined : Bool) (stamp : ℕ) (bits : List Bool) (p : Piece)
    → turned room joined (if complete then Idle else Collect stamp bits) p
    ≡ (if complete then starting room (not (joined && is_starter p)) p else collected room (joined && (p.stamp == stamp)) stamp bits p)
turned_by room true joined stamp bits p = refl
turned_by room false joined stamp bits p = refl

-- the last packet of the last part is the last packet that counts
abbrev EndsAt : Option Part → Option Piece → Type 0
EndsAt None last = last ≡ None
EndsAt (Some (Skipped p)) last = last ≡ Some p
EndsAt (Some (Run s ps)) last = last ≡ Some (last_piece s ps)

abbrev joined_to : Option Piece → Piece → Bool
joined_to last p = follows (option_map number_after last) p

turned_is : (room : ℕ) (z : Option Part) (last : Option Piece) (p : Piece) → EndsAt z last
    → Turns room (turned room (joined_to last p) (mode_behind room z) p) (Some (part_after z p)) (answer z p)
turned_is room None last p h = starting_is room false p
turned_is room (Some (Skipped q)) last p h = starting_is room false p
turned_is room (Some (Run s ps)) last p h =
    ap (λ (l : Option Piece). turned room (joined_to l p) (mode_behind room (Some (Run s ps))) p) h
    ∙ turned_by room (is_complete s ps) (is_joined (last_piece s ps) p) s.stamp (take room (bits_of s ps)) p
    ∙ run_turns room (is_complete s ps) (is_joined (last_piece s ps) p) (p.stamp == s.stamp) s ps p

-- ---- the last part ends at the last member

part_by_ends : (b : Bool) (p : Piece) → EndsAt (Some (if b then Run p [] else Skipped p)) (Some p)
part_by_ends true p = refl
part_by_ends false p = refl

new_ends : (p : Piece) → EndsAt (Some (part_at p [])) (Some p)
new_ends p = part_by_ends (is_starter p) p

run_ends : (b : Bool) (s : Piece) (ps : List Piece) (p : Piece) → EndsAt (Some (if b then Run s (ps ++ p ∷ []) else part_at p [])) (Some p)
run_ends true s ps p = ap Some (sym (last_of_append s ps p))
run_ends false s ps p = new_ends p

after_ends : (z : Option Part) (p : Piece) → EndsAt (Some (part_after z p)) (Some p)
after_ends None p = new_ends p
after_ends (Some (Skipped q)) p = new_ends p
after_ends (Some (Run s ps)) p = run_ends (goes_on s.stamp (last_piece s ps) p) s ps p

abbrev last_from : Option Piece → List Piece → Option Piece
last_from last [] = last
last_from last (p ∷ ps) = last_from (Some p) ps

last_from_append : (last : Option Piece) (ps : List Piece) (p : Piece) → last_from last (ps ++ p ∷ []) ≡ Some p
last_from_append last [] p = refl
last_from_append last (q ∷ ps) p = last_from_append (Some q) ps p

abbrev Snoc : List Piece → Type 0
Snoc ps = (ps ≡ []) ⊎ ((qs : List Piece) × (p : Piece) × (ps ≡ qs ++ p ∷ []))

snoc_more : (x : Piece) (ps : List Piece) → Snoc ps → Snoc (x ∷ ps)
snoc_more x ps (inl h) = inr ([], x, ap (λ (xs : List Piece). x ∷ xs) h)
snoc_more x ps (inr h) = inr (x ∷ h.0, h.1, ap (λ (xs : List Piece). x ∷ xs) h.2)

snoc : (ps : List Piece) → Snoc ps
snoc [] = inl refl
snoc (x ∷ ps) = snoc_more x ps (snoc ps)

ends_by : (ps : List Piece) → Snoc ps → EndsAt (last_part None (cut_parts 0 ps)) (last_from None ps)
ends_by ps (inl h) = rw h refl
ends_by ps (inr h) =
    let e : last_part None (cut_parts 0 (h.0 ++ h.1 ∷ [])) ≡ Some (part_after (last_part None (cut_parts 0 h.0)) h.1) = ap (last_part None) (cut_more 0 h.0 h.1 (omega arith)) ∙ last_of_more (cut_parts 0 h.0) h.1 in
    rw (h.2, last_from_append None h.0 h.1, e) (after_ends (last_part None (cut_parts 0 h.0)) h.1)

later_by : (last m : Option Piece) (ms : List (Option Piece)) → last_from (later last m) (present_pieces ms) ≡ last_from last (present_pieces (m ∷ ms))
later_by last None ms = refl
later_by last (Some p) ms = refl

last_is : (last : Option Piece) (ps : List (Option Piece)) → last_member last ps ≡ last_from last (present_pieces (members last ps))
last_is last [] = refl
last_is last (p ∷ ps) =
    let m = member last p in
    last_is (later last m) ps ∙ later_by last m (members (later last m) ps)

ends : (packets : List (Option Piece)) → EndsAt (last_part None (parts_of packets)) (last_member None packets)
ends packets = rw (last_is None packets) (ends_by (present_pieces (members None packets)) (snoc (present_pieces (members None packets))))

-- ---- a step

abbrev held : ℕ → Option Piece → Option Part → State
held room last z = record { next = option_map number_after last; mode = mode_behind room z }

-- the last part behind one more packet, a member or not
abbrev part_then : Option Part → Option Piece → Option Part
part_then z None = z
part_then z (Some p) = Some (part_after z p)

step_by : (late : Bool) (room : ℕ) (last : Option Piece) (z : Option Part) (p : Piece) → EndsAt z last
    → let m = if late then None else Some p in
    (if late then (held room last z, gives_nothing) else moved p (turned room (joined_to last p) (mode_behind room z) p))
    ≡ (held room (later last m) (part_then z m), kept_given room (answer_to z m))
step_by true room last z p h = refl
step_by false room last z p h = ap (moved p) (turned_is room z last p h)

step_held : (room : ℕ) (last : Option Piece) (z : Option Part) (p : Option Piece) → EndsAt z last
    → step room (held room last z) p ≡ (held room (later last (member last p)) (part_then z (member last p)), kept_given room (answer_to z (member last p)))
unfolding step
step_held room last z None h = refl
step_held room None z (Some p) h = step_by false room None z p h
step_held room (Some q) z (Some p) h = step_by (is_late q p) room (Some q) z p h

part_more : (ms : List (Option Piece)) (m : Option Piece)
    → last_part None (cut_parts 0 (present_pieces (ms ++ m ∷ []))) ≡ part_then (last_part None (cut_parts 0 (present_pieces ms))) m
part_more ms None = ap (λ (ps : List Piece). last_part None (cut_parts 0 ps)) (present_none ms)
part_more ms (Some p) =
    ap (λ (ps : List Piece). last_part None (cut_parts 0 ps)) (present_some ms p)
    ∙ ap (last_part None) (cut_more 0 (present_pieces ms) p (omega arith))
    ∙ last_of_more (cut_parts 0 (present_pieces ms)) p

pub step_law : LawOfSteps
unfolding state_of
step_law room packets p =
    let last = last_member None packets in
    let z = last_part None (parts_of packets) in
    let m = member last p in
    let z_is : last_part None (parts_of (packets ++ p ∷ [])) ≡ part_then z m = ap (λ (xs : List (Option Piece)). last_part None (cut_parts 0 (present_pieces xs))) (members_more None packets p) ∙ part_more (members None packets) m in
    step_held room last z p (ends packets)
    ∙ ap₂ (λ (l : Option Piece) (y : Option Part). (held room l y, kept_given room (answer_to z m))) (sym (last_member_more None packets p)) (sym z_is)
    ∙ ap (λ (g : Given). (held room (last_member None (packets ++ p ∷ [])) (last_part None (parts_of (packets ++ p ∷ []))), kept_given room g)) (sym (fed_last packets p))

pub front_law : LawOfFronts
front_law packets p = all_given_more packets p ∙ ap (λ (g : Given). all_given packets ++ g ∷ []) (sym (fed_last packets p))
