-- What a turn of the code's depacketiser gives.
use Rattle.std.proofs.Common.{◌≡◌, ℕ, zero, suc, ◌+◌, ◌-◌, ◌≤◌, ◌==◌, nat_le, Bool, true, false, ◌&&◌, if◌then◌else◌, List, [], ◌∷◌, ◌++◌, Option, None, Some, option_map, map, ◌%◌, length, min, not, take, refl, sym, ap, ap₂, subst, ◌∙◌, arith, length-take}
use Rattle.std.proofs.lemmas.List.{take-take, length-map, map-append}
use Rattle.std.proofs.Math.Seq.{take-append-add}
use Rattle.std.proofs.lemmas.Bool.Decides.{nat_tests}
use Rattle.pel_bits.specs.Bits.{number}
use Rattle.pel_model.specs.declared.Format.{Format}
use Rattle.h261_pic.specs.Coded.{Coding}
use Rattle.picture_laws.specs.Laws.{kept_length}
use Rattle.picture_laws.proofs.Kept.{kept-length}
use Rattle.rtp_h261.specs.declared.depack.Unit.{Unit as Ended}
use Rattle.rtp_h261.specs.declared.depack.Unit.TheVariants.{Picture, Gap}
use Rattle.rtp_h261.specs.declared.depack.Carried.{Carried}
use Rattle.rtp_h261.specs.declared.depack.Fed.{Fed}
use Rattle.rtp_h261.specs.Depack.{IsUnit, HasUnit, AnswersGiven, Held, WasFed, given_behind}
use Rattle.rtp_h261.specs.Packets.{piece_of}
use Rattle.rtp_h261.specs.OneByOne.{Mode, Seek, Idle, Collect, State, state_of, closed, starting, collected, turned, comes_late, follows, moved, step, kept_given}
use Rattle.rtp_h261.specs.Turns.{Carries, Turned, StepTaken}
use Rattle.rtp_h261.specs.Units.{Piece, Given, gives_nothing, is_starter, fed}
use Rattle.rtp_h261.proofs.StepLemmas.{step_law}

-- what is kept of a unit's bits says what the unit is
pub kept_unit : (format : Format) (bits : List Bool) (unit : Ended) (coded : Coding) → IsUnit format (take (kept_length format) bits) unit coded → IsUnit format bits unit coded
kept_unit format bits Picture coded h = (h.0, (kept-length format bits).1 h.0 h.1, h.2)
kept_unit format bits (Gap fault) coded h = ((kept-length format bits).3 fault.place fault.why h.0, h.1)

pub starter_kept : (room : ℕ) (bits : List Bool) → 20 ≤ room
    → (nat_le 20 (length (take room bits)) && (number (take 20 (take room bits)) == 16)) ≡ (nat_le 20 (length bits) && (number (take 20 bits) == 16))
starter_kept room bits h =
    let same : take 20 (take room bits) ≡ take 20 bits = take-take 20 room bits h in
    let test : nat_le 20 (length (take room bits)) ≡ nat_le 20 (length bits) = grind (arith, nat_tests, length-take room bits) in
    ap₂ (λ (a : Bool) (xs : List Bool). a && (number xs == 16)) test same

abbrev pub starts : List Bool → Bool
starts bits = nat_le 20 (length bits) && (number (take 20 bits) == 16)

-- ---- a packet outside a run

roomy : (format : Format) → 20 ≤ kept_length format
roomy format = omega arith

starter_is : (format : Format) (c : Carried) (p : Piece) (b : Bool) → Carries (kept_length format) c p → b ≡ starts c.bits → is_starter p ≡ b
starter_is format c p b h is = sym (is ∙ ap starts h.bits ∙ starter_kept (kept_length format) p.bits (roomy format))

pub skip_turn : (format : Format) (lost : Bool) (c : Carried) (p : Piece) (b : Bool) (old : Coding) → Carries (kept_length format) c p
    → b ≡ starts c.bits → b ≡ false
    → Turned format (starting (kept_length format) lost p) Seek (record { lost = lost; unit = None }) old old
skip_turn format lost c p b old h is fails =
    let room = kept_length format in
    let g : Given = record { lost = lost; unit = None } in
    let e : starting room lost p ≡ (Seek, g) =
    ap (λ (x : Bool). if x then closed lost p.stamp (take room p.bits) p.marker else (Seek, g)) (starter_is format c p b h is ∙ fails) in
    subst (λ t. Turned format t Seek (record { lost = lost; unit = None }) old old) (sym e) (record { mode = refl; given = record { lost = refl; unit = refl } })

started : (format : Format) (lost : Bool) (c : Carried) (p : Piece) (b : Bool) → Carries (kept_length format) c p → b ≡ starts c.bits → b ≡ true
    → closed lost c.stamp c.bits c.marker ≡ starting (kept_length format) lost p
started format lost c p b h is holds =
    let room = kept_length format in
    let g : Given = record { lost = lost; unit = None } in
    ap₂ (λ (s : ℕ) (m : Bool). closed lost s c.bits m) h.stamp h.marker
    ∙ ap (λ (xs : List Bool). closed lost p.stamp xs p.marker) h.bits
    ∙ ap (λ (x : Bool). if x then closed lost p.stamp (take room p.bits) p.marker else (Seek, g)) (sym (starter_is format c p b h is ∙ holds))

pub unit_turn : (format : Format) (lost : Bool) (c : Carried) (p : Piece) (b : Bool) (unit : Ended) (old new : Coding) → Carries (kept_length format) c p
    → b ≡ starts c.bits → b ≡ true → c.marker ≡ true → IsUnit format c.bits unit new
    → Turned format (starting (kept_length format) lost p) Idle (record { lost = lost; unit = Some unit }) old new
unit_turn format lost c p b unit old new h is holds marked is_unit =
    let g : Given = record { lost = lost; unit = Some c.bits } in
    let e : (Idle, g) ≡ starting (kept_length format) lost p =
    ap (λ (m : Bool). closed lost c.stamp c.bits m) (sym marked) ∙ started format lost c p b h is holds in
    subst (λ t. Turned format t Idle (record { lost = lost; unit = Some unit }) old new) e (record { mode = refl; given = record { lost = refl; unit = is_unit } })

pub collect_turn : (format : Format) (lost : Bool) (c : Carried) (p : Piece) (b : Bool) (all : List Bool) (old : Coding) → Carries (kept_length format) c p
    → b ≡ starts c.bits → b ≡ true → c.marker ≡ false → all ≡ c.bits
    → Turned format (starting (kept_length format) lost p) (Collect c.stamp all) (record { lost = lost; unit = None }) old old
collect_turn format lost c p b all old h is holds unmarked whole =
    let g : Given = record { lost = lost; unit = None } in
    let e : (Collect c.stamp all, g) ≡ starting (kept_length format) lost p =
    ap (λ (xs : List Bool). (Collect c.stamp xs, g)) whole ∙ ap (λ (m : Bool). closed lost c.stamp c.bits m) (sym unmarked) ∙ started format lost c p b h is holds in
    subst (λ t. Turned format t (Collect c.stamp all) (record { lost = lost; unit = None }) old old) e (record { mode = refl; given = record { lost = refl; unit = refl } })

-- ---- a packet in a run

take_none : (n : ℕ) → take {A = Bool} n [] ≡ []
take_none zero = refl
take_none (suc n) = refl

take_min : (n : ℕ) (xs : List Bool) → take (min (length xs) n) xs ≡ take n xs
take_min n [] = take_none (min 0 n) ∙ sym (take_none n)
take_min zero (x ∷ xs) = ap (λ k. take k (x ∷ xs)) {x = min (length (x ∷ xs)) 0} {y = 0} (omega arith)
take_min (suc n) (x ∷ xs) =
    let e : min (suc (length xs)) (suc n) ≡ suc (min (length xs) n) = omega arith in
    ap (λ k. take k (x ∷ xs)) e ∙ ap (λ (ys : List Bool). x ∷ ys) (take_min n xs)

pub appended : (room : ℕ) (bits cs ps : List Bool) → length bits ≤ room → cs ≡ take room ps
    → bits ++ take (min (length cs) (room - length bits)) cs ≡ take room (bits ++ ps)
appended room bits cs ps within is =
    let n = room - length bits in
    let sum : room ≡ length bits + n = omega (arith, within) in
    ap (λ (xs : List Bool). bits ++ xs) (take_min n cs ∙ ap (take n) is ∙ take-take n room ps (omega arith))
    ∙ sym (ap (λ k. take k (bits ++ ps)) sum ∙ take-append-add bits ps n)

pub marked_turn : (format : Format) (stamp : ℕ) (bits all : List Bool) (c : Carried) (p : Piece) (unit : Ended) (old new : Coding) → Carries (kept_length format) c p
    → all ≡ take (kept_length format) (bits ++ p.bits) → c.marker ≡ true → IsUnit format all unit new
    → Turned format (collected (kept_length format) true stamp bits p) Idle (record { lost = false; unit = Some unit }) old new
marked_turn format stamp bits all c p unit old new h is marked is_unit =
    let g : Given = record { lost = false; unit = Some all } in
    let e : (Idle, g) ≡ collected (kept_length format) true stamp bits p =
    ap₂ (λ (m : Bool) (xs : List Bool). closed false stamp xs m) (sym marked ∙ h.marker) is in
    subst (λ t. Turned format t Idle (record { lost = false; unit = Some unit }) old new) e (record { mode = refl; given = record { lost = refl; unit = is_unit } })

pub unmarked_turn : (format : Format) (stamp : ℕ) (bits all : List Bool) (c : Carried) (p : Piece) (old : Coding) → Carries (kept_length format) c p
    → all ≡ take (kept_length format) (bits ++ p.bits) → c.marker ≡ false
    → Turned format (collected (kept_length format) true stamp bits p) (Collect stamp all) (record { lost = false; unit = None }) old old
unmarked_turn format stamp bits all c p old h is unmarked =
    let g : Given = record { lost = false; unit = None } in
    let e : (Collect stamp all, g) ≡ collected (kept_length format) true stamp bits p =
    ap₂ (λ (m : Bool) (xs : List Bool). closed false stamp xs m) (sym unmarked ∙ h.marker) is in
    subst (λ t. Turned format t (Collect stamp all) (record { lost = false; unit = None }) old old) e (record { mode = refl; given = record { lost = refl; unit = refl } })

-- ---- a packet behind a complete run

pub idle_turn : (format : Format) (joined lost : Bool) (c : Carried) (p : Piece) (now : Mode) (answer : Fed) (old new : Coding) → Carries (kept_length format) c p
    → lost ≡ not (joined && starts c.bits) → Turned format (starting (kept_length format) lost p) now answer old new
    → Turned format (starting (kept_length format) (not (joined && is_starter p)) p) now answer old new
idle_turn format joined lost c p now answer old new h is turn =
    subst (λ l. Turned format (starting (kept_length format) l p) now answer old new)
    (is ∙ ap (λ (b : Bool). not (joined && b)) (sym (starter_is format c p (starts c.bits) h refl))) turn

-- ---- a step

-- what is kept of what is given says the same
kept_has : (format : Format) (unit : Option (List Bool)) (answer : Option Ended) (old new : Coding)
    → HasUnit format (option_map (take (kept_length format)) unit) answer old new → HasUnit format unit answer old new
kept_has format None None old new h = h
kept_has format None (Some u) old new h = h
kept_has format (Some bits) None old new h = h
kept_has format (Some bits) (Some u) old new h = kept_unit format bits u new h

kept_answers : (format : Format) (g : Given) (answer : Fed) (old new : Coding) → AnswersGiven format (kept_given (kept_length format) g) answer old new
    → AnswersGiven format g answer old new
kept_answers format g answer old new h = record { lost = h.lost; unit = kept_has format g.unit answer.unit old new h.unit }

pub refused_step : (format : Format) (state : State) (p : Piece) (answer : Fed) (old : Coding) → comes_late state.next p ≡ true
    → answer ≡ record { lost = false; unit = None } → StepTaken format (step (kept_length format) state (Some p)) state answer old old
unfolding step
refused_step format state p answer old late is =
    let room = kept_length format in
    let e : (state, gives_nothing) ≡ step room state (Some p) =
    ap (λ (b : Bool). if b then (state, gives_nothing) else moved p (turned room (follows state.next p) state.mode p)) (sym late) in
    subst (λ t. StepTaken format t state answer old old) e (record { state = refl; given = record { lost = ap (λ (f : Fed). f.lost) is; unit = rw is refl } })

pub moved_step : (format : Format) (state : State) (p : Piece) (number : ℕ) (joined : Bool) (now : Mode) (answer : Fed) (old new : Coding)
    → number ≡ p.number → comes_late state.next p ≡ false → joined ≡ follows state.next p
    → Turned format (turned (kept_length format) joined state.mode p) now answer old new
    → StepTaken format (step (kept_length format) state (Some p)) (record { next = Some ((number + 1) % 65536); mode = now }) answer old new
unfolding step
moved_step format state p number joined now answer old new same early is turn =
    let room = kept_length format in
    let t = turned room joined state.mode p in
    let e : moved p t ≡ step room state (Some p) =
    ap (λ (b : Bool). moved p (turned room b state.mode p)) is
    ∙ ap (λ (b : Bool). if b then (state, gives_nothing) else moved p (turned room (follows state.next p) state.mode p)) (sym early) in
    subst (λ (s : State × Given). StepTaken format s (record { next = Some ((number + 1) % 65536); mode = now }) answer old new) e
    (record { state = ap₂ (λ (n : ℕ) (m : Mode). record { next = Some ((n + 1) % 65536); mode = m }) same turn.mode; given = turn.given })

pub unused_step : (format : Format) (state : State) (answer : Fed) (old : Coding)
    → answer ≡ record { lost = false; unit = None } → StepTaken format (step (kept_length format) state None) state answer old old
unfolding step
unused_step format state answer old is = record { state = refl; given = record { lost = ap (λ (f : Fed). f.lost) is; unit = rw is refl } }

-- ---- all packets

one_more : (format : Format) (packets : List (List ℕ)) (packet : List ℕ) (d : Held) → WasFed packets d → d.format ≡ format
    → step (kept_length format) d.state (piece_of packet)
    ≡ (state_of (kept_length format) (map piece_of (packets ++ packet ∷ [])), kept_given (kept_length format) (given_behind packets packet))
one_more format packets packet d stands is =
    let room = kept_length format in
    let all : map piece_of (packets ++ packet ∷ []) ≡ map piece_of packets ++ piece_of packet ∷ [] = map-append piece_of packets (packet ∷ []) in
    let count : length packets ≡ length (map piece_of packets) = sym (length-map packets piece_of) in
    ap (λ (s : State). step room s (piece_of packet)) (stands ∙ ap (λ (f : Format). state_of (kept_length f) (map piece_of packets)) is)
    ∙ step_law room (map piece_of packets) (piece_of packet)
    ∙ ap₂ (λ (ps : List (Option Piece)) (i : ℕ). (state_of room ps, kept_given room (fed ps i))) (sym all) (sym count)

pub feeds : (packets : List (List ℕ)) (packet : List ℕ) (d : Held) (o : Option Piece) (now : State) (answer : Fed) (old new : Coding) → WasFed packets d → piece_of packet ≡ o
    → StepTaken d.format (step (kept_length d.format) d.state o) now answer old new
    → (now ≡ state_of (kept_length d.format) (map piece_of (packets ++ packet ∷ []))) × AnswersGiven d.format (given_behind packets packet) answer old new
feeds packets packet d o now answer old new stands is h =
    let e = ap (λ (x : Option Piece). step (kept_length d.format) d.state x) (sym is) ∙ one_more d.format packets packet d stands refl in
    let t = subst (λ (s : State × Given). StepTaken d.format s now answer old new) e h in
    (t.state, kept_answers d.format (given_behind packets packet) answer old new t.given)
