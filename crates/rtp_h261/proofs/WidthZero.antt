-- With width 0 those packets are fed that count, and the same happens.
use Rattle.std.proofs.Common.{◌≡◌, ℕ, zero, suc, ◌+◌, ◌-◌, ◌%◌, ◌^◌, ◌==◌, Bool, true, false, not, List, [], ◌∷◌, ◌++◌, Option, None, Some, option_map, length, map, nat_lt, nat_le, ◌||◌, if◌then◌else◌, unwrap_or, refl, sym, ap, ap₂, subst, ◌∙◌, arith}
use Rattle.std.proofs.lemmas.Bool.{lt-leb, or_from}
use Rattle.rtp_h261.specs.Packets.{piece_of}
use Rattle.pel_model.specs.declared.Format.{Format}
use Rattle.rtp_h261.specs.Events.{Event, Happens, HappenAt, AreEvents}
use Rattle.rtp_h261.specs.Units.{Piece, Given, gives_nothing, number_after, ahead, is_late, member, later, members, present_pieces, cut_parts, parts_give, spread, all_given}
use Rattle.rtp_h261.specs.Ordered.{Arrival, Queue, no_queue, with_usable, usable_of, is_stale, number_behind, joined_by, due, settled, let_out, kept_back, given_out, octets_in, in_order}
use Rattle.rtp_h261.specs.WindowLaws.{LawOfWidthZero}

-- ---- one packet

abbrev expecting : Option ℕ → Queue
expecting next = record { next = next; waiting = [] }

out-by : (b : Bool) (e : ℕ) (a : Arrival) (zs : List Arrival)
    → (if b || nat_lt 0 1 then a ∷ [] else []) ++ given_out 0 (if b || nat_lt 0 1 then expecting (Some (number_behind a)) else record { next = Some e; waiting = a ∷ [] }) zs
    ≡ a ∷ given_out 0 (expecting (Some (number_behind a))) zs
out-by true e a zs = refl
out-by false e a zs = refl

abbrev joined-by : Option ℕ → Arrival → Bool → Queue
joined-by next a stale = record { next = Some (unwrap_or next a.number); waiting = if stale then [] else a ∷ [] }

comes-by : (stale : Bool) → stale ≡ false → (next : Option ℕ) (a : Arrival) (zs : List Arrival)
    → due 0 (joined-by next a stale) ++ given_out 0 (settled 0 (joined-by next a stale)) zs ≡ a ∷ given_out 0 (expecting (Some (number_behind a))) zs
comes-by stale e next a zs = rw e (out-by (a.number == unwrap_or next a.number) (unwrap_or next a.number) a zs)

passes-by : (stale : Bool) → stale ≡ true → (next : Option ℕ) (a : Arrival) (zs : List Arrival)
    → due 0 (joined-by next a stale) ++ given_out 0 (settled 0 (joined-by next a stale)) zs ≡ given_out 0 (expecting (Some (unwrap_or next a.number))) zs
passes-by stale e next a zs = rw e refl

module _ (next : Option ℕ) (a : Arrival) (zs : List Arrival) where
  comes : is_stale (unwrap_or next a.number) [] a.number ≡ false
      → given_out 0 (expecting next) (a ∷ zs) ≡ a ∷ given_out 0 (expecting (Some (number_behind a))) zs
  comes e = comes-by (is_stale (unwrap_or next a.number) [] a.number) e next a zs

  passes : is_stale (unwrap_or next a.number) [] a.number ≡ true
      → given_out 0 (expecting next) (a ∷ zs) ≡ given_out 0 (expecting (Some (unwrap_or next a.number))) zs
  passes e = passes-by (is_stale (unwrap_or next a.number) [] a.number) e next a zs

first-fresh : (n : ℕ) → is_stale n [] n ≡ false
first-fresh n = or_from _ _ (lt-leb (2 ^ 15) (ahead n n) (omega arith)) refl

-- ---- packet by packet

abbrev behind : Option Piece → Queue
behind last = expecting (option_map number_after last)

abbrev fed : Option Piece → List Arrival → List (Option Piece)
fed last zs = map piece_of (octets_in (given_out 0 (behind last) zs))

abbrev counting : Option Piece → List (Option Piece) → List (Option Piece)
counting last ps = map (λ (p : Piece). Some p) (present_pieces (members last ps))

abbrev arrival : List ℕ → Piece → Arrival
arrival x p = record { number = p.number; octets = x }

module _ (x : List ℕ) (zs : List Arrival) (ps : List (Option Piece)) (more : (last : Option Piece) → fed last zs ≡ counting last ps) where
  comes-piece : (p : Piece) → piece_of x ≡ Some p → fed (Some p) zs ≡ counting (Some p) ps
      → map piece_of (octets_in (arrival x p ∷ given_out 0 (behind (Some p)) zs)) ≡ Some p ∷ counting (Some p) ps
  comes-piece p e rest = ap₂ (λ (o : Option Piece) (os : List (Option Piece)). o ∷ os) e rest

  turn-by : (l p : Piece) → piece_of x ≡ Some p → (late : Bool) → is_late l p ≡ late
      → fed (Some l) (arrival x p ∷ zs)
      ≡ map (λ (q : Piece). Some q) (present_pieces ((if late then None else Some p) ∷ members (later (Some l) (if late then None else Some p)) ps))
  turn-by l p e true late =
      ap (λ (xs : List Arrival). map piece_of (octets_in xs)) (passes (Some (number_after l)) (arrival x p) zs (rw late refl)) ∙ more (Some l)
  turn-by l p e false late =
      ap (λ (xs : List Arrival). map piece_of (octets_in xs)) (comes (Some (number_after l)) (arrival x p) zs (rw late refl)) ∙ comes-piece p e (more (Some p))

  turn : (last : Option Piece) (o : Option Piece) → piece_of x ≡ o
      → fed last (with_usable (option_map (arrival x) o) zs) ≡ counting last (o ∷ ps)
  turn last None e = more last
  turn None (Some p) e =
      ap (λ (xs : List Arrival). map piece_of (octets_in xs)) (comes None (arrival x p) zs (first-fresh p.number)) ∙ comes-piece p e (more (Some p))
  turn (Some l) (Some p) e = turn-by l p e (is_late l p) refl

fed-is : (last : Option Piece) (packets : List (List ℕ)) → fed last (usable_of packets) ≡ counting last (map piece_of packets)
fed-is last [] = refl
fed-is last (x ∷ xs) = turn x (usable_of xs) (map piece_of xs) (λ l. fed-is l xs) last (piece_of x) refl

fed-in-order : (packets : List (List ℕ)) → map piece_of (in_order 0 packets) ≡ counting None (map piece_of packets)
unfolding in_order
fed-in-order packets = fed-is None packets

-- ---- all that is fed counts

present-all : (ps : List Piece) → present_pieces (map (λ (p : Piece). Some p) ps) ≡ ps
present-all [] = refl
present-all (p ∷ ps) = ap (λ (qs : List Piece). p ∷ qs) (present-all ps)

again-by : (late : Bool) (l p : Piece) (ps : List (Option Piece)) → is_late l p ≡ late → ((last : Option Piece) → members last (counting last ps) ≡ counting last ps)
    → members (Some l) (map (λ (q : Piece). Some q) (present_pieces ((if late then None else Some p) ∷ members (later (Some l) (if late then None else Some p)) ps)))
    ≡ map (λ (q : Piece). Some q) (present_pieces ((if late then None else Some p) ∷ members (later (Some l) (if late then None else Some p)) ps))
again-by true l p ps e more = more (Some l)
again-by false l p ps e more =
    ap (λ (late : Bool). (if late then None else Some p) ∷ members (later (Some l) (if late then None else Some p)) (counting (Some p) ps)) e
    ∙ ap (λ (qs : List (Option Piece)). Some p ∷ qs) (more (Some p))

again : (last : Option Piece) (ps : List (Option Piece)) → members last (counting last ps) ≡ counting last ps
again last [] = refl
again last (None ∷ ps) = again last ps
again None (Some p ∷ ps) = ap (λ (qs : List (Option Piece)). Some p ∷ qs) (again (Some p) ps)
again (Some l) (Some p ∷ ps) = again-by (is_late l p) l p ps refl (λ last. again last ps)

-- ---- the same happens

abbrev alone : List (Option Piece) → List (Option Piece)
alone ms = map (λ (p : Piece). Some p) (present_pieces ms)

nothing-first : (format : Format) (first rest events : List Event) → Happens format gives_nothing first → events ≡ first ++ rest → events ≡ rest
nothing-first format first rest events h e = e ∙ ap (λ (xs : List Event). xs ++ rest) (h.order ∙ h.is_unit)

nothing-happens : (format : Format) → Happens format gives_nothing []
nothing-happens format = record { unit = []; is_unit = refl; order = refl }

less : (format : Format) (ms : List (Option Piece)) (gs : List Given) (events : List Event)
    → HappenAt format (spread ms gs) events → HappenAt format (spread (alone ms) gs) events
less format [] gs events h = h
less format (None ∷ ms) gs events h =
    less format ms gs events (subst (HappenAt format (spread ms gs)) (sym (nothing-first format h.0 h.1 events h.2 h.4)) h.3)
less format (Some p ∷ ms) [] events h = (h.0, h.1, h.2, less format ms [] h.1 h.3, h.4)
less format (Some p ∷ ms) (g ∷ gs) events h = (h.0, h.1, h.2, less format ms gs h.1 h.3, h.4)

again-more : (format : Format) (ms : List (Option Piece)) (gs : List Given) (events : List Event)
    → HappenAt format (spread (alone ms) gs) events → HappenAt format (spread ms gs) events
again-more format [] gs events h = h
again-more format (None ∷ ms) gs events h = ([], events, nothing-happens format, again-more format ms gs events h, refl)
again-more format (Some p ∷ ms) [] events h = (h.0, h.1, h.2, again-more format ms [] h.1 h.3, h.4)
again-more format (Some p ∷ ms) (g ∷ gs) events h = (h.0, h.1, h.2, again-more format ms gs h.1 h.3, h.4)

given-alone : (ps : List (Option Piece)) → all_given (counting None ps) ≡ spread (counting None ps) (parts_give None (cut_parts 0 (present_pieces (members None ps))))
unfolding all_given
given-alone ps =
    ap (λ (ms : List (Option Piece)). spread ms (parts_give None (cut_parts 0 (present_pieces ms)))) (again None ps)
    ∙ ap (λ (qs : List Piece). spread (counting None ps) (parts_give None (cut_parts 0 qs))) (present-all (present_pieces (members None ps)))

given-all : (ps : List (Option Piece)) → all_given ps ≡ spread (members None ps) (parts_give None (cut_parts 0 (present_pieces (members None ps))))
unfolding all_given
given-all ps = refl

module _ (format : Format) (packets : List (List ℕ)) (events : List Event) where
  abbrev pieces : List (Option Piece)
  pieces = map piece_of packets

  abbrev given : List Given
  given = parts_give None (cut_parts 0 (present_pieces (members None pieces)))

  given-in-order : all_given (map piece_of (in_order 0 packets)) ≡ spread (alone (members None pieces)) given
  given-in-order = ap all_given (fed-in-order packets) ∙ given-alone pieces

  forth : AreEvents format packets events → AreEvents format (in_order 0 packets) events
  forth h = subst (λ (gs : List Given). HappenAt format gs events) (sym given-in-order)
      (less format (members None pieces) given events (subst (λ (gs : List Given). HappenAt format gs events) (given-all pieces) h))

  back : AreEvents format (in_order 0 packets) events → AreEvents format packets events
  back h = subst (λ (gs : List Given). HappenAt format gs events) (sym (given-all pieces))
      (again-more format (members None pieces) given events (subst (λ (gs : List Given). HappenAt format gs events) given-in-order h))

pub zero_law : LawOfWidthZero
zero_law = record { fed = fed-in-order; happens = λ format packets events. (forth format packets events, back format packets events) }
