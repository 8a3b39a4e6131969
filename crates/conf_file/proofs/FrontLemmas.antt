-- What octets begin with is one thing: an entry, or octets that are none, or less than an entry.
use Rattle.std.proofs.Common.{◌≡◌, ◌⊎◌, ⊎_elim, ℕ, ◌+◌, ◌*◌, ◌/◌, ◌%◌, ◌==◌, nat_le, nat_lt, true, false, ◌&&◌, if◌then◌else◌, List, [], ◌∷◌, ◌++◌, length, take, refl, sym, ap, ap₂, subst, ◌∙◌, arith, length-append}
use Rattle.std.proofs.Math.Seq.{take-append_seam}
use Rattle.std.proofs.lemmas.Bool.Decides.{nat_tests}
use Rattle.byteorder.specs.Endian.{big_bytes}
use Rattle.pel_model.specs.declared.chair.Command.{Command}
use Rattle.chair_words.specs.Line.{Says, HasFaultAt}
use Rattle.chair_words.specs.declared.reader.LineFault.{LineFault}
use Rattle.chair_words.proofs.LineLemmas.{one_command, one_fault, not_both}
use Rattle.conf_file.specs.declared.answers.EntryWhy.{EntryWhy}
use Rattle.conf_file.specs.declared.answers.EntryWhy.TheVariants.{Header, Kind, Lane, Step, Order}
use Rattle.conf_file.specs.Entries.{Content, Packet, Chair, Tick, End, P, C, T, E, SpellsEntry, IsWrong, IsPartOfPacket, IsPartOfOrder, IsPartEntry}

-- what the octets begin with, where a line is not looked into
pub data Front : Type 0 where
  Short : Front
  NoKind : Front
  NoLane : Front
  NoStep : Front
  HasPacket : ℕ → List ℕ → Front
  HasLine : List ℕ → Front
  HasStep : ℕ → Front
  HasEnd : Front

abbrev packet_in : ℕ → List ℕ → Front
packet_in lane [] = Short
packet_in lane (_ ∷ []) = Short
packet_in lane (high ∷ low ∷ octets) =
    if nat_le (high * 256 + low) (length octets) then HasPacket lane (take (high * 256 + low) octets) else Short

abbrev behind_P : ℕ → List ℕ → Front
behind_P lanes [] = Short
behind_P lanes (lane ∷ octets) = if nat_lt lane lanes then packet_in lane octets else NoLane

abbrev behind_C : List ℕ → Front
behind_C [] = Short
behind_C (size ∷ octets) = if nat_le size (length octets) then HasLine (take size octets) else Short

abbrev behind_T : List ℕ → Front
behind_T [] = Short
behind_T (step ∷ octets) = if nat_le 1 step && nat_le step 31 then HasStep step else NoStep

abbrev behind_kind : ℕ → ℕ → List ℕ → Front
behind_kind lanes kind octets =
    if kind == 80 then behind_P lanes octets else if kind == 67 then behind_C octets else if kind == 84 then behind_T octets
    else if kind == 69 then HasEnd else NoKind

abbrev pub front_of : ℕ → List ℕ → Front
front_of lanes [] = Short
front_of lanes (kind ∷ octets) = behind_kind lanes kind octets

-- what an entry, a reason, or less than an entry has to do with it
abbrev pub Owns : Front → Content → List ℕ → Type 0
Owns Short content entry = ⊥
Owns NoKind content entry = ⊥
Owns NoLane content entry = ⊥
Owns NoStep content entry = ⊥
Owns (HasPacket lane packet) content entry = (content ≡ Packet lane packet) × (entry ≡ P ∷ lane ∷ (big_bytes 2 (length packet) ++ packet))
Owns (HasLine line) content entry = (command : Command) × (content ≡ Chair command) × Says line command × (entry ≡ C ∷ length line ∷ line)
Owns (HasStep step) content entry = (content ≡ Tick step) × (entry ≡ T ∷ step ∷ [])
Owns HasEnd content entry = (content ≡ End) × (entry ≡ E ∷ [])

abbrev pub Blames : Front → EntryWhy → Type 0
Blames Short why = ⊥
Blames NoKind why = why ≡ Kind
Blames NoLane why = why ≡ Lane
Blames NoStep why = why ≡ Step
Blames (HasPacket lane packet) why = ⊥
Blames (HasLine line) why = (fault : LineFault) × (why ≡ Order fault) × HasFaultAt line fault.place fault.why
Blames (HasStep step) why = ⊥
Blames HasEnd why = ⊥

-- at most one of them, and that once
pub one_entry : (f : Front) (x y : Content) (xs ys : List ℕ) → Owns f x xs → Owns f y ys → (x ≡ y) × (xs ≡ ys)
one_entry Short x y xs ys p q = absurd p
one_entry NoKind x y xs ys p q = absurd p
one_entry NoLane x y xs ys p q = absurd p
one_entry NoStep x y xs ys p q = absurd p
one_entry (HasPacket lane packet) x y xs ys p q = (p.0 ∙ sym q.0, p.1 ∙ sym q.1)
one_entry (HasLine line) x y xs ys p q = (p.1 ∙ ap Chair (one_command line p.0 q.0 p.2 q.2) ∙ sym q.1, p.3 ∙ sym q.3)
one_entry (HasStep step) x y xs ys p q = (p.0 ∙ sym q.0, p.1 ∙ sym q.1)
one_entry HasEnd x y xs ys p q = (p.0 ∙ sym q.0, p.1 ∙ sym q.1)

pub not_wrong : (f : Front) (x : Content) (xs : List ℕ) (why : EntryWhy) → Owns f x xs → Blames f why → ⊥
not_wrong Short x xs why p q = p
not_wrong NoKind x xs why p q = p
not_wrong NoLane x xs why p q = p
not_wrong NoStep x xs why p q = p
not_wrong (HasPacket lane packet) x xs why p q = q
not_wrong (HasLine line) x xs why p q = not_both line p.0 q.0.place q.0.why p.2 q.2
not_wrong (HasStep step) x xs why p q = q
not_wrong HasEnd x xs why p q = q

same_fault : (f g : LineFault) → (f.place ≡ g.place) × (f.why ≡ g.why) → f ≡ g
same_fault f g h = ap₂ (λ p w. record { place = p; why = w }) h.0 h.1

pub one_reason : (f : Front) (v w : EntryWhy) → Blames f v → Blames f w → v ≡ w
one_reason Short v w p q = absurd p
one_reason NoKind v w p q = p ∙ sym q
one_reason NoLane v w p q = p ∙ sym q
one_reason NoStep v w p q = p ∙ sym q
one_reason (HasPacket lane packet) v w p q = absurd p
one_reason (HasLine line) v w p q = p.1 ∙ ap Order (same_fault p.0 q.0 (one_fault line _ _ _ _ p.2 q.2)) ∙ sym q.1
one_reason (HasStep step) v w p q = absurd p
one_reason HasEnd v w p q = absurd p

-- octets that begin with an entry
pub entry_in_front : (lanes : ℕ) (content : Content) (entry rest : List ℕ) → SpellsEntry lanes content entry → Owns (front_of lanes (entry ++ rest)) content entry
entry_in_front lanes (Packet lane packet) entry rest s =
    let octets = packet ++ rest in
    let whole : entry ++ rest ≡ P ∷ lane ∷ (length packet / 256 % 256) ∷ (length packet % 256) ∷ octets = ap (λ xs. xs ++ rest) s.0 in
    let size : length packet / 256 % 256 * 256 + length packet % 256 ≡ length packet = omega (arith, s.2) in
    let known : nat_lt lane lanes ≡ true = grind (arith, nat_tests) in
    let fits : nat_le (length packet) (length octets) ≡ true = grind (arith, nat_tests, length-append packet rest) in
    let seen : front_of lanes (P ∷ lane ∷ (length packet / 256 % 256) ∷ (length packet % 256) ∷ octets) ≡ HasPacket lane packet =
    rw (known, size, fits) (ap (HasPacket lane) (take-append_seam packet rest)) in
    subst (λ f. Owns f (Packet lane packet) entry) (sym (ap (front_of lanes) whole ∙ seen)) (refl, s.0)
entry_in_front lanes (Chair command) entry rest s =
    let line = s.0 in
    let octets = line ++ rest in
    let whole : entry ++ rest ≡ C ∷ length line ∷ octets = ap (λ xs. xs ++ rest) s.1 in
    let fits : nat_le (length line) (length octets) ≡ true = grind (arith, nat_tests, length-append line rest) in
    let seen : front_of lanes (C ∷ length line ∷ octets) ≡ HasLine line = rw fits (ap HasLine (take-append_seam line rest)) in
    subst (λ f. Owns f (Chair command) entry) (sym (ap (front_of lanes) whole ∙ seen)) (command, refl, s.3, s.1)
entry_in_front lanes (Tick step) entry rest s =
    let whole : entry ++ rest ≡ T ∷ step ∷ rest = ap (λ xs. xs ++ rest) s.0 in
    let low : nat_le 1 step ≡ true = grind (arith, nat_tests) in
    let high : nat_le step 31 ≡ true = grind (arith, nat_tests) in
    let seen : front_of lanes (T ∷ step ∷ rest) ≡ HasStep step = rw (low, high) refl in
    subst (λ f. Owns f (Tick step) entry) (sym (ap (front_of lanes) whole ∙ seen)) (refl, s.0)
entry_in_front lanes End entry rest s =
    subst (λ f. Owns f End entry) (sym (ap (λ xs. front_of lanes (xs ++ rest)) s)) (refl, s)

-- octets that begin no entry
pub fault_in_front : (lanes : ℕ) (why : EntryWhy) (octets rest : List ℕ) → IsWrong lanes why octets rest → Blames (front_of lanes octets) why
fault_in_front lanes Header octets rest w = absurd w
fault_in_front lanes Kind octets rest w =
    let kind = w.0 in
    let p : (kind == 80) ≡ false = grind (arith, nat_tests) in
    let c : (kind == 67) ≡ false = grind (arith, nat_tests) in
    let t : (kind == 84) ≡ false = grind (arith, nat_tests) in
    let e : (kind == 69) ≡ false = grind (arith, nat_tests) in
    let seen : front_of lanes (kind ∷ rest) ≡ NoKind = rw (p, c, t, e) refl in
    subst (λ f. Blames f Kind) (sym (ap (front_of lanes) w.1 ∙ seen)) refl
fault_in_front lanes Lane octets rest w =
    let unknown : nat_lt w.0 lanes ≡ false = grind (arith, nat_tests) in
    let seen : front_of lanes (P ∷ w.0 ∷ rest) ≡ NoLane = rw unknown refl in
    subst (λ f. Blames f Lane) (sym (ap (front_of lanes) w.1 ∙ seen)) refl
fault_in_front lanes Step octets rest w =
    let step = w.0 in
    let none : (nat_le 1 step && nat_le step 31) ≡ false =
    elim (nat_le 1 step && nat_le step 31) as (λ b. (nat_le 1 step && nat_le step 31) ≡ b → b ≡ false) [
      | true ↦ λ e. absurd (w.2 (grind (arith, nat_tests), grind (arith, nat_tests)))
      | false ↦ λ e. refl
    ] refl in
    let seen : front_of lanes (T ∷ step ∷ rest) ≡ NoStep = rw none refl in
    subst (λ f. Blames f Step) (sym (ap (front_of lanes) w.1 ∙ seen)) refl
fault_in_front lanes (Order fault) octets rest w =
    let line = w.0 in
    let fits : nat_le (length line) (length (line ++ rest)) ≡ true = grind (arith, nat_tests, length-append line rest) in
    let seen : front_of lanes (C ∷ length line ∷ (line ++ rest)) ≡ HasLine line = rw fits (ap HasLine (take-append_seam line rest)) in
    subst (λ f. Blames f (Order fault)) (sym (ap (front_of lanes) w.1 ∙ seen)) (fault, refl, w.3)

-- less than an entry
part_of_packet : (lanes : ℕ) (octets : List ℕ) → IsPartOfPacket lanes octets → behind_P lanes octets ≡ Short
part_of_packet lanes [] h = refl
part_of_packet lanes (lane ∷ []) h =
    let known : nat_lt lane lanes ≡ true = grind (arith, nat_tests) in
    rw known refl
part_of_packet lanes (lane ∷ x ∷ []) h =
    let known : nat_lt lane lanes ≡ true = grind (arith, nat_tests) in
    rw known refl
part_of_packet lanes (lane ∷ high ∷ low ∷ packet) h =
    let known : nat_lt lane lanes ≡ true = grind (arith, nat_tests) in
    let short : nat_le (high * 256 + low) (length packet) ≡ false = grind (arith, nat_tests) in
    rw (known, short) refl

part_of_order : (octets : List ℕ) → IsPartOfOrder octets → behind_C octets ≡ Short
part_of_order [] h = refl
part_of_order (size ∷ line) h =
    let short : nat_le size (length line) ≡ false = grind (arith, nat_tests) in
    rw short refl

pub part_in_front : (lanes : ℕ) (octets : List ℕ) → IsPartEntry lanes octets → front_of lanes octets ≡ Short
part_in_front lanes [] h = refl
part_in_front lanes (kind ∷ octets) h = ⊎_elim (λ (p : (kind ≡ P) × IsPartOfPacket lanes octets).
    ap (λ k. front_of lanes (k ∷ octets)) p.0 ∙ part_of_packet lanes octets p.1)
    (λ (q : ((kind ≡ C) × IsPartOfOrder octets) ⊎ ((kind ≡ T) × (octets ≡ []))). ⊎_elim (λ (p : (kind ≡ C) × IsPartOfOrder octets).
    ap (λ k. front_of lanes (k ∷ octets)) p.0 ∙ part_of_order octets p.1)
    (λ (p : (kind ≡ T) × (octets ≡ [])). ap₂ (λ k xs. front_of lanes (k ∷ xs)) p.0 p.1) q) h
