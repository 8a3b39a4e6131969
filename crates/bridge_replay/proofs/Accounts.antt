-- What is kept of the lanes of a conference of which is told.
use Rattle.std.proofs.Common.{◌≡◌, ◌≢◌, ℕ, ◌+◌, ◌<◌, ◌≤◌, ◌==◌, if◌then◌else◌, Bool, true, false, List, [], ◌∷◌, ◌++◌, Option, None, Some, is_none, is_some, not, length, get_or, map, option_map, slice_get, slice_set, refl, sym, ap, subst, ◌∙◌, arith, length-set, length-append}
use Rattle.std.proofs.lemmas.Bool.Decides.{nat_tests}
use Rattle.std.proofs.lemmas.List.{map-append}
use Rattle.std.proofs.lemmas.Option.{slice_get_read}
use Rattle.bridge_replay.specs.declared.idle.Idle.{Idle}
use Rattle.bridge_replay.specs.declared.idle.Idle.TheVariants.{Repeated, Late}
use Rattle.bridge_replay.specs.Account.{idle_behind, why_idle}
use Rattle.bridge_replay.specs.FileHistory.{packets_in}
use Rattle.bridge_replay.specs.Recounting.{AreCounted, AreLasts, Judges, last_number}
use Rattle.bridge_replay.proofs.Units.{get-set_same, get-set_other}
use Rattle.conf_file.specs.Entries.{Content, Packet}
use Rattle.pel_model.specs.declared.Format.TheVariants.{Qcif}
use Rattle.pel_model.specs.History.{History, Step, Post, Gap, Order, Tick, End, arrivals}
use Rattle.pel_model.specs.Lanes.{Arrival, Received, Missing}
use Rattle.pel_model.specs.Records.{Picture}
use Rattle.pel_model.specs.Refresh.{is_refresh}
use Rattle.rtp_h261.specs.OneByOne.{last_member}
use Rattle.rtp_h261.specs.Packets.{piece_of}
use Rattle.rtp_h261.specs.Units.{Piece, is_late, member, later}

-- ---- how many steps a lane had

-- a step comes in this lane, and in no other
abbrev pub ComesIn : ℕ → Step → Type 0
ComesIn lane s =
    (x : Arrival Picture) × ((H : History) (c : ℕ) → arrivals (s ∷ H) c ≡ (if lane == c then arrivals H c ++ x ∷ [] else arrivals H c))

pub gap-comes : (lane : ℕ) → ComesIn lane (Gap lane)
gap-comes lane = (Missing, λ H c. refl)

pub post-comes : (lane : ℕ) (p : Picture) → ComesIn lane (Post lane p)
post-comes lane p = (Received (is_refresh Qcif p) p, λ H c. refl)

pub counted-further : (lanes lane n : ℕ) (history : History) (counts : List ℕ) (s : Step) → ComesIn lane s → AreCounted lanes history counts → lane < lanes
    → n ≡ length (arrivals history lane) + 1 → AreCounted lanes (s ∷ history) (slice_set counts lane n)
counted-further lanes lane n history counts s comes counted below is = record {
  count = length-set counts lane n ∙ counted.count;
  each = λ c within. at c within (lane == c) refl;
}
  where
    more : (c : ℕ) (b : Bool) → (lane == c) ≡ b → arrivals (s ∷ history) c ≡ (if b then arrivals history c ++ comes.0 ∷ [] else arrivals history c)
    more c b e = comes.1 history c ∙ ap (λ (t : Bool). if t then arrivals history c ++ comes.0 ∷ [] else arrivals history c) e

    at : (c : ℕ) → c < lanes → (b : Bool) → (lane == c) ≡ b → slice_get (slice_set counts lane n) c ≡ Some (length (arrivals (s ∷ history) c))
    at c within true e =
        let same : lane ≡ c = grind (arith, nat_tests) in
        let long : length (arrivals (s ∷ history) c) ≡ length (arrivals history c) + 1 = ap length (more c true e) ∙ length-append (arrivals history c) (comes.0 ∷ []) in
        subst (λ (k : ℕ). slice_get (slice_set counts lane n) k ≡ Some (length (arrivals (s ∷ history) c))) same
        (get-set_same counts lane n (omega (arith, below, counted.count))
        ∙ ap (λ (k : ℕ). Some k) (is ∙ ap (λ (k : ℕ). length (arrivals history k) + 1) same ∙ sym long))
    at c within false e =
        let apart : lane ≢ c = grind (arith, nat_tests) in
        get-set_other counts lane c n apart ∙ counted.each c within ∙ ap (λ (xs : List (Arrival Picture)). Some (length xs)) (sym (more c false e))

-- what is counted there
pub count-there : (lanes lane at n : ℕ) (history : History) (counts : List ℕ) → AreCounted lanes history counts → lane < lanes → at ≡ lane
    → n ≡ get_or counts at n → n ≡ length (arrivals history lane)
count-there lanes lane at n history counts counted below is there =
    some-same (sym (slice_get_read counts (length counts) at n refl (omega (arith, below, is, counted.count)) there) ∙ ap (slice_get counts) is ∙ counted.each lane below)
  where
    some-same : {x y : ℕ} → Some x ≡ Some y → x ≡ y
    some-same e = cc

-- no lane has more steps than a history
few-in : (xs : List (Arrival Picture)) (x : Arrival Picture) (n : ℕ) (b : Bool) → length xs ≤ n → length (if b then xs ++ x ∷ [] else xs) ≤ n + 1
few-in xs x n true few = omega (arith, few, length-append xs (x ∷ []))
few-in xs x n false few = omega (arith, few)

pub arrivals-few : (history : History) (c : ℕ) → length (arrivals history c) ≤ length history
arrivals-few [] c = omega arith
arrivals-few (Post lane p ∷ history) c = omega (arith, few-in (arrivals history c) (Received (is_refresh Qcif p) p) (length history) (lane == c) (arrivals-few history c))
arrivals-few (Gap lane ∷ history) c = omega (arith, few-in (arrivals history c) Missing (length history) (lane == c) (arrivals-few history c))
arrivals-few (Order command reply ∷ history) c = omega (arith, arrivals-few history c)
arrivals-few (Tick note ∷ history) c = omega (arith, arrivals-few history c)
arrivals-few (End ∷ history) c = omega (arith, arrivals-few history c)

-- ---- the packets that counted last

last_more : (last : Option Piece) (ps : List (Option Piece)) (p : Option Piece)
    → last_member last (ps ++ p ∷ []) ≡ later (last_member last ps) (member (last_member last ps) p)
last_more last [] p = refl
last_more last (q ∷ ps) p = last_more (later last (member last q)) ps p

abbrev number_of : Option Piece → Option ℕ
number_of p = option_map (λ (q : Piece). q.number) p

number-more : (packets : List (List ℕ)) (packet : List ℕ)
    → last_number (packets ++ packet ∷ []) ≡ number_of (later (last_member None (map piece_of packets)) (member (last_member None (map piece_of packets)) (piece_of packet)))
number-more packets packet =
    ap (λ (ps : List (Option Piece)). number_of (last_member None ps)) (map-append piece_of packets (packet ∷ []))
    ∙ ap number_of (last_more None (map piece_of packets) (piece_of packet))

-- a packet that counts is the last one behind itself, and one that does not leaves it
counts-so : (last p : Option Piece) → is_none (idle_behind last p) ≡ true → number_of (later last (member last p)) ≡ number_of p
counts-so None None e = refl
counts-so (Some l) None e = absurd (not-so e)
  where
    not-so : false ≡ true → ⊥
    not-so h = cc
counts-so None (Some p) e = refl
counts-so (Some l) (Some p) e = by (is_late l p) e
  where
    by : (b : Bool) → is_none (if b then Some (if p.number == l.number then Repeated else Late) else None) ≡ true
        → number_of (later (Some l) (if b then None else Some p)) ≡ number_of (Some p)
    by true h = absurd (not-so h)
      where
        not-so : false ≡ true → ⊥
        not-so k = cc
    by false h = refl

stays-so : (last p : Option Piece) → is_none (idle_behind last p) ≡ false → number_of (later last (member last p)) ≡ number_of last
stays-so None None e = refl
stays-so (Some l) None e = refl
stays-so None (Some p) e = absurd (not-so e)
  where
    not-so : true ≡ false → ⊥
    not-so h = cc
stays-so (Some l) (Some p) e = by (is_late l p) e
  where
    by : (b : Bool) → is_none (if b then Some (if p.number == l.number then Repeated else Late) else None) ≡ false
        → number_of (later (Some l) (if b then None else Some p)) ≡ number_of (Some l)
    by true h = refl
    by false h = absurd (not-so h)
      where
        not-so : true ≡ false → ⊥
        not-so k = cc

pub none-where : (idle : Option Idle) (b : Bool) → is_some idle ≡ not b → is_none idle ≡ b
none-where None true is = refl
none-where None false is = sym is
none-where (Some i) true is = sym is
none-where (Some i) false is = refl

-- behind a packet of a lane
lasts-with : (lanes : ℕ) (entries : List Content) (old new : List (Option ℕ)) (lane : ℕ) (packet : List ℕ) → length new ≡ lanes → AreLasts lanes entries old
    → slice_get new lane ≡ Some (last_number (packets_in entries lane ++ packet ∷ [])) → ((c : ℕ) → lane ≢ c → slice_get new c ≡ slice_get old c)
    → AreLasts lanes (Packet lane packet ∷ entries) new
lasts-with lanes entries old new lane packet count lasts here others = record { count = count; each = λ c within. at c within (lane == c) refl }
  where
    came : (c : ℕ) (b : Bool) → (lane == c) ≡ b → packets_in (Packet lane packet ∷ entries) c ≡ (if b then packets_in entries c ++ packet ∷ [] else packets_in entries c)
    came c b e = ap (λ (t : Bool). if t then packets_in entries c ++ packet ∷ [] else packets_in entries c) e

    at : (c : ℕ) → c < lanes → (b : Bool) → (lane == c) ≡ b → slice_get new c ≡ Some (last_number (packets_in (Packet lane packet ∷ entries) c))
    at c within true e =
        let same : lane ≡ c = grind (arith, nat_tests) in
        subst (λ (k : ℕ). slice_get new k ≡ Some (last_number (packets_in (Packet lane packet ∷ entries) c))) same
        (here ∙ ap (λ (k : ℕ). Some (last_number (packets_in entries k ++ packet ∷ []))) same ∙ ap (λ (ps : List (List ℕ)). Some (last_number ps)) (sym (came c true e)))
    at c within false e =
        let apart : lane ≢ c = grind (arith, nat_tests) in
        others c apart ∙ lasts.each c within ∙ ap (λ (ps : List (List ℕ)). Some (last_number ps)) (sym (came c false e))

module _ (lanes : ℕ) (entries : List Content) (lasts : List (Option ℕ)) (lane : ℕ) (packet : List ℕ) (last number : Option ℕ) (idle : Option Idle)
    (are : AreLasts lanes entries lasts) (below : lane < lanes) (there : slice_get lasts lane ≡ Some last) (number_is : number ≡ number_of (piece_of packet))
    (judged : (before p : Option Piece) → last ≡ number_of before → number ≡ number_of p → idle ≡ idle_behind before p) where
  before_is : last ≡ last_number (packets_in entries lane)
  before_is = some-same (sym there ∙ are.each lane below)
    where
      some-same : {x y : Option ℕ} → Some x ≡ Some y → x ≡ y
      some-same e = cc

  idle-so : idle ≡ why_idle (packets_in entries lane) packet
  idle-so = judged (last_member None (map piece_of (packets_in entries lane))) (piece_of packet) before_is number_is

  -- it counts
  pub judged-last : is_none idle ≡ true → Judges lane packet lasts (slice_set lasts lane number) idle lanes entries
  judged-last none = record {
    idle_is = idle-so;
    lasts = lasts-with lanes entries lasts (slice_set lasts lane number) lane packet (length-set lasts lane number ∙ are.count) are
        (get-set_same lasts lane number (omega (arith, below, are.count))
        ∙ ap (λ (k : Option ℕ). Some k) (number_is
        ∙ sym (number-more (packets_in entries lane) packet
        ∙ counts-so (last_member None (map piece_of (packets_in entries lane))) (piece_of packet) (ap is_none (sym idle-so) ∙ none))))
        (λ c apart. get-set_other lasts lane c number apart);
  }

  -- it does not
  pub judged-idle : is_none idle ≡ false → Judges lane packet lasts lasts idle lanes entries
  judged-idle some = record {
    idle_is = idle-so;
    lasts = lasts-with lanes entries lasts lasts lane packet are.count are
        (are.each lane below
        ∙ ap (λ (k : Option ℕ). Some k)
        (sym (number-more (packets_in entries lane) packet
        ∙ stays-so (last_member None (map piece_of (packets_in entries lane))) (piece_of packet) (ap is_none (sym idle-so) ∙ some))))
        (λ c apart. refl);
  }
