-- One list of lines at most is told of entries.
use Rattle.std.proofs.Common.{◌≡◌, ℕ, ◌+◌, Bool, List, [], ◌∷◌, ◌++◌, Option, None, Some, length, drop, refl, sym, ap, ap₂, subst, ◌∙◌, arith, append-nil, append_assoc, take-append-drop, length-append}
use Rattle.std.proofs.Math.Seq.{drop-append_seam}
use Rattle.std.specs.List.{concat, AllZip}
use Rattle.bridge_replay.specs.Account.{why_idle, idle_lines, AreEntryLines, StandsBehind, AreLinesOf, LawOfOneAccount}
use Rattle.bridge_replay.specs.FileHistory.{oldest_first, packets_in, IsHistory}
use Rattle.bridge_replay.specs.Lines.{lines_of_events, tick_line}
use Rattle.bridge_replay.proofs.OneHistory.{one-history}
use Rattle.conf_file.specs.Entries.{Content, Packet, Chair, Tick as TickEntry, End, SpellsEntry, C}
use Rattle.conf_file.specs.Header.{header_of}
use Rattle.pel_model.specs.declared.Format.TheVariants.{Qcif}
use Rattle.pel_model.specs.declared.note.TickNote.{TickNote}
use Rattle.pel_model.specs.History.{History, Tick, arrivals}
use Rattle.picture_laws.proofs.Answers.{never-both, one-fault, one-record}
use Rattle.rtp_h261.specs.Depack.{given_behind}
use Rattle.rtp_h261.specs.Events.{Event, Lost, Shown, Refused, IsEvent, AreUnitEvents, lost_events}

-- ---- the lines of one entry

same-unit : (bits : List Bool) (x y : Event) → IsEvent Qcif bits x → IsEvent Qcif bits y → x ≡ y
same-unit bits Lost y h k = absurd h
same-unit bits (Shown p) Lost h k = absurd k
same-unit bits (Shown p) (Shown q) h k = ap Shown (one-record Qcif bits p q h k)
same-unit bits (Shown p) (Refused place why) h k = absurd (never-both Qcif bits p place why h k)
same-unit bits (Refused place why) Lost h k = absurd k
same-unit bits (Refused place why) (Shown q) h k = absurd (never-both Qcif bits q place why k h)
same-unit bits (Refused place why) (Refused at reason) h k =
    let same = one-fault Qcif bits place at why reason h k in
    ap₂ Refused same.0 same.1

same-units : (bits : Option (List Bool)) (es fs : List Event) → AreUnitEvents Qcif bits es → AreUnitEvents Qcif bits fs → es ≡ fs
same-units None es fs h k = h ∙ sym k
same-units (Some bits) es fs h k = h.1 ∙ ap (λ (e : Event). e ∷ []) (same-unit bits h.0 k.0 h.2 k.2) ∙ sym k.1

same-note : (m n : TickNote) (before : History) → Tick m ∷ before ≡ Tick n ∷ before → m ≡ n
same-note m n before e = cc

same-here : (lanes place : ℕ) (entries : List Content) (content : Content) (before after : History) (x y : List (List ℕ))
    → AreEntryLines lanes place entries content before after x → AreEntryLines lanes place entries content before after y → x ≡ y
same-here lanes place entries (Packet lane packet) before after x y a b =
    let given = given_behind (packets_in entries lane) packet in
    let first = idle_lines place lane (why_idle (packets_in entries lane) packet) in
    let same : a.0 ≡ b.0 =
    a.1.order ∙ ap (λ (us : List Event). lost_events given.lost ++ us) (same-units given.unit a.1.unit b.1.unit a.1.is_unit b.1.is_unit) ∙ sym b.1.order in
    a.2 ∙ ap (λ (es : List Event). first ++ lines_of_events place lane (length (arrivals before lane) + 1) es) same ∙ sym b.2
same-here lanes place entries (Chair command) before after x y a b = a ∙ sym b
same-here lanes place entries (TickEntry step) before after x y a b =
    a.2 ∙ ap (λ (n : TickNote). tick_line place n ∷ []) (same-note a.0 b.0 before (sym a.1 ∙ b.1)) ∙ sym b.2
same-here lanes place entries End before after x y a b = a ∙ sym b

-- ---- the place of an entry

second : {a b c : ℕ} {xs ys : List ℕ} → c ∷ a ∷ xs ≡ c ∷ b ∷ ys → a ≡ b
second e = cc

-- octets that begin with an entry do so with as many octets
same-length : (lanes : ℕ) (content : Content) (x y more rest : List ℕ) → SpellsEntry lanes content x → SpellsEntry lanes content y → x ++ more ≡ y ++ rest → length x ≡ length y
same-length lanes (Packet lane packet) x y more rest a b same = ap length (a.0 ∙ sym b.0)
same-length lanes (Chair command) x y more rest a b same =
    let lines : C ∷ length a.0 ∷ (a.0 ++ more) ≡ C ∷ length b.0 ∷ (b.0 ++ rest) =
    ap (λ (xs : List ℕ). xs ++ more) (sym a.1) ∙ same ∙ ap (λ (xs : List ℕ). xs ++ rest) b.1 in
    omega (arith, ap length a.1, ap length b.1, second lines)
same-length lanes (TickEntry step) x y more rest a b same = ap length (a.0 ∙ sym b.0)
same-length lanes End x y more rest a b same = ap length (a ∙ sym b)

same-total : (lanes : ℕ) (list : List Content) (xs ys : List (List ℕ)) (more rest : List ℕ) → AllZip (SpellsEntry lanes) list xs → AllZip (SpellsEntry lanes) list ys
    → concat xs ++ more ≡ concat ys ++ rest → length (concat xs) ≡ length (concat ys)
same-total lanes [] [] [] more rest a b same = refl
same-total lanes [] [] (y ∷ ys) more rest a b same = absurd b
same-total lanes [] (x ∷ xs) ys more rest a b same = absurd a
same-total lanes (c ∷ list) [] ys more rest a b same = absurd a
same-total lanes (c ∷ list) (x ∷ xs) [] more rest a b same = absurd b
same-total lanes (c ∷ list) (x ∷ xs) (y ∷ ys) more rest a b same =
    let apart : x ++ (concat xs ++ more) ≡ y ++ (concat ys ++ rest) = sym (append_assoc x (concat xs) more) ∙ same ∙ append_assoc y (concat ys) rest in
    let long : length x ≡ length y = same-length lanes c x y (concat xs ++ more) (concat ys ++ rest) a.0 b.0 apart in
    let behind : concat xs ++ more ≡ concat ys ++ rest =
    sym (drop-append_seam x (concat xs ++ more)) ∙ ap₂ (λ (n : ℕ) (zs : List ℕ). drop n zs) long apart ∙ drop-append_seam y (concat ys ++ rest) in
    omega (arith, long, same-total lanes list xs ys more rest a.1 b.1 behind, length-append x (concat xs), length-append y (concat ys))

cut-there : (octets : List ℕ) (lanes : ℕ) (entries : List Content) (place : ℕ) (h : StandsBehind octets lanes entries place)
    → octets ≡ header_of lanes ++ (concat h.begins.entries ++ drop place octets)
cut-there octets lanes entries place h =
    sym (take-append-drop place octets)
    ∙ ap (λ (xs : List ℕ). xs ++ drop place octets) (h.header ∙ ap (λ (xs : List ℕ). header_of lanes ++ xs) (h.begins.cut ∙ append-nil (concat h.begins.entries)))
    ∙ append_assoc (header_of lanes) (concat h.begins.entries) (drop place octets)

same-place : (octets : List ℕ) (lanes : ℕ) (entries : List Content) (p q : ℕ) → StandsBehind octets lanes entries p → StandsBehind octets lanes entries q → p ≡ q
same-place octets lanes entries p q h k =
    omega (
      arith,
      h.begins.counted,
      k.begins.counted,
      same-total lanes (oldest_first entries) h.begins.entries k.begins.entries (drop p octets) (drop q octets) h.begins.spelled k.begins.spelled
          (ap (drop 10) (sym (cut-there octets lanes entries p h) ∙ cut-there octets lanes entries q k)),
    )

-- ---- all lines

their-history : (octets : List ℕ) (lanes : ℕ) (entries : List Content) (history : History) (lines : List (List ℕ)) → AreLinesOf octets lanes entries history lines
    → IsHistory lanes entries history
their-history octets lanes [] history lines are = are.0
their-history octets lanes (e ∷ entries) history lines (before, former, told, after, place, stands, here, are, is) = (before, their-history octets lanes entries before former told, after)

pub one-account : LawOfOneAccount
one-account octets lanes [] history x y a b = a.1 ∙ sym b.1
one-account octets lanes (e ∷ entries) history x y (h, f, told, after, p, stands, l, here, is) (k, g, told', after', q, stands', m, here', is') =
    let same : h ≡ k = one-history lanes entries h k (their-history octets lanes entries h f told) (their-history octets lanes entries k g told') in
    let former : f ≡ g = one-account octets lanes entries k f g (subst (λ (H : History). AreLinesOf octets lanes entries H f) same told) told' in
    let place : p ≡ q = same-place octets lanes entries p q stands stands' in
    let there = subst (λ (H : History). AreEntryLines lanes q entries e H history l) same (subst (λ (n : ℕ). AreEntryLines lanes n entries e h history l) place here) in
    is ∙ ap₂ (λ (xs ys : List (List ℕ)). xs ++ ys) former (same-here lanes q entries e k history l m there here') ∙ sym is'
