-- Entries have one history.
use Rattle.std.proofs.Common.{◌≡◌, ⊎_elim, ℕ, ◌+◌, Bool, List, [], ◌∷◌, Option, None, Some, refl, sym, ap, ap₂, subst, ◌∙◌}
use Rattle.bridge_replay.specs.FileHistory.{AfterUnit, AfterEntry, packets_in, after_loss, LawOfOneHistory}
use Rattle.conf_file.specs.Entries.{Content, Packet, Chair, Tick as TickEntry, End as EndEntry}
use Rattle.pel_model.specs.declared.Format.TheVariants.{Qcif}
use Rattle.pel_model.specs.declared.Quad.TheVariants.{One, Two, Three, Four}
use Rattle.pel_model.specs.declared.Why.{Why}
use Rattle.pel_model.specs.declared.note.Take.{Take}
use Rattle.pel_model.specs.declared.note.TickNote.{TickNote}
use Rattle.pel_model.specs.Accepts.{Accepts}
use Rattle.pel_model.specs.Grammar.{next_within_limit}
use Rattle.pel_model.specs.History.{History, Post, Gap, Tick, total_of}
use Rattle.pel_model.specs.Legal.{IsNote}
use Rattle.pel_model.specs.Records.{Picture}
use Rattle.pel_model.specs.Takes.{waiting}
use Rattle.pel_model.specs.Walk.{FirstFault}
use Rattle.picture_laws.proofs.Answers.{never-both, one-record}
use Rattle.rtp_h261.specs.Depack.{given_behind}

one-unit : (lane : ℕ) (bits : Option (List Bool)) (before x y : History) → AfterUnit lane bits before x → AfterUnit lane bits before y → x ≡ y
one-unit lane None before x y a b = a ∙ sym b
one-unit lane (Some bits) before x y a b =
    ⊎_elim (λ (p : (picture : Picture) × Accepts Qcif bits picture × (x ≡ Post lane picture ∷ before)).
    ⊎_elim (λ (q : (picture : Picture) × Accepts Qcif bits picture × (y ≡ Post lane picture ∷ before)).
    p.2 ∙ ap (λ (picture : Picture). Post lane picture ∷ before) (one-record Qcif bits p.0 q.0 p.1 q.1) ∙ sym q.2)
    (λ (q : (place : ℕ) × (why : Why) × FirstFault (next_within_limit Qcif) bits place why × (y ≡ Gap lane ∷ before)).
    absurd (never-both Qcif bits p.0 q.0 q.1 p.1 q.2)) b)
    (λ (p : (place : ℕ) × (why : Why) × FirstFault (next_within_limit Qcif) bits place why × (x ≡ Gap lane ∷ before)).
    ⊎_elim (λ (q : (picture : Picture) × Accepts Qcif bits picture × (y ≡ Post lane picture ∷ before)).
    absurd (never-both Qcif bits q.0 p.0 p.1 q.1 p.2))
    (λ (q : (place : ℕ) × (why : Why) × FirstFault (next_within_limit Qcif) bits place why × (y ≡ Gap lane ∷ before)). p.3 ∙ sym q.3) b) a

-- a note with these takes
note_of : (step total : ℕ) (one two three four : Option Take) (waits : ℕ) → TickNote
note_of step total one two three four waits =
    record { step = step; total = total; taken_one = one; taken_two = two; taken_three = three; taken_four = four; waiting = waits }

-- for which lanes the conference waits depends on what was taken alone
same-waiting : (lanes : ℕ) (H : History) (step total : ℕ) (one two three four : Option Take) (v w : ℕ)
    → waiting lanes (Tick (note_of step total one two three four v) ∷ H) ≡ waiting lanes (Tick (note_of step total one two three four w) ∷ H)
unfolding note_of
same-waiting lanes H step total one two three four v w = refl

one-note : (lanes : ℕ) (H : History) (step : ℕ) (m n : TickNote) → m.step ≡ step → n.step ≡ step → IsNote lanes H m → IsNote lanes H n → m ≡ n
unfolding note_of
one-note lanes H step m n m_step n_step p q =
    let steps : m.step ≡ n.step = m_step ∙ sym n_step in
    let totals : m.total ≡ n.total = p.total ∙ ap (λ (k : ℕ). total_of H + k) steps ∙ sym q.total in
    let ones : m.taken_one ≡ n.taken_one = p.takes One ∙ sym (q.takes One) in
    let twos : m.taken_two ≡ n.taken_two = p.takes Two ∙ sym (q.takes Two) in
    let threes : m.taken_three ≡ n.taken_three = p.takes Three ∙ sym (q.takes Three) in
    let fours : m.taken_four ≡ n.taken_four = p.takes Four ∙ sym (q.takes Four) in
    let taken : m ≡ note_of n.step n.total n.taken_one n.taken_two n.taken_three n.taken_four m.waiting =
    ap₂ (λ (s t : ℕ). note_of s t m.taken_one m.taken_two m.taken_three m.taken_four m.waiting) steps totals
    ∙ ap₂ (λ (a b : Option Take). note_of n.step n.total a b m.taken_three m.taken_four m.waiting) ones twos
    ∙ ap₂ (λ (a b : Option Take). note_of n.step n.total n.taken_one n.taken_two a b m.waiting) threes fours in
    let waits : m.waiting ≡ n.waiting =
    p.waits ∙ ap (λ (k : TickNote). waiting lanes (Tick k ∷ H)) taken
    ∙ same-waiting lanes H n.step n.total n.taken_one n.taken_two n.taken_three n.taken_four m.waiting n.waiting ∙ sym q.waits in
    taken ∙ ap (λ (w : ℕ). note_of n.step n.total n.taken_one n.taken_two n.taken_three n.taken_four w) waits

one-entry : (lanes : ℕ) (entries : List Content) (content : Content) (before x y : History) → AfterEntry lanes entries content before x → AfterEntry lanes entries content before y → x ≡ y
one-entry lanes entries (Packet lane packet) before x y a b =
    let given = given_behind (packets_in entries lane) packet in
    one-unit lane given.unit (after_loss lane given.lost before) x y a b
one-entry lanes entries (Chair command) before x y a b = a ∙ sym b
one-entry lanes entries (TickEntry step) before x y a b =
    a.3 ∙ ap (λ (n : TickNote). Tick n ∷ before) (one-note lanes before step a.0 b.0 a.1 b.1 a.2 b.2) ∙ sym b.3
one-entry lanes entries EndEntry before x y a b = a ∙ sym b

pub one-history : LawOfOneHistory
one-history lanes [] x y a b = a ∙ sym b
one-history lanes (content ∷ entries) x y a b =
    let same : a.0 ≡ b.0 = one-history lanes entries a.0 b.0 a.1 b.1 in
    one-entry lanes entries content b.0 x y (subst (λ (h : History). AfterEntry lanes entries content h x) same a.2) b.2
