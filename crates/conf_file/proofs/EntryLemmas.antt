-- What the fields of an entry, taken one behind the other, make of a call.
use Rattle.std.proofs.Common.{◌≡◌, ℕ, ◌^◌, ◌<◌, List, [], ◌∷◌, ◌++◌, Result, Ok, Err, inl, inr, length, take, refl, sym, ap, subst, ◌∙◌, arith, length-take-le, append-nil, append_assoc}
use Rattle.byteorder.specs.Endian.{big_bytes}
use Rattle.pel_model.specs.declared.chair.Command.{Command}
use Rattle.chair_words.specs.Line.{Says, HasFaultAt}
use Rattle.chair_words.specs.declared.reader.LineFault.{LineFault}
use Rattle.io_edge.specs.Outside.{Input}
use Rattle.io_edge.specs.Allowance.{AllowanceState, TakesOctets}
use Rattle.io_edge.specs.declared.allowance.Pause.TheVariants as pause
use Rattle.io_edge.proofs.AllowanceLemmas.{takes-both, paused-before}
use Rattle.conf_file.specs.declared.answers.EntryWhy.{EntryWhy}
use Rattle.conf_file.specs.declared.answers.EntryWhy.TheVariants.{Header, Kind, Lane, Step, Order}
use Rattle.conf_file.specs.declared.answers.EntryEnd.{EntryEnd}
use Rattle.conf_file.specs.declared.answers.EntryEnd.TheVariants.{Bad, Cut, Fault, Limit}
use Rattle.conf_file.specs.Entries.{Content, Packet, Chair, P, C, IsPartEntry}
use Rattle.conf_file.specs.Reading.{GaveNoMore, MayFailBehind, AnswersEntry, TakesBehind}
use Rattle.conf_file.specs.Stops.{FetchesField}

-- calls that met no fault before do not change what is answered
may_fail_before : (why : EntryWhy) (a b c : Input) → b.faults ≡ a.faults → MayFailBehind why b c → MayFailBehind why a c
may_fail_before Header a b c same h = h ∙ same
may_fail_before Kind a b c same h = h ∙ same
may_fail_before Lane a b c same h = tt
may_fail_before Step a b c same h = h ∙ same
may_fail_before (Order fault) a b c same h = h ∙ same

answers_before : (lanes : ℕ) (r : Result Content EntryEnd) (took : List ℕ) (first : ℕ) (a b c : Input) (n : AllowanceState) → b.faults ≡ a.faults
    → AnswersEntry lanes r took first b c n → AnswersEntry lanes r took first a c n
answers_before lanes (Ok content) took first a b c n same h = (h.0, h.1 ∙ same)
answers_before lanes (Err (Bad place why)) took first a b c n same h = (h.0, h.1, may_fail_before why a b c same h.2)
answers_before lanes (Err (Cut place)) took first a b c n same h = (h.0, (h.1.0, paused-before pause.End a b c n same h.1.1))
answers_before lanes (Err Limit) took first a b c n same h = (h.0, paused-before pause.Limit a b c n same h.1)
answers_before lanes (Err Fault) took first a b c n same h = (h.0, paused-before pause.Fault a b c n same h.1)

-- some octets were taken, and then more
pub joined : (front part : List ℕ) (lanes first : ℕ) (a b c : Input) (l m n : AllowanceState) (r : Result Content EntryEnd)
    → TakesOctets a b l m part → b.faults ≡ a.faults → TakesBehind (front ++ part) lanes first b c m n r → TakesBehind front lanes first a c l n r
joined front part lanes first a b c l m n r before same behind =
    record {
      took = part ++ behind.took;
      takes = takes-both a b c l m n part behind.took before behind.takes;
      answer =
          subst (λ xs. AnswersEntry lanes r xs first a c n) (append_assoc front part behind.took)
          (answers_before lanes r ((front ++ part) ++ behind.took) first a b c n same behind.answer);
    }

-- the first octet was taken, at its place, and then more
pub behind_kind : (kind first_octet lanes place : ℕ) (a b c : Input) (l m n : AllowanceState) (r : Result Content EntryEnd)
    → place ≡ l.taken → kind ≡ first_octet → TakesOctets a b l m (kind ∷ []) → b.faults ≡ a.faults
    → TakesBehind (first_octet ∷ []) lanes place b c m n r → TakesBehind [] lanes l.taken a c l n r
behind_kind kind first_octet lanes place a b c l m n r here is before same behind =
    subst (λ p. TakesBehind [] lanes p a c l n r) here
    (joined [] (first_octet ∷ []) lanes place a b c l m n r (subst (λ k. TakesOctets a b l m (k ∷ [])) is before) same behind)

-- a part of an entry, and why no octet more was taken
pub stopped : (end : EntryEnd) (took : List ℕ) (lanes first : ℕ) (before after : Input) (n : AllowanceState)
    → IsPartEntry lanes took → GaveNoMore end before after n → AnswersEntry lanes (Err end) took first before after n
stopped (Bad place why) took lanes first before after n part none = absurd none
stopped (Cut place) took lanes first before after n part none = (part, none)
stopped Limit took lanes first before after n part none = (part, none)
stopped Fault took lanes first before after n part none = (part, none)

-- the octets behind a front were filled in part, which is a part of an entry
pub cut_short : (front slice : List ℕ) (lanes first : ℕ) (a b : Input) (l m : AllowanceState) (end : EntryEnd)
    → FetchesField (Err end) a b l m slice → ((part : List ℕ) → length part < length slice → IsPartEntry lanes (front ++ part))
    → TakesBehind front lanes first a b l m (Err end)
cut_short front slice lanes first a b l m end fetched parts =
    let part = take fetched.0 slice in
    let short : length part < length slice = omega (arith, length-take-le fetched.0 slice (omega (arith, fetched.1)), fetched.1) in
    record { took = part; takes = fetched.2; answer = stopped end (front ++ part) lanes first a b m (parts part short) fetched.3 }

-- a line that was taken whole behind its length
pub line_says : (slice : List ℕ) (size lanes first : ℕ) (a b c : Input) (l m n : AllowanceState) (command : Command)
    → length slice ≡ size → size < 2 ^ 8 → TakesOctets a b l m (size ∷ []) → b.faults ≡ a.faults → TakesOctets b c m n slice → c.faults ≡ b.faults → Says slice command
    → TakesBehind (C ∷ []) lanes first a c l n (Ok (Chair command))
line_says slice size lanes first a b c l m n command long small head same body same' says =
    joined (C ∷ []) (size ∷ []) lanes first a b c l m n _ head same
    (record { took = slice; takes = body; answer = ((slice, ap (λ k. C ∷ k ∷ slice) (sym long), omega (arith, long, small), says), same') })

pub line_fails : (slice : List ℕ) (size lanes first : ℕ) (a b c : Input) (l m n : AllowanceState) (fault : LineFault)
    → length slice ≡ size → size < 2 ^ 8 → TakesOctets a b l m (size ∷ []) → b.faults ≡ a.faults → TakesOctets b c m n slice → c.faults ≡ b.faults
    → HasFaultAt slice fault.place fault.why → TakesBehind (C ∷ []) lanes first a c l n (Err (Bad first (Order fault)))
line_fails slice size lanes first a b c l m n fault long small head same body same' fails =
    let whole : C ∷ size ∷ slice ≡ C ∷ length slice ∷ (slice ++ []) = ap (λ k. C ∷ k ∷ slice) (sym long) ∙ ap (λ xs. C ∷ length slice ∷ xs) (sym (append-nil slice)) in
    joined (C ∷ []) (size ∷ []) lanes first a b c l m n _ head same
    (record { took = slice; takes = body; answer = (refl, ([], (slice, whole, omega (arith, long, small), fails), omega arith), same') })

-- a line that was taken in part
pub line_cut : (slice : List ℕ) (size lanes first : ℕ) (a b c : Input) (l m n : AllowanceState) (end : EntryEnd)
    → length slice ≡ size → TakesOctets a b l m (size ∷ []) → b.faults ≡ a.faults → FetchesField (Err end) b c m n slice
    → TakesBehind (C ∷ []) lanes first a c l n (Err end)
line_cut slice size lanes first a b c l m n end long head same fetched =
    joined (C ∷ []) (size ∷ []) lanes first a b c l m n _ head same
    (cut_short (C ∷ size ∷ []) slice lanes first b c m n end fetched (λ part short. inr (inl (refl, omega (arith, short, long)))))

-- a packet that was taken whole behind its lane and its length
pub packet_whole : (slice : List ℕ) (lane size lanes first : ℕ) (a b c : Input) (l m n : AllowanceState)
    → length slice ≡ size → size < 2 ^ 16 → lane < lanes → TakesOctets a b l m (lane ∷ big_bytes 2 size) → b.faults ≡ a.faults → TakesOctets b c m n slice → c.faults ≡ b.faults
    → TakesBehind (P ∷ []) lanes first a c l n (Ok (Packet lane slice))
packet_whole slice lane size lanes first a b c l m n long small below head same body same' =
    joined (P ∷ []) (lane ∷ big_bytes 2 size) lanes first a b c l m n _ head same
    (record { took = slice; takes = body; answer = ((ap (λ k. P ∷ lane ∷ (big_bytes 2 k ++ slice)) (sym long), below, omega (arith, long, small)), same') })

-- a packet that was taken in part
pub packet_cut : (slice : List ℕ) (lane size lanes first : ℕ) (a b c : Input) (l m n : AllowanceState) (end : EntryEnd)
    → length slice ≡ size → size < 2 ^ 16 → lane < lanes → TakesOctets a b l m (lane ∷ big_bytes 2 size) → b.faults ≡ a.faults → FetchesField (Err end) b c m n slice
    → TakesBehind (P ∷ []) lanes first a c l n (Err end)
packet_cut slice lane size lanes first a b c l m n end long small below head same fetched =
    joined (P ∷ []) (lane ∷ big_bytes 2 size) lanes first a b c l m n _ head same
    (cut_short (P ∷ lane ∷ big_bytes 2 size) slice lanes first b c m n end fetched (λ part short. inl (refl, (below, omega (arith, short, long)))))
