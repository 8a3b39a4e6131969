-- What the calls of a reader, one after another, make of a file, and that a file says one thing.
use Rattle.std.proofs.Common.{◌≡◌, ◌⊎◌, ⊎_elim, ℕ, ◌+◌, ◌<◌, List, [], ◌∷◌, ◌++◌, Some, Result, Ok, Err, inl, inr, length, take, drop, slice_index, refl, sym, ap, ap₂, subst, ◌∙◌, arith, length-append, append-nil, append_assoc}
use Rattle.std.specs.List.{AllZip, AllByRecursion, concat}
use Rattle.std.specs.Io.KnownBytes.{IsAtEnd}
use Rattle.std.proofs.Math.Seq.{take-append_seam, drop-append_seam}
use Rattle.std.proofs.lemmas.List.{take-append-le}
use Rattle.std.proofs.lemmas.List.Folds.{concat-append}
use Rattle.io_edge.specs.Outside.{Input}
use Rattle.io_edge.proofs.AllowanceLemmas.{rest-of}
use Rattle.conf_file.specs.declared.answers.EntryWhy.{EntryWhy}
use Rattle.conf_file.specs.declared.answers.EntryWhy.TheVariants.{Header, Kind, Lane, Step, Order}
use Rattle.conf_file.specs.declared.answers.EntryEnd.{EntryEnd}
use Rattle.conf_file.specs.declared.answers.EntryEnd.TheVariants.{Bad, Cut, Fault, Limit}
use Rattle.conf_file.specs.Header.{header_of, header_size, IsNoHeader}
use Rattle.conf_file.specs.Entries.{Content, Packet, Chair, Tick, End, C, SpellsEntry, IsWrong, IsPartEntry}
use Rattle.conf_file.specs.Reading.{ReaderState, CallsStart, ReadsEntry}
use Rattle.conf_file.specs.File.{Stop, Whole, WrongAt, CutAt, BeginsWith, IsNotEnd, Stops, Entries, Conference, WrongHeader, CutHeader, IsFile, HasRead, AfterStart, AfterNext, LawOfReading, LawOfOneReading, IsDecided, LawOfFileFronts}
use Rattle.conf_file.proofs.FrontLemmas.{Owns, Blames, front_of, one_entry, not_wrong, one_reason, entry_in_front, fault_in_front, part_in_front}

-- one more at the end of two lists
zip_more : (R : Content → List ℕ → Type 0) (xs : List Content) (es : List (List ℕ)) (x : Content) (e : List ℕ)
    → AllZip R xs es → R x e → AllZip R (xs ++ x ∷ []) (es ++ e ∷ [])
zip_more R [] [] x e all one = (one, tt)
zip_more R [] (f ∷ es) x e all one = absurd all
zip_more R (y ∷ xs) [] x e all one = absurd all
zip_more R (y ∷ xs) (f ∷ es) x e all one = (all.0, zip_more R xs es x e all.1 one)

each_more : (xs : List Content) (x : Content) → AllByRecursion IsNotEnd xs → IsNotEnd x → AllByRecursion IsNotEnd (xs ++ x ∷ [])
each_more [] x all one = (one, tt)
each_more (y ∷ xs) x all one = (all.0, each_more xs x all.1 one)

-- an entry is read behind these
begins_more : (lanes first : ℕ) (octets : List ℕ) (list : List Content) (at : ℕ) (left : List ℕ) (content : Content) (took more : List ℕ) (now : ℕ)
    → BeginsWith lanes first octets list at left → left ≡ took ++ more → SpellsEntry lanes content took → now ≡ at + length took
    → BeginsWith lanes first octets (list ++ content ∷ []) now more
begins_more lanes first octets list at left content took more now b taken spelled counted =
    let joined : concat (b.entries ++ took ∷ []) ≡ concat b.entries ++ took =
    concat-append b.entries (took ∷ []) ∙ ap (λ xs. concat b.entries ++ xs) (append-nil took) in
    record {
      entries = b.entries ++ took ∷ [];
      cut =
          b.cut ∙ ap (λ xs. concat b.entries ++ xs) taken ∙ sym (append_assoc (concat b.entries) took more)
          ∙ ap (λ xs. xs ++ more) (sym joined);
      spelled = zip_more (SpellsEntry lanes) list b.entries content took b.spelled spelled;
      counted = omega (arith, counted, b.counted, ap length joined, length-append (concat b.entries) took);
    }

read_more : (file : List ℕ) (lanes : ℕ) (list : List Content) (at : ℕ) (left : List ℕ) (content : Content) (took more : List ℕ) (now : ℕ)
    → HasRead file lanes list at left → left ≡ took ++ more → SpellsEntry lanes content took → now ≡ at + length took → IsNotEnd content
    → HasRead file lanes (list ++ content ∷ []) now more
read_more file lanes list at left content took more now r taken spelled counted going =
    record {
      octets = r.octets;
      header = r.header;
      lanes_fit = r.lanes_fit;
      begins = begins_more lanes header_size r.octets list at left content took more now r.begins taken spelled counted;
      going_on = each_more list content r.going_on going;
    }

-- what is wrong with octets is wrong with them whatever follows
pub wrong_more : (lanes : ℕ) (why : EntryWhy) (octets rest more : List ℕ) → IsWrong lanes why octets rest → IsWrong lanes why (octets ++ more) (rest ++ more)
wrong_more lanes Header octets rest more w = absurd w
wrong_more lanes Kind octets rest more w = (w.0, ap (λ xs. xs ++ more) w.1, w.2)
wrong_more lanes Lane octets rest more w = (w.0, ap (λ xs. xs ++ more) w.1, w.2)
wrong_more lanes Step octets rest more w = (w.0, ap (λ xs. xs ++ more) w.1, w.2)
wrong_more lanes (Order fault) octets rest more w =
    (w.0, ap (λ xs. xs ++ more) w.1 ∙ ap (λ xs. C ∷ length w.0 ∷ xs) (append_assoc w.0 rest more), w.2, w.3)

-- the octets that were taken of a file
taken_of : (file : List ℕ) (lanes : ℕ) (list : List Content) (at : ℕ) (left took more : List ℕ) (now : ℕ) (r : HasRead file lanes list at left)
    → left ≡ took ++ more → now ≡ at + length took → take now file ≡ header_of lanes ++ (concat r.begins.entries ++ took)
taken_of file lanes list at left took more now r taken counted =
    let entries = concat r.begins.entries in
    let front = header_of lanes ++ (entries ++ took) in
    let whole : file ≡ front ++ more =
    r.header ∙ ap (λ xs. header_of lanes ++ xs) (r.begins.cut ∙ ap (λ xs. entries ++ xs) taken ∙ sym (append_assoc entries took more)) in
    let long : now ≡ length front = omega (arith, counted, r.begins.counted, length-append entries took) in
    ap₂ take long whole ∙ take-append_seam front more

-- a file of them alone is cut there
cut_there : (file : List ℕ) (lanes : ℕ) (list : List Content) (at : ℕ) (left took more : List ℕ) (now : ℕ) → HasRead file lanes list at left
    → left ≡ took ++ more → now ≡ at + length took → IsPartEntry lanes took → IsFile (take now file) (Conference lanes list (CutAt now))
cut_there file lanes list at left took more now r taken counted part = (
  concat r.begins.entries ++ took,
  taken_of file lanes list at left took more now r taken counted,
  r.lanes_fit,
  record {
    at = at;
    left = took;
    begins = record { entries = r.begins.entries; cut = refl; spelled = r.begins.spelled; counted = r.begins.counted };
    stops = (r.going_on, counted, part);
  },
)

-- a call for the next entry, which left these octets
next_so : (file : List ℕ) (lanes : ℕ) (list : List Content) (left ys : List ℕ) (before after : Input) (old new : ReaderState)
    (result : Result Content EntryEnd) → HasRead file lanes list old.allowance.taken left
    → (h : ReadsEntry lanes before after old new result) → after.left ≡ Some ys → left ≡ h.takes.took ++ ys → AfterNext file lanes list after.left new.allowance result
next_so file lanes list left ys before after old new (Ok (Packet lane packet)) r h now cut =
    (ys, now, read_more file lanes list old.allowance.taken left (Packet lane packet) h.takes.took ys new.allowance.taken r cut h.takes.answer.0 h.takes.takes.taken (λ e. cc))
next_so file lanes list left ys before after old new (Ok (Chair command)) r h now cut =
    (ys, now, read_more file lanes list old.allowance.taken left (Chair command) h.takes.took ys new.allowance.taken r cut h.takes.answer.0 h.takes.takes.taken (λ e. cc))
next_so file lanes list left ys before after old new (Ok (Tick step)) r h now cut =
    (ys, now, read_more file lanes list old.allowance.taken left (Tick step) h.takes.took ys new.allowance.taken r cut h.takes.answer.0 h.takes.takes.taken (λ e. cc))
next_so file lanes list left ys before after old new (Ok End) r h now cut = (
  r.octets,
  r.header,
  r.lanes_fit,
  record {
    at = new.allowance.taken;
    left = ys;
    begins = begins_more lanes header_size r.octets list old.allowance.taken left End h.takes.took ys new.allowance.taken r.begins cut h.takes.answer.0 h.takes.takes.taken;
    stops = (list, refl, r.going_on);
  },
)
next_so file lanes list left ys before after old new (Err (Bad place why)) r h now cut =
    let wrong = h.takes.answer.1 in (
      r.octets,
      r.header,
      r.lanes_fit,
      record {
        at = old.allowance.taken;
        left = left;
        begins = r.begins;
        stops = (
          r.going_on,
          h.takes.answer.0,
          (wrong.0 ++ ys, subst (λ xs. IsWrong lanes why xs (wrong.0 ++ ys)) (sym cut) (wrong_more lanes why h.takes.took wrong.0 ys wrong.1)),
        );
      },
    )
next_so file lanes list left ys before after old new (Err (Cut place)) r h now cut =
    let none : ys ≡ [] = subst IsAtEnd now h.takes.answer.1.1.0 in
    let all : left ≡ h.takes.took = cut ∙ ap (λ xs. h.takes.took ++ xs) none ∙ append-nil h.takes.took in (
      r.octets,
      r.header,
      r.lanes_fit,
      record {
        at = old.allowance.taken;
        left = left;
        begins = r.begins;
        stops = (r.going_on, omega (arith, h.takes.answer.1.0, h.takes.takes.taken, ap length all), subst (IsPartEntry lanes) (sym all) h.takes.answer.0);
      },
    )
next_so file lanes list left ys before after old new (Err Limit) r h now cut =
    (h.takes.answer.1.0, cut_there file lanes list old.allowance.taken left h.takes.took ys new.allowance.taken r cut h.takes.takes.taken h.takes.answer.0)
next_so file lanes list left ys before after old new (Err Fault) r h now cut =
    cut_there file lanes list old.allowance.taken left h.takes.took ys new.allowance.taken r cut h.takes.takes.taken h.takes.answer.0

next_reads : (file : List ℕ) (lanes : ℕ) (list : List Content) (left : List ℕ) (before after : Input) (old new : ReaderState)
    (result : Result Content EntryEnd) → before.left ≡ Some left → HasRead file lanes list old.allowance.taken left
    → ReadsEntry lanes before after old new result → AfterNext file lanes list after.left new.allowance result
next_reads file lanes list left before after old new result told r h =
    let left_over = rest-of before after old.allowance new.allowance h.takes.took left told h.takes.takes in
    next_so file lanes list left left_over.0 before after old new result r h left_over.1 left_over.2

-- the call for the header, which left these octets
start_so : (file ys : List ℕ) (before after : Input) (old new : ReaderState) (result : Result ℕ EntryEnd) → old.allowance.taken ≡ 0
    → (h : CallsStart before after old new result) → after.left ≡ Some ys → file ≡ h.header.took ++ ys → AfterStart file after.left new.allowance result
start_so file ys before after old new (Ok lanes) fresh h now cut = (
  ys,
  now,
  record {
    octets = ys;
    header = cut ∙ ap (λ xs. xs ++ ys) h.header.answer.0;
    lanes_fit = h.header.answer.1;
    begins = record { entries = []; cut = refl; spelled = tt; counted = omega (arith, fresh, h.header.takes.taken, ap length h.header.answer.0) };
    going_on = tt;
  },
)
start_so file ys before after old new (Err (Bad place why)) fresh h now cut =
    let took = h.header.took in
    let front : take header_size file ≡ took = ap₂ take (sym h.header.answer.2) cut ∙ take-append_seam took ys in (
      h.header.answer.0,
      h.header.answer.1,
      (omega (arith, h.header.answer.2, ap length cut, length-append took ys), subst IsNoHeader (sym front) h.header.answer.3),
    )
start_so file ys before after old new (Err (Cut place)) fresh h now cut =
    let took = h.header.took in
    let none : ys ≡ [] = subst IsAtEnd now h.header.answer.1.1.0 in
    let all : file ≡ took = cut ∙ ap (λ xs. took ++ xs) none ∙ append-nil took in
    (omega (arith, fresh, h.header.answer.1.0, h.header.takes.taken, ap length all), omega (arith, h.header.answer.0, ap length all))
start_so file ys before after old new (Err Limit) fresh h now cut =
    let took = h.header.took in
    let size : new.allowance.taken ≡ length took = omega (arith, fresh, h.header.takes.taken) in
    let front : take new.allowance.taken file ≡ took = ap₂ take size cut ∙ take-append_seam took ys in
    (h.header.answer.1.0, (omega (arith, size, ap length front), omega (arith, h.header.answer.0, ap length front)))
start_so file ys before after old new (Err Fault) fresh h now cut =
    let took = h.header.took in
    let size : new.allowance.taken ≡ length took = omega (arith, fresh, h.header.takes.taken) in
    let front : take new.allowance.taken file ≡ took = ap₂ take size cut ∙ take-append_seam took ys in
    (omega (arith, size, ap length front), omega (arith, h.header.answer.0, ap length front))

starts_reading : (file : List ℕ) (before after : Input) (old new : ReaderState) (result : Result ℕ EntryEnd) → before.left ≡ Some file
    → old.allowance.taken ≡ 0 → CallsStart before after old new result → AfterStart file after.left new.allowance result
starts_reading file before after old new result told fresh h =
    let left_over = rest-of before after old.allowance new.allowance h.header.took file told h.header.takes in
    start_so file left_over.0 before after old new result fresh h left_over.1 left_over.2

-- an entry has octets
some_octets : (lanes : ℕ) (content : Content) (octets : List ℕ) → SpellsEntry lanes content octets → 0 < length octets
some_octets lanes (Packet lane packet) octets s = omega (arith, ap length s.0)
some_octets lanes (Chair command) octets s = omega (arith, ap length s.1)
some_octets lanes (Tick step) octets s = omega (arith, ap length s.0)
some_octets lanes End octets s = omega (arith, ap length s)

entry_moves : (lanes : ℕ) (before after : Input) (old new : ReaderState) (content : Content)
    → ReadsEntry lanes before after old new (Ok content) → old.allowance.taken < new.allowance.taken
entry_moves lanes before after old new content r =
    omega (arith, r.takes.takes.taken, some_octets lanes content r.takes.took r.takes.answer.0)

pub entries_are_read : LawOfReading
entries_are_read = record { starts = starts_reading; goes_on = next_reads; moves = entry_moves }

-- a list with an end behind it is not empty
no_end : (before : List Content) → [] ≡ before ++ End ∷ [] → ⊥
no_end before h = omega (arith, ap length h, length-append before (End ∷ []))

end_or_not : (x : Content) → (x ≡ End) ⊎ IsNotEnd x
end_or_not (Packet lane packet) = inr (λ e. cc)
end_or_not (Chair command) = inr (λ e. cc)
end_or_not (Tick step) = inr (λ e. cc)
end_or_not End = inl refl

-- behind an entry that is not the end
tail_of_whole : (before : List Content) (x : Content) (xs : List Content) → x ∷ xs ≡ before ++ End ∷ [] → AllByRecursion IsNotEnd before → IsNotEnd x
    → (more : List Content) × (xs ≡ more ++ End ∷ []) × AllByRecursion IsNotEnd more
tail_of_whole [] x xs h all going = absurd (going cc)
tail_of_whole (b ∷ before) x xs h all going = (before, cc, all.1)

tail_stops : (lanes : ℕ) (s : Stop) (x : Content) (xs : List Content) (at : ℕ) (left : List ℕ) → IsNotEnd x → Stops lanes s (x ∷ xs) at left → Stops lanes s xs at left
tail_stops lanes Whole x xs at left going h = tail_of_whole h.0 x xs h.1 h.2 going
tail_stops lanes (WrongAt place why) x xs at left going h = (h.0.1, h.1, h.2)
tail_stops lanes (CutAt place) x xs at left going h = (h.0.1, h.1, h.2)

-- the end is the last
end_of_whole : (before : List Content) (x : Content) (xs : List Content) → x ∷ xs ≡ before ++ End ∷ [] → AllByRecursion IsNotEnd before → x ≡ End → xs ≡ []
end_of_whole [] x xs h all is = cc
end_of_whole (b ∷ before) x xs h all is = let same : b ≡ End = cc in absurd (all.0 same)

end_stops : (lanes : ℕ) (s : Stop) (x : Content) (xs : List Content) (at : ℕ) (left : List ℕ) → x ≡ End → Stops lanes s (x ∷ xs) at left → (xs ≡ []) × (s ≡ Whole)
end_stops lanes Whole x xs at left is h = (end_of_whole h.0 x xs h.1 h.2 is, refl)
end_stops lanes (WrongAt place why) x xs at left is h = absurd (h.0.0 is)
end_stops lanes (CutAt place) x xs at left is h = absurd (h.0.0 is)

-- where the entries stop, none begins
not_stopped : (lanes : ℕ) (s : Stop) (at : ℕ) (left : List ℕ) (x : Content) (e : List ℕ) → Stops lanes s [] at left → Owns (front_of lanes left) x e → ⊥
not_stopped lanes Whole at left x e h owns = no_end h.0 h.1
not_stopped lanes (WrongAt place why) at left x e h owns = not_wrong (front_of lanes left) x e why owns (fault_in_front lanes why left h.2.0 h.2.1)
not_stopped lanes (CutAt place) at left x e h owns = subst (λ f. Owns f x e) (part_in_front lanes left h.2) owns

same_stop : (lanes : ℕ) (s t : Stop) (at : ℕ) (left : List ℕ) → Stops lanes s [] at left → Stops lanes t [] at left → s ≡ t
same_stop lanes Whole t at left h k = absurd (no_end h.0 h.1)
same_stop lanes (WrongAt p v) Whole at left h k = absurd (no_end k.0 k.1)
same_stop lanes (WrongAt p v) (WrongAt q w) at left h k =
    ap₂ WrongAt (h.1 ∙ sym k.1) (one_reason (front_of lanes left) v w (fault_in_front lanes v left h.2.0 h.2.1) (fault_in_front lanes w left k.2.0 k.2.1))
same_stop lanes (WrongAt p v) (CutAt q) at left h k = absurd (subst (λ f. Blames f v) (part_in_front lanes left k.2) (fault_in_front lanes v left h.2.0 h.2.1))
same_stop lanes (CutAt p) Whole at left h k = absurd (no_end k.0 k.1)
same_stop lanes (CutAt p) (WrongAt q w) at left h k = absurd (subst (λ f. Blames f w) (part_in_front lanes left h.2) (fault_in_front lanes w left k.2.0 k.2.1))
same_stop lanes (CutAt p) (CutAt q) at left h k = ap CutAt (h.1 ∙ sym k.1)

-- the entry that octets begin with, whatever entries follow
front_owned : (lanes : ℕ) (x : Content) (e : List ℕ) (es : List (List ℕ)) (left octets : List ℕ) → SpellsEntry lanes x e → octets ≡ (e ++ concat es) ++ left
    → Owns (front_of lanes octets) x e
front_owned lanes x e es left octets spelled whole =
    subst (λ xs. Owns (front_of lanes xs) x e) (sym (whole ∙ append_assoc e (concat es) left)) (entry_in_front lanes x e (concat es ++ left) spelled)

-- the same octets are cut into the same entries
one_cut : (lanes first : ℕ) (xs ys : List Content) (es fs : List (List ℕ)) (octets left left' : List ℕ) (a b : ℕ) (s t : Stop)
    → octets ≡ concat es ++ left → octets ≡ concat fs ++ left' → AllZip (SpellsEntry lanes) xs es → AllZip (SpellsEntry lanes) ys fs
    → a ≡ first + length (concat es) → b ≡ first + length (concat fs) → Stops lanes s xs a left → Stops lanes t ys b left' → (xs ≡ ys) × (s ≡ t)
one_cut lanes first [] [] [] [] octets left left' a b s t p q z w m n h k =
    let same : left' ≡ left = sym q ∙ p in
    let here : b ≡ a = omega (arith, m, n) in
    (refl, same_stop lanes s t a left h (subst (λ i. Stops lanes t [] i left) here (subst (Stops lanes t [] b) same k)))
one_cut lanes first [] [] [] (f ∷ fs) octets left left' a b s t p q z w m n h k = absurd w
one_cut lanes first [] [] (e ∷ es) fs octets left left' a b s t p q z w m n h k = absurd z
one_cut lanes first [] (y ∷ ys) [] [] octets left left' a b s t p q z w m n h k = absurd w
one_cut lanes first [] (y ∷ ys) [] (f ∷ fs) octets left left' a b s t p q z w m n h k =
    absurd (not_stopped lanes s a left y f h (subst (λ xs. Owns (front_of lanes xs) y f) p (front_owned lanes y f fs left' octets w.0 q)))
one_cut lanes first [] (y ∷ ys) (e ∷ es) fs octets left left' a b s t p q z w m n h k = absurd z
one_cut lanes first (x ∷ xs) ys [] fs octets left left' a b s t p q z w m n h k = absurd z
one_cut lanes first (x ∷ xs) [] (e ∷ es) [] octets left left' a b s t p q z w m n h k =
    absurd (not_stopped lanes t b left' x e k (subst (λ xs. Owns (front_of lanes xs) x e) q (front_owned lanes x e es left octets z.0 p)))
one_cut lanes first (x ∷ xs) [] (e ∷ es) (f ∷ fs) octets left left' a b s t p q z w m n h k = absurd w
one_cut lanes first (x ∷ xs) (y ∷ ys) (e ∷ es) [] octets left left' a b s t p q z w m n h k = absurd w
one_cut lanes first (x ∷ xs) (y ∷ ys) (e ∷ es) (f ∷ fs) octets left left' a b s t p q z w m n h k =
    let both = one_entry (front_of lanes octets) x y e f (front_owned lanes x e es left octets z.0 p) (front_owned lanes y f fs left' octets w.0 q) in
    let behind = drop (length e) octets in
    let rest : behind ≡ concat es ++ left = ap (drop (length e)) (p ∙ append_assoc e (concat es) left) ∙ drop-append_seam e (concat es ++ left) in
    let rest' : behind ≡ concat fs ++ left' =
    ap (λ xs. drop (length xs) octets) both.1 ∙ ap (drop (length f)) (q ∙ append_assoc f (concat fs) left') ∙ drop-append_seam f (concat fs ++ left') in
    ⊎_elim (λ (is : x ≡ End).
    let mine = end_stops lanes s x xs a left is h in
    let yours = end_stops lanes t y ys b left' (sym both.0 ∙ is) k in
    (ap₂ ◌∷◌ both.0 (mine.0 ∙ sym yours.0), mine.1 ∙ sym yours.1))
    (λ (going : IsNotEnd x).
    let more = one_cut lanes (first + length e) xs ys es fs behind left left' a b s t rest rest' z.1 w.1
    (omega (arith, m, length-append e (concat es))) (omega (arith, n, length-append f (concat fs), ap length both.1))
    (tail_stops lanes s x xs a left going h) (tail_stops lanes t y ys b left' (subst IsNotEnd both.0 going) k) in
    (ap₂ ◌∷◌ both.0 more.0, more.1))
    (end_or_not x)

one_list : (lanes first : ℕ) (octets : List ℕ) (xs ys : List Content) (s t : Stop) → Entries lanes first octets xs s → Entries lanes first octets ys t → (xs ≡ ys) × (s ≡ t)
one_list lanes first octets xs ys s t h k =
    one_cut lanes first xs ys h.begins.entries k.begins.entries octets h.left k.left h.at k.at s t h.begins.cut k.begins.cut h.begins.spelled k.begins.spelled
    h.begins.counted k.begins.counted h.stops k.stops

-- a file with a header has no other one, and is not less than it
pub one_reading : LawOfOneReading
one_reading file (Conference l xs s) (Conference m ys t) h k =
    let whole : header_of l ++ h.0 ≡ header_of m ++ k.0 = sym h.1 ∙ k.1 in
    let same : m ≡ l = sym (ap (λ xs. slice_index xs 9) whole) in
    let behind : k.0 ≡ h.0 = sym (ap (drop 10) whole) in
    let theirs : Entries l header_size h.0 ys t =
    subst (λ n. Entries n header_size h.0 ys t) same (subst (λ xs. Entries m header_size xs ys t) behind k.3) in
    let both = one_list l header_size h.0 xs ys s t h.3 theirs in
    ap (λ n. Conference n xs s) (sym same) ∙ ap₂ (Conference m) both.0 both.1
one_reading file (Conference l xs s) WrongHeader h k = absurd (k.1 l h.2 (ap (take 10) h.1))
one_reading file (Conference l xs s) (CutHeader place) h k = absurd (omega (arith, ap length h.1, k.1))
one_reading file WrongHeader (Conference m ys t) h k = absurd (h.1 m k.2 (ap (take 10) k.1))
one_reading file WrongHeader WrongHeader h k = refl
one_reading file WrongHeader (CutHeader place) h k = absurd (omega (arith, h.0, k.1))
one_reading file (CutHeader place) (Conference m ys t) h k = absurd (omega (arith, ap length k.1, h.1))
one_reading file (CutHeader place) WrongHeader h k = absurd (omega (arith, k.0, h.1))
one_reading file (CutHeader p) (CutHeader q) h k = ap CutHeader (h.0 ∙ sym k.0)

-- what a front decides
stops_more : (lanes : ℕ) (s : Stop) (list : List Content) (at : ℕ) (left more : List ℕ) → IsDecided (Conference lanes list s) → Stops lanes s list at left
    → Stops lanes s list at (left ++ more)
stops_more lanes Whole list at left more d h = h
stops_more lanes (WrongAt place why) list at left more d h = (h.0, h.1, (h.2.0 ++ more, wrong_more lanes why left h.2.0 more h.2.1))
stops_more lanes (CutAt place) list at left more d h = absurd d

pub fronts_decide : LawOfFileFronts
fronts_decide front more (Conference lanes list s) d h =
    let e = h.3 in
    let cut : h.0 ++ more ≡ concat e.begins.entries ++ (e.left ++ more) =
    ap (λ xs. xs ++ more) e.begins.cut ∙ append_assoc (concat e.begins.entries) e.left more in (
      h.0 ++ more,
      ap (λ xs. xs ++ more) h.1 ∙ append_assoc (header_of lanes) h.0 more,
      h.2,
      record {
        at = e.at;
        left = e.left ++ more;
        begins = record { entries = e.begins.entries; cut = cut; spelled = e.begins.spelled; counted = e.begins.counted };
        stops = stops_more lanes s list e.at e.left more d e.stops;
      },
    )
fronts_decide front more WrongHeader d h =
    (omega (arith, h.0, length-append front more), subst IsNoHeader (sym (take-append-le header_size front more h.0)) h.1)
fronts_decide front more (CutHeader place) d h = absurd d
