-- Forced updating through a conference: what is written in a place follows what its lane sent, from a refresh on.
use Rattle.std.proofs.Common.{◌≡◌, inl, inr, ℕ, zero, suc, ◌+◌, ◌-◌, ◌%◌, ◌<◌, ◌≤◌, Bool, true, false, cond, not, Option, Some, None, List, [], ◌∷◌, ◌++◌, length, map, drop, slice_get, refl, sym, ap, subst, ◌∙◌, arith, length-append}
use Rattle.std.proofs.lemmas.List.{append_assoc, map-append, drop_at, length_push, length-map}
use Rattle.std.proofs.lemmas.Option.{none-some}
use Rattle.pel_model.specs.declared.Quad.{Quad}
use Rattle.pel_model.specs.declared.held.Held.{Held}
use Rattle.pel_model.specs.declared.note.Take.{Take}
use Rattle.pel_model.specs.declared.note.TickNote.{TickNote}
use Rattle.pel_model.specs.Composed.{or_blank}
use Rattle.pel_model.specs.Decode.{group_of, address_of}
use Rattle.pel_model.specs.History.{Step, Post, Gap, Order, Tick, End, History, arrivals, commands, lane_at, total_of, taken_in}
use Rattle.pel_model.specs.Lanes.{Arrival, Received}
use Rattle.pel_model.specs.Legal.{Legal}
use Rattle.pel_model.specs.Plan.{at, is_same_lane}
use Rattle.pel_model.specs.Records.{Macroblock, Picture}
use Rattle.pel_model.specs.Takes.{serial_or, last_taken, choice, take}
use Rattle.pel_model.specs.Written.{picture_of, written_picture}
use Rattle.frame_laws.proofs.ComposedPictures.{groups-composed}
use Rattle.frame_laws.proofs.Lookups.{found-shifted}
use Rattle.history_laws.proofs.Came.{came_by, arrivals-step}
use Rattle.history_laws.proofs.Composing.{shown, are-valid}
use Rattle.history_laws.proofs.Ticks.{Chooses, taken, none-chosen, follows, chosen-good, same-lane}
use Rattle.update_laws.specs.Kept.{macroblock_of, sent_at, transmissions, is_update, Kept, KeepsUpdating, run}
use Rattle.update_laws.specs.Updating.{picture_in, SendersUpdate, written_pictures, UpdatingLaw}
use Rattle.update_laws.proofs.Places.{group_there, address_there, StandsThere, stands-there, place-there, place-in-qcif, blank-sends}
use Rattle.update_laws.proofs.Refreshed.{SendsUpdate, refresh-sends}
use Rattle.update_laws.proofs.Runs.{counted, counted_by, run-sent, kept-more, kept-run, kept-nothing}

-- ---- lists

same-behind : {X : Type 0} (xs ys zs ws : List X) → xs ++ ys ≡ zs ++ ws → length xs ≡ length zs → ys ≡ ws
same-behind {X} xs ys zs ws e long =
    sym (drop_at xs ys (length xs) refl) ∙ ap (λ (l : List X). drop (length xs) l) e ∙ drop_at zs ws (length xs) (sym long)

-- what was received stands among what came
abbrev ReceivedAt : List (Arrival Picture) → ℕ → Picture → Type 0
ReceivedAt came n p = (before after : List (Option Picture)) × (map picture_in came ≡ before ++ Some p ∷ after) × (length before ≡ n)

received-at : (came : List (Arrival Picture)) (n : ℕ) (refresh : Bool) (p : Picture) → slice_get came n ≡ Some (Received refresh p) → ReceivedAt came n p
received-at [] n refresh p found = absurd (none-some _ found)
received-at (x ∷ came) zero refresh p found =
    let same : x ≡ Received refresh p = cc in
    ([], map picture_in came, ap (λ (a : Arrival Picture). picture_in a ∷ map picture_in came) same, refl)
received-at (x ∷ came) (suc n) refresh p found =
    let rest = received-at came n refresh p found in
    (picture_in x ∷ rest.0, rest.1, ap (λ (l : List (Option Picture)). picture_in x ∷ l) rest.2, ap suc rest.3)

pub keeps-front : (xs ys : List (Option Picture)) → KeepsUpdating (xs ++ ys) → KeepsUpdating xs
keeps-front xs ys keeps before after stretch e =
    keeps before (after ++ ys) stretch (ap (λ (l : List (Option Picture)). l ++ ys) e ∙ append_assoc (before ++ map Some stretch) after ys)

came-step : (s : Step) (H : History) (c : ℕ) → map picture_in (arrivals (s ∷ H) c) ≡ map picture_in (arrivals H c) ++ map picture_in (came_by s c)
came-step s H c = ap (map picture_in) (arrivals-step s H c) ∙ map-append picture_in (arrivals H c) (came_by s c)

senders-before : (s : Step) (H : History) → SendersUpdate (s ∷ H) → SendersUpdate H
senders-before s H updates c =
    keeps-front (map picture_in (arrivals H c)) (map picture_in (came_by s c)) (subst KeepsUpdating (came-step s H c) (updates c))

-- ---- what a tick writes in a place

sent-there : (lanes : ℕ) (H : History) (note : TickNote) (q : Quad) (column row : ℕ) → Legal lanes H → column < 11 → row < 9
    → sent_at (group_there q column row) (address_there q column row) (written_picture lanes H note)
    ≡ sent_at (group_of column row) (address_of column row) (or_blank (shown lanes H q))
sent-there lanes H note q column row legal across down =
    ap macroblock_of
    (found-shifted q (written_picture lanes H note) (or_blank (shown lanes H q)) column row across down
    (groups-composed q (total_of (Tick note ∷ H) % 32) (shown lanes H) (are-valid lanes H legal)))

-- the run there, of all that was written
abbrev run_there : ℕ → History → Quad → (column row : ℕ) → ℕ
run_there lanes H q column row = run (transmissions (group_there q column row) (address_there q column row) (written_pictures lanes H))

-- and that of pictures of the lane
abbrev run_sent : (column row : ℕ) → List Picture → ℕ
run_sent column row ps = run (transmissions (group_of column row) (address_of column row) ps)

run-ticked : (lanes : ℕ) (H : History) (note : TickNote) (q : Quad) (column row : ℕ) (picture : Option (Held Picture)) → Legal lanes H → column < 11 → row < 9 → choice lanes H q ≡ picture
    → run_there lanes (Tick note ∷ H) q column row
    ≡ counted_by (run_there lanes H q column row) (sent_at (group_of column row) (address_of column row) (or_blank (picture_of picture)))
run-ticked lanes H note q column row picture legal across down chosen =
    run-sent (group_there q column row) (address_there q column row) (written_pictures lanes H) (written_picture lanes H note)
    ∙ ap (counted_by (run_there lanes H q column row)) (sent-there lanes H note q column row legal across down)
    ∙ ap (λ (h : Option (Held Picture)). counted_by (run_there lanes H q column row) (sent_at (group_of column row) (address_of column row) (or_blank (picture_of h)))) chosen

run-unticked : (lanes : ℕ) (H : History) (note : TickNote) (q : Quad) (column row : ℕ) → Legal lanes H → column < 11 → row < 9 → choice lanes H q ≡ None
    → run_there lanes (Tick note ∷ H) q column row ≡ run_there lanes H q column row
run-unticked lanes H note q column row legal across down nothing =
    run-ticked lanes H note q column row None legal across down nothing
    ∙ ap (counted_by (run_there lanes H q column row)) (blank-sends (group_of column row) (address_of column row))

-- ---- while a lane stays in a place, the runs there are at most those of the lane's own stretch behind what was taken last

record Follows (lanes : ℕ) (H : History) (q : Quad) (c n : ℕ) : Type 0 where
  before : List (Option Picture)
  stretch : List Picture
  after : List (Option Picture)
  came : map picture_in (arrivals H c) ≡ before ++ map Some stretch ++ after
  serial : length before + length stretch ≡ n
  bound : (column row : ℕ) → column < 11 → row < 9 → run_there lanes H q column row ≤ run_sent column row stretch

abbrev AllFollow : ℕ → History → Type 0
AllFollow lanes H = (q : Quad) (c n : ℕ) → lane_at lanes H q ≡ Some c → last_taken lanes H q ≡ Some n → Follows lanes H q c n

counted-less : (n k : ℕ) (update : Bool) → n ≤ k → counted n update ≤ counted k update
counted-less n k true less = omega arith
counted-less n k false less = omega (arith, less)

counted-by-less : (n k : ℕ) (sent : Option Macroblock) → n ≤ k → counted_by n sent ≤ counted_by k sent
counted-by-less n k None less = less
counted-by-less n k (Some m) less = counted-less n k (is_update m) less

updated-none : (n : ℕ) (sent : Option Macroblock) → SendsUpdate sent → counted_by n sent ≡ 0
updated-none n sent sends = ap (counted_by n) sends.1 ∙ ap (counted n) sends.2

-- a refresh begins a stretch of its own
refresh-follows : (lanes : ℕ) (H : History) (note : TickNote) (q : Quad) (c : ℕ) (h : Held Picture) → Legal lanes H → Chooses lanes H q c h → h.refresh ≡ true
    → ReceivedAt (arrivals H c) (h.serial - 1) h.item → Follows lanes (Tick note ∷ H) q c h.serial
refresh-follows lanes H note q c h legal chosen refresh at =
    let good = chosen-good lanes H q c h legal chosen in
    record {
      before = at.0;
      stretch = h.item ∷ [];
      after = at.1;
      came = at.2 ∙ sym (append_assoc at.0 (Some h.item ∷ []) at.1);
      serial = omega (arith, at.3, chosen.from.from_one);
      bound = λ column row across down.
          omega (
            arith,
            run-ticked lanes H note q column row (Some h) legal across down chosen.picture,
            updated-none (run_there lanes H q column row) (sent_at (group_of column row) (address_of column row) h.item)
                (refresh-sends column row h.item across down good.0.valid (sym good.1 ∙ refresh)),
          );
    }

-- the next serial goes on with the stretch
next-follows : (lanes : ℕ) (H : History) (note : TickNote) (q : Quad) (c : ℕ) (h : Held Picture) (last : ℕ) → Legal lanes H → Chooses lanes H q c h → h.serial ≡ last + 1
    → ReceivedAt (arrivals H c) (h.serial - 1) h.item → Follows lanes H q c last → Follows lanes (Tick note ∷ H) q c h.serial
next-follows lanes H note q c h last legal chosen next at f =
    let front = f.before ++ map Some f.stretch in
    let rest : f.after ≡ Some h.item ∷ at.1 =
    same-behind front f.after at.0 (Some h.item ∷ at.1) (sym f.came ∙ at.2)
    (omega (arith, length-append f.before (map Some f.stretch), length-map f.stretch Some, f.serial, at.3, next)) in
    record {
      before = f.before;
      stretch = f.stretch ++ h.item ∷ [];
      after = at.1;
      came =
          f.came ∙ ap (λ (l : List (Option Picture)). front ++ l) rest ∙ sym (append_assoc front (Some h.item ∷ []) at.1)
          ∙ ap (λ (l : List (Option Picture)). l ++ at.1)
          (append_assoc f.before (map Some f.stretch) (Some h.item ∷ []) ∙ ap (λ (l : List (Option Picture)). f.before ++ l) (sym (map-append Some f.stretch (h.item ∷ []))));
      serial = omega (arith, length_push f.stretch h.item, f.serial, next);
      bound = λ column row across down.
          let sent = sent_at (group_of column row) (address_of column row) h.item in
          omega (
            arith,
            run-ticked lanes H note q column row (Some h) legal across down chosen.picture,
            run-sent (group_of column row) (address_of column row) f.stretch h.item,
            counted-by-less (run_there lanes H q column row) (run_sent column row f.stretch) sent (f.bound column row across down),
          );
    }

take-follows : (lanes : ℕ) (H : History) (note : TickNote) (q : Quad) (c : ℕ) (h : Held Picture) → Legal lanes H → AllFollow lanes H → Chooses lanes H q c h
    → Follows lanes (Tick note ∷ H) q c h.serial
take-follows lanes H note q c h legal all chosen =
    let at = received-at (arrivals H c) (h.serial - 1) h.refresh h.item chosen.from.received in
    elim (follows (last_taken lanes H q) h chosen.follows) as (λ _. Follows lanes (Tick note ∷ H) q c h.serial) [
      | inl refresh ↦ refresh-follows lanes H note q c h legal chosen refresh at
      | inr next ↦ next-follows lanes H note q c h next.0 legal chosen next.2 at (all q c next.0 chosen.lane next.1)
    ]

-- nothing was taken
stay-follows : (lanes : ℕ) (H : History) (note : TickNote) (q : Quad) (c n : ℕ) → Legal lanes H → choice lanes H q ≡ None → Follows lanes H q c n → Follows lanes (Tick note ∷ H) q c n
stay-follows lanes H note q c n legal nothing f = record {
  before = f.before;
  stretch = f.stretch;
  after = f.after;
  came = f.came;
  serial = f.serial;
  bound = λ column row across down. omega (arith, run-unticked lanes H note q column row legal across down nothing, f.bound column row across down);
}

some-same : (m n : ℕ) → ◌≡◌ {A = Option ℕ} (Some m) (Some n) → m ≡ n
some-same m n e = cc

tick-follows : (lanes : ℕ) (H : History) (note : TickNote) (q : Quad) (c n : ℕ) (told : Option Take) → Legal lanes H → AllFollow lanes H → taken_in q note ≡ take lanes H q → taken_in q note ≡ told
    → lane_at lanes H q ≡ Some c → serial_or told (last_taken lanes H q) ≡ Some n → Follows lanes (Tick note ∷ H) q c n
tick-follows lanes H note q c n None legal all rule is stands last =
    stay-follows lanes H note q c n legal (none-chosen lanes H q (sym rule ∙ is)) (all q c n stands last)
tick-follows lanes H note q c n (Some told) legal all rule is stands last =
    let found = taken lanes H q told (sym rule ∙ is) in
    let chosen = found.2 in
    let same_lane : found.0 ≡ c = some-same found.0 c (sym chosen.lane ∙ stands) in
    let same_serial : found.1.serial ≡ n = found.4 ∙ some-same told.serial n last in
    subst (λ (k : ℕ). Follows lanes (Tick note ∷ H) q k n) same_lane
    (subst (Follows lanes (Tick note ∷ H) q found.0) same_serial (take-follows lanes H note q found.0 found.1 legal all chosen))

-- a step that writes nothing
kept-follows : (lanes : ℕ) (H : History) (s : Step) (q : Quad) (c n : ℕ) → written_pictures lanes (s ∷ H) ≡ written_pictures lanes H → Follows lanes H q c n → Follows lanes (s ∷ H) q c n
kept-follows lanes H s q c n same f =
    let more = map picture_in (came_by s c) in
    record {
      before = f.before;
      stretch = f.stretch;
      after = f.after ++ more;
      came = came-step s H c ∙ ap (λ (l : List (Option Picture)). l ++ more) f.came ∙ append_assoc (f.before ++ map Some f.stretch) f.after more;
      serial = f.serial;
      bound = λ column row across down.
          subst (λ (ps : List Picture). run (transmissions (group_there q column row) (address_there q column row) ps) ≤ run_sent column row f.stretch) (sym same) (f.bound column row across down);
    }

order-kept : (q : Quad) (c n : ℕ) (now before : Option ℕ) (last : Option ℕ) → now ≡ Some c →
    cond (not (is_same_lane now before)) None last ≡ Some n → (before ≡ Some c) × (last ≡ Some n)
order-kept q c n now before last stands e =
    elim (is_same_lane now before) as (λ v. is_same_lane now before ≡ v → cond (not v) None last ≡ Some n → (before ≡ Some c) × (last ≡ Some n)) [
      | true ↦ λ same kept. (sym (same-lane now before same) ∙ stands, kept)
      | false ↦ λ other none. absurd (none-some n none)
    ] refl e

all-follow : (lanes : ℕ) (H : History) → Legal lanes H → AllFollow lanes H
all-follow lanes [] legal q c n stands last = absurd (none-some n last)
all-follow lanes (Post lane picture ∷ H) legal q c n stands last =
    kept-follows lanes H (Post lane picture) q c n refl (all-follow lanes H legal.0 q c n stands last)
all-follow lanes (Gap lane ∷ H) legal q c n stands last = kept-follows lanes H (Gap lane) q c n refl (all-follow lanes H legal.0 q c n stands last)
all-follow lanes (Order command reply ∷ H) legal q c n stands last =
    let kept = order-kept q c n (at lanes (command ∷ commands H) q) (at lanes (commands H) q) (last_taken lanes H q) stands last in
    kept-follows lanes H (Order command reply) q c n refl (all-follow lanes H legal.0 q c n kept.0 kept.1)
all-follow lanes (Tick note ∷ H) legal q c n stands last =
    tick-follows lanes H note q c n (taken_in q note) legal.0 (all-follow lanes H legal.0) (legal.2.takes q) refl stands last
all-follow lanes (End ∷ H) legal q c n stands last = kept-follows lanes H End q c n refl (all-follow lanes H legal.0 q c n stands last)

-- ---- so no run is too long

run-kept : (lanes : ℕ) (H : History) (note : TickNote) (q : Quad) (column row : ℕ) → Legal lanes H → SendersUpdate H → Kept (written_pictures lanes H) → column < 11 → row < 9
    → (picture : Option (Held Picture)) → choice lanes H q ≡ picture → (told : Option Take) → take lanes H q ≡ told → run_there lanes (Tick note ∷ H) q column row < 132
run-kept lanes H note q column row legal updates kept across down picture chosen None told =
    omega (
      arith,
      run-unticked lanes H note q column row legal across down (none-chosen lanes H q told),
      kept-run (written_pictures lanes H) kept (group_there q column row) (address_there q column row) (place-there q column row across down),
    )
run-kept lanes H note q column row legal updates kept across down picture chosen (Some take_told) told =
    let found = taken lanes H q take_told told in
    let f = take-follows lanes H note q found.0 found.1 legal (all-follow lanes H legal) found.2 in
    omega (
      arith,
      f.bound column row across down,
      kept-run f.stretch (updates found.0 f.before f.after f.stretch f.came) (group_of column row) (address_of column row) (place-in-qcif column row across down),
    )

tick-kept : (lanes : ℕ) (H : History) (note : TickNote) → Legal lanes H → SendersUpdate H → Kept (written_pictures lanes H)
    → (group address : ℕ) → StandsThere group address → run (transmissions group address (written_pictures lanes (Tick note ∷ H))) < 132
tick-kept lanes H note legal updates kept group address there =
    subst (λ (g : ℕ). run (transmissions g address (written_pictures lanes (Tick note ∷ H))) < 132) there.group_is
    (subst (λ (a : ℕ). run (transmissions (group_there there.quad there.column there.row) a (written_pictures lanes (Tick note ∷ H))) < 132) there.address_is
    (run-kept lanes H note there.quad there.column there.row legal updates kept there.across there.down (choice lanes H there.quad) refl (take lanes H there.quad) refl))

pub updating-law : UpdatingLaw
updating-law lanes [] legal updates = kept-nothing
updating-law lanes (Post lane picture ∷ H) legal updates = updating-law lanes H legal.0 (senders-before (Post lane picture) H updates)
updating-law lanes (Gap lane ∷ H) legal updates = updating-law lanes H legal.0 (senders-before (Gap lane) H updates)
updating-law lanes (Order command reply ∷ H) legal updates = updating-law lanes H legal.0 (senders-before (Order command reply) H updates)
updating-law lanes (Tick note ∷ H) legal updates =
    let before = senders-before (Tick note) H updates in
    let kept = updating-law lanes H legal.0 before in
    kept-more (written_pictures lanes H) (written_picture lanes H note) kept
    (λ group address place. tick-kept lanes H note legal.0 before kept group address (stands-there group address place))
updating-law lanes (End ∷ H) legal updates = updating-law lanes H legal.0 (senders-before End H updates)
