-- A worked conference of two lanes, with a loss, a swap and back, a refresh and the end, and one whose lane overflows: what
-- is taken, for whom it waits, what is written and what is shown, with values that were computed apart from these
-- definitions; and it is legal, so that the laws of legal histories speak of it.
use Rattle.std.proofs.Common.{◌≡◌, ℕ, ◌+◌, ◌*◌, ◌<◌, ◌≤◌, Bool, true, false, List, [], ◌∷◌, ◌++◌, length, map, replicate, Option, Some, None, refl, sym, ap, arith}
use Rattle.std.proofs.lemmas.Option.{none-some}
use Rattle.pel_model.specs.Headers.{group_header_text, picture_header_text}
use Rattle.pel_model.specs.declared.Format.TheVariants.{Cif}
use Rattle.pel_model.specs.declared.Quad.{Quad}
use Rattle.pel_model.specs.declared.Quad.TheVariants.{One, Two, Three, Four}
use Rattle.pel_model.specs.declared.chair.Command.TheVariants.{Place, Clear, Swap}
use Rattle.pel_model.specs.declared.chair.Reply.TheVariants.{Done, NoLane, SamePlace}
use Rattle.pel_model.specs.declared.note.Take.{Take}
use Rattle.pel_model.specs.declared.note.TickNote.{TickNote}
use Rattle.pel_model.specs.Bits.{field, number}
use Rattle.pel_model.specs.Codes.{mba_table, mtype_table, mvd_table, cbp_table, tcoeff_table}
use Rattle.pel_model.specs.Crop.{crop}
use Rattle.pel_model.specs.Decode.{decode}
use Rattle.pel_model.specs.Frames.{Plane, Luminance, Cb, Frame}
use Rattle.pel_model.specs.Headline.{serials_taken}
use Rattle.pel_model.specs.History.{Step, Post, Gap, Order, Tick, End, History, arrivals, taken_in}
use Rattle.pel_model.specs.Legal.{Legal}
use Rattle.pel_model.specs.Own.{own}
use Rattle.pel_model.specs.Plan.{places, is_done}
use Rattle.pel_model.specs.Records.{Group, Picture}
use Rattle.pel_model.specs.Residual.{reconstructed, with_zeros, transmission_order, coefficients_of, residual}
use Rattle.pel_model.specs.Takes.{last_taken, low_serial, held_pictures, take, waiting}
use Rattle.pel_model.specs.Text.{text, picture_header, group_header, macroblocks_text, macroblock_text, block_text, coefficient_word}
use Rattle.pel_model.specs.Transform.{fixed, sum_below, kernel_rows}
use Rattle.pel_model.specs.Written.{written_picture, shown_frame}
use Rattle.lane_ring.specs.Taking.{serials_of}
use Rattle.history_laws.proofs.WorkedPictures.{grey, small, grey-postable, small-postable}

abbrev took : (lane serial : ℕ) → Option Take
took lane serial = Some (record { lane = lane; serial = serial })

-- what a tick tells that took something in the first two places alone
abbrev note_of : (step total : ℕ) → (one two : Option Take) → (waits : ℕ) → TickNote
note_of step total one two waits = record {
  step = step;
  total = total;
  taken_one = one;
  taken_two = two;
  taken_three = None;
  taken_four = None;
  waiting = waits;
}

-- ---- the conference, cut at its ticks; the newest step stands first

abbrev before_first : History
before_first =
    Post 1 small ∷ Post 0 small ∷ Post 0 grey ∷ Order (Place Two 1) Done ∷ Order (Place One 0) Done ∷ []

-- lane 1 began with a picture that is no refresh: it is passed
abbrev first_note : TickNote
first_note = note_of 1 1 (took 0 1) None 2

abbrev before_second : History
before_second = Post 0 small ∷ Post 1 grey ∷ Gap 0 ∷ Tick first_note ∷ before_first

-- lane 0 goes on with serial 2; serial 3 was lost, and 4 cannot go on behind 2
abbrev second_note : TickNote
second_note = note_of 2 3 (took 0 2) (took 1 2) 1

abbrev before_third : History
before_third =
    Order (Swap One Two) Done ∷ Post 1 small ∷ Post 0 small ∷ Order (Swap One Two) Done ∷ Tick second_note ∷ before_second

-- both places began anew, and neither lane sent a refresh
abbrev third_note : TickNote
third_note = note_of 31 34 None None 3

abbrev before_fourth : History
before_fourth = Post 1 grey ∷ Tick third_note ∷ before_third

abbrev fourth_note : TickNote
fourth_note = note_of 1 35 None (took 1 4) 1

abbrev conference : History
conference = End ∷ Order (Place One 2) NoLane ∷ Tick fourth_note ∷ before_fourth

-- ---- what is taken, waited for and held

pub takes :
    (map (take 2 before_first) places ≡ took 0 1 ∷ None ∷ None ∷ None ∷ [])
    × (map (take 2 before_second) places ≡ took 0 2 ∷ took 1 2 ∷ None ∷ None ∷ [])
    × (map (take 2 before_third) places ≡ None ∷ None ∷ None ∷ None ∷ [])
    × (map (take 2 before_fourth) places ≡ None ∷ took 1 4 ∷ None ∷ None ∷ [])
takes = (refl, refl, refl, refl)

pub waits :
    (waiting 2 (Tick first_note ∷ before_first) ≡ 2) × (waiting 2 (Tick second_note ∷ before_second) ≡ 1)
    × (waiting 2 (Tick third_note ∷ before_third) ≡ 3) × (waiting 2 (Tick fourth_note ∷ before_fourth) ≡ 1)
waits = (refl, refl, refl, refl)

pub lasts :
    (map (last_taken 2 before_second) places ≡ Some 1 ∷ None ∷ None ∷ None ∷ [])
    × (map (last_taken 2 (Tick second_note ∷ before_second)) places ≡ Some 2 ∷ Some 2 ∷ None ∷ None ∷ [])
    × (map (last_taken 2 before_third) places ≡ None ∷ None ∷ None ∷ None ∷ [])
lasts = (refl, refl, refl)

-- what each lane holds behind a tick, and the greatest serial that was taken or passed
abbrev lanes_at : History → List (ℕ × List ℕ)
lanes_at H = map (λ (c : ℕ). (low_serial 2 H c, serials_of (held_pictures 2 H c))) (0 ∷ 1 ∷ [])

pub lanes_hold :
    (lanes_at (Tick first_note ∷ before_first) ≡ (1, 2 ∷ []) ∷ (1, []) ∷ [])
    × (lanes_at (Tick second_note ∷ before_second) ≡ (2, 4 ∷ []) ∷ (2, []) ∷ [])
    × (lanes_at (Tick third_note ∷ before_third) ≡ (5, []) ∷ (3, []) ∷ [])
    × (lanes_at conference ≡ (5, []) ∷ (4, []) ∷ [])
lanes_hold = (refl, refl, refl, refl)

pub in_order : (serials_taken conference 0 ≡ 1 ∷ 2 ∷ []) × (serials_taken conference 1 ≡ 2 ∷ 4 ∷ [])
in_order = (refl, refl)

-- ---- what is written

-- TR, and the number and the count of macroblocks of each group that sends some
abbrev sent_by : Picture → ℕ × List ℕ
sent_by picture = (picture.tr, map (λ (g : Group). length g.macroblocks) picture.groups)

pub written :
    (sent_by (written_picture 2 before_first first_note) ≡ (1, 33 ∷ 0 ∷ 33 ∷ 0 ∷ 33 ∷ replicate 7 0))
    × (sent_by (written_picture 2 before_second second_note) ≡ (3, 1 ∷ 33 ∷ 0 ∷ 33 ∷ 0 ∷ 33 ∷ replicate 6 0))
    × (sent_by (written_picture 2 before_third third_note) ≡ (2, replicate 12 0))
    × (sent_by (written_picture 2 before_fourth fourth_note) ≡ (3, 0 ∷ 33 ∷ 0 ∷ 33 ∷ 0 ∷ 33 ∷ replicate 6 0))
written = (refl, refl, refl, refl)

pub written_lengths :
    (length (text Cif (written_picture 2 before_second second_note)) ≡ 6789)
    × (length (text Cif (written_picture 2 before_third third_note)) ≡ 344)
unfolding picture_header_text group_header_text macroblocks_text macroblock_text block_text coefficient_word field number mba_table mtype_table mvd_table cbp_table tcoeff_table
written_lengths = (refl, refl)

-- ---- what is shown: the first sample of each place, and one that no level reaches

abbrev black : Frame
black plane x y = 0

abbrev first_samples : Quad → Frame → List ℕ
first_samples q frame = crop q frame Luminance 0 0 ∷ crop q frame Luminance 8 0 ∷ []

abbrev shown_there : History → List (List ℕ)
shown_there H = map (λ (q : Quad). first_samples q (shown_frame fixed black 2 H)) places

pub samples_shown :
    (shown_there (Tick first_note ∷ before_first) ≡ (128 ∷ 128 ∷ []) ∷ (0 ∷ 0 ∷ []) ∷ (0 ∷ 0 ∷ []) ∷ (0 ∷ 0 ∷ []) ∷ [])
    × (shown_there (Tick second_note ∷ before_second)
    ≡ (131 ∷ 128 ∷ []) ∷ (128 ∷ 128 ∷ []) ∷ (0 ∷ 0 ∷ []) ∷ (0 ∷ 0 ∷ []) ∷ [])
    × (shown_there conference ≡ (131 ∷ 128 ∷ []) ∷ (128 ∷ 128 ∷ []) ∷ (0 ∷ 0 ∷ []) ∷ (0 ∷ 0 ∷ []) ∷ [])
unfolding crop decode residual coefficients_of with_zeros transmission_order reconstructed fixed sum_below kernel_rows
samples_shown = (refl, refl, refl)

-- the sender's own decoder at the picture that was taken last
pub own_samples : own fixed (λ _. black) (arrivals conference 0) 2 Luminance 0 0 ∷ own fixed (λ _. black) (arrivals conference 0) 2 Luminance 8 0 ∷ [] ≡ 131 ∷ 128 ∷ []
unfolding decode residual coefficients_of with_zeros transmission_order reconstructed fixed sum_below kernel_rows
own_samples = refl

-- ---- it is legal

first-takes : (q : Quad) → taken_in q first_note ≡ take 2 before_first q
first-takes One = refl
first-takes Two = refl
first-takes Three = refl
first-takes Four = refl

second-takes : (q : Quad) → taken_in q second_note ≡ take 2 before_second q
second-takes One = refl
second-takes Two = refl
second-takes Three = refl
second-takes Four = refl

third-takes : (q : Quad) → taken_in q third_note ≡ take 2 before_third q
third-takes One = refl
third-takes Two = refl
third-takes Three = refl
third-takes Four = refl

fourth-takes : (q : Quad) → taken_in q fourth_note ≡ take 2 before_fourth q
fourth-takes One = refl
fourth-takes Two = refl
fourth-takes Three = refl
fourth-takes Four = refl

legal_first : Legal 2 before_first
legal_first =
    (((((tt, refl, refl), refl, refl), refl, (omega arith, grey-postable)), refl, (omega arith, small-postable)), refl, (omega arith, small-postable))

legal_first_tick : Legal 2 (Tick first_note ∷ before_first)
legal_first_tick = (legal_first, refl, record { low = omega arith; high = omega arith; total = refl; takes = first-takes; waits = refl })

legal_second : Legal 2 before_second
legal_second = (((legal_first_tick, refl, omega arith), refl, (omega arith, grey-postable)), refl, (omega arith, small-postable))

legal_second_tick : Legal 2 (Tick second_note ∷ before_second)
legal_second_tick = (legal_second, refl, record { low = omega arith; high = omega arith; total = refl; takes = second-takes; waits = refl })

legal_third : Legal 2 before_third
legal_third =
    ((((legal_second_tick, refl, refl), refl, (omega arith, small-postable)), refl, (omega arith, small-postable)), refl, refl)

legal_third_tick : Legal 2 (Tick third_note ∷ before_third)
legal_third_tick = (legal_third, refl, record { low = omega arith; high = omega arith; total = refl; takes = third-takes; waits = refl })

legal_fourth : Legal 2 before_fourth
legal_fourth = (legal_third_tick, refl, (omega arith, grey-postable))

legal_fourth_tick : Legal 2 (Tick fourth_note ∷ before_fourth)
legal_fourth_tick = (legal_fourth, refl, record { low = omega arith; high = omega arith; total = refl; takes = fourth-takes; waits = refl })

pub legal_conference : Legal 2 conference
legal_conference = ((legal_fourth_tick, refl, refl), refl, tt)

-- ---- a lane that overflows: serial 2 is pushed out, so that nothing can go on behind serial 1 but a refresh

abbrev before_overflow : History
before_overflow = Post 0 grey ∷ Order (Place One 0) Done ∷ []

abbrev overflowing : History
overflowing = replicate 9 (Post 0 small) ++ Tick (note_of 1 1 (took 0 1) None 0) ∷ before_overflow

abbrev after_overflow : History
after_overflow = Post 0 grey ∷ Tick (note_of 1 2 None None 1) ∷ overflowing

pub overflow_takes :
    (take 1 before_overflow One ≡ took 0 1)
    × (serials_of (held_pictures 1 overflowing 0) ≡ 3 ∷ 4 ∷ 5 ∷ 6 ∷ 7 ∷ 8 ∷ 9 ∷ 10 ∷ [])
    × (take 1 overflowing One ≡ None)
    × (waiting 1 (Tick (note_of 1 2 None None 1) ∷ overflowing) ≡ 1)
    × (take 1 after_overflow One ≡ took 0 11)
    × (waiting 1 (Tick (note_of 1 3 (took 0 11) None 0) ∷ after_overflow) ≡ 0)
overflow_takes = (refl, refl, refl, refl, refl, refl)

-- ---- a lane that stands nowhere keeps what it holds; a refused command begins nothing

abbrev nowhere : History
nowhere = Tick (note_of 1 1 None None 0) ∷ Post 1 small ∷ Post 0 grey ∷ []

abbrev placed : History
placed = Order (Place Two 1) Done ∷ Order (Place One 0) Done ∷ nowhere

abbrev refused : History
refused =
    Order (Clear Three) SamePlace ∷ Order (Place Two 1) SamePlace ∷ Tick (note_of 1 2 (took 0 1) None 2) ∷ placed

pub standing_nowhere :
    (lanes_at nowhere ≡ (0, 1 ∷ []) ∷ (0, 1 ∷ []) ∷ []) × (waiting 2 nowhere ≡ 0)
    × (map (take 2 placed) places ≡ took 0 1 ∷ None ∷ None ∷ None ∷ [])
    × (waiting 2 (Tick (note_of 1 2 (took 0 1) None 2) ∷ placed) ≡ 2)
standing_nowhere = (refl, refl, refl, refl)

pub refused_begins_nothing :
    (map (last_taken 2 refused) places ≡ Some 1 ∷ None ∷ None ∷ None ∷ [])
    × (map (last_taken 2 conference) places ≡ None ∷ Some 4 ∷ None ∷ None ∷ [])
refused_begins_nothing = (refl, refl)

-- ---- what is not legal

different : true ≡ false → ⊥
different e = cc

pub lane_too_high : Legal 2 (Post 2 small ∷ []) → ⊥
lane_too_high legal = omega (arith, legal.2.0)

pub gap_of_no_lane : Legal 2 (Gap 2 ∷ []) → ⊥
gap_of_no_lane legal = omega (arith, legal.2)

pub behind_the_end : Legal 2 (Gap 0 ∷ End ∷ []) → ⊥
behind_the_end legal = different legal.1

pub wrong_reply : Legal 2 (Order (Clear One) Done ∷ []) → ⊥
wrong_reply legal = different (ap is_done legal.2)

pub step_of_nothing : Legal 2 (Tick (note_of 0 0 None None 0) ∷ []) → ⊥
step_of_nothing legal = omega (arith, legal.2.low)

pub step_too_long : Legal 2 (Tick (note_of 32 32 None None 0) ∷ []) → ⊥
step_too_long legal = omega (arith, legal.2.high)

pub wrong_total : Legal 2 (Tick (note_of 2 1 None None 0) ∷ []) → ⊥
wrong_total legal = omega (arith, legal.2.total)

pub nothing_taken : Legal 2 (Tick (note_of 1 1 None None 3) ∷ before_first) → ⊥
nothing_taken legal = none-some (record { lane = 0; serial = 1 }) (legal.2.takes One)

pub wrong_wait : Legal 2 (Tick (note_of 1 1 (took 0 1) None 3) ∷ before_first) → ⊥
wrong_wait legal = let wrong : 3 ≡ 2 = legal.2.waits in omega arith

-- what was not there to take, and in a place where no lane stands
pub taken_of_nothing : Legal 2 (Tick (note_of 1 1 (took 0 1) None 0) ∷ []) → ⊥
taken_of_nothing legal = none-some (record { lane = 0; serial = 1 }) (sym (legal.2.takes One))

-- a picture that is no valid picture: TR 32
abbrev unfit : Picture
unfit = record { tr = 32; groups = grey.groups }

pub unfit_picture : Legal 2 (Post 0 unfit ∷ []) → ⊥
unfit_picture legal = omega (arith, legal.2.1.valid.so_far.tr)

-- a step that is not legal is not made so by those behind it
pub illegal_below : Legal 2 (Gap 0 ∷ Gap 2 ∷ []) → ⊥
illegal_below legal = omega (arith, legal.0.2)
