-- Worked lines of a history, octet by octet, and the lines of the worked conference.
use Rattle.std.proofs.Common.{◌≡◌, ℕ, [], ◌∷◌, Option, None, Some, true, false, map, codes, refl, arith}
use Rattle.std.specs.Fmt.{digits}
use Rattle.bridge_replay.specs.declared.idle.Idle.TheVariants.{Unusable, Repeated, Late}
use Rattle.bridge_replay.specs.Account.{idle_behind, AreLinesOf}
use Rattle.bridge_replay.specs.Lines.{idle_line, lost_line, refused_line, shown_line, size_words, command_line, tick_line, end_line, reason, lines_of_events}
use Rattle.bridge_replay.specs.Worked.{note, entries, history, file}
use Rattle.bridge_replay.proofs.WorkedReplay.{is-note}
use Rattle.conf_file.specs.Entries.{Tick as TickEntry, End as EndEntry}
use Rattle.pel_model.specs.declared.chair.Command.TheVariants.{Place, Swap, Speaker}
use Rattle.pel_model.specs.declared.chair.Reply.TheVariants.{Done, NoLane, SamePlace, AllPinned}
use Rattle.pel_model.specs.declared.note.Take.{Take}
use Rattle.pel_model.specs.declared.note.TickNote.{TickNote}
use Rattle.pel_model.specs.declared.Quad.TheVariants.{One, Two}
use Rattle.pel_model.specs.declared.Why.TheVariants.{NoStart, WrongFormat, StillImage, BadGroup, BadQuant, TooLong, NoCode, Cut, BadAddress, BadVector, VectorOutside, BadDc, BadLevel, TooMany}
use Rattle.pel_model.specs.History.{Tick}
use Rattle.rtp_h261.specs.Events.{Lost, Refused}
use Rattle.rtp_h261.specs.Units.{Piece}

-- ---- packets

idle_values : idle_line 956 1 Unusable ∷ idle_line 880 0 Repeated ∷ idle_line 915 15 Late ∷ []
    ≡ codes "956 packet lane 1 unusable\n" ∷ codes "880 packet lane 0 repeated\n" ∷ codes "915 packet lane 15 late\n" ∷ []
unfolding digits idle_line
idle_values = refl

numbered : ℕ → Option Piece
numbered n = Some (record { number = n; stamp = 0; marker = false; bits = [] })

-- the next, the same, the one before it, the last that counts, the first that is late, and round the circle
judged_values : map (λ (n : ℕ). idle_behind (numbered 10) (numbered n)) (11 ∷ 10 ∷ 9 ∷ 32778 ∷ 32779 ∷ [])
    ≡ None ∷ Some Repeated ∷ Some Late ∷ None ∷ Some Late ∷ []
unfolding numbered
judged_values = refl

round_values : map (λ (n : ℕ). idle_behind (numbered 65535) (numbered n)) (0 ∷ 65535 ∷ 32767 ∷ 32768 ∷ []) ≡ None ∷ Some Repeated ∷ None ∷ Some Late ∷ []
unfolding numbered
round_values = refl

-- before all packets none is late
first_values : idle_behind None (numbered 7) ∷ idle_behind None None ∷ idle_behind (numbered 7) None ∷ [] ≡ None ∷ Some Unusable ∷ Some Unusable ∷ []
unfolding numbered
first_values = refl

gap_values : lines_of_events 993 3 4 (Lost ∷ Refused 20 Cut ∷ []) ≡ codes "993 gap lane 3 serial 4 lost\n" ∷ codes "993 gap lane 3 serial 5 Cut at 20\n" ∷ []
unfolding digits lost_line refused_line
gap_values = refl

reason_values : map reason (NoStart ∷ WrongFormat ∷ StillImage ∷ BadGroup ∷ BadQuant ∷ TooLong ∷ NoCode ∷ Cut ∷ BadAddress ∷ BadVector ∷ VectorOutside ∷ BadDc ∷ BadLevel ∷ TooMany ∷ [])
    ≡ codes "NoStart" ∷ codes "WrongFormat" ∷ codes "StillImage" ∷ codes "BadGroup" ∷ codes "BadQuant" ∷ codes "TooLong" ∷ codes "NoCode" ∷ codes "Cut" ∷ codes "BadAddress"
    ∷ codes "BadVector" ∷ codes "VectorOutside" ∷ codes "BadDc" ∷ codes "BadLevel" ∷ codes "TooMany" ∷ []
reason_values = refl

picture_values : shown_line 41 0 1 true 6545 99 ∷ shown_line 956 0 3 false 120 1 ∷ []
    ≡ codes "41 picture lane 0 serial 1 refresh bits 6545 macroblocks 99\n" ∷ codes "956 picture lane 0 serial 3 change bits 120 macroblocks 1\n" ∷ []
unfolding digits shown_line size_words
picture_values = refl

-- ---- the chair, ticks and the end

command_values : command_line 10 (Place One 0) Done ∷ command_line 21 (Place Two 7) NoLane ∷ command_line 1080 (Speaker 12) AllPinned ∷ command_line 9 (Swap Two Two) SamePlace ∷ []
    ≡ codes "10 command place 1 0 Done\n" ∷ codes "21 command place 2 7 NoLane\n" ∷ codes "1080 command speaker 12 AllPinned\n" ∷ codes "9 command swap 2 2 SamePlace\n" ∷ []
unfolding digits command_line
command_values = refl

noted : (one two three four : Option Take) → (waits : ℕ) → TickNote
noted one two three four waits = record { step = 3; total = 34; taken_one = one; taken_two = two; taken_three = three; taken_four = four; waiting = waits }

took : (lane serial : ℕ) → Option Take
took lane serial = Some (record { lane = lane; serial = serial })

tick_values : tick_line 954 (noted (took 0 1) None (took 15 20) None 0) ∷ tick_line 7 (noted None (took 9 7) None (took 1 2) 32773) ∷ []
    ≡ codes "954 tick step 3 total 34 taken 0:1 - 15:20 - waiting -\n" ∷ codes "7 tick step 3 total 34 taken - 9:7 - 1:2 waiting 0 2 15\n" ∷ []
unfolding digits tick_line noted took
tick_values = refl

end_value : end_line 1091 ≡ codes "1091 end\n"
unfolding digits end_line
end_value = refl

-- ---- the worked conference

worked_lines : AreLinesOf file 1 entries history (codes "10 tick step 1 total 1 taken - - - - waiting -\n" ∷ codes "12 end\n" ∷ [])
unfolding digits tick_line end_line
worked_lines = (
  Tick note ∷ [],
  codes "10 tick step 1 total 1 taken - - - - waiting -\n" ∷ [],
  (
    [],
    [],
    (refl, refl),
    (note, refl, is-note, refl),
    10,
    record {
      octets = [];
      header = refl;
      lanes_fit = (omega arith, omega arith);
      begins = record { entries = []; cut = refl; spelled = tt; counted = refl };
      going_on = tt;
    },
    codes "10 tick step 1 total 1 taken - - - - waiting -\n" ∷ [],
    (note, refl, refl),
    refl,
  ),
  refl,
  12,
  record {
    octets = 84 ∷ 1 ∷ [];
    header = refl;
    lanes_fit = (omega arith, omega arith);
    begins = record { entries = (84 ∷ 1 ∷ []) ∷ []; cut = refl; spelled = ((refl, (omega arith, omega arith)), tt); counted = refl };
    going_on = (goes-on, tt);
  },
  codes "12 end\n" ∷ [],
  refl,
  refl,
)
  where
    goes-on : TickEntry 1 ≡ EndEntry → ⊥
    goes-on e = cc
