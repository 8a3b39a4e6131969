-- The lines in which a conference file's history is told. A line has the place of its entry in the file, its words, and LF.
-- Numbers stand in decimal; lanes are counted from 0, places of the screen from 1, and serials from 1.
use Rattle.std.specs.Prelude.{ℕ, zero, suc, ◌+◌, ◌/◌, ◌%◌, ◌^◌, ◌==◌, Bool, true, false, if◌then◌else◌, Option, None, Some, List, [], ◌∷◌, ◌++◌, length, decimal, codes}
use Rattle.bridge_replay.specs.declared.idle.Idle.{Idle}
use Rattle.bridge_replay.specs.declared.idle.Idle.TheVariants.{Unusable, Repeated, Late}
use Rattle.chair_words.specs.Line.{line_saying}
use Rattle.pel_model.specs.declared.chair.Command.{Command}
use Rattle.pel_model.specs.declared.chair.Reply.{Reply}
use Rattle.pel_model.specs.declared.chair.Reply.TheVariants.{Done, NoLane, SamePlace, AllPinned}
use Rattle.pel_model.specs.declared.Format.TheVariants.{Qcif}
use Rattle.pel_model.specs.declared.note.Take.{Take}
use Rattle.pel_model.specs.declared.note.TickNote.{TickNote}
use Rattle.pel_model.specs.declared.Why.{Why}
use Rattle.pel_model.specs.declared.Why.TheVariants.{NoStart, WrongFormat, StillImage, BadGroup, BadQuant, TooLong, NoCode}
use Rattle.pel_model.specs.declared.Why.TheVariants.{Cut, BadAddress, BadVector, VectorOutside, BadDc, BadLevel, TooMany}
use Rattle.pel_model.specs.Refresh.{sent_macroblocks, is_refresh}
use Rattle.pel_model.specs.Text.{text}
use Rattle.rtp_h261.specs.Events.{Event, Lost, Shown, Refused}

abbrev pub line : (place : ℕ) → (words : List ℕ) → List ℕ
line place words = decimal place ++ codes " " ++ words ++ codes "\n"

-- ---- packets

abbrev pub idle_name : Idle → List ℕ
idle_name Unusable = codes "unusable"
idle_name Repeated = codes "repeated"
idle_name Late = codes "late"

-- a packet of a lane that gave nothing, and why
unfoldable pub idle_line : (place lane : ℕ) → Idle → List ℕ
idle_line place lane idle = line place (codes "packet lane " ++ decimal lane ++ codes " " ++ idle_name idle)

-- why a unit is no picture
abbrev pub reason : Why → List ℕ
reason NoStart = codes "NoStart"
reason WrongFormat = codes "WrongFormat"
reason StillImage = codes "StillImage"
reason BadGroup = codes "BadGroup"
reason BadQuant = codes "BadQuant"
reason TooLong = codes "TooLong"
reason NoCode = codes "NoCode"
reason Cut = codes "Cut"
reason BadAddress = codes "BadAddress"
reason BadVector = codes "BadVector"
reason VectorOutside = codes "VectorOutside"
reason BadDc = codes "BadDc"
reason BadLevel = codes "BadLevel"
reason TooMany = codes "TooMany"

abbrev pub kind_name : (refresh : Bool) → List ℕ
kind_name true = codes "refresh"
kind_name false = codes "change"

-- a step of a lane, with its serial there
abbrev pub with_serial : List ℕ → (lane serial : ℕ) → List ℕ
with_serial name lane serial = name ++ codes " lane " ++ decimal lane ++ codes " serial " ++ decimal serial ++ codes " "

-- packets are missing
unfoldable pub lost_line : (place lane serial : ℕ) → List ℕ
lost_line place lane serial = line place (with_serial (codes "gap") lane serial ++ codes "lost")

-- a unit is no picture: why, and the bit at which its first fault stands
unfoldable pub refused_line : (place lane serial bit : ℕ) → Why → List ℕ
refused_line place lane serial bit why =
    line place (with_serial (codes "gap") lane serial ++ reason why ++ codes " at " ++ decimal bit)

unfoldable pub size_words : (bits macroblocks : ℕ) → List ℕ
size_words bits macroblocks = codes " bits " ++ decimal bits ++ codes " macroblocks " ++ decimal macroblocks

-- a picture: whether it is a refresh, the length of its strict text, and the macroblocks that it sends
unfoldable pub shown_line : (place lane serial : ℕ) → (refresh : Bool) → (bits macroblocks : ℕ) → List ℕ
shown_line place lane serial refresh bits macroblocks =
    line place (with_serial (codes "picture") lane serial ++ kind_name refresh ++ size_words bits macroblocks)

abbrev pub line_of_event : (place lane serial : ℕ) → Event → List ℕ
line_of_event place lane serial Lost = lost_line place lane serial
line_of_event place lane serial (Shown p) =
    shown_line place lane serial (is_refresh Qcif p) (length (text Qcif p)) (sent_macroblocks p)
line_of_event place lane serial (Refused bit why) = refused_line place lane serial bit why

-- the lines of what happens in a lane, where the first has this serial
abbrev pub lines_of_events : (place lane serial : ℕ) → List Event → List (List ℕ)
lines_of_events place lane serial [] = []
lines_of_events place lane serial (event ∷ events) =
    line_of_event place lane serial event ∷ lines_of_events place lane (serial + 1) events

-- ---- the chair, ticks and the end

abbrev pub reply_name : Reply → List ℕ
reply_name Done = codes "Done"
reply_name NoLane = codes "NoLane"
reply_name SamePlace = codes "SamePlace"
reply_name AllPinned = codes "AllPinned"

-- a command as a line of the chair says it, and its answer
unfoldable pub command_line : (place : ℕ) → Command → Reply → List ℕ
command_line place command reply =
    line place (codes "command " ++ line_saying command ++ codes " " ++ reply_name reply)

-- what a place took: the lane and the serial of its picture
abbrev pub take_words : Option Take → List ℕ
take_words None = codes " -"
take_words (Some take) = codes " " ++ decimal take.lane ++ codes ":" ++ decimal take.serial

-- lane n, where its bit is set
abbrev pub lane_words : (n : ℕ) → (waiting : ℕ) → List ℕ
lane_words n waiting = if waiting / 2 ^ n % 2 == 1 then codes " " ++ decimal n else []

-- the lanes below n among those that are waited for
abbrev pub waited_below : (n : ℕ) → (waiting : ℕ) → List ℕ
waited_below zero waiting = []
waited_below (suc n) waiting = waited_below n waiting ++ lane_words n waiting

abbrev pub waiting_words : (waiting : ℕ) → List ℕ
waiting_words waiting = if waiting == 0 then codes " -" else waited_below 16 waiting

-- the step, the sum of all steps so far, what the four places took, and for which lanes the conference waits
unfoldable pub tick_line : (place : ℕ) → TickNote → List ℕ
tick_line place note =
    line place (codes "tick step " ++ decimal note.step ++ codes " total " ++ decimal note.total ++ codes " taken"
    ++ take_words note.taken_one ++ take_words note.taken_two ++ take_words note.taken_three
    ++ take_words note.taken_four ++ codes " waiting" ++ waiting_words note.waiting)

unfoldable pub end_line : (place : ℕ) → List ℕ
end_line place = line place (codes "end")
