-- The report: a line for each event, ended by LF. Its numbers stand in decimal; the events are numbered from 1.
use Rattle.std.specs.Prelude.{ℕ, ◌+◌, ◌++◌, List, [], ◌∷◌, length, decimal, codes, sum_by, count_by, None}
use Rattle.pel_model.specs.declared.Format.{Format}
use Rattle.pel_model.specs.declared.Why.{Why}
use Rattle.pel_model.specs.declared.Why.TheVariants.{NoStart, WrongFormat, StillImage, BadGroup, BadQuant, TooLong, NoCode}
use Rattle.pel_model.specs.declared.Why.TheVariants.{Cut, BadAddress, BadVector, VectorOutside, BadDc, BadLevel, TooMany}
use Rattle.pel_model.specs.Codes.{is_intra}
use Rattle.pel_model.specs.Records.{Macroblock, Group, Picture}
use Rattle.pel_model.specs.Refresh.{sent_macroblocks}
use Rattle.pel_model.specs.Text.{text}
use Rattle.rtp_h261.specs.Events.{Event, Lost, Shown, Refused}
use Rattle.rtp_h261.specs.Tellers.{Duty}

-- why a unit is no picture
abbrev pub why_name : Why → List ℕ
why_name NoStart = codes "NoStart"
why_name WrongFormat = codes "WrongFormat"
why_name StillImage = codes "StillImage"
why_name BadGroup = codes "BadGroup"
why_name BadQuant = codes "BadQuant"
why_name TooLong = codes "TooLong"
why_name NoCode = codes "NoCode"
why_name Cut = codes "Cut"
why_name BadAddress = codes "BadAddress"
why_name BadVector = codes "BadVector"
why_name VectorOutside = codes "VectorOutside"
why_name BadDc = codes "BadDc"
why_name BadLevel = codes "BadLevel"
why_name TooMany = codes "TooMany"

-- how many macroblocks are Intra
abbrev pub intra_macroblocks : Picture → ℕ
intra_macroblocks picture =
    sum_by (λ (g : Group). count_by (λ (m : Macroblock). is_intra m.kind) g.macroblocks) picture.groups

-- the number of the event, TR, the length of the strict text, the macroblocks that are sent, and those that are Intra
unfoldable pub numbers_line : (n tr bits macroblocks intra : ℕ) → List ℕ
numbers_line n tr bits macroblocks intra =
    codes "picture " ++ decimal n
    ++ codes " tr " ++ decimal tr
    ++ codes " bits " ++ decimal bits
    ++ codes " macroblocks " ++ decimal macroblocks
    ++ codes " intra " ++ decimal intra
    ++ codes "\n"

abbrev pub picture_line : Format → (n : ℕ) → Picture → List ℕ
picture_line format n picture =
    numbers_line n picture.tr (length (text format picture)) (sent_macroblocks picture) (intra_macroblocks picture)

abbrev pub event_line : Format → (n : ℕ) → Event → List ℕ
event_line format n Lost = codes "gap " ++ decimal n ++ codes " lost\n"
event_line format n (Shown picture) = picture_line format n picture
event_line format n (Refused place why) =
    codes "gap " ++ decimal n ++ codes " " ++ why_name why ++ codes " at " ++ decimal place ++ codes "\n"

-- the lines of events, the first of which has this number
abbrev pub event_lines : Format → (n : ℕ) → List Event → List (List ℕ)
event_lines format n [] = []
event_lines format n (event ∷ events) = event_line format n event ∷ event_lines format (n + 1) events

abbrev pub lines : Format → List Event → List (List ℕ)
lines format events = event_lines format 1 events

-- what is to be written by the report
abbrev pub report_duty : Format → Duty
report_duty format = record { format = format; pieces = event_lines format; counts = None }
