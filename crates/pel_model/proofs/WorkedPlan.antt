-- The chair's plan, worked: after each command the answer, the lanes in the four places, the places that are pinned, and the
-- lanes that spoke, newest first. The values were computed apart from these definitions.
use Rattle.std.specs.Prelude.{◌≡◌, ℕ, ◌-◌, List, [], ◌∷◌, map, filter, slice_index_or, Option, Some, None, refl}
use Rattle.std.specs.List.{list_any}
use Rattle.pel_model.specs.declared.Quad.{Quad}
use Rattle.pel_model.specs.declared.Quad.TheVariants.{One, Two, Three, Four}
use Rattle.pel_model.specs.declared.chair.Command.{Command}
use Rattle.pel_model.specs.declared.chair.Command.TheVariants.{Place, Clear, Swap, Speaker, Pin, Unpin}
use Rattle.pel_model.specs.declared.chair.Reply.{Reply}
use Rattle.pel_model.specs.declared.chair.Reply.TheVariants.{Done, NoLane, SamePlace, AllPinned}
use Rattle.pel_model.specs.Plan.{Stage, places, is_same, answer_at, ordered, stage, at, pinned, changed, speakers, answer}
use Rattle.pel_model.specs.Regions.{number_of}

-- the lanes in the four places, the pins, the speakers
abbrev Standing : Type 0
Standing = List (Option ℕ) × List Quad × List ℕ

abbrev standing : Stage → Standing
standing s = (map s.lane_in places, filter s.is_pinned places, s.speakers)

abbrev staged : Standing → Stage
staged a = record { lane_in = λ q. slice_index_or a.0 (number_of q - 1) None; is_pinned = λ q. list_any (is_same q) a.1; speakers = a.2 }

abbrev empty : Standing
empty = (None ∷ None ∷ None ∷ None ∷ [], [], [])

-- a command, and what it makes of what stood after the row before
abbrev Row : Type 0
Row = Command × Reply × Standing

abbrev outcome : Row → Reply × Standing
outcome row = (row.1, row.2)

abbrev played : ℕ → Standing → List Row → List (Reply × Standing)
played lanes before [] = []
played lanes before (row ∷ rows) =
    (answer_at lanes (staged before) row.0, standing (ordered lanes (staged before) row.0)) ∷ played lanes row.2 rows

-- Six lanes: every command, and every refusal of one.
abbrev six_lanes : List Row
six_lanes =
    (Clear One, SamePlace, (None ∷ None ∷ None ∷ None ∷ [], [], []))
    ∷ (Swap One Two, SamePlace, (None ∷ None ∷ None ∷ None ∷ [], [], []))
    ∷ (Place Three 6, NoLane, (None ∷ None ∷ None ∷ None ∷ [], [], []))
    ∷ (Speaker 6, NoLane, (None ∷ None ∷ None ∷ None ∷ [], [], []))
    ∷ (Place Two 0, Done, (None ∷ Some 0 ∷ None ∷ None ∷ [], [], []))
    ∷ (Place Two 0, SamePlace, (None ∷ Some 0 ∷ None ∷ None ∷ [], [], []))
    ∷ (Swap Two Two, SamePlace, (None ∷ Some 0 ∷ None ∷ None ∷ [], [], []))
    ∷ (Swap Two Three, Done, (None ∷ None ∷ Some 0 ∷ None ∷ [], [], []))
    ∷ (Swap One Three, Done, (Some 0 ∷ None ∷ None ∷ None ∷ [], [], []))
    ∷ (Swap Four One, Done, (None ∷ None ∷ None ∷ Some 0 ∷ [], [], []))
    ∷ (Speaker 1, Done, (Some 1 ∷ None ∷ None ∷ Some 0 ∷ [], [], 1 ∷ []))
    ∷ (Pin Two, Done, (Some 1 ∷ None ∷ None ∷ Some 0 ∷ [], Two ∷ [], 1 ∷ []))
    ∷ (Speaker 2, Done, (Some 1 ∷ None ∷ Some 2 ∷ Some 0 ∷ [], Two ∷ [], 2 ∷ 1 ∷ []))
    ∷ (Unpin Two, Done, (Some 1 ∷ None ∷ Some 2 ∷ Some 0 ∷ [], [], 2 ∷ 1 ∷ []))
    ∷ (Speaker 3, Done, (Some 1 ∷ Some 3 ∷ Some 2 ∷ Some 0 ∷ [], [], 3 ∷ 2 ∷ 1 ∷ []))
    ∷ (Speaker 4, Done, (Some 1 ∷ Some 3 ∷ Some 2 ∷ Some 4 ∷ [], [], 4 ∷ 3 ∷ 2 ∷ 1 ∷ []))
    ∷ (Speaker 1, Done, (Some 1 ∷ Some 3 ∷ Some 2 ∷ Some 4 ∷ [], [], 1 ∷ 4 ∷ 3 ∷ 2 ∷ 1 ∷ []))
    ∷ (Speaker 5, Done, (Some 1 ∷ Some 3 ∷ Some 5 ∷ Some 4 ∷ [], [], 5 ∷ 1 ∷ 4 ∷ 3 ∷ 2 ∷ 1 ∷ []))
    ∷ (Pin Two, Done, (Some 1 ∷ Some 3 ∷ Some 5 ∷ Some 4 ∷ [], Two ∷ [], 5 ∷ 1 ∷ 4 ∷ 3 ∷ 2 ∷ 1 ∷ []))
    ∷ (Pin One, Done, (Some 1 ∷ Some 3 ∷ Some 5 ∷ Some 4 ∷ [], One ∷ Two ∷ [], 5 ∷ 1 ∷ 4 ∷ 3 ∷ 2 ∷ 1 ∷ []))
    ∷ (Speaker 0, Done, (Some 1 ∷ Some 3 ∷ Some 5 ∷ Some 0 ∷ [], One ∷ Two ∷ [], 0 ∷ 5 ∷ 1 ∷ 4 ∷ 3 ∷ 2 ∷ 1 ∷ []))
    ∷ (Pin Three, Done, (Some 1 ∷ Some 3 ∷ Some 5 ∷ Some 0 ∷ [], One ∷ Two ∷ Three ∷ [], 0 ∷ 5 ∷ 1 ∷ 4 ∷ 3 ∷ 2 ∷ 1 ∷ []))
    ∷ (Pin Four, Done, (Some 1 ∷ Some 3 ∷ Some 5 ∷ Some 0 ∷ [], One ∷ Two ∷ Three ∷ Four ∷ [], 0 ∷ 5 ∷ 1 ∷ 4 ∷ 3 ∷ 2 ∷ 1 ∷ []))
    ∷ (Speaker 2, AllPinned, (Some 1 ∷ Some 3 ∷ Some 5 ∷ Some 0 ∷ [], One ∷ Two ∷ Three ∷ Four ∷ [], 0 ∷ 5 ∷ 1 ∷ 4 ∷ 3 ∷ 2 ∷ 1 ∷ []))
    ∷ (Speaker 3, Done, (Some 1 ∷ Some 3 ∷ Some 5 ∷ Some 0 ∷ [], One ∷ Two ∷ Three ∷ Four ∷ [], 3 ∷ 0 ∷ 5 ∷ 1 ∷ 4 ∷ 3 ∷ 2 ∷ 1 ∷ []))
    ∷ (Place One 3, Done, (Some 3 ∷ None ∷ Some 5 ∷ Some 0 ∷ [], One ∷ Two ∷ Three ∷ Four ∷ [], 3 ∷ 0 ∷ 5 ∷ 1 ∷ 4 ∷ 3 ∷ 2 ∷ 1 ∷ []))
    ∷ (Speaker 4, AllPinned, (Some 3 ∷ None ∷ Some 5 ∷ Some 0 ∷ [], One ∷ Two ∷ Three ∷ Four ∷ [], 3 ∷ 0 ∷ 5 ∷ 1 ∷ 4 ∷ 3 ∷ 2 ∷ 1 ∷ []))
    ∷ (Place Two 2, Done, (Some 3 ∷ Some 2 ∷ Some 5 ∷ Some 0 ∷ [], One ∷ Two ∷ Three ∷ Four ∷ [], 3 ∷ 0 ∷ 5 ∷ 1 ∷ 4 ∷ 3 ∷ 2 ∷ 1 ∷ []))
    ∷ (Clear Two, Done, (Some 3 ∷ None ∷ Some 5 ∷ Some 0 ∷ [], One ∷ Two ∷ Three ∷ Four ∷ [], 3 ∷ 0 ∷ 5 ∷ 1 ∷ 4 ∷ 3 ∷ 2 ∷ 1 ∷ []))
    ∷ (Clear Three, Done, (Some 3 ∷ None ∷ None ∷ Some 0 ∷ [], One ∷ Two ∷ Three ∷ Four ∷ [], 3 ∷ 0 ∷ 5 ∷ 1 ∷ 4 ∷ 3 ∷ 2 ∷ 1 ∷ []))
    ∷ (Unpin Four, Done, (Some 3 ∷ None ∷ None ∷ Some 0 ∷ [], One ∷ Two ∷ Three ∷ [], 3 ∷ 0 ∷ 5 ∷ 1 ∷ 4 ∷ 3 ∷ 2 ∷ 1 ∷ []))
    ∷ (Speaker 4, Done, (Some 3 ∷ None ∷ None ∷ Some 4 ∷ [], One ∷ Two ∷ Three ∷ [], 4 ∷ 3 ∷ 0 ∷ 5 ∷ 1 ∷ 4 ∷ 3 ∷ 2 ∷ 1 ∷ []))
    ∷ (Unpin Four, Done, (Some 3 ∷ None ∷ None ∷ Some 4 ∷ [], One ∷ Two ∷ Three ∷ [], 4 ∷ 3 ∷ 0 ∷ 5 ∷ 1 ∷ 4 ∷ 3 ∷ 2 ∷ 1 ∷ []))
    ∷ (Pin One, Done, (Some 3 ∷ None ∷ None ∷ Some 4 ∷ [], One ∷ Two ∷ Three ∷ [], 4 ∷ 3 ∷ 0 ∷ 5 ∷ 1 ∷ 4 ∷ 3 ∷ 2 ∷ 1 ∷ []))
    ∷ (Unpin One, Done, (Some 3 ∷ None ∷ None ∷ Some 4 ∷ [], Two ∷ Three ∷ [], 4 ∷ 3 ∷ 0 ∷ 5 ∷ 1 ∷ 4 ∷ 3 ∷ 2 ∷ 1 ∷ []))
    ∷ (Unpin Three, Done, (Some 3 ∷ None ∷ None ∷ Some 4 ∷ [], Two ∷ [], 4 ∷ 3 ∷ 0 ∷ 5 ∷ 1 ∷ 4 ∷ 3 ∷ 2 ∷ 1 ∷ []))
    ∷ (Clear One, Done, (None ∷ None ∷ None ∷ Some 4 ∷ [], Two ∷ [], 4 ∷ 3 ∷ 0 ∷ 5 ∷ 1 ∷ 4 ∷ 3 ∷ 2 ∷ 1 ∷ []))
    ∷ (Speaker 2, Done, (Some 2 ∷ None ∷ None ∷ Some 4 ∷ [], Two ∷ [], 2 ∷ 4 ∷ 3 ∷ 0 ∷ 5 ∷ 1 ∷ 4 ∷ 3 ∷ 2 ∷ 1 ∷ []))
    ∷ (Speaker 1, Done, (Some 2 ∷ None ∷ Some 1 ∷ Some 4 ∷ [], Two ∷ [], 1 ∷ 2 ∷ 4 ∷ 3 ∷ 0 ∷ 5 ∷ 1 ∷ 4 ∷ 3 ∷ 2 ∷ 1 ∷ []))
    ∷ []

pub six_lanes_play : played 6 empty six_lanes ≡ map outcome six_lanes
six_lanes_play = refl

-- Sixteen lanes: who speaks takes the place of one who never did, the lowest first, and of no one that is pinned.
abbrev sixteen_lanes : List Row
sixteen_lanes =
    (Place One 9, Done, (Some 9 ∷ None ∷ None ∷ None ∷ [], [], []))
    ∷ (Place Two 8, Done, (Some 9 ∷ Some 8 ∷ None ∷ None ∷ [], [], []))
    ∷ (Place Three 7, Done, (Some 9 ∷ Some 8 ∷ Some 7 ∷ None ∷ [], [], []))
    ∷ (Place Four 15, Done, (Some 9 ∷ Some 8 ∷ Some 7 ∷ Some 15 ∷ [], [], []))
    ∷ (Place One 16, NoLane, (Some 9 ∷ Some 8 ∷ Some 7 ∷ Some 15 ∷ [], [], []))
    ∷ (Speaker 16, NoLane, (Some 9 ∷ Some 8 ∷ Some 7 ∷ Some 15 ∷ [], [], []))
    ∷ (Speaker 10, Done, (Some 10 ∷ Some 8 ∷ Some 7 ∷ Some 15 ∷ [], [], 10 ∷ []))
    ∷ (Pin One, Done, (Some 10 ∷ Some 8 ∷ Some 7 ∷ Some 15 ∷ [], One ∷ [], 10 ∷ []))
    ∷ (Speaker 11, Done, (Some 10 ∷ Some 11 ∷ Some 7 ∷ Some 15 ∷ [], One ∷ [], 11 ∷ 10 ∷ []))
    ∷ (Speaker 7, Done, (Some 10 ∷ Some 11 ∷ Some 7 ∷ Some 15 ∷ [], One ∷ [], 7 ∷ 11 ∷ 10 ∷ []))
    ∷ (Speaker 12, Done, (Some 10 ∷ Some 11 ∷ Some 7 ∷ Some 12 ∷ [], One ∷ [], 12 ∷ 7 ∷ 11 ∷ 10 ∷ []))
    ∷ (Speaker 13, Done, (Some 10 ∷ Some 13 ∷ Some 7 ∷ Some 12 ∷ [], One ∷ [], 13 ∷ 12 ∷ 7 ∷ 11 ∷ 10 ∷ []))
    ∷ (Swap One Four, Done, (Some 12 ∷ Some 13 ∷ Some 7 ∷ Some 10 ∷ [], One ∷ [], 13 ∷ 12 ∷ 7 ∷ 11 ∷ 10 ∷ []))
    ∷ (Speaker 14, Done, (Some 12 ∷ Some 13 ∷ Some 7 ∷ Some 14 ∷ [], One ∷ [], 14 ∷ 13 ∷ 12 ∷ 7 ∷ 11 ∷ 10 ∷ []))
    ∷ (Unpin One, Done, (Some 12 ∷ Some 13 ∷ Some 7 ∷ Some 14 ∷ [], [], 14 ∷ 13 ∷ 12 ∷ 7 ∷ 11 ∷ 10 ∷ []))
    ∷ (Speaker 9, Done, (Some 12 ∷ Some 13 ∷ Some 9 ∷ Some 14 ∷ [], [], 9 ∷ 14 ∷ 13 ∷ 12 ∷ 7 ∷ 11 ∷ 10 ∷ []))
    ∷ (Place Four 9, Done, (Some 12 ∷ Some 13 ∷ None ∷ Some 9 ∷ [], [], 9 ∷ 14 ∷ 13 ∷ 12 ∷ 7 ∷ 11 ∷ 10 ∷ []))
    ∷ []

pub sixteen_lanes_play : played 16 empty sixteen_lanes ≡ map outcome sixteen_lanes
sixteen_lanes_play = refl

-- it begins with four empty places without pins
pub it_begins_empty : standing (stage 6 []) ≡ empty
it_begins_empty = refl

-- the commands stand newest first, and a refused one changes nothing
pub commands_in_turn : standing (stage 3 (Pin Two ∷ Speaker 3 ∷ Speaker 2 ∷ Clear Four ∷ Place One 1 ∷ [])) ≡ (Some 1 ∷ Some 2 ∷ None ∷ None ∷ [], Two ∷ [], 2 ∷ [])
commands_in_turn = refl

pub what_stands : map (at 3 (Pin Two ∷ Place One 1 ∷ [])) places ≡ Some 1 ∷ None ∷ None ∷ None ∷ []
what_stands = refl

pub what_is_pinned : filter (pinned 3 (Pin Two ∷ Place One 1 ∷ [])) places ≡ Two ∷ []
what_is_pinned = refl

pub who_spoke : speakers 3 (Speaker 0 ∷ Speaker 1 ∷ []) ≡ 0 ∷ 1 ∷ []
who_spoke = refl

pub answers : answer 3 [] (Speaker 3) ∷ answer 3 (Place One 1 ∷ []) (Place One 1) ∷ answer 3 (Place One 1 ∷ []) (Place Two 1) ∷ [] ≡ NoLane ∷ SamePlace ∷ Done ∷ []
answers = refl

-- the places whose lane the last command changed
pub changes : map (λ (c : List Command). filter (changed 3 c) places)
    ([]
    ∷ (Place One 1 ∷ [])
    ∷ (Place Two 1 ∷ Place One 1 ∷ [])
    ∷ (Place One 2 ∷ Place One 1 ∷ [])
    ∷ (Place One 1 ∷ Place One 1 ∷ [])
    ∷ (Place One 3 ∷ Place One 1 ∷ [])
    ∷ (Clear One ∷ Place One 1 ∷ [])
    ∷ (Swap Three One ∷ Place One 1 ∷ [])
    ∷ (Pin One ∷ Place One 1 ∷ [])
    ∷ [])
    ≡ [] ∷ (One ∷ []) ∷ (One ∷ Two ∷ []) ∷ (One ∷ []) ∷ [] ∷ [] ∷ (One ∷ []) ∷ (One ∷ Three ∷ []) ∷ [] ∷ []
changes = refl
