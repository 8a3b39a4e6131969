-- Worked values of the definitions, octet by octet, as another program makes them.
use Rattle.std.proofs.Common.{◌≡◌, ℕ, true, false, [], ◌∷◌, ◌++◌, length, take, drop, map, codes, refl}
use Rattle.pel_bits.specs.Bits.{field as wire_field, number}
use Rattle.pel_model.specs.Bits.{field}
use Rattle.pel_model.specs.Headers.{group_header_text, picture_header_text}
use Rattle.pel_model.specs.declared.Quad.TheVariants.{One, Two, Three, Four}
use Rattle.pel_model.specs.declared.chair.Command.TheVariants.{Place, Speaker}
use Rattle.conf_file.specs.Entries.{Chair}
use Rattle.conf_make.specs.Draws.{next_state, draw, state_after}
use Rattle.conf_make.specs.Made.{is_grey, tr_at, sent, behind_lane, spoken, behind_spoken, tick_entries, behind_tick, all_ticks, placed_lanes, made, entry_of}
use Rattle.conf_make.specs.Packets.{packed_octets, made_packet}
use Rattle.conf_make.specs.Pictures.{repeated, grey_macroblock, grey_group, grey_picture, macroblock, drawn_group, behind_group, drawn_picture, behind_picture}

first_draws : draw (next_state 1) ∷ draw (next_state (next_state 1)) ∷ [] ≡ 908834774 ∷ 1093944153 ∷ []
unfolding next_state
first_draws = refl

-- the places alone
without_ticks : made 1 0 1 ≡ codes "H261CONF" ++ 1 ∷ 1 ∷ 67 ∷ 9 ∷ codes "place 1 0" ++ 69 ∷ []
unfolding placed_lanes
without_ticks = refl

-- lane 0 at tick 2, for seed 7 and two lanes
second_tick : map entry_of (sent 2 0 (state_after 2 7)) ≡ (80 ∷ 0 ∷ 0 ∷ 36 ∷ 128 ∷ 159 ∷ 0 ∷ 1 ∷ 0 ∷ 0 ∷ 70 ∷ 98 ∷ 0 ∷ 0 ∷ 0 ∷ 0 ∷ 25 ∷ 0
    ∷ 0 ∷ 0 ∷ 0 ∷ 1 ∷ 3 ∷ 6 ∷ 0 ∷ 1 ∷ 20 ∷ 39 ∷ 0 ∷ 1 ∷ 52 ∷ 58 ∷ 174 ∷ 170 ∷ 112 ∷ 0 ∷ 21 ∷ 66 ∷ 121 ∷ 192 ∷ []) ∷ []
unfolding next_state sent made_packet packed_octets drawn_picture drawn_group behind_group macroblock wire_field field number group_header_text picture_header_text
second_tick = refl

-- a packet that is lost
lost_packet : sent 2 0 17 ≡ []
unfolding next_state sent
lost_packet = refl

-- ---- grey pictures, and when they come

-- a macroblock that is all grey
grey_bits : grey_macroblock ≡ (true ∷ false ∷ false ∷ false ∷ true ∷ true ∷ true ∷ true ∷ true ∷ true ∷ true ∷ true ∷ true ∷ true ∷ false
    ∷ true ∷ true ∷ true ∷ true ∷ true ∷ true ∷ true ∷ true ∷ true ∷ false ∷ true ∷ true ∷ true ∷ true ∷ true ∷ true ∷ true ∷ true ∷ true
    ∷ false ∷ true ∷ true ∷ true ∷ true ∷ true ∷ true ∷ true ∷ true ∷ true ∷ false ∷ true ∷ true ∷ true ∷ true ∷ true ∷ true ∷ true
    ∷ true ∷ true ∷ false ∷ true ∷ true ∷ true ∷ true ∷ true ∷ true ∷ true ∷ true ∷ true ∷ false ∷ [])
unfolding grey_macroblock repeated
grey_bits = refl

-- a grey picture of TR 3: its length, its first bits and its last
grey_ends : (length (grey_picture 3) ≡ 6545)
    × (take 70 (grey_picture 3) ≡ false ∷ false ∷ false ∷ false ∷ false ∷ false ∷ false ∷ false ∷ false ∷ false ∷ false ∷ false ∷ false
    ∷ false ∷ false ∷ true ∷ false ∷ false ∷ false ∷ false ∷ false ∷ false ∷ false ∷ true ∷ true ∷ false ∷ false ∷ false ∷ false
    ∷ true ∷ true ∷ false ∷ false ∷ false ∷ false ∷ false ∷ false ∷ false ∷ false ∷ false ∷ false ∷ false ∷ false ∷ false ∷ false
    ∷ false ∷ false ∷ true ∷ false ∷ false ∷ false ∷ true ∷ false ∷ true ∷ false ∷ false ∷ false ∷ false ∷ true ∷ false ∷ false
    ∷ false ∷ true ∷ true ∷ true ∷ true ∷ true ∷ true ∷ true ∷ true ∷ [])
    × (drop 6533 (grey_picture 3) ≡ true ∷ false ∷ true ∷ true ∷ true ∷ true ∷ true ∷ true ∷ true ∷ true ∷ true ∷ false ∷ [])
unfolding grey_picture grey_group grey_macroblock repeated field group_header_text picture_header_text wire_field number
grey_ends = (refl, refl, refl)

-- at these ticks these lanes send a grey picture, or do not
greys : map (λ (t : ℕ × ℕ). is_grey t.0 t.1) ((1, 0) ∷ (1, 15) ∷ (2, 0) ∷ (2, 18) ∷ (2, 19) ∷ (3, 17) ∷ (3, 18) ∷ (20, 0) ∷ (20, 1)
    ∷ (21, 0) ∷ (21, 1) ∷ (40, 1) ∷ (41, 0) ∷ [])
    ≡ true ∷ true ∷ false ∷ false ∷ true ∷ false ∷ true ∷ false ∷ true ∷ true ∷ false ∷ true ∷ true ∷ []
greys = refl

trs : map tr_at (1 ∷ 10 ∷ 11 ∷ 12 ∷ 32 ∷ 65536 ∷ [])
    ≡ 3 ∷ 30 ∷ 1 ∷ 4 ∷ 0 ∷ 0 ∷ []
trs = refl

-- ---- places and speakers

-- as many places as there are lanes, four at most
places : map placed_lanes (0 ∷ 1 ∷ 3 ∷ 4 ∷ 16 ∷ [])
    ≡ [] ∷ (Chair (Place One 0) ∷ []) ∷ (Chair (Place One 0) ∷ Chair (Place Two 1) ∷ Chair (Place Three 2) ∷ [])
    ∷ (Chair (Place One 0) ∷ Chair (Place Two 1) ∷ Chair (Place Three 2) ∷ Chair (Place Four 3) ∷ [])
    ∷ (Chair (Place One 0) ∷ Chair (Place Two 1) ∷ Chair (Place Three 2) ∷ Chair (Place Four 3) ∷ []) ∷ []
unfolding placed_lanes
places = refl

-- a speaker at each twenty-fifth tick alone
speakers : spoken 16 25 7 ∷ spoken 5 50 7 ∷ spoken 16 24 7 ∷ spoken 16 26 7 ∷ []
    ≡ (Chair (Speaker 14) ∷ []) ∷ (Chair (Speaker 3) ∷ []) ∷ [] ∷ [] ∷ []
unfolding next_state spoken
speakers = refl

behind_speakers : behind_spoken 25 7 ∷ behind_spoken 24 7 ∷ [] ≡ 9098160460397411210 ∷ 7 ∷ []
unfolding next_state behind_spoken
behind_speakers = refl

-- ticks 24 and 25 of three lanes, one packet of which is lost, with a speaker, and where the generator stands behind them
two_ticks : map entry_of (all_ticks 2 3 24 4) ≡ (
    (80 ∷ 0 ∷ 0 ∷ 34 ∷ 128 ∷ 159 ∷ 0 ∷ 23 ∷ 0 ∷ 3 ∷ 76 ∷ 152 ∷ 0 ∷ 0 ∷ 0 ∷ 0 ∷ 1 ∷ 0 ∷ 0 ∷ 0 ∷ 0 ∷ 1 ∷ 4 ∷ 6 ∷ 0 ∷ 1 ∷ 20 ∷ 0 ∷ 0 ∷ 77
    ∷ 9 ∷ 231 ∷ 0 ∷ 1 ∷ 84 ∷ 39 ∷ 159 ∷ 174 ∷ [])
    ∷ (80 ∷ 1 ∷ 0 ∷ 37 ∷ 128 ∷ 159 ∷ 0 ∷ 23 ∷ 0 ∷ 3 ∷ 76 ∷ 152 ∷ 0 ∷ 0 ∷ 0 ∷ 1 ∷ 25 ∷ 0 ∷ 0 ∷ 0 ∷ 0 ∷ 1 ∷ 4 ∷ 6 ∷ 0 ∷ 1 ∷ 20 ∷ 58 ∷ 238
    ∷ 187 ∷ 170 ∷ 0 ∷ 1 ∷ 52 ∷ 39 ∷ 234 ∷ 167 ∷ 0 ∷ 1 ∷ 84 ∷ 0 ∷ [])
    ∷ (80 ∷ 2 ∷ 0 ∷ 36 ∷ 128 ∷ 159 ∷ 0 ∷ 23 ∷ 0 ∷ 3 ∷ 76 ∷ 152 ∷ 0 ∷ 0 ∷ 0 ∷ 2 ∷ 25 ∷ 0 ∷ 0 ∷ 0 ∷ 0 ∷ 1 ∷ 4 ∷ 6 ∷ 0 ∷ 1 ∷ 20 ∷ 39 ∷ 235
    ∷ 128 ∷ 0 ∷ 77 ∷ 9 ∷ 250 ∷ 160 ∷ 0 ∷ 21 ∷ 66 ∷ 121 ∷ 192 ∷ [])
    ∷ (84 ∷ 3 ∷ [])
    ∷ (80 ∷ 1 ∷ 0 ∷ 33 ∷ 128 ∷ 159 ∷ 0 ∷ 24 ∷ 0 ∷ 3 ∷ 111 ∷ 201 ∷ 0 ∷ 0 ∷ 0 ∷ 1 ∷ 17 ∷ 0 ∷ 0 ∷ 0 ∷ 0 ∷ 1 ∷ 5 ∷ 134 ∷ 0 ∷ 1 ∷ 20 ∷ 0 ∷ 0
    ∷ 77 ∷ 14 ∷ 168 ∷ 0 ∷ 5 ∷ 80 ∷ 158 ∷ 112 ∷ [])
    ∷ (80 ∷ 2 ∷ 0 ∷ 33 ∷ 128 ∷ 159 ∷ 0 ∷ 24 ∷ 0 ∷ 3 ∷ 111 ∷ 201 ∷ 0 ∷ 0 ∷ 0 ∷ 2 ∷ 1 ∷ 0 ∷ 0 ∷ 0 ∷ 0 ∷ 1 ∷ 5 ∷ 134 ∷ 0 ∷ 1 ∷ 20 ∷ 0 ∷ 0
    ∷ 77 ∷ 14 ∷ 187 ∷ 174 ∷ 0 ∷ 1 ∷ 84 ∷ 39 ∷ [])
    ∷ (67 ∷ 9 ∷ 115 ∷ 112 ∷ 101 ∷ 97 ∷ 107 ∷ 101 ∷ 114 ∷ 32 ∷ 50 ∷ [])
    ∷ (84 ∷ 3 ∷ []) ∷ [])
unfolding next_state sent behind_lane spoken behind_spoken tick_entries behind_tick made_packet packed_octets drawn_picture behind_picture drawn_group behind_group
    macroblock wire_field field number group_header_text picture_header_text
two_ticks = refl

behind_two_ticks : behind_tick 3 25 (behind_tick 3 24 4) ≡ 14520269274227938447
unfolding next_state behind_lane behind_spoken behind_tick behind_picture behind_group
behind_two_ticks = refl
