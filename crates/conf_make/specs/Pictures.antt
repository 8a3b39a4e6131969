-- The pictures of a made conference: QCIF, with quantiser 8 in all three groups (H.261, 4.2). What is drawn is drawn in the
-- order in which it is sent; `state` is that of the generator before the first draw.
use Rattle.std.specs.Prelude.{ℕ, zero, suc, ◌/◌, ◌%◌, ◌==◌, Bool, if◌then◌else◌, List, [], ◌∷◌, ◌++◌, codes}
use Rattle.pel_model.specs.declared.Format.TheVariants.{Qcif}
use Rattle.pel_model.specs.Bits.{is_odd}
use Rattle.pel_model.specs.Codes.{word}
use Rattle.pel_model.specs.Text.{picture_header, group_header}
use Rattle.conf_make.specs.Draws.{next_state, draw, state_after}

-- so many times the same bits
unfoldable pub repeated : ℕ → List Bool → List Bool
repeated zero bits = []
repeated (suc count) bits = bits ++ repeated count bits

-- ---- a grey picture: each macroblock Intra, each block with INTRADC 11111111 alone, which is grey of 128

-- MBA 1, MTYPE Intra, and six blocks of INTRADC and EOB
unfoldable pub grey_macroblock : List Bool
grey_macroblock = word (codes "1") ++ word (codes "0001") ++ repeated 6 (word (codes "11111111") ++ word (codes "10"))

unfoldable pub grey_group : ℕ → List Bool
grey_group number = group_header number 8 ++ repeated 33 grey_macroblock

unfoldable pub grey_picture : (tr : ℕ) → List Bool
grey_picture tr = picture_header Qcif tr ++ grey_group 1 ++ grey_group 3 ++ grey_group 5

-- ---- a drawn picture: few macroblocks, one behind the other from the first of each group on

-- By a draw that is even: MBA 1, MTYPE Inter, CBP 32, and in the first block one coefficient, run 0 and level 1, with the sign
-- by the draw's next bit, and EOB. By one that is odd: MBA 1, MTYPE MC+FIL, and the vector (0, 0).
unfoldable pub macroblock : ℕ → List Bool
macroblock drawn =
    if drawn % 2 == 0
    then word (codes "1") ++ word (codes "1") ++ word (codes "1010") ++ word (codes "1") ++ is_odd (drawn / 2) ∷ word (codes "10")
    else word (codes "1") ++ word (codes "001") ++ word (codes "1") ++ word (codes "1")

-- so many of them, each by its own draw
abbrev pub macroblocks : ℕ → (state : ℕ) → List Bool
macroblocks zero state = []
macroblocks (suc count) state = macroblock (draw (next_state state)) ++ macroblocks count (next_state state)

-- a group has up to three, by a draw
abbrev pub count : (state : ℕ) → ℕ
count state = draw (next_state state) % 4

unfoldable pub drawn_group : ℕ → (state : ℕ) → List Bool
drawn_group number state = group_header number 8 ++ macroblocks (count state) (next_state state)

unfoldable pub behind_group : (state : ℕ) → ℕ
behind_group state = state_after (count state) (next_state state)

unfoldable pub drawn_picture : (tr state : ℕ) → List Bool
drawn_picture tr state =
    picture_header Qcif tr ++ drawn_group 1 state ++ drawn_group 3 (behind_group state) ++ drawn_group 5 (behind_group (behind_group state))

unfoldable pub behind_picture : (state : ℕ) → ℕ
behind_picture state = behind_group (behind_group (behind_group state))
