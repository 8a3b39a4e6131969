-- How long the pictures and their packets are.
use Rattle.std.proofs.Common.{◌≡◌, ℕ, zero, suc, ◌-◌, ◌*◌, ◌/◌, ◌%◌, ◌^◌, ◌<◌, ◌≤◌, ◌==◌, if◌then◌else◌, codes, Bool, true, false, List, [], ◌∷◌, ◌++◌, length, refl, ◌∙◌, ap, arith, length-append, append-nil}
use Rattle.std.proofs.Math.Nat.{suc-mul}
use Rattle.std.proofs.lemmas.List.{length-replicate}
use Rattle.pel_bits.specs.Buffer.{whole, filled_up}
use Rattle.pel_bits.specs.Reading.{zeros}
use Rattle.pel_model.specs.declared.Format.TheVariants.{Qcif}
use Rattle.pel_model.specs.Bits.{field, is_odd}
use Rattle.pel_model.specs.Codes.{word}
use Rattle.pel_model.specs.Headers.{group_header_text, picture_header_text}
use Rattle.pel_model.specs.Text.{group_header, picture_header}
use Rattle.conf_make.specs.Draws.{next_state, draw}
use Rattle.conf_make.specs.Made.{picture, is_grey, tr_at}
use Rattle.conf_make.specs.Packets.{packed_octets, made_payload, made_packet}
use Rattle.conf_make.specs.Pictures.{repeated, grey_macroblock, grey_group, grey_picture, macroblock, macroblocks, count, drawn_group, behind_group, drawn_picture}

length-header : (tr : ℕ) → length (picture_header Qcif tr) ≡ 32
unfolding field picture_header_text
length-header tr = refl

length-group_header : (number : ℕ) → length (group_header number 8) ≡ 26
unfolding field group_header_text
length-group_header number = refl

length-times : (n : ℕ) (bits : List Bool) → length (repeated n bits) ≡ n * length bits
unfolding repeated
length-times zero bits = omega arith
length-times (suc n) bits = omega (arith, length-append bits (repeated n bits), length-times n bits, suc-mul n (length bits))

length-grey : length grey_macroblock ≡ 65
unfolding grey_macroblock repeated
length-grey = refl

length-grey_group : (number : ℕ) → length (grey_group number) ≡ 2171
unfolding grey_group
length-grey_group number =
    length-append (group_header number 8) (repeated 33 grey_macroblock)
    ∙ omega (arith, length-group_header number, length-times 33 grey_macroblock, length-grey)

length-grey_picture : (tr : ℕ) → length (grey_picture tr) ≡ 6545
unfolding grey_picture
length-grey_picture tr =
    omega (
      arith,
      length-header tr,
      length-grey_group 1,
      length-grey_group 3,
      length-grey_group 5,
      length-append ((picture_header Qcif tr ++ grey_group 1) ++ grey_group 3) (grey_group 5),
      length-append (picture_header Qcif tr ++ grey_group 1) (grey_group 3),
      length-append (picture_header Qcif tr) (grey_group 1),
    )

by_parity : (even sign : Bool)
    → length (if even
    then word (codes "1") ++ word (codes "1") ++ word (codes "1010") ++ word (codes "1") ++ sign ∷ word (codes "10")
    else word (codes "1") ++ word (codes "001") ++ word (codes "1") ++ word (codes "1")) ≤ 10
by_parity true sign = omega arith
by_parity false sign = omega arith

length-macroblock : (drawn : ℕ) → length (macroblock drawn) ≤ 10
unfolding macroblock
length-macroblock drawn = by_parity (drawn % 2 == 0) (is_odd (drawn / 2))

length-macroblocks : (n state : ℕ) → length (macroblocks n state) ≤ 10 * n
length-macroblocks zero state = omega arith
length-macroblocks (suc n) state =
    omega (arith, length-append (macroblock (draw (next_state state))) (macroblocks n (next_state state)), length-macroblock (draw (next_state state)), length-macroblocks n (next_state state))

length-group : (number state : ℕ) → length (drawn_group number state) ≤ 56
unfolding drawn_group
length-group number state =
    omega (arith, length-append (group_header number 8) (macroblocks (count state) (next_state state)), length-group_header number, length-macroblocks (count state) (next_state state))

length-drawn_picture : (tr state : ℕ) → length (drawn_picture tr state) ≤ 200
unfolding drawn_picture
length-drawn_picture tr state =
    let second = behind_group state in
    let third = behind_group second in
    omega (
      arith,
      length-header tr,
      length-group 1 state,
      length-group 3 second,
      length-group 5 third,
      length-append ((picture_header Qcif tr ++ drawn_group 1 state) ++ drawn_group 3 second) (drawn_group 5 third),
      length-append (picture_header Qcif tr ++ drawn_group 1 state) (drawn_group 3 second),
      length-append (picture_header Qcif tr) (drawn_group 1 state),
    )

by_grey : (grey : Bool) (tr state : ℕ) → length (if grey then grey_picture tr else drawn_picture tr state) ≤ 6545
by_grey true tr state = omega (arith, length-grey_picture tr)
by_grey false tr state = omega (arith, length-drawn_picture tr state)

pub length-picture : (tick lane state : ℕ) → length (picture tick lane state) ≤ 6545
length-picture tick lane state = by_grey (is_grey tick lane) (tr_at tick) state

length-packed : (bits : List Bool) → 8 * length (packed_octets bits) ≤ length bits
unfolding packed_octets
length-packed (a ∷ b ∷ c ∷ d ∷ e ∷ f ∷ g ∷ h ∷ bits) = omega (arith, length-packed bits)
length-packed [] = omega arith
length-packed (a ∷ []) = omega arith
length-packed (a ∷ b ∷ []) = omega arith
length-packed (a ∷ b ∷ c ∷ []) = omega arith
length-packed (a ∷ b ∷ c ∷ d ∷ []) = omega arith
length-packed (a ∷ b ∷ c ∷ d ∷ e ∷ []) = omega arith
length-packed (a ∷ b ∷ c ∷ d ∷ e ∷ f ∷ []) = omega arith
length-packed (a ∷ b ∷ c ∷ d ∷ e ∷ f ∷ g ∷ []) = omega arith

pub length-packet : (tick lane : ℕ) (bits : List Bool) → length bits ≤ 6545 → length (made_packet tick lane bits) < 2 ^ 16
unfolding made_packet
length-packet tick lane bits short =
    omega (
      arith,
      length-packed (filled_up bits),
      length-append bits (zeros (whole (length bits) - length bits)),
      length-replicate {A = Bool} (whole (length bits) - length bits),
      ap length (append-nil (made_payload bits)),
    )
