-- What a macroblock's samples are predicted from (H.261, 3.2.1 to 3.2.3): the samples of the frame before that its vector
-- refers to, filtered where its kind says so; nothing where it is Intra.
use Rattle.std.specs.Prelude.{ℕ, ◌+◌, ◌-◌, ◌*◌, ◌/◌, ◌%◌, ◌==◌, ◌||◌, Bool, true, false, ℤ, pos, negsuc, if◌then◌else◌}
use Rattle.pel_model.specs.declared.MbKind.{MbKind}
use Rattle.pel_model.specs.declared.MbKind.TheVariants.{McFil, McFilCoded, McFilQuant}
use Rattle.pel_model.specs.Codes.{is_intra}
use Rattle.pel_model.specs.Frames.{Frame, ratio}
use Rattle.pel_model.specs.Records.{Macroblock}

-- the kinds of MTYPE that say FIL (4.2.3.2)
abbrev pub has_filter : MbKind → Bool
has_filter McFil = true
has_filter McFilCoded = true
has_filter McFilQuant = true
has_filter _ = false

-- a column or row moved by a component of the vector, which in a colour plane is halved towards zero (3.2.2)
abbrev pub moved_by : (ratio : ℕ) → (component : ℤ) → ℕ → ℕ
moved_by ratio (pos n) i = i + n / ratio
moved_by ratio (negsuc n) i = i - (n + 1) / ratio

abbrev pub displaced : Frame → Macroblock → Frame
displaced frame m plane x y = frame plane (moved_by (ratio plane) m.across x) (moved_by (ratio plane) m.down y)

-- the loop filter in one direction (3.2.3), times 4: taps 1, 2, 1, and 0, 4, 0 at the first and the last place of a block
-- of 8 by 8
abbrev pub weighted : (ℕ → ℕ) → ℕ → ℕ
weighted line i =
    if (i % 8 == 0) || (i % 8 == 7) then 4 * line i else line (i - 1) + 2 * line i + line (i + 1)

-- in both directions, rounded once, halves up
abbrev pub filtered : (ℕ → ℕ → ℕ) → ℕ → ℕ → ℕ
filtered samples x y = (weighted (λ b. weighted (λ a. samples a b) x) y + 8) / 16

abbrev pub predicted : Frame → Macroblock → Frame
predicted frame m plane x y =
    if is_intra m.kind then 0
    else if has_filter m.kind then filtered (displaced frame m plane) x y
    else displaced frame m plane x y
