-- How long what is sent of a macroblock can be.
use Rattle.std.specs.Prelude.{ℕ, ◌+◌, ◌*◌, ◌<◌, ◌≤◌, length, Option}
use Rattle.pel_model.specs.declared.Format.{Format}
use Rattle.pel_model.specs.Records.{Macroblock, Group}
use Rattle.pel_model.specs.Text.{macroblock_text}
use Rattle.pel_model.specs.Valid.{IsValidMacroblock, IsValidGroup, group_size}

-- the most bits of the text of a macroblock: MBA 11, MTYPE 10, MQUANT 5, MVD twice 11, CBP 9, and in each of six blocks 64
-- coefficients of 20 bits and an end of 2
abbrev pub longest_macroblock : ℕ
longest_macroblock = 11 + 10 + 5 + 2 * 11 + 9 + 6 * (64 * 20 + 2)

-- the text of a valid macroblock, behind any other of its group, has at most so many bits, and it is not empty
abbrev pub MacroblocksAreShort : Type 0
MacroblocksAreShort =
    (format : Format) (group : ℕ) (last : Option Macroblock) (m : Macroblock) → IsValidMacroblock format group m
    → (0 < length (macroblock_text last m)) × (length (macroblock_text last m) ≤ longest_macroblock)

-- a valid group has at most 33 macroblocks
abbrev pub GroupsAreShort : Type 0
GroupsAreShort = (format : Format) (g : Group) → IsValidGroup format g → length g.macroblocks ≤ group_size
