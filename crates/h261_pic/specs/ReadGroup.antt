-- Inner contracts alone use this; nothing here has to be believed.
-- A group of a picture as it was read.
use Rattle.std.specs.Prelude.{◌≡◌, ℕ, ◌+◌, ◌≤◌, Bool, true, List, length, drop, Result, Ok, Err, None, All}
use Rattle.pel_model.specs.declared.Fault.{Fault}
use Rattle.pel_model.specs.declared.Format.{Format}
use Rattle.pel_model.specs.declared.Mark.{Mark}
use Rattle.pel_model.specs.Marks.{macroblock_marks}
use Rattle.pel_model.specs.Records.{Macroblock}
use Rattle.pel_model.specs.Headers.{group_header_length}
use Rattle.pel_model.specs.Text.{macroblocks_text}
use Rattle.pel_model.specs.Walk.{Good, skipped, after, Goes}
use Rattle.pel_model.specs.Grammar.{Element, Gbsc, begun as begun_before, group as group_before, slot, may_end, next_within_limit}
use Rattle.picture_laws.specs.SoFar.{IsGroupSoFar}
use Rattle.h261_pic.specs.declared.group.SentGroup.{SentGroup}
use Rattle.h261_pic.specs.Coded.{placed}
use Rattle.h261_pic.specs.Reached.{MeetsFault, Follows}
use Rattle.h261_pic.specs.Adding.{bits_at}

-- behind these elements, at `from`, the start code of a group was taken; group `last` came before, and this is the one
-- with the number `begun` in the order in which they are sent
pub record GroupComes (format : Format) (bits : List Bool) (last begun : ℕ) (before : List Element) (from r : List Bool × ℕ) : Type 0 where
  pub due : may_end (slot before) ≡ true
  pub size : ℕ
  pub starts : next_within_limit format before from ≡ Good Gbsc size
  pub behind : r ≡ skipped size from
  pub last_is : group_before before ≡ last
  pub begun_is : begun_before before + 1 ≡ begun
  pub place : from.0 ≡ drop from.1 bits

-- a group was read: these macroblocks stand at the marks, and the elements are good; behind them stands what follows
pub record IsGroupRead (format : Format) (bits : List Bool) (before : List Element) (from : List Bool × ℕ) (number quant : ℕ) (marks : List Mark) (another : Bool) (new : List Bool × ℕ) : Type 0 where
  pub macroblocks : List Macroblock
  pub es : List Element
  pub end : List Bool × ℕ
  pub walk : Goes (next_within_limit format) before from es end
  pub so_far : IsGroupSoFar format before number quant macroblocks es
  pub begun_is : begun_before (after before es) ≡ begun_before before + 1
  pub bits_are : bits_at bits marks ≡ macroblocks_text None macroblocks
  pub marks_are : (at : ℕ) → placed at number marks ≡ macroblock_marks at number quant None macroblocks
  pub inside : All (λ (m : Mark). m.at + m.len ≤ length bits) marks
  pub long : from.1 + group_header_length + length (macroblocks_text None macroblocks) ≤ end.1
  pub follows : Follows (next_within_limit format (after before es) end) another end new

-- a group was read; or good elements were, and what stands behind them is at fault
abbrev pub GroupIsReadOrFails : Format → List Bool → List Element → List Bool × ℕ → Result SentGroup Fault → List Bool × ℕ → Type 0
GroupIsReadOrFails format bits before from (Ok g) new =
    IsGroupRead format bits before from g.header.number g.header.quant g.marks.items g.another new
GroupIsReadOrFails format bits before from (Err f) new = MeetsFault format before f from
