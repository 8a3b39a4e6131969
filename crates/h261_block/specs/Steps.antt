-- Inner contracts alone use this; nothing here has to be believed.
-- The machine's states by number, 0 that in which a block begins and 1 that behind a coefficient, those of INTRADC from 88 on,
-- and what its steps come to over some bits. The two lists are written by bench/octets.py; the check computes the steps from
-- those of Machine.
use Rattle.std.specs.Prelude.{◌≡◌, ◌<◌, ℕ, ◌+◌, ◌*◌, ◌/◌, ◌%◌, ◌==◌, ◌&&◌, Bool, true, false, cond, List, [], ◌∷◌, drop}
use Rattle.std.specs.Prelude.{nat_lt, slice_index, slice_index_or}
use Rattle.pel_bits.specs.Bits.{field}
use Rattle.h261_block.specs.declared.octets.Cell.{Cell}
use Rattle.h261_block.specs.Machine.{Pending, First, Code, Sign, Run, Top, Level, Faulty}

abbrev pub pendings : List Pending
pendings =
    First
    ∷ Code ([])
    ∷ Code (false ∷ [])
    ∷ Sign
    ∷ Code (true ∷ [])
    ∷ Code (false ∷ false ∷ [])
    ∷ Code (false ∷ true ∷ [])
    ∷ Code (false ∷ false ∷ false ∷ [])
    ∷ Code (false ∷ false ∷ true ∷ [])
    ∷ Code (false ∷ true ∷ false ∷ [])
    ∷ Code (false ∷ false ∷ false ∷ false ∷ [])
    ∷ Code (false ∷ false ∷ false ∷ true ∷ [])
    ∷ Code (false ∷ false ∷ true ∷ false ∷ [])
    ∷ Code (false ∷ false ∷ true ∷ true ∷ [])
    ∷ Code (false ∷ false ∷ false ∷ false ∷ false ∷ [])
    ∷ Code (false ∷ false ∷ false ∷ false ∷ true ∷ [])
    ∷ Code (false ∷ false ∷ false ∷ true ∷ false ∷ [])
    ∷ Code (false ∷ false ∷ false ∷ true ∷ true ∷ [])
    ∷ Code (false ∷ false ∷ true ∷ false ∷ false ∷ [])
    ∷ Code (false ∷ false ∷ false ∷ false ∷ false ∷ false ∷ [])
    ∷ Run 6
    ∷ Code (false ∷ false ∷ false ∷ false ∷ true ∷ false ∷ [])
    ∷ Code (false ∷ false ∷ false ∷ false ∷ true ∷ true ∷ [])
    ∷ Code (false ∷ false ∷ true ∷ false ∷ false ∷ false ∷ [])
    ∷ Code (false ∷ false ∷ true ∷ false ∷ false ∷ true ∷ [])
    ∷ Code (false ∷ false ∷ false ∷ false ∷ false ∷ false ∷ false ∷ [])
    ∷ Code (false ∷ false ∷ false ∷ false ∷ false ∷ false ∷ true ∷ [])
    ∷ Run 5
    ∷ Code (false ∷ false ∷ true ∷ false ∷ false ∷ false ∷ false ∷ [])
    ∷ Code (false ∷ false ∷ true ∷ false ∷ false ∷ false ∷ true ∷ [])
    ∷ Code (false ∷ false ∷ true ∷ false ∷ false ∷ true ∷ false ∷ [])
    ∷ Code (false ∷ false ∷ true ∷ false ∷ false ∷ true ∷ true ∷ [])
    ∷ Code (false ∷ false ∷ false ∷ false ∷ false ∷ false ∷ false ∷ false ∷ [])
    ∷ Code (false ∷ false ∷ false ∷ false ∷ false ∷ false ∷ false ∷ true ∷ [])
    ∷ Code (false ∷ false ∷ false ∷ false ∷ false ∷ false ∷ true ∷ false ∷ [])
    ∷ Code (false ∷ false ∷ false ∷ false ∷ false ∷ false ∷ true ∷ true ∷ [])
    ∷ Run 4
    ∷ Faulty
    ∷ Code (false ∷ false ∷ false ∷ false ∷ false ∷ false ∷ false ∷ false ∷ true ∷ [])
    ∷ Code (false ∷ false ∷ false ∷ false ∷ false ∷ false ∷ false ∷ true ∷ false ∷ [])
    ∷ Code (false ∷ false ∷ false ∷ false ∷ false ∷ false ∷ false ∷ true ∷ true ∷ [])
    ∷ Code (false ∷ false ∷ false ∷ false ∷ false ∷ false ∷ true ∷ false ∷ false ∷ [])
    ∷ Code (false ∷ false ∷ false ∷ false ∷ false ∷ false ∷ true ∷ false ∷ true ∷ [])
    ∷ Code (false ∷ false ∷ false ∷ false ∷ false ∷ false ∷ true ∷ true ∷ false ∷ [])
    ∷ Code (false ∷ false ∷ false ∷ false ∷ false ∷ false ∷ true ∷ true ∷ true ∷ [])
    ∷ Run 3
    ∷ Code (false ∷ false ∷ false ∷ false ∷ false ∷ false ∷ false ∷ false ∷ true ∷ false ∷ [])
    ∷ Code (false ∷ false ∷ false ∷ false ∷ false ∷ false ∷ false ∷ false ∷ true ∷ true ∷ [])
    ∷ Code (false ∷ false ∷ false ∷ false ∷ false ∷ false ∷ false ∷ true ∷ false ∷ false ∷ [])
    ∷ Code (false ∷ false ∷ false ∷ false ∷ false ∷ false ∷ false ∷ true ∷ false ∷ true ∷ [])
    ∷ Code (false ∷ false ∷ false ∷ false ∷ false ∷ false ∷ false ∷ true ∷ true ∷ false ∷ [])
    ∷ Code (false ∷ false ∷ false ∷ false ∷ false ∷ false ∷ false ∷ true ∷ true ∷ true ∷ [])
    ∷ Run 2
    ∷ Code (false ∷ false ∷ false ∷ false ∷ false ∷ false ∷ false ∷ false ∷ true ∷ false ∷ false ∷ [])
    ∷ Code (false ∷ false ∷ false ∷ false ∷ false ∷ false ∷ false ∷ false ∷ true ∷ false ∷ true ∷ [])
    ∷ Code (false ∷ false ∷ false ∷ false ∷ false ∷ false ∷ false ∷ false ∷ true ∷ true ∷ false ∷ [])
    ∷ Code (false ∷ false ∷ false ∷ false ∷ false ∷ false ∷ false ∷ false ∷ true ∷ true ∷ true ∷ [])
    ∷ Code (false ∷ false ∷ false ∷ false ∷ false ∷ false ∷ false ∷ true ∷ false ∷ false ∷ false ∷ [])
    ∷ Code (false ∷ false ∷ false ∷ false ∷ false ∷ false ∷ false ∷ true ∷ false ∷ false ∷ true ∷ [])
    ∷ Code (false ∷ false ∷ false ∷ false ∷ false ∷ false ∷ false ∷ true ∷ false ∷ true ∷ false ∷ [])
    ∷ Code (false ∷ false ∷ false ∷ false ∷ false ∷ false ∷ false ∷ true ∷ false ∷ true ∷ true ∷ [])
    ∷ Code (false ∷ false ∷ false ∷ false ∷ false ∷ false ∷ false ∷ true ∷ true ∷ false ∷ false ∷ [])
    ∷ Code (false ∷ false ∷ false ∷ false ∷ false ∷ false ∷ false ∷ true ∷ true ∷ false ∷ true ∷ [])
    ∷ Code (false ∷ false ∷ false ∷ false ∷ false ∷ false ∷ false ∷ true ∷ true ∷ true ∷ false ∷ [])
    ∷ Code (false ∷ false ∷ false ∷ false ∷ false ∷ false ∷ false ∷ true ∷ true ∷ true ∷ true ∷ [])
    ∷ Run 1
    ∷ Code (false ∷ false ∷ false ∷ false ∷ false ∷ false ∷ false ∷ false ∷ true ∷ false ∷ false ∷ false ∷ [])
    ∷ Code (false ∷ false ∷ false ∷ false ∷ false ∷ false ∷ false ∷ false ∷ true ∷ false ∷ false ∷ true ∷ [])
    ∷ Code (false ∷ false ∷ false ∷ false ∷ false ∷ false ∷ false ∷ false ∷ true ∷ false ∷ true ∷ false ∷ [])
    ∷ Code (false ∷ false ∷ false ∷ false ∷ false ∷ false ∷ false ∷ false ∷ true ∷ false ∷ true ∷ true ∷ [])
    ∷ Code (false ∷ false ∷ false ∷ false ∷ false ∷ false ∷ false ∷ false ∷ true ∷ true ∷ false ∷ false ∷ [])
    ∷ Code (false ∷ false ∷ false ∷ false ∷ false ∷ false ∷ false ∷ false ∷ true ∷ true ∷ false ∷ true ∷ [])
    ∷ Code (false ∷ false ∷ false ∷ false ∷ false ∷ false ∷ false ∷ false ∷ true ∷ true ∷ true ∷ false ∷ [])
    ∷ Code (false ∷ false ∷ false ∷ false ∷ false ∷ false ∷ false ∷ false ∷ true ∷ true ∷ true ∷ true ∷ [])
    ∷ Top
    ∷ Level 7 false
    ∷ Level 6 false
    ∷ Level 6 true
    ∷ Level 5 false
    ∷ Level 5 true
    ∷ Level 4 false
    ∷ Level 4 true
    ∷ Level 3 false
    ∷ Level 3 true
    ∷ Level 2 false
    ∷ Level 2 true
    ∷ Level 1 false
    ∷ Level 1 true
    ∷ []

abbrev pub steps : List (ℕ × ℕ × Bool)
steps =
    (2, 0, false)
    ∷ (3, 1, false)
    ∷ (2, 0, false)
    ∷ (4, 0, false)
    ∷ (5, 0, false)
    ∷ (6, 0, false)
    ∷ (1, 0, false)
    ∷ (1, 0, false)
    ∷ (0, 0, true)
    ∷ (3, 1, false)
    ∷ (7, 0, false)
    ∷ (8, 0, false)
    ∷ (9, 0, false)
    ∷ (3, 2, false)
    ∷ (10, 0, false)
    ∷ (11, 0, false)
    ∷ (12, 0, false)
    ∷ (13, 0, false)
    ∷ (3, 1, false)
    ∷ (3, 3, false)
    ∷ (14, 0, false)
    ∷ (15, 0, false)
    ∷ (16, 0, false)
    ∷ (17, 0, false)
    ∷ (18, 0, false)
    ∷ (3, 1, false)
    ∷ (3, 5, false)
    ∷ (3, 4, false)
    ∷ (19, 0, false)
    ∷ (20, 0, false)
    ∷ (21, 0, false)
    ∷ (22, 0, false)
    ∷ (3, 8, false)
    ∷ (3, 7, false)
    ∷ (3, 2, false)
    ∷ (3, 6, false)
    ∷ (23, 0, false)
    ∷ (24, 0, false)
    ∷ (25, 0, false)
    ∷ (26, 0, false)
    ∷ (27, 0, false)
    ∷ (27, 32, false)
    ∷ (3, 3, false)
    ∷ (3, 10, false)
    ∷ (3, 1, false)
    ∷ (3, 9, false)
    ∷ (28, 0, false)
    ∷ (29, 0, false)
    ∷ (30, 0, false)
    ∷ (31, 0, false)
    ∷ (32, 0, false)
    ∷ (33, 0, false)
    ∷ (34, 0, false)
    ∷ (35, 0, false)
    ∷ (36, 0, false)
    ∷ (36, 16, false)
    ∷ (3, 14, false)
    ∷ (3, 1, false)
    ∷ (3, 13, false)
    ∷ (3, 12, false)
    ∷ (3, 4, false)
    ∷ (3, 2, false)
    ∷ (3, 1, false)
    ∷ (3, 11, false)
    ∷ (37, 127, false)
    ∷ (38, 0, false)
    ∷ (39, 0, false)
    ∷ (40, 0, false)
    ∷ (41, 0, false)
    ∷ (42, 0, false)
    ∷ (43, 0, false)
    ∷ (44, 0, false)
    ∷ (45, 0, false)
    ∷ (45, 8, false)
    ∷ (37, 0, false)
    ∷ (37, 0, false)
    ∷ (46, 0, false)
    ∷ (47, 0, false)
    ∷ (48, 0, false)
    ∷ (49, 0, false)
    ∷ (50, 0, false)
    ∷ (51, 0, false)
    ∷ (3, 17, false)
    ∷ (3, 6, false)
    ∷ (3, 1, false)
    ∷ (3, 3, false)
    ∷ (3, 2, false)
    ∷ (3, 16, false)
    ∷ (3, 15, false)
    ∷ (3, 5, false)
    ∷ (52, 0, false)
    ∷ (52, 4, false)
    ∷ (53, 0, false)
    ∷ (54, 0, false)
    ∷ (55, 0, false)
    ∷ (56, 0, false)
    ∷ (57, 0, false)
    ∷ (58, 0, false)
    ∷ (59, 0, false)
    ∷ (60, 0, false)
    ∷ (61, 0, false)
    ∷ (62, 0, false)
    ∷ (63, 0, false)
    ∷ (64, 0, false)
    ∷ (65, 0, false)
    ∷ (65, 2, false)
    ∷ (66, 0, false)
    ∷ (67, 0, false)
    ∷ (68, 0, false)
    ∷ (69, 0, false)
    ∷ (70, 0, false)
    ∷ (71, 0, false)
    ∷ (72, 0, false)
    ∷ (73, 0, false)
    ∷ (3, 1, false)
    ∷ (3, 9, false)
    ∷ (3, 5, false)
    ∷ (3, 1, false)
    ∷ (3, 3, false)
    ∷ (3, 8, false)
    ∷ (3, 22, false)
    ∷ (3, 21, false)
    ∷ (3, 1, false)
    ∷ (3, 20, false)
    ∷ (3, 19, false)
    ∷ (3, 2, false)
    ∷ (3, 4, false)
    ∷ (3, 1, false)
    ∷ (3, 7, false)
    ∷ (3, 18, false)
    ∷ (74, 1, false)
    ∷ (74, 2, false)
    ∷ (3, 11, false)
    ∷ (3, 10, false)
    ∷ (3, 6, false)
    ∷ (3, 4, false)
    ∷ (3, 3, false)
    ∷ (3, 2, false)
    ∷ (3, 2, false)
    ∷ (3, 1, false)
    ∷ (3, 1, false)
    ∷ (3, 1, false)
    ∷ (3, 1, false)
    ∷ (3, 27, false)
    ∷ (3, 26, false)
    ∷ (3, 25, false)
    ∷ (3, 24, false)
    ∷ (3, 23, false)
    ∷ (75, 0, false)
    ∷ (75, 0, false)
    ∷ (76, 0, false)
    ∷ (77, 0, false)
    ∷ (78, 0, false)
    ∷ (79, 0, false)
    ∷ (79, 0, false)
    ∷ (79, 0, false)
    ∷ (80, 0, false)
    ∷ (81, 0, false)
    ∷ (81, 0, false)
    ∷ (81, 0, false)
    ∷ (82, 0, false)
    ∷ (83, 0, false)
    ∷ (83, 0, false)
    ∷ (83, 0, false)
    ∷ (84, 0, false)
    ∷ (85, 0, false)
    ∷ (85, 0, false)
    ∷ (85, 0, false)
    ∷ (86, 0, false)
    ∷ (87, 0, false)
    ∷ (87, 0, false)
    ∷ (87, 0, false)
    ∷ (37, 127, false)
    ∷ (1, 0, false)
    ∷ (1, 0, false)
    ∷ (1, 0, false)
    ∷ (89, 0, false)
    ∷ (89, 0, false)
    ∷ (90, 0, false)
    ∷ (91, 0, false)
    ∷ (92, 0, false)
    ∷ (93, 0, false)
    ∷ (93, 0, false)
    ∷ (93, 0, false)
    ∷ (94, 0, false)
    ∷ (95, 0, false)
    ∷ (95, 0, false)
    ∷ (95, 0, false)
    ∷ (96, 0, false)
    ∷ (97, 0, false)
    ∷ (97, 0, false)
    ∷ (97, 0, false)
    ∷ (98, 0, false)
    ∷ (99, 0, false)
    ∷ (99, 0, false)
    ∷ (99, 0, false)
    ∷ (100, 0, false)
    ∷ (101, 0, false)
    ∷ (101, 0, false)
    ∷ (101, 0, false)
    ∷ (37, 127, false)
    ∷ (1, 1, false)
    ∷ (1, 1, false)
    ∷ (1, 1, false)
    ∷ []

abbrev pub pending : ℕ → Pending
pending s = slice_index_or pendings s Faulty

-- by state and bit: the next state, the coefficients that are added, and whether the block ends
abbrev pub state_step : ℕ → Bool → ℕ × ℕ × Bool
state_step s b = slice_index_or steps (2 * s + cond b 1 0) (87, 127, false)

-- the state behind some bits; the coefficients in them up to the block's end; and the bits up to this end, 0 where it is not in them
pub record Passed : Type 0 where
  pub state : ℕ
  pub filled : ℕ
  pub end : ℕ

abbrev pub behind_bit : ℕ × ℕ × Bool → Passed → Passed
behind_bit step rest =
    cond step.2 (record { state = 0; filled = step.1; end = 1 })
    (record { state = rest.state; filled = step.1 + rest.filled; end = cond (rest.end == 0) 0 (rest.end + 1) })

abbrev pub passed : ℕ → List Bool → Passed
passed s [] = record { state = s; filled = 0; end = 0 }
passed s (b ∷ bits) = behind_bit (state_step s b) (passed (state_step s b).0 bits)

-- the state in which a block begins: with INTRADC, or without it
abbrev pub block_start : Bool → ℕ
block_start intra = cond intra 88 0

-- ---- an octet

-- what the code's table holds
abbrev pub as_cell : (next passed : ℕ) → Cell
as_cell next passed = record {
  next = next;
  before = passed % 256;
  behind = passed / 256 % 256;
  ends = passed / 65536 % 16;
  first = passed / 1048576 % 16;
  second = passed / 16777216 % 16;
}

-- an octet without an end
abbrev pub none_ends : Passed → Cell
none_ends first = record { next = first.state; before = first.filled; behind = 0; ends = 0; first = 0; second = 0 }

-- up to the first end, and behind it
abbrev pub one_ends : (first behind : Passed) → Cell
one_ends first behind = record {
  next = behind.state;
  before = first.filled;
  behind = behind.filled;
  ends = 1;
  first = first.end;
  second = 0;
}

-- up to the first end, between two ends, and behind the second
abbrev pub two_end : (first second behind : Passed) → Cell
two_end first second behind = record {
  next = behind.state;
  before = first.filled;
  behind = behind.filled;
  ends = 2;
  first = first.end;
  second = first.end + second.end;
}

-- and whether there is room for the block between two ends, and no third end
abbrev pub by_second : (first second third : Passed) → Cell × Bool
by_second first second third =
    cond (second.end == 0) (one_ends first second, true) (two_end first second third, nat_lt second.filled 65 && third.end == 0)

abbrev pub by_first : Bool → List Bool → Passed → Cell × Bool
by_first intra bits first = cond (first.end == 0) (none_ends first, true) (
    by_second first (passed (block_start intra) (drop first.end bits))
    (passed (block_start intra) (drop (passed (block_start intra) (drop first.end bits)).end (drop first.end bits))))

-- what an octet is in a state, in blocks with INTRADC or without it
abbrev pub octet_cell : Bool → (state octet : ℕ) → Cell × Bool
octet_cell intra state octet = by_first intra (field octet 8) (passed state (field octet 8))

pub record IsCellOf (intra : Bool) (state octet : ℕ) (cell : Cell) : Type 0 where
  pub cell_is : (cell, true) ≡ octet_cell intra state octet
  pub before : cell.before < 256
  pub behind : cell.behind < 256

abbrev pub stored : (next passed : List ℕ) → ℕ → Cell
stored next passed k = as_cell (slice_index next k) (slice_index passed k)
