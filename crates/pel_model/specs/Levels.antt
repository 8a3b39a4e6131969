-- The levels of a block's coefficients (H.261, 4.2.4.1).
use Rattle.std.specs.Prelude.{ℕ, ◌-◌, ◌*◌, ◌==◌, if◌then◌else◌, ℤ, pos, List, [], ◌∷◌, ◌++◌, length, flat_map, replicate, Option, Some, None}
use Rattle.pel_model.specs.Records.{Coefficient, Block}

-- INTRADC: 11111111 stands for 1024, any other n for 8 n
abbrev pub dc_level : ℕ → ℤ
dc_level n = if n == 255 then pos 1024 else pos (8 * n)

abbrev pub dc_levels : Option ℕ → List ℤ
dc_levels None = []
dc_levels (Some n) = dc_level n ∷ []

-- a coefficient with the zeros before it
abbrev pub run_and_level : Coefficient → List ℤ
run_and_level c = replicate c.run (pos 0) ++ c.level ∷ []

-- the levels that a block sends, in the order of transmission
abbrev pub sent_levels : Block → List ℤ
sent_levels b = dc_levels b.dc ++ flat_map run_and_level b.coefficients

-- all 64 levels of a block
abbrev pub levels : Block → List ℤ
levels b = sent_levels b ++ replicate (64 - length (sent_levels b)) (pos 0)
