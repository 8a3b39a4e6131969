-- Refreshes: QCIF pictures that a decoder shows alike whatever it showed before, because they send every macroblock and
-- refer to no other picture.
use Rattle.std.specs.Prelude.{◌≡◌, ℕ, ◌==◌, ◌&&◌, Bool, true, false, length, sum_by}
use Rattle.std.specs.List.{list_all}
use Rattle.pel_model.specs.declared.Format.{Format}
use Rattle.pel_model.specs.declared.Format.TheVariants.{Qcif, Cif}
use Rattle.pel_model.specs.Codes.{is_intra}
use Rattle.pel_model.specs.Records.{Macroblock, Group, Picture}
use Rattle.pel_model.specs.Valid.{macroblock_count}

-- how many macroblocks are sent
abbrev pub sent_macroblocks : Picture → ℕ
sent_macroblocks picture = sum_by (λ (g : Group). length g.macroblocks) picture.groups

-- each of them is Intra (H.261, 3.2.1)
abbrev pub is_all_intra : Picture → Bool
is_all_intra picture = list_all (λ (g : Group). list_all (λ (m : Macroblock). is_intra m.kind) g.macroblocks) picture.groups

-- a QCIF picture that sends all its 99 macroblocks, each of them Intra
abbrev pub is_refresh : Format → Picture → Bool
is_refresh Qcif picture = sent_macroblocks picture == macroblock_count Qcif && is_all_intra picture
is_refresh Cif picture = false

abbrev pub IsRefresh : Format → Picture → Type 0
IsRefresh format picture = is_refresh format picture ≡ true
