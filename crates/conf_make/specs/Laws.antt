-- The law of made files.
use Rattle.std.specs.Prelude.{ℕ}
use Rattle.conf_file.specs.File.{Conference, Whole, IsFile}
use Rattle.conf_file.specs.Header.{HasLanes}
use Rattle.conf_make.specs.Made.{contents, made}

-- a made file is a conference file with these entries, the last of which is the end
abbrev pub LawOfMadeFiles : Type 0
LawOfMadeFiles =
    (seed ticks lanes : ℕ) → HasLanes lanes → IsFile (made seed ticks lanes) (Conference lanes (contents seed ticks lanes) Whole)
