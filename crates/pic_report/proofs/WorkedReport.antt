-- Worked lines of the report, with values that were computed apart from these definitions.
use Rattle.std.specs.Prelude.{◌≡◌, ℕ, ℤ, pos, negsuc, false, List, [], ◌∷◌, length, map, replicate, codes, Option, Some, None, refl}
use Rattle.std.specs.Fmt.{digits}
use Rattle.pel_model.specs.declared.Format.TheVariants.{Qcif}
use Rattle.pel_model.specs.declared.MbKind.{MbKind}
use Rattle.pel_model.specs.declared.MbKind.TheVariants.{Intra, IntraQuant, Inter, Mc}
use Rattle.pel_model.specs.declared.Why.TheVariants.{NoStart, WrongFormat, StillImage, BadGroup, BadQuant, TooLong, NoCode}
use Rattle.pel_model.specs.declared.Why.TheVariants.{Cut, BadAddress, BadVector, VectorOutside, BadDc, BadLevel, TooMany}
use Rattle.pel_model.specs.Records.{Block, Macroblock, Group, Picture}
use Rattle.pel_model.specs.Text.{text}
use Rattle.rtp_h261.specs.Events.{Lost, Shown, Refused}
use Rattle.pic_report.specs.Report.{numbers_line, lines}

abbrev macroblock : (address : ℕ) → MbKind → (mquant : Option ℕ) → (across down : ℤ) → List (Option Block) → Macroblock
macroblock address kind mquant across down blocks =
    record { address = address; kind = kind; mquant = mquant; across = across; down = down; blocks = blocks }

abbrev grey : List (Option Block)
grey = replicate 6 (Some (record { dc = Some 255; coefficients = [] }))

abbrev level : List (Option Block)
level = Some (record { dc = None; coefficients = record { run = 0; level = pos 1; long = false } ∷ [] }) ∷ replicate 5 None

abbrev group : (number quant : ℕ) → List Macroblock → Group
group number quant macroblocks = record { number = number; quant = quant; macroblocks = macroblocks }

-- two macroblocks that are Intra, one of them with a quantiser, one with a level, one that is moved, and a last that is Intra
abbrev mixed : Picture
mixed = record {
  tr = 31;
  groups =
      group 1 8 (macroblock 1 Intra None (pos 0) (pos 0) grey ∷ macroblock 2 IntraQuant (Some 5) (pos 0) (pos 0) grey
      ∷ macroblock 5 Inter None (pos 0) (pos 0) level ∷ macroblock 6 Mc None (pos 3) (negsuc 1) (replicate 6 None) ∷ [])
      ∷ group 3 8 [] ∷ group 5 31 (macroblock 33 Intra None (pos 0) (pos 0) grey ∷ []) ∷ [];
}

-- a picture of which nothing is sent
abbrev empty : (tr : ℕ) → (numbers : List ℕ) → Picture
empty tr numbers = record { tr = tr; groups = map (λ n. group n 1 []) numbers }

-- events are numbered from 1, pictures and gaps together; the bits of a picture are those of its text
pub events_told : lines Qcif (Lost ∷ Shown mixed ∷ Refused 47 Cut ∷ Shown (empty 0 (1 ∷ 3 ∷ 5 ∷ [])) ∷ [])
    ≡ codes "gap 1 lost\n"
    ∷ numbers_line 2 31 (length (text Qcif mixed)) 5 3
    ∷ codes "gap 3 Cut at 47\n"
    ∷ numbers_line 4 0 (length (text Qcif (empty 0 (1 ∷ 3 ∷ 5 ∷ [])))) 0 0
    ∷ []
unfolding digits
events_told = refl

pub numbers_told : numbers_line 65536 9 262144 396 395 ≡ codes "picture 65536 tr 9 bits 262144 macroblocks 396 intra 395\n"
unfolding numbers_line digits
numbers_told = refl

-- a gap of each reason
pub reasons_told : lines Qcif (map (Refused 0) (NoStart ∷ WrongFormat ∷ StillImage ∷ BadGroup ∷ BadQuant ∷ TooLong ∷ NoCode
    ∷ Cut ∷ BadAddress ∷ BadVector ∷ VectorOutside ∷ BadDc ∷ BadLevel ∷ TooMany ∷ []))
    ≡ codes "gap 1 NoStart at 0\n" ∷ codes "gap 2 WrongFormat at 0\n" ∷ codes "gap 3 StillImage at 0\n"
    ∷ codes "gap 4 BadGroup at 0\n" ∷ codes "gap 5 BadQuant at 0\n" ∷ codes "gap 6 TooLong at 0\n"
    ∷ codes "gap 7 NoCode at 0\n" ∷ codes "gap 8 Cut at 0\n" ∷ codes "gap 9 BadAddress at 0\n"
    ∷ codes "gap 10 BadVector at 0\n" ∷ codes "gap 11 VectorOutside at 0\n" ∷ codes "gap 12 BadDc at 0\n"
    ∷ codes "gap 13 BadLevel at 0\n" ∷ codes "gap 14 TooMany at 0\n" ∷ []
unfolding digits
reasons_told = refl
