-- Bare streams: coded pictures one after the other, with no packets and no frames round them (H.261, 4.2). A picture ends where
-- the start code of the next one begins, and nothing else says how long it is.
use Rattle.std.specs.Prelude.{◌≡◌, ℕ, ◌+◌, ◌-◌, ◌<◌, ◌≤◌, Bool, true, List, [], ◌∷◌, ◌++◌, length, take, drop}
use Rattle.std.specs.List.{AllByRecursion, flat_map}
use Rattle.bare_stream.specs.Packed.{octets_spelled}
use Rattle.pel_bits.specs.Buffer.{filled_up}
use Rattle.pel_bits.specs.Bits.{bits}
use Rattle.pel_model.specs.declared.Format.{Format}
use Rattle.pel_model.specs.declared.Why.{Why}
use Rattle.pel_model.specs.Accepts.{Accepts}
use Rattle.pel_model.specs.Codes.{picture_start_code, is_prefix}
use Rattle.pel_model.specs.Grammar.{next_within_limit}
use Rattle.pel_model.specs.Records.{Picture}
use Rattle.pel_model.specs.Text.{text}
use Rattle.pel_model.specs.Valid.{IsValid, limit}
use Rattle.pel_model.specs.Walk.{FirstFault}

-- PSC, the start code of a picture (4.2.1.1), begins at bit e
abbrev pub StartsAt : (e : ℕ) → List Bool → Type 0
StartsAt e bits = is_prefix picture_start_code (drop e bits) ≡ true

-- a picture ends at bit e: PSC begins there, and the bits before it are accepted
pub record EndsAtStart (format : Format) (bits : List Bool) (e : ℕ) : Type 0 where
  pub above : 0 < e
  pub starts : StartsAt e bits
  pub picture : Picture
  pub accepted : Accepts format (take e bits) picture

-- the least of such places
pub record IsNext (format : Format) (bits : List Bool) (e : ℕ) : Type 0 where
  pub place : EndsAtStart format bits e
  pub least : (other : ℕ) → EndsAtStart format bits other → e ≤ other

-- there is none
abbrev pub HasNoNext : Format → List Bool → Type 0
HasNoNext format bits = (e : ℕ) → EndsAtStart format bits e → ⊥

-- the bits are these pictures, each up to the PSC of the next one, and behind them the rest
abbrev pub IsCutInto : Format → (bits : List Bool) → List Picture → (rest : List Bool) → Type 0
IsCutInto format bits [] rest = rest ≡ bits
IsCutInto format bits (p ∷ ps) rest =
    (e : ℕ) × IsNext format bits e × Accepts format (take e bits) p × IsCutInto format (drop e bits) ps rest

-- how a stream ends: with a whole picture, or at this bit, counted from its first, with the first fault of what is none
pub data StreamStop : Type 0 where
  AtEnd : StreamStop
  BadAt : (place : ℕ) → Why → StreamStop

-- What the rest of a stream is, in which no picture ends at a PSC, and which begins at bit `at`: nothing, the last picture, or
-- bits with a first fault.
abbrev pub StreamEndsWith : Format → (at : ℕ) → (rest : List Bool) → List Picture → StreamStop → Type 0
StreamEndsWith format at rest [] AtEnd = rest ≡ []
StreamEndsWith format at rest (p ∷ []) AtEnd = HasNoNext format rest × Accepts format rest p
StreamEndsWith format at rest [] (BadAt place why) =
    (0 < length rest) × HasNoNext format rest
    × ((fault : ℕ) × FirstFault (next_within_limit format) rest fault why × (place ≡ at + fault))
StreamEndsWith format at rest _ stop = ⊥

-- the bits are the stream of these pictures, with this end
pub record IsBareStream (format : Format) (bits : List Bool) (pictures : List Picture) (stop : StreamStop) : Type 0 where
  pub former : List Picture
  pub last : List Picture
  pub rest : List Bool
  pub order : pictures ≡ former ++ last
  pub cuts : IsCutInto format bits former rest
  pub ends : StreamEndsWith format (length bits - length rest) rest last stop

-- a picture that can be sent: valid, and its strict text no longer than its format allows
pub record IsSendable (format : Format) (picture : Picture) : Type 0 where
  pub valid : IsValid format picture
  pub short : length (text format picture) ≤ limit format

-- the strict texts of pictures, one behind the other
abbrev pub texts : Format → List Picture → List Bool
texts format pictures = flat_map (text format) pictures

-- the bare stream of pictures: their strict texts, and 0 to 7 zero bits to a whole octet
abbrev pub bare : Format → List Picture → List ℕ
bare format pictures = octets_spelled (filled_up (texts format pictures))

-- ---- laws

-- bits are one stream at most
abbrev pub LawOfOneBareStream : Type 0
LawOfOneBareStream =
    (format : Format) (bits : List Bool) (ps qs : List Picture) (stop other : StreamStop)
    → IsBareStream format bits ps stop → IsBareStream format bits qs other → (ps ≡ qs) × (stop ≡ other)

-- the stream of pictures that can be sent is read as these pictures
abbrev pub LawOfBareReadBack : Type 0
LawOfBareReadBack =
    (format : Format) (pictures : List Picture)
    → AllByRecursion (IsSendable format) pictures
    → IsBareStream format (bits (bare format pictures)) pictures AtEnd
