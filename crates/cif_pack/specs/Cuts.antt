-- Where a picture's text is cut into packets: each packet goes on as far as an atom ends that still fits.
use Rattle.std.specs.Prelude.{◌≡◌, ℕ, ◌+◌, ◌-◌, ◌/◌, ◌<◌, ◌≤◌, nat_le, Bool, true, false, not, List, [], ◌∷◌, All, Contains}
use Rattle.cif_pack.specs.declared.atoms.AtomEnd.{AtomEnd}

-- the octets of both headers of a packet: 12 of RTP and 4 of its payload
abbrev pub both_headers : ℕ
both_headers = 12 + 4

-- the octets in which the bits from one place to another stand
abbrev pub octets_between : (from to : ℕ) → ℕ
octets_between from to = (to + 7) / 8 - from / 8

-- with both headers they are no more than a packet may have
abbrev pub fits : (mtu from to : ℕ) → Bool
fits mtu from to = nat_le (octets_between from to) (mtu - both_headers)

-- ---- what the cuts are

-- a packet that begins here ends at this end: it lies behind, it fits, and no end that fits lies further on
pub record IsCut (mtu : ℕ) (ends : List AtomEnd) (from : ℕ) (end : AtomEnd) : Type 0 where
  pub there : Contains ends end
  pub behind : from < end.at
  pub within : fits mtu from end.at ≡ true
  pub furthest : All (λ (e : AtomEnd). fits mtu from e.at ≡ true → e.at ≤ end.at) ends

-- the ends of the packets one after the other, up to the end of the text
abbrev pub AreCuts : (mtu : ℕ) → List AtomEnd → (last from : ℕ) → List AtomEnd → Type 0
AreCuts mtu ends last from [] = from ≡ last
AreCuts mtu ends last from (end ∷ cuts) = IsCut mtu ends from end × AreCuts mtu ends last end.at cuts

-- ---- the cuts

-- a packet that begins at `from` goes no further than the end before these: none is left, or the next one does not fit
abbrev pub is_cut : (mtu from : ℕ) → List AtomEnd → Bool
is_cut mtu from [] = true
is_cut mtu from (e ∷ _) = not (fits mtu from e.at)

abbrev pub with_cut : Bool → AtomEnd → List AtomEnd → List AtomEnd
with_cut true end cuts = end ∷ cuts
with_cut false end cuts = cuts

abbrev pub from_behind : Bool → (from : ℕ) → AtomEnd → ℕ
from_behind true from end = end.at
from_behind false from end = from

-- of the ends that are left, those at which packets end, the first of which begins at `from`
abbrev pub cuts : (mtu from : ℕ) → List AtomEnd → List AtomEnd
cuts mtu from [] = []
cuts mtu from (end ∷ ends) =
    with_cut (is_cut mtu from ends) end (cuts mtu (from_behind (is_cut mtu from ends) from end) ends)
