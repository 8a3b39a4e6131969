-- Inner contracts alone use this; nothing here has to be believed.
-- Ends of atoms that fit packets one by one.
use Rattle.std.specs.Prelude.{◌≡◌, ℕ, nat_lt, nat_le, ◌&&◌, Bool, true, List, [], ◌∷◌}
use Rattle.cif_pack.specs.declared.atoms.AtomEnd.{AtomEnd}
use Rattle.cif_pack.specs.Cuts.{fits}

-- the ends rise from `from` to `last` at most, and what lies between two of them fits a packet
abbrev pub rises : (mtu last from : ℕ) → List AtomEnd → Bool
rises mtu last from [] = true
rises mtu last from (e ∷ es) = (nat_lt from e.at && nat_le e.at last) && (fits mtu from e.at && rises mtu last e.at es)

abbrev pub Rises : (mtu last from : ℕ) → List AtomEnd → Type 0
Rises mtu last from es = rises mtu last from es ≡ true
