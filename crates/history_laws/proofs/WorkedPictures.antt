-- Two pictures for worked conferences: a grey one, which is a refresh, and a small one, which is not.
use Rattle.std.proofs.Common.{◌≡◌, ℕ, zero, suc, ◌+◌, ◌*◌, ◌<◌, ◌≤◌, ℤ, pos, Bool, true, false, List, [], ◌∷◌, length, map, All, replicate, Option, Some, None, IfSome, IsSomeAnd, refl, arith}
use Rattle.std.specs.List.{range_with_len}
use Rattle.std.proofs.lemmas.List.Elements.{All-cons}
use Rattle.pel_model.specs.Headers.{group_header_text, picture_header_text}
use Rattle.pel_model.specs.declared.Format.TheVariants.{Qcif}
use Rattle.pel_model.specs.declared.MbKind.TheVariants.{Intra, Inter}
use Rattle.pel_model.specs.Bits.{field, number}
use Rattle.pel_model.specs.Codes.{mba_table, mtype_table, mvd_table, cbp_table, tcoeff_table}
use Rattle.pel_model.specs.Legal.{IsPostable}
use Rattle.pel_model.specs.Records.{Coefficient, Block, Macroblock, Group, Picture}
use Rattle.pel_model.specs.Refresh.{is_refresh}
use Rattle.pel_model.specs.Text.{text, picture_header, group_header, macroblocks_text, macroblock_text, block_text, coefficient_word}
use Rattle.pel_model.specs.Valid.{IsValidCoefficient, IsValidMacroblock, IsValidGroup, IsValid, IsIntraBlock, IsCodedBlock, AddressesRise}

-- ---- the pictures

-- all six blocks have INTRADC 11111111 alone
abbrev pub grey_block : Block
grey_block = record { dc = Some 255; coefficients = [] }

abbrev pub grey_macroblock : ℕ → Macroblock
grey_macroblock address = record {
  address = address;
  kind = Intra;
  mquant = None;
  across = pos 0;
  down = pos 0;
  blocks = replicate 6 (Some grey_block);
}

abbrev pub grey_group : ℕ → Group
grey_group n = record { number = n; quant = 8; macroblocks = map grey_macroblock (range_with_len 1 33) }

abbrev pub grey : Picture
grey = record { tr = 1; groups = grey_group 1 ∷ grey_group 3 ∷ grey_group 5 ∷ [] }

-- one level in the first block of the first macroblock
abbrev pub small_coefficient : Coefficient
small_coefficient = record { run = 0; level = pos 1; long = false }

abbrev pub small_block : Block
small_block = record { dc = None; coefficients = small_coefficient ∷ [] }

abbrev pub small_macroblock : Macroblock
small_macroblock = record {
  address = 1;
  kind = Inter;
  mquant = None;
  across = pos 0;
  down = pos 0;
  blocks = Some small_block ∷ replicate 5 None;
}

abbrev pub group_with : ℕ → List Macroblock → Group
group_with n macroblocks = record { number = n; quant = 8; macroblocks = macroblocks }

abbrev pub small : Picture
small = record { tr = 1; groups = group_with 1 (small_macroblock ∷ []) ∷ group_with 3 [] ∷ group_with 5 [] ∷ [] }

pub refreshes : (is_refresh Qcif grey ≡ true) × (is_refresh Qcif small ≡ false)
refreshes = (refl, refl)

-- ---- they are valid, and short

none : {X : Type 0} (P : X → Type 0) → All P []
none P k d below = absurd (omega arith)

one-alone : {X : Type 0} (P : X → Type 0) (x : X) → P x → All P (x ∷ [])
one-alone P x p = All-cons P x [] p (none P)

three : (a b c : Group) → IsValidGroup Qcif a → IsValidGroup Qcif b → IsValidGroup Qcif c → All (IsValidGroup Qcif) (a ∷ b ∷ c ∷ [])
three a b c first second third =
    All-cons (IsValidGroup Qcif) a (b ∷ c ∷ []) first (All-cons (IsValidGroup Qcif) b (c ∷ []) second (one-alone (IsValidGroup Qcif) c third))

each-of : {X : Type 0} (P : X → Type 0) (f : ℕ → X) → ((n : ℕ) → P (f n)) → (ns : List ℕ) → All P (map f ns)
each-of P f holds [] = none P
each-of P f holds (n ∷ ns) = All-cons P (f n) (map f ns) (holds n) (each-of P f holds ns)

addresses-rise : (last n : ℕ) → last + n ≤ 33 → AddressesRise last (map grey_macroblock (range_with_len (last + 1) n))
addresses-rise last zero below = tt
addresses-rise last (suc n) below = (omega arith, omega arith, addresses-rise (last + 1) n (omega arith))

grey-block : IsIntraBlock grey_block
grey-block = ((omega arith, omega arith, λ (e : 255 ≡ 128). omega arith), (none IsValidCoefficient, omega arith))

grey-valid : (group n : ℕ) → IsValidMacroblock Qcif group (grey_macroblock n)
grey-valid group n = record {
  mquant = refl;
  across = refl;
  down = refl;
  six = refl;
  blocks =
      each-of (λ (b : Option Block). IsSomeAnd b IsIntraBlock) (λ _. Some grey_block) (λ _. grey-block) (0 ∷ 1 ∷ 2 ∷ 3 ∷ 4 ∷ 5 ∷ []);
}

grey-group : (n : ℕ) → IsValidGroup Qcif (grey_group n)
grey-group n = record {
  quant = (omega arith, omega arith);
  addresses = addresses-rise 0 33 (omega arith);
  macroblocks = each-of (IsValidMacroblock Qcif n) grey_macroblock (grey-valid n) (range_with_len 1 33);
}

grey-length : length (text Qcif grey) ≡ 6545
unfolding picture_header_text group_header_text macroblocks_text macroblock_text block_text coefficient_word field number mba_table mtype_table mvd_table cbp_table tcoeff_table
grey-length = refl

pub grey-postable : IsPostable grey
grey-postable = record {
  valid = record {
    so_far = record {
      tr = omega arith;
      numbers = refl;
      groups = three (grey_group 1) (grey_group 3) (grey_group 5) (grey-group 1) (grey-group 3) (grey-group 5);
    };
    whole = refl;
  };
  short = omega (arith, grey-length);
}

abbrev IsCodedIfSent : Option Block → Type 0
IsCodedIfSent b = IfSome b IsCodedBlock

small-block : IsCodedBlock small_block
small-block = (refl, omega arith, (one-alone IsValidCoefficient small_coefficient refl, omega arith))

small-valid : IsValidMacroblock Qcif 1 small_macroblock
small-valid = record {
  mquant = refl;
  across = refl;
  down = refl;
  six = refl;
  blocks = (
    (0, Some small_block, omega arith, refl, refl),
    All-cons IsCodedIfSent (Some small_block) (replicate 5 None) small-block
        (each-of IsCodedIfSent (λ _. None) (λ _. tt) (0 ∷ 1 ∷ 2 ∷ 3 ∷ 4 ∷ [])),
  );
}

small-group : (n : ℕ) → IsValidGroup Qcif (group_with n [])
small-group n = record { quant = (omega arith, omega arith); addresses = tt; macroblocks = none (IsValidMacroblock Qcif n) }

small-first : IsValidGroup Qcif (group_with 1 (small_macroblock ∷ []))
small-first = record {
  quant = (omega arith, omega arith);
  addresses = (omega arith, omega arith, tt);
  macroblocks = one-alone (IsValidMacroblock Qcif 1) small_macroblock small-valid;
}

small-length : length (text Qcif small) ≡ 120
unfolding picture_header_text group_header_text macroblocks_text macroblock_text block_text coefficient_word field number mba_table mtype_table mvd_table cbp_table tcoeff_table
small-length = refl

pub small-postable : IsPostable small
small-postable = record {
  valid = record {
    so_far = record {
      tr = omega arith;
      numbers = refl;
      groups = three (group_with 1 (small_macroblock ∷ [])) (group_with 3 []) (group_with 5 []) small-first (small-group 3) (small-group 5);
    };
    whole = refl;
  };
  short = omega (arith, small-length);
}
