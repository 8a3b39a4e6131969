-- A refresh by what it is: its format, how many macroblocks it sends, and that each of them is Intra.
use Rattle.std.proofs.Common.{◌≡◌, ℕ, ◌==◌, ◌&&◌, Bool, true, false, List, [], ◌∷◌, All, refl, ap₂}
use Rattle.std.specs.List.{list_all}
use Rattle.std.proofs.lemmas.Bool.{and_parts, eqb-true, eq-eqb}
use Rattle.std.proofs.lemmas.List.Elements.{All-nil, All-cons, All-head, All-tail}
use Rattle.pel_model.specs.declared.Format.{Format}
use Rattle.pel_model.specs.declared.Format.TheVariants.{Qcif, Cif}
use Rattle.pel_model.specs.Codes.{is_intra}
use Rattle.pel_model.specs.Records.{Macroblock, Group, Picture}
use Rattle.pel_model.specs.Refresh.{sent_macroblocks, is_all_intra, IsRefresh}

abbrev pub IsIntra : Macroblock → Type 0
IsIntra m = is_intra m.kind ≡ true

abbrev pub IsIntraGroup : Group → Type 0
IsIntraGroup g = All IsIntra g.macroblocks

pub record IsIntraPicture (format : Format) (picture : Picture) : Type 0 where
  pub qcif : format ≡ Qcif
  pub all_sent : sent_macroblocks picture ≡ 99
  pub all_intra : All IsIntraGroup picture.groups

intra_from : (ms : List Macroblock) → list_all (λ (m : Macroblock). is_intra m.kind) ms ≡ true → All IsIntra ms
intra_from [] h = All-nil IsIntra
intra_from (m ∷ ms) h = All-cons IsIntra m ms (and_parts _ _ h).0 (intra_from ms (and_parts _ _ h).1)

intra_all : (ms : List Macroblock) → All IsIntra ms → list_all (λ (m : Macroblock). is_intra m.kind) ms ≡ true
intra_all [] all = refl
intra_all (m ∷ ms) all = ap₂ (λ (a : Bool) (b : Bool). a && b) (All-head IsIntra m ms all) (intra_all ms (All-tail IsIntra m ms all))

groups_from : (gs : List Group) → list_all (λ (g : Group). list_all (λ (m : Macroblock). is_intra m.kind) g.macroblocks) gs ≡ true → All IsIntraGroup gs
groups_from [] h = All-nil IsIntraGroup
groups_from (g ∷ gs) h = All-cons IsIntraGroup g gs (intra_from g.macroblocks (and_parts _ _ h).0) (groups_from gs (and_parts _ _ h).1)

groups_all : (gs : List Group) → All IsIntraGroup gs → list_all (λ (g : Group). list_all (λ (m : Macroblock). is_intra m.kind) g.macroblocks) gs ≡ true
groups_all [] all = refl
groups_all (g ∷ gs) all = ap₂ (λ (a : Bool) (b : Bool). a && b) (intra_all g.macroblocks (All-head IsIntraGroup g gs all)) (groups_all gs (All-tail IsIntraGroup g gs all))

pub refresh-facts : (format : Format) (picture : Picture) → IsRefresh format picture → IsIntraPicture format picture
refresh-facts Qcif picture h = record {
  qcif = refl;
  all_sent = eqb-true (sent_macroblocks picture) 99 (and_parts (sent_macroblocks picture == 99) (is_all_intra picture) h).0;
  all_intra = groups_from picture.groups (and_parts (sent_macroblocks picture == 99) (is_all_intra picture) h).1;
}
refresh-facts Cif picture h = absurd cc

pub facts-refresh : (picture : Picture) → sent_macroblocks picture ≡ 99 → All IsIntraGroup picture.groups → IsRefresh Qcif picture
facts-refresh picture sent intra =
    ap₂ (λ (a : Bool) (b : Bool). a && b) (eq-eqb (sent_macroblocks picture) 99 sent) (groups_all picture.groups intra)
