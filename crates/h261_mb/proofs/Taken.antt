-- The parts of a header that were taken one after another, and what they are together.
use Rattle.std.proofs.Common.{◌≡◌, ◌≢◌, ℕ, ◌-◌, ◌<◌, Bool, true, false, cond, List, [], ◌∷◌, ◌++◌, ℤ, pos, Some, None, MatchBool, refl, sym, ◌∙◌, ap, subst}
use Rattle.std.proofs.lemmas.Bool.{ne_eqb}
use Rattle.pel_model.specs.declared.Format.{Format}
use Rattle.pel_model.specs.declared.MbKind.{MbKind}
use Rattle.pel_model.specs.declared.Why.TheVariants.{BadQuant}
use Rattle.pel_model.specs.Codes.{is_intra, has_vector, has_cbp, mtype_table, cbp_table}
use Rattle.pel_model.specs.Records.{Across, Down}
use Rattle.pel_model.specs.Walk.{Reading, Goes, read, after, IsTaken, AreTaken}
use Rattle.pel_model.specs.Grammar.{Element, Mba, Mtype, Mquant, Mvd, Cbp, slot, AtMtype, AtMquant, AtMvd, AtCbp, vector_slot, cbp_slot, block_slot, kind, ones, blocks, component_from, table_rows, field_rows, next}
use Rattle.pel_model.specs.Elements.{vector_elements}
use Rattle.pel_model.proofs.Walks.{goes-append, after-append}
use Rattle.h261_mb.specs.declared.state.Front.{Front}
use Rattle.h261_mb.specs.declared.state.MbState.{MbState}
use Rattle.h261_mb.specs.State.{Say, Stands, IsHeader}
use Rattle.h261_mb.specs.Parts.{IsBegun, IsMquant, IsFront, IsMvd, AreComponents, IsMoved, IsVector, IsPattern, predicted}
use Rattle.h261_mb.proofs.Fronts.{begun}
use Rattle.h261_mb.proofs.HeaderLaws.{whole_header}
use Rattle.h261_mb.proofs.Passing.{behind_cbp, said_kind, say_again}
use Rattle.h261_mb.proofs.Slots.{good, at-mtype, at-mquant, at-cbp}
use Rattle.h261_mb.proofs.Steps.{goes_first}

module _ (format : Format) (before : List Element) where
  -- ---- words that are elements

  pub mtype-taken : (k : MbKind) (old new : Reading) → slot before ≡ AtMtype → IsTaken (read (table_rows mtype_table Mtype) old.0) (Mtype k) old new → IsTaken (next format before old) (Mtype k) old new
  mtype-taken k old new due took =
      record { len = took.len; good = good format before old AtMtype (read (table_rows mtype_table Mtype) old.0) due (at-mtype old.0) (Mtype k) took.len took.good refl; behind = took.behind }

  pub mquant-taken : (q : ℕ) (old new : Reading) → slot before ≡ AtMquant → q ≢ 0 → IsTaken (read (field_rows 5 Mquant) old.0) (Mquant q) old new → IsTaken (next format before old) (Mquant q) old new
  mquant-taken q old new due some took =
      record { len = took.len; good = good format before old AtMquant (read (field_rows 5 Mquant) old.0) due (at-mquant old.0) (Mquant q) took.len took.good (ap (λ (b : Bool). cond b (Some BadQuant) None) (ne_eqb q 0 some)); behind = took.behind }

  pub cbp-taken : (c : ℕ) (old new : Reading) → slot before ≡ AtCbp → IsTaken (read (table_rows cbp_table Cbp) old.0) (Cbp c) old new → IsTaken (next format before old) (Cbp c) old new
  cbp-taken c old new due took =
      record { len = took.len; good = good format before old AtCbp (read (table_rows cbp_table Cbp) old.0) due (at-cbp old.0) (Cbp c) took.len took.good refl; behind = took.behind }

  -- ---- MBA, MTYPE and MQUANT

  -- MQUANT where the kind has it
  pub some_mquant-taken : (k : MbKind) (last q : ℕ) (old new : Reading) → IsTaken (next format (Mtype k ∷ before) old) (Mquant q) old new → AreTaken (next format) (Mtype k ∷ before) (IsMquant k last before q) old new
  some_mquant-taken k last q old new took =
      record { elements = Mquant q ∷ []; walk = (took.len, took.good, took.behind); wanted = record { mquant = Some q; elements = refl; quant_is = refl; due = refl } }

  pub front-taken : (number : ℕ) (state : MbState) (at q : ℕ) (k : MbKind) (h v : ℤ) (old mid there new : Reading) → Stands number state before → state.address < at → predicted k (at - state.address) at state.h ≡ h → predicted k (at - state.address) at state.v ≡ v → IsTaken (next format before old) (Mba (at - state.address)) old mid → IsTaken (next format (Mba (at - state.address) ∷ before) mid) (Mtype k) mid there → AreTaken (next format) (Mtype k ∷ Mba (at - state.address) ∷ before) (IsMquant k state.quant (Mba (at - state.address) ∷ before) q) there new → AreTaken (next format) before (IsFront number state.address before (record { address = at; kind = k; quant = q; h = h; v = v })) old new
  front-taken number state at q k h v old mid there new stands above across down first second later =
      let mba : Element = Mba (at - state.address) in
      let mtype : Element = Mtype k in
      let behind = begun number state before stands at q k h v later.wanted.mquant above later.wanted.quant_is (ap (λ (es : List Element). slot (after (mtype ∷ mba ∷ before) es)) (sym later.wanted.elements) ∙ later.wanted.due) across down in record {
        elements = mba ∷ mtype ∷ later.elements;
        walk = goes_first (next format) before old mid new mba first.len (mtype ∷ later.elements) first.good first.behind (goes_first (next format) (mba ∷ before) mid there new mtype second.len later.elements second.good second.behind later.walk);
        wanted = record {
          mquant = later.wanted.mquant;
          elements = ap (λ (es : List Element). mba ∷ mtype ∷ es) later.wanted.elements;
          begun = subst (λ (es : List Element). IsBegun number (record { address = at; kind = k; quant = q; h = h; v = v }) (after (mtype ∷ mba ∷ before) es)) (sym later.wanted.elements) behind;
        };
      }

  -- ---- the vector

  -- both components
  pub components-taken : (front : Front) (last_h last_v h v : ℤ) (components : ℤ × ℤ) (old mid new : Reading) → last_h ≡ front.h → last_v ≡ front.v → h ≡ components.0 → v ≡ components.1 → (first : AreTaken (next format) before (IsMvd Across last_h h) old mid) → AreTaken (next format) (Mvd Across first.wanted.values ∷ before) (IsMvd Down last_v v) mid new → AreTaken (next format) before (AreComponents front components) old new
  components-taken front last_h last_v h v components old mid new h_is v_is h_told v_told first later =
      let across : Element = Mvd Across first.wanted.values in
      let took = subst (λ (es : List Element). Goes (next format) before old es mid) first.wanted.elements first.walk in record {
        elements = across ∷ later.elements;
        walk = goes_first (next format) before old mid new across took.0 later.elements took.1 took.2 later.walk;
        wanted = record {
          across = first.wanted.values;
          down = later.wanted.values;
          elements = ap (λ (es : List Element). across ∷ es) later.wanted.elements;
          across_is = ap (λ (z : ℤ). component_from z first.wanted.values) (sym h_is) ∙ (first.wanted.component_is ∙ h_told);
          down_is = ap (λ (z : ℤ). component_from z later.wanted.values) (sym v_is) ∙ (later.wanted.component_is ∙ v_told);
        };
      }

  moves : (k : MbKind) → has_vector k ≡ true → (a b : ℤ × ℤ) → vector_elements k a b ≡ Mvd Across a ∷ Mvd Down b ∷ []
  moves k has_one a b = ap (λ (has : Bool). cond has (Mvd Across a ∷ Mvd Down b ∷ []) []) has_one

  stays : (k : MbKind) → has_vector k ≡ false → (a b : ℤ × ℤ) → vector_elements k a b ≡ []
  stays k has_none a b = ap (λ (has : Bool). cond has (Mvd Across a ∷ Mvd Down b ∷ []) []) has_none

  pub vector_due : (k : MbKind) → has_vector k ≡ true → slot before ≡ vector_slot k → slot before ≡ AtMvd Across
  vector_due k has_one due = due ∙ ap (λ (has : Bool). cond has (AtMvd Across) (cbp_slot k)) has_one

  -- a vector that was read
  pub is-vector : (number : ℕ) (front : Front) (vector : ℤ × ℤ) (es : List Element) (new : Reading) → has_vector front.kind ≡ true → IsBegun number front before → AreComponents front vector es new → IsVector number front before vector es new
  is-vector number front vector es new has_one begun told = record {
    across = told.across;
    down = told.down;
    elements = told.elements ∙ sym (moves front.kind has_one told.across told.down);
    moved = subst (λ (es : List Element). IsMoved number front vector.0 vector.1 (after before es)) (sym told.elements) (record {
      due = ap cbp_slot begun.kind_is;
      kind_is = begun.kind_is;
      blocks_are = begun.blocks_are;
      say = record {
        number_is = begun.say.number_is;
        address_is = begun.say.address_is;
        quant_is = begun.say.quant_is;
        across_is = ap (λ (z : ℤ). component_from z told.across) begun.say.across_is ∙ told.across_is;
        down_is = ap (λ (z : ℤ). component_from z told.down) begun.say.down_is ∙ told.down_is;
      };
    });
  }

  -- a kind that has none
  pub no-vector : (number : ℕ) (front : Front) (vector : ℤ × ℤ) (r : Reading) → has_vector front.kind ≡ false → front.h ≡ vector.0 → front.v ≡ vector.1 → IsBegun number front before → AreTaken (next format) before (IsVector number front before vector) r r
  no-vector number front vector r has_none h_is v_is begun =
      let zero : ℤ × ℤ = (pos 0, pos 0) in record {
        elements = [];
        walk = refl;
        wanted = record {
          across = zero;
          down = zero;
          elements = sym (stays front.kind has_none zero zero);
          moved = record {
            due = begun.due ∙ ap (λ (has : Bool). cond has (AtMvd Across) (cbp_slot front.kind)) has_none;
            kind_is = begun.kind_is;
            blocks_are = begun.blocks_are;
            say = record {
              number_is = begun.say.number_is;
              address_is = begun.say.address_is;
              quant_is = begun.say.quant_is;
              across_is = begun.say.across_is ∙ h_is;
              down_is = begun.say.down_is ∙ v_is;
            };
          };
        };
      }

  -- ---- CBP

  fits_by : (intra coded : Bool) (n : ℕ) → intra ≡ false → coded ≡ true → n < 64 → MatchBool intra (n ≡ 63) (MatchBool coded (n < 64) (n ≡ 0))
  fits_by false true n other has six = six
  fits_by true coded n other has six = absurd cc
  fits_by false false n other has six = absurd cc

  -- CBP is due
  pub cbp_due : (k : MbKind) → has_cbp k ≡ true → slot before ≡ cbp_slot k → slot before ≡ AtCbp
  cbp_due k coded due = due ∙ ap (λ (b : Bool). cond b AtCbp (block_slot k (cond (is_intra k) 6 0))) coded

  pub some_cbp-taken : (k : MbKind) (n : ℕ) (old new : Reading) → is_intra k ≡ false → has_cbp k ≡ true → kind before ≡ k → n < 64 → IsTaken (next format before old) (Cbp n) old new → AreTaken (next format) before (IsPattern k before n) old new
  some_cbp-taken k n old new other coded kind_is six took = record {
    elements = Cbp n ∷ [];
    walk = (took.len, took.good, took.behind);
    wanted = record {
      fits = fits_by (is_intra k) (has_cbp k) n other coded six;
      elements = sym (ap (λ (b : Bool). cond b (Cbp n ∷ []) []) coded);
      due = ap (λ (k : MbKind). block_slot k (ones n)) kind_is;
      to_come = refl;
    };
  }

  -- ---- the header

  pub header-taken : (number last : ℕ) (front : Front) (h v told_h told_v : ℤ) (pattern : ℕ) (old mid there new : Reading) → h ≡ told_h → v ≡ told_v → (first : AreTaken (next format) before (IsFront number last before front) old mid) → (vector : AreTaken (next format) (after before first.elements) (IsVector number front (after before first.elements) (h, v)) mid there) → AreTaken (next format) (after (after before first.elements) vector.elements) (IsPattern front.kind (after (after before first.elements) vector.elements) pattern) there new → AreTaken (next format) before (IsHeader number before (record { address = front.address; kind = front.kind; quant = front.quant; h = told_h; v = told_v; pattern = pattern })) old new
  header-taken number last front h v told_h told_v pattern old mid there new h_is v_is first vector cbp =
      let k : MbKind = front.kind in
      let began : List Element = after before first.elements in
      let moved : List Element = after began vector.elements in
      let coded : List Element = after moved cbp.elements in
      let es : List Element = first.elements ++ (vector.elements ++ cbp.elements) in
      let behind : after before es ≡ coded = after-append before first.elements (vector.elements ++ cbp.elements) ∙ after-append began vector.elements cbp.elements in
      let same = behind_cbp moved k pattern cbp.elements cbp.wanted.elements in
      let here = say_again number front.address front.quant h v moved coded same vector.wanted.moved.say in record {
        elements = es;
        walk = goes-append (next format) before old mid new first.elements (vector.elements ++ cbp.elements) first.walk
            (goes-append (next format) began mid there new vector.elements cbp.elements vector.walk cbp.walk);
        wanted = record {
          difference = front.address - last;
          mquant = first.wanted.mquant;
          across = vector.wanted.across;
          down = vector.wanted.down;
          elements = whole_header first.elements vector.elements cbp.elements _ k first.wanted.mquant vector.wanted.across vector.wanted.down pattern first.wanted.elements vector.wanted.elements cbp.wanted.elements;
          pattern = cbp.wanted.fits;
          due = subst (λ (b : List Element). slot b ≡ block_slot k (ones pattern)) (sym behind) cbp.wanted.due;
          kind_is = subst (λ (b : List Element). kind b ≡ k) (sym behind) (said_kind moved coded k same vector.wanted.moved.kind_is);
          to_come = subst (λ (b : List Element). blocks b ≡ ones pattern) (sym behind) cbp.wanted.to_come;
          say = subst (λ (b : List Element). Say number front.address front.quant told_h told_v b) (sym behind) (record {
            number_is = here.number_is;
            address_is = here.address_is;
            quant_is = here.quant_is;
            across_is = here.across_is ∙ h_is;
            down_is = here.down_is ∙ v_is;
          });
        };
      }
