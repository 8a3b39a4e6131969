-- The fields of a coded picture that has one more group.
use Rattle.std.proofs.Common.{◌≡◌, ℕ, ◌+◌, ◌-◌, ◌*◌, ◌^◌, ◌<◌, ◌≤◌, Bool, List, [], ◌∷◌, ◌++◌, length, sym, ◌∙◌, ap, subst, slice_index, arith, length-append}
use Rattle.h261_pic.specs.declared.coded.GroupView.{GroupView}
use Rattle.h261_pic.specs.Coded.{Coding, placed, grown, next_number, HasPicture}
use Rattle.h261_pic.proofs.Texts.{length-group_header}
use Rattle.h261_pic.proofs.PlacedMarks.{length-placed}
use Rattle.pel_model.specs.declared.Format.{Format}
use Rattle.pel_model.specs.declared.Format.TheVariants.{Qcif, Cif}
use Rattle.pel_model.specs.declared.Mark.{Mark}
use Rattle.pel_model.specs.Text.{text, group_header}
use Rattle.pel_model.specs.Valid.{group_numbers, group_count, limit}
use Rattle.pel_bits.specs.Buffer.{Buffer}
use Rattle.h261_pic.proofs.Grows.{marks-fit, has-grown, written-grown}
use Rattle.h261_pic.specs.Adding.{IsGroupText, room_of}

pub length-grown : (list list' bits : List Bool) (number quant : ℕ) → list' ≡ list ++ group_header number quant ++ bits → length list' ≡ length list + 26 + length bits
length-grown list list' bits number quant is =
    ap length is ∙ length-append (list ++ group_header number quant) bits
    ∙ ap (λ n. n + length bits) (length-append list (group_header number quant) ∙ ap (λ n. length list + n) (length-group_header number quant))

-- a picture has at most 12 groups
pub few_groups : (format : Format) → group_count format ≤ 12
few_groups Qcif = omega arith
few_groups Cif = omega arith

-- a picture's bits have places of 32 bits
pub few_bits : (format : Format) → limit format < 2 ^ 32
few_bits Qcif = omega arith
few_bits Cif = omega arith

-- what is asked of a picture that is to grow
pub record MayGrow (c : Coding) (quant : ℕ) (bits : List Bool) (marks : List Mark) : Type 0 where
  pub begun : 0 < length c.bits
  pub next : length c.groups < group_count c.format
  pub room : length c.bits + length bits + 26 * (group_count c.format - length c.groups) ≤ limit c.format
  pub text : IsGroupText c.format (next_number c) quant bits marks
  pub marks_before : length c.marks ≤ 33 * length c.groups

-- the fields may grow where what contracts see of them may
pub may-grow : (fields c : Coding) (quant : ℕ) (bits : List Bool) (marks : List Mark) → fields ≡ c → 0 < length c.bits → length c.groups < group_count c.format
    → length bits ≤ room_of c → IsGroupText c.format (next_number c) quant bits marks → length fields.marks ≤ 33 * length fields.groups
    → (0 < length fields.bits → length fields.bits + 26 * (group_count fields.format - length fields.groups) ≤ limit fields.format)
    → MayGrow fields quant bits marks
may-grow fields c quant bits marks is begun next fits text few room =
    let P : Coding → Type 0 = λ k. length k.marks ≤ 33 * length k.groups
    → (0 < length k.bits → length k.bits + 26 * (group_count k.format - length k.groups) ≤ limit k.format) → MayGrow k quant bits marks in
    subst P (sym is) (λ few room. record { begun = begun; next = next; room = omega (arith, fits, room begun); text = text; marks_before = few }) few room

-- the fields of a picture that has grown
pub record IsGrown (format : Format) (tr : ℕ) (text : Buffer) (groups : List GroupView) (all : List Mark) : Type 0 where
  pub capacity : text.capacity ≡ limit format
  pub begun : 0 < length text.list
  pub within : length text.list ≤ limit format
  pub count : length groups ≤ group_count format
  pub room : length text.list + 26 * (group_count format - length groups) ≤ limit format
  pub marks : length all ≤ 33 * length groups
  pub picture : HasPicture (record { format = format; tr = tr; bits = text.list; groups = groups; marks = all })

-- the bits of a group fit behind its header
pub header-room : (format : Format) (text text' : Buffer) (number quant : ℕ) (groups : List GroupView) (bits : List Bool)
    → text' ≡ record text { list = text.list ++ group_header number quant } → text.capacity ≡ limit format → length groups < group_count format
    → length text.list + length bits + 26 * (group_count format - length groups) ≤ limit format
    → (length text'.list + length bits ≤ text'.capacity) × (length text'.list ≡ length text.list + 26)
header-room format text text' number quant groups bits is capacity next room =
    let long : length text'.list ≡ length text.list + 26 =
    ap (λ (b : Buffer). length b.list) is ∙ length-append text.list (group_header number quant) ∙ ap (λ n. length text.list + n) (length-group_header number quant) in
    let same : text'.capacity ≡ text.capacity = ap (λ (b : Buffer). b.capacity) is in
    (omega arith, long)

-- the fields are sound when the picture has grown
pub sound-grown : (format : Format) (tr : ℕ) (text text' text'' : Buffer) (groups groups' : List GroupView) (all all' marks : List Mark) (number quant from len first count : ℕ) (bits : List Bool)
    → (let old : Coding = record { format = format; tr = tr; bits = text.list; groups = groups; marks = all } in MayGrow old quant bits marks × HasPicture old)
    → text' ≡ record text { list = text.list ++ group_header number quant } → text'' ≡ record text' { list = text'.list ++ bits }
    → all' ≡ all ++ placed (length text'.list) number marks
    → groups' ≡ groups ++ record { number = number; quant = quant; from = from; len = len; first_mark = first; marks = count } ∷ []
    → number ≡ slice_index (group_numbers format) (length groups) → from ≡ length text'.list → len ≡ length bits → first ≡ length all → count ≡ length marks
    → text.capacity ≡ limit format
    → IsGrown format tr text'' groups' all' × (let c : Coding = record { format = format; tr = tr; bits = text''.list; groups = groups'; marks = all' } in
    let old : Coding = record { format = format; tr = tr; bits = text.list; groups = groups; marks = all } in
    c ≡ grown old quant bits marks)
sound-grown format tr text text' text'' groups groups' all all' marks number quant from len first count bits (may, has) text_is text_is' all_are groups_are number_is from_is len_is first_is count_is capacity =
    let old : Coding = record { format = format; tr = tr; bits = text.list; groups = groups; marks = all } in
    let header : (length text'.list + length bits ≤ text'.capacity) × (length text'.list ≡ length text.list + 26) =
    header-room format text text' number quant groups bits text_is capacity may.next may.room in
    let list_is : text''.list ≡ text.list ++ group_header number quant ++ bits =
    ap (λ (b : Buffer). b.list) text_is' ∙ ap (λ (b : Buffer). b.list ++ bits) text_is in
    let long : length text''.list ≡ length text.list + 26 + length bits = length-grown text.list text''.list bits number quant list_is in
    let more : length groups' ≡ length groups + 1 =
    ap length groups_are ∙ length-append groups (record { number = number; quant = quant; from = from; len = len; first_mark = first; marks = count } ∷ []) in
    let all_more : length all' ≡ length all + length marks =
    ap length all_are ∙ length-append all (placed (length text'.list) number marks) ∙ ap (λ n. length all + n) (length-placed (length text'.list) number marks) in
    let few : length marks ≤ 33 = marks-fit format (next_number old) quant bits marks may.text in
    let same : record { format = format; tr = tr; bits = text''.list; groups = groups'; marks = all' } ≡ grown old quant bits marks =
    written-grown format tr text.list text''.list bits groups groups' all all' marks number quant from len first count list_is groups_are
    (all_are ∙ ap (λ n. all ++ placed n number marks) (sym from_is)) number_is (from_is ∙ header.1) len_is first_is count_is in (
      record {
        capacity = ap (λ (b : Buffer). b.capacity) text_is' ∙ ap (λ (b : Buffer). b.capacity) text_is ∙ capacity;
        begun = omega arith;
        within = omega (arith, may.room, may.next);
        count = omega (arith, may.next);
        room = omega (arith, may.room, may.next);
        marks = omega (arith, may.marks_before);
        picture = subst HasPicture (sym same) (has-grown old quant bits marks has may.next may.text);
      },
      same,
    )
