-- The macroblocks of a group are read and drawn one by one; and the groups of a picture.
use Rattle.std.proofs.Common.{◌≡◌, ℕ, ◌+◌, ◌<◌, ◌≤◌, Bool, false, List, [], ◌∷◌, ◌++◌, length, Option, Some, None, All, pos, refl, sym, ◌∙◌, ap, subst, append_assoc, append-nil, arith}
use Rattle.std.proofs.lemmas.List.{length-append}
use Rattle.std.proofs.lemmas.List.Elements.{All-head, All-tail}
use Rattle.pel_model.specs.declared.Format.{Format}
use Rattle.pel_model.specs.Grammar.{Element, Gbsc, Gn, Gquant, Gei, vector_component}
use Rattle.pel_model.specs.Records.{Macroblock, Group, quantiser_after, quantiser_behind}
use Rattle.pel_model.specs.Text.{address_of, macroblock_text, macroblocks_text}
use Rattle.pel_model.specs.Valid.{AddressesRise, IsValidMacroblock, IsValidGroup}
use Rattle.pel_model.specs.Walk.{after}
use Rattle.h261_mb.specs.declared.state.MbState.{MbState}
use Rattle.h261_mb.specs.State.{Stands}
use Rattle.picture_laws.specs.PictureElements.{elements_of_macroblock as macroblock_elements}
use Rattle.picture_laws.specs.SoFar.{IsBehind}
use Rattle.picture_laws.proofs.Macroblocks.{says-macroblock, both_axes}
use Rattle.ref_decode.specs.Drawing.{ComesNext, BlocksDrawn, GroupDrawn, MacroblockDrawn}
use Rattle.ref_decode.proofs.Looking.{AllBelow, no_macroblocks, macroblock_more}

-- the elements of a group's header, newest first
abbrev pub group_before : (number quant : ℕ) → List Element
group_before number quant = Gei false ∷ Gquant quant ∷ Gn number ∷ Gbsc ∷ []

pub begins_group : (number quant : ℕ) → IsBehind number None (group_before number quant)
begins_group number quant = record {
  at = refl;
  group_is = refl;
  address_is = refl;
  vector_is = both_axes (λ axis. vector_component axis (group_before number quant) ≡ pos 0) refl refl;
  last_is = tt;
}

pub stands_first : (number quant : ℕ) → Stands number (record { address = 0; quant = quant; h = pos 0; v = pos 0 }) (group_before number quant)
stands_first number quant = record {
  due = refl;
  say = record { number_is = refl; address_is = refl; quant_is = refl; across_is = refl; down_is = refl };
}

-- ---- the macroblocks that were drawn, and those to come

pub record GroupSoFar (format : Format) (g : Group) (rest : List Bool) (count : ℕ) (state : MbState) (r : List Bool × ℕ) (shown old new : List ℕ) : Type 0 where
  pub before : List Element
  pub last : Option Macroblock
  pub done : List Macroblock
  pub left : List Macroblock
  pub behind : IsBehind g.number last before
  pub stands : Stands g.number state before
  pub parts : g.macroblocks ≡ done ++ left
  pub many : length done ≡ count
  pub rises : AddressesRise (address_of last) left
  pub valid : All (IsValidMacroblock format g.number) left
  pub bits : r.0 ≡ macroblocks_text last left ++ rest
  pub quant_is : state.quant ≡ quantiser_behind g.quant done
  pub below : AllBelow (address_of last + 1) done
  pub drawn : GroupDrawn format g.number g.quant done shown old new

pub none_so_far : (format : Format) (g : Group) (rest : List Bool) (r : List Bool × ℕ) (shown old : List ℕ) → IsValidGroup format g → r.0 ≡ macroblocks_text None g.macroblocks ++ rest → GroupSoFar format g rest 0 (record { address = 0; quant = g.quant; h = pos 0; v = pos 0 }) r shown old old
none_so_far format g rest r shown old valid bits = record {
  before = group_before g.number g.quant;
  last = None;
  done = [];
  left = g.macroblocks;
  behind = begins_group g.number g.quant;
  stands = stands_first g.number g.quant;
  parts = refl;
  many = refl;
  rises = valid.addresses;
  valid = valid.macroblocks;
  bits = bits;
  quant_is = refl;
  below = tt;
  drawn = no_macroblocks format g.number g.quant shown old;
}

below_further : (a b : ℕ) (ms : List Macroblock) → a ≤ b → AllBelow a ms → AllBelow b ms
below_further a b [] h all = tt
below_further a b (m ∷ ms) h all = (omega (arith, all.0, h), below_further a b ms h all.1)

below_snoc : (a : ℕ) (ms : List Macroblock) (m : Macroblock) → AllBelow a ms → m.address < a → AllBelow a (ms ++ m ∷ [])
below_snoc a [] m all h = (h, tt)
below_snoc a (x ∷ ms) m all h = (all.0, below_snoc a ms m all.1 h)

behind_snoc : (q : ℕ) (ms : List Macroblock) (m : Macroblock) → quantiser_behind q (ms ++ m ∷ []) ≡ quantiser_after (quantiser_behind q ms) m.mquant
behind_snoc q [] m = refl
behind_snoc q (x ∷ ms) m = behind_snoc (quantiser_after q x.mquant) ms m

-- the next macroblock
pub record Coming (format : Format) (g : Group) (rest : List Bool) (state : MbState) (r : List Bool × ℕ) : Type 0 where
  pub before : List Element
  pub last : Option Macroblock
  pub m : Macroblock
  pub tail : List Bool
  pub next : ComesNext format g.number last m before
  pub stands : Stands g.number state before
  pub bits : r.0 ≡ macroblock_text last m ++ tail

-- where not all were drawn, one comes
comes : (format : Format) (g : Group) (rest : List Bool) (count : ℕ) (state : MbState) (r : List Bool × ℕ) (shown old new : List ℕ) (so_far : GroupSoFar format g rest count state r shown old new) → (left : List Macroblock) → left ≡ so_far.left → count < length g.macroblocks → (m : Macroblock) × (ms : List Macroblock) × (so_far.left ≡ m ∷ ms)
comes format g rest count state r shown old new so_far [] is few =
    absurd (omega (arith, ap length so_far.parts, length-append so_far.done so_far.left, ap length is, so_far.many, few))
comes format g rest count state r shown old new so_far (m ∷ ms) is few = (m, ms, sym is)

text_parts : (last : Option Macroblock) (m : Macroblock) (ms : List Macroblock) (rest : List Bool) → macroblocks_text last (m ∷ ms) ++ rest ≡ macroblock_text last m ++ (macroblocks_text (Some m) ms ++ rest)
unfolding macroblocks_text
text_parts last m ms rest = append_assoc (macroblock_text last m) (macroblocks_text (Some m) ms) rest

pub no_text : (last : Option Macroblock) → macroblocks_text last [] ≡ []
unfolding macroblocks_text
no_text last = refl

module _ (format : Format) (g : Group) (rest : List Bool) (count : ℕ) (state : MbState) (r : List Bool × ℕ) (shown old mid : List ℕ) (so_far : GroupSoFar format g rest count state r shown old mid) (few : count < length g.macroblocks) where
  pub one : (m : Macroblock) × (ms : List Macroblock) × (so_far.left ≡ m ∷ ms)
  one = comes format g rest count state r shown old mid so_far so_far.left refl few

  pub rest_of : List Bool
  rest_of = macroblocks_text (Some one.0) one.1 ++ rest

  pub next_one : ComesNext format g.number so_far.last one.0 so_far.before
  next_one =
      let rises = subst (AddressesRise (address_of so_far.last)) one.2 so_far.rises in
      let valid = subst (All (IsValidMacroblock format g.number)) one.2 so_far.valid in
      record { behind = so_far.behind; rises = rises.0; most = rises.1; valid = All-head (IsValidMacroblock format g.number) one.0 one.1 valid }

  pub text_here : r.0 ≡ macroblock_text so_far.last one.0 ++ rest_of
  unfolding rest_of
  text_here = so_far.bits ∙ (ap (λ ms. macroblocks_text so_far.last ms ++ rest) one.2 ∙ text_parts so_far.last one.0 one.1 rest)

  -- with one more
  pub one_further : (state' : MbState) (r' : List Bool × ℕ) (new : List ℕ) → MacroblockDrawn format g.number so_far.before so_far.last one.0 rest_of shown mid new state state' r' → GroupSoFar format g rest (count + 1) state' r' shown old new
  unfolding rest_of
  one_further state' r' new done =
      let rises = subst (AddressesRise (address_of so_far.last)) one.2 so_far.rises in
      let valid = subst (All (IsValidMacroblock format g.number)) one.2 so_far.valid in
      let m : Macroblock = one.0 in
      record {
        before = after so_far.before (macroblock_elements so_far.last one.0);
        last = Some one.0;
        done = so_far.done ++ one.0 ∷ [];
        left = one.1;
        behind = (says-macroblock format g.number so_far.last one.0 so_far.before so_far.behind rises.0 rises.1 (All-head (IsValidMacroblock format g.number) one.0 one.1 valid)).1;
        stands = done.stands;
        parts = so_far.parts ∙ (ap (λ ms. so_far.done ++ ms) one.2 ∙ sym (append_assoc so_far.done (one.0 ∷ []) one.1));
        many = length-append so_far.done (one.0 ∷ []) ∙ ap (λ n. n + 1) so_far.many;
        rises = rises.2;
        valid = All-tail (IsValidMacroblock format g.number) one.0 one.1 valid;
        bits = done.rest_is;
        quant_is = done.quant_is ∙ (ap (λ q. quantiser_after q one.0.mquant) so_far.quant_is ∙ sym (behind_snoc g.quant so_far.done one.0));
        below = below_snoc (one.0.address + 1) so_far.done one.0 (below_further (address_of so_far.last + 1) (one.0.address + 1) so_far.done (omega (arith, rises.0)) so_far.below) (omega arith);
        drawn = macroblock_more format g.number g.quant so_far.done one.0 shown old mid new (below_further (address_of so_far.last + 1) one.0.address so_far.done (omega (arith, rises.0)) so_far.below) so_far.drawn
            (subst (λ q. BlocksDrawn format g.number (record { macroblock = one.0; quant = q }) 6 shown mid new) (ap (λ q. quantiser_after q one.0.mquant) so_far.quant_is) done.drawn);
      }

-- behind the last one
pub all_done : (format : Format) (g : Group) (rest : List Bool) (count : ℕ) (state : MbState) (r : List Bool × ℕ) (shown old new : List ℕ) (so_far : GroupSoFar format g rest count state r shown old new) → count ≡ length g.macroblocks → (r.0 ≡ rest) × GroupDrawn format g.number g.quant g.macroblocks shown old new
all_done format g rest count state r shown old new so_far all =
    let none : so_far.left ≡ [] = no_more so_far.left (omega (arith, ap length so_far.parts, length-append so_far.done so_far.left, so_far.many, all)) in
    let whole : so_far.done ≡ g.macroblocks = sym (so_far.parts ∙ (ap (λ ms. so_far.done ++ ms) none ∙ append-nil so_far.done)) in (
      so_far.bits ∙ (ap (λ ms. macroblocks_text so_far.last ms ++ rest) none ∙ ap (λ t. t ++ rest) (no_text so_far.last)),
      subst (λ ms. GroupDrawn format g.number g.quant ms shown old new) whole so_far.drawn,
    )
  where
    no_more : (ms : List Macroblock) → length ms ≡ 0 → ms ≡ []
    no_more [] h = refl
    no_more (m ∷ ms) h = absurd (omega (arith, h))
