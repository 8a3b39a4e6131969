-- The entries of a made file are spelled as those of a conference file.
use Rattle.std.proofs.Common.{◌≡◌, ℕ, zero, suc, ◌+◌, ◌/◌, ◌%◌, ◌^◌, ◌<◌, ◌≤◌, ◌==◌, nat_lt, Bool, true, false, if◌then◌else◌, List, [], ◌∷◌, ◌++◌, length, take, map, codes, refl, sym, subst, arith, append_assoc, append-nil}
use Rattle.std.proofs.lemmas.Bool.Decides.{nat_tests}
use Rattle.std.specs.List.{AllByRecursion, AllZip, concat}
use Rattle.chair_words.specs.Line.{line_saying}
use Rattle.chair_words.proofs.Written.{says_written}
use Rattle.conf_file.specs.Entries.{Content, Packet, Chair, Tick, End, SpellsEntry}
use Rattle.conf_file.specs.File.{IsNotEnd}
use Rattle.conf_file.specs.Header.{HasLanes}
use Rattle.pel_model.specs.declared.Quad.TheVariants.{One, Two, Three, Four}
use Rattle.pel_model.specs.declared.chair.Command.TheVariants.{Place, Speaker}
use Rattle.conf_make.specs.Draws.{next_state, draw}
use Rattle.conf_make.specs.Laws.{LawOfMadeFiles}
use Rattle.conf_make.specs.Made.{is_lost, picture, sent, behind_lane, all_sent, behind_lanes, spoken, tick_entries, behind_tick, all_ticks, placed_lanes, contents, entry_of}
use Rattle.conf_make.specs.Packets.{made_packet}
use Rattle.conf_make.proofs.Lengths.{length-picture, length-packet}

-- an entry that is spelled, and is not the end
pub record IsGood (lanes : ℕ) (content : Content) : Type 0 where
  pub spelled : SpellsEntry lanes content (entry_of content)
  pub going_on : IsNotEnd content

both : (lanes : ℕ) (xs ys : List Content) → AllByRecursion (IsGood lanes) xs → AllByRecursion (IsGood lanes) ys → AllByRecursion (IsGood lanes) (xs ++ ys)
both lanes [] ys h k = k
both lanes (x ∷ xs) ys h k = (h.0, both lanes xs ys h.1 k)

-- ---- a lane

by_loss : (lost : Bool) (lanes tick lane state : ℕ) → lane < lanes
    → AllByRecursion (IsGood lanes) (if lost then [] else Packet lane (made_packet tick lane (picture tick lane (next_state state))) ∷ [])
by_loss true lanes tick lane state less = tt
by_loss false lanes tick lane state less = (
  record {
    spelled = (refl, less, length-packet tick lane (picture tick lane (next_state state)) (length-picture tick lane (next_state state)));
    going_on = λ e. cc;
  },
  tt,
)

sent-good : (lanes tick lane state : ℕ) → lane < lanes → AllByRecursion (IsGood lanes) (sent tick lane state)
unfolding sent
sent-good lanes tick lane state less = by_loss (is_lost tick state) lanes tick lane state less

all-good : (n lanes tick lane state : ℕ) → lane + n ≤ lanes → AllByRecursion (IsGood lanes) (all_sent n tick lane state)
all-good zero lanes tick lane state fits = tt
all-good (suc n) lanes tick lane state fits =
    both lanes (sent tick lane state) (all_sent n tick (suc lane) (behind_lane tick lane state))
    (sent-good lanes tick lane state (omega (arith, fits)))
    (all-good n lanes tick (suc lane) (behind_lane tick lane state) (omega (arith, fits)))

-- ---- a tick

digits-short : (b : Bool) (k m n : ℕ) → length (if b then k ∷ [] else m ∷ n ∷ []) ≤ 2
digits-short true k m n = omega arith
digits-short false k m n = omega arith

speaker-short : (lane : ℕ) → length (line_saying (Speaker lane)) < 2 ^ 8
speaker-short lane = omega (arith, digits-short (nat_lt lane 10) (48 + lane) (48 + lane / 10) (48 + lane % 10))

speaker-good : (lanes lane : ℕ) → lane < 16 → IsGood lanes (Chair (Speaker lane))
speaker-good lanes lane less = record {
  spelled = (line_saying (Speaker lane), refl, speaker-short lane, says_written (Speaker lane) (grind (arith, nat_tests, less)));
  going_on = λ e. cc;
}

by_turn : (turn : Bool) (lanes lane : ℕ) → lane < 16 → AllByRecursion (IsGood lanes) (if turn then Chair (Speaker lane) ∷ [] else [])
by_turn true lanes lane less = (speaker-good lanes lane less, tt)
by_turn false lanes lane less = tt

spoken-good : (lanes tick state : ℕ) → HasLanes lanes → AllByRecursion (IsGood lanes) (spoken lanes tick state)
unfolding spoken
spoken-good lanes tick state fits = by_turn (tick % 25 == 0) lanes (draw (next_state state) % lanes) (omega (arith, fits.0, fits.1))

tick-good : (lanes : ℕ) → IsGood lanes (Tick 3)
tick-good lanes = record { spelled = (refl, (omega arith, omega arith)); going_on = λ e. cc }

entries-good : (lanes tick state : ℕ) → HasLanes lanes → AllByRecursion (IsGood lanes) (tick_entries lanes tick state)
unfolding tick_entries
entries-good lanes tick state fits =
    both lanes (all_sent lanes tick 0 state) (spoken lanes tick (behind_lanes lanes tick 0 state) ++ Tick 3 ∷ [])
    (all-good lanes lanes tick 0 state (omega arith))
    (both lanes (spoken lanes tick (behind_lanes lanes tick 0 state)) (Tick 3 ∷ []) (spoken-good lanes tick (behind_lanes lanes tick 0 state) fits) (tick-good lanes, tt))

ticks-good : (n lanes tick state : ℕ) → HasLanes lanes → AllByRecursion (IsGood lanes) (all_ticks n lanes tick state)
ticks-good zero lanes tick state fits = tt
ticks-good (suc n) lanes tick state fits =
    both lanes (tick_entries lanes tick state) (all_ticks n lanes (suc tick) (behind_tick lanes tick state))
    (entries-good lanes tick state fits) (ticks-good n lanes (suc tick) (behind_tick lanes tick state) fits)

-- ---- the file

front-good : (n lanes : ℕ) (list : List Content) → AllByRecursion (IsGood lanes) list → AllByRecursion (IsGood lanes) (take n list)
front-good zero lanes list h = tt
front-good (suc n) lanes [] h = tt
front-good (suc n) lanes (x ∷ xs) h = (h.0, front-good n lanes xs h.1)

placed-good : (lanes : ℕ) → AllByRecursion (IsGood lanes) (placed_lanes lanes)
unfolding placed_lanes
placed-good lanes =
    front-good lanes lanes _ (
      record { spelled = (codes "place 1 0", refl, omega arith, says_written (Place One 0) refl); going_on = λ e. cc },
      (
        record { spelled = (codes "place 2 1", refl, omega arith, says_written (Place Two 1) refl); going_on = λ e. cc },
        (
          record { spelled = (codes "place 3 2", refl, omega arith, says_written (Place Three 2) refl); going_on = λ e. cc },
          (record { spelled = (codes "place 4 3", refl, omega arith, says_written (Place Four 3) refl); going_on = λ e. cc }, tt),
        ),
      ),
    )

going-on : (lanes : ℕ) (list : List Content) → AllByRecursion (IsGood lanes) list → AllByRecursion IsNotEnd list
going-on lanes [] h = tt
going-on lanes (x ∷ xs) h = (h.0.going_on, going-on lanes xs h.1)

spelled-all : (lanes : ℕ) (list : List Content) → AllByRecursion (IsGood lanes) list → AllZip (SpellsEntry lanes) (list ++ End ∷ []) (map entry_of (list ++ End ∷ []))
spelled-all lanes [] h = (refl, tt)
spelled-all lanes (x ∷ xs) h = (h.0.spelled, spelled-all lanes xs h.1)

pub made-files : LawOfMadeFiles
made-files seed ticks lanes fits =
    let list = placed_lanes lanes ++ all_ticks ticks lanes 1 seed in
    let good = both lanes (placed_lanes lanes) (all_ticks ticks lanes 1 seed) (placed-good lanes) (ticks-good ticks lanes 1 seed fits) in
    let order : contents seed ticks lanes ≡ list ++ End ∷ [] = sym (append_assoc (placed_lanes lanes) (all_ticks ticks lanes 1 seed) (End ∷ [])) in (
      concat (map entry_of (contents seed ticks lanes)),
      refl,
      fits,
      record {
        at = 10 + length (concat (map entry_of (contents seed ticks lanes)));
        left = [];
        begins = record {
          entries = map entry_of (contents seed ticks lanes);
          cut = sym (append-nil (concat (map entry_of (contents seed ticks lanes))));
          spelled = subst (λ (cs : List Content). AllZip (SpellsEntry lanes) cs (map entry_of cs)) (sym order) (spelled-all lanes list good);
          counted = refl;
        };
        stops = (list, order, going-on lanes list good);
      },
    )
