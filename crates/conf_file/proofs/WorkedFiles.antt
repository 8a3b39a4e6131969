-- Worked files: what each says, octet by octet, with a file at the border of each rule.
use Rattle.std.proofs.Common.{◌≡◌, ℕ, List, [], ◌∷◌, ◌++◌, inl, inr, slice_index, codes, refl, ap, arith}
use Rattle.pel_model.specs.declared.Quad.TheVariants.{One}
use Rattle.pel_model.specs.declared.chair.Command.TheVariants.{Place}
use Rattle.chair_words.specs.Words.{word_from}
use Rattle.chair_words.specs.Line.{a_place, a_lane}
use Rattle.chair_words.specs.declared.reader.LineFault.{LineFault}
use Rattle.chair_words.specs.declared.reader.LineWhy.TheVariants.{BadNumber}
use Rattle.chair_words.proofs.Written.{says_written}
use Rattle.conf_file.specs.declared.answers.EntryWhy.TheVariants.{Kind, Lane, Step, Order}
use Rattle.conf_file.specs.Entries.{Packet, Chair, Tick, End}
use Rattle.conf_file.specs.File.{Whole, WrongAt, CutAt, Conference, WrongHeader, CutHeader, IsFile}

abbrev file_of : ℕ → List ℕ → List ℕ
file_of lanes entries = codes "H261CONF" ++ 1 ∷ lanes ∷ entries

-- the 22 octets of a conference with one command
without_ticks : IsFile (file_of 1 (67 ∷ 9 ∷ codes "place 1 0" ++ 69 ∷ [])) (Conference 1 (Chair (Place One 0) ∷ End ∷ []) Whole)
without_ticks = (
  67 ∷ 9 ∷ codes "place 1 0" ++ 69 ∷ [],
  refl,
  (omega arith, omega arith),
  record {
    at = 22;
    left = [];
    begins = record {
      entries = (67 ∷ 9 ∷ codes "place 1 0") ∷ (69 ∷ []) ∷ [];
      cut = refl;
      spelled = ((codes "place 1 0", refl, omega arith, says_written (Place One 0) refl), (refl, tt));
      counted = refl;
    };
    stops = (Chair (Place One 0) ∷ [], refl, ((λ e. cc), tt));
  },
)

-- two ticks, and then an octet that begins no entry
bad_kind : IsFile (file_of 1 (84 ∷ 1 ∷ 84 ∷ 1 ∷ 90 ∷ [])) (Conference 1 (Tick 1 ∷ Tick 1 ∷ []) (WrongAt 14 Kind))
bad_kind = (
  84 ∷ 1 ∷ 84 ∷ 1 ∷ 90 ∷ [],
  refl,
  (omega arith, omega arith),
  record {
    at = 14;
    left = 90 ∷ [];
    begins = record {
      entries = (84 ∷ 1 ∷ []) ∷ (84 ∷ 1 ∷ []) ∷ [];
      cut = refl;
      spelled = ((refl, (omega arith, omega arith)), ((refl, (omega arith, omega arith)), tt));
      counted = refl;
    };
    stops = (((λ e. cc), ((λ e. cc), tt)), refl, ([], (90, refl, ((λ e. omega (arith, e)), (λ e. omega (arith, e)), (λ e. omega (arith, e)), (λ e. omega (arith, e))))));
  },
)

-- or an entry that is cut
cut_tick : IsFile (file_of 1 (84 ∷ 1 ∷ 84 ∷ 1 ∷ 84 ∷ [])) (Conference 1 (Tick 1 ∷ Tick 1 ∷ []) (CutAt 15))
cut_tick = (
  84 ∷ 1 ∷ 84 ∷ 1 ∷ 84 ∷ [],
  refl,
  (omega arith, omega arith),
  record {
    at = 14;
    left = 84 ∷ [];
    begins = record {
      entries = (84 ∷ 1 ∷ []) ∷ (84 ∷ 1 ∷ []) ∷ [];
      cut = refl;
      spelled = ((refl, (omega arith, omega arith)), ((refl, (omega arith, omega arith)), tt));
      counted = refl;
    };
    stops = (((λ e. cc), ((λ e. cc), tt)), refl, inr (inr (refl, refl)));
  },
)

-- the longest step, an empty packet of the last lane, a packet of two octets, and what stands behind the end
whole : IsFile (file_of 16 (84 ∷ 31 ∷ 80 ∷ 15 ∷ 0 ∷ 0 ∷ 80 ∷ 0 ∷ 0 ∷ 2 ∷ 7 ∷ 8 ∷ 69 ∷ 90 ∷ []))
    (Conference 16 (Tick 31 ∷ Packet 15 [] ∷ Packet 0 (7 ∷ 8 ∷ []) ∷ End ∷ []) Whole)
whole = (
  84 ∷ 31 ∷ 80 ∷ 15 ∷ 0 ∷ 0 ∷ 80 ∷ 0 ∷ 0 ∷ 2 ∷ 7 ∷ 8 ∷ 69 ∷ 90 ∷ [],
  refl,
  (omega arith, omega arith),
  record {
    at = 23;
    left = 90 ∷ [];
    begins = record {
      entries = (84 ∷ 31 ∷ []) ∷ (80 ∷ 15 ∷ 0 ∷ 0 ∷ []) ∷ (80 ∷ 0 ∷ 0 ∷ 2 ∷ 7 ∷ 8 ∷ []) ∷ (69 ∷ []) ∷ [];
      cut = refl;
      spelled = ((refl, (omega arith, omega arith)), ((refl, omega arith, omega arith), ((refl, omega arith, omega arith), (refl, tt))));
      counted = refl;
    };
    stops = (Tick 31 ∷ Packet 15 [] ∷ Packet 0 (7 ∷ 8 ∷ []) ∷ [], refl, ((λ e. cc), ((λ e. cc), ((λ e. cc), tt))));
  },
)

-- a lane that the conference does not have; what follows does not matter
bad_lane : IsFile (file_of 2 (80 ∷ 2 ∷ 0 ∷ 1 ∷ [])) (Conference 2 [] (WrongAt 10 Lane))
bad_lane = (
  80 ∷ 2 ∷ 0 ∷ 1 ∷ [],
  refl,
  (omega arith, omega arith),
  record {
    at = 10;
    left = 80 ∷ 2 ∷ 0 ∷ 1 ∷ [];
    begins = record { entries = []; cut = refl; spelled = tt; counted = refl };
    stops = (tt, refl, (0 ∷ 1 ∷ [], (2, refl, omega arith)));
  },
)

-- a packet of 258 octets of which one is there
cut_packet : IsFile (file_of 2 (80 ∷ 1 ∷ 1 ∷ 2 ∷ 7 ∷ [])) (Conference 2 [] (CutAt 15))
cut_packet = (
  80 ∷ 1 ∷ 1 ∷ 2 ∷ 7 ∷ [],
  refl,
  (omega arith, omega arith),
  record {
    at = 10;
    left = 80 ∷ 1 ∷ 1 ∷ 2 ∷ 7 ∷ [];
    begins = record { entries = []; cut = refl; spelled = tt; counted = refl };
    stops = (tt, refl, inl (refl, (omega arith, omega arith)));
  },
)

-- steps before the first and behind the last
step_0 : IsFile (file_of 1 (84 ∷ 0 ∷ [])) (Conference 1 [] (WrongAt 10 Step))
step_0 = (
  84 ∷ 0 ∷ [],
  refl,
  (omega arith, omega arith),
  record {
    at = 10;
    left = 84 ∷ 0 ∷ [];
    begins = record { entries = []; cut = refl; spelled = tt; counted = refl };
    stops = (tt, refl, ([], (0, refl, λ s. omega (arith, s.0))));
  },
)

step_32 : IsFile (file_of 1 (84 ∷ 32 ∷ [])) (Conference 1 [] (WrongAt 10 Step))
step_32 = (
  84 ∷ 32 ∷ [],
  refl,
  (omega arith, omega arith),
  record {
    at = 10;
    left = 84 ∷ 32 ∷ [];
    begins = record { entries = []; cut = refl; spelled = tt; counted = refl };
    stops = (tt, refl, ([], (32, refl, λ s. omega (arith, s.1))));
  },
)

-- a line at fault, once it is there
abbrev bad_number : LineFault
bad_number = record { place = 6; why = BadNumber }

bad_line : IsFile (file_of 1 (67 ∷ 7 ∷ codes "place 9")) (Conference 1 [] (WrongAt 10 (Order bad_number)))
bad_line = (
  67 ∷ 7 ∷ codes "place 9",
  refl,
  (omega arith, omega arith),
  record {
    at = 10;
    left = 67 ∷ 7 ∷ codes "place 9";
    begins = record { entries = []; cut = refl; spelled = tt; counted = refl };
    stops = (
      tt,
      refl,
      (
        [],
        (
          codes "place 9",
          refl,
          omega arith,
          (
            a_place,
            a_lane ∷ [],
            word_from 6 (codes "9"),
            [],
            record {
              name = word_from 0 (codes "place");
              numbers = [];
              whole = refl;
              command = Place One 0;
              named = refl;
              had = [];
              asked = refl;
              good = tt;
            },
            refl,
            refl,
          ),
        ),
      ),
    );
  },
)

cut_line : IsFile (file_of 1 (67 ∷ 8 ∷ codes "place 9")) (Conference 1 [] (CutAt 19))
cut_line = (
  67 ∷ 8 ∷ codes "place 9",
  refl,
  (omega arith, omega arith),
  record {
    at = 10;
    left = 67 ∷ 8 ∷ codes "place 9";
    begins = record { entries = []; cut = refl; spelled = tt; counted = refl };
    stops = (tt, refl, inr (inl (refl, omega arith)));
  },
)

-- headers: none, another version, no lane and one lane too many
no_header : IsFile [] (CutHeader 0)
no_header = (refl, omega arith)

cut_header : IsFile (codes "x261CONF" ++ 1 ∷ []) (CutHeader 9)
cut_header = (refl, omega arith)

other_version : IsFile (codes "H261CONF" ++ 2 ∷ 1 ∷ 69 ∷ []) WrongHeader
other_version = (omega arith, λ lanes fits e. let is : 2 ≡ 1 = ap (λ xs. slice_index xs 8) e in omega (arith, is))

no_lane : IsFile (file_of 0 (69 ∷ [])) WrongHeader
no_lane = (omega arith, λ lanes fits e. let is : 0 ≡ lanes = ap (λ xs. slice_index xs 9) e in omega (arith, is, fits.0))

seventeen_lanes : IsFile (file_of 17 (69 ∷ [])) WrongHeader
seventeen_lanes = (omega arith, λ lanes fits e. let is : 17 ≡ lanes = ap (λ xs. slice_index xs 9) e in omega (arith, is, fits.1))
