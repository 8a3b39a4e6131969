-- The cells of the machine that eats octets, computed from its steps.
use Rattle.std.proofs.Common.{◌≡◌, ℕ, zero, suc, ◌+◌, ◌-◌, ◌*◌, ◌/◌, ◌%◌, ◌<◌, ◌≤◌, Bool, true, false, List, [], ◌∷◌, length, take, drop, get_or, nat_lt, inl, inr, refl, sym, ◌∙◌, ap, arith}
use Rattle.std.proofs.lemmas.List.{get_or-drop, get_or-take}
use Rattle.std.proofs.lemmas.Bool.{cases_Bool, ltb-true, ltb-false}
use Rattle.pel_bits.specs.Bits.{field}
use Rattle.vlc_codes.proofs.CellLaws.{listed, get_listed}
use Rattle.h261_block.specs.declared.octets.Cell.{Cell}
use Rattle.h261_block.specs.declared.cells.TheConstants as cells_of_code
use Rattle.h261_block.specs.Steps.{as_cell, octet_cell, IsCellOf, stored}

abbrev joined : (next passed : List ℕ) → List (Cell × Bool)
joined (n ∷ ns) (p ∷ ps) = (as_cell n p, true) ∷ joined ns ps
joined _ _ = []

abbrev no_cell : Cell × Bool
no_cell = (as_cell 0 0, true)

joined-at : (ns ps : List ℕ) (k : ℕ) → k < length (joined ns ps) → get_or (joined ns ps) k no_cell ≡ (as_cell (get_or ns k 0) (get_or ps k 0), true)
joined-at [] ps k inside = absurd (omega (arith, inside))
joined-at (n ∷ ns) [] k inside = absurd (omega (arith, inside))
joined-at (n ∷ ns) (p ∷ ps) zero inside = refl
joined-at (n ∷ ns) (p ∷ ps) (suc k) inside = joined-at ns ps k (omega (arith, inside))

abbrev cell_of : Bool → ℕ → Cell × Bool
cell_of intra k = octet_cell intra (k / 256) (k % 256)

-- ---- without INTRADC, and with it

abbrev inter : List (Cell × Bool)
inter = joined cells_of_code.INTER.next cells_of_code.INTER.passed

abbrev intra : List (Cell × Bool)
intra = joined cells_of_code.INTRA.next cells_of_code.INTRA.passed

inter_counted : length inter ≡ 26112
inter_counted = refl

inter_0 : take 4096 (drop 0 inter) ≡ listed (cell_of false) 0 4096
unfolding field
inter_0 = refl

inter_1 : take 4096 (drop 4096 inter) ≡ listed (cell_of false) 4096 4096
unfolding field
inter_1 = refl

inter_2 : take 4096 (drop 8192 inter) ≡ listed (cell_of false) 8192 4096
unfolding field
inter_2 = refl

inter_3 : take 4096 (drop 12288 inter) ≡ listed (cell_of false) 12288 4096
unfolding field
inter_3 = refl

inter_4 : take 4096 (drop 16384 inter) ≡ listed (cell_of false) 16384 4096
unfolding field
inter_4 = refl

inter_5 : take 4096 (drop 20480 inter) ≡ listed (cell_of false) 20480 4096
unfolding field
inter_5 = refl

inter_6 : take 1536 (drop 24576 inter) ≡ listed (cell_of false) 24576 1536
unfolding field
inter_6 = refl

intra_counted : length intra ≡ 26112
intra_counted = refl

intra_0 : take 4096 (drop 0 intra) ≡ listed (cell_of true) 0 4096
unfolding field
intra_0 = refl

intra_1 : take 4096 (drop 4096 intra) ≡ listed (cell_of true) 4096 4096
unfolding field
intra_1 = refl

intra_2 : take 4096 (drop 8192 intra) ≡ listed (cell_of true) 8192 4096
unfolding field
intra_2 = refl

intra_3 : take 4096 (drop 12288 intra) ≡ listed (cell_of true) 12288 4096
unfolding field
intra_3 = refl

intra_4 : take 4096 (drop 16384 intra) ≡ listed (cell_of true) 16384 4096
unfolding field
intra_4 = refl

intra_5 : take 4096 (drop 20480 intra) ≡ listed (cell_of true) 20480 4096
unfolding field
intra_5 = refl

intra_6 : take 1536 (drop 24576 intra) ≡ listed (cell_of true) 24576 1536
unfolding field
intra_6 = refl

-- ---- any of them

module _ (cells : List (Cell × Bool)) (cell : ℕ → Cell × Bool) where
  part : (from n : ℕ) → take n (drop from cells) ≡ listed cell from n → (k : ℕ) → from ≤ k → k < from + n → get_or cells k no_cell ≡ cell k
  part from n computed k above below =
      let i : ℕ = k - from in
      let k_is : from + i ≡ k = omega (arith, above) in
      let inside : i < n = omega (arith, above, below) in
      ap (λ (j : ℕ). get_or cells j no_cell) (sym k_is)
      ∙ (sym (get_or-drop from cells i no_cell) ∙ (sym (get_or-take n (drop from cells) i no_cell inside)
      ∙ (ap (λ (cs : List (Cell × Bool)). get_or cs i no_cell) computed ∙ (get_listed cell from n i no_cell inside ∙ ap cell k_is))))

  record AreComputed : Type 0 where
    pub part_0 : take 4096 (drop 0 cells) ≡ listed cell 0 4096
    pub part_1 : take 4096 (drop 4096 cells) ≡ listed cell 4096 4096
    pub part_2 : take 4096 (drop 8192 cells) ≡ listed cell 8192 4096
    pub part_3 : take 4096 (drop 12288 cells) ≡ listed cell 12288 4096
    pub part_4 : take 4096 (drop 16384 cells) ≡ listed cell 16384 4096
    pub part_5 : take 4096 (drop 20480 cells) ≡ listed cell 20480 4096
    pub part_6 : take 1536 (drop 24576 cells) ≡ listed cell 24576 1536

  at : AreComputed → (k : ℕ) → k < 26112 → get_or cells k no_cell ≡ cell k
  at all k inside =
      elim (cases_Bool (nat_lt k 4096)) [
        | inl h ↦ part 0 4096 all.part_0 k (omega (arith)) (omega (arith, ltb-true k 4096 h))
        | inr n1 ↦
            elim (cases_Bool (nat_lt k 8192)) [
              | inl h ↦ part 4096 4096 all.part_1 k (omega (arith, ltb-false k 4096 n1)) (omega (arith, ltb-true k 8192 h))
              | inr n2 ↦
                  elim (cases_Bool (nat_lt k 12288)) [
                    | inl h ↦ part 8192 4096 all.part_2 k (omega (arith, ltb-false k 8192 n2)) (omega (arith, ltb-true k 12288 h))
                    | inr n3 ↦
                        elim (cases_Bool (nat_lt k 16384)) [
                          | inl h ↦ part 12288 4096 all.part_3 k (omega (arith, ltb-false k 12288 n3)) (omega (arith, ltb-true k 16384 h))
                          | inr n4 ↦
                              elim (cases_Bool (nat_lt k 20480)) [
                                | inl h ↦ part 16384 4096 all.part_4 k (omega (arith, ltb-false k 16384 n4)) (omega (arith, ltb-true k 20480 h))
                                | inr n5 ↦
                                    elim (cases_Bool (nat_lt k 24576)) [
                                      | inl h ↦ part 20480 4096 all.part_5 k (omega (arith, ltb-false k 20480 n5)) (omega (arith, ltb-true k 24576 h))
                                      | inr n6 ↦
                                          part 24576 1536 all.part_6 k (omega (arith, ltb-false k 24576 n6)) (omega (arith, inside))
                                    ]
                              ]
                        ]
                  ]
            ]
      ]

inter_computed : AreComputed inter (cell_of false)
inter_computed = record { part_0 = inter_0; part_1 = inter_1; part_2 = inter_2; part_3 = inter_3; part_4 = inter_4; part_5 = inter_5; part_6 = inter_6 }

intra_computed : AreComputed intra (cell_of true)
intra_computed = record { part_0 = intra_0; part_1 = intra_1; part_2 = intra_2; part_3 = intra_3; part_4 = intra_4; part_5 = intra_5; part_6 = intra_6 }

found : (with_dc : Bool) (ns ps : List ℕ) (s t octet : ℕ) (cell : Cell) → length (joined ns ps) ≡ 26112 → AreComputed (joined ns ps) (cell_of with_dc) → t ≡ s → s < 102 → octet < 256
    → cell ≡ stored ns ps (256 * t + octet) → IsCellOf with_dc s octet cell
found with_dc ns ps s t octet cell counted computed same inside small is =
    let k : ℕ = 256 * t + octet in
    let within : k < 26112 = omega (arith, same, inside, small) in
    let s_is : k / 256 ≡ s = omega (arith, same, small) in
    let octet_is : k % 256 ≡ octet = omega (arith, small) in
    let told : ◌≡◌ {A = Cell × Bool} (as_cell (get_or ns k 0) (get_or ps k 0), true) (octet_cell with_dc s octet) =
    sym (joined-at ns ps k (omega (arith, within, counted)))
    ∙ (at (joined ns ps) (cell_of with_dc) computed k within ∙ (ap (λ (n : ℕ). octet_cell with_dc n (k % 256)) s_is ∙ ap (octet_cell with_dc s) octet_is)) in
    record {
      cell_is = ap (λ (c : Cell). (c, true)) is ∙ told;
      before = omega (arith, ap (λ (c : Cell). c.before) is);
      behind = omega (arith, ap (λ (c : Cell). c.behind) is);
    }

pub inter-cell : (s t octet : ℕ) (cell : Cell) → t ≡ s → s < 102 → octet < 256 → cell ≡ stored cells_of_code.INTER.next cells_of_code.INTER.passed (256 * t + octet) → IsCellOf false s octet cell
inter-cell s t octet cell same inside small is =
    found false cells_of_code.INTER.next cells_of_code.INTER.passed s t octet cell inter_counted inter_computed same inside small is

pub intra-cell : (s t octet : ℕ) (cell : Cell) → t ≡ s → s < 102 → octet < 256 → cell ≡ stored cells_of_code.INTRA.next cells_of_code.INTRA.passed (256 * t + octet) → IsCellOf true s octet cell
intra-cell s t octet cell same inside small is =
    found true cells_of_code.INTRA.next cells_of_code.INTRA.passed s t octet cell intra_counted intra_computed same inside small is
