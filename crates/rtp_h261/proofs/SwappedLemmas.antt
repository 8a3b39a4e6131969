-- The packets of a run come out of a window in order, where none comes too many places late.
use Rattle.std.proofs.Common.{◌≡◌, ◌⊎◌, ℕ, zero, suc, ◌+◌, ◌-◌, ◌%◌, ◌^◌, ◌<◌, ◌≤◌, ◌==◌, Bool, true, false, List, [], ◌∷◌, ◌++◌, Option, None, Some, length, map, drop, insert, slice_index_or, cond, not, nat_lt, nat_le, ◌||◌, inl, inr, refl, sym, ap, subst, ◌∙◌, arith, add-zero}
use Rattle.std.proofs.lemmas.Bool.{true≢false, false≢true, cases_lt, cases_eq, ltb-true, ltb-false, lt-ltb, le-ltb, lt-leb, eq-eqb, ne_eqb, or_from, or_left}
use Rattle.std.proofs.lemmas.List.{drop_more, drop_all, nil_from_length, length-map}
use Rattle.std.specs.List.{list_any, position_or_len}
use Rattle.rtp_h261.specs.Units.{ahead}
use Rattle.rtp_h261.specs.Ordered.{Arrival, Queue, no_queue, joined_by, is_stale, is_farther, with_waiting, goes_out, let_out, kept_back, due, settled, given_out, usable_of, octets_in, in_order}
use Rattle.rtp_h261.specs.WindowLaws.{IsNumbered, ComesWithin, LawOfWindows}
use Rattle.rtp_h261.proofs.QueueLemmas.{idle, goes}

-- ---- numbers round the circle

abbrev num : ℕ → ℕ → ℕ
num first i = (first + i) % 2 ^ 16

ahead-num : (first e r : ℕ) → e ≤ r → r < e + 2 ^ 15 → ahead (num first e) (num first r) ≡ r - e
ahead-num first e r from near = omega arith

next-num : (first e : ℕ) → (num first e + 1) % 2 ^ 16 ≡ num first (e + 1)
next-num first e = omega arith

distinct : (first e q p : ℕ) → e ≤ q → q < e + 2 ^ 15 → e ≤ p → p < e + 2 ^ 15 → num first q ≡ num first p → q ≡ p
distinct first e q p from near from' near' same = omega arith

less-by : (e p q : ℕ) → e ≤ p → e ≤ q → nat_lt (p - e) (q - e) ≡ nat_lt p q
less-by e p q from from' = elim (cases_lt p q) [
  | inl below ↦ lt-ltb (p - e) (q - e) (omega arith) ∙ sym (lt-ltb p q below)
  | inr above ↦ le-ltb (p - e) (q - e) (omega arith) ∙ sym (le-ltb p q above)
]

strictly : (q r : ℕ) → q ≤ r → (r ≡ q → ⊥) → q + 1 ≤ r
strictly q r le other = elim (cases_lt q r) [ inl below ↦ omega arith | inr above ↦ absurd (other (omega arith)) ]

-- ---- places that wait, in order

abbrev Ascends : ℕ → List ℕ → Type 0
Ascends e [] = Unit {0}
Ascends e (q ∷ qs) = (e ≤ q) × Ascends (q + 1) qs

abbrev Has : ℕ → List ℕ → Type 0
Has r [] = ⊥
Has r (q ∷ qs) = (r ≡ q) ⊎ Has r qs

above : (e : ℕ) (ws : List ℕ) (r : ℕ) → Ascends e ws → Has r ws → e ≤ r
above e [] r up has = absurd has
above e (q ∷ qs) r up (inl same) = omega (arith, up.0, same)
above e (q ∷ qs) r up (inr has) = omega (arith, up.0, above (q + 1) qs r up.1 has)

abbrev ins : ℕ → List ℕ → List ℕ
ins r [] = r ∷ []
ins r (q ∷ qs) = cond (nat_lt r q) (r ∷ q ∷ qs) (q ∷ ins r qs)

ins-length-by : (b : Bool) (r q : ℕ) (qs : List ℕ) → length (ins r qs) ≡ length qs + 1
    → length (cond b (r ∷ q ∷ qs) (q ∷ ins r qs)) ≡ suc (length qs) + 1
ins-length-by true r q qs h = omega arith
ins-length-by false r q qs h = omega arith

ins-length : (r : ℕ) (ws : List ℕ) → length (ins r ws) ≡ length ws + 1
ins-length r [] = omega arith
ins-length r (q ∷ qs) = ins-length-by (nat_lt r q) r q qs (ins-length r qs)

ins-up-by : (e q : ℕ) (qs : List ℕ) (r : ℕ) → Ascends e (q ∷ qs) → e ≤ r → (r ≡ q → ⊥) → (b : Bool) → nat_lt r q ≡ b
    → (q + 1 ≤ r → Ascends (q + 1) (ins r qs)) → Ascends e (cond b (r ∷ q ∷ qs) (q ∷ ins r qs))
ins-up-by e q qs r up from other true t more = (from, (omega (arith, ltb-true r q t), up.1))
ins-up-by e q qs r up from other false t more = (up.0, more (strictly q r (ltb-false r q t) other))

ins-up : (e : ℕ) (ws : List ℕ) (r : ℕ) → Ascends e ws → e ≤ r → (Has r ws → ⊥) → Ascends e (ins r ws)
ins-up e [] r up from new = (from, tt)
ins-up e (q ∷ qs) r up from new =
    ins-up-by e q qs r up from (λ same. new (inl same)) (nat_lt r q) refl (λ below. ins-up (q + 1) qs r up.1 below (λ has. new (inr has)))

ins-has-by : (s r q : ℕ) (qs : List ℕ) (b : Bool) → (Has s (ins r qs) → (s ≡ r) ⊎ Has s qs)
    → Has s (cond b (r ∷ q ∷ qs) (q ∷ ins r qs)) → (s ≡ r) ⊎ ((s ≡ q) ⊎ Has s qs)
ins-has-by s r q qs true more (inl same) = inl same
ins-has-by s r q qs true more (inr has) = inr has
ins-has-by s r q qs false more (inl same) = inr (inl same)
ins-has-by s r q qs false more (inr has) = elim (more has) [ inl same ↦ inl same | inr old ↦ inr (inr old) ]

ins-has : (s r : ℕ) (ws : List ℕ) → Has s (ins r ws) → (s ≡ r) ⊎ Has s ws
ins-has s r [] (inl same) = inl same
ins-has s r [] (inr has) = absurd has
ins-has s r (q ∷ qs) has = ins-has-by s r q qs (nat_lt r q) (ins-has s r qs) has

ins-new-by : (r q : ℕ) (qs : List ℕ) (b : Bool) → Has r (ins r qs) → Has r (cond b (r ∷ q ∷ qs) (q ∷ ins r qs))
ins-new-by r q qs true has = inl refl
ins-new-by r q qs false has = inr has

ins-new : (r : ℕ) (ws : List ℕ) → Has r (ins r ws)
ins-new r [] = inl refl
ins-new r (q ∷ qs) = ins-new-by r q qs (nat_lt r q) (ins-new r qs)

ins-old-by : (s r q : ℕ) (qs : List ℕ) (b : Bool) → (Has s qs → Has s (ins r qs)) → (s ≡ q) ⊎ Has s qs
    → Has s (cond b (r ∷ q ∷ qs) (q ∷ ins r qs))
ins-old-by s r q qs true more has = inr has
ins-old-by s r q qs false more (inl same) = inl same
ins-old-by s r q qs false more (inr has) = inr (more has)

ins-old : (s r : ℕ) (ws : List ℕ) → Has s ws → Has s (ins r ws)
ins-old s r [] has = absurd has
ins-old s r (q ∷ qs) has = ins-old-by s r q qs (nat_lt r q) (ins-old s r qs) has

-- ---- packets that wait, by their places

insert-suc : (x : Arrival) (xs : List Arrival) (k : ℕ) (y : Arrival) → insert (x ∷ xs) (1 + k) y ≡ x ∷ insert xs k y
insert-suc x xs k y = let e : 1 + k ≡ suc k = omega arith in rw e refl

joins-by : (at : ℕ → Arrival) (r q : ℕ) (qs : List ℕ) (k : ℕ) (b c : Bool) → b ≡ c → insert (map at qs) k (at r) ≡ map at (ins r qs)
    → insert (at q ∷ map at qs) (cond (not b) (1 + k) 0) (at r) ≡ map at (cond c (r ∷ q ∷ qs) (q ∷ ins r qs))
joins-by at r q qs k true true e h = refl
joins-by at r q qs k true false e h = absurd (true≢false e)
joins-by at r q qs k false true e h = absurd (false≢true e)
joins-by at r q qs k false false e h = insert-suc (at q) (map at qs) k (at r) ∙ ap (λ (xs : List Arrival). at q ∷ xs) h

joins : (test : Arrival → Bool) (at : ℕ → Arrival) (r : ℕ) (ws : List ℕ) → ((q : ℕ) → Has q ws → test (at q) ≡ nat_lt r q)
    → insert (map at ws) (position_or_len test (map at ws)) (at r) ≡ map at (ins r ws)
joins test at r [] same = refl
joins test at r (q ∷ qs) same =
    joins-by at r q qs (position_or_len test (map at qs)) (test (at q)) (nat_lt r q) (same q (inl refl)) (joins test at r qs (λ s h. same s (inr h)))

not-there : (at : ℕ → Arrival) (n : ℕ) (ws : List ℕ) → ((q : ℕ) → Has q ws → ((at q).number == n) ≡ false)
    → list_any (λ (q : Arrival). q.number == n) (map at ws) ≡ false
not-there at n [] other = refl
not-there at n (q ∷ qs) other = or_from _ _ (other q (inl refl)) (not-there at n qs (λ s h. other s (inr h)))

-- ---- what stands behind some packets of a run

-- Behind j packets the e-th is expected, and these wait: what came is before e or waits.
record Stands (count : ℕ) (time : ℕ → ℕ) (j e : ℕ) (ws : List ℕ) : Type 0 where
  many : length ws + e ≡ j
  up : Ascends e ws
  is : (r : ℕ) → Has r ws → (r < count) × (time r < j) × (r < e + 2 ^ 15)
  before : (r : ℕ) → r < e → time r < j
  all : (r : ℕ) → r < count → time r < j → (r < e) ⊎ Has r ws

nobody : Arrival
nobody = record { number = 0; octets = [] }

module _ (late first : ℕ) (run came : List Arrival) (numbered : IsNumbered first run) (r : ComesWithin late run came) where
  abbrev at : ℕ → Arrival
  at i = slice_index_or run i nobody

  abbrev Here : ℕ → ℕ → List ℕ → Type 0
  Here j e ws = Stands (length run) r.time j e ws

  expected-in-time : (j e : ℕ) (ws : List ℕ) → Here j e ws → e < length run → (Has e ws → ⊥) → j ≤ e + late
  expected-in-time j e ws s inside missing = elim (cases_lt (r.time e) j) [
    | inl came ↦ (let no : ⊥ = elim (s.all e inside came) [ inl below ↦ omega arith | inr has ↦ missing has ] in absurd no)
    | inr later ↦ omega (arith, later, r.in_time e inside)
  ]

  module _ (j e : ℕ) (ws : List ℕ) (s : Here j e ws) (missing : Has e ws → ⊥) (inside : j < length run) where
    abbrev p : ℕ
    p = r.place j

    p-in : p < length run
    p-in = (r.one j inside).0

    p-now : r.time p ≡ j
    p-now = (r.one j inside).1

    in-time : j ≤ e + late
    in-time = expected-in-time j e ws s (omega (arith, s.many, inside)) missing

    new : Has p ws → ⊥
    new has = let i : (p < length run) × (r.time p < j) × (p < e + 2 ^ 15) = s.is p has in omega (arith, i.1, p-now)

    from : e ≤ p
    from = elim (cases_lt p e) [ inl below ↦ omega (arith, s.before p below, p-now) | inr le ↦ le ]

    near : p < e + 2 ^ 15
    near = omega (arith, r.not_early j inside, in-time)

    at-p : (at p).number ≡ num first p
    at-p = numbered p nobody p-in

    waits-by : (q : ℕ) → (q ≡ p) ⊎ Has q ws → (q < length run) × (r.time q < j + 1) × (q < e + 2 ^ 15)
    waits-by q (inl same) = rw same (p-in, omega (arith, p-now), near)
    waits-by q (inr old) =
        let i : (q < length run) × (r.time q < j) × (q < e + 2 ^ 15) = s.is q old in (i.0, omega (arith, i.1), i.2)

    all-by : (q : ℕ) → q < length run → (r.time q < j) ⊎ (j ≤ r.time q) → r.time q < j + 1 → (q < e) ⊎ Has q (ins p ws)
    all-by q q-in (inl was) now = elim (s.all q q-in was) [ inl below ↦ inl below | inr old ↦ inr (ins-old q p ws old) ]
    all-by q q-in (inr is) now =
        let e1 : r.time q ≡ j = omega arith in
        let e2 : p ≡ q = ap r.place (sym e1) ∙ (r.once q q-in).1 in
        inr (subst (λ (x : ℕ). Has x (ins p ws)) e2 (ins-new p ws))

    joined-stands : Here (j + 1) e (ins p ws)
    joined-stands = record {
      many = omega (arith, s.many, ins-length p ws);
      up = ins-up e ws p s.up from new;
      is = λ q has. waits-by q (ins-has q p ws has);
      before = λ q below. omega (arith, s.before q below);
      all = λ q q-in now. all-by q q-in (cases_lt (r.time q) j) now;
    }

    other-number : (q : ℕ) → Has q ws → ((at q).number == num first p) ≡ false
    other-number q has =
        let i : (q < length run) × (r.time q < j) × (q < e + 2 ^ 15) = s.is q has in
        ne_eqb (at q).number (num first p)
        (λ same. new (subst (λ (x : ℕ). Has x ws) (distinct first e q p (above e ws q s.up has) i.2 from near (sym (numbered q nobody i.0) ∙ same)) has))

    fresh : is_stale (num first e) (map at ws) (num first p) ≡ false
    fresh = or_from _ _ (lt-leb (2 ^ 15) (ahead (num first e) (num first p)) (omega (arith, ahead-num first e p from near, near, from)))
        (not-there at (num first p) ws other-number)

    farther : (q : ℕ) → Has q ws → is_farther (num first e) (num first p) (at q) ≡ nat_lt p q
    farther q has =
        let i : (q < length run) × (r.time q < j) × (q < e + 2 ^ 15) = s.is q has in
        let from' : e ≤ q = above e ws q s.up has in
        ap (λ (n : ℕ). nat_lt (ahead (num first e) (num first p)) (ahead (num first e) n)) (numbered q nobody i.0)
        ∙ ap (λ (n : ℕ). nat_lt n (ahead (num first e) (num first q))) (ahead-num first e p from near)
        ∙ ap (λ (n : ℕ). nat_lt (p - e) n) (ahead-num first e q from' i.2)
        ∙ less-by e p q from from'

    abbrev joined-with : Bool → List Arrival → Queue
    joined-with b ps = record { next = Some (num first e); waiting = cond b (map at ws) ps }

    joined-is : joined_by (record { next = Some (num first e); waiting = map at ws }) (at p) ≡ record { next = Some (num first e); waiting = map at (ins p ws) }
    joined-is =
        ap (λ (n : ℕ). joined-with (is_stale (num first e) (map at ws) n) (insert (map at ws) (position_or_len (is_farther (num first e) n) (map at ws)) (at p))) at-p
        ∙ ap (λ (b : Bool). joined-with b (insert (map at ws) (position_or_len (is_farther (num first e) (num first p)) (map at ws)) (at p))) fresh
        ∙ ap (joined-with false) (joins (is_farther (num first e) (num first p)) at p ws farther)

  -- ---- what is let out

  record LetsOut (j e : ℕ) (ws : List ℕ) : Type 0 where
    to : ℕ
    left : List ℕ
    gave : let_out late (Some (num first e)) (map at ws) ++ drop to run ≡ drop e run
    kept : kept_back late (Some (num first e)) (map at ws) ≡ record { next = Some (num first to); waiting = map at left }
    stands : Here j to left
    missing : Has to left → ⊥

  module _ (j e q : ℕ) (qs : List ℕ) (s : Here j e (q ∷ qs)) where
    q-is : (q < length run) × (r.time q < j) × (q < e + 2 ^ 15)
    q-is = s.is q (inl refl)

    at-q : (at q).number ≡ num first q
    at-q = numbered q nobody q-is.0

    module _ (same : q ≡ e) where
      without : Here j (e + 1) qs
      without = record {
        many = omega (arith, s.many);
        up = subst (λ (x : ℕ). Ascends (x + 1) qs) same s.up.1;
        is = λ t has. (let i : (t < length run) × (r.time t < j) × (t < e + 2 ^ 15) = s.is t (inr has) in (i.0, i.1, omega (arith, i.2)));
        before = λ t below. elim (cases_lt t e) [
          | inl less ↦ s.before t less
          | inr not_less ↦ (let is-e : q ≡ t = omega arith in subst (λ (x : ℕ). r.time x < j) is-e q-is.1)
        ];
        all = λ t t-in was. all-without t (s.all t t-in was);
      }
        where
          all-without : (t : ℕ) → (t < e) ⊎ ((t ≡ q) ⊎ Has t qs) → (t < e + 1) ⊎ Has t qs
          all-without t (inl below) = inl (omega arith)
          all-without t (inr (inl is-q)) = inl (omega (arith, is-q, same))
          all-without t (inr (inr has)) = inr has

      behind : ((at q).number + 1) % 2 ^ 16 ≡ num first (e + 1)
      behind = ap (λ (n : ℕ). (n + 1) % 2 ^ 16) (at-q ∙ ap (num first) same) ∙ next-num first e

      out : goes_out late (Some (num first e)) (map at (q ∷ qs)) ≡ true
      out = or_left _ _ (eq-eqb (at q).number (num first e) (at-q ∙ ap (num first) same))

      going : LetsOut j (e + 1) qs → LetsOut j e (q ∷ qs)
      going o = record {
        to = o.to;
        left = o.left;
        gave = ap (λ (xs : List Arrival). xs ++ drop o.to run) (goes late (Some (num first e)) (at q) (map at qs) out).0
            ∙ ap (λ (n : ℕ). (at q ∷ let_out late (Some n) (map at qs)) ++ drop o.to run) behind
            ∙ ap (λ (xs : List Arrival). at q ∷ xs) o.gave
            ∙ ap (λ (n : ℕ). at n ∷ drop (e + 1) run) same
            ∙ sym (drop_more run e nobody (subst (λ (x : ℕ). x < length run) same q-is.0));
        kept = (goes late (Some (num first e)) (at q) (map at qs) out).1
            ∙ ap (λ (n : ℕ). kept_back late (Some n) (map at qs)) behind ∙ o.kept;
        stands = o.stands;
        missing = o.missing;
      }

    module _ (other : q ≡ e → ⊥) where
      beyond : e + 1 ≤ q
      beyond = strictly e q s.up.0 other

      not-here : Has e (q ∷ qs) → ⊥
      not-here (inl is-q) = other (sym is-q)
      not-here (inr has) = omega (arith, above (q + 1) qs e s.up.1 has, beyond)

      few : length (map at (q ∷ qs)) ≤ late
      few =
          let in-time : j ≤ e + late = expected-in-time j e (q ∷ qs) s (omega (arith, beyond, q-is.0)) not-here in
          omega (arith, s.many, in-time, length-map (q ∷ qs) at)

      stays : goes_out late (Some (num first e)) (map at (q ∷ qs)) ≡ false
      stays = or_from _ _
          (ne_eqb (at q).number (num first e) (λ same. other (distinct first e q e s.up.0 q-is.2 (omega arith) (omega arith) (sym at-q ∙ same))))
          (le-ltb late (length (map at (q ∷ qs))) few)

      staying : LetsOut j e (q ∷ qs)
      staying = record {
        to = e;
        left = q ∷ qs;
        gave = ap (λ (xs : List Arrival). xs ++ drop e run) (idle late (Some (num first e)) (map at (q ∷ qs)) stays).0;
        kept = (idle late (Some (num first e)) (map at (q ∷ qs)) stays).1;
        stands = s;
        missing = not-here;
      }

  lets-out : (j e : ℕ) (ws : List ℕ) → Here j e ws → LetsOut j e ws
  lets-out j e [] s = record { to = e; left = []; gave = refl; kept = refl; stands = s; missing = λ no. no }
  lets-out j e (q ∷ qs) s = elim (cases_eq q e) [
    | inl same ↦ going j e q qs s same (lets-out j (e + 1) qs (without j e q qs s same))
    | inr other ↦ staying j e q qs s other
  ]

  -- ---- one packet after the other

  abbrev queue_at : ℕ → List ℕ → Queue
  queue_at e ws = record { next = Some (num first e); waiting = map at ws }

  whole-at-end : (e : ℕ) (ws : List ℕ) → Here (length run) e ws → (Has e ws → ⊥) → length run ≤ e
  whole-at-end e ws s missing = elim (cases_lt e (length run)) [
    | inl inside ↦ (let no : ⊥ = elim (s.all e inside (r.once e inside).0) [ inl below ↦ omega arith | inr has ↦ missing has ] in absurd no)
    | inr done ↦ done
  ]

  abbrev AreLeft : ℕ → List Arrival → Type 0
  AreLeft j rest = (k : ℕ) (d : Arrival) → k < length rest → slice_index_or rest k d ≡ slice_index_or run (r.place (j + k)) d

  flows : (rest : List Arrival) (j e : ℕ) (ws : List ℕ) → Here j e ws → (Has e ws → ⊥) → j + length rest ≡ length run
      → AreLeft j rest → given_out late (queue_at e ws) rest ≡ drop e run
  flows [] j e ws s missing count are =
      let at-end : j ≡ length run = omega arith in
      sym (drop_all e run (whole-at-end e ws (subst (λ (x : ℕ). Here x e ws) at-end s) missing))
  flows (a ∷ rest) j e ws s missing count are =
      let inside : j < length run = omega arith in
      let is-p : a ≡ at (r.place j) = are 0 nobody (omega arith) ∙ ap (λ (x : ℕ). at (r.place x)) (add-zero j) in
      let o : LetsOut (j + 1) e (ins (r.place j) ws) = lets-out (j + 1) e (ins (r.place j) ws) (joined-stands j e ws s missing inside) in
      ap (λ (x : Arrival). due late (joined_by (queue_at e ws) x) ++ given_out late (settled late (joined_by (queue_at e ws) x)) rest) is-p
      ∙ ap (λ (q : Queue). due late q ++ given_out late (settled late q) rest) (joined-is j e ws s missing inside)
      ∙ ap (λ (q : Queue). due late (queue_at e (ins (r.place j) ws)) ++ given_out late q rest) o.kept
      ∙ ap (λ (xs : List Arrival). due late (queue_at e (ins (r.place j) ws)) ++ xs)
      (flows rest (j + 1) o.to o.left o.stands o.missing (omega arith)
      (λ k d below. are (suc k) d (omega arith) ∙ ap (λ (x : ℕ). slice_index_or run (r.place x) d) (omega arith)))
      ∙ o.gave

  begins : (rest : List Arrival) → length rest ≡ length run
      → AreLeft 0 rest → given_out late no_queue rest ≡ run
  begins [] count are = sym (nil_from_length run (sym count))
  begins (a ∷ rest) count are =
      let is-p : a ≡ at 0 = are 0 nobody (omega arith) ∙ ap at r.first in
      let named : a.number ≡ num first 0 = ap (λ (x : Arrival). x.number) is-p ∙ numbered 0 nobody (omega arith) in
      ap (λ (n : ℕ). given_out late (record { next = Some n; waiting = [] }) (a ∷ rest)) named
      ∙ flows (a ∷ rest) 0 0 [] (record { many = refl; up = tt; is = λ t no. absurd no; before = λ t below. omega arith; all = λ t t-in was. (let no : ⊥ = omega arith in absurd no) }) (λ no. no) (omega arith) are

pub windows_law : LawOfWindows
unfolding in_order
windows_law width first run packets numbered r =
    ap octets_in (begins width first run (usable_of packets) numbered r (usable_of packets) r.count
    (λ k d below. r.same k d (subst (λ (n : ℕ). k < n) r.count below) ∙ ap (λ (x : ℕ). slice_index_or run (r.place x) d) (omega arith)))
