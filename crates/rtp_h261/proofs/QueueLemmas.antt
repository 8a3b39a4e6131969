-- Packets in order with one packet more.
use Rattle.std.proofs.Common.{◌≡◌, ℕ, ◌+◌, ◌%◌, ◌^◌, ◌≤◌, Bool, true, false, List, [], ◌∷◌, ◌++◌, Option, None, Some, length, map, cond, not, ◌&&◌, ◌==◌, nat_lt, insert, unwrap_or, inl, inr, subst, refl, sym, ap, ap₂, ◌∙◌, arith, append-nil, append_assoc}
use Rattle.std.proofs.lemmas.List.{map-append}
use Rattle.std.proofs.lemmas.Bool.{true≢false, and_parts, and_from, and_left, or_from, or_left, not-true, not_from_false, eqb-true, eq-eqb, ne_eqb, lt-leb, cases_eq}
use Rattle.std.proofs.lemmas.Option.{none-some}
use Rattle.std.specs.List.{position_or_len}
use Rattle.std.proofs.lemmas.List.Sums.{prefix_len-le-length}
use Rattle.rtp_h261.specs.Units.{ahead}
use Rattle.rtp_h261.specs.Ordered.{Arrival, arrival_of, with_usable, usable_of, Queue, no_queue, is_stale, is_farther, joined_by, goes_out, let_out, kept_back, due, settled, queue_behind, given_out, octets_in, in_order}
use Rattle.rtp_h261.specs.Window.{WindowState, is_due, HasOrdered, has_number, PassesBy}
use Rattle.rtp_h261.specs.WindowFields.{goes_straight}

with_usable_append : (a : Option Arrival) (ps qs : List Arrival) → with_usable a ps ++ qs ≡ with_usable a (ps ++ qs)
with_usable_append None ps qs = refl
with_usable_append (Some p) ps qs = refl

pub usable_append : (xs ys : List (List ℕ)) → usable_of (xs ++ ys) ≡ usable_of xs ++ usable_of ys
usable_append [] ys = refl
usable_append (x ∷ xs) ys =
    ap (with_usable (arrival_of x)) (usable_append xs ys) ∙ sym (with_usable_append (arrival_of x) (usable_of xs) (usable_of ys))

pub queue_append : (w : ℕ) (q : Queue) (xs ys : List Arrival) → queue_behind w q (xs ++ ys) ≡ queue_behind w (queue_behind w q xs) ys
queue_append w q [] ys = refl
queue_append w q (p ∷ ps) ys = queue_append w (settled w (joined_by q p)) ps ys

pub given_append : (w : ℕ) (q : Queue) (xs ys : List Arrival) → given_out w q (xs ++ ys) ≡ given_out w q xs ++ given_out w (queue_behind w q xs) ys
given_append w q [] ys = refl
given_append w q (p ∷ ps) ys =
    let here = due w (joined_by q p) in
    let after = settled w (joined_by q p) in
    ap (λ (zs : List Arrival). here ++ zs) (given_append w after ps ys)
    ∙ sym (append_assoc here (given_out w after ps) (given_out w (queue_behind w after ps) ys))

pub in_order_append : (w : ℕ) (packets more : List (List ℕ)) → in_order w (packets ++ more) ≡ in_order w packets ++ octets_in (given_out w (queue_behind w no_queue (usable_of packets)) (usable_of more))
unfolding in_order
in_order_append w packets more =
    ap (λ (ps : List Arrival). octets_in (given_out w no_queue ps)) (usable_append packets more)
    ∙ ap octets_in (given_append w no_queue (usable_of packets) (usable_of more))
    ∙ map-append (λ (p : Arrival). p.octets) (given_out w no_queue (usable_of packets)) (given_out w (queue_behind w no_queue (usable_of packets)) (usable_of more))

pub queue_more : (w : ℕ) (packets more : List (List ℕ)) → queue_behind w no_queue (usable_of (packets ++ more)) ≡ queue_behind w (queue_behind w no_queue (usable_of packets)) (usable_of more)
queue_more w packets more =
    ap (queue_behind w no_queue) (usable_append packets more) ∙ queue_append w no_queue (usable_of packets) (usable_of more)

-- where nothing is due, nothing is let out
pub idle : (w : ℕ) (next : Option ℕ) (ps : List Arrival) → goes_out w next ps ≡ false
    → (let_out w next ps ≡ []) × (kept_back w next ps ≡ record { next = next; waiting = ps })
idle w next [] e = (refl, refl)
idle w next (p ∷ ps) e = rw e (refl, refl)

pub goes : (w : ℕ) (next : Option ℕ) (p : Arrival) (ps : List Arrival) → goes_out w next (p ∷ ps) ≡ true
    → (let_out w next (p ∷ ps) ≡ p ∷ let_out w (Some ((p.number + 1) % 2 ^ 16)) ps) × (kept_back w next (p ∷ ps) ≡ kept_back w (Some ((p.number + 1) % 2 ^ 16)) ps)
goes w next p ps e = rw e (refl, refl)

module _ (packets given : List (List ℕ)) (packet : List ℕ) (old : WindowState) (h : HasOrdered packets given old) (free : is_due old ≡ false) where
  stood : old.queue ≡ queue_behind old.width no_queue (usable_of packets)
  stood = sym (idle old.width old.queue.next old.queue.waiting free).1 ∙ h.stands

  gave-all : given ≡ in_order old.width packets
  gave-all =
      sym (append-nil given)
      ∙ ap (λ (ps : List Arrival). given ++ octets_in ps) (sym (idle old.width old.queue.next old.queue.waiting free).0)
      ∙ h.gave

  -- a packet that is not usable
  pub offered-none : arrival_of packet ≡ None → HasOrdered (packets ++ packet ∷ []) given old
  offered-none e =
      let none : usable_of (packet ∷ []) ≡ [] = rw e refl in
      record {
        stands = h.stands ∙ sym (queue_more old.width packets (packet ∷ []) ∙ ap (queue_behind old.width (queue_behind old.width no_queue (usable_of packets))) none);
        gave = h.gave ∙ sym (in_order_append old.width packets (packet ∷ [])
            ∙ ap (λ (ps : List Arrival). in_order old.width packets ++ octets_in (given_out old.width (queue_behind old.width no_queue (usable_of packets)) ps)) none
            ∙ append-nil (in_order old.width packets));
      }

  pub offered-some : (p : Arrival) → arrival_of packet ≡ Some p
      → HasOrdered (packets ++ packet ∷ []) given (record { width = old.width; queue = joined_by old.queue p })
  offered-some p e =
      let w = old.width in
      let q = queue_behind w no_queue (usable_of packets) in
      let one : usable_of (packet ∷ []) ≡ p ∷ [] = rw e refl in
      record {
        stands = ap (λ (x : Queue). settled w (joined_by x p)) stood
            ∙ sym (queue_more w packets (packet ∷ []) ∙ ap (queue_behind w q) one);
        gave = ap₂ (λ (xs : List (List ℕ)) (x : Queue). xs ++ octets_in (due w (joined_by x p))) gave-all stood
            ∙ ap (λ (ps : List Arrival). in_order w packets ++ octets_in ps) (sym (append-nil (due w (joined_by q p))))
            ∙ sym (in_order_append w packets (packet ∷ [])
            ∙ ap (λ (ps : List Arrival). in_order w packets ++ octets_in (given_out w q ps)) one);
      }

-- the next one is given out
pub given-next : (packets given : List (List ℕ)) (w : ℕ) (next : Option ℕ) (p : Arrival) (ps : List Arrival) → goes_out w next (p ∷ ps) ≡ true
    → HasOrdered packets given (record { width = w; queue = record { next = next; waiting = p ∷ ps } })
    → HasOrdered packets (given ++ p.octets ∷ []) (record { width = w; queue = record { next = Some ((p.number + 1) % 2 ^ 16); waiting = ps } })
given-next packets given w next p ps out h = record {
  stands = sym (goes w next p ps out).1 ∙ h.stands;
  gave = append_assoc given (p.octets ∷ []) (octets_in (let_out w (Some ((p.number + 1) % 2 ^ 16)) ps))
      ∙ ap (λ (xs : List Arrival). given ++ octets_in xs) (sym (goes w next p ps out).0) ∙ h.gave;
}

-- ---- a packet that is given out as it comes

straight-parts : (expected number : ℕ) (waiting : List Arrival) → goes_straight expected waiting number ≡ true
    → (number ≡ expected) × (is_stale expected waiting number ≡ false) × (position_or_len (is_farther expected number) waiting ≡ 0)
straight-parts expected number waiting e =
    let a : ((number == expected) ≡ true) × ((not (is_stale expected waiting number) && (position_or_len (is_farther expected number) waiting == 0)) ≡ true) =
    and_parts _ _ e in
    let b : (not (is_stale expected waiting number) ≡ true) × ((position_or_len (is_farther expected number) waiting == 0) ≡ true) = and_parts _ _ a.1 in
    (eqb-true number expected a.0, not-true _ b.0, eqb-true _ 0 b.1)

pub straight-alone : (expected number : ℕ) → goes_straight expected [] number ≡ (number == expected)
straight-alone expected number = elim (cases_eq number expected) [
  | inl same ↦ and_from _ _ (eq-eqb number expected same) (and_from _ _ (not_from_false _ (or_from _ _ (lt-leb (2 ^ 15) (ahead expected number) (omega arith)) refl)) refl)
      ∙ sym (eq-eqb number expected same)
  | inr other ↦ and_left _ _ (ne_eqb number expected other) ∙ sym (ne_eqb number expected other)
]

pub passed : (packets given : List (List ℕ)) (packet : List ℕ) (old : WindowState) (number : ℕ) → HasOrdered packets given old → is_due old ≡ false
    → arrival_of packet ≡ Some (record { number = number; octets = packet })
    → goes_straight (unwrap_or old.queue.next number) old.queue.waiting number ≡ true
    → HasOrdered (packets ++ packet ∷ []) (given ++ packet ∷ [])
    (record { width = old.width; queue = record { next = Some ((number + 1) % 2 ^ 16); waiting = old.queue.waiting } })
passed packets given packet old number h free e straight =
    given-next (packets ++ packet ∷ []) given old.width (Some number) p old.queue.waiting (or_left _ _ (eq-eqb number number refl))
    (subst (λ (q : Queue). HasOrdered (packets ++ packet ∷ []) given (record { width = old.width; queue = q })) joined (offered-some packets given packet old h free p e))
  where
    p : Arrival
    p = record { number = number; octets = packet }

    expected : ℕ
    expected = unwrap_or old.queue.next number

    parts : (number ≡ expected) × (is_stale expected old.queue.waiting number ≡ false) × (position_or_len (is_farther expected number) old.queue.waiting ≡ 0)
    parts = straight-parts expected number old.queue.waiting straight

    joined : joined_by old.queue p ≡ record { next = Some number; waiting = p ∷ old.queue.waiting }
    joined =
        ap (λ (b : Bool). record { next = Some expected; waiting = cond b old.queue.waiting (insert old.queue.waiting (position_or_len (is_farther expected number) old.queue.waiting) p) }) parts.1
        ∙ ap (λ (k : ℕ). record { next = Some expected; waiting = insert old.queue.waiting k p }) parts.2
        ∙ ap (λ (n : ℕ). record { next = Some n; waiting = p ∷ old.queue.waiting }) (sym parts.0)

next-by : (number expected : ℕ) (waiting : List Arrival) → waiting ≡ [] → goes_straight expected waiting number ≡ true → true ≡ (number == expected)
next-by number expected waiting none e = sym (ap (λ (ps : List Arrival). goes_straight expected ps number) (sym none) ∙ e) ∙ straight-alone expected number

pub passes-by : (packet : List ℕ) (old new : WindowState) (number expected : ℕ) (waiting : List Arrival) → is_due old ≡ false
    → arrival_of packet ≡ Some (record { number = number; octets = packet }) → expected ≡ unwrap_or old.queue.next number → waiting ≡ old.queue.waiting
    → goes_straight expected waiting number ≡ true
    → new ≡ record { width = old.width; queue = record { next = Some ((number + 1) % 2 ^ 16); waiting = old.queue.waiting } }
    → PassesBy packet old new true
passes-by packet old new number expected waiting free is expects waits straight e = rw e (record {
  width = refl;
  waiting = refl;
  stays = λ no. absurd (true≢false no);
  stands = λ _ packets given h. passed packets given packet old number h free is here;
  straight = λ none. next-by number (unwrap_or old.queue.next number) old.queue.waiting none here ∙ sym (ap (λ (a : Option Arrival). has_number a old.queue.next) is);
})
  where
    here : goes_straight (unwrap_or old.queue.next number) old.queue.waiting number ≡ true
    here = ap₂ (λ (n : ℕ) (ps : List Arrival). goes_straight n ps number) (sym expects) (sym waits) ∙ straight

pub new-ordered : (w : ℕ) (waiting : List Arrival) → waiting ≡ [] → HasOrdered [] [] (record { width = w; queue = record { next = None; waiting = waiting } })
unfolding in_order
new-ordered w waiting e = rw e (record { stands = refl; gave = refl })

-- ---- the place of a packet

pub bounded : {X : Type 0} (test : X → Bool) (xs : List X) → position_or_len test xs ≤ length xs
bounded test xs = prefix_len-le-length (λ x. not (test x)) xs

some-by : (b : Bool) (i j : ℕ) → Some i ≡ cond b (Some j) None → i ≡ j
some-by true i j e = cc
some-by false i j e = absurd (none-some i (sym e))

none-by : (i n : ℕ) → i ≤ n → (b : Bool) → nat_lt i n ≡ b → None ≡ cond b (Some i) None → n ≡ i
none-by i n h true l e = absurd (none-some i e)
none-by i n h false l e = grind (arith, h, l)

pub place-some : {X : Type 0} (test : X → Bool) (xs : List X) (i : ℕ)
    → Some i ≡ cond (nat_lt (position_or_len test xs) (length xs)) (Some (position_or_len test xs)) None → i ≡ position_or_len test xs
place-some test xs i e = some-by (nat_lt (position_or_len test xs) (length xs)) i (position_or_len test xs) e

pub place-none : {X : Type 0} (test : X → Bool) (xs : List X)
    → None ≡ cond (nat_lt (position_or_len test xs) (length xs)) (Some (position_or_len test xs)) None → length xs ≡ position_or_len test xs
place-none test xs e = none-by (position_or_len test xs) (length xs) (bounded test xs) (nat_lt (position_or_len test xs) (length xs)) refl e
