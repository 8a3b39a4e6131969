-- The places of a plan, and the stage that it has.
use Rattle.std.proofs.Common.{◌≡◌, ℕ, ◌<◌, ◌≤◌, nat_lt, nat_le, get_or, Bool, true, false, not, ◌&&◌, ◌||◌, ◌==◌, ◌+◌, cond, is_none, Option, Some, None, List, [], ◌∷◌, refl, sym, ap, ap₂, subst, ◌∙◌, arith, if◌then◌else◌, IfSome}
use mathlib.Core.Path.{fun_ext}
use Rattle.std.specs.Option.{option_or}
use Rattle.std.specs.List.{list_all}
use Rattle.std.proofs.lemmas.Bool.{false≢true, or_parts}
use Rattle.std.proofs.lemmas.Bool.Decides.{nat_tests}
use Rattle.pel_model.specs.declared.Quad.{Quad}
use Rattle.pel_model.specs.declared.Quad.TheVariants.{One, Two, Three, Four}
use Rattle.pel_model.specs.declared.chair.Command.{Command}
use Rattle.pel_model.specs.declared.chair.Command.TheVariants.{Place, Swap, Speaker}
use Rattle.pel_model.specs.declared.chair.Reply.{Reply}
use Rattle.pel_model.specs.declared.chair.Reply.TheVariants.{Done}
use Rattle.pel_model.specs.Plan.{Stage, stage, ordered, answer, is_same_lane, places, is_place, is_standing, vacant_place, place_for_speaker, answer_at, carried_out, is_done, silence, is_same, is_lane, without, spoke_before, quietest_by, quietest_place}
use Rattle.stage_plan.specs.declared.per_place.PerPlace.{PerPlace}
use Rattle.stage_plan.specs.PerPlace.{in_place, with_place, in_all}
use Rattle.stage_plan.specs.Places.{PlanView, lane_in, is_pinned, IsInOrder, IsPlan, IsPlanOf, IsUnmoved, rank_of}
use Rattle.stage_plan.specs.Steps.{is_lower, is_ranked_below, HasStage, Obeys, stage_of}
use Rattle.stage_plan.specs.Ranks.{Raises}

-- a stage that a plan has is the plan's, with the stage's speakers
pub stage_is : (plan : PlanView) (s : Stage) → HasStage plan s → s ≡ stage_of plan s.speakers
stage_is plan s h =
    ap₂ (λ (l : Quad → Option ℕ) (p : Quad → Bool). (let t : Stage = record { lane_in = l; is_pinned = p; speakers = s.speakers } in t))
    (fun_ext λ q. sym (h.seats q)) (fun_ext λ q. sym (h.pins q))

-- lower ranks are the lanes that spoke before
below : (lanes : ℕ) (ranks speakers : List ℕ) → lanes ≤ 16 →
    ((c d : ℕ) → c < 16 → d < 16 → nat_lt (get_or ranks c 0) (get_or ranks d 0) ≡ nat_lt (silence speakers d) (silence speakers c)) →
    (p q : Option ℕ) → IfSome p (λ c. c < lanes) → IfSome q (λ c. c < lanes) → is_lower ranks p q ≡ spoke_before speakers p q
below lanes ranks speakers few order (Some c) (Some d) hc hd = order c d (omega arith) (omega arith)
below lanes ranks speakers few order (Some c) None hc hd = refl
below lanes ranks speakers few order None q hc hd = refl

pub quietest-ranked : (plan : PlanView) (speakers : List ℕ) → IsPlan plan → IsInOrder plan speakers →
    quietest_by (is_pinned plan) (is_ranked_below plan) ≡ quietest_place (stage_of plan speakers)
quietest-ranked plan speakers good order =
    ap (quietest_by (is_pinned plan)) (fun_ext λ p. fun_ext λ q.
    below plan.lanes plan.ranks speakers good.high order (lane_in plan p) (lane_in plan q) (good.seated p) (good.seated q))

-- the seats, when one is given away
pub in_place-with_place : {A : Type 0} (f : PerPlace A) (p q : Quad) (x : A) → in_place (with_place f p x) q ≡ (if is_same p q then x else in_place f q)
in_place-with_place f One One x = refl
in_place-with_place f One Two x = refl
in_place-with_place f One Three x = refl
in_place-with_place f One Four x = refl
in_place-with_place f Two One x = refl
in_place-with_place f Two Two x = refl
in_place-with_place f Two Three x = refl
in_place-with_place f Two Four x = refl
in_place-with_place f Three One x = refl
in_place-with_place f Three Two x = refl
in_place-with_place f Three Three x = refl
in_place-with_place f Three Four x = refl
in_place-with_place f Four One x = refl
in_place-with_place f Four Two x = refl
in_place-with_place f Four Three x = refl
in_place-with_place f Four Four x = refl

-- what holds of all values of f, and of x
pub each-with_place : {A : Type 0} (P : A → Type 0) (f : PerPlace A) (p : Quad) (x : A) → ((q : Quad) → P (in_place f q)) → P x → (q : Quad) → P (in_place (with_place f p x) q)
each-with_place P f p x each here q =
    subst P (sym (in_place-with_place f p q x))
    (elim (is_same p q) as (λ v. P (if v then x else in_place f q)) [ true ↦ here | false ↦ each q ])

pub in_place-with_two : {A : Type 0} (f : PerPlace A) (p q r : Quad) →
    in_place (with_place (with_place f p (in_place f q)) q (in_place f p)) r
    ≡ (if is_same q r then in_place f p else if is_same p r then in_place f q else in_place f r)
in_place-with_two f p q r =
    in_place-with_place (with_place f p (in_place f q)) q r (in_place f p)
    ∙ ap (λ x. if is_same q r then in_place f p else x) (in_place-with_place f p r (in_place f q))

pub seated-without : (lanes c : ℕ) (seat : Option ℕ) → IfSome seat (λ d. d < lanes) → IfSome (without c seat) (λ d. d < lanes)
seated-without lanes c seat h =
    elim (is_lane c seat) as (λ v. IfSome (if v then None else seat) (λ d. d < lanes)) [ true ↦ tt | false ↦ h ]

-- a command that is done
pub Obeys-done : (command : Command) (old new : PlanView) → new.lanes ≡ old.lanes →
    ((speakers : List ℕ) → IsInOrder old speakers → answer_at old.lanes (stage_of old speakers) command ≡ Done) →
    ((speakers : List ℕ) → IsInOrder old speakers → HasStage new (carried_out (stage_of old speakers) command)) →
    Obeys command old new Done
Obeys-done command old new lanes done carried = record {
  lanes = lanes;
  answered = λ speakers order. sym (done speakers order);
  carried = λ speakers order.
      subst (λ r. HasStage new (if is_done r then carried_out (stage_of old speakers) command else stage_of old speakers))
      (sym (done speakers order)) (carried speakers order);
  kept = λ e. absurd (false≢true (sym e));
}

-- of two places, either may be looked at first
swapped : (p q r : Quad) (x y z : Option ℕ) → is_same p q ≡ false →
    (if is_same q r then x else if is_same p r then y else z) ≡ (if is_same p r then y else if is_same q r then x else z)
swapped p q r x y z apart =
    elim (is_same q r) as (λ v. is_same q r ≡ v → (if v then x else if is_same p r then y else z) ≡ (if is_same p r then y else if v then x else z)) [
      | true ↦ λ e. elim (is_same p r) as (λ w. is_same p r ≡ w → x ≡ (if w then y else x)) [
        | true ↦ λ f. absurd (false≢true (sym apart ∙ grind (arith, nat_tests)))
        | false ↦ λ f. refl
      ] refl
      | false ↦ λ e. refl
    ] refl

pub Obeys-place : (q : Quad) (c : ℕ) (old : PlanView) (seats : PerPlace (Option ℕ)) →
    c < old.lanes → is_lane c (lane_in old q) ≡ false →
    ((p : Quad) → in_place seats p ≡ (if is_same q p then Some c else without c (lane_in old p))) →
    Obeys (Place q c) old (record old { seats = seats }) Done
Obeys-place q c old seats inside elsewhere moved = Obeys-done (Place q c) old (record old { seats = seats }) refl
    (λ speakers order.
    let known : nat_le old.lanes c ≡ false = grind (arith, nat_tests) in
    rw (known, elsewhere) refl)
    (λ speakers order. record { seats = moved; pins = λ p. refl; order = order })

pub Obeys-swap : (p q : Quad) (old : PlanView) (seats : PerPlace (Option ℕ)) →
    (is_same p q || (is_none (lane_in old p) && is_none (lane_in old q))) ≡ false →
    ((r : Quad) → in_place seats r ≡ (if is_same q r then lane_in old p else if is_same p r then lane_in old q else lane_in old r)) →
    Obeys (Swap p q) old (record old { seats = seats }) Done
Obeys-swap p q old seats able moved = Obeys-done (Swap p q) old (record old { seats = seats }) refl
    (λ speakers order. rw able refl)
    (λ speakers order. record {
      seats = λ r. moved r ∙ swapped p q r _ _ _ (or_parts (is_same p q) _ able).0;
      pins = λ r. refl;
      order = order;
    })

-- a lane that speaks is the newest speaker
order-raised : (old new : PlanView) (c : ℕ) (speakers : List ℕ) → Raises c old.ranks new.ranks → IsInOrder old speakers → IsInOrder new (c ∷ speakers)
order-raised old new c speakers raised order a b ha hb =
    elim (c == a) as (λ v. (c == a) ≡ v → nat_lt (rank_of new a) (rank_of new b) ≡ nat_lt (silence (c ∷ speakers) b) (cond (not v) (1 + silence speakers a) 0)) [
      | true ↦ λ e. let here : c ≡ a = grind (arith, nat_tests) in
          elim (c == b) as (λ w. (c == b) ≡ w → nat_lt (rank_of new a) (rank_of new b) ≡ nat_lt (cond (not w) (1 + silence speakers b) 0) 0) [
            | true ↦ λ f. let there : c ≡ b = grind (arith, nat_tests) in
                subst (λ x. nat_lt (rank_of new a) (rank_of new x) ≡ false) (sym here ∙ there) (grind (arith, nat_tests))
            | false ↦ λ f.
                let above = raised.greatest b hb (λ same. false≢true (sym f ∙ grind (arith, nat_tests))) in
                let above' : rank_of new b < rank_of new a = subst (λ x. rank_of new b < rank_of new x) here above in
                grind (arith, nat_tests)
          ] refl
      | false ↦ λ e.
          elim (c == b) as (λ w. (c == b) ≡ w → nat_lt (rank_of new a) (rank_of new b) ≡ nat_lt (cond (not w) (1 + silence speakers b) 0) (1 + silence speakers a)) [
            | true ↦ λ f. let there : c ≡ b = grind (arith, nat_tests) in
                let above = raised.greatest a ha (λ same. false≢true (sym e ∙ grind (arith, nat_tests))) in
                let above' : rank_of new a < rank_of new b = subst (λ x. rank_of new a < rank_of new x) there above in
                grind (arith, nat_tests)
            | false ↦ λ f.
                raised.others a b ha hb (λ same. false≢true (sym e ∙ grind (arith, nat_tests))) (λ same. false≢true (sym f ∙ grind (arith, nat_tests)))
                ∙ order a b ha hb ∙ grind (arith, nat_tests)
          ] refl
    ] refl

pub Obeys-speaker : (c : ℕ) (old : PlanView) (seats : PerPlace (Option ℕ)) (ranks : List ℕ) → Raises c old.ranks ranks →
    c < old.lanes → (not (is_standing (stage_of old []) c) && list_all (is_pinned old) places) ≡ false →
    ((speakers : List ℕ) → IsInOrder old speakers → (p : Quad) → in_place seats p ≡ (carried_out (stage_of old speakers) (Speaker c)).lane_in p) →
    Obeys (Speaker c) old (record old { seats = seats; ranks = ranks }) Done
Obeys-speaker c old seats ranks raised inside able moved =
    Obeys-done (Speaker c) old (record old { seats = seats; ranks = ranks }) refl
    (λ speakers order.
    let known : nat_le old.lanes c ≡ false = grind (arith, nat_tests) in
    rw (known, able) refl)
    (λ speakers order. record {
      seats = moved speakers order;
      pins = λ p. refl;
      order = order-raised old (record old { seats = seats; ranks = ranks }) c speakers raised order;
    })

-- the seats with one for a speaker: where it stands, where no place is found, and where one is found
pub seats-standing : (plan : PlanView) (speakers : List ℕ) (c : ℕ) (p : Quad) → is_standing (stage_of plan []) c ≡ true →
    lane_in plan p ≡ (carried_out (stage_of plan speakers) (Speaker c)).lane_in p
seats-standing plan speakers c p standing = rw standing refl

pub seats-found : (plan : PlanView) (speakers : List ℕ) (c : ℕ) (found : Option Quad) (p : Quad) → IsPlan plan → IsInOrder plan speakers →
    is_standing (stage_of plan []) c ≡ false →
    found ≡ option_or (vacant_place (stage_of plan [])) (quietest_by (is_pinned plan) (is_ranked_below plan)) →
    (if is_place found p then Some c else lane_in plan p) ≡ (carried_out (stage_of plan speakers) (Speaker c)).lane_in p
seats-found plan speakers c found p good order standing is_found =
    let place : found ≡ place_for_speaker (stage_of plan speakers) =
    is_found ∙ ap (option_or (vacant_place (stage_of plan []))) (quietest-ranked plan speakers good order) in
    rw (standing, sym place) refl

pub is_same_lane-refl : (lane : Option ℕ) → is_same_lane lane lane ≡ true
is_same_lane-refl None = refl
is_same_lane-refl (Some c) = grind (arith, nat_tests)

in_all_is : {A : Type 0} (f : PerPlace A) (x : A) → f.one ≡ x → f.two ≡ x → f.three ≡ x → f.four ≡ x → f ≡ in_all x
in_all_is {A} f x one two three four =
    ap₂ (λ (p q : A × A). (let g : PerPlace A = record { one = p.0; two = p.1; three = q.0; four = q.1 } in g))
    (ap₂ (λ (a b : A). (a, b)) one two) (ap₂ (λ (a b : A). (a, b)) three four)

-- a plan that stands for commands has the stage that they leave
has_of : (plan : PlanView) (commands : List Command) → IsPlanOf plan commands → HasStage plan (stage plan.lanes commands)
has_of plan commands h = record { seats = h.seats; pins = h.pins; order = h.order }

-- the plan after a command
module _ (command : Command) (old mid : PlanView) (reply : Reply) (marks : PerPlace Bool) (obeys : Obeys command old mid reply)
    (marked : (q : Quad) → in_place marks q ≡ not (is_same_lane (lane_in mid q) (lane_in old q))) where
  pub stands_after : (commands : List Command) → IsPlanOf old commands → IsPlanOf (record mid { changes = marks }) (command ∷ commands)
  stands_after commands h =
      let s = stage old.lanes commands in
      let same = stage_is old s (has_of old commands h) in
      let carried : HasStage mid (stage old.lanes (command ∷ commands)) =
      subst (λ t. HasStage mid (ordered old.lanes t command)) (sym same) (obeys.carried s.speakers h.order) in
      let has : HasStage mid (stage mid.lanes (command ∷ commands)) =
      subst (λ n. HasStage mid (stage n (command ∷ commands))) (sym obeys.lanes) carried in
      record {
        seats = has.seats;
        pins = has.pins;
        order = has.order;
        changes = λ q.
            marked q
            ∙ ap₂ (λ (a b : Option ℕ). not (is_same_lane a b)) (has.seats q)
            (h.seats q ∙ ap (λ n. (stage n commands).lane_in q) (sym obeys.lanes));
      }

  pub reply_is : (commands : List Command) → IsPlanOf old commands → reply ≡ answer old.lanes commands command
  reply_is commands h =
      let s = stage old.lanes commands in
      obeys.answered s.speakers h.order
      ∙ ap (λ t. answer_at old.lanes t command) (sym (stage_is old s (has_of old commands h)))

  pub refused_after : is_done reply ≡ false → IsUnmoved old (record mid { changes = marks }) × (marks ≡ in_all false)
  refused_after refused =
      let kept = obeys.kept refused in
      let unchanged = λ (q : Quad).
      marked q
      ∙ ap (λ (f : PerPlace (Option ℕ)). not (is_same_lane (in_place f q) (lane_in old q))) kept.seats
      ∙ ap not (is_same_lane-refl (lane_in old q)) in
      let one : marks.one ≡ false = unchanged One in
      let two : marks.two ≡ false = unchanged Two in
      let three : marks.three ≡ false = unchanged Three in
      let four : marks.four ≡ false = unchanged Four in
      (record { lanes = kept.lanes; seats = kept.seats; pins = kept.pins; ranks = kept.ranks }, in_all_is marks false one two three four)

-- one value in all places is that of each
pub in_place-in_all : {A : Type 0} (x : A) (q : Quad) → in_place (in_all x) q ≡ x
in_place-in_all x One = refl
in_place-in_all x Two = refl
in_place-in_all x Three = refl
in_place-in_all x Four = refl
