-- What the workers counted is what is counted of the history.
use Rattle.std.proofs.Common.{◌≡◌, ℕ, ◌+◌, ◌<◌, ◌≤◌, ◌==◌, nat_le, Bool, true, false, not, cond, List, [], ◌∷◌, length, reverse, filter, sum_by, count_by, refl, sym, ap, ◌∙◌, arith, length-append, append-nil}
use Rattle.std.proofs.lemmas.Bool.Decides.{nat_tests}
use Rattle.std.proofs.lemmas.List.Sums.{sum_by_push, sum_by-append, sum_by-cons}
use Rattle.cif_pack.specs.Tallies.{steps_counted, one_if, takes_in}
use Rattle.io_edge.specs.Outside.{Input}
use Rattle.pel_model.specs.History.{Step, Post, Gap, Order, Tick, End, History}
use Rattle.pel_model.specs.Legal.{Legal}
use Rattle.pel_model.specs.Plan.{is_done}
use Rattle.bridge_live.specs.Chair.{is_refused_step}
use Rattle.bridge_live.specs.Endings.{LaneEnding}
use Rattle.bridge_live.specs.Lane.{is_post_step, is_gap_step}
use Rattle.bridge_live.specs.Mixer.{MadeTick}
use Rattle.bridge_live.specs.Serve.{is_of_lane, lane_steps, is_order, chair_steps, LanesServe}
use Rattle.bridge_live.proofs.Placing.{ticks_in, picked-more}

pub ticks-counted : (H : History) → length (ticks_in H) ≡ (steps_counted H).ticks
ticks-counted [] = refl
ticks-counted (Tick note ∷ H) = omega (arith, ticks-counted H, length-append (ticks_in H) (record { before = H; note = note } ∷ []))
ticks-counted (Post lane picture ∷ H) = ticks-counted H
ticks-counted (Gap lane ∷ H) = ticks-counted H
ticks-counted (Order command reply ∷ H) = ticks-counted H
ticks-counted (End ∷ H) = ticks-counted H

pub taken-counted : (H : History) → sum_by (λ (t : MadeTick). takes_in t.note) (ticks_in H) ≡ (steps_counted H).taken
taken-counted [] = refl
taken-counted (Tick note ∷ H) =
    omega (arith, taken-counted H, sum_by_push (λ (t : MadeTick). takes_in t.note) (ticks_in H) (record { before = H; note = note }))
taken-counted (Post lane picture ∷ H) = taken-counted H
taken-counted (Gap lane ∷ H) = taken-counted H
taken-counted (Order command reply ∷ H) = taken-counted H
taken-counted (End ∷ H) = taken-counted H

-- what is counted of the picked steps, with one step more
more-counted : (test pick : Step → Bool) (s : Step) (H : History)
    → count_by test (filter pick (reverse (s ∷ H))) ≡ count_by test (filter pick (reverse H)) + count_by test (filter pick (s ∷ []))
more-counted test pick s H =
    ap (count_by test) (picked-more pick s H) ∙ sum_by-append (λ x. cond (test x) 1 0) (filter pick (reverse H)) (filter pick (s ∷ []))

pub commands-counted : (H : History) → length (chair_steps H) ≡ (steps_counted H).commands
commands-counted [] = refl
commands-counted (Order command reply ∷ H) =
    omega (
      arith,
      commands-counted H,
      ap (λ (w : List Step). length w) (picked-more is_order (Order command reply) H),
      length-append (chair_steps H) (Order command reply ∷ []),
    )
commands-counted (Post lane picture ∷ H) = ap (λ (w : List Step). length w) (picked-more is_order (Post lane picture) H ∙ append-nil (chair_steps H)) ∙ commands-counted H
commands-counted (Gap lane ∷ H) = ap (λ (w : List Step). length w) (picked-more is_order (Gap lane) H ∙ append-nil (chair_steps H)) ∙ commands-counted H
commands-counted (Tick note ∷ H) = ap (λ (w : List Step). length w) (picked-more is_order (Tick note) H ∙ append-nil (chair_steps H)) ∙ commands-counted H
commands-counted (End ∷ H) = ap (λ (w : List Step). length w) (picked-more is_order End H ∙ append-nil (chair_steps H)) ∙ commands-counted H

one-refused : (b : Bool) → 0 + cond b 1 0 ≡ one_if b
one-refused true = refl
one-refused false = refl

pub refused-counted : (H : History) → count_by is_refused_step (chair_steps H) ≡ (steps_counted H).refused
refused-counted [] = refl
refused-counted (Order command reply ∷ H) =
    omega (arith, refused-counted H, more-counted is_refused_step is_order (Order command reply) H, one-refused (not (is_done reply)))
refused-counted (Post lane picture ∷ H) = omega (arith, refused-counted H, more-counted is_refused_step is_order (Post lane picture) H)
refused-counted (Gap lane ∷ H) = omega (arith, refused-counted H, more-counted is_refused_step is_order (Gap lane) H)
refused-counted (Tick note ∷ H) = omega (arith, refused-counted H, more-counted is_refused_step is_order (Tick note) H)
refused-counted (End ∷ H) = omega (arith, refused-counted H, more-counted is_refused_step is_order End H)

-- ---- the posts and the gaps of all lanes

-- those of the lanes from this one on, in a history
abbrev posts_from : ℕ → History → ℕ
posts_from c [] = 0
posts_from c (Post lane picture ∷ H) = posts_from c H + one_if (nat_le c lane)
posts_from c (_ ∷ H) = posts_from c H

abbrev gaps_from : ℕ → History → ℕ
gaps_from c [] = 0
gaps_from c (Gap lane ∷ H) = gaps_from c H + one_if (nat_le c lane)
gaps_from c (_ ∷ H) = gaps_from c H

-- the lane is this one, or one behind it
one-lane : (c lane : ℕ) → one_if (nat_le c lane) ≡ one_if (lane == c) + one_if (nat_le (c + 1) lane)
one-lane c lane =
    elim (lane == c) as (λ b. (lane == c) ≡ b → one_if (nat_le c lane) ≡ one_if b + one_if (nat_le (c + 1) lane)) [
      | true ↦ λ yes.
          let at : nat_le c lane ≡ true = grind (arith, nat_tests) in
          let past : nat_le (c + 1) lane ≡ false = grind (arith, nat_tests) in
          rw (at, past) refl
      | false ↦ λ no.
          elim (nat_le (c + 1) lane) as (λ d. nat_le (c + 1) lane ≡ d → one_if (nat_le c lane) ≡ 0 + one_if d) [
            | true ↦ λ further.
                let at : nat_le c lane ≡ true = grind (arith, nat_tests) in rw at refl
            | false ↦ λ none.
                let at : nat_le c lane ≡ false = grind (arith, nat_tests) in rw at refl
          ] refl
    ] refl

counted-if : (test : Step → Bool) (s : Step) (b : Bool) → test s ≡ true → count_by test (cond b (s ∷ []) []) ≡ one_if b
counted-if test s true passes = ap (λ (v : Bool). 0 + cond v 1 0) passes
counted-if test s false passes = refl

not-counted-if : (test : Step → Bool) (s : Step) (b : Bool) → test s ≡ false → count_by test (cond b (s ∷ []) []) ≡ 0
not-counted-if test s true fails = ap (λ (v : Bool). 0 + cond v 1 0) fails
not-counted-if test s false fails = refl

posts-of-lane : (c : ℕ) (H : History) → posts_from c H ≡ count_by is_post_step (lane_steps c H) + posts_from (c + 1) H
posts-of-lane c [] = refl
posts-of-lane c (Post lane picture ∷ H) =
    omega (
      arith,
      posts-of-lane c H,
      one-lane c lane,
      more-counted is_post_step (is_of_lane c) (Post lane picture) H,
      counted-if is_post_step (Post lane picture) (lane == c) refl,
    )
posts-of-lane c (Gap lane ∷ H) =
    omega (arith, posts-of-lane c H, more-counted is_post_step (is_of_lane c) (Gap lane) H, not-counted-if is_post_step (Gap lane) (lane == c) refl)
posts-of-lane c (Order command reply ∷ H) = omega (arith, posts-of-lane c H, more-counted is_post_step (is_of_lane c) (Order command reply) H)
posts-of-lane c (Tick note ∷ H) = omega (arith, posts-of-lane c H, more-counted is_post_step (is_of_lane c) (Tick note) H)
posts-of-lane c (End ∷ H) = omega (arith, posts-of-lane c H, more-counted is_post_step (is_of_lane c) End H)

gaps-of-lane : (c : ℕ) (H : History) → gaps_from c H ≡ count_by is_gap_step (lane_steps c H) + gaps_from (c + 1) H
gaps-of-lane c [] = refl
gaps-of-lane c (Gap lane ∷ H) =
    omega (
      arith,
      gaps-of-lane c H,
      one-lane c lane,
      more-counted is_gap_step (is_of_lane c) (Gap lane) H,
      counted-if is_gap_step (Gap lane) (lane == c) refl,
    )
gaps-of-lane c (Post lane picture ∷ H) =
    omega (arith, gaps-of-lane c H, more-counted is_gap_step (is_of_lane c) (Post lane picture) H, not-counted-if is_gap_step (Post lane picture) (lane == c) refl)
gaps-of-lane c (Order command reply ∷ H) = omega (arith, gaps-of-lane c H, more-counted is_gap_step (is_of_lane c) (Order command reply) H)
gaps-of-lane c (Tick note ∷ H) = omega (arith, gaps-of-lane c H, more-counted is_gap_step (is_of_lane c) (Tick note) H)
gaps-of-lane c (End ∷ H) = omega (arith, gaps-of-lane c H, more-counted is_gap_step (is_of_lane c) End H)

past-it : (lanes lane : ℕ) → lane < lanes → one_if (nat_le lanes lane) ≡ 0
past-it lanes lane below = let past : nat_le lanes lane ≡ false = grind (arith, nat_tests) in rw past refl

no-more-posts : (lanes : ℕ) (H : History) → Legal lanes H → posts_from lanes H ≡ 0
no-more-posts lanes [] legal = refl
no-more-posts lanes (Post lane picture ∷ H) legal = omega (arith, no-more-posts lanes H legal.0, past-it lanes lane legal.2.0)
no-more-posts lanes (Gap lane ∷ H) legal = no-more-posts lanes H legal.0
no-more-posts lanes (Order command reply ∷ H) legal = no-more-posts lanes H legal.0
no-more-posts lanes (Tick note ∷ H) legal = no-more-posts lanes H legal.0
no-more-posts lanes (End ∷ H) legal = no-more-posts lanes H legal.0

no-more-gaps : (lanes : ℕ) (H : History) → Legal lanes H → gaps_from lanes H ≡ 0
no-more-gaps lanes [] legal = refl
no-more-gaps lanes (Gap lane ∷ H) legal = omega (arith, no-more-gaps lanes H legal.0, past-it lanes lane legal.2)
no-more-gaps lanes (Post lane picture ∷ H) legal = no-more-gaps lanes H legal.0
no-more-gaps lanes (Order command reply ∷ H) legal = no-more-gaps lanes H legal.0
no-more-gaps lanes (Tick note ∷ H) legal = no-more-gaps lanes H legal.0
no-more-gaps lanes (End ∷ H) legal = no-more-gaps lanes H legal.0

at-least-none : (lane : ℕ) → one_if (nat_le 0 lane) ≡ 1
at-least-none lane = let all : nat_le 0 lane ≡ true = grind (arith, nat_tests) in rw all refl

posts-counted : (H : History) → posts_from 0 H ≡ (steps_counted H).pictures
posts-counted [] = refl
posts-counted (Post lane picture ∷ H) = omega (arith, posts-counted H, at-least-none lane)
posts-counted (Gap lane ∷ H) = posts-counted H
posts-counted (Order command reply ∷ H) = posts-counted H
posts-counted (Tick note ∷ H) = posts-counted H
posts-counted (End ∷ H) = posts-counted H

gaps-counted : (H : History) → gaps_from 0 H ≡ (steps_counted H).gaps
gaps-counted [] = refl
gaps-counted (Gap lane ∷ H) = omega (arith, gaps-counted H, at-least-none lane)
gaps-counted (Post lane picture ∷ H) = gaps-counted H
gaps-counted (Order command reply ∷ H) = gaps-counted H
gaps-counted (Tick note ∷ H) = gaps-counted H
gaps-counted (End ∷ H) = gaps-counted H

-- the sums of the lanes' counts are those
sum-of-posts : (lanes lane : ℕ) (H : History) (befores : List Input) (ends : List LaneEnding) → Legal lanes H → LanesServe lanes lane H befores ends
    → lane + length befores ≡ lanes → sum_by (λ (e : LaneEnding). e.counts.posts) ends ≡ posts_from lane H
sum-of-posts lanes lane H [] [] legal serve all =
    let at : lane ≡ lanes = omega (arith, all) in sym (ap (λ (c : ℕ). posts_from c H) at ∙ no-more-posts lanes H legal)
sum-of-posts lanes lane H [] (e ∷ es) legal serve all = absurd serve
sum-of-posts lanes lane H (b ∷ bs) [] legal serve all = absurd serve
sum-of-posts lanes lane H (b ∷ bs) (e ∷ es) legal serve all =
    omega (
      arith,
      sum_by-cons (λ (x : LaneEnding). x.counts.posts) e es,
      serve.0.runs.counted.posts,
      ap (count_by is_post_step) serve.0.steps_are,
      sum-of-posts lanes (lane + 1) H bs es legal serve.1 (omega (arith, all)),
      posts-of-lane lane H,
    )

sum-of-gaps : (lanes lane : ℕ) (H : History) (befores : List Input) (ends : List LaneEnding) → Legal lanes H → LanesServe lanes lane H befores ends
    → lane + length befores ≡ lanes → sum_by (λ (e : LaneEnding). e.counts.gaps) ends ≡ gaps_from lane H
sum-of-gaps lanes lane H [] [] legal serve all =
    let at : lane ≡ lanes = omega (arith, all) in sym (ap (λ (c : ℕ). gaps_from c H) at ∙ no-more-gaps lanes H legal)
sum-of-gaps lanes lane H [] (e ∷ es) legal serve all = absurd serve
sum-of-gaps lanes lane H (b ∷ bs) [] legal serve all = absurd serve
sum-of-gaps lanes lane H (b ∷ bs) (e ∷ es) legal serve all =
    omega (
      arith,
      sum_by-cons (λ (x : LaneEnding). x.counts.gaps) e es,
      serve.0.runs.counted.gaps,
      ap (count_by is_gap_step) serve.0.steps_are,
      sum-of-gaps lanes (lane + 1) H bs es legal serve.1 (omega (arith, all)),
      gaps-of-lane lane H,
    )

pub pictures-together : (H : History) (befores : List Input) (ends : List LaneEnding) → Legal (length befores) H
    → LanesServe (length befores) 0 H befores ends → sum_by (λ (e : LaneEnding). e.counts.posts) ends ≡ (steps_counted H).pictures
pictures-together H befores ends legal serve = sum-of-posts (length befores) 0 H befores ends legal serve (omega arith) ∙ posts-counted H

pub gaps-together : (H : History) (befores : List Input) (ends : List LaneEnding) → Legal (length befores) H
    → LanesServe (length befores) 0 H befores ends → sum_by (λ (e : LaneEnding). e.counts.gaps) ends ≡ (steps_counted H).gaps
gaps-together H befores ends legal serve = sum-of-gaps (length befores) 0 H befores ends legal serve (omega arith) ∙ gaps-counted H

-- each of them is a step
pub few-counted-steps : (H : History) → (steps_counted H).pictures + (steps_counted H).gaps + (steps_counted H).commands + (steps_counted H).ticks ≤ length H
few-counted-steps [] = omega arith
few-counted-steps (Post lane picture ∷ H) = omega (arith, few-counted-steps H)
few-counted-steps (Gap lane ∷ H) = omega (arith, few-counted-steps H)
few-counted-steps (Order command reply ∷ H) = omega (arith, few-counted-steps H)
few-counted-steps (Tick note ∷ H) = omega (arith, few-counted-steps H)
few-counted-steps (End ∷ H) = omega (arith, few-counted-steps H)
