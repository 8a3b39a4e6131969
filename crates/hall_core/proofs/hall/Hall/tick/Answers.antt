use Rattle.std.proofs.Common.{rules, ◌≡◌, ℕ, ◌+◌, ◌∷◌, sym, ap, subst, ◌∙◌, arith}
use Rattle.pel_model.specs.declared.Quad.TheVariants.{One, Two, Three, Four}
use Rattle.pel_model.specs.declared.note.TickNote.{TickNote}
use Rattle.pel_model.specs.History.{Tick}
use Rattle.pel_model.specs.Takes.{choice, waiting}
use Rattle.hall_core.specs.Fields.{hall_view}
use Rattle.hall_core.specs.Hall.{HallView}
use Rattle.hall_core.specs.Stands.{StandsFor}
use Rattle.hall_core.specs.Taking.{behind_take, told_in, next_in, left_in, waiting_in}
use Rattle.hall_core.proofs.Stepping.{goes-on}
use Rattle.hall_core.proofs.Ticking.{IsTold, ticked, left-same, next-one, next-two, next-three, next-four, tick-stands, takes-told}
use Rattle.hall_core.proofs.Waiting.{waiting-same}
use Rattle.hall_core.proofs.hall.Hall.tick.Goals as goal

pub take-taken_one-requires : goal.take-taken_one-requires
take-taken_one-requires c = c.requires.hand One

pub take-taken_two-requires : goal.take-taken_two-requires
take-taken_two-requires c = c.requires.hand Two

pub take-taken_three-requires : goal.take-taken_three-requires
take-taken_three-requires c = c.requires.hand Three

pub take-taken_four-requires : goal.take-taken_four-requires
take-taken_four-requires c = c.requires.hand Four

-- the hall behind the step
abbrev stepped : HallView → ℕ → HallView
stepped v k = record v { steps = v.steps + 1; total = v.total + k }

pub returns-clause-made : goal.returns-clause-made
returns-clause-made c = record {
  ended = search rules;
  kept = search rules;
  same = search rules;
  stands = λ H stands.
      let one = c.take-taken_one.ensures.hall in
      let two = c.take-taken_two.ensures.hall ∙ ap (λ h. behind_take h Two) one in
      let three = c.take-taken_three.ensures.hall ∙ ap (λ h. behind_take h Three) two in
      let four = c.take-taken_four.ensures.hall ∙ ap (λ h. behind_take h Four) three in
      let note : TickNote = record {
        step = c.args.step;
        total = c.self.inside.total + c.from.result;
        taken_one = c.take-taken_one.result;
        taken_two = c.take-taken_two.result;
        taken_three = c.take-taken_three.result;
        taken_four = c.take-taken_four.result;
        waiting = c.waiting-waiting.result;
      } in
      subst (λ (v : HallView). StandsFor (stepped v c.from.result) (Tick note ∷ H)) (sym (c.self.view_is ∙ four))
      (tick-stands c.args.self.now H stands c.from.result note (record {
        is_step = sym c.from.ensures;
        one = c.take-taken_one.ensures.told;
        two = c.take-taken_two.ensures.told ∙ ap (λ h. told_in h Two) one;
        three = c.take-taken_three.ensures.told ∙ ap (λ h. told_in h Three) two;
        four = c.take-taken_four.ensures.told ∙ ap (λ h. told_in h Four) three;
      }));
  legal = λ H stands legal.
      let one = c.take-taken_one.ensures.hall in
      let two = c.take-taken_two.ensures.hall ∙ ap (λ h. behind_take h Two) one in
      let three = c.take-taken_three.ensures.hall ∙ ap (λ h. behind_take h Three) two in
      let four = c.take-taken_four.ensures.hall ∙ ap (λ h. behind_take h Four) three in
      let inside = c.self.view_is ∙ four in
      let note : TickNote = record {
        step = c.args.step;
        total = c.self.inside.total + c.from.result;
        taken_one = c.take-taken_one.result;
        taken_two = c.take-taken_two.result;
        taken_three = c.take-taken_three.result;
        taken_four = c.take-taken_four.result;
        waiting = c.waiting-waiting.result;
      } in
      let told : IsTold c.args.self.now H stands c.from.result note = record {
        is_step = sym c.from.ensures;
        one = c.take-taken_one.ensures.told;
        two = c.take-taken_two.ensures.told ∙ ap (λ h. told_in h Two) one;
        three = c.take-taken_three.ensures.told ∙ ap (λ h. told_in h Three) two;
        four = c.take-taken_four.ensures.told ∙ ap (λ h. told_in h Four) three;
      } in
      let ticks = tick-stands c.args.self.now H stands c.from.result note told in
      let total : c.self.inside.total ≡ c.args.self.now.total = ap (λ (v : HallView). v.total) inside in
      let waits : waiting_in (stepped (hall_view c.self.inside) c.from.result) ≡ waiting c.args.self.now.plan.lanes (Tick note ∷ H) =
      subst (λ (v : HallView). waiting_in (stepped v c.from.result) ≡ waiting c.args.self.now.plan.lanes (Tick note ∷ H)) (sym inside)
      (waiting-same (ticked c.args.self.now H stands c.from.result) (Tick note ∷ H) ticks) in (
        legal,
        sym stands.ended ∙ goes-on c.args.self.now (sym c.is_over.ensures ∙ c.if-is_over.false),
        record {
          low = c.requires.step.0;
          high = c.requires.step.1;
          total = omega (arith, total, stands.total, c.from.ensures);
          takes = takes-told c.args.self.now H stands c.from.result note told;
          waits = c.waiting-waiting.ensures ∙ waits;
        },
      );
}

pub returns-clause-taken : goal.returns-clause-taken
returns-clause-taken c H stands One =
    let n = c.args.self.now.plan.lanes in
    c.take-taken_one.ensures.slot
    ∙ ap (λ x. left_in x c.args.hand.now.one.value) (next-one c.args.self.now H stands)
    ∙ left-same (choice n H One) c.args.hand.now.one.value
returns-clause-taken c H stands Two =
    let n = c.args.self.now.plan.lanes in
    c.take-taken_two.ensures.slot
    ∙ ap (λ h. left_in (next_in h Two) c.args.hand.now.two.value) c.take-taken_one.ensures.hall
    ∙ ap (λ x. left_in x c.args.hand.now.two.value) (next-two c.args.self.now H stands)
    ∙ left-same (choice n H Two) c.args.hand.now.two.value
returns-clause-taken c H stands Three =
    let n = c.args.self.now.plan.lanes in
    let two = c.take-taken_two.ensures.hall ∙ ap (λ h. behind_take h Two) c.take-taken_one.ensures.hall in
    c.take-taken_three.ensures.slot
    ∙ ap (λ h. left_in (next_in h Three) c.args.hand.now.three.value) two
    ∙ ap (λ x. left_in x c.args.hand.now.three.value) (next-three c.args.self.now H stands)
    ∙ left-same (choice n H Three) c.args.hand.now.three.value
returns-clause-taken c H stands Four =
    let n = c.args.self.now.plan.lanes in
    let two = c.take-taken_two.ensures.hall ∙ ap (λ h. behind_take h Two) c.take-taken_one.ensures.hall in
    let three = c.take-taken_three.ensures.hall ∙ ap (λ h. behind_take h Three) two in
    c.take-taken_four.ensures.slot
    ∙ ap (λ h. left_in (next_in h Four) c.args.hand.now.four.value) three
    ∙ ap (λ x. left_in x c.args.hand.now.four.value) (next-four c.args.self.now H stands)
    ∙ left-same (choice n H Four) c.args.hand.now.four.value
