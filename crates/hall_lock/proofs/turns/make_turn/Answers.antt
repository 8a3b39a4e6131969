use Rattle.std.proofs.Common.{rules}
use Rattle.hall_lock.proofs.Waiting.{fits_in_box, led_in_box, put_in_box}
use Rattle.hall_lock.proofs.turns.make_turn.Goals as goal

pub take_out-machine-requires : goal.take_out-machine-requires
take_out-machine-requires g c = let has = c.requires.turn.has_box in (has.0, record { at = c.requires.turn.at; holds = has.1 })

pub stepped-machine-requires : goal.stepped-machine-requires
stepped-machine-requires g c =
    fits_in_box g.M.Machine.shape g.M.Machine.fits g.M.Machine.steps g.met.M.Machine.keeps_shape c.args.seat.now.me _ _ c.requires.turn.has_box c.take_out-machine.ensures.held c.requires.call

pub pass_as-requires-clause-turn : goal.pass_as-requires-clause-turn
pass_as-requires-clause-turn g c = record {
  at = search rules;
  turning = search rules;
  fits_word = c.requires.turn.fits_word;
  led =
      put_in_box g.M.Machine.shape g.M.Machine.fits g.M.Machine.steps g.met.M.Machine.keeps_shape c.args.seat.now.me c.take_out-machine.new.seat.me c.put_home.new.seat.me _ _ _ _ _ c.take_out-machine.ensures.empty.1 c.put_home.ensures.1 c.of-asked.ensures
      (led_in_box g.M.Machine.shape g.M.Machine.fits g.M.Machine.steps g.met.M.Machine.keeps_shape c.args.seat.now.me _ _ _ _ c.requires.turn.has_box c.take_out-machine.ensures.held c.requires.call c.stepped-machine.ensures);
}

pub returns : goal.returns
returns g c = record {
  passed = search rules;
  led = (
    c.stepped-machine.result.0.value,
    led_in_box g.M.Machine.shape g.M.Machine.fits g.M.Machine.steps g.met.M.Machine.keeps_shape c.args.seat.now.me _ _ _ _ c.requires.turn.has_box c.take_out-machine.ensures.held c.requires.call c.stepped-machine.ensures,
  );
}
