-- A packet that was not fetched whole.
use Rattle.std.proofs.Common.{rules, ◌≡◌, ◌∙◌, false, Err, length, sym, ap, subst}
use Rattle.io_edge.specs.Allowance.{Fetches}
use Rattle.rtp_wire.specs.Frames.{TakesOne}
use Rattle.rtp_wire.specs.Stops.{end_for}
use Rattle.rtp_wire.proofs.FrameLemmas.{packet_cut}
use Rattle.rtp_wire.proofs.frames.read_frame.Goals as goal

pub returns-in-Err-fetch-clause-frame : goal.returns-in-Err-fetch-clause-frame
returns-in-Err-fetch-clause-frame g c =
    let before = g.S.Source.tells c.args.source.now in
    let between = g.S.Source.tells c.fetch.new.source in
    let after = g.S.Source.tells c.fetch-2.new.source in
    let size = c.packet_length-size in
    let short = c.in-Err-fetch.short in
    let long : length c.fetch-2.new.out ≡ size.result = search rules in
    let fetched = subst (λ r. Fetches r between after c.fetch.new.self c.fetch-2.new.self c.fetch-2.new.out) c.in-Err-fetch.is c.fetch-2.ensures in
    subst (λ e. TakesOne before after c.args.allowance.now c.fetch-2.new.self (Err e))
    (sym (c.frame_end-in-Err-fetch.ensures ∙ ap (end_for short.pause false) c.taken-in-Err-fetch.ensures))
    (packet_cut before between after c.args.allowance.now c.fetch.new.self c.fetch-2.new.self size.result c.fetch.new.out c.fetch-2.new.out short
    size.ensures.fits size.ensures.spelled long c.in_default.ensures.0 c.in_default.ensures.1 fetched)
