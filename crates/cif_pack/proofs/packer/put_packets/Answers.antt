use Rattle.std.proofs.Common.{◌≡◌, ◌+◌, ◌<◌, length, take, drop, get_or, refl, sym, ◌∙◌, ap, subst, arith, vec_capacity}
use Rattle.std.specs.Prelude.{All}
use Rattle.pel_bits.specs.Bits.{bits}
use Rattle.cif_pack.specs.declared.atoms.AtomEnd.{AtomEnd}
use Rattle.cif_pack.specs.Cuts.{is_cut}
use Rattle.cif_pack.specs.Packets.{packet_between}
use Rattle.cif_pack.specs.declared.packer.Settings.{Settings}
use Rattle.io_edge.specs.Outside.{Output}
use Rattle.rtp_wire.specs.Frames.{frame}
use Rattle.cif_pack.proofs.Sends.{Stands, no_end, near-left, left-is, stands-first, stands-on, stands-cut, stands-failed, packet-behind, nothing-appended, stands-same, puts-of-error}
use Rattle.cif_pack.proofs.packer.put_packets.Goals as goal
use Rattle.cif_pack.proofs.packer.put_packets.Goals.{then-is_cut+in_ok-put_all, else-is_cut}

pub loop-i-init : goal.loop-i-init
loop-i-init g c = record {
  stands = subst (λ (e : AtomEnd). Stands c.args.settings.now c.args.stamp c.args.text.now.len (take c.args.text.now.len (bits c.args.text.now.octets.now)) c.args.ends.now 0 e (record { packets = 0; octets = 0 }) (g.K.Sink.tells c.args.sink.now).written (g.K.Sink.tells c.args.sink.now).written)
      (sym c.beginning-start.ensures)
      (stands-first c.args.settings.now c.args.stamp c.args.text.now.len _ c.args.ends.now (g.K.Sink.tells c.args.sink.now).written (nothing-appended (g.K.Sink.tells c.args.sink.now).written) c.requires.rises);
  kept = refl;
  capacity = omega arith;
}

pub is_cut-requires-clause-near : goal.is_cut-requires-clause-near
is_cut-requires-clause-near g c =
    subst (All (λ (e : AtomEnd). e.at < 1152921504606846976)) (sym (left-is c.args.ends.now c.loop-i.i))
    (near-left c.args.settings.now.mtu c.args.text.now.len c.loop-i.start.at c.args.ends.now c.loop-i.i 1152921504606846976 (omega (arith, c.requires.short)) c.loop-i-test.true c.loop-i.invariant.stands.rise)

pub returns-in_err-put_all-clause-packets : goal.returns-in_err-put_all-clause-packets
returns-in_err-put_all-clause-packets g c =
    let s = c.args.settings.now in
    let text = take c.args.text.now.len (bits c.args.text.now.octets.now) in
    let ends = c.args.ends.now in
    let i = c.loop-i.i in
    let start = c.loop-i.start in
    let sent = c.loop-i.sent in
    let e = get_or ends i no_end in
    let old = (g.K.Sink.tells c.args.sink.now).written in
    let now = (g.K.Sink.tells c.put_all.new.sink).written in
    let cut_is : c.is_cut.result ≡ is_cut s.mtu start.at (drop (i + 1) ends) = c.is_cut.ensures ∙ ap (is_cut s.mtu start.at) (left-is ends i) in
    let piece_is : c.as_slice.result.now ≡ frame (packet_between s c.args.stamp sent.packets text start.at e.at start.context) =
    c.as_slice.ensures.value ∙ c.write_frame.ensures.octets
    ∙ ap (λ (t : Settings). frame (packet_between t c.args.stamp 0 text start.at e.at start.context)) c.numbered.ensures
    ∙ ap frame (packet-behind s c.args.stamp sent.packets text start.at e.at start.context) in
    puts-of-error old now _ c.from_residual.result c.from_residual.ensures.0
    (stands-failed s c.args.stamp c.args.text.now.len text ends i start sent old (g.K.Sink.tells c.loop-i.sink).written now c.as_slice.result.now
    c.in_err-put_all.ensures.bytes.0 c.loop-i-test.true (sym cut_is ∙ c.if-is_cut.true) piece_is c.in_err-put_all.ensures.bytes.1 c.in_err-put_all.ensures.bytes.2
    c.loop-i.invariant.stands)

pub loop-i-preserved : goal.loop-i-preserved
loop-i-preserved g c =
    let s = c.args.settings.now in
    let text = take c.args.text.now.len (bits c.args.text.now.octets.now) in
    let ends = c.args.ends.now in
    let i = c.loop-i.i in
    let start = c.loop-i.start in
    let sent = c.loop-i.sent in
    let e = get_or ends i no_end in
    let old = (g.K.Sink.tells c.args.sink.now).written in
    let here = c.loop-i.invariant.stands in
    let cut_is : c.is_cut.result ≡ is_cut s.mtu start.at (drop (i + 1) ends) =
    c.is_cut.ensures ∙ ap (is_cut s.mtu start.at) (left-is ends i) in
    elim c.if-is_cut.branch [
      | then-is_cut+in_ok-put_all w ↦ (
          let piece_is : w.as_slice.result.now ≡ frame (packet_between s c.args.stamp sent.packets text start.at e.at start.context) =
          w.as_slice.ensures.value ∙ w.write_frame.ensures.octets
          ∙ ap (λ (t : Settings). frame (packet_between t c.args.stamp 0 text start.at e.at start.context)) w.numbered.ensures
          ∙ ap frame (packet-behind s c.args.stamp sent.packets text start.at e.at start.context) in
          record {
            stands = stands-same s c.args.stamp c.args.text.now.len text ends (i + 1) e c.if-is_cut.start (record { packets = sent.packets + 1; octets = sent.octets + w.len.result }) c.if-is_cut.sent old
                (g.K.Sink.tells w.put_all.new.sink).written (g.K.Sink.tells c.if-is_cut.sink).written
                w.start-is w.sent-is (ap (λ (o : Output). o.written) (ap g.K.Sink.tells w.sink-is))
                (stands-cut s c.args.stamp c.args.text.now.len text ends i start sent old (g.K.Sink.tells c.loop-i.sink).written (g.K.Sink.tells w.put_all.new.sink).written w.as_slice.result.now w.len.result
                c.loop-i-test.true (sym cut_is ∙ w.if-is_cut.true) piece_is
                (w.len.ensures ∙ sym w.as_slice.ensures.len) (ap length w.as_slice.ensures.value ∙ w.write_frame.ensures.long) w.in_ok-put_all.ensures.bytes
                here);
            kept = ap (λ (o : Output). o.faults) (ap g.K.Sink.tells w.sink-is) ∙ w.in_ok-put_all.ensures.cause.kept ∙ c.loop-i.invariant.kept;
            capacity = omega (arith, ap vec_capacity w.buffer-is, w.write_frame.ensures.kept, c.loop-i.invariant.capacity);
          })
      | else-is_cut w ↦ record {
        stands = stands-same s c.args.stamp c.args.text.now.len text ends (i + 1) start c.if-is_cut.start sent c.if-is_cut.sent old
            (g.K.Sink.tells c.loop-i.sink).written (g.K.Sink.tells c.if-is_cut.sink).written w.start-is w.sent-is (ap (λ (o : Output). o.written) (ap g.K.Sink.tells w.sink-is))
            (stands-on s c.args.stamp c.args.text.now.len text ends i start sent old (g.K.Sink.tells c.loop-i.sink).written
            c.loop-i-test.true (sym cut_is ∙ w.if-is_cut.false) here);
        kept = ap (λ (o : Output). o.faults) (ap g.K.Sink.tells w.sink-is) ∙ c.loop-i.invariant.kept;
        capacity = omega (arith, ap vec_capacity w.buffer-is, c.loop-i.invariant.capacity);
      }
    ]
