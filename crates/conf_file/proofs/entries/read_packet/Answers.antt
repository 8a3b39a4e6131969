-- The lane and the length of a packet were taken, and then the packet, whole or in part.
use Rattle.std.proofs.Common.{rules, ◌≡◌, ◌++◌, ◌∙◌, length, take, drop, ap, sym}
use Rattle.std.proofs.Math.Seq.{take-append_seam}
use Rattle.std.proofs.lemmas.Result.{err_from_is_err_and}
use Rattle.conf_file.proofs.EntryLemmas.{packet_whole, packet_cut}
use Rattle.conf_file.proofs.entries.read_packet.Goals as goal

pub returns-in_err-fetch : goal.returns-in_err-fetch
returns-in_err-fetch g c =
    let p = err_from_is_err_and c.from_residual-in_err-fetch.result c.from_residual-in_err-fetch.ensures.1 in
    let long : length c.fetch.new.out ≡ c.in_ok-lane.size = search rules in
    rw (p.1, p.2) (record {
      fits = tt;
      takes =
          packet_cut c.fetch.new.out c.in_ok-lane.lane c.in_ok-lane.size c.args.lanes _ _ _ _ _ _ _ _ long
          c.in_ok-lane.ensures.2 c.in_ok-lane.ensures.1 c.in_ok-lane.ensures.0 c.in_ok-lane.ensures.3 c.in_err-fetch.ensures;
    })

pub returns : goal.returns
returns g c =
    let long : length c.fetch.new.out ≡ c.in_ok-lane.size = search rules in
    let front = ap (λ n. take n (c.fetch.new.out ++ drop c.in_ok-lane.size c.args.packet.now)) (sym long) ∙ take-append_seam c.fetch.new.out _ in
    record {
      fits = search rules;
      takes =
          rw front (packet_whole c.fetch.new.out c.in_ok-lane.lane c.in_ok-lane.size c.args.lanes _ _ _ _ _ _ _ long
          c.in_ok-lane.ensures.2 c.in_ok-lane.ensures.1 c.in_ok-lane.ensures.0 c.in_ok-lane.ensures.3 c.in_ok-fetch.ensures.0 c.in_ok-fetch.ensures.1);
    }
