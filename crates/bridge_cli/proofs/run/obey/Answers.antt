-- The job that the words ask for, or why none is done.
use Rattle.std.proofs.Common.{◌≡◌, map, refl, rules, string_bytes, subst}
use Rattle.command_words.specs.Asks.{Asks}
use Rattle.bridge_cli.proofs.Running.{replayed, retold, checked, decoded, made_file}
use Rattle.bridge_cli.proofs.run.obey.Goals as goal

pub returns-in-Ok-Replay : goal.returns-in-Ok-Replay
returns-in-Ok-Replay g c =
    replayed (map string_bytes c.args.words.now) c.in-Ok-Replay.options _ _ _ _ c.replay-end.result _ _ _ _
    (subst (Asks (map string_bytes c.args.words.now)) c.in-Ok-Replay.field-0-is c.in-Ok-Replay.ensures.asks)
    c.settings_of-set.ensures refl c.replay-end.ensures.ends c.replay-end.ensures.complete c.replay-end.ensures.read_back c.of_replay.ensures
    c.tally_line.ensures c.told.ensures

pub returns-in-Ok-History : goal.returns-in-Ok-History
returns-in-Ok-History g c =
    retold (map string_bytes c.args.words.now) _ _ _ c.history-end.result _ _ _ _
    (subst (Asks (map string_bytes c.args.words.now)) c.in-Ok-History.field-0-is c.in-Ok-History.ensures.asks) refl
    c.history-end.ensures.ends c.history-end.ensures.complete c.of_replay-in-Ok-History.ensures c.history_line.ensures
    c.told-in-Ok-History.ensures

pub returns-in-Ok-Check : goal.returns-in-Ok-Check
returns-in-Ok-Check g c =
    checked (map string_bytes c.args.words.now) c.in-Ok-Check.options _ _ _ c.check_frames-end.result _ _ _ _
    (subst (Asks (map string_bytes c.args.words.now)) c.in-Ok-Check.field-0-is c.in-Ok-Check.ensures.asks) refl
    c.check_frames-end.ensures c.of_units.ensures c.report_line.ensures c.told-in-Ok-Check.ensures

pub returns-in-Ok-Decode : goal.returns-in-Ok-Decode
returns-in-Ok-Decode g c =
    decoded (map string_bytes c.args.words.now) c.in-Ok-Decode.options _ _ _ c.decode_frames-end.result _ _ _ _
    (subst (Asks (map string_bytes c.args.words.now)) c.in-Ok-Decode.field-0-is c.in-Ok-Decode.ensures.asks) refl
    c.decode_frames-end.ensures c.of_units-in-Ok-Decode.ensures c.planes_line.ensures c.told-in-Ok-Decode.ensures

pub returns-in-Ok-Make : goal.returns-in-Ok-Make
returns-in-Ok-Make g c =
    let same : c.from-seed.result ≡ c.in-Ok-Make.options.seed = search rules in
    made_file (map string_bytes c.args.words.now) c.in-Ok-Make.options c.from-seed.result _ _ _ c.make-end.result _ _ _ _
    (subst (Asks (map string_bytes c.args.words.now)) c.in-Ok-Make.field-0-is c.in-Ok-Make.ensures.asks) same
    c.make-end.ensures c.of_make.ensures c.made_line-line.ensures c.told-in-Ok-Make.ensures
