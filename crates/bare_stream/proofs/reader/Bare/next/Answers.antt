-- First octets, then a picture.
use Rattle.std.proofs.Common.{sym, subst, ◌∙◌}
use Rattle.bare_stream.specs.Reading.{BareReading, CallsBare, Gives}
use Rattle.bare_stream.proofs.Readings.{called, goes-on}
use Rattle.bare_stream.proofs.reader.Bare.next.Goals as goal

pub returns : goal.returns
returns g c =
    let before = g.S.Source.tells c.args.source.now in
    let after = g.S.Source.tells c.fill.new.source in
    let old = c.args.self.now in
    let mid = c.fill.new.self in
    let rest = c.give-result.new.self.rest in
    let coded = c.give-result.new.into in
    let result = c.give-result.result in
    let ended = c.is_err-self-inside.result in
    subst (λ (n : BareReading). CallsBare before after old (record n { ended = ended }) coded result) (sym (c.self.view_is ∙ c.give-result.ensures.kept))
    (called before after old mid rest ended coded result c.fill.ensures
    (subst (λ (n : BareReading). Gives result mid n mid.rest coded) c.give-result.ensures.kept c.give-result.ensures.gives)
    c.give-result.ensures.format (goes-on result ended old.ended c.is_err-self-inside.ensures.value c.requires.going))
