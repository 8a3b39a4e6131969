-- The first that is farther, or behind all.
use Rattle.std.proofs.Common.{rules, tests, ◌≡◌, Option, Some, None, cond, nat_lt, length, sym, ◌∙◌}
use Rattle.std.specs.List.{position_or_len}
use Rattle.std.proofs.lemmas.Iterator.{YieldsList-from_slice}
use Rattle.std.proofs.lemmas.Iterator.Search.{position_from_yields_List}
use Rattle.rtp_h261.specs.Ordered.{is_farther}
use Rattle.rtp_h261.proofs.QueueLemmas.{place-some, place-none}
use Rattle.rtp_h261.proofs.window.place_for.Goals as goal

pub returns-in-Some : goal.returns-in-Some
returns-in-Some c =
    let found : c.position.result ≡ cond (nat_lt (position_or_len (is_farther c.args.expected c.args.number) c.args.waiting.now) (length c.args.waiting.now)) (Some (position_or_len (is_farther c.args.expected c.args.number) c.args.waiting.now)) None =
    position_from_yields_List (is_farther c.args.expected c.args.number) _ _ c.position.result c.position.ensures.ran
    (YieldsList-from_slice c.args.waiting.now c.iter.ensures.rest) (λ x b q k. search (rules, tests)) in
    place-some (is_farther c.args.expected c.args.number) c.args.waiting.now c.in-Some.place (sym c.in-Some.is ∙ found)

pub returns-in-None : goal.returns-in-None
returns-in-None c =
    let found : c.position.result ≡ cond (nat_lt (position_or_len (is_farther c.args.expected c.args.number) c.args.waiting.now) (length c.args.waiting.now)) (Some (position_or_len (is_farther c.args.expected c.args.number) c.args.waiting.now)) None =
    position_from_yields_List (is_farther c.args.expected c.args.number) _ _ c.position.result c.position.ensures.ran
    (YieldsList-from_slice c.args.waiting.now c.iter.ensures.rest) (λ x b q k. search (rules, tests)) in
    place-none (is_farther c.args.expected c.args.number) c.args.waiting.now (sym c.in-None.is ∙ found)
