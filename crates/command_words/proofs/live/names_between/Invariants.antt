use Rattle.std.proofs.Common.{◌≡◌, ◌++◌, map, length, true}
use denote.Shadow.{shadow}
use denote.Text.{Utf8}
use Rattle.command_words.specs.Names.{between_commas, are_names}
use Rattle.command_words.proofs.live.names_between.Given as goal

abbrev pub invariant-loop-name : goal.invariant-loop-name
invariant-loop-name l =
    (between_commas l.fn.text ≡ map (λ n. n.now) l.names.items ++ between_commas l.rest) × (are_names (map (λ n. n.now) l.names.items) ≡ true)
    × shadow (Utf8 l.rest)

abbrev pub decreases-loop-name : goal.decreases-loop-name
decreases-loop-name l = length l.rest
