use Rattle.std.proofs.Common.{◌≡◌, map, drop, string_bytes}
use Rattle.std.specs.List.{find}
use Rattle.command_words.specs.Options.{begins_with}
use Rattle.command_words.proofs.given.find_word.Given as goal

abbrev pub invariant-loop-word : goal.invariant-loop-word
invariant-loop-word l =
    find (begins_with l.start) (map string_bytes l.words) ≡ find (begins_with l.start) (map string_bytes (drop l.word-index l.words))
