use Rattle.std.proofs.Common.{◌≡◌, drop}
use Rattle.vlc_codes.proofs.WordLaws.{is_prefix_any}
use Rattle.vlc_codes.proofs.lookup.begins_a_code.Given as goal

abbrev pub invariant-loop-bits : goal.invariant-loop-bits
invariant-loop-bits l = is_prefix_any l.front l.len (drop l.bits-index l.codes) ≡ is_prefix_any l.front l.len l.codes
