-- A read consumes the octets that it puts into the buffer, and gives none only at the end.
use Rattle.std.proofs.Common.{rules, ◌≡◌, ◌-◌, min, length, take, drop, sym, ap, ◌∙◌, arith}
use Rattle.io_edge.proofs.ReadLemmas.{read_and_left, nothing_left}
use Rattle.io_edge.proofs.memory.MemSourceSource.read.Goals as goal

pub returns-clause-read : goal.returns-clause-read
returns-clause-read c =
    let bytes = c.self.inside.bytes.items in
    let n = c.min-count.result in
    let copied : c.copy_from_slice.new.self ≡ take n (drop c.self.inside.at bytes) = search rules in
    let long : length c.copy_from_slice.new.self ≡ n = search rules in
    let count : n ≡ min (min (length c.args.buf.now) c.self.inside.piece) (length bytes - c.self.inside.at) = search rules in
    record {
      bound = search rules;
      bytes = (
        sym (ap (λ s. s.left) c.self.view_is) ∙ read_and_left bytes c.copy_from_slice.new.self _ c.self.inside.at n long copied,
        λ none some. nothing_left bytes c.self.inside.at n (length c.args.buf.now) c.self.inside.piece c.requires (omega arith) count none,
      );
      cause = search rules;
    }
