-- The length of a line was taken, and then the line, whole or in part.
use Rattle.std.proofs.Common.{rules, ◌≡◌, length}
use Rattle.std.proofs.lemmas.Result.{err_from_is_err_and}
use Rattle.conf_file.proofs.EntryLemmas.{line_says, line_fails, line_cut}
use Rattle.conf_file.proofs.entries.read_order.Goals as goal

pub returns-in_err-fetch : goal.returns-in_err-fetch
returns-in_err-fetch g c = λ lanes.
    let p = err_from_is_err_and c.from_residual-in_err-fetch.result c.from_residual-in_err-fetch.ensures.1 in
    let long : length c.fetch.new.out ≡ c.in_ok-size.field-0 = search rules in
    rw (p.1, p.2) (record {
      fits = tt;
      takes = line_cut c.fetch.new.out c.in_ok-size.field-0 lanes _ _ _ _ _ _ _ _ long c.in_ok-size.ensures.0 c.in_ok-size.ensures.1 c.in_err-fetch.ensures;
    })

pub returns-in-Ok : goal.returns-in-Ok
returns-in-Ok g c = λ lanes.
    let long : length c.fetch.new.out ≡ c.in_ok-size.field-0 = search rules in
    record {
      fits = tt;
      takes =
          line_says c.fetch.new.out c.in_ok-size.field-0 lanes _ _ _ _ _ _ _ _ long (search rules) c.in_ok-size.ensures.0 c.in_ok-size.ensures.1
          c.in_ok-fetch.ensures.0 c.in_ok-fetch.ensures.1 c.in-Ok.ensures.command;
    }

pub returns-in-Err : goal.returns-in-Err
returns-in-Err g c = λ lanes.
    let long : length c.fetch.new.out ≡ c.in_ok-size.field-0 = search rules in
    record {
      fits = tt;
      takes =
          line_fails c.fetch.new.out c.in_ok-size.field-0 lanes _ _ _ _ _ _ _ _ long (search rules) c.in_ok-size.ensures.0 c.in_ok-size.ensures.1
          c.in_ok-fetch.ensures.0 c.in_ok-fetch.ensures.1 c.in-Err.ensures.fault;
    }
