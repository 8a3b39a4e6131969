-- The line of an event is all that is to be written of it.
use Rattle.std.proofs.Common.{◌≡◌, ℕ, ◌≤◌, List, [], ◌∷◌, Result, Ok, Err, IfOk, refl, subst, arith}
use Rattle.io_edge.specs.Causes.{HasCause}
use Rattle.io_edge.specs.Outside.{Output}
use Rattle.pel_model.specs.declared.Format.{Format}
use Rattle.pic_report.specs.Report.{event_line, report_duty}
use Rattle.rtp_h261.specs.Events.{Event}
use Rattle.rtp_h261.specs.Tellers.{PutsHere, TellsEvent}

few-of : {E : Type 0} (result : Result ℕ E) → IfOk result (λ octets. octets ≤ 160) → IfOk result (λ octets. octets ≤ 262144)
few-of (Ok octets) short = omega (arith, short)
few-of (Err e) short = tt

pub told-line : {E : Type 0} (result : Result ℕ E) (format : Format) (n : ℕ) (event : Event) (line : List ℕ) (old new : Output) → line ≡ event_line format n event
    → PutsHere (line ∷ []) old.written new.written result → IfOk result (λ octets. octets ≤ 160) → HasCause old.faults new.faults result
    → TellsEvent (report_duty format) (report_duty format) n event old new result
told-line result format n event line old new same puts short cause = record {
  here = event_line format n event ∷ [];
  others = λ events. refl;
  put = subst (λ (l : List ℕ). PutsHere (l ∷ []) old.written new.written result) same puts;
  counts = tt;
  few = few-of result short;
  format = refl;
  cause = cause;
}
