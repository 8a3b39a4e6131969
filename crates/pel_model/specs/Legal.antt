-- Legal histories: those of a conference that keeps its rules, whoever calls it, and in whatever order.
use Rattle.std.specs.Prelude.{◌≡◌, ⊤, ℕ, ◌<◌, ◌≤◌, false, List, [], ◌∷◌, length}
use Rattle.pel_model.specs.declared.Format.TheVariants.{Qcif}
use Rattle.pel_model.specs.declared.Quad.{Quad}
use Rattle.pel_model.specs.declared.note.TickNote.{TickNote}
use Rattle.pel_model.specs.History.{Step, Post, Gap, Order, Tick, End, History, commands, total_of, has_ended, taken_in}
use Rattle.pel_model.specs.Plan.{answer}
use Rattle.pel_model.specs.Records.{Picture}
use Rattle.pel_model.specs.Takes.{take, waiting}
use Rattle.pel_model.specs.Text.{text}
use Rattle.pel_model.specs.Valid.{IsValid, limit}

-- a valid QCIF picture whose strict text is within the limit
pub record IsPostable (picture : Picture) : Type 0 where
  pub valid : IsValid Qcif picture
  pub short : length (text Qcif picture) ≤ limit Qcif

-- what a tick behind a history tells: in each place it took what the rule of takes chooses, and it waits for the lanes
-- for which the conference waits then
pub record IsNote (lanes : ℕ) (H : History) (note : TickNote) : Type 0 where
  pub low : 1 ≤ note.step
  pub high : note.step ≤ 31
  pub total : note.total ≡ total_of (Tick note ∷ H)
  pub takes : (q : Quad) → taken_in q note ≡ take lanes H q
  pub waits : note.waiting ≡ waiting lanes (Tick note ∷ H)

-- the step may follow the history
abbrev pub IsLegalStep : ℕ → History → Step → Type 0
IsLegalStep lanes H (Post lane picture) = (lane < lanes) × IsPostable picture
IsLegalStep lanes H (Gap lane) = lane < lanes
IsLegalStep lanes H (Order command reply) = reply ≡ answer lanes (commands H) command
IsLegalStep lanes H (Tick note) = IsNote lanes H note
IsLegalStep lanes H End = ⊤

-- each step may follow those before it, and none follows the end
abbrev pub Legal : ℕ → History → Type 0
Legal lanes [] = ⊤
Legal lanes (s ∷ H) = Legal lanes H × (has_ended H ≡ false) × IsLegalStep lanes H s
