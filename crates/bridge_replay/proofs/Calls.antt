-- What a call of a reader says of all octets that were taken so far.
use Rattle.std.proofs.Common.{◌≡◌, ℕ, List, [], ◌++◌, Option, Some, Result, Ok, Err, refl, sym, ap, ◌∙◌, append-nil, append_assoc}
use Rattle.std.specs.List.{concat}
use Rattle.conf_file.specs.declared.answers.EntryEnd.{EntryEnd}
use Rattle.conf_file.specs.declared.answers.EntryEnd.TheVariants.{Bad, Cut, Fault, Limit}
use Rattle.conf_file.specs.declared.answers.EntryWhy.{EntryWhy}
use Rattle.conf_file.specs.declared.answers.EntryWhy.TheVariants.{Header, Kind, Lane, Step, Order}
use Rattle.conf_file.specs.Entries.{Content}
use Rattle.conf_file.specs.File.{HasRead, AfterNext, LawOfReading}
use Rattle.conf_file.specs.Header.{header_of}
use Rattle.conf_file.specs.Reading.{ReaderState, MayFailBehind, AnswersEntry, ReadsEntry}
use Rattle.io_edge.specs.Allowance.{AllowanceState}
use Rattle.io_edge.specs.Outside.{Input}

-- a source with the same count of faults that tells these octets
abbrev telling : List ℕ → Input → Input
telling left source = record source { left = Some left }

-- the source is at its end where it has only what was taken
alone-answer : (lanes : ℕ) (r : Result Content EntryEnd) (took octets : List ℕ) (first : ℕ) (before after : Input) (new : AllowanceState)
    → AnswersEntry lanes r took first before after new → AnswersEntry lanes r took first (telling octets before) (telling [] after) new
alone-answer lanes (Ok content) took octets first before after new a = a
alone-answer lanes (Err (Bad place why)) took octets first before after new a = (a.0, a.1, behind why a.2)
  where
    behind : (why : EntryWhy) → MayFailBehind why before after → MayFailBehind why (telling octets before) (telling [] after)
    behind Header m = m
    behind Kind m = m
    behind Lane m = m
    behind Step m = m
    behind (Order fault) m = m
alone-answer lanes (Err (Cut place)) took octets first before after new a = (a.0, (a.1.0, (refl, a.1.1.1, a.1.1.2)))
alone-answer lanes (Err Limit) took octets first before after new a = a
alone-answer lanes (Err Fault) took octets first before after new a = a

-- a call answers as it would where the source had only what it took
taken-alone : (lanes : ℕ) (before after : Input) (old new : ReaderState) (r : Result Content EntryEnd)
    (e : ReadsEntry lanes before after old new r) → ReadsEntry lanes (telling e.takes.took before) (telling [] after) old new r
taken-alone lanes before after old new r e = record {
  takes = record {
    took = e.takes.took;
    takes = record {
      bytes = sym (append-nil e.takes.took);
      taken = e.takes.takes.taken;
      budget = e.takes.takes.budget;
      within = e.takes.takes.within;
      went = e.takes.takes.went;
    };
    answer = alone-answer lanes r e.takes.took e.takes.took old.allowance.taken before after new.allowance e.takes.answer;
  };
  lanes_left = e.lanes_left;
}

-- of a longer file the same was read
read-further : (octets more : List ℕ) (lanes : ℕ) (list : List Content) (taken : ℕ) → HasRead octets lanes list taken [] → HasRead (octets ++ more) lanes list taken more
read-further octets more lanes list taken h = record {
  octets = h.octets ++ more;
  header = ap (λ (xs : List ℕ). xs ++ more) h.header ∙ append_assoc (header_of lanes) h.octets more;
  lanes_fit = h.lanes_fit;
  begins = record {
    entries = h.begins.entries;
    cut = ap (λ (xs : List ℕ). xs ++ more) h.begins.cut ∙ append_assoc (concat h.begins.entries) [] more;
    spelled = h.begins.spelled;
    counted = h.begins.counted;
  };
  going_on = h.going_on;
}

-- what a call says of the octets taken so far and those that it took
pub says : LawOfReading → (octets : List ℕ) (lanes : ℕ) (list : List Content) (before after : Input) (old new : ReaderState)
    (r : Result Content EntryEnd) → HasRead octets lanes list old.allowance.taken []
    → (e : ReadsEntry lanes before after old new r) → AfterNext (octets ++ e.takes.took) lanes list (Some []) new.allowance r
says law octets lanes list before after old new r read e =
    law.goes_on (octets ++ e.takes.took) lanes list e.takes.took (telling e.takes.took before) (telling [] after) old new r refl
    (read-further octets e.takes.took lanes list old.allowance.taken read) (taken-alone lanes before after old new r e)
