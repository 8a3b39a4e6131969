-- A line one octet longer.
use Rattle.std.proofs.Common.{◌≡◌, ◌≢◌, ℕ, ◌+◌, ◌<◌, ◌≤◌, List, [], ◌∷◌, ◌++◌, length, take, Ok, Err, refl, sym, ap, subst, ◌∙◌, arith, take_all, length-take, length-append}
use Rattle.std.proofs.lemmas.List.{take-append-le}
use Rattle.std.proofs.KnownBytes.{Consumes-nil, Consumes-trans}
use Rattle.std.specs.Io.KnownBytes.{Consumes}
use Rattle.io_edge.specs.Allowance.{AllowanceState, TakesOctets, TakesOctet}
use Rattle.io_edge.specs.declared.allowance.Pause.{Pause}
use Rattle.io_edge.specs.Causes.{Went}
use Rattle.io_edge.specs.Outside.{Input}
use Rattle.io_edge.proofs.AllowanceLemmas.{paused-before}
use Rattle.bridge_live.specs.LineTaking.{TakesLine}
use Rattle.bridge_live.specs.Lines.{line_feed, IsLine}

pub line-more : (text : List ℕ) (b : ℕ) → IsLine text → b ≢ line_feed → IsLine (text ++ b ∷ [])
line-more [] b is other = (other, tt)
line-more (x ∷ text) b is other = (is.0, line-more text b is.1 other)

short : (text : List ℕ) → length (take 256 text) < 256 → length text < 256
short text less = let long = length-take 256 text in omega (arith, long, less)

-- one octet more is kept
pub kept-more : (text kept : List ℕ) (b : ℕ) → kept ≡ take 256 text → length kept < 256 → kept ++ b ∷ [] ≡ take 256 (text ++ b ∷ [])
kept-more text kept b is less =
    let few : length text < 256 = short text (omega (arith, ap length is, less)) in
    let longer : length (text ++ b ∷ []) ≤ 256 = omega (arith, few, length-append text (b ∷ [])) in
    ap (λ (xs : List ℕ). xs ++ b ∷ []) (is ∙ take_all 256 text (omega (arith, few))) ∙ sym (take_all 256 (text ++ b ∷ []) longer)

-- no octet more is kept
pub kept-full : (text kept : List ℕ) (b : ℕ) → kept ≡ take 256 text → length kept ≡ 256 → kept ≡ take 256 (text ++ b ∷ [])
kept-full text kept b is full =
    let many : 256 ≤ length text = omega (arith, length-take 256 text, ap length is, full) in
    is ∙ sym (take-append-le 256 text (b ∷ []) many)

-- ---- octet by octet

-- what was taken of a line so far, in which no line ends
pub record TookSoFar (before now : Input) (first allowance : AllowanceState) (kept_items : List ℕ) : Type 0 where
  pub line : List ℕ
  pub is_line : IsLine line
  pub bytes : Consumes before.left now.left line
  pub taken : allowance.taken ≡ first.taken + length line
  pub budget : allowance.budget ≡ first.budget
  pub kept : kept_items ≡ take 256 line
  pub faults : now.faults ≡ before.faults

pub nothing-taken : (before : Input) (first : AllowanceState) (items : List ℕ) → items ≡ [] → TookSoFar before before first first items
nothing-taken before first items none = record {
  line = [];
  is_line = tt;
  bytes = Consumes-nil before.left;
  taken = omega arith;
  budget = refl;
  kept = none;
  faults = refl;
}

-- more of it was taken
took-on : (before mid now : Input) (first a b : AllowanceState) (items more : List ℕ) → (i : TookSoFar before mid first a items) → TakesOctets mid now a b more
    → TakesOctets before now first b (i.line ++ more)
took-on before mid now first a b items more i t = record {
  bytes = Consumes-trans before.left mid.left now.left i.line more i.bytes t.bytes;
  taken = omega (arith, i.taken, t.taken, length-append i.line more);
  budget = t.budget ∙ i.budget;
  within = t.within;
  went = subst (λ (n : ℕ). Went n now.faults) i.faults t.went;
}

pub took-more : (before mid now : Input) (first a b : AllowanceState) (items next : List ℕ) (octet : ℕ) → (i : TookSoFar before mid first a items)
    → TakesOctet (Ok octet) mid now a b → octet ≢ line_feed → next ≡ take 256 (i.line ++ octet ∷ []) → TookSoFar before now first b next
took-more before mid now first a b items next octet i t other kept =
    let on = took-on before mid now first a b items (octet ∷ []) i t.0 in
    record {
      line = i.line ++ octet ∷ [];
      is_line = line-more i.line octet i.is_line other;
      bytes = on.bytes;
      taken = on.taken;
      budget = on.budget;
      kept = kept;
      faults = t.1 ∙ i.faults;
    }

pub took-line : (before mid now : Input) (first a b : AllowanceState) (items : List ℕ) (octet : ℕ) → TookSoFar before mid first a items
    → TakesOctet (Ok octet) mid now a b → octet ≡ line_feed → TakesLine before now first b items (Ok (tt {0}))
took-line before mid now first a b items octet i t end = record {
  line = i.line;
  is_line = i.is_line;
  takes = took-on before mid now first a b items (line_feed ∷ []) i (subst (λ (n : ℕ). TakesOctets mid now a b (n ∷ [])) end t.0);
  kept_is = i.kept;
  stops = t.1 ∙ i.faults;
}

pub took-rest : (before mid now : Input) (first a b : AllowanceState) (items : List ℕ) (pause : Pause) → TookSoFar before mid first a items
    → TakesOctet (Err pause) mid now a b → TakesLine before now first b items (Err pause)
took-rest before mid now first a b items pause i t = record {
  line = i.line;
  is_line = i.is_line;
  takes = took-on before mid now first a b items [] i t.0;
  kept_is = i.kept;
  stops = paused-before pause before mid now b i.faults t.1;
}
