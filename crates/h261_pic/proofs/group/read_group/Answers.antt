use Rattle.std.proofs.Common.{◌≡◌, ℕ, ◌<◌, ◌≤◌, Bool, List, ◌∷◌, [], ◌++◌, length, Ok, refl, sym, ◌∙◌, ap, subst, arith, length-append}
use Rattle.std.proofs.lemmas.Result.{err_from_is_err_and}
use Rattle.pel_model.specs.Walk.{Good, Bad, after, Goes, read}
use Rattle.pel_model.specs.Grammar.{Element, Gbsc, Mba, mba_rows, next_within_limit}
use Rattle.pel_model.proofs.Walks.{goes-append, after-append}
use Rattle.h261_mb.specs.State.{IsRead}
use Rattle.h261_pic.specs.declared.coming.Coming.{Coming}
use Rattle.h261_pic.specs.Comes.{Comes}
use Rattle.h261_pic.specs.ReadGroup.{GroupComes}
use Rattle.h261_pic.proofs.GroupReading.{GroupSoFar, at_first, ready-first, header-read, stuffing-read, comes-ends, group-ends, header-fails, at-most, fewer, stuffing-on}
use Rattle.h261_pic.proofs.MacroblockReading.{macroblock-read, macroblock-on}
use Rattle.h261_pic.proofs.group.read_group.Goals as goal

pub returns-in_err-header-clause-read : goal.returns-in_err-header-clause-read
returns-in_err-header-clause-read c =
    let p = err_from_is_err_and c.from_residual.result c.from_residual.ensures.1 in
    rw (p.1, p.2) (λ bits before from comes.
    let format = c.args.format in
    let ends = comes-ends format bits c.args.last c.args.begun c.last_end-end.result before from c.args.r.now comes c.last_end-end.ensures in
    let bad = c.in_err-header.ensures.walk (Gbsc ∷ before) refl comes.last_is ends.0 ends.1 in
    record { elements = Gbsc ∷ bad.elements; end = bad.end; walk = header-fails format bits c.args.last c.args.begun before from c.args.r.now bad.end bad.elements comes bad.walk; bad = bad.bad; place = bad.place })

pub loop-marks-init : goal.loop-marks-init
loop-marks-init c = record {
  ready = ready-first c.in_ok-header.header.quant;
  read = λ bits before from comes.
      let format = c.args.format in
      let header = c.in_ok-header.header in
      let ends = comes-ends format bits c.args.last c.args.begun c.last_end-end.result before from c.args.r.now comes c.last_end-end.ensures in
      let read = c.in_ok-header.ensures.walk (Gbsc ∷ before) refl comes.last_is ends.0 ends.1 in
      subst (λ marks. GroupSoFar format bits c.args.begun before from header.number header.quant (at_first header.quant) marks c.group_header_within.new.r) (sym c.new-marks.ensures)
      (header-read format bits c.args.last c.args.begun before from c.args.r.now c.group_header_within.new.r header.number header.quant read.elements read.wanted.spares comes read.walk read.wanted.elements);
}

pub returns-in_err-coming_within-clause-read : goal.returns-in_err-coming_within-clause-read
returns-in_err-coming_within-clause-read c =
    let p = err_from_is_err_and c.from_residual-in_err-coming_within.result c.from_residual-in_err-coming_within.ensures.1 in
    rw (p.1, p.2) (λ bits before from comes.
    let s = c.loop-marks.invariant.read bits before from comes in
    let bad = c.in_err-coming_within.ensures (after before s.es) s.stands.due s.begun_is s.fits in
    record { elements = s.es; end = c.loop-marks.r; walk = s.walk; bad = bad.bad; place = bad.place })

pub loop-marks-smaller-in-Stuffing : goal.loop-marks-smaller-in-Stuffing
loop-marks-smaller-in-Stuffing c =
    let here = c.requires.here in
    let format = c.args.format in
    let s = c.loop-marks.invariant.read here.0 here.1 here.2 here.3 in
    let there = after here.1 s.es in
    let came = subst (λ (x : Coming). Comes (next_within_limit format there c.loop-marks.r) (Ok x) c.loop-marks.r c.coming_within.new.r) c.in-Stuffing.is (c.in_ok-coming_within.ensures there s.stands.due s.begun_is s.fits) in
    let some = stuffing-on format there c.loop-marks.r came.len came.good s.stands.due in
    let place = ap (λ (x : List Bool × ℕ). x.1) came.behind in
    fewer format there c.loop-marks.r c.coming_within.new.r (_ ∷ []) (came.len, came.good, came.behind) (omega (arith, some, place))

pub loop-marks-preserved-in-Stuffing : goal.loop-marks-preserved-in-Stuffing
loop-marks-preserved-in-Stuffing c = record {
  ready = c.loop-marks.invariant.ready;
  read = λ bits before from comes.
      let format = c.args.format in
      let header = c.in_ok-header.header in
      let s = c.loop-marks.invariant.read bits before from comes in
      let there = after before s.es in
      let came = subst (λ (x : Coming). Comes (next_within_limit format there c.loop-marks.r) (Ok x) c.loop-marks.r c.coming_within.new.r) c.in-Stuffing.is (c.in_ok-coming_within.ensures there s.stands.due s.begun_is s.fits) in
      subst (GroupSoFar format bits c.args.begun before from header.number header.quant c.loop-marks.state c.loop-marks.marks.items) (sym came.behind)
      (stuffing-read format bits c.args.begun before from c.loop-marks.r header.number header.quant c.loop-marks.state c.loop-marks.marks.items came.len s came.good);
}

pub macroblock_within-requires-clause-ready : goal.macroblock_within-requires-clause-ready
macroblock_within-requires-clause-ready c = c.loop-marks.invariant.ready

pub returns-in_err-macroblock_within-in-Macroblock-clause-read : goal.returns-in_err-macroblock_within-in-Macroblock-clause-read
returns-in_err-macroblock_within-in-Macroblock-clause-read c =
    let p = err_from_is_err_and c.from_residual-in_err-macroblock_within-in-Macroblock.result c.from_residual-in_err-macroblock_within-in-Macroblock.ensures.1 in
    rw (p.1, p.2) (λ bits before from comes.
    let format = c.args.format in
    let header = c.in_ok-header.header in
    let s = c.loop-marks.invariant.read bits before from comes in
    let there = after before s.es in
    let came = subst (λ (x : Coming). Comes (next_within_limit format there c.loop-marks.r) (Ok x) c.loop-marks.r c.coming_within.new.r) c.in-Macroblock.is (c.in_ok-coming_within.ensures there s.stands.due s.begun_is s.fits) in
    let ends = group-ends format bits c.args.begun c.last_end-end.result before from header.number header.quant c.loop-marks.state c.loop-marks.marks.items c.loop-marks.r s c.last_end-end.ensures in
    let word = subst (λ (x : List Bool × ℕ). read mba_rows x.0 ≡ Good (Mba came.difference) came.len) (sym came.kept) came.word in
    let place = subst (λ (x : List Bool × ℕ). x.1 ≤ c.last_end-end.result) (sym came.kept) ends.1 in
    let bad = c.in_err-macroblock_within-in-Macroblock.ensures.walk there came.difference came.len s.stands word ends.0 place in
    let goes = subst (λ (x : List Bool × ℕ). Goes (next_within_limit format) there x bad.elements bad.end) came.kept bad.walk in
    record { elements = s.es ++ bad.elements; end = bad.end; walk = goes-append (next_within_limit format) before from c.loop-marks.r bad.end s.es bad.elements s.walk goes; bad = subst (λ (b : List Element). next_within_limit format b bad.end ≡ Bad c.in_err-macroblock_within-in-Macroblock.field-0.0.why) (sym (after-append before s.es bad.elements)) bad.bad; place = bad.place })

-- the group with the macroblock
joins : (c : goal.In_ok-macroblock_within-in-Macroblock) (bits : List Bool) (before : List Element) (from : List Bool × ℕ) → GroupComes c.args.format bits c.args.last c.args.begun before from c.args.r.now → GroupSoFar c.args.format bits c.args.begun before from c.in_ok-header.header.number c.in_ok-header.header.quant c.macroblock_within.new.state (c.loop-marks.marks.items ++ c.in_ok-macroblock_within-in-Macroblock.field-0 ∷ []) c.macroblock_within.new.r × (length c.macroblock_within.new.r.0 < length c.loop-marks.r.0)
joins c bits before from comes =
    let format = c.args.format in
    let header = c.in_ok-header.header in
    let s = c.loop-marks.invariant.read bits before from comes in
    let there = after before s.es in
    let came = subst (λ (x : Coming). Comes (next_within_limit format there c.loop-marks.r) (Ok x) c.loop-marks.r c.coming_within.new.r) c.in-Macroblock.is (c.in_ok-coming_within.ensures there s.stands.due s.begun_is s.fits) in
    let ends = group-ends format bits c.args.begun c.last_end-end.result before from header.number header.quant c.loop-marks.state c.loop-marks.marks.items c.loop-marks.r s c.last_end-end.ensures in
    let word = subst (λ (x : List Bool × ℕ). read mba_rows x.0 ≡ Good (Mba came.difference) came.len) (sym came.kept) came.word in
    let place = subst (λ (x : List Bool × ℕ). x.1 ≤ c.last_end-end.result) (sym came.kept) ends.1 in
    let ok = c.in_ok-macroblock_within-in-Macroblock.ensures.walk there came.difference came.len s.stands word ends.0 place in
    let goes = subst (λ (x : List Bool × ℕ). Goes (next_within_limit format) there x ok.elements c.macroblock_within.new.r) came.kept ok.walk in
    let is = subst (λ (x : List Bool × ℕ). IsRead header.number x.1 there c.macroblock_within.new.state c.in_ok-macroblock_within-in-Macroblock.field-0 ok.elements c.macroblock_within.new.r) came.kept ok.wanted in
    (macroblock-read format bits c.args.begun before from c.loop-marks.r c.macroblock_within.new.r header.number header.quant c.loop-marks.state c.macroblock_within.new.state c.loop-marks.marks.items c.in_ok-macroblock_within-in-Macroblock.field-0 ok.elements s comes.place goes is, fewer format there c.loop-marks.r c.macroblock_within.new.r ok.elements goes (macroblock-on format there c.loop-marks.r c.macroblock_within.new.r header.number c.macroblock_within.new.state c.in_ok-macroblock_within-in-Macroblock.field-0 ok.elements goes is))

pub push-requires : goal.push-requires
push-requires c =
    let here = c.requires.here in
    let marks = c.loop-marks.marks.items in
    let mark = c.in_ok-macroblock_within-in-Macroblock.field-0 in
    let all = joins c here.0 here.1 here.2 here.3 in
    (omega arith, omega (arith, length-append marks (mark ∷ []), at-most c.args.format here.0 c.args.begun here.1 here.2 c.in_ok-header.header.number c.in_ok-header.header.quant c.macroblock_within.new.state (marks ++ mark ∷ []) c.macroblock_within.new.r all.0))

pub loop-marks-smaller : goal.loop-marks-smaller
loop-marks-smaller c =
    let here = c.requires.here in
    (joins c.before here.0 here.1 here.2 here.3).1

pub loop-marks-preserved : goal.loop-marks-preserved
loop-marks-preserved c = record {
  ready = c.macroblock_within.ensures.ready;
  read = λ bits before from comes.
      subst (λ marks. GroupSoFar c.args.format bits c.args.begun before from c.in_ok-header.header.number c.in_ok-header.header.quant c.macroblock_within.new.state marks c.macroblock_within.new.r) (sym c.push.ensures.items) (joins c.before bits before from comes).0;
}

pub returns-in-Group-clause-read : goal.returns-in-Group-clause-read
returns-in-Group-clause-read c = λ bits before from comes.
    let format = c.args.format in
    let s = c.loop-marks.invariant.read bits before from comes in
    let there = after before s.es in
    let came = subst (λ (x : Coming). Comes (next_within_limit format there c.loop-marks.r) (Ok x) c.loop-marks.r c.coming_within.new.r) c.in-Group.is (c.in_ok-coming_within.ensures there s.stands.due s.begun_is s.fits) in
    record {
      macroblocks = s.macroblocks;
      es = s.es;
      end = c.loop-marks.r;
      walk = s.walk;
      so_far = s.so_far;
      begun_is = s.begun_is ∙ sym comes.begun_is;
      bits_are = s.bits_are;
      marks_are = s.marks_are;
      inside = s.inside;
      long = s.long;
      follows = came;
    }

pub returns-in-End-clause-read : goal.returns-in-End-clause-read
returns-in-End-clause-read c = λ bits before from comes.
    let format = c.args.format in
    let s = c.loop-marks.invariant.read bits before from comes in
    let there = after before s.es in
    let came = subst (λ (x : Coming). Comes (next_within_limit format there c.loop-marks.r) (Ok x) c.loop-marks.r c.coming_within.new.r) c.in-End.is (c.in_ok-coming_within.ensures there s.stands.due s.begun_is s.fits) in
    record {
      macroblocks = s.macroblocks;
      es = s.es;
      end = c.loop-marks.r;
      walk = s.walk;
      so_far = s.so_far;
      begun_is = s.begun_is ∙ sym comes.begun_is;
      bits_are = s.bits_are;
      marks_are = s.marks_are;
      inside = s.inside;
      long = s.long;
      follows = came;
    }
