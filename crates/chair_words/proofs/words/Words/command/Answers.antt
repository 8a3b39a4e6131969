use Rattle.std.proofs.Common.{[], ◌∷◌, ap, ◌∙◌, length, refl}
use Rattle.pel_model.specs.declared.Quad.TheVariants.{One}
use Rattle.pel_model.specs.declared.chair.Command.TheVariants.{Place, Clear, Swap, Speaker, Pin, Unpin}
use Rattle.chair_words.specs.Words.{word_from}
use Rattle.chair_words.specs.Line.{a_place, a_lane}
use Rattle.chair_words.specs.Reading.{text_of}
use Rattle.chair_words.proofs.LineLemmas.{first_wanting, second_wanting, one_taken, two_taken}
use Rattle.chair_words.proofs.words.Words.command.Goals as goal

pub returns-in_err-place-in-Place : goal.returns-in_err-place-in-Place
returns-in_err-place-in-Place c = record {
  line = c.place.ensures.line;
  read =
      first_wanting _ _ (word_from c.args.name.start c.args.name.text.now) _ _ _ (Place One 0) a_place (a_lane ∷ [])
      c.from_residual.ensures.1 (c.in-Some.ensures ∙ ap text_of c.in-Place.is) refl
      c.in_err-place-in-Place.ensures.read;
}

pub returns-in_err-place-in-Clear : goal.returns-in_err-place-in-Clear
returns-in_err-place-in-Clear c = record {
  line = c.place-in-Clear.ensures.line;
  read =
      first_wanting _ _ (word_from c.args.name.start c.args.name.text.now) _ _ _ (Clear One) a_place []
      c.from_residual-in_err-place-in-Clear.ensures.1 (c.in-Some.ensures ∙ ap text_of c.in-Clear.is) refl
      c.in_err-place-in-Clear.ensures.read;
}

pub returns-in_err-place-in-Swap : goal.returns-in_err-place-in-Swap
returns-in_err-place-in-Swap c = record {
  line = c.place-in-Swap.ensures.line;
  read =
      first_wanting _ _ (word_from c.args.name.start c.args.name.text.now) _ _ _ (Swap One One) a_place (a_place ∷ [])
      c.from_residual-in_err-place-in-Swap.ensures.1 (c.in-Some.ensures ∙ ap text_of c.in-Swap.is) refl
      c.in_err-place-in-Swap.ensures.read;
}

pub returns-in_err-lane-in-Speaker : goal.returns-in_err-lane-in-Speaker
returns-in_err-lane-in-Speaker c = record {
  line = c.lane-in-Speaker.ensures.line;
  read =
      first_wanting _ _ (word_from c.args.name.start c.args.name.text.now) _ _ _ (Speaker 0) a_lane []
      c.from_residual-in_err-lane-in-Speaker.ensures.1 (c.in-Some.ensures ∙ ap text_of c.in-Speaker.is) refl
      c.in_err-lane-in-Speaker.ensures.read;
}

pub returns-in_err-place-in-Pin : goal.returns-in_err-place-in-Pin
returns-in_err-place-in-Pin c = record {
  line = c.place-in-Pin.ensures.line;
  read =
      first_wanting _ _ (word_from c.args.name.start c.args.name.text.now) _ _ _ (Pin One) a_place []
      c.from_residual-in_err-place-in-Pin.ensures.1 (c.in-Some.ensures ∙ ap text_of c.in-Pin.is) refl
      c.in_err-place-in-Pin.ensures.read;
}

pub returns-in_err-place-in-Unpin : goal.returns-in_err-place-in-Unpin
returns-in_err-place-in-Unpin c = record {
  line = c.place-in-Unpin.ensures.line;
  read =
      first_wanting _ _ (word_from c.args.name.start c.args.name.text.now) _ _ _ (Unpin One) a_place []
      c.from_residual-in_err-place-in-Unpin.ensures.1 (c.in-Some.ensures ∙ ap text_of c.in-Unpin.is) refl
      c.in_err-place-in-Unpin.ensures.read;
}

pub returns-in_err-lane-in-Place : goal.returns-in_err-lane-in-Place
returns-in_err-lane-in-Place c = record {
  line = c.lane.ensures.line ∙ c.place.ensures.line;
  read =
      second_wanting _ _ (word_from c.args.name.start c.args.name.text.now) _ _ _ _ _ (Place One 0) a_place a_lane [] _
      c.from_residual-in_err-lane-in-Place.ensures.1 (c.in-Some.ensures ∙ ap text_of c.in-Place.is) refl
      c.in_ok-place-in-Place.ensures.read (ap length c.place.ensures.line) c.in_err-lane-in-Place.ensures.read;
}

pub returns-in_err-place-in-Swap-2 : goal.returns-in_err-place-in-Swap-2
returns-in_err-place-in-Swap-2 c = record {
  line = c.place-in-Swap-2.ensures.line ∙ c.place-in-Swap.ensures.line;
  read =
      second_wanting _ _ (word_from c.args.name.start c.args.name.text.now) _ _ _ _ _ (Swap One One) a_place a_place [] _
      c.from_residual-in_err-place-in-Swap-2.ensures.1 (c.in-Some.ensures ∙ ap text_of c.in-Swap.is) refl
      c.in_ok-place-in-Swap.ensures.read (ap length c.place-in-Swap.ensures.line) c.in_err-place-in-Swap-2.ensures.read;
}

pub returns-in_ok-place-in-Clear : goal.returns-in_ok-place-in-Clear
returns-in_ok-place-in-Clear c = record {
  line = c.place-in-Clear.ensures.line;
  read =
      one_taken _ _ _ _ a_place _ (c.in-Some.ensures ∙ ap text_of c.in-Clear.is) refl refl c.in_ok-place-in-Clear.ensures.read;
}

pub returns-in_ok-lane-in-Speaker : goal.returns-in_ok-lane-in-Speaker
returns-in_ok-lane-in-Speaker c = record {
  line = c.lane-in-Speaker.ensures.line;
  read =
      one_taken _ _ _ _ a_lane _ (c.in-Some.ensures ∙ ap text_of c.in-Speaker.is) refl refl c.in_ok-lane-in-Speaker.ensures.read;
}

pub returns-in_ok-place-in-Pin : goal.returns-in_ok-place-in-Pin
returns-in_ok-place-in-Pin c = record {
  line = c.place-in-Pin.ensures.line;
  read =
      one_taken _ _ _ _ a_place _ (c.in-Some.ensures ∙ ap text_of c.in-Pin.is) refl refl c.in_ok-place-in-Pin.ensures.read;
}

pub returns-in_ok-place-in-Unpin : goal.returns-in_ok-place-in-Unpin
returns-in_ok-place-in-Unpin c = record {
  line = c.place-in-Unpin.ensures.line;
  read =
      one_taken _ _ _ _ a_place _ (c.in-Some.ensures ∙ ap text_of c.in-Unpin.is) refl refl c.in_ok-place-in-Unpin.ensures.read;
}

pub returns-in_ok-lane-in-Place : goal.returns-in_ok-lane-in-Place
returns-in_ok-lane-in-Place c = record {
  line = c.lane.ensures.line ∙ c.place.ensures.line;
  read =
      two_taken _ _ _ _ _ a_place a_lane _ _ (c.in-Some.ensures ∙ ap text_of c.in-Place.is) refl refl
      c.in_ok-place-in-Place.ensures.read c.in_ok-lane-in-Place.ensures.read;
}

pub returns-in_ok-place-in-Swap-2 : goal.returns-in_ok-place-in-Swap-2
returns-in_ok-place-in-Swap-2 c = record {
  line = c.place-in-Swap-2.ensures.line ∙ c.place-in-Swap.ensures.line;
  read =
      two_taken _ _ _ _ _ a_place a_place _ _ (c.in-Some.ensures ∙ ap text_of c.in-Swap.is) refl refl
      c.in_ok-place-in-Swap.ensures.read c.in_ok-place-in-Swap-2.ensures.read;
}
