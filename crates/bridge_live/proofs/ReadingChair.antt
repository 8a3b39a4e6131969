-- The commands of a chair whose source tells its octets.
use Rattle.std.proofs.Common.{◌≡◌, ℕ, List, [], ◌∷◌, ◌++◌, flat_map, refl, sym, ap, ap₂, subst, ◌∙◌, append_assoc, append-nil}
use Rattle.std.proofs.lemmas.List.{append_cancel_left, same_from_push}
use Rattle.std.specs.List.{AllByRecursion}
use Rattle.std.specs.Io.KnownBytes.{IsAtEnd}
use mathlib.Core.List.{IsPrefix}
use Rattle.hall_lock.proofs.Histories.{prefix_trans, prefix_length, prefix_whole}
use Rattle.io_edge.specs.Outside.{Input}
use Rattle.pel_model.specs.declared.chair.Command.{Command}
use Rattle.pel_model.specs.History.{Step}
use Rattle.bridge_live.specs.declared.ends.ChairStop.{ChairStop}
use Rattle.bridge_live.specs.declared.ends.ChairStop.TheVariants as chair_stop
use Rattle.bridge_live.specs.Chair.{AreOrders, heard_lines, ChairStopsAt, OrdersOf}
use Rattle.bridge_live.specs.Lines.{line_feed, IsLine, AreLines, Heard, Blank, Faulty, Said, AreHeard, said, LawOfOneHearing}
use Rattle.bridge_live.specs.ServeLaws.{OrdersOfAll, LawOfChair}
use Rattle.bridge_live.specs.Worker.{HallSeat}
use Rattle.bridge_live.proofs.Reading.{took-of}

-- ---- the lines of octets of which a front was taken

abbrev ended : List (List ℕ) → List ℕ
ended lines = flat_map (λ line. line ++ line_feed ∷ []) lines

cut-line : (l m xs ys : List ℕ) → IsLine l → IsLine m → l ++ line_feed ∷ xs ≡ m ++ line_feed ∷ ys → (l ≡ m) × (xs ≡ ys)
cut-line [] [] xs ys is-l is-m e = (refl, cc e)
cut-line [] (b ∷ m) xs ys is-l is-m e = absurd (is-m.0 (cc e))
cut-line (a ∷ l) [] xs ys is-l is-m e = absurd (is-l.0 (cc e))
cut-line (a ∷ l) (b ∷ m) xs ys is-l is-m e =
    let heads : a ≡ b = cc e in
    let rest = cut-line l m xs ys is-l.1 is-m.1 (cc e) in
    (ap₂ (λ (x : ℕ) (w : List ℕ). x ∷ w) heads rest.0, rest.1)

no-feed : (l xs rest : List ℕ) → IsLine rest → rest ≡ l ++ line_feed ∷ xs → ⊥
no-feed [] xs [] is e = cc e
no-feed [] xs (b ∷ rest) is e = is.0 (cc e)
no-feed (a ∷ l) xs [] is e = cc e
no-feed (a ∷ l) xs (b ∷ rest) is e = no-feed l xs rest is.1 (cc e)

first-line : (l : List ℕ) (ls : List (List ℕ)) (more : List ℕ) → ended (l ∷ ls) ++ more ≡ l ++ line_feed ∷ (ended ls ++ more)
first-line l ls more = append_assoc (l ++ line_feed ∷ []) (ended ls) more ∙ append_assoc l (line_feed ∷ []) (ended ls ++ more)

lines-begin : (ls ms : List (List ℕ)) (more rest : List ℕ) → AllByRecursion IsLine ls → AllByRecursion IsLine ms → IsLine rest
    → ended ls ++ more ≡ ended ms ++ rest → IsPrefix ls ms
lines-begin [] ms more rest are-l are-m is e = (ms, refl)
lines-begin (l ∷ ls) [] more rest are-l are-m is e =
    absurd (no-feed l (ended ls ++ more) rest is (sym e ∙ first-line l ls more))
lines-begin (l ∷ ls) (m ∷ ms) more rest are-l are-m is e =
    let same = cut-line l m (ended ls ++ more) (ended ms ++ rest) are-l.0 are-m.0 (sym (first-line l ls more) ∙ (e ∙ first-line m ms rest)) in
    let later = lines-begin ls ms more rest are-l.1 are-m.1 is same.1 in
    (later.0, ap₂ (λ (x : List ℕ) (xs : List (List ℕ)). x ∷ xs) same.0 later.1)

-- ---- what was heard

said-append : (a b : List Heard) → said (a ++ b) ≡ said a ++ said b
said-append [] b = refl
said-append (Blank ∷ a) b = said-append a b
said-append (Faulty ∷ a) b = said-append a b
said-append (Said command ∷ a) b = ap (λ (w : List Command). command ∷ w) (said-append a b)

-- what is heard of the first lines comes first
record Begun (lines : List (List ℕ)) (heard : List Heard) : Type 0 where
  front : List Heard
  rest : List Heard
  are : AreHeard lines front
  all : heard ≡ front ++ rest

begun : (lines more : List (List ℕ)) (heard : List Heard) → AreHeard (lines ++ more) heard → Begun lines heard
begun [] more heard are = record { front = []; rest = heard; are = tt; all = refl }
begun (l ∷ ls) more [] are = absurd are
begun (l ∷ ls) more (h ∷ hs) are =
    let b = begun ls more hs are.1 in
    record { front = h ∷ b.front; rest = b.rest; are = (are.0, b.are); all = ap (λ (w : List Heard). h ∷ w) b.all }

-- and what is heard of a line behind them comes then
last-heard : (lines : List (List ℕ)) (rest : List ℕ) (heard : List Heard) → AreHeard (lines ++ rest ∷ []) heard
    → (front : List Heard) × (last : Heard) × AreHeard lines front × (heard ≡ front ++ last ∷ [])
last-heard [] rest [] are = absurd are
last-heard [] rest (h ∷ []) are = ([], h, tt, refl)
last-heard [] rest (h ∷ g ∷ hs) are = absurd are.1
last-heard (l ∷ ls) rest [] are = absurd are
last-heard (l ∷ ls) rest (h ∷ hs) are =
    let b = last-heard ls rest hs are.1 in (h ∷ b.0, b.1, (are.0, b.2), ap (λ (w : List Heard). h ∷ w) b.3)

-- where the last command was given back, the others are those of the first lines
all-but-last : (front : List Command) (last : Heard) (part : List Command) (back : Command) → front ++ said (last ∷ []) ≡ part ++ back ∷ [] → IsPrefix part front
all-but-last front Blank part back e = (back ∷ [], sym e ∙ append-nil front)
all-but-last front Faulty part back e = (back ∷ [], sym e ∙ append-nil front)
all-but-last front (Said command) part back e =
    let same : front ≡ part = (same_from_push front part command back e).0 in ([], append-nil part ∙ sym same)

front-lines : (taken octets : List ℕ) (ls ms : List (List ℕ)) (end rest left : List ℕ) → AreLines taken ls end → AreLines octets ms rest
    → octets ≡ taken ++ left → IsPrefix ls ms
front-lines taken octets ls ms end rest left are-l are-m cut =
    lines-begin ls ms (end ++ left) rest are-l.lines are-m.lines are-m.rest
    (sym (append_assoc (ended ls) end left) ∙ (ap (λ (w : List ℕ). w ++ left) (sym are-l.cut) ∙ (sym cut ∙ are-m.cut)))

module _ (one : LawOfOneHearing) where
  one-heard : (lines : List (List ℕ)) (hs gs : List Heard) → AreHeard lines hs → AreHeard lines gs → hs ≡ gs
  one-heard [] [] [] a b = refl
  one-heard [] [] (g ∷ gs) a b = absurd b
  one-heard [] (h ∷ hs) gs a b = absurd a
  one-heard (l ∷ ls) [] gs a b = absurd a
  one-heard (l ∷ ls) (h ∷ hs) [] a b = absurd b
  one-heard (l ∷ ls) (h ∷ hs) (g ∷ gs) a b = ap₂ (λ (x : Heard) (xs : List Heard). x ∷ xs) (one l h g a.0 b.0) (one-heard ls hs gs a.1 b.1)

  -- the commands of the first lines are the first commands
  said-front : (ls ms : List (List ℕ)) (rest : List ℕ) (hs heard : List Heard) → IsPrefix ls ms → AreHeard ls hs → AreHeard (ms ++ rest ∷ []) heard
      → IsPrefix (said hs) (said heard)
  said-front ls ms rest hs heard p a b =
      let cut : ms ++ rest ∷ [] ≡ ls ++ (p.0 ++ rest ∷ []) =
      ap (λ (w : List (List ℕ)). w ++ rest ∷ []) (sym p.1) ∙ append_assoc ls p.0 (rest ∷ []) in
      let f = begun ls (p.0 ++ rest ∷ []) heard (subst (λ (w : List (List ℕ)). AreHeard w heard) cut b) in
      let same : f.front ≡ hs = one-heard ls f.front hs f.are a in
      (said f.rest, ap (λ (w : List Heard). said w ++ said f.rest) (sym same) ∙ (sym (said-append f.front f.rest) ∙ ap said (sym f.all)))

  back-front : (ls ms : List (List ℕ)) (end rest : List ℕ) (hs heard : List Heard) (part : List Command) (back : Command) → IsPrefix ls ms
      → AreHeard (ls ++ end ∷ []) hs → AreHeard (ms ++ rest ∷ []) heard → said hs ≡ part ++ back ∷ [] → IsPrefix part (said heard)
  back-front ls ms end rest hs heard part back p a b e =
      let l = last-heard ls end hs a in
      let cut : said l.0 ++ said (l.1 ∷ []) ≡ part ++ back ∷ [] = sym (said-append l.0 (l.1 ∷ [])) ∙ (ap said (sym l.3) ∙ e) in
      prefix_trans part (said l.0) (said heard) (all-but-last (said l.0) l.1 part back cut) (said-front ls ms rest l.0 heard p l.2 b)

  -- ---- by the stop

  whole-said : (ls ms : List (List ℕ)) (end rest left octets : List ℕ) (hs heard : List Heard) → AreLines (ended ls ++ end) ls end → AreLines octets ms rest
      → octets ≡ (ended ls ++ end) ++ left → left ≡ [] → AreHeard (ls ++ end ∷ []) hs → AreHeard (ms ++ rest ∷ []) heard → said hs ≡ said heard
  whole-said ls ms end rest left octets hs heard are-l are-m cut none a b =
      let there : ended ls ++ end ≡ ended ms ++ rest =
      sym (append-nil (ended ls ++ end)) ∙ (ap (λ (w : List ℕ). (ended ls ++ end) ++ w) (sym none) ∙ (sym cut ∙ are-m.cut)) in
      let p = lines-begin ls ms end rest are-l.lines are-m.lines are-m.rest there in
      let q = lines-begin ms ls rest end are-m.lines are-l.lines are-l.rest (sym there) in
      let same : ls ≡ ms = prefix_whole ls ms p (prefix_length ms ls q) in
      let tail : end ≡ rest = append_cancel_left (ended ms) end rest (ap (λ (w : List (List ℕ)). ended w ++ end) (sym same) ∙ there) in
      let both : ls ++ end ∷ [] ≡ ms ++ rest ∷ [] = ap₂ (λ (w : List (List ℕ)) (r : List ℕ). w ++ r ∷ []) same tail in
      ap said (one-heard (ms ++ rest ∷ []) hs heard (subst (λ (w : List (List ℕ)). AreHeard w hs) both a) b)

  orders-of-all : (stop : ChairStop) (taken octets : List ℕ) (ls ms : List (List ℕ)) (end rest left : List ℕ) (hs heard : List Heard) (steps : List Step) (seat : HallSeat) (before after : Input)
      → AreLines taken ls end → AreLines octets ms rest → octets ≡ taken ++ left → (IsAtEnd after.left → left ≡ []) → ChairStopsAt stop taken before after
      → AreHeard (heard_lines stop ls end) hs → AreHeard (ms ++ rest ∷ []) heard → OrdersOf stop (said hs) steps seat → OrdersOfAll stop (said heard) steps
  orders-of-all chair_stop.Whole taken octets ls ms end rest left hs heard steps seat before after are-l are-m cut at-end stops a b o =
      let here : AreLines (ended ls ++ end) ls end = subst (λ (w : List ℕ). AreLines w ls end) are-l.cut are-l in
      let split : octets ≡ (ended ls ++ end) ++ left = cut ∙ ap (λ (w : List ℕ). w ++ left) are-l.cut in
      subst (λ (cs : List Command). AreOrders cs steps) (whole-said ls ms end rest left octets hs heard here are-m split (at-end stops.0) a b) o.0
  orders-of-all chair_stop.Fault taken octets ls ms end rest left hs heard steps seat before after are-l are-m cut at-end stops a b o =
      (said hs, said-front ls ms rest hs heard (front-lines taken octets ls ms end rest left are-l are-m cut) a b, o.0)
  orders-of-all chair_stop.Limit taken octets ls ms end rest left hs heard steps seat before after are-l are-m cut at-end stops a b o =
      (said hs, said-front ls ms rest hs heard (front-lines taken octets ls ms end rest left are-l are-m cut) a b, o.0)
  orders-of-all chair_stop.Ended taken octets ls ms end rest left hs heard steps seat before after are-l are-m cut at-end stops a b o =
      (o.0, back-front ls ms end rest hs heard o.0 o.1 (front-lines taken octets ls ms end rest left are-l are-m cut) a b o.2, o.3)
  orders-of-all chair_stop.Over taken octets ls ms end rest left hs heard steps seat before after are-l are-m cut at-end stops a b o =
      (o.0, back-front ls ms end rest hs heard o.0 o.1 (front-lines taken octets ls ms end rest left are-l are-m cut) a b o.2, o.3)

  pub chair-law : LawOfChair
  chair-law lanes history before end octets lines rest heard s told are-lines are-heard =
      let run = s.runs in
      let took = took-of octets run.octets before.left end.source.left told run.bytes in
      subst (λ (xs : List Step). OrdersOfAll end.stop (said heard) xs) s.steps_are
      (orders-of-all end.stop run.octets octets run.lines lines run.rest rest took.left run.heard heard run.steps end.seat before end.source run.are_lines are-lines
      took.cut took.at_end run.stops run.are_heard are-heard run.makes)
