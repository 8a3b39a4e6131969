-- Workers that are lined up, one by one.
use Rattle.std.proofs.Common.{◌≡◌, ◌∙◌, refl, arith, ℕ, ◌+◌, ◌^◌, ◌<◌, ◌≤◌, List, [], ◌∷◌, ◌++◌, length, subst, sym, ap}
use Rattle.std.proofs.lemmas.List.{append_assoc, length_push, length-append}
use Rattle.h261_pic.specs.Coded.{Coding, nothing}
use Rattle.h261_pic.specs.declared.hand.Hand.{Hand}
use Rattle.hall_core.specs.Hall.{HallView, lanes_of}
use Rattle.hall_core.specs.Stands.{StandsFor, IsQcifHand}
use Rattle.hall_lock.specs.Seats.{Lock}
use Rattle.pel_model.specs.declared.Format.TheVariants.{Qcif}
use Rattle.pel_model.specs.declared.Quad.TheVariants.{One, Two, Three, Four}
use Rattle.bridge_live.specs.declared.worker.LaneWorker.{LaneWorker}
use Rattle.bridge_live.specs.declared.worker.Worker.{Worker}
use Rattle.bridge_live.specs.declared.worker.Worker.TheVariants.{Lane, Chair, Mixer}
use Rattle.bridge_live.specs.Lining.{seat_behind, Opens, LaneUp, LanesUp, LinesUp}
use Rattle.bridge_live.specs.Worker.{HallSeat}

module _ {S C K : Type 0} (lock : Lock HallView) where
  -- one lane more
  lanes-push :
      (number : ℕ) (sources : List S) (workers : List (Worker S C K)) (source : S) (worker : LaneWorker S) →
      LanesUp lock number sources workers → LaneUp lock (number + length sources) source worker →
      LanesUp lock number (sources ++ source ∷ []) (workers ++ Lane worker ∷ [])
  lanes-push number [] [] source worker up one = (subst (λ n. LaneUp lock n source worker) (omega arith) one, tt)
  lanes-push number (s ∷ ss) (Lane w ∷ ws) source worker up one =
      (up.0, lanes-push (number + 1) ss ws source worker up.1 (subst (λ n. LaneUp lock n source worker) (omega arith) one))
  lanes-push number [] (w ∷ ws) source worker up one = absurd up
  lanes-push number (s ∷ ss) [] source worker up one = absurd up
  lanes-push number (s ∷ ss) (Chair w ∷ ws) source worker up one = absurd up
  lanes-push number (s ∷ ss) (Mixer w ∷ ws) source worker up one = absurd up

  pub lines-push :
      (lanes left : List S) (workers after : List (Worker S C K)) (seat next : HallSeat) (source : S) (worker : LaneWorker S) →
      LinesUp lock lanes (source ∷ left) workers seat → LaneUp lock (length workers) source worker →
      next ≡ seat_behind lock (length workers + 1) → after ≡ workers ++ Lane worker ∷ [] →
      LinesUp lock lanes left after next
  lines-push lanes left workers after seat next source worker i up seat_is after_is = record {
    done = i.done ++ source ∷ [];
    whole = i.whole ∙ sym (append_assoc i.done (source ∷ []) left);
    up = subst (λ ws. LanesUp lock 0 (i.done ++ source ∷ []) ws) (sym after_is)
        (lanes-push 0 i.done workers source worker i.up (subst (λ (n : ℕ). LaneUp lock n source worker) (i.number ∙ omega arith) up));
    number = ap length after_is ∙ length_push workers (Lane worker) ∙ ap (λ n. n + 1) i.number ∙ sym (length_push i.done source);
    seat_is = seat_is ∙ ap (seat_behind lock) (sym (ap length after_is ∙ length_push workers (Lane worker)));
  }

  pub lines-few : (lanes left : List S) (workers : List (Worker S C K)) (seat : HallSeat) → LinesUp lock lanes left workers seat → length workers ≤ length lanes
  lines-few lanes left workers seat i = omega (arith, i.number, ap length i.whole, length-append i.done left)

  pub lines-below : (lanes left : List S) (source : S) (workers : List (Worker S C K)) (seat : HallSeat) → LinesUp lock lanes (source ∷ left) workers seat
      → length workers < length lanes
  lines-below lanes left source workers seat i = omega (arith, i.number, ap length i.whole, length-append i.done (source ∷ left))

-- ---- what is reserved

pub qcif-hand : (hand : Hand) → hand.one.value ≡ nothing Qcif → hand.two.value ≡ nothing Qcif → hand.three.value ≡ nothing Qcif → hand.four.value ≡ nothing Qcif → IsQcifHand hand
qcif-hand hand one two three four One = ap (λ (b : Coding). b.format) one
qcif-hand hand one two three four Two = ap (λ (b : Coding). b.format) two
qcif-hand hand one two three four Three = ap (λ (b : Coding). b.format) three
qcif-hand hand one two three four Four = ap (λ (b : Coding). b.format) four

pub opens-so :
    (lanes turns : ℕ) (hall : HallView) (lock : Lock HallView) → lanes_of hall ≡ lanes → hall.limit ≡ turns → StandsFor hall []
    → turns ≤ 2 ^ 45 → lock.opening ≡ hall → lock.turns ≡ turns → Opens lanes lock
opens-so lanes turns hall lock lanes_are limit stands few opening turns_are = record {
  lanes_are = ap lanes_of opening ∙ lanes_are;
  limit_is = ap (λ (h : HallView). h.limit) opening ∙ limit ∙ sym turns_are;
  stands = subst (λ h. StandsFor h []) (sym opening) stands;
  few = subst (λ n. n ≤ 2 ^ 45) (sym turns_are) few;
}
