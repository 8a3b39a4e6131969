-- What a lane posts, call by call.
use Rattle.std.proofs.Common.{◌≡◌, ℕ, ◌+◌, ◌≤◌, Bool, true, false, cond, count_by, List, [], ◌∷◌, ◌++◌, length, Result, Ok, Err, refl, sym, ap, subst, ◌∙◌, arith, append_assoc, append-nil, length-append}
use Rattle.std.proofs.lemmas.List.Sums.{sum_by-append}
use Rattle.std.specs.Global.{Box}
use Rattle.h261_pic.specs.Coded.{Coding}
use Rattle.hall_core.specs.declared.machine.HallCall.TheVariants.{Post as AskPost, Gap as AskGap}
use Rattle.hall_core.specs.declared.machine.HallReply.{HallReply}
use Rattle.hall_core.specs.declared.machine.HallReply.TheVariants.{Spare, Counted, Ordered, Ticked, Finished, Ended}
use Rattle.hall_core.specs.Hall.{HallView, lanes_of}
use Rattle.hall_core.specs.Machine.{Holds, TellsStep}
use Rattle.hall_lock.specs.Seats.{Lock}
use Rattle.pel_model.specs.History.{Step, Post, Gap}
use Rattle.pel_model.specs.Records.{Picture}
use Rattle.rtp_wire.specs.declared.frames.FrameEnd.{FrameEnd}
use Rattle.rtp_wire.specs.declared.frames.FrameEnd.TheVariants.{End}
use Rattle.bridge_live.specs.declared.calls.Halt.{Halt}
use Rattle.bridge_live.specs.declared.lane.Counts.{Counts}
use Rattle.bridge_live.specs.declared.lane.Lane.{Lane}
use Rattle.bridge_live.specs.Lane.{is_post_step, is_gap_step, IsCounted}
use Rattle.bridge_live.specs.declared.ends.LaneStop.{LaneStop}
use Rattle.bridge_live.specs.declared.ends.LaneStop.TheVariants.{Whole}
use Rattle.bridge_live.specs.Posting.{HasPosted, PostsMore, MayPost, Posts, HasSpare, lost_steps, stop_after, stop_at, end_steps, ClosesLane}
use Rattle.bridge_live.specs.Worker.{HallSeat, IsUnderWay, HasHalted, IsAnswer}

-- ---- replies

apart : true ≡ false → ⊥
apart e = cc

pub gap-told : (lane : ℕ) (reply : HallReply) → IsAnswer (AskGap lane) reply → TellsStep (AskGap lane) reply (Gap lane)
gap-told lane Counted a = refl
gap-told lane (Ended back) a = absurd (apart a.0)
gap-told lane (Spare box) a = absurd a.1.1
gap-told lane (Ordered reply) a = absurd a.1.1
gap-told lane (Ticked note hand) a = absurd a.1.1
gap-told lane Finished a = absurd a.1.1

pub post-told : (lane : ℕ) (item : Box Coding) (reply : HallReply) → IsAnswer (AskPost lane item) reply → (picture : Picture) → Holds item.value picture
    → TellsStep (AskPost lane item) reply (Post lane picture)
post-told lane item (Spare box) a picture holds = (picture, holds, refl)
post-told lane item (Ended back) a picture holds = absurd (apart a.0)
post-told lane item Counted a picture holds = absurd a.1.1
post-told lane item (Ordered reply) a picture holds = absurd a.1.1
post-told lane item (Ticked note hand) a picture holds = absurd a.1.1
post-told lane item Finished a picture holds = absurd a.1.1

pub spare-there : (lane : ℕ) (item : Box Coding) (reply : HallReply) → IsAnswer (AskPost lane item) reply → HasSpare reply
spare-there lane item (Spare box) a = a.1.1
spare-there lane item (Ended back) a = absurd (apart a.0)
spare-there lane item Counted a = absurd a.1.1
spare-there lane item (Ordered reply) a = absurd a.1.1
spare-there lane item (Ticked note hand) a = absurd a.1.1
spare-there lane item Finished a = absurd a.1.1

-- ---- counts

count-more : (p : Step → Bool) (steps : List Step) (s : Step) → count_by p (steps ++ s ∷ []) ≡ count_by p steps + cond (p s) 1 0
count-more p steps s = omega (arith, sum_by-append (λ (x : Step). cond (p x) 1 0) steps (s ∷ []))

pub gap-counted : (lane : ℕ) (counts : Counts) (steps : List Step) → IsCounted counts steps → IsCounted (record counts { gaps = counts.gaps + 1 }) (steps ++ Gap lane ∷ [])
gap-counted lane counts steps h = record {
  posts = omega (arith, h.posts, count-more is_post_step steps (Gap lane));
  gaps = omega (arith, h.gaps, count-more is_gap_step steps (Gap lane));
}

pub post-counted : (lane : ℕ) (picture : Picture) (counts : Counts) (steps : List Step) → IsCounted counts steps
    → IsCounted (record counts { posts = counts.posts + 1 }) (steps ++ Post lane picture ∷ [])
post-counted lane picture counts steps h = record {
  posts = omega (arith, h.posts, count-more is_post_step steps (Post lane picture));
  gaps = omega (arith, h.gaps, count-more is_gap_step steps (Post lane picture));
}

-- ---- calls one behind the other

-- none of them was made
pub posts-none : (T : Type 0) (lanes : ℕ) (first : HallSeat) (steps : List Step) (s : Step) (more : List Step) (new : Lane) (back : Halt) → HasPosted lanes first new steps
    → HasHalted back new.seat → PostsMore {T = T} lanes (s ∷ more) first steps new (Err back)
posts-none T lanes first steps s more new back h halted =
    ([], (s, more, refl), subst (λ (xs : List Step). HasPosted lanes first new xs) (sym (append-nil steps)) h, halted)

-- nothing was to be made
pub posts-nothing : {T : Type 0} (lock : Lock HallView) (lane : Lane) (x : T) → MayPost 1 lock lane → Posts lock [] lane lane (Ok x)
posts-nothing lock lane x may = record {
  at_lock = may.at_lock;
  number = refl;
  few = omega arith;
  live = may.live;
  posted = λ first steps h. subst (λ (xs : List Step). HasPosted (lanes_of lock.opening) first lane xs) (sym (append-nil steps)) h;
}

-- the same with another answer
pub posts-ok : {T V : Type 0} (lock : Lock HallView) (more : List Step) (old new : Lane) (x : T) (y : V) → Posts lock more old new (Ok x) → Posts lock more old new (Ok y)
posts-ok lock more old new x y p = record { at_lock = p.at_lock; number = p.number; few = p.few; live = p.live; posted = p.posted }

pub posts-err : {T V : Type 0} (lock : Lock HallView) (more : List Step) (old new : Lane) (back : Halt) → Posts {T = T} lock more old new (Err back)
    → Posts {T = V} lock more old new (Err back)
posts-err lock more old new back p = record { at_lock = p.at_lock; number = p.number; few = p.few; live = tt; posted = p.posted }

-- those that come behind some that were not all made were not made
pub posts-short : {T V : Type 0} (lock : Lock HallView) (more behind : List Step) (old new : Lane) (back : Halt) → Posts {T = T} lock more old new (Err back)
    → Posts {T = V} lock (more ++ behind) old new (Err back)
posts-short lock more behind old new back p = record {
  at_lock = p.at_lock;
  number = p.number;
  few = omega (arith, p.few, length-append more behind);
  live = tt;
  posted = λ first steps has.
      let h = p.posted first steps has in
      (h.0, (h.1.0, h.1.1 ++ behind, ap (λ (xs : List Step). xs ++ behind) h.1.2 ∙ append_assoc h.0 (h.1.0 ∷ h.1.1) behind), h.2, h.3);
}

-- some behind others that were all made
more-then : {T : Type 0} (lanes : ℕ) (first : HallSeat) (steps more behind : List Step) (new : Lane) (r : Result T Halt)
    → PostsMore lanes behind first (steps ++ more) new r → PostsMore lanes (more ++ behind) first steps new r
more-then lanes first steps more behind new (Ok x) h = subst (λ (xs : List Step). HasPosted lanes first new xs) (append_assoc steps more behind) h
more-then lanes first steps more behind new (Err back) h = (
  more ++ h.0,
  (h.1.0, h.1.1, ap (λ (xs : List Step). more ++ xs) h.1.2 ∙ sym (append_assoc more h.0 (h.1.0 ∷ h.1.1))),
  subst (λ (xs : List Step). HasPosted lanes first new xs) (append_assoc steps more h.0) h.2,
  h.3,
)

pub posts-then : {T V : Type 0} (lock : Lock HallView) (more behind : List Step) (old mid new : Lane) (x : T) (r : Result V Halt) → Posts lock more old mid (Ok x)
    → Posts lock behind mid new r → Posts lock (more ++ behind) old new r
posts-then lock more behind old mid new x r p q = record {
  at_lock = q.at_lock;
  number = q.number ∙ p.number;
  few = omega (arith, p.few, q.few, length-append more behind);
  live = q.live;
  posted = λ first steps h. more-then (lanes_of lock.opening) first steps more behind new r (q.posted first (steps ++ more) (p.posted first steps h));
}

-- ---- how many may follow

pub fewer : (lock : Lock HallView) (lane : Lane) → MayPost 2 lock lane → MayPost 1 lock lane
fewer lock lane may = record { at_lock = may.at_lock; few = omega (arith, may.few); live = may.live }

one-loss : (lane : ℕ) (lost : Bool) → length (lost_steps lane lost) ≤ 1
one-loss lane true = omega arith
one-loss lane false = omega arith

pub may-still : (lock : Lock HallView) (number : ℕ) (lost : Bool) (old new : Lane) (x : Unit {0}) → MayPost 2 lock old → Posts lock (lost_steps number lost) old new (Ok x)
    → MayPost 1 lock new
may-still lock number lost old new x may p = record { at_lock = p.at_lock; few = omega (arith, may.few, p.few, one-loss number lost); live = p.live }

-- ---- the end of the source

pub closes-none : (lock : Lock HallView) (lane : Lane) → MayPost 1 lock lane → ClosesLane lock End lane lane Whole
closes-none lock lane may =
    let p = posts-nothing lock lane (tt {0}) may in
    record { at_lock = p.at_lock; number = p.number; last = Ok (tt {0}); live = p.live; stop_is = refl; posted = p.posted }

pub closes-gap : (end : FrameEnd) (lock : Lock HallView) (old new : Lane) (last : Result Unit Halt) (stop : LaneStop) → end_steps old.number end ≡ Gap old.number ∷ []
    → Posts lock (Gap old.number ∷ []) old new last → stop ≡ stop_after (stop_at end) last → ClosesLane lock end old new stop
closes-gap end lock old new last stop gap p is = record {
  at_lock = p.at_lock;
  number = p.number;
  last = last;
  live = p.live;
  stop_is = is;
  posted = λ first steps h. subst (λ (xs : List Step). PostsMore (lanes_of lock.opening) xs first steps new last) (sym gap) (p.posted first steps h);
}
